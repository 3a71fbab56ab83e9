use Rattle.std.proofs.Common.{◌≡◌, ◌≤◌, ℕ, List, true, drop, length}
use Rattle.std.specs.List.{list_any}
use Rattle.std.specs.Str.{bytes_eq}
use Rattle.dav_elements.specs.Names.{are_distinct}
use Rattle.dav_elements.specs.Opening.{same_key}
use Rattle.dav_elements.proofs.distinct.are_keys_distinct.Given as goal

-- the attributes from here on are distinct, and the set has their names
abbrev pub invariant-raws : goal.invariant-raws
invariant-raws l = record {
  within : l.left ≤ length l.raws;
  distinct : are_distinct same_key (drop l.left l.raws) ≡ true;
  seen : (text : List ℕ) → list_any (λ k. bytes_eq text k.now) l.seen.keys ≡ list_any (λ raw. bytes_eq text raw.key) (drop l.left l.raws);
}

abbrev pub decreases-raws : goal.decreases-raws
decreases-raws l = l.left
