use Rattle.std.proofs.Common.{◌≡◌, ◌≤◌, ◌&&◌, ℕ, List, true, drop, length}
use Rattle.std.specs.List.{list_any}
use Rattle.std.specs.Str.{bytes_eq}
use Rattle.dav_elements.specs.Names.{are_distinct}
use Rattle.dav_elements.specs.Opening.{same_attr}
use Rattle.dav_elements.proofs.distinct.are_names_distinct.Given as goal

-- the attributes from here on are distinct, and the set has their names
abbrev pub invariant-attrs : goal.invariant-attrs
invariant-attrs l = record {
  within : l.left ≤ length l.attrs;
  distinct : are_distinct same_attr (drop l.left l.attrs) ≡ true;
  seen : (space name : List ℕ) → list_any (λ k. bytes_eq space k.0.now && bytes_eq name k.1.now) l.seen.keys ≡ list_any (λ attr. bytes_eq space attr.name.space && bytes_eq name attr.name.name) (drop l.left l.attrs);
}

abbrev pub decreases-attrs : goal.decreases-attrs
decreases-attrs l = l.left
