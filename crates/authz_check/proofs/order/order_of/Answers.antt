use Rattle.std.proofs.Common.{◌≡◌, ◌++◌, take, drop, length, subst, sym, ◌∙◌}
use Rattle.std.specs.List.{Contains}
use Rattle.std.proofs.lemmas.List.Sorted.{Contains-permutation, length_permutation}
use Rattle.authz_check.specs.Order.{IsRising}
use Rattle.authz_check.proofs.Ordered.{take-front}
use Rattle.authz_check.proofs.order.order_of.Goals as goal

pub returns : goal.returns
returns c =
    let sorted = c.sort_places.new.places in
    let size = length_permutation _ _ c.sort_places.ensures.moved in
    let same : take c.in_ok-places.places.len (sorted ++ drop (length sorted) c.in_ok-places.places.items) ≡ sorted =
    take-front sorted (drop (length sorted) c.in_ok-places.places.items) c.in_ok-places.places.len (sym (size ∙ c.as_mut_slice.ensures.len)) in
    record {
      each = λ i rule at speaks. subst (λ xs. Contains xs i) (sym same)
          (Contains-permutation _ _ i c.sort_places.ensures.moved (subst (λ xs. Contains xs i) (sym c.as_mut_slice.ensures.value) (c.in_ok-places.ensures i rule at speaks)));
      rising = subst (IsRising c.args.rules.now) (sym same) c.sort_places.ensures.rising;
    }
