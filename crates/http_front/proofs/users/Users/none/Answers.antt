use Rattle.std.proofs.Common.{refl, sym, subst, arith}
use Rattle.std.specs.List.{IsDistinct}
use Rattle.std.specs.Str.{bytes_eq}
use Rattle.http_front.specs.UsersFile.{names}
use Rattle.http_front.proofs.users.Users.none.Goals as goal

pub invariant_of-result : goal.invariant_of-result
unfolding IsDistinct
invariant_of-result c = record {
  places = λ name. rw (c.new-2.ensures.empty, c.new.ensures.items) refl;
  distinct = subst (λ users. IsDistinct bytes_eq (names users)) (sym c.new.ensures.items) tt;
  named = rw c.new.ensures.items refl;
  few = rw c.new.ensures.items (omega arith);
}
