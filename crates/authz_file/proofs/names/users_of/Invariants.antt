use Rattle.std.proofs.Common.{◌≡◌, take, []}
use Rattle.std.specs.Prelude.{flat_map}
use Rattle.authz_file.specs.Groups.{users_at}
use Rattle.authz_file.specs.Searching.{texts, with_names}
use Rattle.authz_file.proofs.names.users_of.Given as goal

abbrev pub invariant-places : goal.invariant-places
invariant-places l = texts (λ k. k.items) l.names ≡ with_names [] (flat_map (users_at l.book) (take l.place-index l.places))
