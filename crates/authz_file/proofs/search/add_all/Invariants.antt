use Rattle.std.proofs.Common.{◌≡◌, drop}
use Rattle.authz_file.specs.Searching.{IsSeen, with_places}
use Rattle.authz_file.proofs.search.add_all.Given as goal

abbrev pub invariant-named : goal.invariant-named
invariant-named l = record {
  added : with_places l.places.items (drop l.place-index l.named) ≡ with_places l.fn.places.items l.fn.named;
  seen : IsSeen l.seen l.places.items;
}
