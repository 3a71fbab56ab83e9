use Rattle.std.proofs.Common.{◌-◌, length}
use Rattle.authz_file.specs.Searching.{IsSeen}
use Rattle.authz_file.proofs.Reach.{Search}
use Rattle.authz_file.proofs.search.reached_by.Given as goal

abbrev pub invariant-places : goal.invariant-places
invariant-places l = record {
  search : Search l.graph l.fn.start l.places.items l.done;
  seen : IsSeen l.seen l.places.items;
}

abbrev pub decreases-places : goal.decreases-places
decreases-places l = length l.graph - l.done
