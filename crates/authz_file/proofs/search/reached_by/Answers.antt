use Rattle.std.proofs.Common.{◌≤◌, length, ap, ◌∙◌, arith}
use Rattle.std.proofs.lemmas.Grind.{get_or_default_zero}
use Rattle.authz_file.specs.Groups.{named_at}
use Rattle.authz_file.specs.Searching.{with_places}
use Rattle.authz_file.proofs.Reach.{seen-none, search_begins, search_goes_on, search_end, few}
use Rattle.authz_file.proofs.search.reached_by.Goals as goal

pub add_all-requires : goal.add_all-requires
add_all-requires c = seen-none c.new-seen.result c.new-places.result.items c.new-seen.ensures.empty c.new-places.ensures.items

pub places-init : goal.places-init
places-init c = record {
  search = search_begins c.args.graph.now c.args.start.now c.new-places.result.items c.add_all.new.places.items c.new-places.ensures.items c.in_ok-add_all.ensures.added c.in_ok-add_all.ensures.seen.1 c.requires.start;
  seen = c.in_ok-add_all.ensures.seen;
}

pub places-smaller : goal.places-smaller
places-smaller c =
    let most : length c.places.places.items ≤ length c.args.graph.now = few c.args.graph.now c.args.start.now c.places.places.items c.places.done c.places.invariant.search in
    omega arith

pub places-preserved : goal.places-preserved
places-preserved c = record {
  search = search_goes_on c.args.graph.now c.args.start.now c.places.places.items c.add_all-in-places.new.places.items c.places.done c.requires.graph c.places.invariant.search (omega arith)
      (c.in_ok-add_all-2.ensures.added ∙ ap (with_places c.places.places.items) (c.named_at.ensures ∙ ap (named_at c.args.graph.now) (c.index-place.ensures ∙ get_or_default_zero c.places.places.items c.places.done _ (omega arith)))) c.in_ok-add_all-2.ensures.seen.1;
  seen = c.in_ok-add_all-2.ensures.seen;
}

pub returns : goal.returns
returns c = search_end c.args.graph.now c.args.start.now c.places.places.items c.places.done (omega arith) c.places.invariant.search
