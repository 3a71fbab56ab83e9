use Rattle.std.proofs.Common.{◌≡◌, ap, sym, ◌∙◌, true, nat_le}
use Rattle.std.specs.Prelude.{slice_index}
use Rattle.std.specs.List.{list_all}
use Rattle.authz_file.proofs.Falling.{rises_no_more}
use Rattle.authz_file.proofs.ranks.never_rise.Goals as goal

pub entries-preserved : goal.entries-preserved
entries-preserved c =
    let all : list_all (λ p. nat_le (slice_index c.args.ranks.now p) (slice_index c.args.ranks.now c.entries.place)) c.index-graph-place.result ≡ true =
    sym (c.are_up_to.ensures
    ∙ ap (λ rank. list_all (λ p. nat_le (slice_index c.args.ranks.now p) rank) c.get.result.now) c.rank_of.ensures
    ∙ ap (list_all (λ p. nat_le (slice_index c.args.ranks.now p) (slice_index c.args.ranks.now c.entries.place))) c.get.ensures)
    ∙ c.if-not-are_up_to.false in
    rises_no_more c.args.graph.now c.args.ranks.now c.entries.place c.index-graph-place.result c.entries-test.true c.index-graph-place.is all c.entries.invariant
