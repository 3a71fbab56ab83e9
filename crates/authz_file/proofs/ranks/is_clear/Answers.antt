use Rattle.std.proofs.Common.{◌≡◌, ap, sym, ◌∙◌, true, nat_lt}
use Rattle.std.specs.Prelude.{slice_index}
use Rattle.std.specs.List.{list_all}
use Rattle.authz_file.specs.Groups.{named_at}
use Rattle.authz_file.proofs.Falling.{clear}
use Rattle.authz_file.proofs.ranks.is_clear.Goals as goal

pub returns : goal.returns
returns c = λ yes.
    let all : list_all (λ p. nat_lt (slice_index c.args.ranks.now p) (slice_index c.args.ranks.now c.args.place)) (named_at c.args.graph.now c.args.place) ≡ true =
    sym (c.are_below.ensures
    ∙ ap (λ rank. list_all (λ p. nat_lt (slice_index c.args.ranks.now p) rank) c.named_at.result.now) c.rank_of.ensures
    ∙ ap (list_all (λ p. nat_lt (slice_index c.args.ranks.now p) (slice_index c.args.ranks.now c.args.place))) c.named_at.ensures)
    ∙ yes in
    clear c.args.graph.now c.args.ranks.now c.requires c.args.place all
