use Rattle.std.proofs.Common.{◌<◌, [], ◌∷◌, length, nat_eq, ap, sym, ◌∙◌, subst}
use Rattle.std.specs.List.{list_any}
use Rattle.authz_file.specs.Groups.{names_at, reached_by, targets, users_at}
use Rattle.authz_file.specs.Searching.{IsGraph}
use Rattle.authz_file.proofs.Graphs.{targets-IsGraph, targets-length}
use Rattle.authz_file.proofs.NameSets.{names_same, names_flat}
use Rattle.authz_file.proofs.Reach.{has_one}
use Rattle.authz_file.proofs.names.names_at.Goals as goal

pub reached_by-requires-clause-graph : goal.reached_by-requires-clause-graph
reached_by-requires-clause-graph c = subst (λ g. IsGraph g) (sym c.requires.graph) (targets-IsGraph c.args.book.now)

pub reached_by-requires-clause-start : goal.reached_by-requires-clause-start
reached_by-requires-clause-start c = λ place h.
    subst (λ n. place < n) (sym (ap length c.requires.graph ∙ targets-length c.args.book.now)) (subst (λ p. p < length c.args.book.now) (sym (has_one place c.args.place h)) c.requires.place)

pub returns : goal.returns
unfolding names_at
returns c =
    c.in_ok-list.ensures
    ∙ c.in_ok-names.ensures
    ∙ names_same _ _ (names_flat (users_at c.args.book.now) c.as_slice.result.now (reached_by (targets c.args.book.now) (c.args.place ∷ []))
    (λ p. ap (list_any (nat_eq p)) c.as_slice.ensures.value ∙ c.in_ok-places.ensures p ∙ ap (λ g. list_any (nat_eq p) (reached_by g (c.args.place ∷ []))) c.requires.graph))
