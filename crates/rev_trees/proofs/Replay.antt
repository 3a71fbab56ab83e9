-- The trees of revisions, as their commits make them.
use Rattle.std.proofs.Common.{◌≡◌, suc, ◌+◌, ◌≤◌, List, [], ◌∷◌, ◌++◌, length, refl, ap, ◌∙◌, arith, length-append}
use Rattle.std.specs.Prelude.{slice_index_or}
use Rattle.rev_nodes.specs.declared.commit.Commit.{Commit}
use Rattle.rev_nodes.specs.Trees.{Tree, first_tree}
use Rattle.rev_trees.specs.declared.revision.KeptRevision.{KeptRevision}
use Rattle.rev_trees.specs.Kept.{after, trees_from, commits_of, trees_in}

from-push : (trees : List Tree) (commits : List Commit) (commit : Commit) → trees_from trees (commits ++ commit ∷ []) ≡ trees_from trees commits ++ after (trees_from trees commits) commit ∷ []
from-push trees [] commit = refl
from-push trees (c ∷ cs) commit = from-push (trees ++ after trees c ∷ []) cs commit

from-length : (trees : List Tree) (commits : List Commit) → length (trees_from trees commits) ≡ length trees + length commits
from-length trees [] = omega arith
from-length trees (c ∷ cs) =
    let e = from-length (trees ++ after trees c ∷ []) cs in
    let n = length-append trees (after trees c ∷ []) in
    omega (arith, e, n)

commits-push : (rs : List KeptRevision) (r : KeptRevision) → commits_of (rs ++ r ∷ []) ≡ commits_of rs ++ r.commit ∷ []
commits-push [] r = refl
commits-push (q ∷ rs) r = ap (λ (cs : List Commit). q.commit ∷ cs) (commits-push rs r)

commits-length : (rs : List KeptRevision) → length (commits_of rs) ≡ length rs
commits-length [] = refl
commits-length (r ∷ rs) = ap suc (commits-length rs)

pub trees-push : (rs : List KeptRevision) (r : KeptRevision) → 1 ≤ length rs → trees_in (rs ++ r ∷ []) ≡ trees_in rs ++ after (trees_in rs) r.commit ∷ []
trees-push [] r some = absurd (omega arith)
trees-push (q ∷ rs) r some = ap (trees_from (first_tree ∷ [])) (commits-push rs r) ∙ from-push (first_tree ∷ []) (commits_of rs) r.commit

pub trees-length : (rs : List KeptRevision) → length (trees_in rs) ≡ length rs
trees-length [] = refl
trees-length (r ∷ rs) =
    let e = from-length (first_tree ∷ []) (commits_of rs) in
    let n = commits-length rs in
    omega (arith, e, n)

-- the last one
pub at-last : {X : Type 0} (xs : List X) (x d : X) → slice_index_or (xs ++ x ∷ []) (length xs) d ≡ x
at-last [] x d = refl
at-last (y ∷ xs) x d = at-last xs x d
