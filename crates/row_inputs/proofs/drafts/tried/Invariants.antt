use Rattle.rev_trees.specs.Drafts.{IsGrown}
use Rattle.row_inputs.proofs.drafts.tried.Given as goal

-- the draft is of these trees
abbrev pub invariant-changes : goal.invariant-changes
invariant-changes l = IsGrown l.draft.trees l.trees
