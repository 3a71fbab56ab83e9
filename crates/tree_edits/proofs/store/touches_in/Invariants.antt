use Rattle.std.proofs.Common.{◌≡◌, ◌++◌}
use Rattle.tree_edits.specs.Stored.{touched_of}
use Rattle.tree_edits.proofs.store.touches_in.Given as goal

-- what was listed, and what is left, is all
abbrev pub invariant-edits : goal.invariant-edits
invariant-edits l = l.all.items ++ touched_of (λ k. k.items) l.path-iterator ≡ touched_of (λ k. k.items) l.map.entries
