-- How a script is read into trees, which no caller sees.
use Rattle.std.specs.Prelude.{ℕ, ◌≡◌, ⊤, List, Result, Ok, Err, length}
use Rattle.dsv_base.specs.Gives.{◌>>=◌}
use Rattle.rev_nodes.specs.declared.commit.Commit.{Commit}
use Rattle.rev_scripts.specs.declared.script_fault.ScriptFault.{ScriptFault}
use Rattle.rev_scripts.specs.declared.script_fault.ScriptFault.TheVariants.{BadScript, NoMemory}
use Rattle.rev_nodes.specs.Trees.{Repository, Revision}
use Rattle.rev_nodes.specs.Pushes.{pushed}
use Rattle.rev_nodes.specs.Forests.{Forest}
use Rattle.rev_trees.specs.Readies.{ReadyRevision, IsReadyOn, IsNext, revisions_of}
use Rattle.rev_scripts.specs.Scripts.{revision_from, at_change, with_read}

-- the commit of revision 0, and the line and the text after it
abbrev pub zeroth_from : List ℕ → Result (Commit × ℕ × List ℕ) ScriptFault
zeroth_from text = do
  zeroth ← revision_from 0 4 text
  after ← zeroth.after
  Ok (zeroth.commit, after.0, after.1)

-- these revisions and the next one of the text, which begins at this line, and the line and the text after it
abbrev pub next_from : List Revision → ℕ → List ℕ → Result (List Revision × ℕ × List ℕ) ScriptFault
next_from revisions line text = revision_from (length revisions) line text >>= with_read revisions

-- these trees with other revisions
abbrev pub with_revisions : Forest → Result (List Revision) ScriptFault → Result Repository ScriptFault
with_revisions forest revisions = revisions >>= (λ revisions. Ok (record { name = forest.name; uuid = forest.uuid; revisions = revisions }))

-- the next revision is ready, or the line of the first change that doesn't fit is told
abbrev pub PreparesTold : List ℕ → Commit → Forest → Forest → Result ReadyRevision ScriptFault → Type 0
PreparesTold lines commit old new (Ok ready) = IsReadyOn ready new × IsNext (revisions_of old) commit ready
PreparesTold lines commit old new (Err (BadScript line)) = at_change lines (pushed (revisions_of old) commit) ≡ Err (BadScript line)
PreparesTold lines commit old new (Err NoMemory) = ⊤

-- the changes are pushed, and then comes the fault of a line
abbrev pub and_fault : Result (List Revision) ScriptFault → ℕ → Result (List Revision × ℕ × List ℕ) ScriptFault
and_fault pushes line = pushes >>= (λ all. Err (BadScript line))

-- a revision's first fault, where its changes before another were pushed so
abbrev pub FirstFault : Result (List Revision) ScriptFault → ScriptFault → ScriptFault → Type 0
FirstFault pushes NoMemory first = first ≡ NoMemory
FirstFault pushes (BadScript line) NoMemory = ⊤
FirstFault pushes (BadScript line) (BadScript first) = and_fault pushes line ≡ Err (BadScript first)
