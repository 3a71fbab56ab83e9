-- The script that a repository is read from, item by item: each is named, where it is refused, by
-- the line that it begins at, which is 1 and one more for each line feed before it.
use Rattle.std.specs.Prelude.{ℕ, zero, suc, Bool, true, false, ◌||◌, List, [], ◌∷◌, Result, Ok, Err, ⊤, MatchBool, length, slice_index_or, nat_eq, ◌==◌, codes}
use Rattle.dsv_base.specs.Gives.{◌>>=◌}
use Rattle.dsv_base.specs.Names.{is_repository_name, is_user_name}
use Rattle.rev_nodes.specs.declared.commit.Commit.{Commit}
use Rattle.rev_scripts.specs.declared.item.Item.{Item}
use Rattle.rev_scripts.specs.declared.item.Item.TheVariants as item
use Rattle.rev_scripts.specs.declared.item_fault.ItemFault.{ItemFault}
use Rattle.rev_nodes.specs.declared.unfit.Unfit.{Unfit}
use Rattle.rev_scripts.specs.declared.script_fault.ScriptFault.{ScriptFault}
use Rattle.rev_scripts.specs.declared.script_fault.ScriptFault.TheVariants.{BadScript, NoMemory}
use Rattle.rev_scripts.specs.Steps.{ok_where, line_from, word_from, after_front, number_from, most_revision, at_line, line_after}
use Rattle.rev_scripts.specs.Uuids.{is_uuid}
use Rattle.rev_scripts.specs.Items.{one_part, item_from, Told, nothing_told, may_follow, told_with_prop, told_with_change}
use Rattle.rev_nodes.specs.Trees.{Repository, Revision}
use Rattle.rev_nodes.specs.Pushes.{first_revision, pushed}
use Rattle.rev_nodes.specs.Commits.{is_author}

-- ---- the head

-- what a line has after this front, if it is of this kind
abbrev pub told_line : (List ℕ → Bool) → List ℕ → List ℕ → Result (List ℕ × List ℕ) ItemFault
told_line is_one front text = do
  told ← after_front front text
  line ← line_from told
  ok_where (is_one line.0) line

-- the three lines at the head of a script: the name, the uuid, and what stands after them
unfoldable pub heading_from : List ℕ → Result (List ℕ × List ℕ × List ℕ) ScriptFault
heading_from text = do
  first ← at_line 1 (after_front (codes "davsvn-script 1\n") text)
  name ← at_line 2 (told_line is_repository_name (codes "repos ") first)
  uuid ← at_line 3 (told_line is_uuid (codes "uuid ") name.1)
  Ok (name.0, uuid.0, uuid.1)

-- ---- a revision

-- the first line of the revision of this number: its moment, and the length of its author's name, which is at most the given one
unfoldable pub revision_line : ℕ → ℕ → List ℕ → Result (ℕ × ℕ) ItemFault
revision_line most number line = do
  numbers ← after_front (codes "revision ") line
  first ← word_from numbers
  told ← number_from most_revision first.0
  second ← word_from first.1
  moment ← number_from 253402300799999999 second.0
  author ← number_from most second.1
  ok_where (told == number) (moment, author)

-- the first line of the revision of this number, and its author: its moment, its author, and what stands after
-- them
unfoldable pub revision_head : ℕ → List ℕ → Result (ℕ × List ℕ × List ℕ) ItemFault
revision_head number text = do
  line ← line_from text
  told ← revision_line (length line.1) number line.0
  author ← one_part told.1 line.1
  ok_where (is_author author.0) (told.0, author.0, author.1)

-- the next item and what stands after it, where the item may stand after what was told
unfoldable pub next_item : ℕ → Told → ℕ → List ℕ → Result (Item × List ℕ) ScriptFault
next_item number told line text = at_line line (item_from number text >>= (λ read. ok_where (may_follow number told read.0) read))

-- what the items of a revision tell up to its end, and then the line and the text after that; or what those before a fault tell, and then the fault
abbrev pub Items : Type 0
Items = Told × Result (ℕ × List ℕ) ScriptFault

-- what an item tells, and what the others after it tell
abbrev pub after_item : (Told → ℕ → List ℕ → Items) → Told → ℕ → ℕ → Item × List ℕ → Items
after_item others told line next (item.End, rest) = (told, Ok (next, rest))
after_item others told line next (item.Prop prop, rest) = others (told_with_prop told prop) next rest
after_item others told line next (item.Change change, rest) = others (told_with_change told change line) next rest

-- what an item and those after it tell, or the fault of an item that can't be read
abbrev pub and_others : (Told → ℕ → List ℕ → Items) → Told → ℕ → List ℕ → Result (Item × List ℕ) ScriptFault → Items
and_others others told line text (Err fault) = (told, Err fault)
and_others others told line text (Ok read) = after_item others told line (line_after line text read.1) read

-- the items of the revision of this number after those that told this; there are at most so many
unfoldable pub items_from : ℕ → ℕ → Told → ℕ → List ℕ → Items
items_from zero number told line text = (told, Err (BadScript line))
items_from (suc steps) number told line text = and_others (items_from steps number) told line text (next_item number told line text)

-- the commit of what was told
abbrev pub commit_of : List ℕ → ℕ → Told → Commit
commit_of author moment told = record { author = author; moment = moment; props = told.props; changes = told.changes }

-- a revision as it is read: its commit, as far as it was told before a fault, the line of each change, and then the line and the text after it, or the fault
pub record Read : Type 0 where
  pub commit : Commit
  pub lines : List ℕ
  pub after : Result (ℕ × List ℕ) ScriptFault

-- a revision by its head and its items
abbrev pub read_of : ℕ × List ℕ × List ℕ → Items → Read
read_of head items = record { commit = commit_of head.1 head.0 items.0; lines = items.0.lines; after = items.1 }

-- the revision of this number, which begins at this line
unfoldable pub revision_from : ℕ → ℕ → List ℕ → Result Read ScriptFault
revision_from number line text = do
  head ← at_line line (revision_head number text)
  Ok (read_of head (items_from (length head.2) number nothing_told (line_after line text head.2) head.2))

-- ---- all revisions

-- the line of the first change that doesn't fit
abbrev pub at_change : {X : Type 0} → List ℕ → Result X (ℕ × Unfit) → Result X ScriptFault
at_change lines (Ok x) = Ok x
at_change lines (Err why) = Err (BadScript (slice_index_or lines why.0 0))

-- these revisions and the one that was read: a change that doesn't fit stands before the fault of an item
abbrev pub with_read : List Revision → Read → Result (List Revision × ℕ × List ℕ) ScriptFault
with_read revisions read = do
  all ← at_change read.lines (pushed revisions read.commit)
  after ← read.after
  Ok (all, after.0, after.1)

-- these revisions and those of the text, which begins at this line; there are at most so many
unfoldable pub revisions_from : ℕ → List Revision → ℕ → List ℕ → Result (List Revision) ScriptFault
revisions_from steps revisions line [] = Ok revisions
revisions_from zero revisions line (b ∷ bs) = Err (BadScript line)
revisions_from (suc steps) revisions line (b ∷ bs) = do
  read ← revision_from (length revisions) line (b ∷ bs)
  next ← with_read revisions read
  revisions_from steps next.0 next.1 next.2

-- the repository that the bytes of a script tell, or the line of the first item that is refused
unfoldable pub repository_from : List ℕ → Result Repository ScriptFault
repository_from bytes = do
  heading ← heading_from bytes
  zeroth ← revision_from 0 4 heading.2
  after ← zeroth.after
  revisions ← revisions_from (length after.1) (first_revision zeroth.commit ∷ []) after.0 after.1
  Ok (record { name = heading.0; uuid = heading.1; revisions = revisions })

-- want of memory, which is no fault of the script
abbrev pub wants_memory : ScriptFault → Bool
wants_memory (BadScript line) = false
wants_memory NoMemory = true

-- what holds unless memory was wanted
abbrev pub UnlessNoMemory : {X : Type 0} → Result X ScriptFault → Type 0 → Type 0
UnlessNoMemory (Ok x) P = P
UnlessNoMemory (Err fault) P = MatchBool (wants_memory fault) ⊤ P
