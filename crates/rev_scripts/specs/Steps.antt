-- The steps by which a script is read, each of which gives what it read and what stands after that.
use Rattle.std.specs.Prelude.{ℕ, ◌+◌, ◌-◌, Bool, true, false, List, Option, None, Some, Result, Ok, Err, length, take, drop, nat_eq, nat_le}
use Rattle.std.specs.List.{starts_with, count_by}
use Rattle.dsv_base.specs.Lines.{cut_at, cut_line, is_line_feed}
use Rattle.dsv_base.specs.Numbers.{read_decimal}
use Rattle.rev_scripts.specs.declared.item_fault.ItemFault.{ItemFault}
use Rattle.rev_scripts.specs.declared.item_fault.ItemFault.TheVariants.{Bad, NoMemory}
use Rattle.rev_scripts.specs.declared.script_fault.ScriptFault.{ScriptFault}
use Rattle.rev_scripts.specs.declared.script_fault.ScriptFault.TheVariants as script

-- the value; where there is none, the text isn't in the grammar
abbrev pub or_bad : {X : Type 0} → Option X → Result X ItemFault
or_bad None = Err Bad
or_bad (Some x) = Ok x

-- a value, where the test holds
abbrev pub ok_where : {X : Type 0} → Bool → X → Result X ItemFault
ok_where true x = Ok x
ok_where false x = Err Bad

-- a line without its line feed, and what stands after it
abbrev pub line_from : List ℕ → Result (List ℕ × List ℕ) ItemFault
line_from text = or_bad (cut_line text)

-- a word, which a blank ends, and what stands after that
abbrev pub word_from : List ℕ → Result (List ℕ × List ℕ) ItemFault
word_from text = or_bad (cut_at 32 text)

-- what stands after this front
abbrev pub after_front : List ℕ → List ℕ → Result (List ℕ) ItemFault
after_front front text = ok_where (starts_with nat_eq text front) (drop (length front) text)

-- so many bytes, and what stands after them
abbrev pub bytes_from : ℕ → List ℕ → Result (List ℕ × List ℕ) ItemFault
bytes_from count text = ok_where (nat_le count (length text)) (take count text, drop count text)

-- a number up to the given one
abbrev pub number_from : ℕ → List ℕ → Result ℕ ItemFault
number_from most text = or_bad (read_decimal most text)

-- no revision has a greater number
abbrev pub most_revision : ℕ
most_revision = 2000000000

-- want of memory, which is no fault of the text
abbrev pub is_no_memory : ItemFault → Bool
is_no_memory Bad = false
is_no_memory NoMemory = true

-- the fault of the item that begins at a line
abbrev pub fault_at : ℕ → ItemFault → ScriptFault
fault_at line Bad = script.BadScript line
fault_at line NoMemory = script.NoMemory

-- what was read of the item that begins at a line
abbrev pub at_line : {X : Type 0} → ℕ → Result X ItemFault → Result X ScriptFault
at_line line (Ok x) = Ok x
at_line line (Err e) = Err (fault_at line e)

-- the line where the rest of a text begins, which itself begins at a line: one more for each line feed before
abbrev pub line_after : ℕ → List ℕ → List ℕ → ℕ
line_after line text rest = line + count_by is_line_feed (take (length text - length rest) text)
