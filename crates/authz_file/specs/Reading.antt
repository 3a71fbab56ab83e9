-- What the program's own calls say while they read: of the items, the lines and the entries that are left.
use Rattle.std.specs.Prelude.{ℕ, ◌≡◌, List, [], ◌∷◌, ◌++◌, Option, None, Some, Result, Ok, Err}
use Rattle.std.specs.List.{slice_split}
use Rattle.dsv_base.specs.Gives.{◌>>=◌, Gives}
use Rattle.authz_file.specs.declared.entries.Reading.{Reading}
use Rattle.authz_file.specs.declared.section_entry.SectionEntry.{SectionEntry}
use Rattle.authz_file.specs.declared.joined_line.JoinedLine.{JoinedLine}
use Rattle.authz_file.specs.declared.rules_fault.RulesFault.{RulesFault}
use Rattle.authz_file.specs.declared.section.Section.{Section}
use Rattle.authz_file.specs.Faults.{is_free_rules_fault}
use Rattle.dsv_base.specs.TextFiles.{is_comma}
use Rattle.authz_file.specs.Entries.{entries_of}

-- what stands between the commas of what is left, if anything is
abbrev pub items_left : Option (List ℕ) → List (List ℕ)
items_left None = []
items_left (Some text) = slice_split is_comma text

-- entries that come before those that are read
abbrev pub with_front : List SectionEntry → Result (List SectionEntry) RulesFault → Result (List SectionEntry) RulesFault
with_front front read = read >>= (λ entries. Ok (front ++ entries))

-- what a reading and the lines that are left come to
abbrev pub left_of : Reading → List JoinedLine → Result (List SectionEntry) RulesFault
left_of reading lines = with_front reading.entries.items (entries_of reading.section lines)

-- one more line is read, which changes nothing of what all comes to
abbrev pub ReadsLine : Reading → JoinedLine → Reading → Type 0
ReadsLine before line after = (rest : List JoinedLine) → left_of before (line ∷ rest) ≡ left_of after rest

-- this line gives the fault, whatever stands after it
abbrev pub RefusesLine : Option Section → JoinedLine → RulesFault → Type 0
RefusesLine section line fault = (rest : List JoinedLine) → Gives {X = List SectionEntry} is_free_rules_fault (Err fault) (entries_of section (line ∷ rest))
