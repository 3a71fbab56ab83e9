-- The entries of a file, in the order of their lines, or the first line that breaks the grammar.
use Rattle.std.specs.Prelude.{ℕ, false, List, [], ◌∷◌, ◌++◌, Option, None, Some, Result, Ok, Err, if◌then◌else◌}
use Rattle.std.specs.Option.{ok_or}
use Rattle.dsv_base.specs.Gives.{◌>>=◌}
use Rattle.dsv_base.specs.TextFiles.{file_lines}
use Rattle.authz_file.specs.declared.section_entry.SectionEntry.{SectionEntry}
use Rattle.authz_file.specs.declared.joined_line.JoinedLine.{JoinedLine}
use Rattle.authz_file.specs.declared.joined_line.JoinedLine.TheVariants.{Head, Body, Stray}
use Rattle.authz_file.specs.declared.section_place.SectionPlace.{SectionPlace}
use Rattle.authz_file.specs.declared.rules_fault.RulesFault.{RulesFault}
use Rattle.authz_file.specs.declared.rules_fault.RulesFault.TheVariants.{BadLine, BadSection, BadAccess}
use Rattle.authz_file.specs.declared.section.Section.{Section}
use Rattle.authz_file.specs.declared.section.Section.TheVariants.{Groups, Aliases, At}
use Rattle.authz_file.specs.Lines.{joined_lines}
use Rattle.authz_file.specs.Sections.{section_of, place_name}
use Rattle.authz_file.specs.Words.{key_value, words_of, is_user, is_negated, principal_of, who_of, own_words, right_of}

-- the section that a line begins, or the refusal of the line
abbrev pub section_at : ℕ → List ℕ → Result Section RulesFault
section_at line text = ok_or (section_of text) (BadSection line)

-- a line of `[groups]` defines `@KEY`
unfoldable pub group_entry : ℕ → List ℕ → List ℕ → Result SectionEntry RulesFault
group_entry line key value = ok_or (words_of value) (BadLine line) >>= (λ words.
    Ok (record { line = line; label = 64 ∷ key; words = words; grant = None }))

-- a line of `[aliases]` defines `&KEY`
unfoldable pub alias_entry : ℕ → List ℕ → List ℕ → Result SectionEntry RulesFault
alias_entry line key value = if is_user value
    then Ok (record { line = line; label = 38 ∷ key; words = value ∷ []; grant = None })
    else Err (BadLine line)

-- a line of a path section. No line has a line feed in it, so lines have equal labels where they stand
-- in sections of one name and have one key
unfoldable pub grant_entry : SectionPlace → ℕ → List ℕ → List ℕ → Result SectionEntry RulesFault
grant_entry place line key value =
    ok_or (who_of (principal_of key)) (BadLine line) >>= (λ who.
    ok_or (right_of value) (BadAccess line) >>= (λ right.
    Ok (record { line = line; label = place_name place.repos place.path ++ 10 ∷ key; words = own_words who (principal_of key); grant = Some (record { place = place; negated = is_negated key; who = who; right = right }) })))

-- a line that stands before the first section gives no entry
abbrev pub entry_under : Option Section → ℕ → List ℕ → List ℕ → Result SectionEntry RulesFault
entry_under None line key value = Err (BadLine line)
entry_under (Some Groups) line key value = group_entry line key value
entry_under (Some Aliases) line key value = alias_entry line key value
entry_under (Some (At place)) line key value = grant_entry place line key value

-- the entry of a line in this section, or the refusal of the line
unfoldable pub entry_at : Option Section → ℕ → List ℕ → Result SectionEntry RulesFault
entry_at section line text = ok_or (key_value text) (BadLine line) >>= (λ p. entry_under section line p.0 p.1)

-- the entries of the lines that come in this section
unfoldable pub entries_of : Option Section → List JoinedLine → Result (List SectionEntry) RulesFault
entries_of section [] = Ok []
entries_of section (Stray line ∷ rest) = Err (BadLine line)
entries_of section (Head line text ∷ rest) = section_at line text >>= (λ next. entries_of (Some next) rest)
entries_of section (Body line text ∷ rest) = entry_at section line text >>= (λ entry. entries_of section rest >>= (λ entries. Ok (entry ∷ entries)))

-- the entries of a file, or the first line that breaks the grammar
unfoldable pub file_entries : List ℕ → Result (List SectionEntry) RulesFault
file_entries bytes = entries_of None (joined_lines false 1 (file_lines bytes))
