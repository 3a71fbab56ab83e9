-- The rules of a file, or the first refusal with its line.
use Rattle.std.specs.Prelude.{ℕ, ◌+◌, Bool, false, ◌||◌, List, [], ◌∷◌, Option, None, Some, Result, Ok, Err, is_some, nat_eq, if◌then◌else◌}
use Rattle.std.specs.List.{cons_option}
use Rattle.std.specs.Option.{option_or}
use Rattle.dsv_base.specs.Gives.{◌>>=◌}
use Rattle.dsv_base.specs.TextFiles.{begins_with}
use Rattle.authz_file.specs.declared.base.Base.{Base}
use Rattle.authz_file.specs.declared.base.Base.TheVariants as bases
use Rattle.authz_file.specs.declared.section_entry.SectionEntry.{SectionEntry}
use Rattle.authz_file.specs.declared.grant.Grant.{Grant}
use Rattle.authz_file.specs.declared.rule.Rule.{Rule}
use Rattle.authz_file.specs.declared.rules.Rules.{Rules}
use Rattle.authz_file.specs.declared.rules_fault.RulesFault.{RulesFault}
use Rattle.authz_file.specs.declared.rules_fault.RulesFault.TheVariants.{UnknownGroup, UnknownAlias, GroupCycle}
use Rattle.authz_file.specs.declared.who.Who.{Who}
use Rattle.authz_file.specs.declared.who.Who.TheVariants as whos
use Rattle.authz_file.specs.Words.{is_user}
use Rattle.authz_file.specs.Groups.{place_of_label, targets, is_circular, names_at}
use Rattle.authz_file.specs.Entries.{file_entries}

-- the fault of a word that names nothing: an unknown group where it begins with `@`, else an unknown alias
abbrev pub unknown : ℕ → List ℕ → RulesFault
unknown line word = if begins_with 64 word then UnknownGroup line else UnknownAlias line

-- a word that is no user's name must be the label of an entry
abbrev pub word_fault : List SectionEntry → ℕ → List ℕ → Option RulesFault
word_fault entries line word = if is_user word || is_some (place_of_label entries word) then None else Some (unknown line word)

-- the first word counts
abbrev pub words_fault : List SectionEntry → ℕ → List (List ℕ) → Option RulesFault
words_fault entries line [] = None
words_fault entries line (word ∷ words) = option_or (word_fault entries line word) (words_fault entries line words)

-- the fault of the entry at this place, where it reaches itself
abbrev pub cycle_fault : List SectionEntry → ℕ → ℕ → Option RulesFault
cycle_fault entries place line = if is_circular (targets entries) place then Some (GroupCycle line) else None

-- the fault of the entry at this place; every entry is looked at, also one that doesn't count
unfoldable pub entry_fault : List SectionEntry → ℕ → SectionEntry → Option RulesFault
entry_fault entries place entry = option_or (words_fault entries entry.line entry.words) (cycle_fault entries place entry.line)

-- the first fault of those of the entries that stand at this place and after it
abbrev pub faults_from : List SectionEntry → ℕ → List SectionEntry → Option RulesFault
faults_from entries place [] = None
faults_from entries place (e ∷ es) = option_or (entry_fault entries place e) (faults_from entries (place + 1) es)

-- the principal of a rule, whose words come to these names
abbrev pub base_of : Who → List (List ℕ) → Base
base_of whos.All names = bases.All
base_of whos.LoggedIn names = bases.LoggedIn
base_of whos.Anonymous names = bases.Anonymous
base_of whos.Word names = bases.Named names

-- the rule of a grant at this place
abbrev pub granted : List SectionEntry → ℕ → Grant → Rule
granted entries place grant = record { repos = grant.place.repos; path = grant.place.path; negated = grant.negated; base = base_of grant.who (names_at entries place); right = grant.right }

-- the optional place is this one
abbrev pub is_place : ℕ → Option ℕ → Bool
is_place place None = false
is_place place (Some other) = nat_eq place other

-- the rule of a grant, where there is one and it counts
abbrev pub grant_rule : List SectionEntry → ℕ → Bool → Option Grant → Option Rule
grant_rule entries place counts None = None
grant_rule entries place counts (Some grant) = if counts then Some (granted entries place grant) else None

-- the rule of the entry at this place, where it stands in a path section and counts
unfoldable pub entry_rule : List SectionEntry → ℕ → SectionEntry → Option Rule
entry_rule entries place entry = grant_rule entries place (is_place place (place_of_label entries entry.label)) entry.grant

-- the rules of the entries that stand at this place and after it
abbrev pub rules_from : List SectionEntry → ℕ → List SectionEntry → List Rule
rules_from entries place [] = []
rules_from entries place (e ∷ es) = cons_option (entry_rule entries place e) (rules_from entries (place + 1) es)

-- the value, unless there is a fault
abbrev pub unless_faulty : {X : Type 0} → Option RulesFault → X → Result X RulesFault
unless_faulty None x = Ok x
unless_faulty (Some fault) x = Err fault

-- the rules of the entries, or the first line with a word that names nothing, or with a group that holds itself
unfoldable pub resolved : List SectionEntry → Result Rules RulesFault
resolved entries = unless_faulty (faults_from entries 0 entries) (record { list = rules_from entries 0 entries })

-- what a rules file says: the first line that breaks the grammar comes before all that is unknown
unfoldable pub rules_of : List ℕ → Result Rules RulesFault
rules_of bytes = file_entries bytes >>= resolved
