-- A revision as a script has it.
use Rattle.std.specs.Prelude.{ℕ, ◌≡◌, ◌≤◌, Bool, ◌&&◌, List, ◌++◌, Ok, length, nat_le, nat_lt, codes, IsTrue}
use Rattle.std.specs.List.{list_all, flat_map}
use Rattle.std.specs.Fmt.{decimal}
use Rattle.dsv_base.specs.Paths.{is_path}
use Rattle.dsv_base.specs.declared.prop.Prop.{Prop}
use Rattle.rev_nodes.specs.declared.change.Change.{Change}
use Rattle.rev_nodes.specs.declared.change.Change.TheVariants.{Put, SetProp, DelProp, Mkdir, Delete, Copy}
use Rattle.rev_nodes.specs.declared.commit.Commit.{Commit}
use Rattle.rev_nodes.specs.PropertyNames.{is_property_name, is_revision_property, names_rise}
use Rattle.rev_scripts.specs.Steps.{most_revision}
use Rattle.rev_nodes.specs.Trees.{Repository, Revision}
use Rattle.rev_nodes.specs.Pushes.{pushed}
use Rattle.rev_nodes.specs.Commits.{is_author}
use Rattle.rev_scripts.specs.Scripts.{revision_from, repository_from}

-- ---- the text

-- a line of a word and a number, with its line feed
abbrev pub one_number : List ℕ → ℕ → List ℕ
one_number word one = word ++ codes " " ++ decimal one ++ codes "\n"

-- a line of a word and two numbers
abbrev pub two_numbers : List ℕ → ℕ → ℕ → List ℕ
two_numbers word one two = word ++ codes " " ++ decimal one ++ codes " " ++ decimal two ++ codes "\n"

-- a line of a word and three numbers
abbrev pub three_numbers : List ℕ → ℕ → ℕ → ℕ → List ℕ
three_numbers word one two three = word ++ codes " " ++ decimal one ++ codes " " ++ decimal two ++ codes " " ++ decimal three ++ codes "\n"

-- a property of the revision
abbrev pub prop_text : Prop → List ℕ
prop_text prop = two_numbers (codes "prop") (length prop.name) (length prop.value) ++ prop.name ++ prop.value ++ codes "\n"

-- a change of the revision
abbrev pub change_text : Change → List ℕ
change_text (Put path text) = two_numbers (codes "put") (length path) (length text) ++ path ++ text ++ codes "\n"
change_text (SetProp path name value) = three_numbers (codes "setprop") (length path) (length name) (length value) ++ path ++ name ++ value ++ codes "\n"
change_text (DelProp path name) = two_numbers (codes "delprop") (length path) (length name) ++ path ++ name ++ codes "\n"
change_text (Mkdir path) = one_number (codes "mkdir") (length path) ++ path ++ codes "\n"
change_text (Delete path) = one_number (codes "delete") (length path) ++ path ++ codes "\n"
change_text (Copy source rev path) = three_numbers (codes "copy") (length source) rev (length path) ++ source ++ path ++ codes "\n"

-- the first line of the revision, and its author
abbrev pub head_text : ℕ → Commit → List ℕ
head_text number commit = three_numbers (codes "revision") number commit.moment (length commit.author) ++ commit.author ++ codes "\n"

-- the revision of this number
unfoldable pub revision_text : ℕ → Commit → List ℕ
revision_text number commit = head_text number commit ++ flat_map prop_text commit.props ++ flat_map change_text commit.changes ++ codes "end\n"

-- ---- what is read back

-- fewer than 2 ^ 64 bytes
abbrev pub is_short : List ℕ → Bool
is_short text = nat_lt (length text) 18446744073709551616

-- a property that a script can tell
abbrev pub is_tellable_prop : Prop → Bool
is_tellable_prop prop = is_revision_property prop.name && is_short prop.value

-- a change in the revision of this number
abbrev pub is_tellable_change : ℕ → Change → Bool
is_tellable_change number (Put path text) = nat_le 1 number && is_path path && is_short text
is_tellable_change number (SetProp path name value) = nat_le 1 number && is_path path && is_property_name name && is_short value
is_tellable_change number (DelProp path name) = nat_le 1 number && is_path path && is_property_name name
is_tellable_change number (Mkdir path) = nat_le 1 number && is_path path
is_tellable_change number (Delete path) = nat_le 1 number && is_path path
is_tellable_change number (Copy source rev path) = nat_le 1 number && is_path source && is_path path && nat_lt rev number

-- the commit is one that the revision of this number may have in a script
pub record IsTellable (number : ℕ) (commit : Commit) : Type 0 where
  pub number_fits : number ≤ most_revision
  pub moment_fits : commit.moment ≤ 253402300799999999
  pub author : IsTrue (is_author commit.author)
  pub props : IsTrue (list_all is_tellable_prop commit.props)
  pub rising : IsTrue (names_rise commit.props)
  pub changes : IsTrue (list_all (is_tellable_change number) commit.changes)

-- read as the revision of this number, the text gives the commit, and what stands after the text is left
abbrev pub ReadsBack : ℕ → Commit → List ℕ → Type 0
ReadsBack number commit text = (line : ℕ) (rest : List ℕ) → (lines : List ℕ) × (next : ℕ) × (revision_from number line (text ++ rest) ≡ Ok (record { commit = commit; lines = lines; after = Ok (next, rest) }))

-- after a script whose repository has as many revisions as the number says, the text makes a script of that repository with the commit pushed
abbrev pub Extends : ℕ → Commit → List ℕ → Type 0
Extends number commit text = (script : List ℕ) (repository : Repository) (revisions : List Revision) → repository_from script ≡ Ok repository → length repository.revisions ≡ number → pushed repository.revisions commit ≡ Ok revisions → repository_from (script ++ text) ≡ Ok (record repository { revisions = revisions })
