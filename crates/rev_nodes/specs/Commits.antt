-- What is asked of a commit: who may have made it, which names its properties have, and where its copies
-- are taken from.
use Rattle.std.specs.Prelude.{ℕ, ◌≡◌, ◌<◌, Bool, true, ◌||◌, List, [], length, nat_eq, nat_lt, IsTrue}
use Rattle.std.specs.List.{list_all}
use Rattle.dsv_base.specs.Names.{is_user_name}
use Rattle.dsv_base.specs.declared.prop.Prop.{Prop}
use Rattle.rev_nodes.specs.declared.change.Change.{Change}
use Rattle.rev_nodes.specs.declared.change.Change.TheVariants.{Put, SetProp, DelProp, Mkdir, Delete, Copy}
use Rattle.rev_nodes.specs.declared.commit.Commit.{Commit}
use Rattle.rev_nodes.specs.PropertyNames.{is_property_name, is_revision_property, names_rise}
use Rattle.rev_nodes.specs.Forests.{Forest, revision_at}

-- an author is a user, or nobody
abbrev pub is_author : List ℕ → Bool
is_author name = nat_eq (length name) 0 || is_user_name name

-- a property that a revision may have
abbrev pub is_sound_prop : Prop → Bool
is_sound_prop prop = is_revision_property prop.name

-- a change that sets or removes a property names one of the grammar
abbrev pub is_sound_change : Change → Bool
is_sound_change (Put path text) = true
is_sound_change (SetProp path name value) = is_property_name name
is_sound_change (DelProp path name) = is_property_name name
is_sound_change (Mkdir path) = true
is_sound_change (Delete path) = true
is_sound_change (Copy source rev path) = true

-- a commit that may be made: its author is a user or nobody, its properties rise by their names, and all names are of the grammar
pub record IsSoundCommit (commit : Commit) : Type 0 where
  pub author : IsTrue (is_author commit.author)
  pub props : IsTrue (list_all is_sound_prop commit.props)
  pub rising : IsTrue (names_rise commit.props)
  pub changes : IsTrue (list_all is_sound_change commit.changes)

-- a copy is taken from a revision below this number
abbrev pub comes_from_below : ℕ → Change → Bool
comes_from_below number (Put path text) = true
comes_from_below number (SetProp path name value) = true
comes_from_below number (DelProp path name) = true
comes_from_below number (Mkdir path) = true
comes_from_below number (Delete path) = true
comes_from_below number (Copy source rev path) = nat_lt rev number

-- the commit of the revision of this number: revision 0 has no changes, and copies are taken from earlier revisions
pub record IsCommitOf (number : ℕ) (commit : Commit) : Type 0 where
  pub sound : IsSoundCommit commit
  pub sources : IsTrue (list_all (comes_from_below number) commit.changes)
  pub first : number ≡ 0 → commit.changes ≡ []

-- each revision has such a commit
abbrev pub AreCommits : Forest → Type 0
AreCommits forest = (rev : ℕ) → rev < length forest.revisions → IsCommitOf rev (revision_at forest rev).commit
