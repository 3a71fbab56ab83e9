-- Rights that are held at a path and at all that lies under it.
use Rattle.std.specs.Prelude.{ℕ, Bool, true, false, ◌||◌, List, ◌∷◌, Option, None, Some, map, filter, nat_le, IsTrue}
use Rattle.std.specs.List.{list_all}
use Rattle.std.specs.Option.{option_eq}
use Rattle.std.specs.Str.{bytes_eq}
use Rattle.dsv_base.specs.Paths.{is_path, is_under}
use Rattle.authz_file.specs.declared.right.Right.{Right}
use Rattle.authz_file.specs.declared.right.Right.TheVariants.{No, Read, Write}
use Rattle.authz_file.specs.declared.rule.Rule.{Rule}
use Rattle.authz_check.specs.declared.demand.Demand.{Demand}
use Rattle.authz_check.specs.declared.demand.Demand.TheVariants.{AtLeast, Nothing}
use Rattle.authz_check.specs.Access.{access}

-- No is the least right, and Write the greatest
abbrev pub rank : Right → ℕ
rank No = 0
rank Read = 1
rank Write = 2

-- the right is at least the wanted one
abbrev pub at_least : Right → Right → Bool
at_least want right = nat_le (rank want) (rank right)

-- the right is none
abbrev pub is_no : Right → Bool
is_no No = true
is_no Read = false
is_no Write = false

-- a right meets a demand: to be at least one, or to be none
abbrev pub meets : Demand → Right → Bool
meets (AtLeast want) = at_least want
meets Nothing = is_no

-- the rule stands in a section that speaks of this repository
abbrev pub speaks_of : List ℕ → Rule → Bool
speaks_of name rule = option_eq bytes_eq rule.repos None || option_eq bytes_eq rule.repos (Some name)

-- the paths of the sections that speak of this repository, as far as they lie under a path. Sections of
-- other repositories, and those without a counting line, are left out since they change no right: where
-- a path has no other section, its right is its parent's
abbrev pub section_paths : List Rule → List ℕ → List ℕ → List (List ℕ)
section_paths rules name top = filter (λ path. is_under path top) (map (λ rule. rule.path) (filter (speaks_of name) rules))

-- a test of the right at a path
abbrev pub tested : (Right → Bool) → List Rule → List ℕ → Option (List ℕ) → List ℕ → Bool
tested holds rules name user path = holds (access rules name user path)

-- a test holds of the right at the path, and of the right at each path of a section under it
abbrev pub everywhere : (Right → Bool) → List Rule → List ℕ → Option (List ℕ) → List ℕ → Bool
everywhere holds rules name user path = list_all (tested holds rules name user) (path ∷ section_paths rules name path)

-- the user has this right at least, at the path and at each path of a section under it
unfoldable pub all_access : List Rule → List ℕ → Option (List ℕ) → List ℕ → Right → Bool
all_access rules name user path want = everywhere (at_least want) rules name user path

-- the user has no right at the path, nor at any path of a section under it
unfoldable pub closed : List Rule → List ℕ → Option (List ℕ) → List ℕ → Bool
closed rules name user path = everywhere is_no rules name user path

-- a test holds of the right at every path under this one
abbrev pub HoldsUnder : (Right → Bool) → List Rule → List ℕ → Option (List ℕ) → List ℕ → Type 0
HoldsUnder holds rules name user path = (p : List ℕ) → IsTrue (is_path p) → IsTrue (is_under p path) → IsTrue (holds (access rules name user p))
