-- Who may do what at a path (Subversion Book, "Path-Based Authorization").
use Rattle.std.specs.Prelude.{ℕ, Bool, true, false, not, ◌&&◌, List, Option, None, Some, map, filter, is_some, slice_index_or, if◌then◌else◌}
use Rattle.std.specs.List.{list_any, filter_map, reduce}
use Rattle.std.specs.Option.{option_eq, option_map_or, option_or}
use Rattle.std.specs.Str.{bytes_eq}
use Rattle.dsv_base.specs.Paths.{ancestors}
use Rattle.authz_file.specs.declared.base.Base.{Base}
use Rattle.authz_file.specs.declared.base.Base.TheVariants.{All, LoggedIn, Anonymous, Named}
use Rattle.authz_file.specs.declared.right.Right.{Right}
use Rattle.authz_file.specs.declared.right.Right.TheVariants.{No, Read, Write}
use Rattle.authz_file.specs.declared.rule.Rule.{Rule}

-- the principal stands for the user, who is somebody of a name, or nobody
abbrev pub stands_for : Base → Option (List ℕ) → Bool
stands_for All user = true
stands_for LoggedIn user = is_some user
stands_for Anonymous user = not (is_some user)
stands_for (Named names) user = option_map_or (λ name. list_any (bytes_eq name) names) user false

-- the rule speaks of the user; `~` turns the principal round
abbrev pub matches : Rule → Option (List ℕ) → Bool
matches rule user = if rule.negated then not (stands_for rule.base user) else stands_for rule.base user

-- No is less than Read, and Read less than Write
abbrev pub greater : Right → Right → Right
greater No other = other
greater Read Write = Write
greater Read other = Read
greater Write other = Write

-- what the rules of one section give the user: the greatest right of those that speak of this user,
-- if any does
abbrev pub right_in : Option (List ℕ) → List Rule → Option Right
right_in user rules = reduce greater (map (λ rule. rule.right) (filter (λ rule. matches rule user) rules))

-- the rule stands in the section of this path that names this repository, or none
abbrev pub is_in_section : Option (List ℕ) → List ℕ → Rule → Bool
is_in_section repos path rule = option_eq bytes_eq rule.repos repos && bytes_eq rule.path path

-- the rules of one section, which names a repository and a path, or a path alone
abbrev pub section_rules : List Rule → Option (List ℕ) → List ℕ → List Rule
section_rules rules repos path = filter (is_in_section repos path) rules

-- the right that the sections of one path give the user, if they give any: the section that names
-- the repository decides, and where it gives nothing the section that names none
abbrev pub right_at : List Rule → List ℕ → Option (List ℕ) → List ℕ → Option Right
right_at rules name user path = option_or (right_in user (section_rules rules (Some name) path)) (right_in user (section_rules rules None path))

-- the first right that is given at the path, at its parent and so on up to `/`; No where none is
unfoldable pub access : List Rule → List ℕ → Option (List ℕ) → List ℕ → Right
access rules name user path = slice_index_or (filter_map (right_at rules name user) (ancestors path)) 0 No

-- the right lets read
abbrev pub gives_reading : Right → Bool
gives_reading No = false
gives_reading Read = true
gives_reading Write = true

-- the rules let the user read at the path
unfoldable pub can_read : List Rule → List ℕ → Option (List ℕ) → List ℕ → Bool
can_read rules name user path = gives_reading (access rules name user path)
