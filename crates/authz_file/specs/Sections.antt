-- The line of a section: `[groups]`, `[aliases]`, `[PATH]` or `[REPOS:PATH]`.
use Rattle.std.specs.Prelude.{ℕ, ◌-◌, Bool, false, ◌&&◌, List, [], ◌∷◌, ◌++◌, length, take, Option, None, Some, ◌==◌, nat_lt, slice_index, codes, if◌then◌else◌}
use Rattle.std.specs.Str.{bytes_eq}
use Rattle.dsv_base.specs.Paths.{is_path}
use Rattle.dsv_base.specs.Names.{is_repository_name}
use Rattle.dsv_base.specs.TextFiles.{begins_with}
use Rattle.authz_file.specs.declared.section_place.SectionPlace.{SectionPlace}
use Rattle.authz_file.specs.declared.section.Section.{Section}
use Rattle.authz_file.specs.declared.section.Section.TheVariants.{Groups, Aliases, At}

-- what stands between `[` at the front and `]` at the end
abbrev pub bracketed : List ℕ → Option (List ℕ)
bracketed [] = None
bracketed (b ∷ []) = None
bracketed (b ∷ c ∷ rest) = if (b == 91) && (slice_index (c ∷ rest) (length rest) == 93) then Some (take (length rest) (c ∷ rest)) else None

-- a path longer than `/` may end with one slash, which is dropped
unfoldable pub section_path : List ℕ → Option (List ℕ)
section_path text =
    if is_path text then Some text else
    if nat_lt 2 (length text) && (slice_index text (length text - 1) == 47) && is_path (take (length text - 1) text) then Some (take (length text - 1) text) else None

-- one byte more in front of the first of two parts, where there are two
abbrev pub onto_front : ℕ → Option (List ℕ × List ℕ) → Option (List ℕ × List ℕ)
onto_front b None = None
onto_front b (Some p) = Some (b ∷ p.0, p.1)

-- the bytes begin with `:/`
abbrev pub begins_cut : List ℕ → Bool
begins_cut [] = false
begins_cut (b ∷ bs) = (b == 58) && begins_with 47 bs

-- what stands before the first `:/`, and what stands after its colon
unfoldable pub split_repos : List ℕ → Option (List ℕ × List ℕ)
split_repos [] = None
split_repos (b ∷ bs) = if begins_cut (b ∷ bs) then Some ([], bs) else onto_front b (split_repos bs)

-- the place of a path, where it is one, in this repository or in each
abbrev pub path_place : Option (List ℕ) → Option (List ℕ) → Option SectionPlace
path_place repos None = None
path_place repos (Some path) = Some (record { repos = repos; path = path })

-- the place of a path in the repository whose name stands before it
abbrev pub at_repos : Option (List ℕ × List ℕ) → Option SectionPlace
at_repos None = None
at_repos (Some p) = if is_repository_name p.0 then path_place (Some p.0) (section_path p.1) else None

-- a name that begins with `/` is a path; else a repository's name stands before it
unfoldable pub place_of : List ℕ → Option SectionPlace
place_of name = if begins_with 47 name then path_place None (section_path name) else at_repos (split_repos name)

-- the section of a place
abbrev pub at_place : Option SectionPlace → Option Section
at_place None = None
at_place (Some place) = Some (At place)

-- the section of this name: `groups`, `aliases`, or a place
unfoldable pub section_named : List ℕ → Option Section
section_named name =
    if bytes_eq name (codes "groups") then Some Groups else
    if bytes_eq name (codes "aliases") then Some Aliases else at_place (place_of name)

-- the section of the name, where there is one
abbrev pub section_in : Option (List ℕ) → Option Section
section_in None = None
section_in (Some name) = section_named name

-- the section that a line begins, if it is one
abbrev pub section_of : List ℕ → Option Section
section_of text = section_in (bracketed text)

-- the name of a section without the slash that may be dropped
abbrev pub place_name : Option (List ℕ) → List ℕ → List ℕ
place_name None path = path
place_name (Some repos) path = repos ++ 58 ∷ path
