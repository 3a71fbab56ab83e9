-- What the program's own calls say of the places of rules in their list, and of their order by path.
use Rattle.std.specs.Prelude.{◌≡◌, ℕ, Bool, ◌&&◌, List, [], Option, None, Some, true, false}
use Rattle.std.specs.List.{Contains, slice_get}
use Rattle.std.specs.List.Sorted.{IsSortedBy}
use Rattle.std.specs.Option.{option_map_or}
use Rattle.std.specs.Ordering.{nat_cmp, is_lt}
use Rattle.std.specs.Cmp.Lexicographic.{slice_cmp}
use Rattle.dsv_base.specs.Paths.{is_under}
use Rattle.authz_file.specs.declared.rule.Rule.{Rule}
use Rattle.authz_check.specs.Everywhere.{speaks_of}

-- the path of the rule at a place, and no text where there is no rule
abbrev pub rule_path : List Rule → ℕ → List ℕ
rule_path rules place = option_map_or (λ rule. rule.path) (slice_get rules place) []

-- the place of each rule of a kind stands among these places
abbrev pub HasEach : (Rule → Type 0) → List Rule → List ℕ → Type 0
HasEach Kind rules places = (i : ℕ) (rule : Rule) → slice_get rules i ≡ Some rule → Kind rule → Contains places i

-- the places stand in byte order of their rules' paths
abbrev pub IsRising : List Rule → List ℕ → Type 0
IsRising rules places = IsSortedBy (λ a b. is_lt (slice_cmp nat_cmp (rule_path rules a) (rule_path rules b))) places

-- the places of the rules that speak of a repository, in order of their paths
pub record IsOrder (name : List ℕ) (rules : List Rule) (places : List ℕ) : Type 0 where
  pub each : HasEach (λ rule. speaks_of name rule ≡ true) rules places
  pub rising : IsRising rules places

-- the rule, where the test holds
abbrev pub where_true : Bool → Rule → Option Rule
where_true true rule = Some rule
where_true false rule = None

-- the rule, where it stands at or under the path, in a section that speaks of the repository
abbrev pub as_section : List ℕ → List ℕ → Option Rule → Option Rule
as_section name top None = None
as_section name top (Some rule) = where_true (speaks_of name rule && is_under rule.path top) rule

-- the rule at a place, where it stands in a section under the path that speaks of the repository
abbrev pub section_rule_at : List Rule → List ℕ → List ℕ → ℕ → Option Rule
section_rule_at rules name top place = as_section name top (slice_get rules place)
