-- What `accessof` answers.
use Rattle.std.specs.Prelude.{ℕ, Bool, true, false, List, Option, None, Some, codes, nat_eq, if◌then◌else◌}
use Rattle.authz_file.specs.declared.right.Right.{Right}
use Rattle.authz_file.specs.declared.right.Right.TheVariants.{No, Read, Write}
use Rattle.authz_file.specs.declared.rule.Rule.{Rule}
use Rattle.authz_check.specs.Access.{access}
use Rattle.authz_check.specs.Everywhere.{all_access, rank}
use Rattle.davsvn_run.specs.declared.end.End.{End}
use Rattle.davsvn_run.specs.declared.end.End.TheVariants.{Well, OtherRight}
use Rattle.davsvn_run.specs.Commands.{Question}

-- the greatest right that the user has at the path and at every path under it
abbrev pub right_everywhere : List Rule → List ℕ → Option (List ℕ) → List ℕ → Right
right_everywhere rules name user path =
    if all_access rules name user path Write then Write else
    if all_access rules name user path Read then Read else No

-- the user's right at the path, or with `recursive` the one that is held at every path under it, too
abbrev pub right_by : List Rule → List ℕ → Option (List ℕ) → List ℕ → Bool → Right
right_by rules name user path recursive =
    if recursive then right_everywhere rules name user path else access rules name user path

-- the right that is asked for
abbrev pub right_asked : List Rule → Question → List ℕ → Right
right_asked rules question path = right_by rules question.repos question.user path question.recursive

-- a right as it is printed
abbrev pub right_line : Right → List ℕ
right_line No = codes "no\n"
right_line Read = codes "r\n"
right_line Write = codes "rw\n"

-- it is the right that was expected, if one was
abbrev pub is_expected : Option Right → Right → Bool
is_expected None right = true
is_expected (Some expected) right = nat_eq (rank expected) (rank right)

-- the end of a run that told its right
abbrev pub judged : Bool → End
judged true = Well
judged false = OtherRight
