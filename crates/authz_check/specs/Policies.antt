-- A policy, as contracts see it.
use Rattle.std.specs.Prelude.{ℕ, List}
use Rattle.authz_file.specs.declared.rule.Rule.{Rule}

-- the rules of a file, and the name of the repository whose paths are asked about
pub record PolicyState : Type 0 where
  pub rules : List Rule
  pub name : List ℕ
