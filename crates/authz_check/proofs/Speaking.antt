-- A rule of one of the two sections of a path speaks of the repository.
use Rattle.std.proofs.Common.{◌≡◌, ℕ, true, List, Option, None, Some, ap, ◌∙◌}
use Rattle.std.specs.Prelude.{◌||◌}
use Rattle.std.specs.Option.{option_eq}
use Rattle.std.specs.Str.{bytes_eq}
use Rattle.std.proofs.lemmas.Slice.Eq.{bytes_eq-Decides}
use Rattle.authz_file.specs.declared.rule.Rule.{Rule}
use Rattle.authz_check.specs.Access.{is_in_section}
use Rattle.authz_check.specs.Everywhere.{speaks_of}
use Rattle.authz_check.proofs.Bools.{or-true, and-first, and-second}

path_is : (repos : Option (List ℕ)) (path : List ℕ) (rule : Rule) → is_in_section repos path rule ≡ true → rule.path ≡ path
path_is repos path rule h = (bytes_eq-Decides rule.path path).0 (and-second _ _ h)

pub plain_speaks : (name path : List ℕ) (rule : Rule) → is_in_section None path rule ≡ true → (speaks_of name rule ≡ true) × (rule.path ≡ path)
plain_speaks name path rule h = (ap (λ b. b || option_eq bytes_eq rule.repos (Some name)) (and-first _ _ h), path_is None path rule h)

pub own_speaks : (name path : List ℕ) (rule : Rule) → is_in_section (Some name) path rule ≡ true → (speaks_of name rule ≡ true) × (rule.path ≡ path)
own_speaks name path rule h = (ap (λ b. option_eq bytes_eq rule.repos None || b) (and-first _ _ h) ∙ or-true (option_eq bytes_eq rule.repos None), path_is (Some name) path rule h)
