-- Options are read one after another from the front.
use Rattle.std.proofs.Common.{◌≡◌, ℕ, true, false, List, [], ◌∷◌, ap, ◌∙◌}
use Rattle.std.specs.Prelude.{if◌then◌else◌}
use Rattle.davsvn_run.specs.declared.verb.Verb.{Verb}
use Rattle.davsvn_run.specs.Options.{takes_value, stands_alone, with_option, read_options}

-- an option without a value stands at the front
pub front_alone : (verb : Verb) (word : List ℕ) (rest : List (List ℕ)) → stands_alone verb word ≡ true → read_options verb (word ∷ rest) ≡ with_option word [] (read_options verb rest)
unfolding read_options
front_alone verb word [] alone = ap (λ b. if b then ((word, []) ∷ [], []) else ([], word ∷ [])) alone
front_alone verb word (next ∷ rest) alone = ap (λ b. if b then with_option word [] (read_options verb (next ∷ rest)) else if takes_value verb word then with_option word next (read_options verb rest) else ([], word ∷ next ∷ rest)) alone

-- .. or one with a value
pub front_valued : (verb : Verb) (word next : List ℕ) (rest : List (List ℕ)) → stands_alone verb word ≡ false → takes_value verb word ≡ true → read_options verb (word ∷ next ∷ rest) ≡ with_option word next (read_options verb rest)
unfolding read_options
front_valued verb word next rest other valued =
    ap (λ b. if b then with_option word [] (read_options verb (next ∷ rest)) else if takes_value verb word then with_option word next (read_options verb rest) else ([], word ∷ next ∷ rest)) other
    ∙ ap (λ b. if b then with_option word next (read_options verb rest) else ([], word ∷ next ∷ rest)) valued

-- .. or another word
pub front_other : (verb : Verb) (word : List ℕ) (rest : List (List ℕ)) → stands_alone verb word ≡ false → takes_value verb word ≡ false → read_options verb (word ∷ rest) ≡ ([], word ∷ rest)
unfolding read_options
front_other verb word [] other none = ap (λ b. if b then ((word, []) ∷ [], []) else ([], word ∷ [])) other
front_other verb word (next ∷ rest) other none =
    ap (λ b. if b then with_option word [] (read_options verb (next ∷ rest)) else if takes_value verb word then with_option word next (read_options verb rest) else ([], word ∷ next ∷ rest)) other
    ∙ ap (λ b. if b then with_option word next (read_options verb rest) else ([], word ∷ next ∷ rest)) none

-- .. or one whose value is missing, which is a word
pub front_last : (verb : Verb) (word : List ℕ) → stands_alone verb word ≡ false → read_options verb (word ∷ []) ≡ ([], word ∷ [])
unfolding read_options
front_last verb word other = ap (λ b. if b then ((word, []) ∷ [], []) else ([], word ∷ [])) other
