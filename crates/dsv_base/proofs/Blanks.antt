-- Blanks at the end of a text, one by one.
use Rattle.std.proofs.Common.{◌≡◌, ℕ, ◌-◌, ◌≤◌, Bool, true, false, ◌&&◌, List, [], ◌∷◌, ◌++◌, length, take, get_or, refl, sym, ap, ◌∙◌, arith}
use Rattle.std.specs.Prelude.{if◌then◌else◌}
use Rattle.std.specs.List.{list_all}
use Rattle.std.proofs.lemmas.Grind.{common_steps}
use Rattle.std.proofs.lemmas.List.{take-append-drop}
use Rattle.std.proofs.lemmas.List.Folds.{list_all-append}
use Rattle.dsv_base.specs.TextFiles.{is_blank, without_back}

both_true : (b c : Bool) → c ≡ true → (b && (c && true)) ≡ b
both_true true c h = rw h refl
both_true false c h = refl

both_false : (b c : Bool) → c ≡ false → (b && (c && true)) ≡ false
both_false true c h = rw h refl
both_false false c h = refl

pub all_blank : (xs : List ℕ) (b : ℕ) → is_blank b ≡ true → list_all is_blank (xs ++ b ∷ []) ≡ list_all is_blank xs
all_blank xs b h = list_all-append is_blank xs (b ∷ []) ∙ both_true (list_all is_blank xs) (is_blank b) h

pub not_blank : (xs : List ℕ) (b : ℕ) → is_blank b ≡ false → list_all is_blank (xs ++ b ∷ []) ≡ false
not_blank xs b h = list_all-append is_blank xs (b ∷ []) ∙ both_false (list_all is_blank xs) (is_blank b) h

-- a text and its last byte
pub ends : (text : List ℕ) → 1 ≤ length text → text ≡ take (length text - 1) text ++ get_or text (length text - 1) 0 ∷ []
ends text h = grind (arith, common_steps, take-append-drop (length text - 1) text)

back_blank : (xs : List ℕ) (b : ℕ) → is_blank b ≡ true → without_back (xs ++ b ∷ []) ≡ without_back xs
back_blank [] b h = ap (λ c. if c then [] else b ∷ []) (all_blank [] b h)
back_blank (x ∷ xs) b h = rw (all_blank (x ∷ xs) b h, back_blank xs b h) refl

back_other : (xs : List ℕ) (b : ℕ) → is_blank b ≡ false → without_back (xs ++ b ∷ []) ≡ xs ++ b ∷ []
back_other [] b h = ap (λ c. if c then [] else b ∷ []) (not_blank [] b h)
back_other (x ∷ xs) b h = rw (not_blank (x ∷ xs) b h, back_other xs b h) refl

-- a blank at the end changes nothing
pub without_back-blank : (text : List ℕ) → 1 ≤ length text → is_blank (get_or text (length text - 1) 0) ≡ true → without_back (take (length text - 1) text) ≡ without_back text
without_back-blank text h blank = sym (back_blank (take (length text - 1) text) (get_or text (length text - 1) 0) blank) ∙ ap without_back (sym (ends text h))

-- a text that ends otherwise stays
pub without_back-other : (text : List ℕ) → 1 ≤ length text → is_blank (get_or text (length text - 1) 0) ≡ false → text ≡ without_back text
without_back-other text h other = ends text h ∙ sym (back_other (take (length text - 1) text) (get_or text (length text - 1) 0) other) ∙ ap without_back (sym (ends text h))
