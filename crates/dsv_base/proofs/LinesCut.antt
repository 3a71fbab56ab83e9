-- The lines of a text, by where its first line is cut off.
use Rattle.std.proofs.Common.{◌≡◌, ℕ, Bool, true, false, List, [], ◌∷◌, Option, None, Some, refl, ap, ◌∙◌}
use Rattle.std.specs.Prelude.{if◌then◌else◌}
use Rattle.std.specs.List.{slice_split, onto_first}
use Rattle.std.specs.Option.{option_map}
use Rattle.dsv_base.specs.Lines.{lines_of, cut_at, is_line_feed}

-- the lines as the cut gives them
abbrev pub cut_lines : List ℕ → Option (List ℕ × List ℕ) → List (List ℕ)
cut_lines text None = text ∷ []
cut_lines text (Some cut) = cut.0 ∷ slice_split is_line_feed cut.1

onto : (b : ℕ) (text : List ℕ) (cut : Option (List ℕ × List ℕ)) → onto_first b (cut_lines text cut) ≡ cut_lines (b ∷ text) (option_map (λ cut. (b ∷ cut.0, cut.1)) cut)
onto b text None = refl
onto b text (Some cut) = refl

more : (b : ℕ) (bs : List ℕ) (stops : Bool) → slice_split is_line_feed bs ≡ cut_lines bs (cut_at 10 bs) → (if stops then [] ∷ slice_split is_line_feed bs else onto_first b (slice_split is_line_feed bs)) ≡ cut_lines (b ∷ bs) (if stops then Some ([], bs) else option_map (λ (cut : List ℕ × List ℕ). (b ∷ cut.0, cut.1)) (cut_at 10 bs))
more b bs true others = refl
more b bs false others = ap (onto_first b) others ∙ onto b bs (cut_at 10 bs)

pub lines_of-cut : (text : List ℕ) → lines_of text ≡ cut_lines text (cut_at 10 text)
unfolding lines_of
lines_of-cut [] = refl
lines_of-cut (b ∷ bs) = more b bs (is_line_feed b) (lines_of-cut bs)
