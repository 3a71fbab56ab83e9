-- A file has lines, and all but the last lose their CR.
use Rattle.std.proofs.Common.{◌≡◌, ℕ, Bool, true, false, cond, List, [], ◌∷◌, refl, ap, sym, ◌∙◌}
use Rattle.std.specs.List.{onto_first, slice_split}
use Rattle.dsv_base.specs.Lines.{lines_of, is_line_feed}
use Rattle.dsv_base.specs.TextFiles.{file_lines, without_return, without_returns}

-- a text has a first part
parts_some : (text : List ℕ) → (next : List ℕ) × ((rest : List (List ℕ)) × (lines_of text ≡ next ∷ rest))
unfolding lines_of
parts_some [] = ([], ([], refl))
parts_some (b ∷ bs) = either (is_line_feed b) (parts_some bs)
  where
    either : (ends : Bool) → (next : List ℕ) × ((rest : List (List ℕ)) × (slice_split is_line_feed bs ≡ next ∷ rest)) → (next : List ℕ) × ((rest : List (List ℕ)) × (cond ends ([] ∷ slice_split is_line_feed bs) (onto_first b (slice_split is_line_feed bs)) ≡ next ∷ rest))
    either true h = ([], (slice_split is_line_feed bs, refl))
    either false h = (b ∷ h.0, (h.1.0, ap (onto_first b) h.1.1))

pub file_lines-last : (text : List ℕ) → lines_of text ≡ text ∷ [] → file_lines text ≡ text ∷ []
unfolding file_lines
file_lines-last text e = ap without_returns e

pub file_lines-first : (text line after : List ℕ) → lines_of text ≡ line ∷ lines_of after → file_lines text ≡ without_return line ∷ file_lines after
unfolding file_lines
file_lines-first text line after e =
    let some = parts_some after in
    ap without_returns (e ∙ ap (λ parts. line ∷ parts) some.1.1) ∙ ap (λ parts. without_return line ∷ without_returns parts) (sym some.1.1)
