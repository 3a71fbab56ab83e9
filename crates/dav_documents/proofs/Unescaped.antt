-- Texts that are written as they stand.
use Rattle.std.proofs.Common.{◌≡◌, ℕ, false, List, [], ◌∷◌, ◌++◌, refl, ap, ◌∙◌, arith}
use Rattle.std.specs.List.{list_any, flat_map}
use Rattle.std.proofs.lemmas.Bool.{or_parts}
use Rattle.std.proofs.lemmas.Bool.Decides.{nat_tests}
use Rattle.dsv_base.specs.Escapes.{xml_escape, xml_text}
use Rattle.dav_documents.specs.Plain.{needs_escape}

byte_kept : (b : ℕ) → needs_escape b ≡ false → xml_escape b ≡ b ∷ []
byte_kept b stays = grind (arith, nat_tests)

-- a text none of whose bytes needs an escape
pub text_kept : (text : List ℕ) → list_any needs_escape text ≡ false → xml_text text ≡ text
unfolding xml_text
text_kept [] stays = refl
text_kept (b ∷ bs) stays =
    let parts = or_parts (needs_escape b) (list_any needs_escape bs) stays in
    ap (λ front. front ++ flat_map xml_escape bs) (byte_kept b parts.0) ∙ ap (λ rest. b ∷ rest) (text_kept bs parts.1)
