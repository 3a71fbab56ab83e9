-- What is written, as one text behind another.
use Rattle.std.proofs.Common.{◌≡◌, ℕ, List, [], ◌∷◌, ◌++◌, ap, ◌∙◌, append_assoc}
use Rattle.std.specs.List.{flat_map}
use Rattle.dsv_base.specs.Escapes.{xml_text}
use Rattle.dav_documents.specs.Written.{Attribute, attribute_text, after_attributes, element_text}

pub attribute_spelled : (name value : List ℕ) → attribute_text (record { name = name; value = value }) ≡ 32 ∷ (name ++ 61 ∷ 34 ∷ (xml_text value ++ 34 ∷ []))
attribute_spelled name value = ap (λ t. 32 ∷ t) (append_assoc (name ++ 61 ∷ 34 ∷ []) (xml_text value) (34 ∷ []) ∙ append_assoc name (61 ∷ 34 ∷ []) (xml_text value ++ 34 ∷ []))

pub inside_spelled : (name : List ℕ) (b : ℕ) (bs : List ℕ) → after_attributes name (b ∷ bs) ≡ 62 ∷ (b ∷ bs ++ (60 ∷ 47 ∷ (name ++ 62 ∷ [])))
inside_spelled name b bs = ap (λ t. 62 ∷ t) (append_assoc (b ∷ bs ++ 60 ∷ 47 ∷ []) name (62 ∷ []) ∙ append_assoc (b ∷ bs) (60 ∷ 47 ∷ []) (name ++ 62 ∷ []))

pub element_spelled : (name content : List ℕ) (attributes : List Attribute) → element_text name attributes content ≡ 60 ∷ (name ++ (flat_map attribute_text attributes ++ after_attributes name content))
element_spelled name content attributes = ap (λ t. 60 ∷ t) (append_assoc name (flat_map attribute_text attributes) (after_attributes name content))
