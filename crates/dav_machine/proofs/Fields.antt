-- Fields that are added one after another.
use Rattle.std.proofs.Common.{◌≡◌, List, [], ◌∷◌, ◌++◌, Result, Ok, Err, ap, ◌∙◌, append_assoc}
use Rattle.std.specs.Prelude.{OnOk}
use Rattle.dsv_base.specs.declared.field.Field.{Field}

pub one_more : {X E : Type 0} (r : Result X E) (old mid new more : List Field) (field : Field) → mid ≡ old ++ more → OnOk r (new ≡ mid ++ field ∷ []) → OnOk r (new ≡ old ++ (more ++ field ∷ []))
one_more (Ok x) old mid new more field first second = second ∙ ap (λ (fields : List Field). fields ++ field ∷ []) first ∙ append_assoc old more (field ∷ [])
one_more (Err e) old mid new more field first second = tt

-- the fields so far and one more
pub and_one : (old mid new more : List Field) (field : Field) → mid ≡ old ++ more → new ≡ mid ++ field ∷ [] → new ≡ old ++ (more ++ field ∷ [])
and_one old mid new more field first second = second ∙ ap (λ (fields : List Field). fields ++ field ∷ []) first ∙ append_assoc old more (field ∷ [])
