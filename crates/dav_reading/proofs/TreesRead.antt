-- What is written of a tree is read as the tree for which it stands.
use Rattle.std.proofs.Common.{◌≡◌, ℕ, true, false, cond, ◌&&◌, List, [], ◌∷◌, ◌++◌, map, Option, Some, None, refl, sym, ap, subst, ◌∙◌, arith, nat_eq, append_assoc}
use Rattle.std.proofs.lemmas.List.{append-nil}
use Rattle.std.proofs.lemmas.Option.{same_Some}
use Rattle.std.proofs.lemmas.Bool.Decides.{nat_tests}
use Rattle.std.specs.Prelude.{◌+◌, option_and_then, option_map, Ok, Err}
use Rattle.std.specs.List.{flat_map, list_all}
use Rattle.std.specs.Str.{bytes_eq}
use Rattle.dsv_base.specs.Escapes.{xml_text, xml_plain}
use Rattle.dav_documents.specs.Plain.{begins_name, is_written_name}
use Rattle.dav_documents.specs.Written.{Attribute, Written, Nothing, Element, attribute_text, after_attributes, element_text, written_text, declaration, page_text, body_text, is_plain_attribute, is_plain}
use Rattle.dav_elements.specs.declared.elem.Part.{Part, Child}
use Rattle.dav_elements.specs.declared.elem.Elem.{Elem}
use Rattle.dav_elements.specs.declared.tag.Raw.{Raw}
use Rattle.dav_elements.specs.declared.tag.Tag.{Tag}
use Rattle.dav_elements.specs.declared.frame.Opened.{Opened}
use Rattle.dav_elements.specs.declared.frame.Frame.{Frame}
use Rattle.dav_elements.specs.declared.progress.Progress.{Progress}
use Rattle.dav_elements.specs.declared.progress.Progress.TheVariants.{Before, Within, After}
use Rattle.dav_elements.specs.Opening.{outermost, opened_by}
use Rattle.dav_elements.specs.Growing.{enter, leave, frame_closed, fresh, all_parts, with_part, elem_of, text_part}
use Rattle.dsv_base.specs.Gives.{◌>>=◌}
use Rattle.dav_reading.specs.declared.tree_fault.TreeFault.TheVariants.{BadDocument}
use Rattle.dav_reading.specs.declared.mode.Reader.{Reader}
use Rattle.dav_reading.specs.declared.mode.Brackets.{Brackets}
use Rattle.dav_reading.specs.declared.mode.Brackets.TheVariants.{Zero}
use Rattle.dav_reading.specs.declared.mode.Mode.TheVariants.{Among, Behind, Content, Keying, Naming, Slash}
use Rattle.dav_reading.specs.LineEnds.{lines_joined}
use Rattle.dav_reading.specs.Heads.{behind_mark, after_word, quoted, after_name_stated, value_stated, stated, names_next, after_version, after_encoding, after_standalone, after_declaration, begins_declaration, after_head}
use Rattle.dav_reading.specs.Modes.{read_bytes}
use Rattle.dav_reading.specs.Documents.{reader_at_start, answer_at_end, document_in, document, element_or_form, tree}
use Rattle.dav_reading.specs.WrittenTrees.{read_attribute, read_tag, elem_with, parts_written, elem_written}
use Rattle.dav_reading.proofs.Steps.{placed_in, then_in, both, read_on, took, took_one, naming, keying, closing_name, value_read, brackets_behind, text_read, texted}
use Rattle.dav_reading.proofs.Spelling.{attribute_spelled, inside_spelled, element_spelled}
use Rattle.dav_reading.proofs.Clean.{name_of, no_empty_name, name_bytes, clean-body, clean-plain, lines_joined-clean}

-- an attribute
abbrev with_raws : Tag → List Raw → Tag
with_raws tag more = record { name = tag.name; attrs = tag.attrs ++ more }

key_read : (n : ℕ) (progress : Progress) (tag : Tag) (c : ℕ) (cs rest : List ℕ) → is_written_name (c ∷ cs) ≡ true → read_bytes (placed_in n (Among tag) progress) (c ∷ cs ++ rest) ≡ read_bytes (placed_in n (Keying tag (c ∷ cs)) progress) rest
key_read n progress tag c cs rest h =
    let o = name_of c cs h in
    took n (begins_name c) _ _ (cs ++ rest) o.first ∙ read_on _ _ cs rest (keying n progress tag (c ∷ []) cs o.others)

attribute_read : (n : ℕ) (progress : Progress) (tag : Tag) (name value : List ℕ) → is_written_name name ≡ true → read_bytes (placed_in n (Behind tag) progress) (attribute_text (record { name = name; value = value })) ≡ then_in n (Behind (with_raws tag (read_attribute (record { name = name; value = value }) ∷ []))) progress
attribute_read n progress tag [] value h = absurd (no_empty_name h)
attribute_read n progress tag (c ∷ cs) value h = ap (read_bytes (placed_in n (Behind tag) progress)) (attribute_spelled (c ∷ cs) value) ∙ key_read n progress tag c cs (61 ∷ 34 ∷ (xml_text value ++ 34 ∷ [])) h ∙ read_on _ _ (xml_text value) (34 ∷ []) (value_read n progress tag (c ∷ cs) [] value)

attributes_read : (n : ℕ) (progress : Progress) (tag : Tag) (attributes : List Attribute) → list_all is_plain_attribute attributes ≡ true → read_bytes (placed_in n (Behind tag) progress) (flat_map attribute_text attributes) ≡ then_in n (Behind (with_raws tag (map read_attribute attributes))) progress
attributes_read n progress tag [] h = ap (λ l. then_in n (Behind (record { name = tag.name; attrs = l })) progress) (sym (append-nil tag.attrs))
attributes_read n progress tag (a ∷ attributes) h =
    let p = both (is_plain_attribute a) (list_all is_plain_attribute attributes) h in
    let q = both (is_written_name a.name) (xml_plain a.value) p.0 in
    read_on (placed_in n (Behind tag) progress) _ (attribute_text a) (flat_map attribute_text attributes) (attribute_read n progress tag a.name a.value q.0)
    ∙ attributes_read n progress (with_raws tag (read_attribute a ∷ [])) attributes p.1
    ∙ ap (λ l. then_in n (Behind (record { name = tag.name; attrs = l })) progress) (append_assoc tag.attrs (read_attribute a ∷ []) (map read_attribute attributes))

-- a start tag, up to its end
abbrev bare : List ℕ → Tag
bare name = record { name = name; attrs = [] }

turn : (n : ℕ) (progress : Progress) (name content : List ℕ) (attributes : List Attribute) → read_bytes (placed_in n (Naming name) progress) (flat_map attribute_text attributes ++ after_attributes name content) ≡ read_bytes (placed_in n (Behind (bare name)) progress) (flat_map attribute_text attributes ++ after_attributes name content)
turn n progress name content (a ∷ attributes) = refl
turn n progress name [] [] = refl
turn n progress name (b ∷ bs) [] = refl

name_read : (n : ℕ) (y : Brackets) (progress : Progress) (name rest : List ℕ) → is_written_name name ≡ true → read_bytes (placed_in n (Content y) progress) (60 ∷ (name ++ rest)) ≡ read_bytes (placed_in (n + 1) (Naming name) progress) rest
name_read n y progress [] rest h = absurd (no_empty_name h)
name_read n y progress (c ∷ cs) rest h =
    let o = name_of c cs h in
    took_one n (begins_name c) _ _ (cs ++ rest) o.first ∙ read_on _ _ cs rest (naming (n + 1) progress (c ∷ []) cs o.others)

tag_read : (n : ℕ) (y : Brackets) (progress : Progress) (name content : List ℕ) (attributes : List Attribute) → is_written_name name ≡ true → list_all is_plain_attribute attributes ≡ true
    → read_bytes (placed_in n (Content y) progress) (element_text name attributes content) ≡ read_bytes (placed_in (n + 1) (Behind (read_tag name attributes)) progress) (after_attributes name content)
tag_read n y progress name content attributes h r = ap (read_bytes (placed_in n (Content y) progress)) (element_spelled name content attributes) ∙ name_read n y progress name (flat_map attribute_text attributes ++ after_attributes name content) h ∙ turn (n + 1) progress name content attributes
    ∙ read_on (placed_in (n + 1) (Behind (bare name)) progress) _ (flat_map attribute_text attributes) (after_attributes name content) (attributes_read (n + 1) progress (bare name) attributes r)

-- an end tag
same_byte : (b : ℕ) → nat_eq b b ≡ true
same_byte b = grind (arith, nat_tests)

same_bytes : (name : List ℕ) → bytes_eq name name ≡ true
same_bytes [] = refl
same_bytes (b ∷ bs) = rw (same_byte b) (same_bytes bs)

left : (f : Frame) (around : List Frame) → leave (Within f around) f.raw ≡ Some (frame_closed f around)
left f around = rw (same_bytes f.raw) refl

end_read : (n : ℕ) (y : Brackets) (f : Frame) (around : List Frame) → is_written_name f.raw ≡ true → read_bytes (placed_in n (Content y) (Within f around)) (60 ∷ 47 ∷ (f.raw ++ 62 ∷ [])) ≡ then_in n (Content Zero) (frame_closed f around)
end_read n y f around h = read_on _ _ f.raw (62 ∷ []) (closing_name n (Within f around) [] f.raw (name_bytes f.raw h)) ∙ rw (left f around) refl

slash_read : (n : ℕ) (progress : Progress) (tag : Tag) (f : Frame) (around : List Frame) → enter progress tag ≡ Some (Within f around) → tag.name ≡ f.raw → read_bytes (placed_in n (Slash tag) progress) (62 ∷ []) ≡ then_in n (Content Zero) (frame_closed f around)
slash_read n progress tag f around e same = rw e (rw same (rw (same_bytes f.raw) refl))

-- an element, by what its content does
element_read : (n k : ℕ) (y z : Brackets) (progress : Progress) (name content : List ℕ) (attributes : List Attribute) (f g : Frame) (around : List Frame) → is_written_name name ≡ true → list_all is_plain_attribute attributes ≡ true
    → enter progress (read_tag name attributes) ≡ Some (Within f around) → name ≡ g.raw
    → read_bytes (placed_in (n + 1) (Content Zero) (Within f around)) content ≡ then_in k (Content z) (Within g around)
    → read_bytes (placed_in n (Content y) progress) (element_text name attributes content) ≡ then_in k (Content Zero) (frame_closed g around)
element_read n k y z progress name [] attributes f g around h r e same inner =
    let w : Within f around ≡ Within g around = ap (λ (m : Reader). m.place.progress) (same_Some _ _ inner) in
    let c : n + 1 ≡ k = ap (λ (m : Reader). m.begun) (same_Some _ _ inner) in
    tag_read n y progress name [] attributes h r ∙ slash_read (n + 1) progress (read_tag name attributes) g around (e ∙ ap Some w) same ∙ ap (λ m. then_in m (Content Zero) (frame_closed g around)) c
element_read n k y z progress name (b ∷ bs) attributes f g around h r e same inner =
    let h' : is_written_name g.raw ≡ true = subst (λ m. is_written_name m ≡ true) same h in
    tag_read n y progress name (b ∷ bs) attributes h r ∙ ap (read_bytes (placed_in (n + 1) (Behind (read_tag name attributes)) progress)) (inside_spelled name b bs)
    ∙ rw (e, same) (read_on (placed_in (n + 1) (Content Zero) (Within f around)) _ (b ∷ bs) (60 ∷ 47 ∷ (g.raw ++ 62 ∷ [])) inner ∙ end_read k z g around h')

-- the elements that follow each other in an element
abbrev with_parts : Frame → List Part → Frame
with_parts f [] = f
with_parts f (p ∷ ps) = record f { parts = all_parts f ++ p ∷ ps; text = [] }

with_parts-more : (f : Frame) (p : Part) (ps : List Part) → with_parts (with_part f p) ps ≡ with_parts f (p ∷ ps)
with_parts-more f p [] = refl
with_parts-more f p (q ∷ qs) = ap (λ l. record f { parts = l; text = [] }) (ap (λ l. l ++ q ∷ qs) (append-nil (all_parts f ++ p ∷ [])) ∙ append_assoc (all_parts f) (p ∷ []) (q ∷ qs))

-- what a chain of steps that may fail went through
record Through {A B : Type 0} (o : Option A) (k : A → Option B) (y : B) : Type 0 where
  pub value : A
  pub is : o ≡ Some value
  pub then : k value ≡ Some y

through : {A B : Type 0} (o : Option A) (k : A → Option B) (y : B) → option_and_then k o ≡ Some y → Through o k y
through None k y h = absurd (cc)
through (Some x) k y h = record { value = x; is = refl; then = h }

record Mapped {A B : Type 0} (o : Option A) (k : A → B) (y : B) : Type 0 where
  pub value : A
  pub is : o ≡ Some value
  pub then : k value ≡ y

mapped : {A B : Type 0} (o : Option A) (k : A → B) (y : B) → option_map k o ≡ Some y → Mapped o k y
mapped None k y h = absurd (cc)
mapped (Some x) k y h = record { value = x; is = refl; then = same_Some (k x) y h }

-- the content of an element
abbrev filled : Frame → List ℕ → List Part → Frame
filled f text parts = with_parts (texted f text) parts

elem_of-filled : (name text : List ℕ) (o : Opened) (parts : List Part) → elem_of (filled (fresh name o) text parts) ≡ elem_with o text parts
elem_of-filled name text o [] = ap (λ l. record { name = o.name; attrs = o.attrs; parts = l }) (sym (append-nil (text_part text)))
elem_of-filled name text o (p ∷ ps) = ap (λ l. record { name = o.name; attrs = o.attrs; parts = l }) (append-nil (text_part text ++ p ∷ ps))

raw-filled : (name text : List ℕ) (o : Opened) (parts : List Part) → name ≡ (filled (fresh name o) text parts).raw
raw-filled name text o [] = refl
raw-filled name text o (p ∷ ps) = refl

-- how many elements have begun behind those that are written
abbrev begun_behind : ℕ → Written → ℕ
begun_behind n Nothing = n
begun_behind n (Element name attributes text inside rest) = begun_behind (begun_behind (n + 1) inside) rest

-- how many `]` stand in a row behind them; none behind an element
abbrev brackets_past : Brackets → Written → Brackets
brackets_past y Nothing = y
brackets_past y (Element name attributes text inside rest) = brackets_past Zero rest

forest_read : (w : Written) (n : ℕ) (y : Brackets) (f : Frame) (around : List Frame) (parts : List Part) → is_plain w ≡ true → parts_written f.head.scope w ≡ Some parts
    → read_bytes (placed_in n (Content y) (Within f around)) (written_text w) ≡ then_in (begun_behind n w) (Content (brackets_past y w)) (Within (with_parts f parts) around)
forest_read Nothing n y f around parts h e = ap (λ ps. then_in n (Content y) (Within (with_parts f ps) around)) (same_Some [] parts e)
forest_read (Element name attributes text inside rest) n y f around parts h e =
    let h1 = both (is_written_name name && list_all is_plain_attribute attributes && xml_plain text && is_plain inside) (is_plain rest) h in
    let h2 = both (is_written_name name && list_all is_plain_attribute attributes && xml_plain text) (is_plain inside) h1.0 in
    let h3 = both (is_written_name name && list_all is_plain_attribute attributes) (xml_plain text) h2.0 in
    let h4 = both (is_written_name name) (list_all is_plain_attribute attributes) h3.0 in
    let t = through (opened_by f.head.scope (read_tag name attributes)) _ parts e in
    let u = through (parts_written t.value.scope inside) _ parts t.then in
    let v = mapped (parts_written f.head.scope rest) _ parts u.then in
    let f0 = fresh name t.value in
    let entered : enter (Within f around) (read_tag name attributes) ≡ Some (Within f0 (f ∷ around)) = ap (option_map (λ o. Within (fresh name o) (f ∷ around))) t.is in
    let z = brackets_behind Zero text in
    let k = begun_behind (n + 1) inside in
    let inner = read_on (placed_in (n + 1) (Content Zero) (Within f0 (f ∷ around))) _ (xml_text text) (written_text inside) (text_read (n + 1) Zero f0 (f ∷ around) text) ∙ forest_read inside (n + 1) z (texted f0 text) (f ∷ around) u.value h2.1 u.is in
    let child = Child (elem_with t.value text u.value) in
    let one = element_read n k y (brackets_past z inside) (Within f around) name (xml_text text ++ written_text inside) attributes f0 (filled f0 text u.value) (f ∷ around) h4.0 h4.1 entered (raw-filled name text t.value u.value) inner
    ∙ ap (λ x. then_in k (Content Zero) (Within (with_part f (Child x)) around)) (elem_of-filled name text t.value u.value) in
    read_on (placed_in n (Content y) (Within f around)) _ (element_text name attributes (xml_text text ++ written_text inside)) (written_text rest) one
    ∙ forest_read rest k Zero (with_part f child) around v.value h1.1 v.is
    ∙ ap (λ g. then_in (begun_behind k rest) (Content (brackets_past Zero rest)) (Within g around)) (with_parts-more f child v.value)
    ∙ ap (λ ps. then_in (begun_behind k rest) (Content (brackets_past Zero rest)) (Within (with_parts f ps) around)) v.then

-- a document
root_read : (w : Written) (nest : ℕ) (e : Elem) → is_plain w ≡ true → elem_written nest w ≡ Some e → read_bytes (reader_at_start nest) (written_text w) ≡ then_in (begun_behind 0 w) (Content Zero) (After e)
root_read Nothing nest e h is = absurd (cc)
root_read (Element name attributes text inside (Element n r t i o)) nest e h is = absurd (cc)
root_read (Element name attributes text inside Nothing) nest e h is =
    let h2 = both (is_written_name name && list_all is_plain_attribute attributes && xml_plain text) (is_plain inside) (both _ true h).0 in
    let h3 = both (is_written_name name && list_all is_plain_attribute attributes) (xml_plain text) h2.0 in
    let h4 = both (is_written_name name) (list_all is_plain_attribute attributes) h3.0 in
    let t = through (opened_by (outermost nest) (read_tag name attributes)) _ e is in
    let u = mapped (parts_written t.value.scope inside) _ e t.then in
    let f0 = fresh name t.value in
    let entered : enter (Before nest false) (read_tag name attributes) ≡ Some (Within f0 []) = ap (option_map (λ o. Within (fresh name o) [])) t.is in
    let z = brackets_behind Zero text in
    let k = begun_behind (0 + 1) inside in
    let inner = read_on (placed_in (0 + 1) (Content Zero) (Within f0 [])) _ (xml_text text) (written_text inside) (text_read (0 + 1) Zero f0 [] text) ∙ forest_read inside (0 + 1) z (texted f0 text) [] u.value h2.1 u.is in
    let one = element_read 0 k Zero (brackets_past z inside) (Before nest false) name (xml_text text ++ written_text inside) attributes f0 (filled f0 text u.value) [] h4.0 h4.1 entered (raw-filled name text t.value u.value) inner in
    read_on (placed_in 0 (Content Zero) (Before nest false)) _ (element_text name attributes (xml_text text ++ written_text inside)) [] one
    ∙ ap (λ x. then_in k (Content Zero) (After x)) (elem_of-filled name text t.value u.value ∙ u.then)

head_read : (text : List ℕ) → after_head (behind_mark (declaration ++ text)) ≡ Some (10 ∷ text)
unfolding behind_mark after_word quoted after_name_stated value_stated stated names_next after_version after_encoding after_standalone after_declaration begins_declaration after_head
head_read text = refl

body_read : (w : Written) (nest : ℕ) (e : Elem) → is_plain w ≡ true → elem_written nest w ≡ Some e → document_in nest (body_text w) ≡ Ok (record { root = e; form = None })
unfolding body_text page_text
body_read w nest e h is = ap (λ o. answer_at_end (option_and_then (read_bytes (reader_at_start nest)) o)) (head_read (written_text w ++ 10 ∷ []))
    ∙ ap answer_at_end (read_on (placed_in 0 (Content Zero) (Before nest false)) (placed_in (begun_behind 0 w) (Content Zero) (After e)) (written_text w) (10 ∷ []) (root_read w nest e h is))

document_read : (w : Written) (nest : ℕ) (e : Elem) → is_plain w ≡ true → elem_written nest w ≡ Some e → document nest (body_text w) ≡ Ok (record { root = e; form = None })
unfolding document
document_read w nest e h is =
    let f = clean-body w h in
    ap (λ t. cond t (document_in nest (lines_joined (body_text w))) (Err BadDocument)) (clean-plain (body_text w) f) ∙ ap (document_in nest) (lines_joined-clean (body_text w) f.lines) ∙ body_read w nest e h is

pub written_read : (w : Written) (nest : ℕ) (e : Elem) → is_plain w ≡ true → elem_written nest w ≡ Some e → (document nest (body_text w) ≡ Ok (record { root = e; form = None })) × (tree nest (body_text w) ≡ Ok e)
unfolding tree
written_read w nest e h is = let d = document_read w nest e h is in (d, ap (λ r. r >>= element_or_form) d)
