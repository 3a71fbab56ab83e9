-- What is written piece by piece is what the tree says.
use Rattle.std.proofs.Common.{◌≡◌, ◌≢◌, ℕ, Bool, true, false, List, [], ◌∷◌, ◌++◌, ◌==◌, refl, sym, ap, ◌∙◌, append_assoc, length, ◌+◌, ◌<◌, take, get_or}
use Rattle.std.proofs.lemmas.List.{append-nil, take_more}
use Rattle.std.specs.Prelude.{codes}
use Rattle.std.specs.List.{flat_map}
use Rattle.dsv_base.specs.Escapes.{xml_escape, xml_text}
use Rattle.dav_documents.specs.Written.{Attribute, Written, Nothing, Element, joined, for_each, attribute_text, after_attributes, written_text, page_text, body_text, declaration}
use Rattle.dav_documents.specs.Drafts.{Draft, nothing_written, declaration_written, front_written, with_tag_closed, started, with_attribute, said, ended, with_written_text, with_attributes, with_elements}

-- elements after others
pub with_elements_joined : (a b : Written) (d : Draft) → with_elements (joined a b) d ≡ with_elements b (with_elements a d)
with_elements_joined Nothing b d = refl
with_elements_joined (Element name attributes text inside rest) b d = with_elements_joined rest b (ended name (with_elements inside (with_written_text text (with_attributes attributes (started name d)))))

pub with_attributes_append : (xs ys : List Attribute) (d : Draft) → with_attributes (xs ++ ys) d ≡ with_attributes ys (with_attributes xs d)
with_attributes_append [] ys d = refl
with_attributes_append (x ∷ xs) ys d = with_attributes_append xs ys (with_attribute x d)

-- behind an ended element there is no open tag
closed_stays : (w : Written) (d : Draft) → d.in_tag ≡ false → (with_elements w d).in_tag ≡ false
unfolding ended
closed_stays Nothing d h = h
closed_stays (Element name attributes text inside rest) d h = closed_stays rest (ended name (with_elements inside (with_written_text text (with_attributes attributes (started name d))))) refl

attributes_text : (attributes : List Attribute) (d : Draft) → (with_attributes attributes d).text ≡ d.text ++ flat_map attribute_text attributes
unfolding with_attribute
attributes_text [] d = sym (append-nil d.text)
attributes_text (a ∷ more) d = attributes_text more (with_attribute a d) ∙ append_assoc d.text (attribute_text a) (flat_map attribute_text more)

attributes_tag : (attributes : List Attribute) (d : Draft) → (with_attributes attributes d).in_tag ≡ d.in_tag
unfolding with_attribute
attributes_tag [] d = refl
attributes_tag (a ∷ more) d = attributes_tag more (with_attribute a d)

-- how a loop over a list goes on
pub for_each_append : {X : Type 0} → (elements : X → Written) (xs ys : List X) (d : Draft) → with_elements (for_each elements (xs ++ ys)) d ≡ with_elements (for_each elements ys) (with_elements (for_each elements xs) d)
for_each_append elements [] ys d = refl
for_each_append elements (x ∷ xs) ys d =
    with_elements_joined (elements x) (for_each elements (xs ++ ys)) d ∙ for_each_append elements xs ys (with_elements (elements x) d)
    ∙ ap (with_elements (for_each elements ys)) (sym (with_elements_joined (elements x) (for_each elements xs) d))

pub for_each_more : {X : Type 0} → (elements : X → Written) (xs : List X) (i : ℕ) (x : X) (d : Draft) → i < length xs → with_elements (for_each elements (take (i + 1) xs)) d ≡ with_elements (elements (get_or xs i x)) (with_elements (for_each elements (take i xs)) d)
for_each_more elements xs i x d h =
    ap (λ ys. with_elements (for_each elements ys) d) (take_more xs i x h) ∙ for_each_append elements (take i xs) (get_or xs i x ∷ []) d
    ∙ with_elements_joined (elements (get_or xs i x)) Nothing (with_elements (for_each elements (take i xs)) d)

pub for_each_step : {X : Type 0} → (elements : X → Written) (xs : List X) (i : ℕ) (x : X) (begin before after : Draft) → x ≡ get_or xs i x → i < length xs → before ≡ with_elements (for_each elements (take i xs)) begin → after ≡ with_elements (elements x) before → after ≡ with_elements (for_each elements (take (i + 1) xs)) begin
for_each_step elements xs i x begin before after is h b a = a ∙ ap (λ y. with_elements (elements y) before) is ∙ ap (with_elements (elements (get_or xs i x))) b ∙ sym (for_each_more elements xs i x begin h)

-- ---- the text of a draft

no_tag : (d : Draft) → d.in_tag ≡ false → with_tag_closed d ≡ d.text
unfolding with_tag_closed
no_tag d h = rw h (append-nil d.text)

open_tag : (d : Draft) → d.in_tag ≡ true → with_tag_closed d ≡ d.text ++ codes ">"
unfolding with_tag_closed
open_tag d h = rw h refl

ended_tag : (name : List ℕ) (d : Draft) → (ended name d).in_tag ≡ false
unfolding ended
ended_tag name d = refl

said_tag : (text : List ℕ) (d : Draft) → (said text d).in_tag ≡ false
unfolding said
said_tag text d = refl

said_text : (text : List ℕ) (d : Draft) → (said text d).text ≡ with_tag_closed d ++ xml_text text
unfolding said
said_text text d = refl

started_tag : (name : List ℕ) (d : Draft) → (started name d).in_tag ≡ true
unfolding started
started_tag name d = refl

started_text : (name : List ℕ) (d : Draft) → (started name d).text ≡ with_tag_closed d ++ codes "<" ++ name
unfolding started
started_text name d = refl

-- what `ended` adds, by whether there was content
empty_ended : (name : List ℕ) (d : Draft) → d.in_tag ≡ true → (ended name d).text ≡ d.text ++ after_attributes name []
unfolding ended
empty_ended name d h = rw h refl

full_ended : (name content front : List ℕ) (d : Draft) → content ≢ [] → d.in_tag ≡ false → d.text ≡ front ++ codes ">" ++ content → (ended name d).text ≡ front ++ after_attributes name content
unfolding ended
full_ended name [] front d n t h = absurd (n refl)
full_ended name (b ∷ bs) front d n t h = rw (t, h) (simp append_assoc refl)

cases : {P : Type 0} → (t : Bool) → (t ≡ true → P) → (t ≡ false → P) → P
cases true y n = y refl
cases false y n = n refl

escape_full : (b : ℕ) (rest : List ℕ) → xml_escape b ++ rest ≢ []
escape_full b rest =
    cases (b == 38) (λ h. rw h (λ x. cc)) (λ h1. cases (b == 60) (λ h. rw (h1, h) (λ x. cc)) (λ h2. cases (b == 62) (λ h. rw (h1, h2, h) (λ x. cc))
    (λ h3. cases (b == 34) (λ h. rw (h1, h2, h3, h) (λ x. cc)) (λ h4. cases (b == 13) (λ h. rw (h1, h2, h3, h4, h) (λ x. cc)) (λ h5. rw (h1, h2, h3, h4, h5) (λ x. cc))))))

text_full : (b : ℕ) (bs rest : List ℕ) → xml_text (b ∷ bs) ++ rest ≢ []
unfolding xml_text
text_full b bs rest h = escape_full b (flat_map xml_escape bs ++ rest) (sym (append_assoc (xml_escape b) (flat_map xml_escape bs) rest) ∙ h)

no_text : xml_text [] ≡ []
unfolding xml_text
no_text = refl

-- an element's tags and content, where its content is written as its tree says
element_ended : (name text : List ℕ) (inside : Written) (d : Draft) → d.in_tag ≡ true → ((e : Draft) → with_tag_closed (with_elements inside e) ≡ with_tag_closed e ++ written_text inside) → (ended name (with_elements inside (with_written_text text d))).text ≡ d.text ++ after_attributes name (xml_text text ++ written_text inside)
element_ended name [] Nothing d h writes = rw no_text (empty_ended name d h)
element_ended name [] (Element n attributes t i r) d h writes =
    let inside = Element n attributes t i r in
    let e = with_elements inside d in
    let tag : e.in_tag ≡ false = closed_stays r (ended n (with_elements i (with_written_text t (with_attributes attributes (started n d))))) (ended_tag n (with_elements i (with_written_text t (with_attributes attributes (started n d))))) in
    rw no_text (full_ended name (written_text inside) d.text e (λ x. cc) tag (sym (no_tag e tag) ∙ writes d ∙ ap (λ s. s ++ written_text inside) (open_tag d h)))
element_ended name (b ∷ bs) inside d h writes =
    let e = with_elements inside (said (b ∷ bs) d) in
    let tag : e.in_tag ≡ false = closed_stays inside (said (b ∷ bs) d) (said_tag (b ∷ bs) d) in
    full_ended name (xml_text (b ∷ bs) ++ written_text inside) d.text e (text_full b bs (written_text inside)) tag
    (sym (no_tag e tag) ∙ writes (said (b ∷ bs) d) ∙ ap (λ s. s ++ written_text inside) (no_tag (said (b ∷ bs) d) (said_tag (b ∷ bs) d) ∙ said_text (b ∷ bs) d ∙ ap (λ s. s ++ xml_text (b ∷ bs)) (open_tag d h)) ∙ simp append_assoc refl)

pub writes_the_tree : (w : Written) (d : Draft) → with_tag_closed (with_elements w d) ≡ with_tag_closed d ++ written_text w
writes_the_tree Nothing d = sym (append-nil (with_tag_closed d))
writes_the_tree (Element name attributes text inside rest) d =
    let d0 = with_attributes attributes (started name d) in
    let e = ended name (with_elements inside (with_written_text text d0)) in
    let content = xml_text text ++ written_text inside in
    let tag : d0.in_tag ≡ true = attributes_tag attributes (started name d) ∙ started_tag name d in
    let front : d0.text ≡ with_tag_closed d ++ codes "<" ++ name ++ flat_map attribute_text attributes = attributes_text attributes (started name d) ∙ ap (λ s. s ++ flat_map attribute_text attributes) (started_text name d) in
    let done : with_tag_closed e ≡ d0.text ++ after_attributes name content = no_tag e (ended_tag name (with_elements inside (with_written_text text d0))) ∙ element_ended name text inside d0 tag (writes_the_tree inside) in
    writes_the_tree rest e ∙ ap (λ s. s ++ written_text rest) (done ∙ ap (λ s. s ++ after_attributes name content) front) ∙ simp append_assoc refl

pub page_is : (w : Written) → with_tag_closed (with_elements w nothing_written) ++ codes "\n" ≡ page_text w
unfolding page_text nothing_written with_tag_closed
page_is w = ap (λ s. s ++ codes "\n") (writes_the_tree w nothing_written)

pub body_is : (w : Written) → with_tag_closed (with_elements w declaration_written) ++ codes "\n" ≡ body_text w
unfolding body_text page_text declaration_written with_tag_closed
body_is w = ap (λ s. s ++ codes "\n") (writes_the_tree w declaration_written) ∙ append_assoc declaration (written_text w) (codes "\n")

pub between_is : (w : Written) (front tail : List ℕ) → with_tag_closed (with_elements w (front_written front)) ++ tail ≡ front ++ written_text w ++ tail
unfolding front_written with_tag_closed
between_is w front tail = ap (λ s. s ++ tail) (writes_the_tree w (front_written front) ∙ ap (λ s. s ++ written_text w) (append-nil front))
