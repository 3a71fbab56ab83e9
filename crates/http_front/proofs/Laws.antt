-- What holds of every message: one outcome, which more bytes don't change once it is whole or refused, and its size.
use Rattle.std.proofs.Common.{◌≡◌, ℕ, ◌+◌, ◌<◌, ◌≤◌, Bool, true, false, List, [], ◌++◌, length, take, drop, nat_lt, nat_le, refl, sym, ap, ◌∙◌, subst, arith, length-append, length-take, length-drop, inl, inr, Option, Some, None}
use Rattle.std.specs.Prelude.{MatchBool, ◌⊎◌, codes}
use Rattle.std.specs.Str.{str_eq_ignore_ascii_case}
use Rattle.std.proofs.lemmas.Bool.Decides.{nat_tests}
use Rattle.std.proofs.lemmas.List.{take-append-le, drop-append-le, length-take-le}
use Rattle.httparse.specs.Grammar.{RequestHead}
use Rattle.httparse.proofs.GrammarLemmas.{request_unique}
use Rattle.dsv_base.specs.declared.field.Field.{Field}
use Rattle.http_front.specs.declared.framing.Framing.{Framing}
use Rattle.http_front.specs.declared.framing.Framing.TheVariants.{Sized, Chunked, TooLong, Unframed}
use Rattle.http_front.specs.declared.message_fault.MessageFault.{MessageFault}
use Rattle.http_front.specs.declared.message_fault.MessageFault.TheVariants.{HeadTooLarge}
use Rattle.http_front.specs.declared.request.Request.{Request}
use Rattle.http_front.specs.declared.user.User.{User}
use Rattle.http_front.specs.Chunks.{IsContent, IsBody, within_encoded_limit}
use Rattle.http_front.specs.Fields.{has_field}
use Rattle.http_front.specs.Framings.{framing, framed_by, length_framing, coding_framing, sized, is_number}
use Rattle.http_front.specs.Messages.{IsFirst, IsMessage, IsNoHead, HeadSays, FramingSays, head_fields, request_of, sized_outcome, chunked_outcome}
use Rattle.http_front.specs.Outcomes.{Outcome, Whole, Part, Refused}
use Rattle.http_front.specs.Sections.{head_length, header_lines}
use Rattle.http_front.proofs.ChunkLemmas.{take_longer, content_unique}
use Rattle.http_front.proofs.ContentLemmas.{IsFinal, content_stable, content_size}
use Rattle.http_front.proofs.SectionLemmas.{head_size, head_stable}

part_not_final : {A : Type 0} (x : Outcome A) → x ≡ Part → IsFinal x → ⊥
part_not_final x e f = subst IsFinal e f

-- ---- one outcome

body_unique : (bytes : List ℕ) (x y : Outcome (List ℕ)) → IsBody bytes x → IsBody bytes y → x ≡ y
body_unique bytes x y a b = a.is ∙ ap (within_encoded_limit bytes) (content_unique (take 134217728 bytes) a.content b.content a.is_content b.is_content) ∙ sym b.is

module _ (users : List User) (number : ℕ) where
  framing_unique : (head : RequestHead) (n : ℕ) (after : List ℕ) (how : Framing) (x y : Outcome Request) → FramingSays users number head n after how x → FramingSays users number head n after how y → x ≡ y
  framing_unique head n after (Sized size) x y a b = a ∙ sym b
  framing_unique head n after Chunked x y a b = a.2 ∙ ap (chunked_outcome users number head n) (body_unique after a.0 b.0 a.1 b.1) ∙ sym b.2
  framing_unique head n after TooLong x y a b = a ∙ sym b
  framing_unique head n after Unframed x y a b = a ∙ sym b

  message_unique : (text after : List ℕ) (x y : Outcome Request) → IsMessage users number text after x → IsMessage users number text after y → x ≡ y
  message_unique text after x y a b =
      let same : a.head ≡ b.head = (request_unique text a.head b.head [] [] a.is_head.reads b.is_head.reads).0 in
      framing_unique a.head (length text) after (framing (head_fields a.head)) x y a.says
      (subst (λ h. FramingSays users number h (length text) after (framing (head_fields h)) y) (sym same) b.says)

  lines_unique : (many : Bool) (text after : List ℕ) (x y : Outcome Request)
      → MatchBool many (x ≡ Refused HeadTooLarge) (IsMessage users number text after x ⊎ IsNoHead text x)
      → MatchBool many (y ≡ Refused HeadTooLarge) (IsMessage users number text after y ⊎ IsNoHead text y) → x ≡ y
  lines_unique true text after x y a b = a ∙ sym b
  lines_unique false text after x y a b =
      elim a [
        | inl m ↦ elim b [ inl k ↦ message_unique text after x y m k | inr none ↦ absurd (none.none m.head m.is_head) ]
        | inr none ↦ elim b [ inl k ↦ absurd (none.none k.head k.is_head) | inr other ↦ none.is ∙ sym other.is ]
      ]

  head_unique : (bytes : List ℕ) (o : Option ℕ) (x y : Outcome Request) → HeadSays users number bytes o x → HeadSays users number bytes o y → x ≡ y
  head_unique bytes None x y a b = a ∙ sym b
  head_unique bytes (Some n) x y a b = lines_unique (nat_lt 100 (header_lines (take n bytes))) (take n bytes) (drop n bytes) x y a b

  -- two outcomes of the same bytes are one
  pub first_unique : (bytes : List ℕ) (x y : Outcome Request) → IsFirst users number bytes x → IsFirst users number bytes y → x ≡ y
  first_unique bytes x y a b = head_unique bytes (head_length (take 16384 bytes)) x y a.says b.says

-- ---- more bytes

body_taken : (bytes more : List ℕ) (x : Outcome (List ℕ)) → IsContent (take 134217728 bytes) x → IsFinal x → IsContent (take 134217728 (bytes ++ more)) x
body_taken bytes more x c f =
    let longer = take_longer 134217728 bytes more in
    subst (λ t. IsContent t x) (sym longer.1) (content_stable (take 134217728 bytes) longer.0 x c f)

body_by : (bytes more : List ℕ) (content x : Outcome (List ℕ)) → IsContent (take 134217728 bytes) content → x ≡ within_encoded_limit bytes content → IsFinal x → IsBody (bytes ++ more) x
body_by bytes more (Whole b n) x c e f = record { content = Whole b n; is_content = body_taken bytes more (Whole b n) c tt; is = e }
body_by bytes more (Refused why) x c e f = record { content = Refused why; is_content = body_taken bytes more (Refused why) c tt; is = e }
body_by bytes more Part x c e f =
    elim (nat_lt 134217728 (length bytes)) as (λ v. nat_lt 134217728 (length bytes) ≡ v → IsBody (bytes ++ more) x) [
      | true ↦ λ t.
          let long : 134217728 < length bytes = grind (arith, nat_tests) in
          let test : nat_lt 134217728 (length (bytes ++ more)) ≡ true = grind (arith, nat_tests, length-append bytes more) in
          record {
            content = Part;
            is_content = subst (λ k. IsContent k Part) (sym (take-append-le 134217728 bytes more (omega arith))) c;
            is = rw test (rw t at e);
          }
      | false ↦ λ t. absurd (part_not_final x (rw t at e) f)
    ] refl

module _ (users : List User) (number : ℕ) where
  chunked_final : (head : RequestHead) (n : ℕ) (body : Outcome (List ℕ)) (x : Outcome Request) → x ≡ chunked_outcome users number head n body → IsFinal x → IsFinal body
  chunked_final head n (Whole b k) x e f = tt
  chunked_final head n Part x e f = part_not_final x e f
  chunked_final head n (Refused why) x e f = tt

  framing_stable : (head : RequestHead) (n : ℕ) (after more : List ℕ) (how : Framing) (x : Outcome Request) → FramingSays users number head n after how x → IsFinal x → FramingSays users number head n (after ++ more) how x
  framing_stable head n after more (Sized size) x e f =
      elim (nat_le size (length after)) as (λ v. nat_le size (length after) ≡ v → x ≡ sized_outcome users number head n size (after ++ more)) [
        | true ↦ λ t.
            let fits : size ≤ length after = grind (arith, nat_tests) in
            let test : nat_le size (length (after ++ more)) ≡ true = grind (arith, nat_tests, length-append after more) in
            rw test (rw t at e ∙ ap (λ b. Whole (request_of users number head b) (n + size)) (sym (take-append-le size after more fits)))
        | false ↦ λ t. absurd (part_not_final x (rw t at e) f)
      ] refl
  framing_stable head n after more Chunked x e f =
      (e.0, body_by after more e.1.content e.0 e.1.is_content e.1.is (chunked_final head n e.0 x e.2 f), e.2)
  framing_stable head n after more TooLong x e f = e
  framing_stable head n after more Unframed x e f = e

  message_stable : (text after more : List ℕ) (x : Outcome Request) → IsFinal x → IsMessage users number text after x → IsMessage users number text (after ++ more) x
  message_stable text after more x f m = record {
    head = m.head;
    is_head = m.is_head;
    says = framing_stable m.head (length text) after more (framing (head_fields m.head)) x m.says f;
  }

  lines_stable : (many : Bool) (text after more : List ℕ) (x : Outcome Request) → IsFinal x
      → MatchBool many (x ≡ Refused HeadTooLarge) (IsMessage users number text after x ⊎ IsNoHead text x)
      → MatchBool many (x ≡ Refused HeadTooLarge) (IsMessage users number text (after ++ more) x ⊎ IsNoHead text x)
  lines_stable true text after more x f a = a
  lines_stable false text after more x f a = elim a [ inl m ↦ inl (message_stable text after more x f m) | inr none ↦ inr none ]

  head_says_stable : (bytes more : List ℕ) (o : Option ℕ) (x : Outcome Request) → head_length (take 16384 bytes) ≡ o → HeadSays users number bytes o x → IsFinal x → IsFirst users number (bytes ++ more) x
  head_says_stable bytes more None x h e f =
      elim (nat_lt (length bytes) 16384) as (λ v. nat_lt (length bytes) 16384 ≡ v → IsFirst users number (bytes ++ more) x) [
        | true ↦ λ t. absurd (part_not_final x (rw t at e) f)
        | false ↦ λ t.
            let long : 16384 ≤ length bytes = grind (arith, nat_tests) in
            let test : nat_lt (length (bytes ++ more)) 16384 ≡ false = grind (arith, nat_tests, length-append bytes more) in
            let still : head_length (take 16384 (bytes ++ more)) ≡ None = ap head_length (take-append-le 16384 bytes more long) ∙ h in
            record { says = subst (λ o. HeadSays users number (bytes ++ more) o x) (sym still) (rw test (rw t at e)) }
      ] refl
  head_says_stable bytes more (Some n) x h e f =
      let fits = (head_size bytes n h).1 in
      let lines = lines_stable (nat_lt 100 (header_lines (take n bytes))) (take n bytes) (drop n bytes) more x f e in
      let text : take n (bytes ++ more) ≡ take n bytes = take-append-le n bytes more fits in
      let after : drop n (bytes ++ more) ≡ drop n bytes ++ more = drop-append-le n bytes more fits in
      record {
        says = subst (λ o. HeadSays users number (bytes ++ more) o x) (sym (head_stable bytes more n h))
            (subst (λ a. MatchBool (nat_lt 100 (header_lines (take n (bytes ++ more)))) (x ≡ Refused HeadTooLarge) (IsMessage users number (take n (bytes ++ more)) a x ⊎ IsNoHead (take n (bytes ++ more)) x)) (sym after)
            (subst (λ t. MatchBool (nat_lt 100 (header_lines t)) (x ≡ Refused HeadTooLarge) (IsMessage users number t (drop n bytes ++ more) x ⊎ IsNoHead t x)) (sym text) lines));
      }

  -- what is whole or refused stays so, whatever follows
  pub first_stable : (bytes more : List ℕ) (x : Outcome Request) → IsFirst users number bytes x → IsFinal x → IsFirst users number (bytes ++ more) x
  first_stable bytes more x a f = head_says_stable bytes more (head_length (take 16384 bytes)) x refl a.says f

  pub whole_stable : (bytes more : List ℕ) (r : Request) (n : ℕ) → IsFirst users number bytes (Whole r n) → IsFirst users number (bytes ++ more) (Whole r n)
  whole_stable bytes more r n a = first_stable bytes more (Whole r n) a tt

  pub refused_stable : (bytes more : List ℕ) (why : MessageFault) → IsFirst users number bytes (Refused why) → IsFirst users number (bytes ++ more) (Refused why)
  refused_stable bytes more why a = first_stable bytes more (Refused why) a tt

-- ---- sizes

-- a whole message lies in the bytes, and no message has more bytes than the limits allow
abbrev pub Sizes : List ℕ → Outcome Request → Type 0
Sizes bytes (Whole r n) = (0 < n) × (n ≤ length bytes) × (n ≤ 134234112)
Sizes bytes Part = length bytes ≤ 134234112
Sizes bytes (Refused why) = Unit {0}

same_size : (n k : ℕ) → Sized n ≡ Sized k → n ≡ k
same_size n k e = cc

sized_small : (n k : ℕ) → sized n ≡ Sized k → k ≤ 16777216
sized_small n k e =
    elim (nat_le n 16777216) as (λ v. nat_le n 16777216 ≡ v → k ≤ 16777216) [
      | true ↦ λ t.
          let small : n ≤ 16777216 = grind (arith, nat_tests) in
          let is : n ≡ k = same_size n k (rw t at e) in
          omega arith
      | false ↦ λ t. cc (rw t at e)
    ] refl

length_small : (value : List ℕ) (k : ℕ) → length_framing value ≡ Sized k → k ≤ 16777216
unfolding length_framing
length_small value k e =
    elim (is_number value) as (λ v. is_number value ≡ v → k ≤ 16777216) [
      | true ↦ λ t.
          elim (nat_lt 20 (length value)) as (λ v. nat_lt 20 (length value) ≡ v → k ≤ 16777216) [
            | true ↦ λ u. cc (rw (t, u) at e)
            | false ↦ λ u. sized_small _ k (rw (t, u) at e)
          ] refl
      | false ↦ λ t. cc (rw t at e)
    ] refl

coding_small : (value : List ℕ) (k : ℕ) → coding_framing value ≡ Sized k → ⊥
unfolding coding_framing
coding_small value k e =
    elim (str_eq_ignore_ascii_case value (codes "chunked")) as (λ v. str_eq_ignore_ascii_case value (codes "chunked") ≡ v → ⊥) [
      | true ↦ λ t. cc (rw t at e)
      | false ↦ λ t. cc (rw t at e)
    ] refl

by_length : (o : Option (List ℕ)) (k : ℕ) → framed_by length_framing o ≡ Sized k → k ≤ 16777216
by_length None k e = cc
by_length (Some value) k e = length_small value k e

by_coding : (o : Option (List ℕ)) (k : ℕ) → framed_by coding_framing o ≡ Sized k → k ≤ 16777216
by_coding None k e = cc
by_coding (Some value) k e = absurd (coding_small value k e)

framing_small : (fields : List Field) (k : ℕ) → framing fields ≡ Sized k → k ≤ 16777216
unfolding framing
framing_small fields k e =
    elim (has_field (codes "transfer-encoding") fields) as (λ v. has_field (codes "transfer-encoding") fields ≡ v → k ≤ 16777216) [
      | true ↦ λ t.
          elim (has_field (codes "content-length") fields) as (λ v. has_field (codes "content-length") fields ≡ v → k ≤ 16777216) [
            | true ↦ λ u. cc (rw (t, u) at e)
            | false ↦ λ u. by_coding _ k (rw (t, u) at e)
          ] refl
      | false ↦ λ t.
          elim (has_field (codes "content-length") fields) as (λ v. has_field (codes "content-length") fields ≡ v → k ≤ 16777216) [
            | true ↦ λ u. by_length _ k (rw (t, u) at e)
            | false ↦ λ u. let is : 0 ≡ k = same_size 0 k (rw (t, u) at e) in omega arith
          ] refl
    ] refl

abbrev IsSmall : Framing → Type 0
IsSmall (Sized k) = k ≤ 16777216
IsSmall Chunked = Unit {0}
IsSmall TooLong = Unit {0}
IsSmall Unframed = Unit {0}

is_small : (fields : List Field) (how : Framing) → framing fields ≡ how → IsSmall how
is_small fields (Sized k) e = framing_small fields k e
is_small fields Chunked e = tt
is_small fields TooLong e = tt
is_small fields Unframed e = tt

module _ (users : List User) (number : ℕ) (bytes : List ℕ) where
  module _ (head : RequestHead) (n : ℕ) (fits : (0 < n) × (n ≤ length bytes) × (n ≤ 16384)) where
    chunked_sizes : (content : Outcome (List ℕ)) → IsContent (take 134217728 (drop n bytes)) content → Sizes bytes (chunked_outcome users number head n (within_encoded_limit (drop n bytes) content))
    chunked_sizes (Whole body used) c =
        let size = content_size (take 134217728 (drop n bytes)) body used c in
        let taken = length-take 134217728 (drop n bytes) in
        let dropped = length-drop n bytes in
        (omega (arith, fits.0), omega (arith, size, taken, dropped, fits.1), omega (arith, size, taken, fits.2))
    chunked_sizes (Refused why) c = tt
    chunked_sizes Part c =
        elim (nat_lt 134217728 (length (drop n bytes))) as (λ v. nat_lt 134217728 (length (drop n bytes)) ≡ v → Sizes bytes (chunked_outcome users number head n (within_encoded_limit (drop n bytes) Part))) [
          | true ↦ λ t. rw t tt
          | false ↦ λ t.
              let short : length (drop n bytes) ≤ 134217728 = grind (arith, nat_tests) in
              let all : length bytes ≤ 134234112 = omega (arith, short, length-drop n bytes, fits.1, fits.2) in
              rw t all
        ] refl

    framing_sizes : (how : Framing) (x : Outcome Request) → IsSmall how → FramingSays users number head n (drop n bytes) how x → Sizes bytes x
    framing_sizes (Sized size) x small e =
        elim (nat_le size (length (drop n bytes))) as (λ v. nat_le size (length (drop n bytes)) ≡ v → Sizes bytes x) [
          | true ↦ λ t.
              let there : size ≤ length (drop n bytes) = grind (arith, nat_tests) in
              let dropped = length-drop n bytes in
              subst (Sizes bytes) (sym (rw t at e)) (omega (arith, fits.0), omega (arith, there, dropped, fits.1), omega (arith, small, fits.2))
          | false ↦ λ t.
              let less : length (drop n bytes) < size = grind (arith, nat_tests) in
              let all : length bytes ≤ 134234112 = omega (arith, less, small, length-drop n bytes, fits.1, fits.2) in
              subst (Sizes bytes) (sym (rw t at e)) all
        ] refl
    framing_sizes Chunked x small e =
        subst (Sizes bytes) (sym (e.2 ∙ ap (chunked_outcome users number head n) e.1.is)) (chunked_sizes e.1.content e.1.is_content)
    framing_sizes TooLong x small e = subst (Sizes bytes) (sym e) tt
    framing_sizes Unframed x small e = subst (Sizes bytes) (sym e) tt

  lines_sizes : (many : Bool) (n : ℕ) (x : Outcome Request) → (0 < n) × (n ≤ length bytes) × (n ≤ 16384)
      → MatchBool many (x ≡ Refused HeadTooLarge) (IsMessage users number (take n bytes) (drop n bytes) x ⊎ IsNoHead (take n bytes) x) → Sizes bytes x
  lines_sizes true n x fits a = subst (Sizes bytes) (sym a) tt
  lines_sizes false n x fits a =
      elim a [
        | inl m ↦ framing_sizes m.head n fits (framing (head_fields m.head)) x (is_small (head_fields m.head) (framing (head_fields m.head)) refl)
            (subst (λ k. FramingSays users number m.head k (drop n bytes) (framing (head_fields m.head)) x) (length-take-le n bytes fits.1) m.says)
        | inr none ↦ subst (Sizes bytes) (sym none.is) tt
      ]

  head_sizes : (o : Option ℕ) (x : Outcome Request) → head_length (take 16384 bytes) ≡ o → HeadSays users number bytes o x → Sizes bytes x
  head_sizes None x h e =
      elim (nat_lt (length bytes) 16384) as (λ v. nat_lt (length bytes) 16384 ≡ v → Sizes bytes x) [
        | true ↦ λ t.
            let short : length bytes < 16384 = grind (arith, nat_tests) in
            let all : length bytes ≤ 134234112 = omega arith in
            subst (Sizes bytes) (sym (rw t at e)) all
        | false ↦ λ t. subst (Sizes bytes) (sym (rw t at e)) tt
      ] refl
  head_sizes (Some n) x h e = lines_sizes (nat_lt 100 (header_lines (take n bytes))) n x (head_size bytes n h) e

  pub first_sizes : (x : Outcome Request) → IsFirst users number bytes x → Sizes bytes x
  first_sizes x a = head_sizes (head_length (take 16384 bytes)) x refl a.says

  pub whole_size : (r : Request) (n : ℕ) → IsFirst users number bytes (Whole r n) → (0 < n) × (n ≤ length bytes) × (n ≤ 134234112)
  whole_size r n a = first_sizes (Whole r n) a

  pub part_size : IsFirst users number bytes Part → length bytes ≤ 134234112
  part_size a = first_sizes Part a
