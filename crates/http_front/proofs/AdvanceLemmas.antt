-- What was read of a message says what the bytes at the front are.
use Rattle.std.proofs.Common.{◌≡◌, ℕ, ◌+◌, ◌<◌, ◌≤◌, true, false, List, length, take, drop, nat_lt, nat_le, refl, sym, ap, ◌∙◌, subst, arith, inl, inr, Option, Some, None}
use Rattle.std.specs.Prelude.{MatchBool, ◌⊎◌}
use Rattle.std.proofs.lemmas.Bool.Decides.{nat_tests}
use Rattle.std.proofs.lemmas.List.{length-take-le}
use Rattle.http_front.specs.declared.framing.Framing.{Framing}
use Rattle.http_front.specs.declared.framing.Framing.TheVariants.{Sized, Chunked, TooLong, Unframed}
use Rattle.http_front.specs.declared.head.Head.{Head}
use Rattle.http_front.specs.declared.message_fault.MessageFault.{MessageFault}
use Rattle.http_front.specs.declared.message_fault.MessageFault.TheVariants.{BadMessage, HeadTooLarge, BodyTooLarge}
use Rattle.http_front.specs.declared.request.Request.{Request}
use Rattle.http_front.specs.declared.user.User.{User}
use Rattle.http_front.specs.Advances.{HasHead, HasFramed, request_with}
use Rattle.http_front.specs.Chunks.{IsContent, within_encoded_limit}
use Rattle.http_front.specs.Framings.{framing}
use Rattle.http_front.specs.Heads.{IsRead, IsNone}
use Rattle.http_front.specs.Logins.{login_of}
use Rattle.http_front.specs.Messages.{IsFirst, IsMessage, IsNoHead, HeadSays, FramingSays, head_fields, request_of, is_last_of, chunked_outcome}
use Rattle.http_front.specs.Outcomes.{Outcome, Whole, Part, Refused}
use Rattle.http_front.specs.Sections.{head_length, header_lines}
use Rattle.http_front.proofs.SectionLemmas.{head_size}

-- the request that the parts make is the one that the grammar makes
same_request : (users : List User) (number : ℕ) (text body : List ℕ) (head : Head) (read : IsRead text head) → request_of users number read.grammar body ≡ request_with users number head body
same_request users number text body head read = λ i. record {
  method = sym read.method i;
  target = sym read.target i;
  fields = sym read.fields i;
  login = login_of users (sym read.fields i);
  body = body;
  last = is_last_of number (sym read.minor i) (sym read.fields i);
}

module _ (users : List User) (number : ℕ) (bytes : List ℕ) where
  by_head : (o : Option ℕ) (outcome : Outcome Request) → head_length (take 16384 bytes) ≡ o → HeadSays users number bytes o outcome → IsFirst users number bytes outcome
  by_head o outcome e says = record { says = subst (λ p. HeadSays users number bytes p outcome) (sym e) says }

  pub first_open : head_length (take 16384 bytes) ≡ None → length bytes < 16384 → IsFirst users number bytes Part
  first_open e short =
      let test : nat_lt (length bytes) 16384 ≡ true = grind (arith, nat_tests) in
      by_head None Part e (rw test refl)

  pub first_too_long : head_length (take 16384 bytes) ≡ None → 16384 ≤ length bytes → IsFirst users number bytes (Refused HeadTooLarge)
  first_too_long e long =
      let test : nat_lt (length bytes) 16384 ≡ false = grind (arith, nat_tests) in
      by_head None (Refused HeadTooLarge) e (rw test refl)

  pub first_many_lines : (n : ℕ) → head_length (take 16384 bytes) ≡ Some n → 100 < header_lines (take n bytes) → IsFirst users number bytes (Refused HeadTooLarge)
  first_many_lines n e many =
      let test : nat_lt 100 (header_lines (take n bytes)) ≡ true = grind (arith, nat_tests) in
      by_head (Some n) (Refused HeadTooLarge) e (rw test refl)

  pub first_no_head : (n : ℕ) → head_length (take 16384 bytes) ≡ Some n → header_lines (take n bytes) ≤ 100 → IsNone (take n bytes) → IsFirst users number bytes (Refused BadMessage)
  first_no_head n e few none =
      let test : nat_lt 100 (header_lines (take n bytes)) ≡ false = grind (arith, nat_tests) in
      by_head (Some n) (Refused BadMessage) e (rw test (inr (record { none = none.none; is = refl })))

  module _ (head : Head) (how : Framing) (framed : HasFramed bytes head how) where
    grammar_framing : framing (head_fields framed.head_is.read.grammar) ≡ how
    grammar_framing = ap framing (sym framed.head_is.read.fields) ∙ framed.framing_is

    text_size : length (take head.len bytes) ≡ head.len
    text_size = length-take-le head.len bytes framed.head_is.fits

    pub first_framed : (outcome : Outcome Request) → FramingSays users number framed.head_is.read.grammar head.len (drop head.len bytes) how outcome → IsFirst users number bytes outcome
    first_framed outcome says =
        by_head (Some head.len) outcome framed.head_is.ends
        (subst (λ b. MatchBool b (outcome ≡ Refused HeadTooLarge) (IsMessage users number (take head.len bytes) (drop head.len bytes) outcome ⊎ IsNoHead (take head.len bytes) outcome)) (sym framed.head_is.few)
        (inl (record {
          head = framed.head_is.read.grammar;
          is_head = framed.head_is.read.is_head;
          says = subst (λ f. FramingSays users number framed.head_is.read.grammar (length (take head.len bytes)) (drop head.len bytes) f outcome) (sym grammar_framing)
              (subst (λ n. FramingSays users number framed.head_is.read.grammar n (drop head.len bytes) how outcome) (sym text_size) says);
        })))

    pub request_is : (body : List ℕ) → request_of users number framed.head_is.read.grammar body ≡ request_with users number head body
    request_is body = same_request users number (take head.len bytes) body head framed.head_is.read

  -- ---- bodies of a length

  module _ (head : Head) (size : ℕ) (framed : HasFramed bytes head (Sized size)) where
    pub first_sized : size ≤ length (drop head.len bytes) → IsFirst users number bytes (Whole (request_with users number head (take size (drop head.len bytes))) (head.len + size))
    first_sized fits =
        let test : nat_le size (length (drop head.len bytes)) ≡ true = grind (arith, nat_tests) in
        subst (λ r. IsFirst users number bytes (Whole r (head.len + size))) (request_is head (Sized size) framed (take size (drop head.len bytes)))
        (first_framed head (Sized size) framed (Whole (request_of users number framed.head_is.read.grammar (take size (drop head.len bytes))) (head.len + size)) (rw test refl))

    pub first_short : length (drop head.len bytes) < size → IsFirst users number bytes Part
    first_short short =
        let test : nat_le size (length (drop head.len bytes)) ≡ false = grind (arith, nat_tests) in
        first_framed head (Sized size) framed Part (rw test refl)

  -- ---- bodies by chunks

  module _ (head : Head) (framed : HasFramed bytes head Chunked) where
    by_content : (content : Outcome (List ℕ)) → IsContent (take 134217728 (drop head.len bytes)) content
        → IsFirst users number bytes (chunked_outcome users number framed.head_is.read.grammar head.len (within_encoded_limit (drop head.len bytes) content))
    by_content content is_content =
        first_framed head Chunked framed _
        (within_encoded_limit (drop head.len bytes) content, record { content = content; is_content = is_content; is = refl }, refl)

    pub first_chunked : (body : List ℕ) (used : ℕ) → IsContent (take 134217728 (drop head.len bytes)) (Whole body used) → IsFirst users number bytes (Whole (request_with users number head body) (head.len + used))
    first_chunked body used content =
        subst (λ r. IsFirst users number bytes (Whole r (head.len + used))) (request_is head Chunked framed body) (by_content (Whole body used) content)

    pub first_chunks_fail : (why : MessageFault) → IsContent (take 134217728 (drop head.len bytes)) (Refused why) → IsFirst users number bytes (Refused why)
    first_chunks_fail why content = by_content (Refused why) content

    pub first_chunks_open : IsContent (take 134217728 (drop head.len bytes)) Part → length (drop head.len bytes) ≤ 134217728 → IsFirst users number bytes Part
    first_chunks_open content short =
        let test : nat_lt 134217728 (length (drop head.len bytes)) ≡ false = grind (arith, nat_tests) in
        rw test at (by_content Part content)

    pub first_chunks_long : IsContent (take 134217728 (drop head.len bytes)) Part → 134217728 < length (drop head.len bytes) → IsFirst users number bytes (Refused BodyTooLarge)
    first_chunks_long content long =
        let test : nat_lt 134217728 (length (drop head.len bytes)) ≡ true = grind (arith, nat_tests) in
        rw test at (by_content Part content)

  pub first_too_large : (head : Head) → HasFramed bytes head TooLong → IsFirst users number bytes (Refused BodyTooLarge)
  first_too_large head framed = first_framed head TooLong framed (Refused BodyTooLarge) refl

  pub first_unframed : (head : Head) → HasFramed bytes head Unframed → IsFirst users number bytes (Refused BadMessage)
  first_unframed head framed = first_framed head Unframed framed (Refused BadMessage) refl

pub has_head : (bytes text : List ℕ) (len : ℕ) (head : Head) → head_length (take 16384 bytes) ≡ Some len → text ≡ take len bytes → header_lines text ≤ 100 → IsRead text head → HasHead bytes head
has_head bytes text len head ends text_is few read =
    let size : head.len ≡ len = read.len ∙ ap length text_is ∙ length-take-le len bytes (head_size bytes len ends).1 in
    let text_same : text ≡ take head.len bytes = text_is ∙ ap (λ k. take k bytes) (sym size) in
    let test : nat_lt 100 (header_lines text) ≡ false = grind (arith, nat_tests) in
    record {
      ends = ends ∙ ap (λ k. Some k) (sym size);
      fits = omega (arith, size, (head_size bytes len ends).1);
      few = ap (λ t. nat_lt 100 (header_lines t)) (sym text_same) ∙ test;
      read = subst (λ t. IsRead t head) text_same read;
    }
