-- The bytes of a connection are one list of requests, and come to one end.
use Rattle.std.proofs.Common.{◌≡◌, ℕ, ◌+◌, Bool, true, false, List, [], ◌∷◌, drop, refl, sym, ap, ◌∙◌, subst}
use Rattle.std.specs.Prelude.{MatchBool}
use Rattle.http_front.specs.declared.message_fault.MessageFault.{MessageFault}
use Rattle.http_front.specs.declared.request.Request.{Request}
use Rattle.http_front.specs.declared.user.User.{User}
use Rattle.http_front.specs.Messages.{IsFirst, MessagesFrom, EndSays, End, LastGiven, Left, RefusedAt}
use Rattle.http_front.specs.Outcomes.{Outcome, Whole, Part, Refused}
use Rattle.http_front.proofs.Laws.{first_unique}

module _ (users : List User) where
  -- two whole requests that bytes begin with are one, and have as many bytes
  pub whole_same : (number : ℕ) (bytes : List ℕ) (r a : Request) (n k : ℕ) → IsFirst users number bytes (Whole r n) → IsFirst users number bytes (Whole a k) → (r ≡ a) × (n ≡ k)
  whole_same number bytes r a n k x y =
      let same : Whole r n ≡ Whole a k = first_unique users number bytes (Whole r n) (Whole a k) x y in (cc, cc)

  why_same : (number : ℕ) (bytes : List ℕ) (why cause : MessageFault) → IsFirst users number bytes (Refused why) → IsFirst users number bytes (Refused cause) → why ≡ cause
  why_same number bytes why cause x y =
      let same : ◌≡◌ {A = Outcome Request} (Refused why) (Refused cause) = first_unique users number bytes (Refused why) (Refused cause) x y in cc

  -- where a whole request is first, the bytes haven't ended
  pub whole_is_no_end : (number at : ℕ) (bytes : List ℕ) (request : Request) (n : ℕ) (end : End) → IsFirst users number bytes (Whole request n) → EndSays users number at bytes end → ⊥
  whole_is_no_end number at bytes request n LastGiven first ended = ended
  whole_is_no_end number at bytes request n (Left rest) first ended =
      let never : Whole request n ≡ Part = first_unique users number bytes (Whole request n) Part first ended.0 in absurd (cc)
  whole_is_no_end number at bytes request n (RefusedAt why offset) first ended =
      let never : Whole request n ≡ Refused why = first_unique users number bytes (Whole request n) (Refused why) first ended.0 in absurd (cc)

  part_is_not_refused : (number : ℕ) (bytes : List ℕ) (why : MessageFault) → IsFirst users number bytes Part → IsFirst users number bytes (Refused why) → ⊥
  part_is_not_refused number bytes why x y =
      let never : ◌≡◌ {A = Outcome Request} Part (Refused why) = first_unique users number bytes Part (Refused why) x y in absurd (cc)

  ends_same : (number at : ℕ) (bytes : List ℕ) (one other : End) → EndSays users number at bytes one → EndSays users number at bytes other → one ≡ other
  ends_same number at bytes LastGiven other x y = absurd x
  ends_same number at bytes (Left rest) LastGiven x y = absurd y
  ends_same number at bytes (Left rest) (Left left) x y = ap Left (x.1 ∙ sym y.1)
  ends_same number at bytes (Left rest) (RefusedAt why offset) x y = absurd (part_is_not_refused number bytes why x.0 y.0)
  ends_same number at bytes (RefusedAt why offset) LastGiven x y = absurd y
  ends_same number at bytes (RefusedAt why offset) (Left left) x y = absurd (part_is_not_refused number bytes why y.0 x.0)
  ends_same number at bytes (RefusedAt why offset) (RefusedAt cause place) x y =
      let same : why ≡ cause = why_same number bytes why cause x.0 y.0 in
      let here : offset ≡ place = x.1 ∙ sym y.1 in
      λ i. RefusedAt (same i) (here i)

  pub messages_same : (number at : ℕ) (bytes : List ℕ) (some all : List Request) (one other : End) → MessagesFrom users number at bytes some one → MessagesFrom users number at bytes all other → (some ≡ all) × (one ≡ other)
  messages_same number at bytes [] [] one other x y = (refl, ends_same number at bytes one other x y)
  messages_same number at bytes [] (a ∷ others) one other x y = absurd (whole_is_no_end number at bytes a y.0 one y.1 x)
  messages_same number at bytes (r ∷ rs) [] one other x y = absurd (whole_is_no_end number at bytes r x.0 other x.1 y)
  messages_same number at bytes (r ∷ rs) (a ∷ others) one other x y =
      let whole = whole_same number bytes r a x.0 y.0 x.1 y.1 in
      let request : r ≡ a = whole.0 in
      let size : x.0 ≡ y.0 = whole.1 in
      let rest : MatchBool a.last ((rs ≡ []) × (one ≡ LastGiven)) (MessagesFrom users (number + 1) (at + y.0) (drop y.0 bytes) rs one)
      = subst (λ (q : Request). MatchBool q.last ((rs ≡ []) × (one ≡ LastGiven)) (MessagesFrom users (number + 1) (at + y.0) (drop y.0 bytes) rs one)) request
      (subst (λ (n : ℕ). MatchBool r.last ((rs ≡ []) × (one ≡ LastGiven)) (MessagesFrom users (number + 1) (at + n) (drop n bytes) rs one)) size x.2) in
      let after = either a.last (messages_same (number + 1) (at + y.0) (drop y.0 bytes) rs others one other) rest y.2 in
      (λ i. request i ∷ after.0 i, after.1) where
        either : (last : Bool) → (MessagesFrom users (number + 1) (at + y.0) (drop y.0 bytes) rs one → MessagesFrom users (number + 1) (at + y.0) (drop y.0 bytes) others other → (rs ≡ others) × (one ≡ other))
            → MatchBool last ((rs ≡ []) × (one ≡ LastGiven)) (MessagesFrom users (number + 1) (at + y.0) (drop y.0 bytes) rs one)
            → MatchBool last ((others ≡ []) × (other ≡ LastGiven)) (MessagesFrom users (number + 1) (at + y.0) (drop y.0 bytes) others other)
            → (rs ≡ others) × (one ≡ other)
        either true hypothesis ended closed = (ended.0 ∙ sym closed.0, ended.1 ∙ sym closed.1)
        either false hypothesis next later = hypothesis next later
