-- The requests that a connection has given so far, none of them the last.
use Rattle.std.proofs.Common.{◌≡◌, ℕ, ◌+◌, ◌≤◌, Bool, true, false, List, [], ◌∷◌, ◌++◌, length, drop, refl, sym, subst}
use Rattle.std.specs.Prelude.{MatchBool}
use Rattle.std.proofs.lemmas.List.{drop-append-le}
use Rattle.http_front.specs.declared.request.Request.{Request}
use Rattle.http_front.specs.declared.user.User.{User}
use Rattle.http_front.specs.Messages.{IsFirst, MessagesFrom, End}
use Rattle.http_front.specs.Outcomes.{Whole}
use Rattle.dav_serve.specs.Serves.{BeginsWith}
use Rattle.http_front.proofs.Laws.{whole_stable, whole_size}

-- after so many requests and bytes the bytes begin with these requests, none of them the last; then so many are given,
-- and so much is left from an offset on
abbrev pub Passed : List User → ℕ → ℕ → List ℕ → List Request → ℕ → ℕ → List ℕ → Type 0
Passed users number at bytes [] reached offset rest = (reached ≡ number) × (offset ≡ at) × (rest ≡ bytes)
Passed users number at bytes (request ∷ requests) reached offset rest =
    (n : ℕ) × IsFirst users number bytes (Whole request n) × (request.last ≡ false)
    × Passed users (number + 1) (at + n) (drop n bytes) requests reached offset rest

module _ (users : List User) where
  -- one request more
  pub Passed-push : (number at : ℕ) (bytes : List ℕ) (requests : List Request) (reached offset : ℕ) (rest : List ℕ) (request : Request) (n : ℕ)
      → Passed users number at bytes requests reached offset rest
      → IsFirst users reached rest (Whole request n) → request.last ≡ false
      → Passed users number at bytes (requests ++ request ∷ []) (reached + 1) (offset + n) (drop n rest)
  Passed-push number at bytes [] reached offset rest request n passed first more =
      let here : IsFirst users number bytes (Whole request n) = subst (λ k. IsFirst users k bytes (Whole request n)) passed.0 (subst (λ b. IsFirst users reached b (Whole request n)) passed.2 first) in
      rw (passed.0, passed.1, passed.2) (n, here, more, (refl, refl, refl))
  Passed-push number at bytes (r ∷ rs) reached offset rest request n passed first more =
      (passed.0, passed.1, passed.2, Passed-push (number + 1) (at + passed.0) (drop passed.0 bytes) rs reached offset rest request n passed.3 first more)

  -- a piece more
  pub Passed-fed : (number at : ℕ) (bytes piece : List ℕ) (requests : List Request) (reached offset : ℕ) (rest : List ℕ)
      → Passed users number at bytes requests reached offset rest
      → Passed users number at (bytes ++ piece) requests reached offset (rest ++ piece)
  Passed-fed number at bytes piece [] reached offset rest passed = (passed.0, passed.1, rw passed.2 refl)
  Passed-fed number at bytes piece (r ∷ rs) reached offset rest passed =
      let within : passed.0 ≤ length bytes = (whole_size users number bytes r passed.0 passed.1).1 in
      let after = Passed-fed (number + 1) (at + passed.0) (drop passed.0 bytes) piece rs reached offset rest passed.3 in (
        passed.0,
        whole_stable users number bytes piece r passed.0 passed.1,
        passed.2,
        subst (λ (b : List ℕ). Passed users (number + 1) (at + passed.0) b rs reached offset (rest ++ piece)) (sym (drop-append-le passed.0 bytes piece within)) after,
      )

  -- what comes of the rest comes of the whole
  pub Passed-messages : (number at : ℕ) (bytes : List ℕ) (requests : List Request) (reached offset : ℕ) (rest : List ℕ) (more : List Request) (end : End)
      → Passed users number at bytes requests reached offset rest
      → MessagesFrom users reached offset rest more end
      → MessagesFrom users number at bytes (requests ++ more) end
  Passed-messages number at bytes [] reached offset rest more end passed messages =
      subst (λ (k : ℕ). MessagesFrom users k at bytes more end) passed.0
      (subst (λ (k : ℕ). MessagesFrom users reached k bytes more end) passed.1
      (subst (λ (b : List ℕ). MessagesFrom users reached offset b more end) passed.2 messages))
  Passed-messages number at bytes (r ∷ rs) reached offset rest more end passed messages =
      (passed.0, passed.1, rw passed.2 (Passed-messages (number + 1) (at + passed.0) (drop passed.0 bytes) rs reached offset rest more end passed.3 messages))

  pub Passed-begins : (number at : ℕ) (bytes : List ℕ) (requests : List Request) (reached offset : ℕ) (rest : List ℕ) (more : List Request)
      → Passed users number at bytes requests reached offset rest
      → BeginsWith users reached rest more
      → BeginsWith users number bytes (requests ++ more)
  Passed-begins number at bytes [] reached offset rest more passed begins =
      subst (λ (k : ℕ). BeginsWith users k bytes more) passed.0
      (subst (λ (b : List ℕ). BeginsWith users reached b more) passed.2 begins)
  Passed-begins number at bytes (r ∷ rs) reached offset rest more passed begins =
      (passed.0, passed.1, rw passed.2 (Passed-begins (number + 1) (at + passed.0) (drop passed.0 bytes) rs reached offset rest more passed.3 begins))

  -- one request is the beginning of what it is the first of
  pub BeginsWith-one : (number : ℕ) (bytes : List ℕ) (request : Request) (n : ℕ) → IsFirst users number bytes (Whole request n) → BeginsWith users number bytes (request ∷ [])
  BeginsWith-one number bytes request n first = (n, first, either request.last [] refl) where
    either : (last : Bool) (requests : List Request) → requests ≡ [] → MatchBool last (requests ≡ []) (BeginsWith users (number + 1) (drop n bytes) requests)
    either true requests none = none
    either false requests none = subst (λ (rs : List Request). BeginsWith users (number + 1) (drop n bytes) rs) (sym none) tt
