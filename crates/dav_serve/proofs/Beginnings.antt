-- What the bytes of a connection begin with is the first of all that they have.
use Rattle.std.proofs.Common.{◌≡◌, ℕ, ◌+◌, Bool, true, false, List, [], ◌∷◌, ◌++◌, drop, refl, sym, ap, ◌∙◌, subst}
use Rattle.std.specs.Prelude.{MatchBool}
use Rattle.http_front.specs.declared.request.Request.{Request}
use Rattle.http_front.specs.declared.user.User.{User}
use Rattle.http_front.specs.Messages.{MessagesFrom, End, LastGiven}
use Rattle.http_front.proofs.OneReading.{whole_same, whole_is_no_end}
use Rattle.dav_serve.specs.Serves.{BeginsWith}

module _ (users : List User) where
  pub beginning : (number at : ℕ) (bytes : List ℕ) (some all : List Request) (end : End) → BeginsWith users number bytes some → MessagesFrom users number at bytes all end → (more : List Request) × (all ≡ some ++ more)
  beginning number at bytes [] all end begins messages = (all, refl)
  beginning number at bytes (r ∷ rs) [] end begins messages = absurd (whole_is_no_end users number at bytes r begins.0 end begins.1 messages)
  beginning number at bytes (r ∷ rs) (a ∷ others) end begins messages =
      let one = whole_same users number bytes r a begins.0 messages.0 begins.1 messages.1 in
      let request : r ≡ a = one.0 in
      let size : begins.0 ≡ messages.0 = one.1 in
      let rest : MatchBool a.last (rs ≡ []) (BeginsWith users (number + 1) (drop messages.0 bytes) rs) = subst (λ (x : Request). MatchBool x.last (rs ≡ []) (BeginsWith users (number + 1) (drop messages.0 bytes) rs)) request
      (subst (λ (n : ℕ). MatchBool r.last (rs ≡ []) (BeginsWith users (number + 1) (drop n bytes) rs)) size begins.2) in
      let after = either a.last (beginning (number + 1) (at + messages.0) (drop messages.0 bytes) rs others end) rest messages.2 in
      (after.0, (λ i. sym request i ∷ after.1 i)) where
        either : (last : Bool) → (BeginsWith users (number + 1) (drop messages.0 bytes) rs → MessagesFrom users (number + 1) (at + messages.0) (drop messages.0 bytes) others end → (more : List Request) × (others ≡ rs ++ more))
            → MatchBool last (rs ≡ []) (BeginsWith users (number + 1) (drop messages.0 bytes) rs)
            → MatchBool last ((others ≡ []) × (end ≡ LastGiven)) (MessagesFrom users (number + 1) (at + messages.0) (drop messages.0 bytes) others end)
            → (more : List Request) × (others ≡ rs ++ more)
        either true hypothesis none ended = ([], ended.0 ∙ sym (ap (λ (l : List Request). l ++ []) none))
        either false hypothesis next later = hypothesis next later
