-- Size lines and chunks: one reading of the same bytes, also where more follow.
use Rattle.std.proofs.Common.{◌≡◌, ℕ, ◌+◌, ◌-◌, ◌<◌, ◌≤◌, true, false, List, [], ◌∷◌, ◌++◌, length, take, drop, nat_lt, nat_eq, refl, sym, ap, ◌∙◌, subst, arith, append_assoc, append-nil, length-append, length-take, length-drop, inl, inr, Some, None}
use Rattle.std.specs.Prelude.{◌==◌}
use Rattle.std.proofs.lemmas.Bool.{cases_lt}
use Rattle.std.proofs.lemmas.List.{drop-drop, take_all, take-append-le, drop-append-le}
use Rattle.std.proofs.Math.Seq.{take-append-add}
use Rattle.httparse.specs.Grammar.{ChunkLine, IsChunkLine, print_chunk_line, chunk_size, ReadsChunkLine, HasNoChunkLine}
use Rattle.httparse.proofs.ChunkLemmas.{chunk_line_unique, ReadsChunkLine-append}
use Rattle.http_front.specs.declared.message_fault.MessageFault.{MessageFault}
use Rattle.http_front.specs.declared.size_line.SizeLine.{SizeLine}
use Rattle.http_front.specs.declared.size_line.SizeLine.TheVariants.{Line, Unended, Unreadable}
use Rattle.http_front.specs.Chunks.{IsSizeLine, AreChunks, HasChunks, EndsBody, IsContent, chunk_step, chunk_length, after_data, placed_after}
use Rattle.http_front.specs.Outcomes.{Outcome, Refused}

-- ---- lists

-- what a take of a longer list has more
pub take_longer : (n : ℕ) (xs more : List ℕ) → (extra : List ℕ) × (take n (xs ++ more) ≡ take n xs ++ extra)
take_longer n xs more =
    elim (cases_lt (length xs) n) [
      | inl inside ↦ (
        take (n - length xs) more,
        ap (λ k. take k (xs ++ more)) (omega arith)
            ∙ take-append-add xs more (n - length xs)
            ∙ ap (λ (t : List ℕ). t ++ take (n - length xs) more) (sym (take_all n xs (omega arith))),
      )
      | inr past ↦ ([], take-append-le n xs more past ∙ sym (append-nil (take n xs)))
    ]

-- ---- size lines

print_some : (l : ChunkLine) → IsChunkLine l → 0 < length (print_chunk_line l)
unfolding print_chunk_line
print_some l is = simp length-append (omega (arith, is.digits.0))

pub line_length : (bytes : List ℕ) (n size : ℕ) → IsSizeLine bytes (Line n size) → (0 < n) × (n ≤ length bytes) × (n ≤ 1024)
line_length bytes n size x =
    let text : length (take 1024 bytes) ≡ length (print_chunk_line x.0) + length x.1 = ap length x.2.1 ∙ length-append (print_chunk_line x.0) x.1 in
    let some : 0 < length (print_chunk_line x.0) = print_some x.0 x.2.0 in
    let taken = length-take 1024 bytes in
    (omega (arith, x.3), omega (arith, x.3), omega (arith, x.3))

same_line : (a b c d : ℕ) → a ≡ b → c ≡ d → Line a c ≡ Line b d
same_line a b c d e f = λ i. Line (e i) (f i)

pub line_unique : (bytes : List ℕ) (a b : SizeLine) → IsSizeLine bytes a → IsSizeLine bytes b → a ≡ b
line_unique bytes (Line n s) (Line m t) x y =
    let same = (chunk_line_unique (take 1024 bytes) x.0 y.0 x.1 y.1 x.2 y.2).0 in
    same_line n m s t (x.3 ∙ ap (λ (l : ChunkLine). length (print_chunk_line l)) same ∙ sym y.3) (x.4 ∙ ap chunk_size same ∙ sym y.4)
line_unique bytes (Line n s) Unended x y = absurd (y.0 x.0 x.1 x.2)
line_unique bytes (Line n s) Unreadable x y = absurd (y.0 x.0 x.1 x.2)
line_unique bytes Unended (Line m t) x y = absurd (x.0 y.0 y.1 y.2)
line_unique bytes Unended Unended x y = refl
line_unique bytes Unended Unreadable x y =
    elim y.1 [
      | inl never ↦ absurd (never x.1.0 x.1.1 [] x.1.2)
      | inr long ↦ absurd (omega (arith, x.2, long))
    ]
line_unique bytes Unreadable (Line m t) x y = absurd (x.0 y.0 y.1 y.2)
line_unique bytes Unreadable Unended x y =
    elim x.1 [
      | inl never ↦ absurd (never y.1.0 y.1.1 [] y.1.2)
      | inr long ↦ absurd (omega (arith, y.2, long))
    ]
line_unique bytes Unreadable Unreadable x y = refl

pub never_none : (bytes : List ℕ) → ((more : List ℕ) → HasNoChunkLine (bytes ++ more)) → HasNoChunkLine bytes
never_none bytes never = subst HasNoChunkLine (append-nil bytes) (never [])

pub line_stable : (bytes more : List ℕ) (n size : ℕ) → IsSizeLine bytes (Line n size) → IsSizeLine (bytes ++ more) (Line n size)
line_stable bytes more n size x =
    let longer = take_longer 1024 bytes more in (
      x.0,
      x.1 ++ longer.0,
      subst (λ t. ReadsChunkLine t x.0 (x.1 ++ longer.0)) (sym longer.1) (ReadsChunkLine-append (take 1024 bytes) x.0 x.1 longer.0 x.2),
      x.3,
      x.4,
    )

pub unreadable_stable : (bytes more : List ℕ) → IsSizeLine bytes Unreadable → IsSizeLine (bytes ++ more) Unreadable
unreadable_stable bytes more x =
    elim x.1 [
      | inl never ↦
          let longer = take_longer 1024 bytes more in
          let still : (rest : List ℕ) → HasNoChunkLine (take 1024 (bytes ++ more) ++ rest) =
          λ rest. subst HasNoChunkLine (sym (append_assoc (take 1024 bytes) longer.0 rest) ∙ ap (λ (t : List ℕ). t ++ rest) (sym longer.1)) (never (longer.0 ++ rest)) in
          (never_none (take 1024 (bytes ++ more)) still, inl still)
      | inr long ↦ (subst HasNoChunkLine (sym (take-append-le 1024 bytes more long)) x.0, inr (omega (arith, long, length-append bytes more)))
    ]

-- ---- the end of a chunk's data

pub data_closed : (bytes : List ℕ) → after_data bytes ≡ None → 2 ≤ length bytes
data_closed [] e = cc
data_closed (b ∷ []) e = elim (b == 13) as (λ v. (b == 13) ≡ v → 2 ≤ length (b ∷ [])) [ true ↦ λ t. cc (rw t at e) | false ↦ λ t. cc (rw t at e) ] refl
data_closed (b ∷ c ∷ bytes) e = omega arith

pub data_closed_stable : (bytes more : List ℕ) → after_data bytes ≡ None → after_data (bytes ++ more) ≡ None
data_closed_stable [] more e = cc
data_closed_stable (b ∷ []) more e = absurd (omega (arith, data_closed (b ∷ []) e))
data_closed_stable (b ∷ c ∷ bytes) more e = e

pub data_wrong_stable : (bytes more : List ℕ) (why : MessageFault) → after_data bytes ≡ Some (Refused why) → after_data (bytes ++ more) ≡ Some (Refused why)
data_wrong_stable [] more why e = cc
data_wrong_stable (b ∷ []) [] why e = e
data_wrong_stable (b ∷ []) (c ∷ more) why e =
    elim (b == 13) as (λ v. (b == 13) ≡ v → after_data (b ∷ c ∷ more) ≡ Some (Refused why)) [ true ↦ λ t. cc (rw t at e) | false ↦ λ t. rw t (rw t at e) ] refl
data_wrong_stable (b ∷ c ∷ bytes) more why e = e

-- ---- chunks

-- a whole chunk: it isn't the last, it isn't too long, and its data are closed
pub record IsWhole (body bytes : List ℕ) (n size : ℕ) : Type 0 where
  pub some : nat_eq size 0 ≡ false
  pub fits : nat_lt 16777216 (length body + size) ≡ false
  pub closed : after_data (drop (n + size) bytes) ≡ None

pub whole_from : (body bytes : List ℕ) (n size : ℕ) → chunk_step body (Line n size) bytes ≡ None → IsWhole body bytes n size
whole_from body bytes n size e =
    elim (size == 0) as (λ v. (size == 0) ≡ v → IsWhole body bytes n size) [
      | true ↦ λ t. cc (rw t at e)
      | false ↦ λ t.
          elim (nat_lt 16777216 (length body + size)) as (λ v. nat_lt 16777216 (length body + size) ≡ v → IsWhole body bytes n size) [
            | true ↦ λ u. cc (rw (t, u) at e)
            | false ↦ λ u. record { some = t; fits = u; closed = rw (t, u) at e }
          ] refl
    ] refl

pub step_from : (body bytes : List ℕ) (n size : ℕ) → IsWhole body bytes n size → chunk_step body (Line n size) bytes ≡ None
step_from body bytes n size w =
    let t : (size == 0) ≡ false = w.some in
    rw (t, w.fits) w.closed

-- a whole chunk lies in the bytes
pub whole_fits : (body bytes : List ℕ) (n size : ℕ) → chunk_step body (Line n size) bytes ≡ None → chunk_length n size ≤ length bytes
whole_fits body bytes n size e =
    let two = data_closed (drop (n + size) bytes) (whole_from body bytes n size e).closed in
    omega (arith, two, length-drop (n + size) bytes)

pub whole_stable : (body bytes more : List ℕ) (n size : ℕ) → chunk_step body (Line n size) bytes ≡ None → chunk_step body (Line n size) (bytes ++ more) ≡ None
whole_stable body bytes more n size e =
    let w = whole_from body bytes n size e in
    let fits = whole_fits body bytes n size e in
    let split : drop (n + size) (bytes ++ more) ≡ drop (n + size) bytes ++ more = drop-append-le (n + size) bytes more (omega (arith, fits)) in
    step_from body (bytes ++ more) n size (record { some = w.some; fits = w.fits; closed = ap after_data split ∙ data_closed_stable (drop (n + size) bytes) more w.closed })

-- the same data, also where more follows
pub data_same : (bytes more : List ℕ) (n size : ℕ) → n + size ≤ length bytes → take size (drop n (bytes ++ more)) ≡ take size (drop n bytes)
data_same bytes more n size fits =
    ap (take size) (drop-append-le n bytes more (omega arith))
    ∙ take-append-le size (drop n bytes) more (omega (arith, length-drop n bytes))

pub chunks_within : (cs : List (ℕ × ℕ)) (before bytes body : List ℕ) (used : ℕ) → AreChunks cs before bytes body used → used ≤ length bytes
chunks_within [] before bytes body used a = omega (arith, a.1)
chunks_within (c ∷ cs) before bytes body used a =
    let further = chunks_within cs (before ++ take c.1 (drop c.0 bytes)) (drop (chunk_length c.0 c.1) bytes) body a.0 a.4 in
    omega (arith, further, a.1, whole_fits before bytes c.0 c.1 a.3, length-drop (chunk_length c.0 c.1) bytes)

pub chunks_stable : (cs : List (ℕ × ℕ)) (before bytes more body : List ℕ) (used : ℕ) → AreChunks cs before bytes body used → AreChunks cs before (bytes ++ more) body used
chunks_stable [] before bytes more body used a = a
chunks_stable (c ∷ cs) before bytes more body used a =
    let fits = whole_fits before bytes c.0 c.1 a.3 in (
      a.0,
      a.1,
      line_stable bytes more c.0 c.1 a.2,
      whole_stable before bytes more c.0 c.1 a.3,
      subst (λ b. AreChunks cs b (drop (chunk_length c.0 c.1) (bytes ++ more)) body a.0) (ap (λ (t : List ℕ). before ++ t) (sym (data_same bytes more c.0 c.1 (omega (arith, fits)))))
          (subst (λ t. AreChunks cs (before ++ take c.1 (drop c.0 bytes)) t body a.0) (sym (drop-append-le (chunk_length c.0 c.1) bytes more fits))
          (chunks_stable cs (before ++ take c.1 (drop c.0 bytes)) (drop (chunk_length c.0 c.1) bytes) more body a.0 a.4)),
    )

-- one chunk more at the end
pub chunks_more : (cs : List (ℕ × ℕ)) (before bytes body : List ℕ) (used n size : ℕ) → AreChunks cs before bytes body used
    → IsSizeLine (drop used bytes) (Line n size) → chunk_step body (Line n size) (drop used bytes) ≡ None
    → AreChunks (cs ++ (n, size) ∷ []) before bytes (body ++ take size (drop n (drop used bytes))) (used + chunk_length n size)
chunks_more [] before bytes body used n size a line step =
    let here : drop used bytes ≡ bytes = ap (λ k. drop k bytes) a.1 in (
      0,
      omega (arith, a.1),
      subst (λ t. IsSizeLine t (Line n size)) here line,
      ap (λ (b : List ℕ). chunk_step b (Line n size) bytes) a.0 ∙ ap (chunk_step body (Line n size)) (sym here) ∙ step,
      (ap (λ (b : List ℕ). b ++ take size (drop n bytes)) a.0 ∙ ap (λ t. body ++ take size (drop n t)) (sym here), refl),
    )
chunks_more (c ∷ cs) before bytes body used n size a line step =
    let here : drop used bytes ≡ drop a.0 (drop (chunk_length c.0 c.1) bytes) = ap (λ k. drop k bytes) a.1 ∙ sym (drop-drop a.0 (chunk_length c.0 c.1) bytes) in (
      a.0 + chunk_length n size,
      omega (arith, a.1),
      a.2,
      a.3,
      subst (λ t. AreChunks (cs ++ (n, size) ∷ []) (before ++ take c.1 (drop c.0 bytes)) (drop (chunk_length c.0 c.1) bytes) (body ++ take size (drop n t)) (a.0 + chunk_length n size)) (sym here)
          (chunks_more cs (before ++ take c.1 (drop c.0 bytes)) (drop (chunk_length c.0 c.1) bytes) body a.0 n size a.4
          (subst (λ t. IsSizeLine t (Line n size)) here line)
          (ap (chunk_step body (Line n size)) (sym here) ∙ step)),
    )

pub has_no_chunks : (bytes : List ℕ) → HasChunks bytes [] 0
has_no_chunks bytes = record { chunks = []; are = (refl, refl) }

pub has_more : (bytes body : List ℕ) (used n size : ℕ) → HasChunks bytes body used → IsSizeLine (drop used bytes) (Line n size)
    → chunk_step body (Line n size) (drop used bytes) ≡ None → HasChunks bytes (body ++ take size (drop n (drop used bytes))) (used + chunk_length n size)
has_more bytes body used n size h line step = record { chunks = h.chunks ++ (n, size) ∷ []; are = chunks_more h.chunks [] bytes body used n size h.are line step }

pub has_stable : (bytes more body : List ℕ) (used : ℕ) → HasChunks bytes body used → HasChunks (bytes ++ more) body used
has_stable bytes more body used h = record { chunks = h.chunks; are = chunks_stable h.chunks [] bytes more body used h.are }

-- ---- one content

pub record SameContent (body other : List ℕ) (used more : ℕ) (x y : Outcome (List ℕ)) : Type 0 where
  pub body_is : body ≡ other
  pub used_is : used ≡ more
  pub ending_is : x ≡ y

some_same : {A : Type 0} (x y : A) → Some x ≡ Some y → x ≡ y
some_same x y e = cc

ends_same : (body bytes : List ℕ) (x y : Outcome (List ℕ)) → EndsBody body bytes x → EndsBody body bytes y → x ≡ y
ends_same body bytes x y e f =
    some_same x y (sym e.ends ∙ ap (λ l. chunk_step body l bytes) (line_unique bytes e.line f.line e.is_line f.is_line) ∙ f.ends)

-- no whole chunk stands where a body ends
ends_no_chunk : (body bytes : List ℕ) (x : Outcome (List ℕ)) (n size : ℕ) → EndsBody body bytes x → IsSizeLine bytes (Line n size) → chunk_step body (Line n size) bytes ≡ None → ⊥
ends_no_chunk body bytes x n size e line step =
    let same : Some x ≡ None = sym e.ends ∙ ap (λ l. chunk_step body l bytes) (line_unique bytes e.line (Line n size) e.is_line line) ∙ step in
    cc

line_parts : (a b c d : ℕ) → Line a c ≡ Line b d → (a ≡ b) × (c ≡ d)
line_parts a b c d e = (cc, cc)

pub contents_same : (cs ds : List (ℕ × ℕ)) (before bytes body other : List ℕ) (used more : ℕ) (x y : Outcome (List ℕ))
    → AreChunks cs before bytes body used → AreChunks ds before bytes other more → EndsBody body (drop used bytes) x → EndsBody other (drop more bytes) y
    → SameContent body other used more x y
contents_same [] [] before bytes body other used more x y a b e f =
    let here : EndsBody before bytes x = subst (λ k. EndsBody before (drop k bytes) x) a.1 (subst (λ t. EndsBody t (drop used bytes) x) (sym a.0) e) in
    let there : EndsBody before bytes y = subst (λ k. EndsBody before (drop k bytes) y) b.1 (subst (λ t. EndsBody t (drop more bytes) y) (sym b.0) f) in
    record { body_is = sym a.0 ∙ b.0; used_is = a.1 ∙ sym b.1; ending_is = ends_same before bytes x y here there }
contents_same [] (d ∷ ds) before bytes body other used more x y a b e f =
    let here : EndsBody before bytes x = subst (λ k. EndsBody before (drop k bytes) x) a.1 (subst (λ t. EndsBody t (drop used bytes) x) (sym a.0) e) in
    absurd (ends_no_chunk before bytes x d.0 d.1 here b.2 b.3)
contents_same (c ∷ cs) [] before bytes body other used more x y a b e f =
    let there : EndsBody before bytes y = subst (λ k. EndsBody before (drop k bytes) y) b.1 (subst (λ t. EndsBody t (drop more bytes) y) (sym b.0) f) in
    absurd (ends_no_chunk before bytes y c.0 c.1 there a.2 a.3)
contents_same (c ∷ cs) (d ∷ ds) before bytes body other used more x y a b e f =
    let same = line_parts c.0 d.0 c.1 d.1 (line_unique bytes (Line c.0 c.1) (Line d.0 d.1) a.2 b.2) in
    let length_is : chunk_length d.0 d.1 ≡ chunk_length c.0 c.1 = omega (arith, same.0, same.1) in
    let text : before ++ take d.1 (drop d.0 bytes) ≡ before ++ take c.1 (drop c.0 bytes) = ap (λ k. before ++ take k (drop d.0 bytes)) (sym same.1) ∙ ap (λ k. before ++ take c.1 (drop k bytes)) (sym same.0) in
    let other_chunks : AreChunks ds (before ++ take c.1 (drop c.0 bytes)) (drop (chunk_length c.0 c.1) bytes) other b.0 =
    subst (λ k. AreChunks ds (before ++ take c.1 (drop c.0 bytes)) (drop k bytes) other b.0) length_is
    (subst (λ t. AreChunks ds t (drop (chunk_length d.0 d.1) bytes) other b.0) text b.4) in
    let e' : EndsBody body (drop a.0 (drop (chunk_length c.0 c.1) bytes)) x = subst (λ t. EndsBody body t x) (ap (λ k. drop k bytes) a.1 ∙ sym (drop-drop a.0 (chunk_length c.0 c.1) bytes)) e in
    let f' : EndsBody other (drop b.0 (drop (chunk_length c.0 c.1) bytes)) y = subst (λ t. EndsBody other t y) (ap (λ k. drop k bytes) (b.1 ∙ ap (λ k. k + b.0) length_is) ∙ sym (drop-drop b.0 (chunk_length c.0 c.1) bytes)) f in
    let rest = contents_same cs ds (before ++ take c.1 (drop c.0 bytes)) (drop (chunk_length c.0 c.1) bytes) body other a.0 b.0 x y a.4 other_chunks e' f' in
    record { body_is = rest.body_is; used_is = a.1 ∙ ap (λ k. chunk_length c.0 c.1 + k) rest.used_is ∙ ap (λ k. k + b.0) (sym length_is) ∙ sym b.1; ending_is = rest.ending_is }

pub content_unique : (bytes : List ℕ) (x y : Outcome (List ℕ)) → IsContent bytes x → IsContent bytes y → x ≡ y
content_unique bytes x y c d =
    let same = contents_same c.chunks.chunks d.chunks.chunks [] bytes c.body d.body c.used d.used c.ending d.ending c.chunks.are d.chunks.are c.ends d.ends in
    c.is ∙ ap (λ k. placed_after k c.ending) same.used_is ∙ ap (placed_after d.used) same.ending_is ∙ sym d.is
