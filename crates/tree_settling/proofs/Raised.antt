-- The height over entries of which some give way to others.
use Rattle.std.proofs.Common.{◌≡◌, List, [], ◌∷◌, ◌++◌, Option, sym, ap, subst, ◌∙◌, arith, append_assoc}
use Rattle.std.specs.Prelude.{IfSome}
use Rattle.rev_nodes.specs.declared.cell.Cell.{Cell}
use Rattle.rev_nodes.specs.declared.entry.Entry.{Entry}
use Rattle.rev_nodes.specs.declared.height.Height.{Height}
use Rattle.node_table.specs.Heights.{no_height, height_below, higher}
use Rattle.node_table.specs.Tables.{cell_at, height_over}
use Rattle.tree_settling.specs.Merged.{TellsHeight}

same_height : (a b : Height) → a.names ≡ b.names → a.bytes ≡ b.bytes → a ≡ b
same_height a b names bytes = λ i. record { names = names i; bytes = bytes i }

higher_none : (a : Height) → a ≡ higher no_height a
higher_none a = same_height a (higher no_height a) (omega arith) (omega arith)

higher_assoc : (a b c : Height) → higher a (higher b c) ≡ higher (higher a b) c
higher_assoc a b c = same_height (higher a (higher b c)) (higher (higher a b) c) (omega arith) (omega arith)

higher_turned : (a b c : Height) → higher a (higher b c) ≡ higher b (higher a c)
higher_turned a b c = same_height (higher a (higher b c)) (higher b (higher a c)) (omega arith) (omega arith)

module _ (all : List Cell) where
  height-append : (xs ys : List Entry) → height_over all (xs ++ ys) ≡ higher (height_over all xs) (height_over all ys)
  height-append [] ys = higher_none (height_over all ys)
  height-append (x ∷ xs) ys =
      ap (higher (height_below x.name (cell_at all x.id).height)) (height-append xs ys)
      ∙ higher_assoc (height_below x.name (cell_at all x.id).height) (height_over all xs) (height_over all ys)

  -- the height with some entries in the middle
  height_between : (xs ys zs : List Entry) → height_over all (xs ++ (ys ++ zs)) ≡ higher (height_over all ys) (height_over all (xs ++ zs))
  height_between [] ys zs = height-append ys zs
  height_between (x ∷ xs) ys zs =
      ap (higher (height_below x.name (cell_at all x.id).height)) (height_between xs ys zs)
      ∙ higher_turned (height_below x.name (cell_at all x.id).height) (height_over all ys) (height_over all (xs ++ zs))

  -- some entries give way to others, whatever the others are
  pub put_height : (front back gone come : List Entry) (height was is : Height) (next : Option Height) → was ≡ height_over all gone → is ≡ height_over all come
      → ((others : Height) → height ≡ higher was others → IfSome next (λ h. h ≡ higher is others))
      → height ≡ height_over all (front ++ (gone ++ back)) → TellsHeight all (front ++ (come ++ back)) next
  put_height front back gone come height was is next was_is is_is step told =
      subst (λ (x : Height). IfSome next (λ h. h ≡ x)) (ap (λ (x : Height). higher x (height_over all (front ++ back))) is_is ∙ sym (height_between front come back))
      (step (height_over all (front ++ back)) (told ∙ height_between front gone back ∙ ap (λ (x : Height). higher x (height_over all (front ++ back))) (sym was_is)))

  -- the same where the entries before them were copied
  pub next_height : (old rest new behind before gone come : List Entry) (height next : Option Height) → before ++ (gone ++ behind) ≡ rest → new ≡ (old ++ before) ++ come
      → ((front back : List Entry) → TellsHeight all (front ++ (gone ++ back)) height → TellsHeight all (front ++ (come ++ back)) next)
      → TellsHeight all (old ++ rest) height → TellsHeight all (new ++ behind) next
  next_height old rest new behind before gone come height next rest_is new_is step told =
      let was : old ++ rest ≡ (old ++ before) ++ (gone ++ behind) = ap (λ xs. old ++ xs) (sym rest_is) ∙ sym (append_assoc old before (gone ++ behind)) in
      let is : (old ++ before) ++ (come ++ behind) ≡ new ++ behind = sym (append_assoc (old ++ before) come behind) ∙ ap (λ xs. xs ++ behind) (sym new_is) in
      subst (λ xs. TellsHeight all xs next) is (step (old ++ before) behind (subst (λ xs. TellsHeight all xs height) was told))
