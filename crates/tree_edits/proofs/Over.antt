-- What is seen after a change, by what stands in the flat tree before its marks are made.
use Rattle.std.proofs.Common.{◌≡◌, ℕ, Bool, true, false, ◌&&◌, List, [], ◌∷◌, ◌++◌, Option, None, Some, refl, sym, ap, ◌∙◌}
use Rattle.std.specs.Prelude.{if◌then◌else◌}
use Rattle.std.specs.Option.{option_map}
use Rattle.std.specs.Str.{bytes_eq}
use Rattle.std.proofs.lemmas.Bool.{and_parts, and_from}
use Rattle.dsv_base.specs.Paths.{is_component}
use Rattle.rev_nodes.specs.Trees.{TreeNode}
use Rattle.rev_nodes.proofs.Below.{same_from, equal_itself, differ}
use Rattle.node_table.specs.Ways.{Name, are_names, is_front}
use Rattle.node_table.specs.Rebuilt.{stamped}

-- `hung` stands at the way, and the nodes above it are marked
abbrev pub rebuilt : ℕ → List Name → (List Name → Option TreeNode) → (List Name → Option TreeNode) → List Name → Option TreeNode
rebuilt r [] hung old ns = hung ns
rebuilt r (q ∷ qs) hung old [] = option_map (stamped r true) (old [])
rebuilt r (q ∷ qs) hung old (n ∷ ns) = if bytes_eq n q then rebuilt r qs hung (λ ms. old (q ∷ ms)) ns else old (n ∷ ns)

pub unstamped : (r : ℕ) (o : Option TreeNode) → o ≡ option_map (stamped r false) o
unstamped r None = refl
unstamped r (Some found) = refl

abbrev View : Type 0
View = List Name → Option TreeNode

turn : (m n : Name) (b : Bool) → bytes_eq n m ≡ b → bytes_eq m n ≡ b
turn m n true e = ap (bytes_eq m) (same_from n m e) ∙ equal_itself m
turn m n false e = differ m n (λ s. let t : bytes_eq n m ≡ true = ap (bytes_eq n) s ∙ equal_itself n in let f : true ≡ false = sym t ∙ e in cc f)

pub rebuilt_over : (r : ℕ) (qs : List Name) (old over hung : View) → are_names qs ≡ true
    → hung [] ≡ option_map (stamped r true) (over qs)
    → ((m : Name) (ms : List Name) → are_names (m ∷ ms) ≡ true → hung (m ∷ ms) ≡ over (qs ++ m ∷ ms))
    → ((ns : List Name) → are_names ns ≡ true → is_front qs ns ≡ false → over ns ≡ old ns)
    → (ns : List Name) → are_names ns ≡ true → rebuilt r qs hung old ns ≡ option_map (stamped r (is_front ns qs)) (over ns)
rebuilt_over r [] old over hung h here below aside [] k = here
rebuilt_over r [] old over hung h here below aside (n ∷ ns) k = below n ns k ∙ unstamped r (over (n ∷ ns))
rebuilt_over r (q ∷ qs) old over hung h here below aside [] k = ap (option_map (stamped r true)) (sym (aside [] refl refl))
rebuilt_over r (q ∷ qs) old over hung h here below aside (n ∷ ns) k =
    by (bytes_eq n q) refl (λ same. rebuilt_over r qs (λ ms. old (q ∷ ms)) (λ ms. over (q ∷ ms)) hung (and_parts (is_component q) (are_names qs) h).1 here below (λ ms z f. aside (q ∷ ms) (and_from (is_component q) (are_names ms) (and_parts (is_component q) (are_names qs) h).0 z) (ap (λ b. b && is_front qs ms) (equal_itself q) ∙ f)) ns (and_parts (is_component n) (are_names ns) k).1)
  where
    by : (b : Bool) → bytes_eq n q ≡ b → (n ≡ q → rebuilt r qs hung (λ ms. old (q ∷ ms)) ns ≡ option_map (stamped r (is_front ns qs)) (over (q ∷ ns))) → (if b then rebuilt r qs hung (λ ms. old (q ∷ ms)) ns else old (n ∷ ns)) ≡ option_map (stamped r (bytes_eq q n && is_front ns qs)) (over (n ∷ ns))
    by true e go =
        go (same_from n q e)
        ∙ ap (λ (m : Name). option_map (stamped r (is_front ns qs)) (over (m ∷ ns))) (sym (same_from n q e))
        ∙ ap (λ b. option_map (stamped r (b && is_front ns qs)) (over (n ∷ ns))) (sym (turn q n true e))
    by false e go =
        sym (aside (n ∷ ns) k (ap (λ b. b && is_front qs ns) e))
        ∙ unstamped r (over (n ∷ ns))
        ∙ ap (λ b. option_map (stamped r (b && is_front ns qs)) (over (n ∷ ns))) (sym (turn q n false e))

-- what is seen at names alone counts
pub rebuilt_same : (r : ℕ) (qs : List Name) (hung old new : View) → are_names qs ≡ true → ((ns : List Name) → are_names ns ≡ true → old ns ≡ new ns) → (ns : List Name) → are_names ns ≡ true → rebuilt r qs hung old ns ≡ rebuilt r qs hung new ns
rebuilt_same r [] hung old new h each ns k = refl
rebuilt_same r (q ∷ qs) hung old new h each [] k = ap (option_map (stamped r true)) (each [] refl)
rebuilt_same r (q ∷ qs) hung old new h each (n ∷ ns) k =
    by (bytes_eq n q) (rebuilt_same r qs hung (λ ms. old (q ∷ ms)) (λ ms. new (q ∷ ms)) (and_parts (is_component q) (are_names qs) h).1 (λ ms z. each (q ∷ ms) (and_from (is_component q) (are_names ms) (and_parts (is_component q) (are_names qs) h).0 z)) ns (and_parts (is_component n) (are_names ns) k).1)
  where
    by : (b : Bool) → rebuilt r qs hung (λ ms. old (q ∷ ms)) ns ≡ rebuilt r qs hung (λ ms. new (q ∷ ms)) ns → (if b then rebuilt r qs hung (λ ms. old (q ∷ ms)) ns else old (n ∷ ns)) ≡ (if b then rebuilt r qs hung (λ ms. new (q ∷ ms)) ns else new (n ∷ ns))
    by true go = go
    by false go = each (n ∷ ns) k
