-- What changes make of trees in order, and marks of nodes.
use Rattle.std.proofs.Common.{◌≡◌, ℕ, ◌+◌, ◌<◌, Bool, true, false, ◌&&◌, T, List, [], ◌∷◌, Option, None, Some, Result, Ok, length, get_or, drop, refl, sym, ap, subst, ◌∙◌, arith}
use Rattle.std.specs.Prelude.{if◌then◌else◌, MatchBool, not}
use Rattle.std.specs.Ordering.{nat_cmp, is_lt}
use Rattle.std.specs.declared.cmp.Ordering.TheVariants.{Less, Equal, Greater}
use Rattle.std.specs.Cmp.Lexicographic.{slice_cmp, nat_list_cmp_total}
use Rattle.std.specs.FinMap.Entries.{below_all, by_order, is_sorted-put, is_sorted-where_key}
use Rattle.std.proofs.lemmas.List.{at_drop_more, at_drop_all}
use Rattle.std.proofs.lemmas.Map.Lookups.{exact_bytes}
use Rattle.dsv_base.specs.Paths.{is_path, is_under}
use Rattle.rev_nodes.specs.declared.change.Change.{Change}
use Rattle.rev_nodes.specs.declared.unfit.Unfit.{Unfit}
use Rattle.rev_nodes.specs.declared.unfit.Unfit.TheVariants.{NoNode, IsRoot, Exists, NoParent, TooLong, NoMemory}
use Rattle.rev_nodes.specs.Trees.{TreeNode, Tree}
use Rattle.rev_nodes.specs.Changes.{mark, marked, placed, without, moved, copied, are_paths, or_too_long, unfit, apply, apply_from, unless}
use Rattle.rev_nodes.specs.Fitting.{in_order, is_want, settled}
use Rattle.rev_nodes.proofs.Below.{under_itself}

pub true_of : (b : Bool) → T b → b ≡ true
true_of true h = refl
true_of false h = absurd h

pub below-marked : (x : List ℕ) (r : ℕ) (path : List ℕ) (tree : Tree) → below_all (slice_cmp nat_cmp) x (marked r path tree) ≡ below_all (slice_cmp nat_cmp) x tree
below-marked x r path [] = refl
below-marked x r path (e ∷ es) = ap (λ b. is_lt (slice_cmp nat_cmp x e.0) && b) (below-marked x r path es)

pub sorted-marked : (r : ℕ) (path : List ℕ) (tree : Tree) → in_order (marked r path tree) ≡ in_order tree
sorted-marked r path [] = refl
sorted-marked r path (e ∷ es) = λ i. below-marked e.0 r path es i && sorted-marked r path es i

pub sorted-placed : (path : List ℕ) (node : TreeNode) (tree : Tree) → in_order tree ≡ true → in_order (placed path node tree) ≡ true
sorted-placed path node tree h = true_of _ (is_sorted-put (slice_cmp nat_cmp) nat_list_cmp_total path node tree (subst T (sym h) tt))

pub sorted-without : (path : List ℕ) (tree : Tree) → in_order tree ≡ true → in_order (without path tree) ≡ true
sorted-without path tree h = true_of _ (is_sorted-where_key (slice_cmp nat_cmp) (λ p. not (is_under p path)) tree (subst T (sym h) tt))

-- whether the paths of a copy are paths doesn't depend on the revision that it is made in
pub any_revision : (source : List ℕ) (rev : ℕ) (path : List ℕ) (r s : ℕ) (tree : Tree) → are_paths (copied source rev path r tree) ≡ are_paths (copied source rev path s tree)
any_revision source rev path r s [] = refl
any_revision source rev path r s (e ∷ es) =
    elim (is_under e.0 source) as (λ b. are_paths (if b then (moved source path e.0, record { node = e.1.node; line = record { since = r; source = Some (e.0, rev) } }) ∷ copied source rev path r es else copied source rev path r es) ≡ are_paths (if b then (moved source path e.0, record { node = e.1.node; line = record { since = s; source = Some (e.0, rev) } }) ∷ copied source rev path s es else copied source rev path s es)) [
      | true ↦ ap (λ b. is_path (moved source path e.0) && b) (any_revision source rev path r s es)
      | false ↦ any_revision source rev path r s es
    ]

-- why a copy doesn't fit, where its source is there and its place is free
pub copy_why : (found : Bool) (new why : Option Unfit) (a b : Bool) → found ≡ true → new ≡ None → a ≡ b → or_too_long None a ≡ why → (if found then or_too_long new b else Some NoNode) ≡ why
copy_why found new why a b f n same w = (λ i. if f i then or_too_long (n i) (sym same i) else Some NoNode) ∙ w

-- a node is there to be deleted, and isn't the root
pub delete_why : (there root : Bool) → there ≡ true → root ≡ false → (if there then (if root then Some IsRoot else None) else Some NoNode) ≡ None
delete_why there root t f = λ i. if t i then (if f i then Some IsRoot else None) else Some NoNode

-- one reason is that of another answer
pub same_fault : (one two : Option Unfit) (fault : Unfit) → two ≡ one → MatchBool (is_want fault) (Unit {0}) (one ≡ Some fault) → MatchBool (is_want fault) (Unit {0}) (two ≡ Some fault)
same_fault one two NoMemory same h = tt
same_fault one two NoNode same h = same ∙ h
same_fault one two IsRoot same h = same ∙ h
same_fault one two Exists same h = same ∙ h
same_fault one two NoParent same h = same ∙ h
same_fault one two TooLong same h = same ∙ h

-- a change that fits is done before the others
pub one_done : (change : Change) (changes : List Change) (i index r : ℕ) (trees : List Tree) (tree new : Tree) (whole : Result Tree (ℕ × Unfit)) → i < length changes → get_or changes i change ≡ change → unfit change trees tree ≡ None → new ≡ apply change trees tree r → apply_from index (drop i changes) trees tree r ≡ whole → apply_from (index + 1) (drop (i + 1) changes) trees new r ≡ whole
unfolding apply_from
one_done change changes i index r trees tree new whole within is fits does left =
    let step : apply_from index (drop i changes) trees tree r ≡ apply_from index (get_or changes i change ∷ drop (i + 1) changes) trees tree r = at_drop_more (λ (cs : List Change). apply_from index cs trees tree r) changes i change within in
    ap (λ (t : Tree). apply_from (index + 1) (drop (i + 1) changes) trees t r) does
    ∙ ap (λ (o : Option Unfit). unless o index (apply_from (index + 1) (drop (i + 1) changes) trees (apply change trees tree r) r)) (sym fits)
    ∙ ap (λ (c : Change). apply_from index (c ∷ drop (i + 1) changes) trees tree r) (sym is)
    ∙ sym step ∙ left

-- nothing is left to do
pub all_done : (changes : List Change) (i index r : ℕ) (trees : List Tree) (tree : Tree) (whole : Result Tree (ℕ × Unfit)) → length changes < i + 1 → apply_from index (drop i changes) trees tree r ≡ whole → whole ≡ Ok tree
unfolding apply_from
all_done changes i index r trees tree whole past left = sym left ∙ at_drop_all (λ (cs : List Change). apply_from index cs trees tree r) changes i (omega arith)

pub marked_at : (r : ℕ) (path key : List ℕ) (node : TreeNode) → is_under path key ≡ true → mark r path (key, settled r node) ≡ mark r path (key, node)
marked_at r path key node under = ap (λ b. (key, if b then settled r node else settled r node)) under ∙ ap (λ b. (key, if b then settled r node else node)) (sym under)

-- a node that is put at the path gets its mark at once, or after
pub marked_settled : (r : ℕ) (path : List ℕ) (node : TreeNode) (tree : Tree) → marked r path (placed path (settled r node) tree) ≡ marked r path (placed path node tree)
marked_settled r path node [] = ap (λ e. e ∷ []) (marked_at r path path node (under_itself path))
marked_settled r path node (e ∷ es) =
    elim (slice_cmp nat_cmp path e.0) as (λ o. slice_cmp nat_cmp path e.0 ≡ o → marked r path (by_order o ((path, settled r node) ∷ e ∷ es) ((e.0, settled r node) ∷ es) (e ∷ placed path (settled r node) es)) ≡ marked r path (by_order o ((path, node) ∷ e ∷ es) ((e.0, node) ∷ es) (e ∷ placed path node es))) [
      | Less ↦ λ t. ap (λ e1. e1 ∷ marked r path (e ∷ es)) (marked_at r path path node (under_itself path))
      | Equal ↦ λ t. ap (λ e1. e1 ∷ marked r path es) (marked_at r path e.0 node (ap (is_under path) (sym (exact_bytes path e.0 t)) ∙ under_itself path))
      | Greater ↦ λ t. ap (λ others. mark r path e ∷ others) (marked_settled r path node es)
    ] refl
