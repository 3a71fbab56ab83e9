-- A table with a root of its own shows the root alone.
use Rattle.std.proofs.Common.{Result, Ok, Err, ◌≡◌, ℕ, ◌≤◌, Bool, true, false, cond, List, [], ◌∷◌, ◌++◌, None, Some, length, refl, sym, ap, subst, ◌∙◌, arith, length-append, append-nil}
use Rattle.std.specs.Prelude.{IsTrue, IfOk, OnOk, OnErr, is_some, is_ok, if◌then◌else◌}
use Rattle.std.specs.Option.{option_map}
use Rattle.std.specs.Ordering.{nat_cmp, eq_by_cmp}
use Rattle.std.specs.Cmp.Lexicographic.{slice_cmp}
use Rattle.std.proofs.lemmas.Bool.{false_from_ne_true}
use Rattle.std.specs.Str.{bytes_eq}
use Rattle.dsv_base.specs.Paths.{parent_text, is_path, root_text}
use Rattle.rev_nodes.specs.declared.kind.Kind.TheVariants.{Dir}
use Rattle.rev_nodes.specs.Trees.{TreeNode, Tree, at, is_dir, new_dir}
use Rattle.rev_nodes.specs.Formed.{has_ordered_props, IsFormed}
use Rattle.rev_nodes.proofs.Forming.{tied}
use Rattle.rev_nodes.specs.declared.cell.Cell.{Cell}
use Rattle.rev_nodes.specs.Subtrees.{path_below}
use Rattle.node_table.specs.Ways.{Name, are_names}
use Rattle.node_table.specs.Tables.{entries_rise, height_over, cell_at, child, spot_in, spot_node, seen, IsSoundTable}
use Rattle.node_table.specs.Rebuilt.{root_spot, IsLonger}
use Rattle.node_table.specs.Shown.{IsShown}
use Rattle.node_table.specs.Steps.{IsBase, new_cell}
use Rattle.node_table.proofs.Fronts.{not-root}
use Rattle.node_table.proofs.Growing.{cell_at-next, no_cell_sound, sound-more, walk_none}

-- ---- for the code

pub ok_both : {X E : Type 0} (r : Result X E) (P : X → Type 0) (Q : Type 0) (R : X → Type 0) → IfOk r P → OnOk r Q → ((x : X) → P x → Q → R x) → IfOk r R
ok_both (Ok x) P Q R p q go = go x p q
ok_both (Err e) P Q R p q go = tt

pub pushed_longer : {X E : Type 0} (r : Result X E) (old new : List Cell) (cell : Cell) → new ≡ (if is_ok r then old ++ cell ∷ [] else old) → IsLonger old new
pushed_longer (Ok x) old new cell is = record { more = cell ∷ []; is = is }
pushed_longer (Err e) old new cell is = record { more = []; is = is ∙ sym (append-nil old) }

abbrev pub root_tree : ℕ → Tree
root_tree r = (root_text, new_dir r) ∷ []

root_formed : (r : ℕ) → IsFormed (root_tree r)
unfolding is_path parent_text
root_formed r = record {
  root = refl;
  paths = λ path some. at_root path (eq_by_cmp (slice_cmp nat_cmp) path root_text) refl some;
  parents = λ path parent some is. none path parent (eq_by_cmp (slice_cmp nat_cmp) path root_text) refl some is;
  props = λ path. props (eq_by_cmp (slice_cmp nat_cmp) path root_text);
}
  where
    at_root : (path : List ℕ) (b : Bool) → eq_by_cmp (slice_cmp nat_cmp) path root_text ≡ b → is_some (cond b (Some (new_dir r)) None) ≡ true → is_path path ≡ true
    at_root path true t some = ap is_path (tied path root_text t)
    at_root path false t some = absurd (cc)

    none : (path parent : List ℕ) (b : Bool) → eq_by_cmp (slice_cmp nat_cmp) path root_text ≡ b → is_some (cond b (Some (new_dir r)) None) ≡ true → parent_text path ≡ Some parent → is_dir (at parent (root_tree r)) ≡ true
    none path parent true t some is = absurd (let lost : parent_text path ≡ None = ap parent_text (tied path root_text t) in cc (lost, is))
    none path parent false t some is = absurd (cc)

    props : (b : Bool) → has_ordered_props (cond b (Some (new_dir r)) None) ≡ true
    props true = refl
    props false = refl

pub none_sound : IsSoundTable []
none_sound id = no_cell_sound [] id refl

module _ (r : ℕ) (old : List Cell) (cell : Cell) (cell_is : cell ≡ new_cell r Dir []) where
  here_is : cell_at (old ++ cell ∷ []) (length old) ≡ new_cell r Dir []
  here_is = cell_at-next old cell [] ∙ cell_is

  pub root_sound : IsSoundTable old → IsSoundTable (old ++ cell ∷ [])
  root_sound sound = sound-more old cell sound (record {
    sorted = subst (λ (c : Cell). IsTrue (entries_rise c.entries)) (sym here_is) refl;
    children = λ n i e. absurd (let f = ap (λ (c : Cell). child n c.entries) (sym here_is) ∙ e in cc f);
    file = λ k. ap (λ (c : Cell). c.entries) here_is;
    since = subst (λ (c : Cell). c.line.since ≤ c.node.created) (sym here_is) (omega arith);
    height = subst (λ (c : Cell). c.height ≡ height_over (old ++ cell ∷ []) c.entries) (sym here_is) refl;
  })

  root_shown : IsShown (old ++ cell ∷ []) (length old) (root_tree r)
  root_shown = record {
    shown = λ ns k. by ns k;
    formed = root_formed r;
  }
    where
      from_line : (ns : List Name) (n : Name) → seen (old ++ cell ∷ []) (option_map (spot_in (old ++ cell ∷ []) (cell_at (old ++ cell ∷ []) (length old)).line n) (child n (cell_at (old ++ cell ∷ []) (length old)).entries)) ns ≡ seen (old ++ cell ∷ []) (Some (root_spot (old ++ cell ∷ []) (length old))) (n ∷ ns)
      from_line ns n = refl

      by : (ns : List Name) → are_names ns ≡ true → at (path_below root_text ns) (root_tree r) ≡ seen (old ++ cell ∷ []) (Some (root_spot (old ++ cell ∷ []) (length old))) ns
      by [] k = ap (λ (c : Cell). let t : TreeNode = record { node = c.node; line = c.line } in Some t) (sym here_is)
      by (n ∷ ns) k =
          ap (λ b. cond b (Some (new_dir r)) None) (false_from_ne_true _ (λ t. let e : bytes_eq (path_below root_text (n ∷ ns)) root_text ≡ true = ap (λ p. bytes_eq p root_text) (tied (path_below root_text (n ∷ ns)) root_text t) in let f : true ≡ false = sym e ∙ not-root n ns k in cc f))
          ∙ sym (ap (option_map (spot_node (old ++ cell ∷ []))) (walk_none (old ++ cell ∷ []) ns))
          ∙ ap (λ (c : Cell). seen (old ++ cell ∷ []) (option_map (spot_in (old ++ cell ∷ []) c.line n) (child n c.entries)) ns) (sym here_is)
          ∙ from_line ns n

  pub root_is_shown : (new : List Cell) → new ≡ old ++ cell ∷ [] → (root : ℕ) → root ≡ length old → IsShown new root (root_tree r)
  root_is_shown new new_is root root_is = subst (λ xs. IsShown xs root (root_tree r)) (sym new_is) (subst (λ k. IsShown (old ++ cell ∷ []) k (root_tree r)) (sym root_is) root_shown)

  pub root_is_base : IsSoundTable old → (new : List Cell) → new ≡ old ++ cell ∷ [] → (root : ℕ) → root ≡ length old → IsBase r new root
  root_is_base sound new new_is root root_is = subst (λ xs. IsBase r xs root) (sym new_is) (subst (λ k. IsBase r (old ++ cell ∷ []) k) (sym root_is) (record {
    sound = root_sound sound;
    within = let n = length-append old (cell ∷ []) in omega (arith, n);
    young = subst (λ (c : Cell). c.node.created ≤ r) (sym here_is) (omega arith);
  }))

  pub root_kept : {E : Type 0} (result : Result ℕ E) → IsSoundTable old → (new : List Cell) → OnOk result (new ≡ old ++ cell ∷ []) → OnErr result (new ≡ old) → IsSoundTable new
  root_kept (Ok id) sound new grown same = subst (λ xs. IsSoundTable xs) (sym grown) (root_sound sound)
  root_kept (Err e) sound new grown same = subst (λ xs. IsSoundTable xs) (sym same) sound
