-- What stands at a path after the parts of a change.
use Rattle.std.proofs.Common.{◌≡◌, ℕ, Bool, true, false, List, [], ◌∷◌, Option, None, Some, refl, sym, ap, ◌∙◌}
use Rattle.std.specs.Prelude.{if◌then◌else◌}
use Rattle.std.specs.Option.{option_map, option_map_or}
use Rattle.std.specs.Ordering.{nat_cmp, eq_by_cmp}
use Rattle.std.specs.Cmp.Lexicographic.{slice_cmp}
use Rattle.dsv_base.specs.declared.prop.Prop.{Prop}
use Rattle.dsv_base.specs.Paths.{is_under}
use Rattle.rev_nodes.specs.Trees.{TreeNode, Tree, at}
use Rattle.rev_nodes.specs.Changes.{mark, marked, placed, all_placed, with_props, edited}
use Rattle.rev_nodes.proofs.Forming.{at-placed, tied}
use Rattle.node_table.specs.Rebuilt.{stamped}

abbrev pub is_at : List ℕ → List ℕ → Bool
is_at p path = eq_by_cmp (slice_cmp nat_cmp) p path

-- the first, or else the second
abbrev pub or_else : {X : Type 0} → Option X → Option X → Option X
or_else None second = second
or_else (Some x) second = Some x

pub at-marked : (r : ℕ) (path : List ℕ) (tree : Tree) (p : List ℕ) → at p (marked r path tree) ≡ option_map (stamped r (is_under path p)) (at p tree)
at-marked r path [] p = refl
at-marked r path (e ∷ es) p = either (is_at p e.0) refl (at-marked r path es p)
  where
    mark_is : (b : Bool) (x : TreeNode) → (if b then record x { node = record x.node { created = r } } else x) ≡ stamped r b x
    mark_is true x = refl
    mark_is false x = refl

    either : (b : Bool) → is_at p e.0 ≡ b → at p (marked r path es) ≡ option_map (stamped r (is_under path p)) (at p es) → (if b then Some (mark r path e).1 else at p (marked r path es)) ≡ option_map (stamped r (is_under path p)) (if b then Some e.1 else at p es)
    either true t more = ap Some (mark_is (is_under path e.0) e.1) ∙ ap (λ q. Some (stamped r (is_under path q) e.1)) (sym (tied p e.0 t))
    either false t more = more

or_else-assoc : {X : Type 0} (a b c : Option X) → or_else a (or_else b c) ≡ or_else (or_else a b) c
or_else-assoc None b c = refl
or_else-assoc (Some x) b c = refl

-- places put over a tree are found before it
pub at-all_placed : (places tree : Tree) (p : List ℕ) → at p (all_placed places tree) ≡ or_else (at p (all_placed places [])) (at p tree)
at-all_placed [] tree p = refl
at-all_placed (e ∷ es) tree p =
    at-all_placed es (placed e.0 e.1 tree) p
    ∙ ap (or_else (at p (all_placed es []))) (at-placed p e.0 e.1 tree ∙ either (is_at p e.0))
    ∙ or_else-assoc (at p (all_placed es [])) (if is_at p e.0 then Some e.1 else None) (at p tree)
    ∙ ap (λ o. or_else o (at p tree)) (ap (or_else (at p (all_placed es []))) (sym (at-placed p e.0 e.1 [])) ∙ sym (at-all_placed es (placed e.0 e.1 []) p))
  where
    either : (b : Bool) → (if b then Some e.1 else at p tree) ≡ or_else (if b then Some e.1 else None) (at p tree)
    either true = refl
    either false = refl

-- with edited properties, where the node stands
pub edited-found : (edit : List Prop → List Prop) (path : List ℕ) (tree : Tree) (found : TreeNode) → at path tree ≡ Some found → edited edit path tree ≡ placed path (with_props edit found) tree
edited-found edit path tree found e = ap (λ o. option_map_or (λ found. placed path (with_props edit found) tree) o tree) e
