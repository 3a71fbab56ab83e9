-- A way stands where a directory stands at its end's parent.
use Rattle.std.proofs.Common.{◌≡◌, ℕ, Bool, true, false, List, [], ◌∷◌, ◌++◌, Option, None, Some, refl, sym, ap, ◌∙◌, append_assoc, append-nil}
use Rattle.std.specs.Prelude.{if◌then◌else◌}
use Rattle.std.specs.Option.{option_map, option_map_or}
use Rattle.std.proofs.lemmas.Bool.{and_parts}
use Rattle.dsv_base.specs.Paths.{is_component, root_text, parent_text, join_text}
use Rattle.rev_nodes.specs.declared.cell.Cell.{Cell}
use Rattle.rev_nodes.specs.Trees.{Tree, at, is_dir, is_dir_kind}
use Rattle.rev_nodes.specs.Changes.{has_parent}
use Rattle.rev_nodes.proofs.Forming.{some_dir}
use Rattle.rev_nodes.specs.Subtrees.{path_below}
use Rattle.node_table.specs.Ways.{Name, are_names}
use Rattle.node_table.proofs.Ways.{path_at-more}
use Rattle.node_table.specs.Tables.{IsSoundTable}
use Rattle.tree_edits.specs.Edits.{Held, Touched, EditedTree, held_from, held_root, held_node, AreShown}
use Rattle.tree_edits.specs.Hanging.{child_held, marked_at, hung_in, hung_at}
use Rattle.tree_edits.proofs.Texts.{front_named, ends, parts_of, parent_at}
use Rattle.tree_edits.proofs.Views.{stepped}
use Rattle.tree_edits.proofs.Kept.{unmarked_held}

module _ (r : ℕ) (cells : List Cell) (sound : IsSoundTable cells) (leaf : Option Held) where
  -- a directory stands above the end of a way on which all was marked
  pub dir_above : (front : List Name) (last : Name) (touched : Touched) (path : List ℕ) (here : Option Held) (new : Touched) → are_names front ≡ true → hung_in r cells leaf touched path here (front ++ last ∷ []) ≡ Some new → is_dir (option_map held_node (held_from cells touched path here front)) ≡ true
  dir_above [] last touched path None new k e = absurd (cc e)
  dir_above [] last touched path (Some h) new k e = (stepped r cells leaf touched path h last [] new e).dir
  dir_above (q ∷ qs) last touched path None new k e = absurd (cc e)
  dir_above (q ∷ qs) last touched path (Some h) new k e =
      let p = and_parts (is_component q) (are_names qs) k in
      let s = stepped r cells leaf touched path h q (qs ++ last ∷ []) new e in
      ap (λ o. is_dir (option_map held_node o)) (sym (unmarked_held cells sound r touched path h q qs k))
      ∙ dir_above qs last (marked_at r path h touched) (join_text path q) (child_held cells (marked_at r path h touched) path q h) new p.1 s.next

  -- where directories stand on all of it, it can be marked
  pub all_dirs : (front : List Name) (last : Name) (touched : Touched) (path : List ℕ) (here : Option Held) → are_names front ≡ true → ((fs gs : List Name) → fs ++ gs ≡ front → is_dir (option_map held_node (held_from cells touched path here fs)) ≡ true) → hung_in r cells leaf touched path here (front ++ last ∷ []) ≡ None → ⊥
  all_dirs [] last touched path None k dirs e = let d = dirs [] [] refl in cc d
  all_dirs [] last touched path (Some h) k dirs e = let d = dirs [] [] refl in by (is_dir_kind h.node.kind) d e
    where
      by : (b : Bool) → b ≡ true → (if b then hung_in r cells leaf (marked_at r path h touched) (join_text path last) (child_held cells (marked_at r path h touched) path last h) [] else None) ≡ None → ⊥
      by true d e = cc e
      by false d e = cc d
  all_dirs (q ∷ qs) last touched path None k dirs e = let d = dirs [] (q ∷ qs) refl in cc d
  all_dirs (q ∷ qs) last touched path (Some h) k dirs e =
      let d = dirs [] (q ∷ qs) refl in
      let p = and_parts (is_component q) (are_names qs) k in
      by (is_dir_kind h.node.kind) d e (λ f. all_dirs qs last (marked_at r path h touched) (join_text path q) (child_held cells (marked_at r path h touched) path q h) p.1
      (λ fs gs is. ap (λ o. is_dir (option_map held_node o)) (unmarked_held cells sound r touched path h q fs (front_named (q ∷ fs) gs (ap are_names (ap (λ xs. q ∷ xs) is) ∙ k))) ∙ dirs (q ∷ fs) gs (ap (λ xs. q ∷ xs) is)) f)
    where
      by : (b : Bool) → b ≡ true → (if b then hung_in r cells leaf (marked_at r path h touched) (join_text path q) (child_held cells (marked_at r path h touched) path q h) (qs ++ last ∷ []) else None) ≡ None → (hung_in r cells leaf (marked_at r path h touched) (join_text path q) (child_held cells (marked_at r path h touched) path q h) (qs ++ last ∷ []) ≡ None → ⊥) → ⊥
      by true d e go = go e
      by false d e go = cc d

  module _ (edits : EditedTree) (tree : Tree) (is : AreShown cells edits tree) where
    -- in a formed tree directories stand above a directory
    dirs_up : (gs fs : List Name) → are_names (fs ++ gs) ≡ true → is_dir (at (path_below root_text (fs ++ gs)) tree) ≡ true → is_dir (at (path_below root_text fs) tree) ≡ true
    dirs_up [] fs k d = ap (λ xs. is_dir (at (path_below root_text xs) tree)) (sym (append-nil fs)) ∙ d
    dirs_up (g ∷ gs) fs k d =
        let whole : (fs ++ g ∷ []) ++ gs ≡ fs ++ g ∷ gs = append_assoc fs (g ∷ []) gs in
        let more = dirs_up gs (fs ++ g ∷ []) (ap are_names whole ∙ k) (ap (λ xs. is_dir (at (path_below root_text xs) tree)) whole ∙ d) in
        let named = parts_of fs g (front_named (fs ++ g ∷ []) gs (ap are_names whole ∙ k)) in
        is.formed.parents (path_below root_text (fs ++ g ∷ [])) (path_below root_text fs) (some_dir _ more) (ap parent_text (path_at-more root_text fs g) ∙ parent_at fs g named.0 named.1)

    parent_dir : (front : List Name) (last : Name) → are_names (front ++ last ∷ []) ≡ true → has_parent (path_below root_text (front ++ last ∷ [])) tree ≡ is_dir (at (path_below root_text front) tree)
    parent_dir front last k =
        let p = parts_of front last k in
        ap (λ t. has_parent t tree) (path_at-more root_text front last) ∙ ap (λ o. option_map_or (λ parent. is_dir (at parent tree)) o false) (parent_at front last p.0 p.1)

    pub has_hung : (q : Name) (qs : List Name) (new : Touched) → are_names (q ∷ qs) ≡ true → hung_at r cells leaf edits (q ∷ qs) ≡ Some new → has_parent (path_below root_text (q ∷ qs)) tree ≡ true
    has_hung q qs new k e =
        let x = ends q qs in
        let named : are_names (x.front ++ x.last ∷ []) ≡ true = sym (ap are_names x.is) ∙ k in
        let p = parts_of x.front x.last named in
        ap (λ ws. has_parent (path_below root_text ws) tree) x.is
        ∙ parent_dir x.front x.last named
        ∙ ap is_dir (is.shows x.front p.0)
        ∙ dir_above x.front x.last edits.touched root_text (held_root cells edits) new p.0 (sym (ap (hung_at r cells leaf edits) x.is) ∙ e)

    pub not_hung : (q : Name) (qs : List Name) → are_names (q ∷ qs) ≡ true → has_parent (path_below root_text (q ∷ qs)) tree ≡ true → hung_at r cells leaf edits (q ∷ qs) ≡ None → ⊥
    not_hung q qs k has e =
        let x = ends q qs in
        let named : are_names (x.front ++ x.last ∷ []) ≡ true = sym (ap are_names x.is) ∙ k in
        let p = parts_of x.front x.last named in
        let dir : is_dir (at (path_below root_text x.front) tree) ≡ true = sym (parent_dir x.front x.last named) ∙ sym (ap (λ ws. has_parent (path_below root_text ws) tree) x.is) ∙ has in
        all_dirs x.front x.last edits.touched root_text (held_root cells edits) p.0
        (λ fs gs cut. ap is_dir (sym (is.shows fs (front_named fs gs (ap are_names cut ∙ p.0)))) ∙ dirs_up gs fs (ap are_names cut ∙ p.0) (ap (λ xs. is_dir (at (path_below root_text xs) tree)) cut ∙ dir))
        (sym (ap (hung_at r cells leaf edits) x.is) ∙ e)
