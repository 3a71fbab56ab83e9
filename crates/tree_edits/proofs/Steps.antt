-- Each change of one place does what it is to do.
use Rattle.std.proofs.Common.{Result, Ok, Err, ◌≡◌, ℕ, Bool, true, false, not, List, [], ◌∷◌, ◌++◌, Option, None, Some, refl, sym, ap, subst, ◌∙◌, arith}
use Rattle.std.specs.Prelude.{is_some, if◌then◌else◌, MatchBool}
use Rattle.std.specs.Option.{option_map, option_map_or}
use Rattle.dsv_base.specs.Paths.{is_path, root_text, parent_text}
use Rattle.rev_nodes.specs.declared.cell.Cell.{Cell}
use Rattle.rev_nodes.specs.declared.kind.Kind.TheVariants.{File, Dir}
use Rattle.rev_nodes.specs.declared.change.Change.{Change}
use Rattle.rev_nodes.specs.declared.change.Change.TheVariants as changes
use Rattle.rev_nodes.specs.declared.unfit.Unfit.{Unfit}
use Rattle.rev_nodes.specs.declared.unfit.Unfit.TheVariants as whys
use Rattle.rev_nodes.specs.Trees.{TreeNode, Tree, at, is_dir, is_file, is_dir_kind, new_file, new_dir}
use Rattle.rev_nodes.specs.Changes.{has_parent, unfit_new, unfit, apply, marked, placed, edited}
use Rattle.rev_nodes.specs.Changes as flat
use Rattle.rev_nodes.specs.ChangedPaths.{path_of}
use Rattle.rev_nodes.specs.Formed.{IsFormed}
use Rattle.rev_nodes.specs.Fitting.{is_want}
use Rattle.rev_nodes.proofs.Forming.{formed_change}
use Rattle.rev_nodes.specs.Subtrees.{path_below}
use Rattle.node_table.specs.Ways.{Name, are_names, names_in}
use Rattle.node_table.specs.Tables.{IsSoundTable}
use Rattle.node_table.specs.Rebuilt.{stamped}
use Rattle.node_table.specs.Steps.{AreSources, HasSource}
use Rattle.node_table.proofs.Ways.{path_at-more}
use Rattle.node_table.proofs.PathNames.{names_of_path}
use Rattle.node_table.proofs.Marking.{edited-found}
use Rattle.tree_edits.specs.Edits.{Held, Touched, EditedTree, held, held_node, shown, AreShown}
use Rattle.tree_edits.specs.AreEdits.{IsHeld, AreEdits}
use Rattle.tree_edits.specs.Hanging.{held_with_text, held_with_props, hung_at, Hangs}
use Rattle.tree_edits.specs.Applied.{Does}
use Rattle.tree_edits.specs.PropChanges.{prop_change, changed_props}
use Rattle.tree_edits.proofs.Texts.{ends, parts_of, parent_at}
use Rattle.tree_edits.proofs.Parents.{has_hung, not_hung}
use Rattle.tree_edits.proofs.Doing.{few_done, found_is, are_over, shows_over, are_fresh, shows_fresh}

pub same_edits : (old new : EditedTree) → new.touched ≡ old.touched → new.root ≡ old.root → new ≡ old
same_edits old new t r = λ i. record { root = r i; touched = t i }

-- the parent of what stands is a directory
parent_stands : (tree : Tree) → IsFormed tree → (q : Name) (qs : List Name) → are_names (q ∷ qs) ≡ true → is_some (at (path_below root_text (q ∷ qs)) tree) ≡ true → has_parent (path_below root_text (q ∷ qs)) tree ≡ true
parent_stands tree formed q qs k some =
    let x = ends q qs in
    let named : are_names (x.front ++ x.last ∷ []) ≡ true = sym (ap are_names x.is) ∙ k in
    let p = parts_of x.front x.last named in
    let par : parent_text (path_below root_text (q ∷ qs)) ≡ Some (path_below root_text x.front) = ap (λ ws. parent_text (path_below root_text ws)) x.is ∙ ap parent_text (path_at-more root_text x.front x.last) ∙ parent_at x.front x.last p.0 p.1 in
    ap (λ o. option_map_or (λ parent. is_dir (at parent tree)) o false) par ∙ formed.parents (path_below root_text (q ∷ qs)) (path_below root_text x.front) some par

module _ (r : ℕ) (cells : List Cell) (sound : IsSoundTable cells) (leaf : Option Held) (old : EditedTree) (path : List ℕ) (one : is_path path ≡ true) (tree : Tree) (is : AreShown cells old tree) where
  -- where something stands, a way leads to it
  pub way_stands : is_some (at path tree) ≡ true → hung_at r cells leaf old (names_in path) ≡ None → ⊥
  way_stands some none = by (names_in path) (names_of_path path one).names (ap (λ p. is_some (at p tree)) (names_of_path path one).path ∙ some) none
    where
      by : (ws : List Name) → are_names ws ≡ true → is_some (at (path_below root_text ws) tree) ≡ true → hung_at r cells leaf old ws ≡ None → ⊥
      by [] k some none = cc none
      by (q ∷ qs) k some none = not_hung r cells sound leaf old tree is q qs k (parent_stands tree is.formed q qs k some) none

  -- where nothing stands, the answer tells of its parent
  pub parent_none : at path tree ≡ None → hung_at r cells leaf old (names_in path) ≡ None → has_parent path tree ≡ false
  parent_none absent none = subst (λ p. has_parent p tree ≡ false) (names_of_path path one).path (by (names_in path) (names_of_path path one).names none)
    where
      by : (ws : List Name) → are_names ws ≡ true → hung_at r cells leaf old ws ≡ None → has_parent (path_below root_text ws) tree ≡ false
      by [] k none = absurd (cc none)
      by (q ∷ qs) k none = pick (has_parent (path_below root_text (q ∷ qs)) tree) refl
        where
          pick : (b : Bool) → has_parent (path_below root_text (q ∷ qs)) tree ≡ b → b ≡ false
          pick true e = absurd (not_hung r cells sound leaf old tree is q qs k e none)
          pick false e = refl

  parent_some : (new : Touched) → at path tree ≡ None → hung_at r cells leaf old (names_in path) ≡ Some new → has_parent path tree ≡ true
  parent_some new absent some = subst (λ p. has_parent p tree ≡ true) (names_of_path path one).path (by (names_in path) (names_of_path path one).names (ap (λ p. at p tree) (names_of_path path one).path ∙ absent) some)
    where
      by : (ws : List Name) → are_names ws ≡ true → at (path_below root_text ws) tree ≡ None → hung_at r cells leaf old ws ≡ Some new → has_parent (path_below root_text ws) tree ≡ true
      by [] k gone some = absurd (let d = sym (ap is_dir gone) ∙ is.formed.root in cc d)
      by (q ∷ qs) k gone some = has_hung r cells sound leaf old tree is q qs new k some

-- ---- in place

-- what a change of a node in place says of the flat tree
pub record IsOver (r : ℕ) (change : Change) (path : List ℕ) (h h2 : Held) : Type 0 where
  pub line : h2.line ≡ h.line
  pub under : h2.under ≡ h.under
  pub kind : h2.node.kind ≡ h.node.kind
  pub created : h2.node.created ≡ r
  pub at_path : path_of change ≡ path
  pub fits : (trees : List Tree) (tree : Tree) → at path tree ≡ Some (held_node h) → unfit change trees tree ≡ None
  pub node : TreeNode
  pub node_is : held_node h2 ≡ stamped r true node
  pub applied : (trees : List Tree) (tree : Tree) → at path tree ≡ Some (held_node h) → apply change trees tree r ≡ marked r path (placed path node tree)

pub over_does : {X : Type 0} (r : ℕ) (cells : List Cell) (old new : EditedTree) → AreEdits r cells old → (change : Change) (path : List ℕ) → is_path path ≡ true → (h h2 : Held) → held cells old (names_in path) ≡ Some h → IsOver r change path h h2 → (result : Result X Unfit) → Hangs (hung_at r cells (Some h2) old (names_in path)) old.touched new.touched result → new.root ≡ old.root → (from : Option ℕ) → Does r change cells old new from result
over_does r cells old new are change path one h h2 held_is o (Ok x) hung root from = record {
  are = are_over r cells old new are path one (Some h2) root hung h h2 held_is refl o.line o.under o.kind o.created;
  few = few_done r cells old new are path one (Some h2) root hung;
  says = λ trees tree sources is has.
      let there : at path tree ≡ Some (held_node h) = found_is r cells old new are path one (Some h2) root hung tree is ∙ ap (option_map held_node) held_is in
      let fits = o.fits trees tree there in (
        fits,
        record {
          shows = subst (λ t. (ns : List Name) → are_names ns ≡ true → at (path_below root_text ns) t ≡ shown cells new ns) (sym (o.applied trees tree there)) (shows_over r cells old new are path one (Some h2) root hung h h2 held_is refl o.line o.under tree is o.node o.node_is);
          formed = formed_change trees tree r is.formed sources.sorted sources.formed change (ap is_path o.at_path ∙ one) fits;
        },
      );
}
over_does r cells old new are change path one h h2 held_is o (Err why) hung root from = (same_edits old new hung.0 root, by (is_want why) hung.1)
  where
    by : (b : Bool) → MatchBool b (Unit {0}) ((why ≡ whys.NoParent) × (hung_at r cells (Some h2) old (names_in path) ≡ None)) → MatchBool b (Unit {0}) ((trees : List Tree) (tree : Tree) → AreSources trees → AreShown cells old tree → HasSource cells from change trees → unfit change trees tree ≡ Some why)
    by true n = tt
    by false n = λ trees tree sources is has. absurd (way_stands r cells are.sound (Some h2) old path one tree is (ap is_some (ap (λ p. at p tree) (sym (names_of_path path one).path) ∙ is.shows (names_in path) (names_of_path path one).names ∙ ap (option_map held_node) held_is)) n.1)

-- ---- where nothing stands

-- what a change that adds a node says of the flat tree
pub record IsAdding (r : ℕ) (cells : List Cell) (change : Change) (path : List ℕ) (x : Held) : Type 0 where
  pub fits : IsHeld r cells x
  pub begins : x.line.since ≡ r
  pub empty : x.under ≡ None
  pub at_path : path_of change ≡ path
  pub free : (trees : List Tree) (tree : Tree) (b : Bool) → at path tree ≡ None → has_parent path tree ≡ b → unfit change trees tree ≡ (if b then None else Some whys.NoParent)
  pub node : TreeNode
  pub node_is : held_node x ≡ stamped r true node
  pub applied : (trees : List Tree) (tree : Tree) → at path tree ≡ None → apply change trees tree r ≡ marked r path (placed path node tree)

pub add_does : {X : Type 0} (r : ℕ) (cells : List Cell) (old new : EditedTree) → AreEdits r cells old → (change : Change) (path : List ℕ) → is_path path ≡ true → (x : Held) → held cells old (names_in path) ≡ None → IsAdding r cells change path x → (result : Result X Unfit) → Hangs (hung_at r cells (Some x) old (names_in path)) old.touched new.touched result → new.root ≡ old.root → (from : Option ℕ) → Does r change cells old new from result
add_does r cells old new are change path one x held_is a (Ok y) hung root from = record {
  are = are_fresh r cells old new are path one (Some x) root hung x held_is refl a.fits a.begins;
  few = few_done r cells old new are path one (Some x) root hung;
  says = λ trees tree sources is has.
      let gone : at path tree ≡ None = found_is r cells old new are path one (Some x) root hung tree is ∙ ap (option_map held_node) held_is in
      let fits : unfit change trees tree ≡ None = a.free trees tree true gone (parent_some r cells are.sound (Some x) old path one tree is new.touched gone hung) in (
        fits,
        record {
          shows = subst (λ t. (ns : List Name) → are_names ns ≡ true → at (path_below root_text ns) t ≡ shown cells new ns) (sym (a.applied trees tree gone)) (shows_fresh r cells old new are path one (Some x) root hung x held_is refl a.empty tree is a.node a.node_is);
          formed = formed_change trees tree r is.formed sources.sorted sources.formed change (ap is_path a.at_path ∙ one) fits;
        },
      );
}
add_does r cells old new are change path one x held_is a (Err why) hung root from = (same_edits old new hung.0 root, by (is_want why) hung.1)
  where
    by : (b : Bool) → MatchBool b (Unit {0}) ((why ≡ whys.NoParent) × (hung_at r cells (Some x) old (names_in path) ≡ None)) → MatchBool b (Unit {0}) ((trees : List Tree) (tree : Tree) → AreSources trees → AreShown cells old tree → HasSource cells from change trees → unfit change trees tree ≡ Some why)
    by true n = tt
    by false n = λ trees tree sources is has.
        let gone : at path tree ≡ None = ap (λ p. at p tree) (sym (names_of_path path one).path) ∙ is.shows (names_in path) (names_of_path path one).names ∙ ap (option_map held_node) held_is in
        a.free trees tree false gone (parent_none r cells are.sound (Some x) old path one tree is gone n.1) ∙ ap Some (sym n.0)

-- ---- what stands at a path of the flat tree

pub stands_at : (cells : List Cell) (old : EditedTree) (path : List ℕ) → is_path path ≡ true → (o : Option Held) → held cells old (names_in path) ≡ o → (tree : Tree) → AreShown cells old tree → at path tree ≡ option_map held_node o
stands_at cells old path one o e tree is = ap (λ p. at p tree) (sym (names_of_path path one).path) ∙ is.shows (names_in path) (names_of_path path one).names ∙ ap (option_map held_node) e

-- ---- each change

pub text_over : (r : ℕ) (path text : List ℕ) (h h2 : Held) → h.node.kind ≡ File → h2 ≡ held_with_text r text h → IsOver r (changes.Put path text) path h h2
unfolding unfit apply
text_over r path text h h2 kind is = subst (IsOver r (changes.Put path text) path h) (sym is) (record {
  line = refl;
  under = refl;
  kind = refl;
  created = refl;
  at_path = refl;
  fits = λ trees tree there. ap (λ o. if is_file o then None else unfit_new path tree) there ∙ ap (λ k. if not (is_dir_kind k) then None else unfit_new path tree) kind;
  node = flat.with_text r text (Some (held_node h));
  node_is = refl;
  applied = λ trees tree there. ap (λ o. marked r path (placed path (flat.with_text r text o) tree)) there;
})

pub put_exists : (cells : List Cell) (old : EditedTree) (path text : List ℕ) → is_path path ≡ true → (h : Held) → held cells old (names_in path) ≡ Some h → h.node.kind ≡ Dir → (trees : List Tree) (tree : Tree) → AreShown cells old tree → unfit (changes.Put path text) trees tree ≡ Some whys.Exists
unfolding unfit
put_exists cells old path text one h e kind trees tree is =
    ap (λ o. if is_file o then None else if is_some o then Some whys.Exists else if has_parent path tree then None else Some whys.NoParent) (stands_at cells old path one (Some h) e tree is)
    ∙ ap (λ k. if not (is_dir_kind k) then None else Some whys.Exists) kind

pub file_added : (r : ℕ) (cells : List Cell) (path text : List ℕ) (x : Held) → x ≡ record { node = (new_file text r).node; line = (new_file text r).line; under = None } → IsAdding r cells (changes.Put path text) path x
unfolding unfit apply
file_added r cells path text x is = subst (IsAdding r cells (changes.Put path text) path) (sym is) (record {
  fits = record { created = omega arith; since = omega arith; within = λ id e. absurd (cc e); older = λ id e. absurd (cc e); file = λ id e. absurd (cc e) };
  begins = refl;
  empty = refl;
  at_path = refl;
  free = λ trees tree b gone par. ap (λ o. if is_file o then None else if is_some o then Some whys.Exists else if has_parent path tree then None else Some whys.NoParent) gone ∙ ap (λ q. if q then None else Some whys.NoParent) par;
  node = new_file text r;
  node_is = refl;
  applied = λ trees tree gone. ap (λ o. marked r path (placed path (flat.with_text r text o) tree)) gone;
})

pub dir_added : (r : ℕ) (cells : List Cell) (path : List ℕ) (x : Held) → x ≡ record { node = (new_dir r).node; line = (new_dir r).line; under = None } → IsAdding r cells (changes.Mkdir path) path x
unfolding unfit apply
dir_added r cells path x is = subst (IsAdding r cells (changes.Mkdir path) path) (sym is) (record {
  fits = record { created = omega arith; since = omega arith; within = λ id e. absurd (cc e); older = λ id e. absurd (cc e); file = λ id e. absurd (cc e) };
  begins = refl;
  empty = refl;
  at_path = refl;
  free = λ trees tree b gone par. ap (λ o. if is_some o then Some whys.Exists else if has_parent path tree then None else Some whys.NoParent) gone ∙ ap (λ q. if q then None else Some whys.NoParent) par;
  node = new_dir r;
  node_is = refl;
  applied = λ trees tree gone. refl;
})

pub dir_exists : (cells : List Cell) (old : EditedTree) (path : List ℕ) → is_path path ≡ true → (h : Held) → held cells old (names_in path) ≡ Some h → (trees : List Tree) (tree : Tree) → AreShown cells old tree → unfit (changes.Mkdir path) trees tree ≡ Some whys.Exists
unfolding unfit
dir_exists cells old path one h e trees tree is = ap (λ o. if is_some o then Some whys.Exists else if has_parent path tree then None else Some whys.NoParent) (stands_at cells old path one (Some h) e tree is)

-- a change of a property fits where something stands, and edits that
prop_fits : (path name : List ℕ) (value : Option (List ℕ)) (trees : List Tree) (tree : Tree) → unfit (prop_change path name value) trees tree ≡ (if is_some (at path tree) then None else Some whys.NoNode)
unfolding unfit
prop_fits path name None trees tree = refl
prop_fits path name (Some value) trees tree = refl

prop_applies : (r : ℕ) (path name : List ℕ) (value : Option (List ℕ)) (trees : List Tree) (tree : Tree) → apply (prop_change path name value) trees tree r ≡ marked r path (edited (changed_props name value) path tree)
unfolding apply
prop_applies r path name None trees tree = refl
prop_applies r path name (Some value) trees tree = refl

prop_path : (path name : List ℕ) (value : Option (List ℕ)) → path_of (prop_change path name value) ≡ path
prop_path path name None = refl
prop_path path name (Some value) = refl

pub prop_changed : (r : ℕ) (path name : List ℕ) (value : Option (List ℕ)) (h h2 : Held) → h2 ≡ held_with_props r (changed_props name value h.node.props) h → IsOver r (prop_change path name value) path h h2
prop_changed r path name value h h2 is = subst (IsOver r (prop_change path name value) path h) (sym is) (record {
  line = refl;
  under = refl;
  kind = refl;
  created = refl;
  at_path = prop_path path name value;
  fits = λ trees tree there. prop_fits path name value trees tree ∙ ap (λ o. if is_some o then None else Some whys.NoNode) there;
  node = flat.with_props (changed_props name value) (held_node h);
  node_is = refl;
  applied = λ trees tree there. prop_applies r path name value trees tree ∙ ap (marked r path) (edited-found (changed_props name value) path tree (held_node h) there);
})

pub none_to_change : (cells : List Cell) (old : EditedTree) (path name : List ℕ) (value : Option (List ℕ)) → is_path path ≡ true → held cells old (names_in path) ≡ None → (trees : List Tree) (tree : Tree) → AreShown cells old tree → unfit (prop_change path name value) trees tree ≡ Some whys.NoNode
none_to_change cells old path name value one e trees tree is = prop_fits path name value trees tree ∙ ap (λ o. if is_some o then None else Some whys.NoNode) (stands_at cells old path one None e tree is)
