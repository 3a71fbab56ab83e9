-- What the edits show after some of the changes of a commit.
use Rattle.std.proofs.Common.{◌≡◌, ℕ, ◌+◌, ◌-◌, ◌*◌, ◌<◌, ◌≤◌, Bool, true, false, List, [], ◌∷◌, Option, None, Some, Result, Ok, Err, length, get_or, drop, refl, sym, ap, subst, ◌∙◌, inl, inr, arith}
use Rattle.std.specs.Prelude.{nat_lt, if◌then◌else◌}
use Rattle.std.proofs.lemmas.Bool.{cases_lt}
use Rattle.std.proofs.lemmas.Bool.Decides.{nat_tests}
use Rattle.std.proofs.lemmas.List.{at_drop_more}
use Rattle.rev_nodes.specs.declared.cell.Cell.{Cell}
use Rattle.rev_nodes.specs.declared.change.Change.{Change}
use Rattle.rev_nodes.specs.declared.change.Change.TheVariants.{Put, SetProp, DelProp, Mkdir, Delete, Copy}
use Rattle.rev_nodes.specs.declared.commit.Commit.{Commit}
use Rattle.rev_nodes.specs.declared.unfit.Unfit.{Unfit}
use Rattle.rev_nodes.specs.declared.unfit.Unfit.TheVariants.{NoNode, IsRoot, Exists, NoParent, TooLong, NoMemory}
use Rattle.rev_nodes.specs.Trees.{TreeNode, Tree, at, tree_at, new_dir}
use Rattle.rev_nodes.specs.Changes.{with_text, with_prop, without_prop, with_props, edited, placed, all_placed, without, copied, unfit, apply, apply_from, unless}
use Rattle.rev_nodes.specs.Fitting.{in_order, Fits}
use Rattle.std.specs.Option.{option_map_or}
use Rattle.dsv_base.specs.declared.prop.Prop.{Prop}
use Rattle.rev_nodes.proofs.Forming.{past_end}
use Rattle.rev_nodes.proofs.Marks.{sorted-marked, sorted-placed, sorted-without, one_done, all_done}
use Rattle.node_table.specs.Shown.{IsShown}
use Rattle.node_table.specs.Steps.{AreSources, IsSource, IsFrom, HasSource}
use Rattle.tree_edits.specs.Edits.{EditedTree, AreShown}
use Rattle.tree_edits.specs.Applied.{Applies}
use Rattle.tree_settling.specs.Settled.{IsSettled}
use Rattle.rev_nodes.specs.ChangedPaths.{changed_paths}
use Rattle.rev_trees.specs.declared.push_fault.PushFault.{PushFault}
use Rattle.rev_trees.specs.declared.push_fault.PushFault.TheVariants as faults
use Rattle.rev_trees.specs.declared.revision.KeptRevision.{KeptRevision}
use Rattle.rev_trees.specs.declared.next.NextRevision.{NextRevision}
use Rattle.rev_trees.specs.Kept.{youngest, made_of, trees_in, kept_at, source_in, IsKept, AreKept}
use Rattle.rev_trees.specs.Made.{fault_of, AreDone, AppliesAll, IsMade, Makes}
use Rattle.rev_trees.proofs.Replay.{trees-length}

-- ---- a change keeps a tree in order

sorted-all : (places tree : Tree) → in_order tree ≡ true → in_order (all_placed places tree) ≡ true
sorted-all [] tree h = h
sorted-all (e ∷ es) tree h = sorted-all es (placed e.0 e.1 tree) (sorted-placed e.0 e.1 tree h)

sorted-edited : (edit : List Prop → List Prop) (path : List ℕ) (tree : Tree) (o : Option TreeNode) → in_order tree ≡ true → in_order (option_map_or (λ found. placed path (with_props edit found) tree) o tree) ≡ true
sorted-edited edit path tree None h = h
sorted-edited edit path tree (Some found) h = sorted-placed path (with_props edit found) tree h

sorted-change : (change : Change) (trees : List Tree) (tree : Tree) (r : ℕ) → in_order tree ≡ true → in_order (apply change trees tree r) ≡ true
unfolding apply
sorted-change (Put path text) trees tree r h =
    sorted-marked r path (placed path (with_text r text (at path tree)) tree) ∙ sorted-placed path (with_text r text (at path tree)) tree h
sorted-change (SetProp path name value) trees tree r h =
    let edit = with_prop (record { name = name; value = value }) in
    sorted-marked r path (edited edit path tree) ∙ sorted-edited edit path tree (at path tree) h
sorted-change (DelProp path name) trees tree r h =
    sorted-marked r path (edited (without_prop name) path tree) ∙ sorted-edited (without_prop name) path tree (at path tree) h
sorted-change (Mkdir path) trees tree r h =
    sorted-marked r path (placed path (new_dir r) tree) ∙ sorted-placed path (new_dir r) tree h
sorted-change (Delete path) trees tree r h =
    sorted-marked r path (without path tree) ∙ sorted-without path tree h
sorted-change (Copy source rev path) trees tree r h =
    sorted-marked r path (all_placed (copied source rev path r (tree_at trees rev)) tree) ∙ sorted-all (copied source rev path r (tree_at trees rev)) tree h

-- ---- what copies are taken from

module _ (cells : List Cell) (rs : List KeptRevision) (kept : AreKept cells rs) where
  pub are_sources : AreSources (trees_in rs)
  are_sources = record {
    sorted = λ rev. elim (cases_lt rev (length rs)) [
      | inl h ↦ (kept.kept rev h).sorted
      | inr past ↦ ap in_order (past_end (trees_in rs) rev (let n = trees-length rs in omega (arith, n, past)))
    ];
    formed = λ rev h. (kept.kept rev (let n = trees-length rs in omega (arith, n, h))).shown.formed;
  }

  -- what the youngest root shows
  pub youngest_kept : IsKept cells (length rs - 1) (youngest (trees_in rs)) (kept_at rs (length rs - 1)).root (kept_at rs (length rs - 1)).commit
  youngest_kept =
      let some = kept.some in
      subst (λ (n : ℕ). IsKept cells (length rs - 1) (tree_at (trees_in rs) (n - 1)) (kept_at rs (length rs - 1)).root (kept_at rs (length rs - 1)).commit) (sym (trees-length rs)) (kept.kept (length rs - 1) (omega (arith, some)))

  one_root : (a b : ℕ) → Some a ≡ Some b → a ≡ b
  one_root a b e = cc

  from_root : (rev : ℕ) (b : Bool) → nat_lt rev (length rs) ≡ b → (id : ℕ) → (if b then Some (kept_at rs rev).root else None) ≡ Some id → IsSource (length rs) cells id
  from_root rev true low id e =
      let h : rev < length rs = grind (arith, nat_tests) in
      let k = kept.kept rev h in
      let c = k.created in
      subst (IsSource (length rs) cells) (one_root (kept_at rs rev).root id e) (record { within = k.within; young = omega (arith, c, h) })
  from_root rev false low id e = absurd (cc)

  pub is_source : (change : Change) (id : ℕ) → source_in rs change ≡ Some id → IsSource (length rs) cells id
  is_source (Put path text) id e = absurd (cc)
  is_source (SetProp path name value) id e = absurd (cc)
  is_source (DelProp path name) id e = absurd (cc)
  is_source (Mkdir path) id e = absurd (cc)
  is_source (Delete path) id e = absurd (cc)
  is_source (Copy source rev path) id e = from_root rev (nat_lt rev (length rs)) refl id e

  from_tree : (rev : ℕ) (b : Bool) → nat_lt rev (length rs) ≡ b → IsFrom cells (if b then Some (kept_at rs rev).root else None) rev (trees_in rs)
  from_tree rev true low =
      let h : rev < length rs = grind (arith, nat_tests) in
      let n = trees-length rs in
      ((kept.kept rev h).shown, omega (arith, n, h))
  from_tree rev false low =
      let h : length rs ≤ rev = grind (arith, nat_tests) in
      past_end (trees_in rs) rev (let n = trees-length rs in omega (arith, n, h))

  pub has_source : (change : Change) → HasSource cells (source_in rs change) change (trees_in rs)
  has_source (Put path text) = tt
  has_source (SetProp path name value) = tt
  has_source (DelProp path name) = tt
  has_source (Mkdir path) = tt
  has_source (Delete path) = tt
  has_source (Copy source rev path) = from_tree rev (nat_lt rev (length rs)) refl

-- ---- some of the changes

-- the edits show a tree of which the changes that are left make what all make of the first one
pub record IsOnTheWay (r : ℕ) (trees : List Tree) (index : ℕ) (left : List Change) (read : Result Tree (ℕ × Unfit)) (cells : List Cell) (edits : EditedTree) : Type 0 where
  pub tree : Tree
  pub shown : AreShown cells edits tree
  pub sorted : in_order tree ≡ true
  pub comes : apply_from index left trees tree r ≡ read

module _ (cells : List Cell) (rs : List KeptRevision) (kept : AreKept cells rs) (r : ℕ) (changes : List Change) (i index : ℕ) (change : Change) (read : Result Tree (ℕ × Unfit)) (old new : EditedTree) (within : i < length changes) (is : get_or changes i change ≡ change) (way : IsOnTheWay r (trees_in rs) index (drop i changes) read cells old) where
  pub goes_on : Applies r change cells old new (source_in rs change) (let done : Result (Unit {0}) Unfit = Ok tt in done) → IsOnTheWay r (trees_in rs) (index + 1) (drop (i + 1) changes) read cells new
  goes_on says =
      let did = says (trees_in rs) way.tree (are_sources cells rs kept) way.shown (has_source cells rs kept change) in
      record {
        tree = apply change (trees_in rs) way.tree r;
        shown = did.1;
        sorted = sorted-change change (trees_in rs) way.tree r way.sorted;
        comes = one_done change changes i index r (trees_in rs) way.tree (apply change (trees_in rs) way.tree r) read within is did.0 refl way.comes;
      }

  stops : (fault : Unfit) → unfit change (trees_in rs) way.tree ≡ Some fault → read ≡ Err (index, fault)
  unfolding apply_from
  stops fault why =
      sym way.comes
      ∙ at_drop_more (λ (cs : List Change). apply_from index cs (trees_in rs) way.tree r) changes i change within
      ∙ ap (λ (c : Change). apply_from index (c ∷ drop (i + 1) changes) (trees_in rs) way.tree r) is
      ∙ ap (λ (o : Option Unfit). unless o index (apply_from (index + 1) (drop (i + 1) changes) (trees_in rs) (apply change (trees_in rs) way.tree r) r)) why

  pub ends : (fault : Unfit) → Applies r change cells old new (source_in rs change) (let failed : Result (Unit {0}) Unfit = Err fault in failed) → AppliesAll read cells new (Err (fault_of index fault))
  ends fault says = by fault (says (trees_in rs) way.tree (are_sources cells rs kept) way.shown (has_source cells rs kept change))
    where
      by : (fault : Unfit) → Fits {X = Unit {0}} (λ done. AreShown cells new (apply change (trees_in rs) way.tree r)) (unfit change (trees_in rs) way.tree) (Err fault) → AppliesAll read cells new (Err (fault_of index fault))
      by NoMemory w = tt
      by NoNode w = (NoNode, stops NoNode w)
      by IsRoot w = (IsRoot, stops IsRoot w)
      by Exists w = (Exists, stops Exists w)
      by NoParent w = (NoParent, stops NoParent w)
      by TooLong w = (TooLong, stops TooLong w)

-- all of the changes
pub all_applied : (r : ℕ) (trees : List Tree) (changes : List Change) (i index : ℕ) (read : Result Tree (ℕ × Unfit)) (cells : List Cell) (edits : EditedTree) → length changes < i + 1 → IsOnTheWay r trees index (drop i changes) read cells edits → AreDone read cells edits
all_applied r trees changes i index read cells edits past way = record {
  tree = way.tree;
  is = all_done changes i index r trees way.tree read past way.comes;
  shown = way.shown;
  sorted = way.sorted;
}

-- ---- the next revision

module _ (cells : List Cell) (rs : List KeptRevision) (rev : ℕ) (next : rev ≡ length rs) (commit : Commit) (changes : List Change) (changes_are : changes ≡ commit.changes) (edits : EditedTree) where
  read_is : apply_from 0 changes (trees_in rs) (youngest (trees_in rs)) rev ≡ made_of (trees_in rs) commit
  read_is = λ i. apply_from 0 (changes_are i) (trees_in rs) (youngest (trees_in rs)) ((next ∙ sym (trees-length rs)) i)

  -- the first change that doesn't fit is that of the commit
  pub fails : (fault : PushFault) → AppliesAll (apply_from 0 changes (trees_in rs) (youngest (trees_in rs)) rev) cells edits (Err fault) → Makes cells (trees_in rs) commit (Err fault)
  fails (faults.Unfit index) h = (h.0, sym read_is ∙ h.1)
  fails faults.FullRevisions h = absurd h
  fails faults.NoMemory h = tt

  -- what the edits come to is the next revision
  pub makes : (kept : AreKept cells rs) → AreDone (apply_from 0 changes (trees_in rs) (youngest (trees_in rs)) rev) cells edits → length edits.touched ≤ 65 * length changes → (made : NextRevision) → made.revision.commit ≡ commit → IsSettled rev cells edits made.cells.items made.revision.root
      → (root : ℕ) → root ≡ (kept_at rs (length rs - 1)).root → (named : List Change) → named ≡ commit.changes → ((before after : Tree) → IsShown cells root before → AreShown cells edits after → made.revision.changed ≡ changed_paths named before after) → IsMade cells (trees_in rs) commit made
  makes kept done few made commit_is settled root root_is named named_are told = record {
    commit_is = commit_is;
    tree = done.tree;
    tree_is = sym read_is ∙ done.is;
    changed_is =
        told (youngest (trees_in rs)) done.tree (subst (λ (n : ℕ). IsShown cells n (youngest (trees_in rs))) (sym root_is) (youngest_kept cells rs kept).shown) done.shown
        ∙ ap (λ (cs : List Change). changed_paths cs (youngest (trees_in rs)) done.tree) named_are;
    sound = settled.sound;
    within = settled.within;
    created = (let c = settled.created in let n = trees-length rs in omega (arith, c, n, next));
    shown = record { shown = λ ns is. done.shown.shows ns is ∙ sym (settled.shows ns is); formed = done.shown.formed };
    sorted = done.sorted;
    few = (let s = settled.few in let n = ap (λ (cs : List Change). length cs) changes_are in omega (arith, s, few, n));
  }
