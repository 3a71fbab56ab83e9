-- A delete does what it is to do.
use Rattle.std.proofs.Common.{◌≡◌, ℕ, suc, ◌+◌, ◌≤◌, Bool, true, false, cond, not, ◌&&◌, List, [], ◌∷◌, ◌++◌, Option, None, Some, length, refl, sym, ap, subst, ◌∙◌, arith, append-nil, append_assoc}
use Rattle.std.specs.Prelude.{is_some, if◌then◌else◌, MatchBool}
use Rattle.std.specs.Option.{option_map}
use Rattle.std.specs.Str.{bytes_eq}
use Rattle.dsv_base.specs.Paths.{is_path, is_under, root_text, parent_text, or_root, before_last_slash}
use Rattle.rev_nodes.specs.declared.cell.Cell.{Cell}
use Rattle.rev_nodes.specs.declared.change.Change.TheVariants as changes
use Rattle.rev_nodes.specs.declared.unfit.Unfit.{Unfit}
use Rattle.rev_nodes.specs.declared.unfit.Unfit.TheVariants as whys
use Rattle.rev_nodes.specs.Trees.{Tree, at}
use Rattle.rev_nodes.specs.Changes.{unfit, apply, marked, without}
use Rattle.rev_nodes.specs.Fitting.{is_want}
use Rattle.rev_nodes.proofs.Below.{long}
use Rattle.rev_nodes.proofs.Forming.{at-without, formed_change}
use Rattle.rev_nodes.specs.Subtrees.{path_below}
use Rattle.node_table.specs.Ways.{Name, are_names, names_in, is_front}
use Rattle.node_table.specs.Tables.{cell_at}
use Rattle.node_table.specs.Rebuilt.{stamped}
use Rattle.node_table.specs.Steps.{AreSources}
use Rattle.node_table.proofs.Ways.{names-append}
use Rattle.node_table.proofs.PathNames.{names_of_path}
use Rattle.node_table.proofs.Fronts.{under-front, front-more, front-append}
use Rattle.tree_edits.specs.Edits.{Held, Touched, EditedTree, held_in, or_touched, held_from, held_root, held, held_node, shown, AreShown}
use Rattle.tree_edits.specs.AreEdits.{AreEdits}
use Rattle.tree_edits.specs.Hanging.{is_below, cleared, hung_in, hung_at}
use Rattle.tree_edits.specs.Applied.{IsChangeDone}
use Rattle.tree_edits.proofs.Views.{over_shown}
use Rattle.tree_edits.proofs.Kept.{gone_fits}
use Rattle.tree_edits.proofs.Clearing.{still_there, cleared_kept, none_touched}
use Rattle.tree_edits.proofs.Gone.{short_apart, hung_cleared, same_on}
use Rattle.tree_edits.proofs.Doing.{is_root_path, few_done, are_new}
use Rattle.tree_edits.proofs.Steps.{same_edits, way_stands, stands_at}

not_none : (p : List ℕ) → bytes_eq p root_text ≡ false → parent_text p ≡ None → ⊥
unfolding parent_text
not_none p other none = let s = sym (ap (λ b. if b then None else Some (or_root (before_last_slash p))) other) ∙ none in cc s

and_false : (a : Bool) → (a && false) ≡ false
and_false true = refl
and_false false = refl

length-cleared : (path : List ℕ) (touched : Touched) → length (cleared path touched) ≤ length touched
length-cleared path [] = omega arith
length-cleared path (e ∷ es) = by (not (is_below e.0 path)) (length-cleared path es)
  where
    by : (b : Bool) → length (cleared path es) ≤ length es → length (cond b (e ∷ cleared path es) (cleared path es)) ≤ suc (length es)
    by true l = omega (arith, l)
    by false l = omega (arith, l)

module _ (r : ℕ) (cells : List Cell) (old new : EditedTree) (mid : Touched) (are : AreEdits r cells old) (path : List ℕ) (one : is_path path ≡ true) (other : bytes_eq path root_text ≡ false) (root_is : new.root ≡ old.root) (hung : hung_at r cells None old (names_in path) ≡ Some mid) (new_is : new.touched ≡ cleared path mid) where
  abbrev clean : EditedTree
  clean = record { root = old.root; touched = cleared path old.touched }

  abbrev way : List Name
  way = names_in path

  named : are_names way ≡ true
  named = (names_of_path path one).names

  path_is : path_below root_text way ≡ path
  path_is = (names_of_path path one).path

  clean_are : AreEdits r cells clean
  clean_are = record { sound = are.sound; within = are.within; young = are.young; touched = cleared_kept path one other r cells old.touched are.touched }

  roots : held_root cells clean ≡ held_root cells old
  roots = ap (λ o. or_touched o (Some (held_in cells (cell_at cells old.root).line old.root))) (still_there path old.touched root_text (short_apart r cells None path one other root_text is_root_path (let l = ap length (long path one other).is in omega (arith, l))))

  hung2 : hung_at r cells None clean way ≡ Some new.touched
  hung2 = ap (λ o. hung_in r cells None (cleared path old.touched) root_text o way) roots ∙ hung_cleared r cells None path one other way [] old.touched root_text (held_root cells old) mid named refl refl path_is are.touched.sorted hung ∙ ap (λ t. Some t) (sym new_is)

  are_gone : AreEdits r cells new
  are_gone = are_new r cells clean new clean_are path one None root_is hung2 (λ t here a p is below. gone_fits cells are.sound r t (path_below root_text way) here p (λ none. not_none path other (ap parent_text (sym path_is) ∙ none)) (λ q edit e par. none_touched path one other old.touched q edit ((a.placed q edit e).one) (below q edit e par) (par ∙ ap (λ x. Some x) path_is)))

  few_gone : length new.touched ≤ length old.touched + 65
  few_gone = let f = few_done r cells clean new clean_are path one None root_is hung2 in let l = length-cleared path old.touched in omega (arith, f, l)

  kept_aside : (ns : List Name) → are_names ns ≡ true → is_front way ns ≡ false → shown cells clean ns ≡ shown cells old ns
  kept_aside ns k f =
      ap (λ o. option_map held_node (held_from cells (cleared path old.touched) root_text o ns)) roots
      ∙ ap (option_map held_node) (same_on cells ns (cleared path old.touched) old.touched root_text (held_root cells old) (λ m ms z g. still_there path old.touched (path_below root_text (m ∷ ms)) (apart (m ∷ ms) z g)) k)
    where
      apart : (ms : List Name) → are_names ms ≡ true → is_front ms ns ≡ true → is_below (path_below root_text ms) path ≡ false
      apart ms z g = ap (λ b. not (bytes_eq (path_below root_text ms) path) && b) (ap (is_under (path_below root_text ms)) (sym path_is) ∙ under-front way ms named z ∙ no_front (is_front way ms) refl) ∙ and_false (not (bytes_eq (path_below root_text ms) path))
        where
          no_front : (b : Bool) → is_front way ms ≡ b → b ≡ false
          no_front false e = refl
          no_front true e =
              let x = front-more way ms e in
              let y = front-more ms ns g in
              let whole : ns ≡ way ++ (x.more ++ y.more) = y.is ∙ ap (λ ws. ws ++ y.more) x.is ∙ append_assoc way x.more y.more in
              let t : is_front way ns ≡ true = ap (is_front way) whole ∙ front-append way (x.more ++ y.more) in
              absurd (cc (t, f))

  shows_gone : (tree : Tree) → AreShown cells old tree → (ns : List Name) → are_names ns ≡ true → at (path_below root_text ns) (marked r path (without path tree)) ≡ shown cells new ns
  shows_gone tree is = subst (λ p. (ns : List Name) → are_names ns ≡ true → at (path_below root_text ns) (marked r p (without p tree)) ≡ shown cells new ns) path_is
      (over_shown r cells None way clean new named root_is hung2 tree (λ ns k f. is.shows ns k ∙ sym (kept_aside ns k f)) (without (path_below root_text way) tree)
      (sym (ap (option_map (stamped r true)) (gone way named (ap (is_front way) (sym (append-nil way)) ∙ front-append way []))))
      (λ m ms k. sym (gone (way ++ m ∷ ms) (names-append way (m ∷ ms) named k) (front-append way (m ∷ ms))))
      (λ ns k f. at-without (path_below root_text ns) (path_below root_text way) tree ∙ ap (λ b. cond (not b) (at (path_below root_text ns) tree) None) (under-front way ns named k ∙ f)))
    where
      gone : (ns : List Name) → are_names ns ≡ true → is_front way ns ≡ true → at (path_below root_text ns) (without (path_below root_text way) tree) ≡ None
      gone ns k f = at-without (path_below root_text ns) (path_below root_text way) tree ∙ ap (λ b. cond (not b) (at (path_below root_text ns) tree) None) (under-front way ns named k ∙ f)

  pub gone_done : (h : Held) → held cells old way ≡ Some h → (from : Option ℕ) → IsChangeDone r (changes.Delete path) cells old new from
  unfolding unfit apply
  gone_done h held_is from = record {
    are = are_gone;
    few = few_gone;
    says = λ trees tree sources is has.
        let fits : unfit (changes.Delete path) trees tree ≡ None = ap (λ o. if is_some o then (if bytes_eq path root_text then Some whys.IsRoot else None) else Some whys.NoNode) (stands_at cells old path one (Some h) held_is tree is) ∙ ap (λ b. if b then Some whys.IsRoot else None) other in
        (fits, record { shows = shows_gone tree is; formed = formed_change trees tree r is.formed sources.sorted sources.formed (changes.Delete path) one fits });
  }

pub gone_fails : (r : ℕ) (cells : List Cell) (old new : EditedTree) → AreEdits r cells old → (path : List ℕ) → is_path path ≡ true → (h : Held) → held cells old (names_in path) ≡ Some h → (why : Unfit) → (new.touched ≡ old.touched) × MatchBool (is_want why) (Unit {0}) ((why ≡ whys.NoParent) × (hung_at r cells None old (names_in path) ≡ None)) → new.root ≡ old.root
    → (new ≡ old) × MatchBool (is_want why) (Unit {0}) ((trees : List Tree) (tree : Tree) → AreSources trees → AreShown cells old tree → Unit {0} → unfit (changes.Delete path) trees tree ≡ Some why)
gone_fails r cells old new are path one h held_is why hung root = (same_edits old new hung.0 root, by (is_want why) hung.1)
  where
    by : (b : Bool) → MatchBool b (Unit {0}) ((why ≡ whys.NoParent) × (hung_at r cells None old (names_in path) ≡ None)) → MatchBool b (Unit {0}) ((trees : List Tree) (tree : Tree) → AreSources trees → AreShown cells old tree → Unit {0} → unfit (changes.Delete path) trees tree ≡ Some why)
    by true n = tt
    by false n = λ trees tree sources is has. absurd (way_stands r cells are.sound None old path one tree is (ap is_some (stands_at cells old path one (Some h) held_is tree is)) n.1)

pub none_to_take : (cells : List Cell) (old : EditedTree) (path : List ℕ) → is_path path ≡ true → held cells old (names_in path) ≡ None → (trees : List Tree) (tree : Tree) → AreShown cells old tree → unfit (changes.Delete path) trees tree ≡ Some whys.NoNode
unfolding unfit
none_to_take cells old path one e trees tree is = ap (λ o. if is_some o then (if bytes_eq path root_text then Some whys.IsRoot else None) else Some whys.NoNode) (stands_at cells old path one None e tree is)

pub root_to_take : (cells : List Cell) (old : EditedTree) (path : List ℕ) → is_path path ≡ true → (h : Held) → held cells old (names_in path) ≡ Some h → bytes_eq path root_text ≡ true → (trees : List Tree) (tree : Tree) → AreShown cells old tree → unfit (changes.Delete path) trees tree ≡ Some whys.IsRoot
unfolding unfit
root_to_take cells old path one h e root trees tree is = ap (λ o. if is_some o then (if bytes_eq path root_text then Some whys.IsRoot else None) else Some whys.NoNode) (stands_at cells old path one (Some h) e tree is) ∙ ap (λ b. if b then Some whys.IsRoot else None) root

pub some_of : (o : Option Held) → is_some o ≡ true → (h : Held) × (o ≡ Some h)
some_of None e = absurd (cc e)
some_of (Some h) e = (h, refl)

pub none_of : (o : Option Held) → is_some o ≡ false → o ≡ None
none_of None e = refl
none_of (Some h) e = absurd (cc e)
