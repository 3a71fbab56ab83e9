-- The touched paths from the last to the first, and the root.
use Rattle.std.proofs.Common.{◌≡◌, ℕ, suc, is_some, ◌+◌, ◌-◌, ◌<◌, ◌≤◌, Bool, true, false, ◌&&◌, cond, T, List, [], ◌∷◌, ◌++◌, Option, None, Some, length, map, take, get_or, refl, sym, ap, subst, ◌∙◌, arith, length-append, append_assoc, append-nil}
use Rattle.std.specs.Prelude.{if◌then◌else◌}
use Rattle.std.specs.List.{list_all}
use Rattle.std.specs.Option.{option_map, unwrap_or}
use Rattle.std.specs.Str.{bytes_eq}
use Rattle.std.specs.FinMap.{is_sorted}
use Rattle.std.specs.Ordering.{nat_cmp, is_eq, eq_by_cmp, ordering_then}
use Rattle.std.specs.declared.cmp.Ordering.{Ordering}
use Rattle.std.specs.declared.cmp.Ordering.TheVariants.{Less, Equal, Greater}
use Rattle.std.specs.Cmp.{tied_itself, nat_cmp_total}
use Rattle.std.specs.Cmp.Lexicographic.{slice_cmp}
use Rattle.std.proofs.lemmas.Bool.{and_parts, and_from}
use Rattle.std.proofs.lemmas.List.{take_all}
use Rattle.std.proofs.lemmas.Map.Lookups.{exact_bytes}
use Rattle.dsv_base.specs.Paths.{is_path, is_component, parent_text, join_text, root_text}
use Rattle.dsv_base.proofs.Joins.{component_some}
use Rattle.rev_nodes.specs.declared.cell.Cell.{Cell}
use Rattle.rev_nodes.specs.declared.line.Line.{Line}
use Rattle.rev_nodes.specs.declared.node.Node.{Node}
use Rattle.rev_nodes.proofs.Search.{first_true, second_true}
use Rattle.rev_nodes.proofs.Below.{same_from, long, some_text}
use Rattle.node_table.specs.Ways.{Name, are_names}
use Rattle.node_table.specs.Tables.{cell_at, seen, IsSoundTable}
use Rattle.node_table.specs.Rebuilt.{root_spot}
use Rattle.node_table.proofs.Growing.{cell_at-kept, seen-kept}
use Rattle.node_table.proofs.Ways.{join-front}
use Rattle.tree_edits.specs.declared.held.Held.{Held}
use Rattle.tree_edits.specs.Edits.{Touched, EditedTree, touched_at, held_in, or_touched, held_from, held_node, shown}
use Rattle.tree_edits.specs.AreEdits.{AreTouched, AreEdits}
use Rattle.tree_settling.specs.Merged.{AllMade, made_at}
use Rattle.tree_settling.specs.Listed.{AreBehind}
use Rattle.tree_settling.specs.Settled.{IsCellOf, IsMadeOf, IsMadeAt, Agrees, AreSettled, IsSettled, standing, root_made}
use Rattle.tree_settling.proofs.Rising.{both, below_less, T_from, from_T, lt_from, find_below, find_first, find_behind, find_between, sorted_end, below_texts, sorted_texts}
use Rattle.tree_settling.proofs.Lists.{with_last}
use Rattle.tree_settling.proofs.Growths.{IsSome, untouched, agrees-kept}
use Rattle.tree_settling.proofs.Places.{final_sound, final_made}

-- ---- before the first turn

pub none_settled : (cells : List Cell) (touched : Touched) → IsSoundTable cells → (more : List Cell) → length more ≡ 0 → AreSettled cells touched more [] []
none_settled cells touched sound [] none = record {
  sound = subst IsSoundTable (sym (append-nil cells)) sound;
  keys = refl;
  agree = λ path. tt;
  count = refl;
}
none_settled cells touched sound (c ∷ cs) none = absurd (omega (arith, none))

-- ---- a turn

path-some : (p : List ℕ) → is_path p ≡ true → IsSome p
path-some [] one = absurd (some_text one)
path-some (b ∷ bs) one = record { byte = b; rest = bs; is = refl }

longer : (k : List ℕ) (x : ℕ) (xs : List ℕ) → slice_cmp nat_cmp k (k ++ x ∷ xs) ≡ Less
longer [] x xs = refl
longer (a ∷ k) x xs = ap (λ r. ordering_then r (slice_cmp nat_cmp k (k ++ x ∷ xs))) (tied_itself nat_cmp_total a) ∙ longer k x xs

below_root : (n : List ℕ) → is_component n ≡ true → slice_cmp nat_cmp root_text (47 ∷ n) ≡ Less
below_root [] named = absurd (let f = component_some [] named in cc f)
below_root (b ∷ bs) named = refl

-- a path stands before what is joined to it
join-behind : (p n : List ℕ) → is_component n ≡ true → slice_cmp nat_cmp p (join_text p n) ≡ Less
join-behind p n named = ap (slice_cmp nat_cmp p) (join-front p n) ∙ by (bytes_eq p root_text) refl
  where
    by : (b : Bool) → bytes_eq p root_text ≡ b → slice_cmp nat_cmp p ((if b then [] else p) ++ 47 ∷ n) ≡ Less
    by true e = ap (λ x. slice_cmp nat_cmp x (47 ∷ n)) (same_from p root_text e) ∙ below_root n named
    by false e = longer p 47 n

texts_all : (made : AllMade) (back : Touched) → map (λ m. m.0) made ≡ map (λ t. t.0) back → list_all (λ m. is_path m.0) made ≡ list_all (λ t. is_path t.0) back
texts_all [] [] h = refl
texts_all [] (t ∷ ts) h = absurd (cc h)
texts_all (m ∷ ms) [] h = absurd (cc h)
texts_all (m ∷ ms) (t ∷ ts) h =
    let here : m.0 ≡ t.0 = cc in
    let rest : map (λ (m : List ℕ × Option ℕ). m.0) ms ≡ map (λ (t : List ℕ × Option Held). t.0) ts = cc in
    ap (λ x. is_path x && list_all (λ m. is_path m.0) ms) here ∙ ap (λ b. is_path t.0 && b) (texts_all ms ts rest)

module _ (rev : ℕ) (cells : List Cell) (touched : Touched) (sound : IsSoundTable cells) (are : AreTouched rev cells touched) where
  all_paths : (front back : Touched) → touched ≡ front ++ back → list_all (λ t. is_path t.0) back ≡ true
  all_paths front [] split = refl
  all_paths front (t ∷ back) split =
      let found : touched_at touched t.0 ≡ Some t.1 = ap (λ xs. touched_at xs t.0) split ∙ find_between front back t.0 t.1 (T_from _ (sym (ap (is_sorted (slice_cmp nat_cmp)) split) ∙ are.sorted)) in
      and_from (is_path t.0) _ (are.placed t.0 t.1 found).one (all_paths (front ++ t ∷ []) back (split ∙ sym (append_assoc front (t ∷ []) back)))

  module _ (front back : Touched) (path : List ℕ) where
    rises : (edit : Option Held) → touched ≡ front ++ (path, edit) ∷ back → T (is_sorted (slice_cmp nat_cmp) (front ++ (path, edit) ∷ back))
    rises edit split = T_from _ (sym (ap (is_sorted (slice_cmp nat_cmp)) split) ∙ are.sorted)

    here_touched : (edit : Option Held) → touched ≡ front ++ (path, edit) ∷ back → touched_at touched path ≡ Some edit
    here_touched edit split = ap (λ t. touched_at t path) split ∙ find_between front back path edit (rises edit split)

    is_one : (edit : Option Held) → touched ≡ front ++ (path, edit) ∷ back → is_path path ≡ true
    is_one edit split = (are.placed path edit (here_touched edit split)).one

    -- what the code asks of a turn
    pub turn_within : (edit : Option Held) → touched ≡ front ++ (path, edit) ∷ back → (here : Held) (id : ℕ) → edit ≡ Some here → here.under ≡ Some id → id < length cells
    turn_within edit split here id e under = (are.held path here (here_touched edit split ∙ ap (λ (x : Option Held). Some x) e)).within id under

    pub turn_behind : (edit : Option Held) → touched ≡ front ++ (path, edit) ∷ back → (made : AllMade) → map (λ m. m.0) made ≡ map (λ t. t.0) back → AreBehind path made
    turn_behind edit split made keys =
        let end_ = sorted_end front ((path, edit) ∷ back) (rises edit split) in
        record {
          one = is_one edit split;
          paths = texts_all made back keys ∙ (and_parts (is_path path) _ (all_paths front ((path, edit) ∷ back) split)).1;
          sorted = sorted_texts made back keys ∙ from_T _ (second_true _ _ end_);
          later = below_texts path made back keys ∙ from_T _ (first_true _ _ end_);
        }

    not_turn : (more : List Cell) (made : AllMade) → AreSettled cells touched more back made → AreSettled cells touched more ((path, None) ∷ back) ((path, None) ∷ made)
    not_turn more made so = record {
      sound = so.sound;
      keys = ap (λ xs. path ∷ xs) so.keys;
      agree = λ p. by p (eq_by_cmp (slice_cmp nat_cmp) p path);
      count = so.count;
    }
      where
        by : (p : List ℕ) (b : Bool) → Agrees cells touched (cells ++ more) p (cond b (Some None) (touched_at back p)) (cond b (Some None) (made_at made p))
        by p true = tt
        by p false = so.agree p

    some_turn : (here : Held) → touched ≡ front ++ (path, Some here) ∷ back → (more : List Cell) (made : AllMade) → AreSettled cells touched more back made → (cell : Cell) → IsCellOf cells more made path here cell
        → AreSettled cells touched (more ++ cell ∷ []) ((path, Some here) ∷ back) ((path, Some (length (cells ++ more))) ∷ made)
    some_turn here split more made so cell cell_is = record {
      sound = subst IsSoundTable whole final_sound_here;
      keys = ap (λ xs. path ∷ xs) so.keys;
      agree = λ p. subst (λ xs. Agrees cells touched xs p (touched_at ((path, Some here) ∷ back) p) (made_at ((path, Some (length (cells ++ more))) ∷ made) p)) whole (by p (slice_cmp nat_cmp p path) refl);
      count = let f = so.count in omega (arith, f, length-append more (cell ∷ []));
    }
      where
        whole : (cells ++ more) ++ cell ∷ [] ≡ cells ++ (more ++ cell ∷ [])
        whole = append_assoc cells more (cell ∷ [])

        one : is_path path ≡ true
        one = is_one (Some here) split

        there : touched_at touched path ≡ Some (Some here)
        there = here_touched (Some here) split

        behind : (n : Name) → is_component n ≡ true → touched_at back (join_text path n) ≡ touched_at touched (join_text path n)
        behind n named = sym (ap (λ t. touched_at t (join_text path n)) split ∙ find_behind front back path (join_text path n) (Some here) (rises (Some here) split) (join-behind path n named))

        final_sound_here : IsSoundTable ((cells ++ more) ++ cell ∷ [])
        final_sound_here = final_sound rev cells touched sound are more so.sound back made so.agree path (path-some path one) here there behind cell cell_is

        final_made_here : IsMadeAt cells touched ((cells ++ more) ++ cell ∷ []) path here (length (cells ++ more))
        final_made_here = final_made rev cells touched sound are more so.sound back made so.agree path (path-some path one) here there behind cell cell_is

        by : (p : List ℕ) (r : Ordering) → slice_cmp nat_cmp p path ≡ r → Agrees cells touched ((cells ++ more) ++ cell ∷ []) p (cond (is_eq r) (Some (Some here)) (touched_at back p)) (cond (is_eq r) (Some (Some (length (cells ++ more)))) (made_at made p))
        by p Less t = agrees-kept cells touched (cells ++ more) so.sound (cell ∷ []) p (touched_at back p) (made_at made p) (so.agree p)
        by p Equal t = subst (λ q. IsMadeAt cells touched ((cells ++ more) ++ cell ∷ []) q here (length (cells ++ more))) (sym (exact_bytes p path t)) final_made_here
        by p Greater t = agrees-kept cells touched (cells ++ more) so.sound (cell ∷ []) p (touched_at back p) (made_at made p) (so.agree p)

    pub turn : (edit : Option Held) → touched ≡ front ++ (path, edit) ∷ back → (more new : List Cell) (made : AllMade) (one : List ℕ × Option ℕ) → AreSettled cells touched more back made → IsMadeOf cells made path edit more new one
        → AreSettled cells touched new ((path, edit) ∷ back) (one ∷ made)
    turn None split more new made one so m =
        subst (λ xs. AreSettled cells touched xs ((path, None) ∷ back) (one ∷ made)) (sym m.1)
        (subst (λ (x : List ℕ × Option ℕ). AreSettled cells touched more ((path, None) ∷ back) (x ∷ made)) (sym m.0) (not_turn more made so))
    turn (Some here) split more new made one so m =
        let count : length (cells ++ more) ≡ length cells + length more = length-append cells more in
        subst (λ xs. AreSettled cells touched xs ((path, Some here) ∷ back) (one ∷ made)) (sym m.1.is)
        (subst (λ (x : List ℕ × Option ℕ). AreSettled cells touched (more ++ m.1.cell ∷ []) ((path, Some here) ∷ back) (x ∷ made)) (sym m.0)
        (subst (λ k. AreSettled cells touched (more ++ m.1.cell ∷ []) ((path, Some here) ∷ back) ((path, Some k) ∷ made)) count (some_turn here split more made so m.1.cell m.1.cell_is)))

-- ---- for the loop

-- what is left, from its end
pub record IsTurned (cells : List Cell) (touched : Touched) (more : List Cell) (rest : Touched) (made : AllMade) : Type 0 where
  pub back : Touched
  pub split : touched ≡ rest ++ back
  pub so : AreSettled cells touched more back made

pub turned_first : (cells : List Cell) (touched : Touched) → IsSoundTable cells → (more : List Cell) → length more ≡ 0 → (made : AllMade) → made ≡ [] → (n : ℕ) → n ≡ length touched → IsTurned cells touched more (take n touched) made
turned_first cells touched sound more none made made_is n n_is = record {
  back = [];
  split = sym (append-nil (take n touched) ∙ take_all n touched (omega (arith, n_is)));
  so = subst (λ xs. AreSettled cells touched more [] xs) (sym made_is) (none_settled cells touched sound more none);
}

module _ (cells : List Cell) (touched : Touched) (more : List Cell) (made : AllMade) (n : ℕ) (last : List ℕ × Option Held) (some : 1 ≤ n) (within : n ≤ length touched) (is : last ≡ get_or touched (n - 1) last) (t : IsTurned cells touched more (take n touched) made) where
  cut : touched ≡ take (n - 1) touched ++ (last.0, last.1) ∷ t.back
  cut = t.split ∙ ap (λ xs. xs ++ t.back) (with_last touched n last some within is) ∙ append_assoc (take (n - 1) touched) (last ∷ []) t.back

  pub next_within : (rev : ℕ) × AreTouched rev cells touched → IsSoundTable cells → (here : Held) (id : ℕ) → last.1 ≡ Some here → here.under ≡ Some id → id < length cells
  next_within are sound = turn_within are.0 cells touched sound are.1 (take (n - 1) touched) t.back last.0 last.1 cut

  pub next_behind : (rev : ℕ) × AreTouched rev cells touched → IsSoundTable cells → AreBehind last.0 made
  next_behind are sound = turn_behind are.0 cells touched sound are.1 (take (n - 1) touched) t.back last.0 last.1 cut made t.so.keys

  pub next_turned : (rev : ℕ) × AreTouched rev cells touched → IsSoundTable cells → (new : List Cell) (one : List ℕ × Option ℕ) → IsMadeOf cells made last.0 last.1 more new one → (all : AllMade) → all ≡ one ∷ made → IsTurned cells touched new (take (n - 1) touched) all
  next_turned are sound new one m all all_is = record {
    back = last ∷ t.back;
    split = cut;
    so = subst (λ xs. AreSettled cells touched new (last ∷ t.back) xs) (sym all_is) (turn are.0 cells touched sound are.1 (take (n - 1) touched) t.back last.0 last.1 cut more new made one t.so m);
  }

-- ---- the root

record HasRoot (rev : ℕ) (cells : List Cell) (edits : EditedTree) (more : List Cell) (root : ℕ) : Type 0 where
  within : root < length (cells ++ more)
  created : (cell_at (cells ++ more) root).node.created ≤ rev
  shows : (ns : List Name) → are_names ns ≡ true → seen (cells ++ more) (Some (root_spot (cells ++ more) root)) ns ≡ shown cells edits ns

root_parent : parent_text root_text ≡ None
unfolding parent_text
root_parent = refl

module _ (rev : ℕ) (cells : List Cell) (edits : EditedTree) (are : AreEdits rev cells edits) (more : List Cell) where
  old_root : touched_at edits.touched root_text ≡ None → HasRoot rev cells edits more edits.root
  old_root none =
      let kept = cell_at-kept cells more edits.root are.within in
      record {
        within = let w = are.within in omega (arith, w, length-append cells more);
        created = subst (λ (x : Cell). x.node.created ≤ rev) (sym kept) are.young;
        shows = λ ns names.
            ap (λ (x : Cell). seen (cells ++ more) (Some (record { id = edits.root; line = x.line })) ns) kept
            ∙ seen-kept cells are.sound more ns (record { id = edits.root; line = (cell_at cells edits.root).line }) are.within
            ∙ sym (untouched rev cells edits.touched are.sound are.touched ns names root_text (record { byte = 47; rest = []; is = refl }) none (cell_at cells edits.root).line edits.root)
            ∙ ap (λ o. option_map held_node (held_from cells edits.touched root_text (or_touched o (Some (held_in cells (cell_at cells edits.root).line edits.root))) ns)) (sym none);
      }

  new_root : (here : Held) (id : ℕ) → touched_at edits.touched root_text ≡ Some (Some here) → IsMadeAt cells edits.touched (cells ++ more) root_text here id → HasRoot rev cells edits more id
  new_root here id there made = record {
    within = made.within;
    created = subst (λ (x : Node). x.created ≤ rev) (sym made.node) (are.touched.held root_text here there).created;
    shows = λ ns names.
        ap (λ (l : Line). seen (cells ++ more) (Some (record { id = id; line = l })) ns) made.line
        ∙ made.shows ns names
        ∙ ap (λ o. option_map held_node (held_from cells edits.touched root_text (or_touched o (Some (held_in cells (cell_at cells edits.root).line edits.root))) ns)) (sym there);
  }

  -- the first of the touched paths is `/`, or that isn't touched
  root_by : (touched : Touched) → touched ≡ edits.touched → (made : AllMade) → map (λ m. m.0) made ≡ map (λ t. t.0) touched → ((p : List ℕ) → Agrees cells edits.touched (cells ++ more) p (touched_at touched p) (made_at made p)) → HasRoot rev cells edits more (root_made made edits.root)
  root_by [] is [] keys agree = old_root (ap (λ t. touched_at t root_text) (sym is))
  root_by [] is (m ∷ ms) keys agree = absurd (cc keys)
  root_by (t ∷ ts) is [] keys agree = absurd (cc keys)
  root_by (t ∷ ts) is (m ∷ ms) keys agree = by (bytes_eq m.0 root_text) refl
    where
      same : m.0 ≡ t.0
      same = cc keys

      at_first : (edit : Option Held) (number : Option ℕ) → t.1 ≡ edit → m.1 ≡ number → touched_at edits.touched root_text ≡ Some edit → Agrees cells edits.touched (cells ++ more) root_text (Some edit) (Some number) → HasRoot rev cells edits more (unwrap_or number edits.root)
      at_first None number e f there a = absurd (let s : false ≡ true = (are.touched.placed root_text None there).stands root_parent in cc s)
      at_first (Some here) None e f there a = absurd a
      at_first (Some here) (Some id) e f there a = new_root here id there a

      by : (b : Bool) → bytes_eq m.0 root_text ≡ b → HasRoot rev cells edits more (if b then unwrap_or m.1 edits.root else edits.root)
      by true e =
          let first : t.0 ≡ root_text = sym same ∙ same_from m.0 root_text e in
          let found : touched_at (t ∷ ts) root_text ≡ Some t.1 = ap (λ p. touched_at (t ∷ ts) p) (sym first) ∙ find_first t.0 t.1 ts in
          let made : made_at (m ∷ ms) root_text ≡ Some m.1 = ap (λ p. made_at (m ∷ ms) p) (sym (same_from m.0 root_text e)) ∙ find_first m.0 m.1 ms in
          at_first t.1 m.1 refl refl (ap (λ xs. touched_at xs root_text) (sym is) ∙ found)
          (subst (λ x. Agrees cells edits.touched (cells ++ more) root_text x (Some m.1)) found (subst (λ x. Agrees cells edits.touched (cells ++ more) root_text (touched_at (t ∷ ts) root_text) x) made (agree root_text)))
      by false e =
          let rising : T (is_sorted (slice_cmp nat_cmp) (t ∷ ts)) = T_from _ (ap (is_sorted (slice_cmp nat_cmp)) is ∙ are.touched.sorted) in
          let one = (are.touched.placed t.0 t.1 (ap (λ xs. touched_at xs t.0) (sym is) ∙ find_first t.0 t.1 ts)).one in
          let far = long t.0 one (ap (λ p. bytes_eq p root_text) (sym same) ∙ e) in
          let less : slice_cmp nat_cmp root_text t.0 ≡ Less = ap (slice_cmp nat_cmp root_text) far.is in
          old_root (ap (λ xs. touched_at xs root_text) (sym is) ∙ find_below root_text (t ∷ ts) (both _ _ (lt_from _ less) (below_less root_text t.0 ts less (first_true _ _ rising))))

standing_few : (touched : Touched) → standing touched ≤ length touched
standing_few [] = omega arith
standing_few (t ∷ ts) = by (is_some t.1) (standing_few ts)
  where
    by : (b : Bool) → standing ts ≤ length ts → (if b then suc (standing ts) else standing ts) ≤ suc (length ts)
    by true go = omega (arith, go)
    by false go = omega (arith, go)

pub all_settled : (rev : ℕ) (cells : List Cell) (edits : EditedTree) (more : List Cell) (made : AllMade) (root : ℕ) → AreEdits rev cells edits → AreSettled cells edits.touched more edits.touched made → root ≡ root_made made edits.root → IsSettled rev cells edits more root
all_settled rev cells edits more made root are so root_is =
    let r = root_by rev cells edits are more edits.touched refl made so.keys so.agree in
    subst (λ k. IsSettled rev cells edits more k) (sym root_is) (record { sound = so.sound; within = r.within; created = r.created; shows = r.shows; count = so.count; few = let f = so.count in omega (arith, f, standing_few edits.touched) })
