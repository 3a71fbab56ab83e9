-- The numbers of a tree's places: each stands where its names lead to, with the entries and the node of its cell.
use Rattle.std.proofs.Common.{◌≡◌, ℕ, Bool, true, false, ◌&&◌, cond, T, List, [], ◌∷◌, ◌++◌, Option, None, Some, get_or, refl, sym, ap, subst, ◌∙◌}
use Rattle.std.specs.Prelude.{is_some}
use Rattle.std.specs.List.{All}
use Rattle.std.specs.Option.{option_map, option_map_or, option_and_then}
use Rattle.std.specs.FinMap.{find, is_sorted}
use Rattle.std.specs.FinMap.Entries.{below_all}
use Rattle.std.specs.Ordering.{nat_cmp, eq_by_cmp, is_lt}
use Rattle.std.specs.Cmp.{tied_itself}
use Rattle.std.specs.Cmp.Lexicographic.{slice_cmp, nat_list_cmp_total}
use Rattle.std.proofs.lemmas.Bool.{and_from}
use Rattle.std.proofs.lemmas.List.Elements.{All-map, All-from_get_or}
use Rattle.dsv_base.specs.Paths.{is_path, is_component, root_text, join_text}
use Rattle.rev_nodes.specs.declared.cell.Cell.{Cell}
use Rattle.rev_nodes.specs.declared.kind.Kind.TheVariants.{File}
use Rattle.rev_nodes.specs.declared.node.Node.{Node}
use Rattle.rev_nodes.specs.Trees.{TreeNode, Tree, at}
use Rattle.rev_nodes.specs.Fitting.{in_order}
use Rattle.rev_nodes.specs.Forests.{Numbered, tree_of}
use Rattle.rev_nodes.specs.Entries.{entries_in}
use Rattle.rev_nodes.proofs.Forming.{tied}
use Rattle.rev_nodes.proofs.Search.{find_here}
use Rattle.rev_nodes.proofs.NodesSound.{at_paths}
use Rattle.rev_nodes.proofs.EntryNames.{StandsAtPath, entries-are}
use Rattle.rev_nodes.specs.Subtrees.{path_below}
use Rattle.node_table.specs.Ways.{Name, are_names, names_in}
use Rattle.node_table.specs.Tables.{cell_at, child_in, reach, walk, spot_node, IsSoundTable}
use Rattle.node_table.specs.Rebuilt.{root_spot}
use Rattle.node_table.specs.Shown.{IsShown}
use Rattle.node_table.specs.Numbers.{number_at, numbered_place, numbered}
use Rattle.node_table.proofs.Ways.{path_at-more, names-append}
use Rattle.node_table.proofs.Fronts.{names-back}
use Rattle.node_table.proofs.PathNames.{names_of_path}
use Rattle.node_table.proofs.Found.{spot_of, no_spot, found_as, none_at}

pub reach-append : (cells : List Cell) (ms ns : List Name) (o : Option ℕ) → reach cells o (ms ++ ns) ≡ reach cells (reach cells o ms) ns
reach-append cells [] ns o = refl
reach-append cells (m ∷ ms) ns o = reach-append cells ms ns (option_and_then (child_in cells m) o)

-- ---- the places are those of the tree

module _ (cells : List Cell) (root : ℕ) where
  abbrev with_number : List ℕ → TreeNode → Numbered
  with_number path found = record { id = number_at cells root path; here = found }

  pub tree-numbered : (tree : Tree) → tree_of (numbered cells root tree) ≡ tree
  tree-numbered [] = refl
  tree-numbered (p ∷ ps) = ap (λ (others : Tree). p ∷ others) (tree-numbered ps)

  pub find-numbered : (path : List ℕ) (tree : Tree) → find (slice_cmp nat_cmp) path (numbered cells root tree) ≡ option_map (with_number path) (at path tree)
  find-numbered path [] = refl
  find-numbered path (p ∷ ps) = by (eq_by_cmp (slice_cmp nat_cmp) path p.0) refl (find-numbered path ps)
    where
      by : (b : Bool) → eq_by_cmp (slice_cmp nat_cmp) path p.0 ≡ b → find (slice_cmp nat_cmp) path (numbered cells root ps) ≡ option_map (with_number path) (at path ps)
          → cond b (Some (with_number p.0 p.1)) (find (slice_cmp nat_cmp) path (numbered cells root ps)) ≡ option_map (with_number path) (cond b (Some p.1) (at path ps))
      by true t more = ap (λ q. Some (with_number q p.1)) (sym (tied path p.0 t))
      by false t more = more

  below-numbered : (path : List ℕ) (tree : Tree) → below_all (slice_cmp nat_cmp) path (numbered cells root tree) ≡ below_all (slice_cmp nat_cmp) path tree
  below-numbered path [] = refl
  below-numbered path (p ∷ ps) = ap (λ b. is_lt (slice_cmp nat_cmp path p.0) && b) (below-numbered path ps)

  pub sorted-numbered : (tree : Tree) → is_sorted (slice_cmp nat_cmp) (numbered cells root tree) ≡ in_order tree
  sorted-numbered [] = refl
  sorted-numbered (p ∷ ps) = λ i. below-numbered p.0 ps i && sorted-numbered ps i

-- each place is found at its path
no_place : List ℕ × Numbered
no_place = ([], record { id = 0; here = record { node = record { kind = File; props = []; text = []; created = 0 }; line = record { since = 0; source = None } } })

pub places_found : (places : List (List ℕ × Numbered)) → is_sorted (slice_cmp nat_cmp) places ≡ true → All (λ (place : List ℕ × Numbered). find (slice_cmp nat_cmp) place.0 places ≡ Some place.1) places
places_found places sorted = All-from_get_or (λ (place : List ℕ × Numbered). find (slice_cmp nat_cmp) place.0 places ≡ Some place.1) places no_place
    (λ i less. find_here (slice_cmp nat_cmp) nat_list_cmp_total (get_or places i no_place).0 places i no_place (subst T (sym sorted) tt) less (tied_itself nat_list_cmp_total (get_or places i no_place).0))

-- ---- where a number stands

-- the names of a path lead to the number, whose cell has the node that stands there
pub record IsLed (cells : List Cell) (root : ℕ) (tree : Tree) (path : List ℕ) (id : ℕ) : Type 0 where
  pub led : reach cells (Some root) (names_in path) ≡ Some id
  pub found : TreeNode
  pub there : at path tree ≡ Some found
  pub node : found.node ≡ (cell_at cells id).node
  pub path_is : is_path path ≡ true

-- a node stands at a path where its names lead to this number
pub record HasId (cells : List Cell) (root : ℕ) (tree : Tree) (path : List ℕ) : Type 0 where
  pub id : ℕ
  pub number : number_at cells root path ≡ id
  pub is_led : IsLed cells root tree path id

module _ (cells : List Cell) (root : ℕ) (tree : Tree) (is : IsShown cells root tree) where
  pub led_to : (path : List ℕ) (id : ℕ) → is_path path ≡ true → reach cells (Some root) (names_in path) ≡ Some id → IsLed cells root tree path id
  led_to path id one led = let f = found_as cells root tree is.shown path one id led in record { led = led; found = f.found; there = f.at_path; node = f.node; path_is = one }

  pub stands_at : (path : List ℕ) (found : TreeNode) → at path tree ≡ Some found → HasId cells root tree path
  stands_at path found e = by (reach cells (Some root) (names_in path)) refl
    where
      one : is_path path ≡ true
      one = is.formed.paths path (ap is_some e)

      by : (o : Option ℕ) → reach cells (Some root) (names_in path) ≡ o → HasId cells root tree path
      by None r = absurd (let n = none_at cells root tree is.shown path one r in cc (n, e))
      by (Some id) r = record { id = id; number = ap (λ (o : Option ℕ). option_map_or (λ i. i) o 0) r; is_led = led_to path id one r }

  pub nowhere : (path : List ℕ) → is_path path ≡ true → at path tree ≡ None → reach cells (Some root) (names_in path) ≡ None
  nowhere path one e = by (reach cells (Some root) (names_in path)) refl
    where
      by : (o : Option ℕ) → reach cells (Some root) (names_in path) ≡ o → o ≡ None
      by None r = refl
      by (Some id) r = absurd (let f = found_as cells root tree is.shown path one id r in let t = f.at_path in cc (t, e))

  -- what is found with a number among the places is led to by it
  pub numbered_at : (path : List ℕ) (id : ℕ) → option_map (λ (p : Numbered). p.id) (find (slice_cmp nat_cmp) path (numbered cells root tree)) ≡ Some id → IsLed cells root tree path id
  numbered_at path id e = by (at path tree) refl (sym (ap (option_map (λ (p : Numbered). p.id)) (find-numbered cells root path tree)) ∙ e)
    where
      by : (o : Option TreeNode) → at path tree ≡ o → option_map (λ (p : Numbered). p.id) (option_map (with_number cells root path) o) ≡ Some id → IsLed cells root tree path id
      by None t f = absurd (cc f)
      by (Some found) t f =
          let h = stands_at path found t in
          let same : number_at cells root path ≡ id = cc in
          subst (IsLed cells root tree path) (sym h.number ∙ same) h.is_led

  -- ---- the entries of a cell

  module _ (sound : IsSoundTable cells) (sorted : in_order tree ≡ true) where
    pub entries_led : (ns : List Name) → are_names ns ≡ true → (id : ℕ) → reach cells (Some root) ns ≡ Some id → (cell_at cells id).entries ≡ entries_in (path_below root_text ns) (numbered cells root tree)
    entries_led ns named id led =
        entries-are (path_below root_text ns) directory (numbered cells root tree)
        (All-map StandsAtPath (numbered_place cells root) tree (at_paths tree is.formed))
        (subst T (sym (sorted-numbered cells root tree ∙ sorted)) tt)
        (cell_at cells id).entries (subst T (sym (sound id).sorted) tt)
        (λ name other. none name other (child_in cells name id) refl)
        (λ name one. same name one (child_in cells name id) refl)
      where
        directory : is_path (path_below root_text ns) ≡ true
        directory = let s = spot_of cells root ns id led in is.formed.paths (path_below root_text ns) (ap is_some (is.shown ns named ∙ ap (option_map (spot_node cells)) s.is))

        none : (name : Name) → is_component name ≡ false → (o : Option ℕ) → child_in cells name id ≡ o → child_in cells name id ≡ None
        none name other None e = e
        none name other (Some i) e = absurd (let n = ((sound id).children name i e).name in cc (n, other))

        led_more : (name : Name) (o : Option ℕ) → child_in cells name id ≡ o → reach cells (Some root) (ns ++ name ∷ []) ≡ o
        led_more name o e = reach-append cells ns (name ∷ []) (Some root) ∙ ap (λ (p : Option ℕ). reach cells p (name ∷ [])) led ∙ e

        named_more : (name : Name) → is_component name ≡ true → are_names (ns ++ name ∷ []) ≡ true
        named_more name one = names-append ns (name ∷ []) named (and_from _ _ one refl)

        at_more : (name : Name) → is_component name ≡ true → at (join_text (path_below root_text ns) name) tree ≡ option_map (spot_node cells) (walk cells (Some (root_spot cells root)) (ns ++ name ∷ []))
        at_more name one = ap (λ p. at p tree) (sym (path_at-more root_text ns name)) ∙ is.shown (ns ++ name ∷ []) (named_more name one)

        found_more : (name : Name) → find (slice_cmp nat_cmp) (join_text (path_below root_text ns) name) (numbered cells root tree) ≡ option_map (with_number cells root (join_text (path_below root_text ns) name)) (at (join_text (path_below root_text ns) name) tree)
        found_more name = find-numbered cells root (join_text (path_below root_text ns) name) tree

        number_more : (name : Name) → is_component name ≡ true → (i : ℕ) → child_in cells name id ≡ Some i → number_at cells root (join_text (path_below root_text ns) name) ≡ i
        number_more name one i e =
            ap (λ (o : Option ℕ). option_map_or (λ (k : ℕ). k) o 0)
            (ap (λ ms. reach cells (Some root) ms) (ap names_in (sym (path_at-more root_text ns name)) ∙ names-back (ns ++ name ∷ []) (named_more name one))
            ∙ led_more name (Some i) e)

        same : (name : Name) → is_component name ≡ true → (o : Option ℕ) → child_in cells name id ≡ o → child_in cells name id ≡ option_map (λ (p : Numbered). p.id) (find (slice_cmp nat_cmp) (join_text (path_below root_text ns) name) (numbered cells root tree))
        same name one None e =
            e ∙ sym (ap (option_map (λ (p : Numbered). p.id)) (found_more name
            ∙ ap (option_map (with_number cells root (join_text (path_below root_text ns) name))) (at_more name one ∙ ap (option_map (spot_node cells)) (no_spot cells root (ns ++ name ∷ []) (led_more name None e)))))
        same name one (Some i) e =
            let s = spot_of cells root (ns ++ name ∷ []) i (led_more name (Some i) e) in
            e ∙ ap (λ (k : ℕ). Some k) (sym (number_more name one i e))
            ∙ sym (ap (option_map (λ (p : Numbered). p.id)) (found_more name
            ∙ ap (option_map (with_number cells root (join_text (path_below root_text ns) name))) (at_more name one ∙ ap (option_map (spot_node cells)) s.is)))

    -- the same by the path
    pub entries_at : (path : List ℕ) (id : ℕ) → IsLed cells root tree path id → (cell_at cells id).entries ≡ entries_in path (numbered cells root tree)
    entries_at path id led =
        let n = names_of_path path led.path_is in
        entries_led (names_in path) n.names id led.led ∙ ap (λ p. entries_in p (numbered cells root tree)) n.path

-- ---- equal numbers

-- the same node stands at both, with the same entries
pub record AreAlikeHere (cells : List Cell) (root : ℕ) (tree : Tree) (path : List ℕ) (other : ℕ) (others : Tree) (there : List ℕ) : Type 0 where
  pub nodes : option_map (λ (p : Numbered). p.here.node) (find (slice_cmp nat_cmp) path (numbered cells root tree)) ≡ option_map (λ (p : Numbered). p.here.node) (find (slice_cmp nat_cmp) there (numbered cells other others))
  pub entries : entries_in path (numbered cells root tree) ≡ entries_in there (numbered cells other others)

node_led : (cells : List Cell) (root : ℕ) (tree : Tree) (path : List ℕ) (id : ℕ) → IsLed cells root tree path id → option_map (λ (p : Numbered). p.here.node) (find (slice_cmp nat_cmp) path (numbered cells root tree)) ≡ Some (cell_at cells id).node
node_led cells root tree path id led =
    ap (option_map (λ (p : Numbered). p.here.node)) (find-numbered cells root path tree ∙ ap (option_map (with_number cells root path)) led.there)
    ∙ ap (λ (n : Node). Some n) led.node

pub alike : (cells : List Cell) → IsSoundTable cells → (root : ℕ) (tree : Tree) → IsShown cells root tree → in_order tree ≡ true → (other : ℕ) (others : Tree) → IsShown cells other others → in_order others ≡ true → (path there : List ℕ) (id : ℕ)
    → option_map (λ (p : Numbered). p.id) (find (slice_cmp nat_cmp) path (numbered cells root tree)) ≡ Some id → option_map (λ (p : Numbered). p.id) (find (slice_cmp nat_cmp) there (numbered cells other others)) ≡ Some id
    → AreAlikeHere cells root tree path other others there
alike cells sound root tree is sorted other others other_is other_sorted path there id e f =
    let here = numbered_at cells root tree is path id e in
    let same = numbered_at cells other others other_is there id f in
    record {
      nodes = node_led cells root tree path id here ∙ sym (node_led cells other others there id same);
      entries = sym (entries_at cells root tree is sound sorted path id here) ∙ entries_at cells other others other_is sound other_sorted there id same;
    }
