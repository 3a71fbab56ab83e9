-- The cell of a touched place, behind those of all that stands below it.
use Rattle.std.proofs.Common.{◌≡◌, ℕ, ◌<◌, ◌≤◌, true, false, List, [], ◌∷◌, ◌++◌, Option, None, Some, length, map, refl, sym, ap, subst, ◌∙◌, arith, length-append, append_assoc}
use Rattle.std.specs.Prelude.{IsTrue, if◌then◌else◌}
use Rattle.std.specs.Option.{option_map, option_and_then, option_map_or}
use Rattle.std.proofs.lemmas.Bool.{and_parts, le-leb}
use Rattle.dsv_base.specs.Paths.{is_component, join_text}
use Rattle.rev_nodes.specs.declared.cell.Cell.{Cell}
use Rattle.rev_nodes.specs.declared.entry.Entry.{Entry}
use Rattle.rev_nodes.specs.declared.line.Line.{Line}
use Rattle.rev_nodes.specs.declared.node.Node.{Node}
use Rattle.rev_nodes.specs.Trees.{TreeNode, is_dir_kind}
use Rattle.node_table.specs.Ways.{Name, are_names}
use Rattle.node_table.specs.Tables.{pair, entries_rise, height_over, carried_line, cell_at, child, child_in, Spot, spot_in, below_line, seen, IsChild, IsSoundTable}
use Rattle.node_table.proofs.EntriesFound.{own_entry}
use Rattle.node_table.proofs.Growing.{height_over-kept, cell_at-kept, cell_at-next, seen-kept, spot_in-kept, sound-more}
use Rattle.tree_edits.specs.declared.held.Held.{Held}
use Rattle.tree_edits.specs.Edits.{Touched, touched_at, held_in, child_of, or_touched, held_from, held_node}
use Rattle.tree_edits.specs.AreEdits.{AreTouched, IsHeld}
use Rattle.tree_settling.specs.Merged.{AllMade, made_at, or_made}
use Rattle.tree_settling.specs.Settled.{entries_under, IsCellOf, IsMadeAt, Agrees}
use Rattle.tree_settling.proofs.Rising.{find_first}
use Rattle.tree_settling.proofs.Growths.{IsSome, join-some, parent_of_join, held_none, seen_none, untouched}

no_entries : (es : List Entry) → ((n : Name) → child n es ≡ None) → es ≡ []
no_entries [] none = refl
no_entries (e ∷ es) none = absurd (let f : Some e.id ≡ None = sym (find_first e.name e.id (map pair es)) ∙ none e.name in cc f)

under_child : (cells : List Cell) (n : Name) (o : Option ℕ) → child n (option_map_or (λ id. (cell_at cells id).entries) o []) ≡ option_and_then (child_in cells n) o
under_child cells n None = refl
under_child cells n (Some id) = refl

-- a touched place's own line counts, since it is no older than its directory's
own_line : (above : Line) (n : Name) (own : Line) → above.since ≤ own.since → below_line above n own ≡ own
own_line above n own older = ap (λ b. if b then own else carried_line above n) (le-leb above.since own.since older)

module _ (rev : ℕ) (cells : List Cell) (touched : Touched) (sound : IsSoundTable cells) (are : AreTouched rev cells touched) (more : List Cell) (all_sound : IsSoundTable (cells ++ more)) (back : Touched) (made : AllMade) (agree : (p : List ℕ) → Agrees cells touched (cells ++ more) p (touched_at back p) (made_at made p))
    (path : List ℕ) (some : IsSome path) (here : Held) (there : touched_at touched path ≡ Some (Some here)) (behind : (n : Name) → is_component n ≡ true → touched_at back (join_text path n) ≡ touched_at touched (join_text path n))
    (cell : Cell) (cell_is : IsCellOf cells more made path here cell) where
  abbrev all : List Cell
  all = cells ++ more

  abbrev final : List Cell
  final = (cells ++ more) ++ cell ∷ []

  held : IsHeld rev cells here
  held = are.held path here there

  record IsInHere (edit : Option Held) : Type 0 where
    dir : is_dir_kind here.node.kind ≡ true
    created : (h : Held) → edit ≡ Some h → h.node.created ≤ here.node.created
    since : (h : Held) → edit ≡ Some h → here.line.since ≤ h.line.since

  in_here : (n : Name) → is_component n ≡ true → (edit : Option Held) → touched_at touched (join_text path n) ≡ Some edit → IsInHere edit
  in_here n named edit e =
      let d = (are.placed (join_text path n) edit e).parents path (parent_of_join path n some named) in
      let both : Some (Some d.above) ≡ Some (Some here) = sym d.there ∙ there in
      let same : d.above ≡ here = cc in
      record {
        dir = subst (λ (h : Held). is_dir_kind h.node.kind ≡ true) same d.dir;
        created = λ h f. subst (λ (a : Held). h.node.created ≤ a.node.created) same (d.created h f);
        since = λ h f. subst (λ (a : Held). a.line.since ≤ h.line.since) same (d.since h f);
      }

  -- what the table has under the place
  record IsUnder (n : Name) (j : ℕ) : Type 0 where
    lower : j < length cells
    name : is_component n ≡ true
    older : (cell_at cells j).node.created ≤ here.node.created

  under_is : (n : Name) (j : ℕ) (o : Option ℕ) → here.under ≡ o → option_and_then (child_in cells n) o ≡ Some j → IsUnder n j
  under_is n j None e f = absurd (cc f)
  under_is n j (Some id) e f =
      let c = (sound id).children n j f in
      let w = held.within id e in
      let o = held.older id e in
      record { lower = let l = c.lower in omega (arith, l, w); name = c.name; older = let l = c.older in omega (arith, l, o) }

  -- what was made of a name in it
  record IsMadeIn (n : Name) (j : ℕ) : Type 0 where
    other : Held
    edit : touched_at touched (join_text path n) ≡ Some (Some other)
    made_is : IsMadeAt cells touched all (join_text path n) other j

  made_in : (n : Name) (j : ℕ) → is_component n ≡ true → made_at made (join_text path n) ≡ Some (Some j) → IsMadeIn n j
  made_in n j named e = by (touched_at back (join_text path n)) refl (subst (λ m. Agrees cells touched all (join_text path n) (touched_at back (join_text path n)) m) e (agree (join_text path n)))
    where
      by : (t : Option (Option Held)) → touched_at back (join_text path n) ≡ t → Agrees cells touched all (join_text path n) t (Some (Some j)) → IsMadeIn n j
      by None f a = absurd a
      by (Some None) f a = absurd a
      by (Some (Some h)) f a = record { other = h; edit = sym (behind n named) ∙ f; made_is = a }

  made_touched : (n : Name) (o : Option ℕ) → is_component n ≡ true → made_at made (join_text path n) ≡ Some o → is_dir_kind here.node.kind ≡ true
  made_touched n o named e = by (touched_at back (join_text path n)) refl o (subst (λ m. Agrees cells touched all (join_text path n) (touched_at back (join_text path n)) m) e (agree (join_text path n)))
    where
      by : (t : Option (Option Held)) → touched_at back (join_text path n) ≡ t → (m : Option ℕ) → Agrees cells touched all (join_text path n) t (Some m) → is_dir_kind here.node.kind ≡ true
      by None f None a = absurd a
      by None f (Some j) a = absurd a
      by (Some t) f m a = (in_here n named t (sym (behind n named) ∙ f)).dir

  -- ---- it is sound

  here_is : cell_at final (length all) ≡ cell
  here_is = cell_at-next all cell []

  child_is : (n : Name) (j : ℕ) → child n cell.entries ≡ Some j → IsChild final (length all) n j
  child_is n j f = by (made_at cell_is.names n) refl (sym (cell_is.merged.finds n) ∙ f)
    where
      child_of_all : (name : is_component n ≡ true) → j < length all → (cell_at all j).node.created ≤ here.node.created → IsChild final (length all) n j
      child_of_all name low older = record {
        lower = low;
        name = name;
        older = subst (λ (x : Cell). x.node.created ≤ (cell_at final (length all)).node.created) (sym (cell_at-kept all (cell ∷ []) j low))
            (subst (λ (x : Cell). (cell_at all j).node.created ≤ x.node.created) (sym here_is) (subst (λ (x : Node). (cell_at all j).node.created ≤ x.created) (sym cell_is.node) older));
      }

      from_made : is_component n ≡ true → IsMadeIn n j → IsChild final (length all) n j
      from_made named m =
          let i = in_here n named (Some m.other) m.edit in
          child_of_all named m.made_is.within (subst (λ (x : Node). x.created ≤ here.node.created) (sym m.made_is.node) (i.created m.other refl))

      by : (o : Option (Option ℕ)) → made_at cell_is.names n ≡ o → or_made o (child n (entries_under cells here)) ≡ Some j → IsChild final (length all) n j
      by None e g =
          let u = under_is n j here.under refl (sym (under_child cells n here.under) ∙ g) in
          child_of_all u.name (let l = u.lower in omega (arith, l, length-append cells more)) (subst (λ (x : Cell). x.node.created ≤ here.node.created) (sym (cell_at-kept cells more j u.lower)) u.older)
      by (Some o) e g =
          let named = cell_is.listed.named n o e in
          from_made named (made_in n j named (sym (cell_is.listed.finds n named) ∙ e ∙ ap (λ (x : Option ℕ). Some x) g))

  no_file : is_dir_kind here.node.kind ≡ false → cell.entries ≡ []
  no_file file = no_entries cell.entries (λ n. cell_is.merged.finds n ∙ by n (made_at cell_is.names n) refl)
    where
      empty : (n : Name) (o : Option ℕ) → here.under ≡ o → option_and_then (child_in cells n) o ≡ None
      empty n None e = refl
      empty n (Some id) e = ap (child n) (held.file id e file)

      by : (n : Name) (o : Option (Option ℕ)) → made_at cell_is.names n ≡ o → or_made o (child n (entries_under cells here)) ≡ None
      by n None e = under_child cells n here.under ∙ empty n here.under refl
      by n (Some o) e =
          let named = cell_is.listed.named n o e in
          let d = made_touched n o named (sym (cell_is.listed.finds n named) ∙ e) in
          absurd (let f : true ≡ false = sym d ∙ file in cc f)

  pub final_sound : IsSoundTable final
  final_sound = sound-more all cell all_sound (record {
    sorted = subst (λ (x : Cell). IsTrue (entries_rise x.entries)) (sym here_is) cell_is.merged.sorted;
    children = λ n j e. child_is n j (sym (ap (λ (x : Cell). child n x.entries) here_is) ∙ e);
    file = subst (λ (x : Cell). is_dir_kind x.node.kind ≡ false → x.entries ≡ []) (sym here_is) (λ file. no_file (sym (ap (λ (x : Node). is_dir_kind x.kind) cell_is.node) ∙ file));
    height = subst (λ (x : Cell). x.height ≡ height_over final x.entries) (sym here_is) (cell_is.height ∙ sym (height_over-kept all (cell ∷ []) cell.entries (λ k d less. (child_is _ _ (own_entry cell.entries cell_is.merged.sorted k d less)).lower)));
    since = subst (λ (x : Cell). x.line.since ≤ x.node.created) (sym here_is) (subst (λ (x : Node). cell.line.since ≤ x.created) (sym cell_is.node) (subst (λ (x : Line). x.since ≤ here.node.created) (sym cell_is.line) held.since));
  })

  -- ---- it shows what the edits do

  whole : final ≡ cells ++ (more ++ cell ∷ [])
  whole = append_assoc cells more (cell ∷ [])

  child_new : (n : Name) → is_component n ≡ true → child_in final n (length all) ≡ or_made (made_at made (join_text path n)) (option_and_then (child_in cells n) here.under)
  child_new n named =
      ap (λ (x : Cell). child n x.entries) here_is
      ∙ cell_is.merged.finds n
      ∙ ap (λ m. or_made m (child n (entries_under cells here))) (cell_is.listed.finds n named)
      ∙ ap (or_made (made_at made (join_text path n))) (under_child cells n here.under)

  -- what stands there by the table alone
  by_table : (n : Name) (ns : List Name) → are_names ns ≡ true → touched_at touched (join_text path n) ≡ None → (o : Option ℕ) → ((j : ℕ) → o ≡ Some j → j < length cells)
      → seen final (option_map (spot_in final here.line n) o) ns ≡ option_map held_node (held_from cells touched (join_text path n) (option_map (λ i. held_in cells (below_line here.line n (cell_at cells i).line) i) o) ns)
  by_table n ns names none None bound = seen_none final ns ∙ sym (ap (option_map held_node) (held_none cells touched (join_text path n) ns))
  by_table n ns names none (Some j) bound =
      let low = bound j refl in
      ap (λ xs. seen xs (Some (spot_in xs here.line n j)) ns) whole
      ∙ ap (λ (s : Spot). seen (cells ++ (more ++ cell ∷ [])) (Some s) ns) (spot_in-kept cells sound (more ++ cell ∷ []) here.line n j low)
      ∙ seen-kept cells sound (more ++ cell ∷ []) ns (spot_in cells here.line n j) low
      ∙ sym (untouched rev cells touched sound are ns names (join_text path n) (join-some path n) none (below_line here.line n (cell_at cells j).line) j)

  by_made : (n : Name) (ns : List Name) → is_component n ≡ true → are_names ns ≡ true → (h : Held) (j : ℕ) → touched_at touched (join_text path n) ≡ Some (Some h) → IsMadeAt cells touched all (join_text path n) h j
      → seen final (Some (spot_in final here.line n j)) ns ≡ option_map held_node (held_from cells touched (join_text path n) (Some h) ns)
  by_made n ns named names h j e m =
      let i = in_here n named (Some h) e in
      ap (λ (l : Line). seen final (Some (record { id = j; line = below_line here.line n l })) ns) (ap (λ (x : Cell). x.line) (cell_at-kept all (cell ∷ []) j m.within) ∙ m.line)
      ∙ ap (λ (l : Line). seen final (Some (record { id = j; line = l })) ns) (own_line here.line n h.line (i.since h refl))
      ∙ seen-kept all all_sound (cell ∷ []) ns (record { id = j; line = h.line }) m.within
      ∙ m.shows ns names

  shows_below : (n : Name) (ns : List Name) → is_component n ≡ true → are_names ns ≡ true → seen final (option_map (spot_in final here.line n) (or_made (made_at made (join_text path n)) (option_and_then (child_in cells n) here.under))) ns
      ≡ option_map held_node (held_from cells touched (join_text path n) (or_touched (touched_at touched (join_text path n)) (child_of cells n here)) ns)
  shows_below n ns named names =
      by (touched_at back (join_text path n)) refl (made_at made (join_text path n)) refl (agree (join_text path n))
      ∙ ap (λ t. option_map held_node (held_from cells touched (join_text path n) (or_touched t (child_of cells n here)) ns)) (behind n named)
    where
      by : (t : Option (Option Held)) → touched_at back (join_text path n) ≡ t → (m : Option (Option ℕ)) → made_at made (join_text path n) ≡ m → Agrees cells touched all (join_text path n) t m
          → seen final (option_map (spot_in final here.line n) (or_made m (option_and_then (child_in cells n) here.under))) ns ≡ option_map held_node (held_from cells touched (join_text path n) (or_touched t (child_of cells n here)) ns)
      by None e None f a = by_table n ns names (sym (behind n named) ∙ e) (option_and_then (child_in cells n) here.under) (λ j g. (under_is n j here.under refl g).lower)
      by None e (Some None) f a = absurd a
      by None e (Some (Some m)) f a = absurd a
      by (Some None) e None f a = absurd a
      by (Some None) e (Some None) f a = seen_none final ns ∙ sym (ap (option_map held_node) (held_none cells touched (join_text path n) ns))
      by (Some None) e (Some (Some j)) f a = absurd a
      by (Some (Some h)) e None f a = absurd a
      by (Some (Some h)) e (Some None) f a = absurd a
      by (Some (Some h)) e (Some (Some j)) f a = by_made n ns named names h j (sym (behind n named) ∙ e) a

  shows_all : (ns : List Name) → are_names ns ≡ true → seen final (Some (record { id = length all; line = here.line })) ns ≡ option_map held_node (held_from cells touched path (Some here) ns)
  shows_all [] names = ap (λ (x : Node). let t : TreeNode = record { node = x; line = here.line } in Some t) (ap (λ (x : Cell). x.node) here_is ∙ cell_is.node)
  shows_all (n ∷ ns) names =
      let p = and_parts (is_component n) (are_names ns) names in
      ap (λ o. seen final (option_map (spot_in final here.line n) o) ns) (child_new n p.0) ∙ shows_below n ns p.0 p.1

  pub final_made : IsMadeAt cells touched final path here (length all)
  final_made = record {
    within = omega (arith, length-append all (cell ∷ []));
    node = ap (λ (x : Cell). x.node) here_is ∙ cell_is.node;
    line = ap (λ (x : Cell). x.line) here_is ∙ cell_is.line;
    shows = shows_all;
  }
