-- Drafts over trees that grow.
use Rattle.std.proofs.Common.{◌≡◌, ℕ, ◌<◌, ◌≤◌, true, false, ◌||◌, nat_eq, nat_lt, List, [], ◌∷◌, ◌++◌, Option, None, Some, Result, Ok, length, map, refl, sym, ap, subst, ◌∙◌, append_assoc, append-nil, arith, length-append}
use Rattle.std.specs.Prelude.{if◌then◌else◌, MatchBool}
use Rattle.std.specs.Option.{option_map}
use Rattle.std.proofs.lemmas.Bool.Decides.{nat_tests}
use Rattle.dsv_base.specs.Paths.{is_path}
use Rattle.rev_nodes.specs.declared.cell.Cell.{Cell}
use Rattle.rev_nodes.specs.declared.change.Change.{Change}
use Rattle.rev_nodes.specs.declared.unfit.Unfit.{Unfit}
use Rattle.rev_nodes.specs.Trees.{TreeNode, Tree, at, tree_at}
use Rattle.rev_nodes.specs.Changes.{unfit, apply, apply_from}
use Rattle.rev_nodes.specs.Fitting.{is_want, Fits}
use Rattle.rev_nodes.specs.Forests.{ForestRevision, Forest, tree_of, without_numbers}
use Rattle.rev_nodes.specs.Formed.{IsFormed}
use Rattle.rev_nodes.specs.Pushes.{trees_of}
use Rattle.rev_nodes.specs.Drafts.{coming, draft_tree, is_made_in}
use Rattle.rev_nodes.proofs.Marks.{same_fault}
use Rattle.rev_nodes.proofs.NodesSound.{sound-found}
use Rattle.rev_nodes.proofs.Drafting.{change_touches, one_more, draft_later}
use Rattle.node_table.specs.Ways.{names_in}
use Rattle.node_table.specs.Tables.{IsSoundTable}
use Rattle.node_table.specs.Rebuilt.{IsLonger}
use Rattle.node_table.specs.Shown.{IsShown}
use Rattle.node_table.specs.Steps.{AreSources}
use Rattle.node_table.proofs.PathNames.{names_of_path}
use Rattle.tree_edits.specs.declared.held.Held.{Held}
use Rattle.tree_edits.specs.Edits.{EditedTree, held, held_node, AreShown}
use Rattle.tree_edits.specs.AreEdits.{AreEdits}
use Rattle.tree_edits.specs.Reading.{glance_of}
use Rattle.tree_edits.specs.Applied.{Applies}
use Rattle.tree_edits.proofs.Grown.{are_grown, shown_grown}
use Rattle.rev_trees.specs.declared.seen.Seen.{Seen}
use Rattle.rev_trees.specs.declared.revision.KeptRevision.{KeptRevision}
use Rattle.rev_trees.specs.Readies.{ReadyRevision, IsUnchanged, Pushes}
use Rattle.rev_trees.specs.Kept.{tree_or_none, trees_in, forest_of, kept_at, source_in, AreKept}
use Rattle.rev_trees.specs.Drafts.{DraftOn, IsGrown, flat_trees, drafted, seen_at, seen_glance, AreKeptIn, IsDraft}
use Rattle.rev_trees.proofs.Applied.{are_sources, has_source}
use Rattle.rev_trees.proofs.Untouched.{untouched, shows_tree}
use Rattle.rev_trees.proofs.Viewed.{length-of, nodes-of, trees-are, count-plain, count-trees}

-- ---- trees that grow

pub grown_itself : (forest : Forest) → IsGrown forest forest
grown_itself forest = record { later = []; revisions = sym (append-nil forest.revisions); more = []; nodes = sym (append-nil forest.nodes) }

pub grown_same : (old new : Forest) → old ≡ new → IsGrown old new
grown_same old new is = subst (λ (forest : Forest). IsGrown old forest) is (grown_itself old)

pub grown_further : (old new last : Forest) → IsGrown old new → IsGrown new last → IsGrown old last
grown_further old new last one two = record {
  later = one.later ++ two.later;
  revisions = two.revisions ∙ ap (λ (rs : List ForestRevision). rs ++ two.later) one.revisions ∙ append_assoc old.revisions one.later two.later;
  more = one.more ++ two.more;
  nodes = two.nodes ∙ ap (λ (cells : List Cell). cells ++ two.more) one.nodes ∙ append_assoc old.nodes one.more two.more;
}

-- they don't where they stay as they are
pub grown_unchanged : (old new : Forest) → IsUnchanged old new → IsGrown old new
grown_unchanged old new same = let g = grown_itself old in record { later = g.later; revisions = same.revisions ∙ g.revisions; more = g.more; nodes = same.nodes ∙ g.nodes }

-- they do by a push
pub grown_pushed : (ready : ReadyRevision) (old new : Forest) → Pushes ready old new → IsGrown old new
grown_pushed ready old new pushes = record { later = pushes.revision ∷ []; revisions = pushes.revisions; more = pushes.more; nodes = pushes.nodes }

-- ---- a draft among more trees

trees-append : (rs more : List ForestRevision) → trees_of (map without_numbers (rs ++ more)) ≡ trees_of (map without_numbers rs) ++ trees_of (map without_numbers more)
trees-append [] more = refl
trees-append (r ∷ rs) more = ap (λ (ts : List Tree). tree_of r.places ∷ ts) (trees-append rs more)

module _ (old new : Forest) (grown : IsGrown old new) where
  within_grown : (base : ℕ) → base < length old.revisions → base < length new.revisions
  within_grown base h =
      let n = ap (λ (rs : List ForestRevision). length rs) grown.revisions in
      omega (arith, n, length-append old.revisions grown.later, h)

  trees_grown : flat_trees new ≡ flat_trees old ++ trees_of (map without_numbers grown.later)
  trees_grown = ap (λ (rs : List ForestRevision). trees_of (map without_numbers rs)) grown.revisions ∙ trees-append old.revisions grown.later

  tree_grown : (base : ℕ) (changes : List Change) (tree : Tree) → base < length old.revisions → draft_tree (flat_trees old) base changes ≡ Ok tree → draft_tree (flat_trees new) base changes ≡ Ok tree
  tree_grown base changes tree h is =
      let n = count-trees (map without_numbers old.revisions) ∙ count-plain old.revisions in
      ap (λ (ts : List Tree). draft_tree ts base changes) trees_grown
      ∙ draft_later (flat_trees old) (trees_of (map without_numbers grown.later)) base changes tree (omega (arith, n, h)) is

  longer : IsLonger old.nodes new.nodes
  longer = record { more = grown.more; is = grown.nodes }

  pub draft_grown : IsSoundTable new.nodes → (base : ℕ) (changes : List Change) (edits : EditedTree) → IsDraft old base changes edits → IsDraft new base changes edits
  draft_grown sound base changes edits d = record {
    within = within_grown base d.within;
    are = are_grown old.nodes new.nodes longer coming edits sound d.are;
    tree = d.tree;
    is = tree_grown base changes d.tree d.within d.is;
    shown = shown_grown old.nodes new.nodes longer coming edits d.are d.tree d.shown;
    tells = d.tells;
  }

-- a draft by what it is made of
abbrev pub inside : Forest → ℕ → List Change → DraftOn
inside trees base changes = record { trees = trees; base = base; changes = changes }

-- ---- what a draft shows

module _ (trees : Forest) (base : ℕ) (changes : List Change) (edits : EditedTree) (draft : DraftOn) (is : inside trees base changes ≡ draft) (made : IsDraft trees base changes edits) (now : Forest) (grown : IsGrown draft.trees now) (sound : IsSoundTable now.nodes) where
  pub here_now : IsDraft now base changes edits
  here_now = draft_grown trees now (subst (λ (q : DraftOn). IsGrown q.trees now) (sym is) grown) sound base changes edits made

  pub drafted_is : drafted now draft ≡ here_now.tree
  drafted_is = ap (drafted now) (sym is) ∙ ap tree_or_none here_now.is

  pub learned_fit : draft_tree (flat_trees now) draft.base draft.changes ≡ Ok (drafted now draft)
  learned_fit = ap (λ (q : DraftOn). draft_tree (flat_trees now) q.base q.changes) (sym is) ∙ here_now.is ∙ ap (λ (t : Tree). Ok t) (sym drafted_is)

  pub learned_form : IsFormed (drafted now draft)
  learned_form = subst IsFormed (sym drafted_is) here_now.shown.formed

  -- what a glance at its edits tells
  pub looks : (path : List ℕ) → is_path path ≡ true → option_map seen_glance (option_map glance_of (held now.nodes edits (names_in path))) ≡ option_map (seen_at path draft.changes) (at path (drafted now draft))
  looks path one =
      by (held now.nodes edits (names_in path)) refl
      ∙ ap (λ (q : DraftOn). option_map (seen_at path q.changes) (at path here_now.tree)) is
      ∙ ap (λ (t : Tree). option_map (seen_at path draft.changes) (at path t)) (sym drafted_is)
    where
      here : at path here_now.tree ≡ option_map held_node (held now.nodes edits (names_in path))
      here = let n = names_of_path path one in ap (λ p. at p here_now.tree) (sym n.path) ∙ here_now.shown.shows (names_in path) n.names

      by : (o : Option Held) → held now.nodes edits (names_in path) ≡ o → option_map seen_glance (option_map glance_of o) ≡ option_map (seen_at path changes) (at path here_now.tree)
      by None e = sym (ap (option_map (seen_at path changes)) (here ∙ ap (option_map held_node) e))
      by (Some h) e =
          let there : at path here_now.tree ≡ Some (held_node h) = here ∙ ap (option_map held_node) e in
          ap (λ b. let s : Seen = record { kind = h.node.kind; created = if b then None else Some h.node.created } in Some s) (sym (here_now.tells path (held_node h) there))
          ∙ sym (ap (option_map (seen_at path changes)) there)

-- ---- the beginning

-- a number is left
pub few_from : (n : ℕ) → nat_lt coming n ≡ false → n ≤ coming
few_from n low = grind (arith, nat_tests)

-- the revisions that trees keep are theirs
pub kept_in : (name uuid : List ℕ) (cells : List Cell) (rs : List KeptRevision) (room node_room : ℕ) (forest : Forest) → forest_of name uuid cells rs room node_room ≡ forest → AreKept cells rs → (same : List KeptRevision) → same ≡ rs → AreKeptIn forest same
kept_in name uuid cells rs room node_room forest is kept same same_is = subst (λ (qs : List KeptRevision). AreKeptIn forest qs) (sym same_is) (record {
  kept = subst (λ (cs : List Cell). AreKept cs rs) (sym (nodes-of name uuid cells rs room node_room forest is)) kept;
  trees = trees-are name uuid cells rs room node_room forest is;
  count = length-of name uuid cells rs room node_room forest is;
})

module _ (forest : Forest) (rs : List KeptRevision) (kept : AreKeptIn forest rs) where
  pub sources : AreSources (flat_trees forest)
  sources = subst AreSources (sym kept.trees) (are_sources forest.nodes rs kept.kept)

  pub begun : (base : ℕ) → base < length forest.revisions → length forest.revisions ≤ coming → (edits : EditedTree) → edits ≡ untouched (kept_at rs base).root → IsDraft forest base [] edits
  unfolding apply_from
  begun base h few edits is =
      let n = kept.count in
      let k = kept.kept.kept base (omega (arith, n, h)) in
      let young = k.created in
      let tree_is : tree_at (trees_in rs) base ≡ tree_at (flat_trees forest) base = ap (λ (ts : List Tree). tree_at ts base) (sym kept.trees) in
      record {
        within = h;
        are = subst (λ (e : EditedTree). AreEdits coming forest.nodes e) (sym is) (record {
          sound = kept.kept.sound;
          within = k.within;
          young = omega (arith, young, h, few);
          touched = record { sorted = refl; placed = λ path edit e. absurd (cc e); held = λ path here e. absurd (cc e) };
        });
        tree = tree_at (flat_trees forest) base;
        is = refl;
        shown = shows_tree forest.nodes (kept_at rs base).root (tree_at (flat_trees forest) base) edits is (subst (λ (t : Tree). IsShown forest.nodes (kept_at rs base).root t) tree_is k.shown);
        tells = λ path found e.
            let s = sound-found base path (tree_at (trees_in rs) base) found k.nodes (ap (at path) tree_is ∙ e) in
            let created = s.created in
            let since = s.since in
            untouched_so found (omega (arith, created, h, few)) (omega (arith, since, h, few));
      }
    where
      not_it : (n : ℕ) → n < coming → nat_eq n coming ≡ false
      not_it n less = grind (arith, nat_tests)

      untouched_so : (found : TreeNode) → found.node.created < coming → found.line.since < coming → false ≡ is_made_in coming found
      untouched_so found created since = λ i. sym (not_it found.node.created created) i || sym (not_it found.line.since since) i

-- ---- one change more

-- what a change of edits says of the tree that they show
pub change_says : {X : Type 0} (cells : List Cell) (rs : List KeptRevision) → AreKept cells rs → (change : Change) (old new : EditedTree) (r : ℕ) → r ≡ coming → (from : Option ℕ) → from ≡ source_in rs change → (result : Result X Unfit) → Applies r change cells old new from result → (tree : Tree) → AreShown cells old tree → Fits (λ done. AreShown cells new (apply change (trees_in rs) tree coming)) (unfit change (trees_in rs) tree) result
change_says cells rs kept change old new r r_is from from_is result says tree shown =
    subst (λ (n : ℕ). Applies n change cells old new (source_in rs change) result) r_is (subst (λ (o : Option ℕ). Applies r change cells old new o result) from_is says)
    (trees_in rs) tree (are_sources cells rs kept) shown (has_source cells rs kept change)

module _ (trees : Forest) (base : ℕ) (changes : List Change) (old : EditedTree) (draft : DraftOn) (is : inside trees base changes ≡ draft) (made : IsDraft trees base changes old) (now : Forest) (grown : IsGrown draft.trees now) (rs : List KeptRevision) (kept : AreKeptIn now rs) where
  -- the draft as it is among these trees
  pub draft_now : IsDraft now base changes old
  draft_now = here_now trees base changes old draft is made now grown kept.kept.sound

  why_is : (change : Change) → unfit change (flat_trees now) (drafted now draft) ≡ unfit change (trees_in rs) draft_now.tree
  unfolding draft_now
  why_is change = λ i. unfit change (kept.trees i) (drafted_is trees base changes old draft is made now grown kept.kept.sound i)

  pub fails_as : (change : Change) (why : Unfit) → MatchBool (is_want why) (Unit {0}) (unfit change (trees_in rs) draft_now.tree ≡ Some why) → MatchBool (is_want why) (Unit {0}) (unfit change (flat_trees now) (drafted now draft) ≡ Some why)
  fails_as change why = same_fault (unfit change (trees_in rs) draft_now.tree) (unfit change (flat_trees now) (drafted now draft)) why (why_is change)

  pub fits_as : (change copy : Change) (at_last : Forest) (all : List Change) → unfit change (trees_in rs) draft_now.tree ≡ None → at_last ≡ now → all ≡ changes ++ copy ∷ [] → copy ≡ change → (unfit change (flat_trees now) (drafted now draft) ≡ None) × (inside at_last base all ≡ inside now draft.base (draft.changes ++ change ∷ []))
  fits_as change copy at_last all fits last_is all_are same = (
    why_is change ∙ fits,
    (λ i. inside (last_is i) base ((all_are ∙ ap (λ (c : Change). changes ++ c ∷ []) same) i)) ∙ ap (λ (q : DraftOn). inside now q.base (q.changes ++ change ∷ [])) is,
  )

  pub changed_so : (change copy : Change) (new : EditedTree) (at_last : Forest) (all : List Change) → AreEdits coming now.nodes new → unfit change (trees_in rs) draft_now.tree ≡ None → AreShown now.nodes new (apply change (trees_in rs) draft_now.tree coming) → at_last ≡ now → all ≡ changes ++ copy ∷ [] → copy ≡ change → IsDraft at_last base all new
  changed_so change copy new at_last all are fits shown last_is all_are same =
      let fits_flat : unfit change (flat_trees now) draft_now.tree ≡ None = ap (λ (ts : List Tree). unfit change ts draft_now.tree) kept.trees ∙ fits in
      let from = sources now rs kept in
      subst (λ (f : Forest). IsDraft f base all new) (sym last_is)
      (subst (λ (cs : List Change). IsDraft now base cs new) (sym (all_are ∙ ap (λ (c : Change). changes ++ c ∷ []) same)) (record {
        within = draft_now.within;
        are = are;
        tree = apply change (flat_trees now) draft_now.tree coming;
        is = one_more changes 0 coming (flat_trees now) (tree_at (flat_trees now) base) draft_now.tree change draft_now.is fits_flat;
        shown = subst (λ (ts : List Tree). AreShown now.nodes new (apply change ts draft_now.tree coming)) (sym kept.trees) shown;
        tells = change_touches coming (flat_trees now) from.sorted from.formed draft_now.tree draft_now.shown.formed changes draft_now.tells change fits_flat;
      }))
