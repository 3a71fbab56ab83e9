-- What holds of all trees, as callers see them.
use Rattle.std.proofs.Common.{◌≡◌, ℕ, ◌<◌, ◌≤◌, true, T, List, [], Option, None, Some, length, get_or, refl, sym, ap, subst, ◌∙◌, inl, inr}
use Rattle.std.specs.Prelude.{IsTrue}
use Rattle.std.specs.Option.{option_map}
use Rattle.std.specs.List.{All}
use Rattle.std.specs.FinMap.{find, is_sorted}
use Rattle.std.specs.Cmp.{tied_itself}
use Rattle.std.specs.Cmp.Lexicographic.{slice_cmp, nat_list_cmp_total}
use Rattle.std.specs.Ordering.{nat_cmp}
use Rattle.std.proofs.lemmas.Bool.{cases_lt}
use Rattle.std.proofs.lemmas.List.Elements.{All-nil, All-from_get_or}
use Rattle.dsv_base.specs.Paths.{is_path}
use Rattle.rev_nodes.specs.declared.cell.Cell.{Cell}
use Rattle.rev_nodes.specs.declared.node.Node.{Node}
use Rattle.rev_nodes.specs.Trees.{TreeNode, Tree, at, tree_at, is_dir_kind}
use Rattle.rev_nodes.specs.Forests.{Numbered, Forest, tree_of, places_at, place_at, id_at, line_at, IsId, IsNodeOf}
use Rattle.rev_nodes.specs.Entries.{entries_in, AreEntriesOf, HasNoneInFile, IsSoundPlace, IsSound}
use Rattle.rev_nodes.specs.Formed.{IsFormed, AreFormed}
use Rattle.rev_nodes.specs.Commits.{IsCommitOf, AreCommits}
use Rattle.rev_nodes.specs.SoundNodes.{HasSoundNode, AreSoundNodes}
use Rattle.rev_nodes.proofs.Search.{find_here}
use Rattle.rev_nodes.proofs.Subtrees.{find-tree_of}
use Rattle.node_table.specs.Ways.{names_in}
use Rattle.node_table.specs.Tables.{cell_at, reach}
use Rattle.node_table.specs.Rebuilt.{root_spot}
use Rattle.node_table.specs.Numbers.{numbered}
use Rattle.node_table.specs.Lines.{line_seen, ComeFromPaths}
use Rattle.node_table.proofs.Growing.{reach_within}
use Rattle.node_table.proofs.LineLaws.{come_from_paths, line_is}
use Rattle.node_table.proofs.Numbers.{tree-numbered, sorted-numbered, IsLed, numbered_at, entries_at}
use Rattle.rev_trees.specs.declared.revision.KeptRevision.{KeptRevision}
use Rattle.rev_trees.specs.Kept.{trees_in, forest_of, kept_at, AreKept}
use Rattle.rev_trees.proofs.PlacesFound.{number_is, node_is}
use Rattle.rev_trees.proofs.Viewed.{length-of, nodes-of, commit-of, places-of, places-past}

module _ (name uuid : List ℕ) (cells : List Cell) (rs : List KeptRevision) (room node_room : ℕ) (forest : Forest) (is : forest_of name uuid cells rs room node_room ≡ forest) (kept : AreKept cells rs) where
  -- the root and the tree of a revision
  abbrev root : ℕ → ℕ
  root rev = (kept_at rs rev).root

  abbrev tree : ℕ → Tree
  tree rev = tree_at (trees_in rs) rev

  places : (rev : ℕ) → rev < length rs → places_at forest rev ≡ numbered cells (root rev) (tree rev)
  places rev h = places-of name uuid cells rs room node_room forest is rev h

  no_places : (rev : ℕ) → length rs ≤ rev → places_at forest rev ≡ []
  no_places rev h = places-past name uuid cells rs room node_room forest is rev h

  tree-is : (rev : ℕ) → rev < length rs → tree_of (places_at forest rev) ≡ tree rev
  tree-is rev h = ap tree_of (places rev h) ∙ tree-numbered cells (root rev) (tree rev)

  pub formed-of : AreFormed forest
  formed-of rev below =
      let h : rev < length rs = subst (λ n. rev < n) (length-of name uuid cells rs room node_room forest is) below in
      subst IsFormed (sym (tree-is rev h)) (kept.kept rev h).shown.formed

  pub sound_nodes-of : AreSoundNodes forest
  sound_nodes-of rev = elim (cases_lt rev (length rs)) [
    | inl h ↦ subst (All (HasSoundNode rev)) (sym (tree-is rev h)) (kept.kept rev h).nodes
    | inr past ↦ subst (λ ps. All (HasSoundNode rev) (tree_of ps)) (sym (no_places rev past)) (All-nil (HasSoundNode rev))
  ]

  pub commits-of : AreCommits forest
  commits-of rev below =
      let h : rev < length rs = subst (λ n. rev < n) (length-of name uuid cells rs room node_room forest is) below in
      subst (λ c. IsCommitOf rev c) (sym (commit-of name uuid cells rs room node_room forest is rev h)) (kept.kept rev h).commit_is

  -- a number stands in a revision
  stands_in : (rev : ℕ) (path : List ℕ) (id : ℕ) → id_at forest rev path ≡ Some id → rev < length rs
  stands_in rev path id e = elim (cases_lt rev (length rs)) [
    | inl h ↦ h
    | inr past ↦ absurd (let none = ap (λ (ps : List (List ℕ × Numbered)). option_map (λ (p : Numbered). p.id) (find (slice_cmp nat_cmp) path ps)) (no_places rev past) in cc (none, e))
  ]

  id-in : (rev : ℕ) (path : List ℕ) (id : ℕ) → rev < length rs → id_at forest rev path ≡ Some id → option_map (λ (p : Numbered). p.id) (find (slice_cmp nat_cmp) path (numbered cells (root rev) (tree rev))) ≡ Some id
  id-in rev path id h e = ap (λ (ps : List (List ℕ × Numbered)). option_map (λ (p : Numbered). p.id) (find (slice_cmp nat_cmp) path ps)) (sym (places rev h)) ∙ e

  there : (rev : ℕ) (path : List ℕ) (id : ℕ) → id_at forest rev path ≡ Some id → IsLed cells (root rev) (tree rev) path id
  there rev path id e = let h = stands_in rev path id e in numbered_at cells (root rev) (tree rev) (kept.kept rev h).shown path id (id-in rev path id h e)

  -- a number is one of the table
  pub id_below : (id : ℕ) → IsId forest id → id < length cells
  id_below id i = reach_within cells kept.sound (names_in i.1) (root i.0) id (kept.kept i.0 (stands_in i.0 i.1 id i.2)).within (there i.0 i.1 id i.2).led

  pub number_below : (id : ℕ) → IsId forest id → id < length forest.nodes
  number_below id i = subst (λ (cs : List Cell). id < length cs) (sym (nodes-of name uuid cells rs room node_room forest is)) (id_below id i)

  pub node-of : (id : ℕ) → IsNodeOf forest id (cell_at cells id).node
  node-of id rev path e =
      let h = stands_in rev path id e in
      ap (λ (ps : List (List ℕ × Numbered)). option_map (λ (p : Numbered). p.here.node) (find (slice_cmp nat_cmp) path ps)) (places rev h)
      ∙ node_is cells (root rev) (tree rev) (kept.kept rev h).shown path id (id-in rev path id h e)

  pub look-of : (rev : ℕ) (path : List ℕ) → rev < length rs → is_path path ≡ true → reach cells (Some (root rev)) (names_in path) ≡ id_at forest rev path
  look-of rev path h one =
      number_is cells (root rev) (tree rev) (kept.kept rev h).shown path one
      ∙ ap (λ (ps : List (List ℕ × Numbered)). option_map (λ (p : Numbered). p.id) (find (slice_cmp nat_cmp) path ps)) (sym (places rev h))

  pub paths-of : (rev : ℕ) → rev < length rs → ComeFromPaths cells (root_spot cells (root rev))
  paths-of rev h = come_from_paths cells (root rev) (tree rev) (kept.kept rev h).shown kept.sound rev (kept.kept rev h).nodes

  pub line-of : (rev : ℕ) (path : List ℕ) → rev < length rs → is_path path ≡ true → line_seen cells (root_spot cells (root rev)) (names_in path) ≡ line_at forest rev path
  line-of rev path h one =
      line_is cells (root rev) (tree rev) (kept.kept rev h).shown path one
      ∙ ap (λ (t : Tree). option_map (λ (found : TreeNode). found.line) (at path t)) (sym (tree-is rev h))
      ∙ ap (option_map (λ (found : TreeNode). found.line)) (find-tree_of (places_at forest rev) path)
      ∙ lines (place_at forest rev path)
    where
      lines : (o : Option Numbered) → option_map (λ (found : TreeNode). found.line) (option_map (λ (p : Numbered). p.here) o) ≡ option_map (λ (p : Numbered). p.here.line) o
      lines None = refl
      lines (Some p) = refl

  -- ---- places are sound

  sorted_places : (rev : ℕ) → IsTrue (is_sorted (slice_cmp nat_cmp) (places_at forest rev))
  sorted_places rev = elim (cases_lt rev (length rs)) [
    | inl h ↦ ap (is_sorted (slice_cmp nat_cmp)) (places rev h) ∙ sorted-numbered cells (root rev) (tree rev) ∙ (kept.kept rev h).sorted
    | inr past ↦ ap (is_sorted (slice_cmp nat_cmp)) (no_places rev past)
  ]

  abbrev nowhere : List ℕ × Numbered
  nowhere = ([], record { id = 0; here = record { node = (cell_at [] 0).node; line = (cell_at [] 0).line } })

  sound_at : (rev i : ℕ) → i < length (places_at forest rev) → IsSoundPlace forest rev (get_or (places_at forest rev) i nowhere)
  sound_at rev i h =
      let found = find_here (slice_cmp nat_cmp) nat_list_cmp_total (get_or (places_at forest rev) i nowhere).0 (places_at forest rev) i nowhere (subst T (sym (sorted_places rev)) tt) h (tied_itself nat_list_cmp_total (get_or (places_at forest rev) i nowhere).0) in
      record {
        found = found;
        path = path (get_or (places_at forest rev) i nowhere).0 (get_or (places_at forest rev) i nowhere).1 found;
      }
    where
      path : (p : List ℕ) (n : Numbered) → find (slice_cmp nat_cmp) p (places_at forest rev) ≡ Some n → is_path p ≡ true
      path p n e = (there rev p n.id (ap (option_map (λ (q : Numbered). q.id)) e)).path_is

  sound_places : (rev : ℕ) → All (IsSoundPlace forest rev) (places_at forest rev)
  sound_places rev = All-from_get_or (IsSoundPlace forest rev) (places_at forest rev) nowhere (sound_at rev)

  pub entries-of : (id : ℕ) → AreEntriesOf forest id (cell_at cells id).entries
  entries-of id rev path e =
      let h = stands_in rev path id e in
      entries_at cells (root rev) (tree rev) (kept.kept rev h).shown kept.sound (kept.kept rev h).sorted path id (there rev path id e)
      ∙ ap (entries_in path) (sym (places rev h))

  pub sound-of : IsSound forest
  sound-of = record {
    sorted = sorted_places;
    places = sound_places;
    alike = λ rev path other place id e f. record {
      nodes = node-of id rev path e ∙ sym (node-of id other place f);
      entries = sym (entries-of id rev path e) ∙ entries-of id other place f;
    };
  }

  -- a file has no entries
  pub none-of : (id : ℕ) → HasNoneInFile forest id (cell_at cells id).entries
  none-of id rev path node e found file =
      let same : node ≡ (cell_at cells id).node = one (sym found ∙ node-of id rev path e) in
      (kept.sound id).file (ap (λ (n : Node). is_dir_kind n.kind) (sym same) ∙ ap is_dir_kind file)
    where
      one : {a b : Node} → Some a ≡ Some b → a ≡ b
      one e = cc
