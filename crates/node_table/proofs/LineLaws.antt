-- The lines that are seen are those of the tree that a root shows.
use Rattle.std.proofs.Common.{◌≡◌, ℕ, true, List, [], ◌∷◌, Option, None, Some, refl, sym, ap, subst, ◌∙◌}
use Rattle.std.specs.List.{All}
use Rattle.std.specs.Option.{option_map}
use Rattle.std.proofs.lemmas.Bool.{and_from}
use Rattle.dsv_base.specs.Paths.{root_text, is_path}
use Rattle.rev_nodes.specs.declared.cell.Cell.{Cell}
use Rattle.rev_nodes.specs.declared.line.Line.{Line}
use Rattle.rev_nodes.specs.Trees.{TreeNode, Tree, at}
use Rattle.rev_nodes.specs.SoundNodes.{is_from_path, HasSoundNode}
use Rattle.rev_nodes.proofs.NodesSound.{sound-found}
use Rattle.rev_nodes.specs.Subtrees.{path_below}
use Rattle.node_table.specs.Ways.{Name, are_names, names_in}
use Rattle.node_table.specs.Tables.{below_line, cell_at, child_in, Spot, spot_in, walk, spot_node, IsSoundTable}
use Rattle.node_table.specs.Rebuilt.{root_spot}
use Rattle.node_table.specs.Shown.{IsShown}
use Rattle.node_table.specs.Lines.{line_seen, ComeFromPaths}
use Rattle.node_table.proofs.PathNames.{names_of_path}
use Rattle.node_table.proofs.Growing.{walk_none}

-- ---- one name down

pub no_line : (cells : List Cell) (spot : Spot) (n : Name) (ns : List Name) → child_in cells n spot.id ≡ None → line_seen cells spot (n ∷ ns) ≡ None
no_line cells spot n ns e =
    ap (λ o. option_map (λ (s : Spot). s.line) (walk cells (option_map (spot_in cells spot.line n) o) ns)) e
    ∙ ap (option_map (λ (s : Spot). s.line)) (walk_none cells ns)

pub line_next : (cells : List Cell) (spot : Spot) (n : Name) (ns : List Name) (i : ℕ) → child_in cells n spot.id ≡ Some i → line_seen cells spot (n ∷ ns) ≡ line_seen cells (spot_in cells spot.line n i) ns
line_next cells spot n ns i e = ap (λ o. option_map (λ (s : Spot). s.line) (walk cells (option_map (spot_in cells spot.line n) o) ns)) e

pub paths_next : (cells : List Cell) (spot : Spot) (n : Name) (i : ℕ) → child_in cells n spot.id ≡ Some i → ComeFromPaths cells spot → ComeFromPaths cells (spot_in cells spot.line n i)
paths_next cells spot n i e paths ns s w = paths (n ∷ ns) s (ap (λ o. walk cells (option_map (spot_in cells spot.line n) o) ns) e ∙ w)

-- ---- for the code

module _ (cells : List Cell) (id : ℕ) (line : Line) (n : Name) where
  abbrev here : Spot
  here = record { id = id; line = line }

  pub none_seen : (rest ns : List Name) → ns ≡ n ∷ rest → child_in cells n id ≡ None → None ≡ line_seen cells here ns
  none_seen rest ns cut e = sym (ap (line_seen cells here) cut ∙ no_line cells here n rest e)

  module _ (i : ℕ) (e : child_in cells n id ≡ Some i) (paths : ComeFromPaths cells here) (cell : Cell) (cell_is : cell ≡ cell_at cells i) where
    pub path_there : is_from_path (below_line line n cell.line).source ≡ true
    path_there = ap (λ (c : Cell). is_from_path (below_line line n c.line).source) cell_is ∙ paths_next cells here n i e paths [] (spot_in cells line n i) refl

    pub paths_there : (own : Line) → own ≡ below_line line n cell.line → ComeFromPaths cells (let s : Spot = record { id = i; line = own } in s)
    paths_there own own_is = subst (λ (l : Line). ComeFromPaths cells (let s : Spot = record { id = i; line = l } in s)) (sym (own_is ∙ ap (λ (c : Cell). below_line line n c.line) cell_is)) (paths_next cells here n i e paths)

-- ---- by the tree that is shown

-- names that lead somewhere are names of a path
pub names_led : (cells : List Cell) → IsSoundTable cells → (ns : List Name) (spot s : Spot) → walk cells (Some spot) ns ≡ Some s → are_names ns ≡ true
names_led cells sound [] spot s e = refl
names_led cells sound (n ∷ ns) spot s e = by (child_in cells n spot.id) refl e (λ next g. names_led cells sound ns next s g)
  where
    by : (o : Option ℕ) → child_in cells n spot.id ≡ o → walk cells (option_map (spot_in cells spot.line n) o) ns ≡ Some s → ((next : Spot) → walk cells (Some next) ns ≡ Some s → are_names ns ≡ true) → are_names (n ∷ ns) ≡ true
    by None f g go = absurd (let w = sym (walk_none cells ns) ∙ g in cc w)
    by (Some i) f g go = and_from _ _ ((sound spot.id).children n i f).name (go (spot_in cells spot.line n i) g)

module _ (cells : List Cell) (root : ℕ) (tree : Tree) (is : IsShown cells root tree) where
  -- a tree of sound nodes has lines that began at paths
  pub come_from_paths : IsSoundTable cells → (r : ℕ) → All (HasSoundNode r) tree → ComeFromPaths cells (root_spot cells root)
  come_from_paths sound r nodes ns s w =
      let there : at (path_below root_text ns) tree ≡ Some (spot_node cells s) = is.shown ns (names_led cells sound ns (root_spot cells root) s w) ∙ ap (option_map (spot_node cells)) w in
      (sound-found r (path_below root_text ns) tree (spot_node cells s) nodes there).path

  -- the line that is seen at a path is that of the tree
  pub line_is : (path : List ℕ) → is_path path ≡ true → line_seen cells (root_spot cells root) (names_in path) ≡ option_map (λ (found : TreeNode). found.line) (at path tree)
  line_is path one =
      let n = names_of_path path one in
      by (walk cells (Some (root_spot cells root)) (names_in path))
      ∙ ap (option_map (λ (found : TreeNode). found.line)) (sym (is.shown (names_in path) n.names))
      ∙ ap (λ p. option_map (λ (found : TreeNode). found.line) (at p tree)) n.path
    where
      by : (o : Option Spot) → option_map (λ (s : Spot). s.line) o ≡ option_map (λ (found : TreeNode). found.line) (option_map (spot_node cells) o)
      by None = refl
      by (Some s) = refl
