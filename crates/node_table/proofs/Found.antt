-- What a flat tree has where the names of a path lead to a number.
use Rattle.std.proofs.Common.{◌≡◌, ℕ, true, List, Option, None, Some, refl, sym, ap, ◌∙◌}
use Rattle.std.specs.Option.{option_map}
use Rattle.dsv_base.specs.Paths.{is_path}
use Rattle.rev_nodes.specs.declared.cell.Cell.{Cell}
use Rattle.rev_nodes.specs.Trees.{TreeNode, Tree, at}
use Rattle.node_table.specs.Ways.{Name, names_in}
use Rattle.node_table.specs.Tables.{cell_at, reach, Spot, walk, spot_node}
use Rattle.node_table.specs.Rebuilt.{root_spot}
use Rattle.node_table.specs.Shown.{ShowsAll}
use Rattle.node_table.proofs.PathNames.{names_of_path}
use Rattle.node_table.proofs.Growing.{walk-reach}

pub record HasSpot (cells : List Cell) (root : ℕ) (ns : List Name) (id : ℕ) : Type 0 where
  pub spot : Spot
  pub is : walk cells (Some (root_spot cells root)) ns ≡ Some spot
  pub id_is : spot.id ≡ id

pub spot_of : (cells : List Cell) (root : ℕ) (ns : List Name) (id : ℕ) → reach cells (Some root) ns ≡ Some id → HasSpot cells root ns id
spot_of cells root ns id e = by (walk cells (Some (root_spot cells root)) ns) refl (walk-reach cells ns (Some (root_spot cells root)) ∙ e)
  where
    by : (o : Option Spot) → walk cells (Some (root_spot cells root)) ns ≡ o → option_map (λ (s : Spot). s.id) o ≡ Some id → HasSpot cells root ns id
    by None f g = absurd (cc g)
    by (Some s) f g = record { spot = s; is = f; id_is = let t : s.id ≡ id = cc in t }

pub no_spot : (cells : List Cell) (root : ℕ) (ns : List Name) → reach cells (Some root) ns ≡ None → walk cells (Some (root_spot cells root)) ns ≡ None
no_spot cells root ns e = by (walk cells (Some (root_spot cells root)) ns) (walk-reach cells ns (Some (root_spot cells root)) ∙ e)
  where
    by : (o : Option Spot) → option_map (λ (s : Spot). s.id) o ≡ None → o ≡ None
    by None g = refl
    by (Some s) g = absurd (cc g)

module _ (cells : List Cell) (root : ℕ) (tree : Tree) (shown : ShowsAll cells root tree) where
  pub record IsFoundAs (path : List ℕ) (id : ℕ) : Type 0 where
    pub found : TreeNode
    pub at_path : at path tree ≡ Some found
    pub node : found.node ≡ (cell_at cells id).node

  module _ (path : List ℕ) (one : is_path path ≡ true) where
    pub found_as : (id : ℕ) → reach cells (Some root) (names_in path) ≡ Some id → IsFoundAs path id
    found_as id e =
        let n = names_of_path path one in
        let s = spot_of cells root (names_in path) id e in
        record {
          found = spot_node cells s.spot;
          at_path = ap (λ p. at p tree) (sym n.path) ∙ shown (names_in path) n.names ∙ ap (option_map (spot_node cells)) s.is;
          node = ap (λ (k : ℕ). (cell_at cells k).node) s.id_is;
        }

    pub none_at : reach cells (Some root) (names_in path) ≡ None → at path tree ≡ None
    none_at e =
        let n = names_of_path path one in
        ap (λ p. at p tree) (sym n.path) ∙ shown (names_in path) n.names ∙ ap (option_map (spot_node cells)) (no_spot cells root (names_in path) e)
