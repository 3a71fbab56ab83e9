-- What is found among the places of a root's tree, with their numbers.
use Rattle.std.proofs.Common.{◌≡◌, ℕ, ◌<◌, true, List, [], ◌∷◌, ◌++◌, Option, None, Some, length, refl, sym, ap, ◌∙◌}
use Rattle.std.specs.Option.{option_map, option_map_or}
use Rattle.std.specs.FinMap.{find}
use Rattle.std.specs.Ordering.{nat_cmp}
use Rattle.std.specs.Cmp.Lexicographic.{slice_cmp}
use Rattle.dsv_base.specs.Paths.{is_path}
use Rattle.rev_nodes.specs.declared.cell.Cell.{Cell}
use Rattle.rev_nodes.specs.Trees.{TreeNode, Tree, at}
use Rattle.rev_nodes.specs.Forests.{Numbered}
use Rattle.node_table.specs.Ways.{names_in}
use Rattle.node_table.specs.Tables.{cell_at, reach, IsSoundTable}
use Rattle.node_table.specs.Shown.{IsShown}
use Rattle.node_table.specs.Numbers.{number_at, numbered}
use Rattle.node_table.proofs.Found.{found_as, none_at}
use Rattle.node_table.proofs.Growing.{reach-kept}
use Rattle.node_table.proofs.Numbers.{find-numbered, numbered_at}

-- the number of a path, with the node there
abbrev with_number : List Cell → ℕ → List ℕ → TreeNode → Numbered
with_number cells root path found = record { id = number_at cells root path; here = found }

module _ (cells : List Cell) (root : ℕ) (tree : Tree) (shown : IsShown cells root tree) where
  -- the number that a path's names lead to is that of the place
  pub number_is : (path : List ℕ) → is_path path ≡ true → reach cells (Some root) (names_in path) ≡ option_map (λ (p : Numbered). p.id) (find (slice_cmp nat_cmp) path (numbered cells root tree))
  number_is path one = by (reach cells (Some root) (names_in path)) refl ∙ sym (ap (option_map (λ (p : Numbered). p.id)) (find-numbered cells root path tree))
    where
      by : (o : Option ℕ) → reach cells (Some root) (names_in path) ≡ o → reach cells (Some root) (names_in path) ≡ option_map (λ (p : Numbered). p.id) (option_map (with_number cells root path) (at path tree))
      by None e = e ∙ sym (ap (λ (a : Option TreeNode). option_map (λ (p : Numbered). p.id) (option_map (with_number cells root path) a)) (none_at cells root tree shown.shown path one e))
      by (Some id) e =
          let f = found_as cells root tree shown.shown path one id e in
          e ∙ sym (ap (λ (o : Option ℕ). Some (option_map_or (λ (i : ℕ). i) o 0)) e) ∙ sym (ap (λ (a : Option TreeNode). option_map (λ (p : Numbered). p.id) (option_map (with_number cells root path) a)) f.at_path)

  -- the node that stands where a number does
  pub node_is : (path : List ℕ) (id : ℕ) → option_map (λ (p : Numbered). p.id) (find (slice_cmp nat_cmp) path (numbered cells root tree)) ≡ Some id → option_map (λ (p : Numbered). p.here.node) (find (slice_cmp nat_cmp) path (numbered cells root tree)) ≡ Some (cell_at cells id).node
  node_is path id e =
      let s = numbered_at cells root tree shown path id e in
      ap (option_map (λ (p : Numbered). p.here.node)) (find-numbered cells root path tree ∙ ap (option_map (with_number cells root path)) s.there) ∙ ap (λ n. Some n) s.node

-- a longer table has the same numbers
module _ (cells more : List Cell) (sound : IsSoundTable cells) (root : ℕ) (within : root < length cells) where
  number_at-kept : (path : List ℕ) → number_at (cells ++ more) root path ≡ number_at cells root path
  number_at-kept path = ap (λ (o : Option ℕ). option_map_or (λ (i : ℕ). i) o 0) (reach-kept cells sound more (names_in path) root within)

  pub numbered-kept : (tree : Tree) → numbered (cells ++ more) root tree ≡ numbered cells root tree
  numbered-kept [] = refl
  numbered-kept (p ∷ ps) = λ i. (p.0, record { id = number_at-kept p.0 i; here = p.1 }) ∷ numbered-kept ps i
