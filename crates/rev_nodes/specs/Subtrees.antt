-- What equal numbers say of all that stands below them.
use Rattle.std.specs.Prelude.{ℕ, ◌≡◌, List, [], ◌∷◌, Some, IsTrue}
use Rattle.std.specs.List.{list_all}
use Rattle.dsv_base.specs.Paths.{is_component, join_text}
use Rattle.rev_nodes.specs.Forests.{Forest, id_at, node_at}

-- the path to which names lead from a path
abbrev pub path_below : List ℕ → List (List ℕ) → List ℕ
path_below path [] = path
path_below path (name ∷ names) = path_below (join_text path name) names

-- names lead from both to nodes of one number, or from neither to any, and the nodes are the same
pub record AreSameBelow (forest : Forest) (rev : ℕ) (path : List ℕ) (other : ℕ) (there : List ℕ) (names : List (List ℕ)) : Type 0 where
  pub ids : id_at forest rev (path_below path names) ≡ id_at forest other (path_below there names)
  pub nodes : node_at forest rev (path_below path names) ≡ node_at forest other (path_below there names)

-- equal numbers have equal subtrees
abbrev pub HaveEqualSubtrees : Forest → Type 0
HaveEqualSubtrees forest = (rev : ℕ) (path : List ℕ) (other : ℕ) (there : List ℕ) (id : ℕ) → id_at forest rev path ≡ Some id → id_at forest other there ≡ Some id → (names : List (List ℕ)) → IsTrue (list_all is_component names) → AreSameBelow forest rev path other there names
