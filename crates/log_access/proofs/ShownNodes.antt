-- What is shown at a path, by what stands there.
use Rattle.std.proofs.Common.{◌≡◌, ℕ, zero, suc, Bool, true, false, cond, List, [], ◌∷◌, Option, None, Some, map, get_or, refl, sym, ap, ◌∙◌}
use Rattle.std.specs.Prelude.{filter}
use Rattle.std.specs.Option.{option_map}
use Rattle.std.specs.FinMap.{find}
use Rattle.std.specs.FinMap.Entries.{find-where_key}
use Rattle.std.specs.Ordering.{nat_cmp, eq_by_cmp}
use Rattle.std.specs.Cmp.Lexicographic.{slice_cmp}
use Rattle.std.proofs.lemmas.Map.Lookups.{exact_bytes}
use Rattle.rev_nodes.specs.declared.node.Node.{Node}
use Rattle.rev_nodes.specs.Trees.{TreeNode, Tree, at}
use Rattle.rev_nodes.specs.Forests.{Numbered, ForestRevision, Forest, no_revision, tree_of, without_numbers, repository_of, places_at, place_at, id_at, node_at}
use Rattle.authz_file.specs.declared.rule.Rule.{Rule}
use Rattle.authz_check.specs.Access.{can_read}
use Rattle.log_access.specs.Shown.{shown_node, shown_nodes, shown_revision, shown_nothing, shown_of, nodes_in, node_in}

-- a look-up among entries whose values were mapped
pub find_map : {X Y : Type 0} (f : X → Y) (q : List ℕ) (es : List (List ℕ × X)) → find (slice_cmp nat_cmp) q (map (λ e. (e.0, f e.1)) es) ≡ option_map f (find (slice_cmp nat_cmp) q es)
find_map f q [] = refl
find_map {X} {Y} f q (e ∷ es) =
    elim (eq_by_cmp (slice_cmp nat_cmp) q e.0) as (λ b. cond b (Some (f e.1)) (find (slice_cmp nat_cmp) q (map (λ (e : List ℕ × X). (e.0, f e.1)) es)) ≡ option_map f (cond b (Some e.1) (find (slice_cmp nat_cmp) q es))) [ true ↦ refl | false ↦ find_map f q es ]

-- a readable path has its node, as it is shown
pub find_shown : (reads : List ℕ → Bool) (tree : Tree) (path : List ℕ) → reads path ≡ true → at path (shown_nodes reads tree) ≡ option_map (shown_node reads) (at path tree)
find_shown reads tree path readable =
    find_map (shown_node reads) path (filter (λ (place : List ℕ × TreeNode). reads place.0) tree)
    ∙ ap (option_map (shown_node reads)) (find-where_key (slice_cmp nat_cmp) reads path (λ x tied. ap reads (sym (exact_bytes path x tied))) tree ∙ ap (λ b. cond b (at path tree) None) readable)

no_place : (o : Option Numbered) → option_map (λ (p : Numbered). p.id) o ≡ None → o ≡ None
no_place None e = refl
no_place (Some p) e = absurd (cc)

-- where no number stands, no place does
pub nothing_at : (forest : Forest) (rev : ℕ) (path : List ℕ) → id_at forest rev path ≡ None → place_at forest rev path ≡ None
nothing_at forest rev path e = no_place (place_at forest rev path) e

place_of : (o : Option Numbered) (node : Node) → option_map (λ (p : Numbered). p.here.node) o ≡ Some node → (p : Numbered) × (o ≡ Some p) × (p.here.node ≡ node)
place_of None node e = absurd (cc)
place_of (Some p) node e = (p, refl, cc)

-- the place of a node that stands
pub place_with : (forest : Forest) (rev : ℕ) (path : List ℕ) (node : Node) → node_at forest rev path ≡ Some node → (p : Numbered) × (place_at forest rev path ≡ Some p) × (p.here.node ≡ node)
place_with forest rev path node e = place_of (place_at forest rev path) node e

nodes_at : (reads : List ℕ → Bool) (revisions : List ForestRevision) (rev : ℕ) → (get_or (map (shown_revision reads) (map without_numbers revisions)) rev shown_nothing).nodes ≡ shown_nodes reads (tree_of (get_or revisions rev no_revision).places)
nodes_at reads [] rev = refl
nodes_at reads (r ∷ rs) zero = refl
nodes_at reads (r ∷ rs) (suc rev) = nodes_at reads rs rev

module _ (forest : Forest) (rules : List Rule) (user : Option (List ℕ)) (rev : ℕ) where
  -- the nodes of a revision that a user is shown
  pub nodes_in-shown : nodes_in (shown_of (repository_of forest) rules user) rev ≡ shown_nodes (can_read rules forest.name user) (tree_of (places_at forest rev))
  unfolding shown_of
  nodes_in-shown = nodes_at (can_read rules forest.name user) forest.revisions rev

  -- the node at a readable path, as it is shown
  pub node_in-shown : (path : List ℕ) → can_read rules forest.name user path ≡ true → node_in (shown_of (repository_of forest) rules user) rev path ≡ option_map (λ (p : Numbered). shown_node (can_read rules forest.name user) p.here) (place_at forest rev path)
  node_in-shown path readable =
      ap (at path) nodes_in-shown
      ∙ find_shown (can_read rules forest.name user) (tree_of (places_at forest rev)) path readable
      ∙ ap (option_map (shown_node (can_read rules forest.name user))) (find_map (λ (p : Numbered). p.here) path (places_at forest rev))
      ∙ mapped_twice (place_at forest rev path)
    where
      mapped_twice : (o : Option Numbered) → option_map (shown_node (can_read rules forest.name user)) (option_map (λ (p : Numbered). p.here) o) ≡ option_map (λ (p : Numbered). shown_node (can_read rules forest.name user) p.here) o
      mapped_twice None = refl
      mapped_twice (Some p) = refl
