-- The revisions as callers see them, one by one.
use Rattle.std.proofs.Common.{◌≡◌, ℕ, zero, suc, ◌-◌, ◌<◌, ◌≤◌, List, [], ◌∷◌, ◌++◌, length, map, get_or, refl, sym, ap, ◌∙◌, arith}
use Rattle.rev_nodes.specs.declared.cell.Cell.{Cell}
use Rattle.rev_nodes.specs.declared.commit.Commit.{Commit}
use Rattle.rev_nodes.specs.Trees.{Tree, Revision, tree_at}
use Rattle.rev_nodes.specs.Changes.{apply_from}
use Rattle.rev_nodes.specs.Forests.{ForestRevision, Forest, no_revision, without_numbers, revision_at, places_at}
use Rattle.rev_nodes.specs.Pushes.{trees_of, youngest_tree, tree_after}
use Rattle.node_table.specs.Tables.{IsSoundTable}
use Rattle.node_table.specs.Numbers.{numbered}
use Rattle.node_table.proofs.Numbers.{tree-numbered}
use Rattle.rev_trees.specs.declared.revision.KeptRevision.{KeptRevision}
use Rattle.rev_trees.specs.Kept.{youngest, made_of, trees_in, seen_revision, seen_revisions, forest_of, kept_at}
use Rattle.rev_trees.proofs.PlacesFound.{numbered-kept}
use Rattle.rev_trees.proofs.Replay.{trees-length}

in-length : (cells : List Cell) (rs : List KeptRevision) (ts : List Tree) → length ts ≡ length rs → length (seen_revisions cells rs ts) ≡ length rs
in-length cells [] ts same = refl
in-length cells (r ∷ rs) [] same = absurd (omega arith)
in-length cells (r ∷ rs) (t ∷ ts) same = ap suc (in-length cells rs ts (omega arith))

in-at : (cells : List Cell) (rs : List KeptRevision) (ts : List Tree) (rev : ℕ) → length ts ≡ length rs → rev < length rs → get_or (seen_revisions cells rs ts) rev no_revision ≡ seen_revision cells (kept_at rs rev) (tree_at ts rev)
in-at cells [] ts rev same h = absurd (omega arith)
in-at cells (r ∷ rs) [] rev same h = absurd (omega arith)
in-at cells (r ∷ rs) (t ∷ ts) zero same h = refl
in-at cells (r ∷ rs) (t ∷ ts) (suc rev) same h = in-at cells rs ts rev (omega arith) (omega arith)

in-past : (cells : List Cell) (rs : List KeptRevision) (ts : List Tree) (rev : ℕ) → length rs ≤ rev → get_or (seen_revisions cells rs ts) rev no_revision ≡ no_revision
in-past cells [] ts rev h = refl
in-past cells (r ∷ rs) [] rev h = refl
in-past cells (r ∷ rs) (t ∷ ts) zero h = absurd (omega arith)
in-past cells (r ∷ rs) (t ∷ ts) (suc rev) h = in-past cells rs ts rev (omega arith)

pub in-push : (cells : List Cell) (rs : List KeptRevision) (ts : List Tree) (r : KeptRevision) (t : Tree) → length ts ≡ length rs → seen_revisions cells (rs ++ r ∷ []) (ts ++ t ∷ []) ≡ seen_revisions cells rs ts ++ seen_revision cells r t ∷ []
in-push cells [] [] r t same = refl
in-push cells [] (u ∷ ts) r t same = absurd (omega arith)
in-push cells (q ∷ rs) [] r t same = absurd (omega arith)
in-push cells (q ∷ rs) (u ∷ ts) r t same = ap (λ (others : List ForestRevision). seen_revision cells q u ∷ others) (in-push cells rs ts r t (omega arith))

in-trees : (cells : List Cell) (rs : List KeptRevision) (ts : List Tree) → length ts ≡ length rs → trees_of (map without_numbers (seen_revisions cells rs ts)) ≡ ts
in-trees cells [] [] same = refl
in-trees cells [] (t ∷ ts) same = absurd (omega arith)
in-trees cells (r ∷ rs) [] same = absurd (omega arith)
in-trees cells (r ∷ rs) (t ∷ ts) same = λ i. tree-numbered cells r.root t i ∷ in-trees cells rs ts (omega arith) i

pub in-kept : (cells more : List Cell) → IsSoundTable cells → (rs : List KeptRevision) (ts : List Tree) → ((rev : ℕ) → rev < length rs → (kept_at rs rev).root < length cells) → seen_revisions (cells ++ more) rs ts ≡ seen_revisions cells rs ts
in-kept cells more sound [] ts within = refl
in-kept cells more sound (r ∷ rs) [] within = refl
in-kept cells more sound (r ∷ rs) (t ∷ ts) within =
    λ i. record { commit = r.commit; changed = r.changed; places = numbered-kept cells more sound r.root (within 0 (omega arith)) t i } ∷ in-kept cells more sound rs ts (λ rev h. within (suc rev) (omega arith)) i

module _ (name uuid : List ℕ) (cells : List Cell) (rs : List KeptRevision) (room node_room : ℕ) (forest : Forest) (is : forest_of name uuid cells rs room node_room ≡ forest) where
  pub length-of : length forest.revisions ≡ length rs
  length-of = ap (λ (f : Forest). length f.revisions) (sym is) ∙ in-length cells rs (trees_in rs) (trees-length rs)

  pub nodes-of : forest.nodes ≡ cells
  nodes-of = ap (λ (f : Forest). f.nodes) (sym is)

  pub room-of : forest.room ≡ room
  room-of = ap (λ (f : Forest). f.room) (sym is)

  pub node_room-of : forest.node_room ≡ node_room
  node_room-of = ap (λ (f : Forest). f.node_room) (sym is)

  revision-of : (rev : ℕ) → rev < length rs → revision_at forest rev ≡ seen_revision cells (kept_at rs rev) (tree_at (trees_in rs) rev)
  revision-of rev h = ap (λ (f : Forest). revision_at f rev) (sym is) ∙ in-at cells rs (trees_in rs) rev (trees-length rs) h

  pub commit-of : (rev : ℕ) → rev < length rs → (revision_at forest rev).commit ≡ (kept_at rs rev).commit
  commit-of rev h = ap (λ (r : ForestRevision). r.commit) (revision-of rev h)

  pub changed-of : (rev : ℕ) → rev < length rs → (revision_at forest rev).changed ≡ (kept_at rs rev).changed
  changed-of rev h = ap (λ (r : ForestRevision). r.changed) (revision-of rev h)

  pub places-of : (rev : ℕ) → rev < length rs → places_at forest rev ≡ numbered cells (kept_at rs rev).root (tree_at (trees_in rs) rev)
  places-of rev h = ap (λ (r : ForestRevision). r.places) (revision-of rev h)

  pub places-past : (rev : ℕ) → length rs ≤ rev → places_at forest rev ≡ []
  places-past rev h = ap (λ (f : Forest). places_at f rev) (sym is) ∙ ap (λ (r : ForestRevision). r.places) (in-past cells rs (trees_in rs) rev h)

  pub trees-are : trees_of (map without_numbers forest.revisions) ≡ trees_in rs
  trees-are = ap (λ (f : Forest). trees_of (map without_numbers f.revisions)) (sym is) ∙ in-trees cells rs (trees_in rs) (trees-length rs)

pub count-plain : (rs : List ForestRevision) → length (map without_numbers rs) ≡ length rs
count-plain [] = refl
count-plain (r ∷ rs) = ap suc (count-plain rs)

pub count-trees : (rs : List Revision) → length (trees_of rs) ≡ length rs
count-trees [] = refl
count-trees (r ∷ rs) = ap suc (count-trees rs)

module _ (name uuid : List ℕ) (cells : List Cell) (rs : List KeptRevision) (room node_room : ℕ) (forest : Forest) (is : forest_of name uuid cells rs room node_room ≡ forest) where
  count-is : length (map without_numbers forest.revisions) ≡ length (trees_in rs)
  count-is = sym (count-trees (map without_numbers forest.revisions)) ∙ ap (λ (ts : List Tree). length ts) (trees-are name uuid cells rs room node_room forest is)

  pub youngest-is : youngest_tree (map without_numbers forest.revisions) ≡ youngest (trees_in rs)
  youngest-is = λ i. tree_at (trees-are name uuid cells rs room node_room forest is i) (count-is i - 1)

  -- what a commit makes of the youngest tree
  pub after-is : (commit : Commit) → tree_after (map without_numbers forest.revisions) commit ≡ made_of (trees_in rs) commit
  after-is commit = λ i. apply_from 0 commit.changes (trees-are name uuid cells rs room node_room forest is i) (youngest-is i) (count-is i)
