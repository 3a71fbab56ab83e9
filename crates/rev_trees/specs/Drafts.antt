-- Drafts over the trees of a repository, which may grow while a draft lasts.
use Rattle.std.specs.Prelude.{ℕ, ◌≡◌, ◌<◌, ◌||◌, nat_eq, List, [], ◌∷◌, ◌++◌, Option, None, Some, Result, Ok, length, if◌then◌else◌}
use Rattle.std.specs.Option.{option_map}
use Rattle.rev_nodes.specs.declared.cell.Cell.{Cell}
use Rattle.rev_nodes.specs.declared.change.Change.{Change}
use Rattle.rev_nodes.specs.declared.unfit.Unfit.{Unfit}
use Rattle.rev_nodes.specs.Trees.{TreeNode, Tree, at}
use Rattle.rev_nodes.specs.Changes.{unfit}
use Rattle.rev_nodes.specs.Fitting.{Fits}
use Rattle.rev_nodes.specs.Forests.{ForestRevision, Forest}
use Rattle.rev_nodes.specs.Pushes.{trees_of}
use Rattle.rev_nodes.specs.Drafts.{coming, draft_tree, is_touched, TellsTouched}
use Rattle.tree_edits.specs.declared.glance.Glance.{Glance}
use Rattle.tree_edits.specs.Edits.{EditedTree, AreShown}
use Rattle.tree_edits.specs.AreEdits.{AreEdits}
use Rattle.rev_trees.specs.declared.seen.Seen.{Seen}
use Rattle.rev_trees.specs.declared.revision.KeptRevision.{KeptRevision}
use Rattle.rev_trees.specs.Readies.{revisions_of}
use Rattle.rev_trees.specs.Kept.{tree_or_none, trees_in, AreKept}

-- a draft: changes over the tree of the base revision, with the trees from which its copies are taken
pub record DraftOn : Type 0 where
  pub trees : Forest
  pub base : ℕ
  pub changes : List Change

-- the new trees have all revisions and nodes of the old ones, and behind them later ones, or none
pub record IsGrown (old new : Forest) : Type 0 where
  pub later : List ForestRevision
  pub revisions : new.revisions ≡ old.revisions ++ later
  pub more : List Cell
  pub nodes : new.nodes ≡ old.nodes ++ more

-- the flat trees of the revisions
abbrev pub flat_trees : Forest → List Tree
flat_trees forest = trees_of (revisions_of forest)

-- the tree of a draft: what its changes make of the tree of its base, or nothing where one doesn't fit; copies are taken from these trees
abbrev pub drafted : Forest → DraftOn → Tree
drafted forest draft = tree_or_none (draft_tree (flat_trees forest) draft.base draft.changes)

-- what a draft with these changes shows at a path where this node stands: its kind, and the revision of its last change, which is none where the changes touch the path
abbrev pub seen_at : List ℕ → List Change → TreeNode → Seen
seen_at path changes found = record { kind = found.node.kind; created = if is_touched path changes then None else Some found.node.created }

-- what a draft shows at a path, if anything stands there; copies are taken from these trees
abbrev pub draft_shows : Forest → DraftOn → List ℕ → Option Seen
draft_shows trees draft path = option_map (seen_at path draft.changes) (at path (drafted trees draft))

-- the draft with this change behind its others, and with these trees
abbrev pub with_one_more : Forest → Change → DraftOn → DraftOn
with_one_more trees change draft = record { trees = trees; base = draft.base; changes = draft.changes ++ change ∷ [] }

-- the change fits the tree of the old draft, and the new one has it behind the others, and these trees; or this is why it doesn't fit; want of memory is free
abbrev pub Tries : {X : Type 0} → Forest → Change → DraftOn → DraftOn → Result X Unfit → Type 0
Tries trees change old new result = Fits (λ done. new ≡ with_one_more trees change old) (unfit change (flat_trees trees) (drafted trees old)) result

-- what a draft shows where a glance tells this: what was changed or began in the revision that is to come was touched
abbrev pub seen_glance : Glance → Seen
seen_glance glance = record { kind = glance.kind; created = if nat_eq glance.created coming || nat_eq glance.since coming then None else Some glance.created }

-- the revisions are those of the forest as they are kept over its nodes, with the same trees
pub record AreKeptIn (forest : Forest) (revisions : List KeptRevision) : Type 0 where
  pub kept : AreKept forest.nodes revisions
  pub trees : flat_trees forest ≡ trees_in revisions
  pub count : length forest.revisions ≡ length revisions

-- edits hold the tree of a draft: the base is a revision of the trees, all changes fit, the edits show what they make of its tree, and what was made in the revision that is to come is what they touch
pub record IsDraft (trees : Forest) (base : ℕ) (changes : List Change) (edits : EditedTree) : Type 0 where
  pub within : base < length trees.revisions
  pub are : AreEdits coming trees.nodes edits
  pub tree : Tree
  pub is : draft_tree (flat_trees trees) base changes ≡ Ok tree
  pub shown : AreShown trees.nodes edits tree
  pub tells : TellsTouched coming changes tree
