-- The revisions that a repository begins with.
use Rattle.std.proofs.Common.{◌≡◌, ℕ, zero, suc, ◌<◌, List, [], ◌∷◌, length, refl, sym, ap, subst, arith}
use Rattle.std.specs.List.{list_all}
use Rattle.std.proofs.lemmas.List.Elements.{All-nil, All-cons}
use Rattle.dsv_base.specs.Paths.{root_text}
use Rattle.rev_nodes.specs.declared.cell.Cell.{Cell}
use Rattle.rev_nodes.specs.declared.change.Change.{Change}
use Rattle.rev_nodes.specs.declared.commit.Commit.{Commit}
use Rattle.rev_nodes.specs.Trees.{first_tree, new_dir, tree_at}
use Rattle.rev_nodes.specs.Commits.{comes_from_below, IsSoundCommit}
use Rattle.rev_nodes.specs.SoundNodes.{HasSoundNode}
use Rattle.node_table.specs.Steps.{IsBase}
use Rattle.node_table.specs.Shown.{IsShown}
use Rattle.rev_trees.specs.declared.revision.KeptRevision.{KeptRevision}
use Rattle.rev_trees.specs.Kept.{trees_in, kept_at, IsKept, AreKept}

pub first_kept : (cells : List Cell) (root : ℕ) (first : Commit) → IsSoundCommit first → first.changes ≡ [] → IsBase 0 cells root → IsShown cells root first_tree → (rs : List KeptRevision) → rs ≡ record { commit = first; changed = []; root = root } ∷ [] → AreKept cells rs
first_kept cells root first sound none base shown rs is = subst (λ (qs : List KeptRevision). AreKept cells qs) (sym is) (record {
  some = omega arith;
  few = omega arith;
  sound = base.sound;
  kept = λ rev h. kept rev h;
})
  where
    one : List KeptRevision
    one = record { commit = first; changed = []; root = root } ∷ []

    kept : (rev : ℕ) → rev < length one → IsKept cells rev (tree_at (trees_in one) rev) (kept_at one rev).root (kept_at one rev).commit
    kept zero h = record {
      within = base.within;
      created = base.young;
      shown = shown;
      sorted = refl;
      nodes = All-cons (HasSoundNode 0) (root_text, new_dir 0) [] (record { created = omega arith; since = omega arith; source = tt; path = refl; names = refl }) (All-nil (HasSoundNode 0));
      commit_is = record { sound = sound; sources = ap (λ (cs : List Change). list_all (comes_from_below 0) cs) none; first = λ e. none };
    }
    kept (suc rev) h = absurd (omega arith)
