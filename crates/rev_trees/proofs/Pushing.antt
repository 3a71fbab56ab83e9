-- Pushing a revision, as the table and the kept revisions do it.
use Rattle.std.proofs.Common.{◌≡◌, ℕ, ◌*◌, ◌-◌, ◌≤◌, ◌<◌, List, [], ◌∷◌, ◌++◌, Ok, Err, length, map, Some, sym, ap, subst, ◌∙◌, inl, inr, arith, length-append}
use Rattle.std.specs.List.{All}
use Rattle.std.proofs.lemmas.Bool.{cases_lt}
use Rattle.std.proofs.lemmas.List.{get_or_append_left, length_push}
use Rattle.std.proofs.lemmas.List.Elements.{All-nil}
use Rattle.rev_nodes.specs.declared.cell.Cell.{Cell}
use Rattle.rev_nodes.specs.declared.changed.Changed.{Changed}
use Rattle.rev_nodes.specs.declared.commit.Commit.{Commit}
use Rattle.rev_nodes.specs.Trees.{Tree, tree_at}
use Rattle.rev_nodes.specs.Changes.{apply_from}
use Rattle.rev_nodes.specs.ChangedPaths.{changed_paths}
use Rattle.rev_nodes.specs.Commits.{IsSoundCommit, IsCommitOf}
use Rattle.rev_nodes.specs.Forests.{ForestRevision, Forest, without_numbers}
use Rattle.rev_nodes.specs.Pushes.{tree_after}
use Rattle.rev_nodes.specs.SoundNodes.{HasSoundNode}
use Rattle.rev_nodes.proofs.Forming.{past_end}
use Rattle.rev_nodes.proofs.NodesSound.{later_nodes, sound_changes, sources_below}
use Rattle.node_table.specs.Ways.{Name}
use Rattle.node_table.specs.Tables.{Spot, seen, IsSoundTable}
use Rattle.node_table.specs.Rebuilt.{root_spot}
use Rattle.node_table.specs.Shown.{IsShown}
use Rattle.node_table.proofs.Growing.{cell_at-kept, seen-kept}
use Rattle.node_table.proofs.Numbers.{tree-numbered}
use Rattle.rev_trees.specs.declared.push_fault.PushFault.{PushFault}
use Rattle.rev_trees.specs.declared.push_fault.PushFault.TheVariants as faults
use Rattle.rev_trees.specs.declared.revision.KeptRevision.{KeptRevision}
use Rattle.rev_trees.specs.declared.next.NextRevision.{NextRevision}
use Rattle.rev_trees.specs.Readies.{ReadyRevision, IsReadyOn, IsNext, Prepares, Pushes, revisions_of}
use Rattle.rev_trees.specs.Kept.{tree_or_none, youngest, after, trees_in, seen_revision, seen_revisions, forest_of, no_kept_revision, kept_at, IsKept, AreKept, tree_made, ready_of, IsReady}
use Rattle.rev_trees.specs.Made.{IsMade, Makes}
use Rattle.rev_trees.proofs.Replay.{trees-push, trees-length, at-last}
use Rattle.rev_trees.proofs.Viewed.{in-push, in-kept, length-of, nodes-of, room-of, node_room-of, youngest-is, after-is}

-- ---- a longer table shows the same

module _ (cells more : List Cell) (sound : IsSoundTable cells) where
  shown_more : (root : ℕ) (tree : Tree) → root < length cells → IsShown cells root tree → IsShown (cells ++ more) root tree
  shown_more root tree within s = record {
    shown = λ ns named. s.shown ns named ∙ sym (same ns);
    formed = s.formed;
  }
    where
      same : (ns : List Name) → seen (cells ++ more) (Some (root_spot (cells ++ more) root)) ns ≡ seen cells (Some (root_spot cells root)) ns
      same ns =
          ap (λ (c : Cell). let s : Spot = record { id = root; line = c.line } in seen (cells ++ more) (Some s) ns) (cell_at-kept cells more root within)
          ∙ seen-kept cells sound more ns (root_spot cells root) within

  kept_later : (rev : ℕ) (tree : Tree) (root : ℕ) (commit : Commit) → IsKept cells rev tree root commit → IsKept (cells ++ more) rev tree root commit
  kept_later rev tree root commit k = record {
    within = (let w = k.within in omega (arith, w, length-append cells more));
    created = subst (λ (c : Cell). c.node.created ≤ rev) (sym (cell_at-kept cells more root k.within)) k.created;
    shown = shown_more root tree k.within k.shown;
    sorted = k.sorted;
    nodes = k.nodes;
    commit_is = k.commit_is;
  }

-- the revisions with one more
kept_more : (cells more : List Cell) (rs : List KeptRevision) (r : KeptRevision) (tree : Tree) → AreKept cells rs → IsSoundTable (cells ++ more) → IsKept (cells ++ more) (length rs) tree r.root r.commit → tree ≡ after (trees_in rs) r.commit → length rs ≤ 2000000000 → AreKept (cells ++ more) (rs ++ r ∷ [])
kept_more cells more rs r tree kept sound new is few = record {
  some = omega (arith, length_push rs r);
  few = omega (arith, length_push rs r, few);
  sound = sound;
  kept = all;
}
  where
    push : trees_in (rs ++ r ∷ []) ≡ trees_in rs ++ after (trees_in rs) r.commit ∷ []
    push = trees-push rs r kept.some

    old : (rev : ℕ) → rev < length rs → IsKept (cells ++ more) rev (tree_at (trees_in (rs ++ r ∷ [])) rev) (kept_at (rs ++ r ∷ []) rev).root (kept_at (rs ++ r ∷ []) rev).commit
    old rev h =
        let t : tree_at (trees_in (rs ++ r ∷ [])) rev ≡ tree_at (trees_in rs) rev = ap (λ (ts : List Tree). tree_at ts rev) push ∙ get_or_append_left (trees_in rs) (after (trees_in rs) r.commit ∷ []) [] rev (let n = trees-length rs in omega (arith, n, h)) in
        subst (λ (q : KeptRevision). IsKept (cells ++ more) rev (tree_at (trees_in (rs ++ r ∷ [])) rev) q.root q.commit) (sym (get_or_append_left rs (r ∷ []) no_kept_revision rev h))
        (subst (λ (q : Tree). IsKept (cells ++ more) rev q (kept_at rs rev).root (kept_at rs rev).commit) (sym t)
        (kept_later cells more kept.sound rev (tree_at (trees_in rs) rev) (kept_at rs rev).root (kept_at rs rev).commit (kept.kept rev h)))

    last : IsKept (cells ++ more) (length rs) (tree_at (trees_in (rs ++ r ∷ [])) (length rs)) (kept_at (rs ++ r ∷ []) (length rs)).root (kept_at (rs ++ r ∷ []) (length rs)).commit
    last =
        let t : tree_at (trees_in (rs ++ r ∷ [])) (length rs) ≡ tree = ap (λ (ts : List Tree). tree_at ts (length rs)) push ∙ ap (tree_at (trees_in rs ++ after (trees_in rs) r.commit ∷ [])) (sym (trees-length rs)) ∙ at-last (trees_in rs) (after (trees_in rs) r.commit) [] ∙ sym is in
        subst (λ (q : KeptRevision). IsKept (cells ++ more) (length rs) (tree_at (trees_in (rs ++ r ∷ [])) (length rs)) q.root q.commit) (sym (at-last rs r no_kept_revision))
        (subst (λ (q : Tree). IsKept (cells ++ more) (length rs) q r.root r.commit) (sym t) new)

    all : (rev : ℕ) → rev < length (rs ++ r ∷ []) → IsKept (cells ++ more) rev (tree_at (trees_in (rs ++ r ∷ [])) rev) (kept_at (rs ++ r ∷ []) rev).root (kept_at (rs ++ r ∷ []) rev).commit
    all rev h = elim (cases_lt rev (length rs)) [
      | inl low ↦ old rev low
      | inr high ↦ (let n = length_push rs r in let same : length rs ≡ rev = omega (arith, h, high, n) in subst (λ (n : ℕ). IsKept (cells ++ more) n (tree_at (trees_in (rs ++ r ∷ [])) n) (kept_at (rs ++ r ∷ []) n).root (kept_at (rs ++ r ∷ []) n).commit) same last)
    ]

-- ---- a revision that is ready becomes one

module _ (name uuid : List ℕ) (cells : List Cell) (rs : List KeptRevision) (room node_room : ℕ) (forest : Forest) (is : forest_of name uuid cells rs room node_room ≡ forest) (base : Forest) (number : ℕ) (r : KeptRevision) (more : List Cell) (ready : ReadyRevision) (as_ready : ready_of base r.commit r.changed more ≡ ready) (made : IsReady base number r more) (on : IsReadyOn ready forest) where
  same_base : base.revisions ≡ forest.revisions
  same_base = ap (λ (q : ReadyRevision). q.base) as_ready ∙ on.base

  same_nodes : base.nodes ≡ cells
  same_nodes = ap (λ (q : ReadyRevision). q.nodes) as_ready ∙ on.nodes ∙ nodes-of name uuid cells rs room node_room forest is

  pub number_on : number ≡ length rs
  number_on = made.next ∙ ap (λ (qs : List ForestRevision). length qs) same_base ∙ length-of name uuid cells rs room node_room forest is

  pub sound_on : IsSoundTable (cells ++ more)
  sound_on = subst (λ (cs : List Cell). IsSoundTable (cs ++ more)) same_nodes made.sound

  pub room_on : 1 ≤ room
  room_on =
      let needs = ap (λ (q : ReadyRevision). q.needs) as_ready in
      let roomy = on.roomy in
      let there = room-of name uuid cells rs room node_room forest is in
      omega (arith, needs, roomy, there)

  pub node_room_on : length more ≤ node_room
  node_room_on =
      let needs = ap (λ (q : ReadyRevision). q.node_needs) as_ready in
      let roomy = on.node_roomy in
      let there = node_room-of name uuid cells rs room node_room forest is in
      omega (arith, needs, roomy, there)

  -- the tree of what is ready is the next of the kept ones
  tree_on : tree_made base r.commit ≡ after (trees_in rs) r.commit
  tree_on =
      ap (λ (qs : List ForestRevision). tree_or_none (tree_after (map without_numbers qs) r.commit)) same_base
      ∙ ap tree_or_none (after-is name uuid cells rs room node_room forest is r.commit)

  pub kept_on : AreKept cells rs → AreKept (cells ++ more) (rs ++ r ∷ [])
  kept_on kept = kept_more cells more rs r (tree_made base r.commit) kept sound_on
      (subst (λ (n : ℕ). IsKept (cells ++ more) n (tree_made base r.commit) r.root r.commit) number_on
      (subst (λ (cs : List Cell). IsKept (cs ++ more) number (tree_made base r.commit) r.root r.commit) same_nodes made.kept))
      tree_on
      (let few = made.few in let n = number_on in omega (arith, few, n))

  pub pushes_one : AreKept cells rs → (new_room new_node_room : ℕ) → Pushes ready forest (forest_of name uuid (cells ++ more) (rs ++ r ∷ []) new_room new_node_room)
  pushes_one kept new_room new_node_room = record {
    name = ap (λ (f : Forest). f.name) is;
    uuid = ap (λ (f : Forest). f.uuid) is;
    revision = seen_revision (cells ++ more) r (after (trees_in rs) r.commit);
    revisions =
        ap (seen_revisions (cells ++ more) (rs ++ r ∷ [])) (trees-push rs r kept.some)
        ∙ in-push (cells ++ more) rs (trees_in rs) r (after (trees_in rs) r.commit) (trees-length rs)
        ∙ ap (λ (qs : List ForestRevision). qs ++ seen_revision (cells ++ more) r (after (trees_in rs) r.commit) ∷ []) (in-kept cells more kept.sound rs (trees_in rs) (λ rev h. (kept.kept rev h).within) ∙ ap (λ (f : Forest). f.revisions) is);
    commit = ap (λ (q : ReadyRevision). q.commit) as_ready;
    changed = ap (λ (q : ReadyRevision). q.changed) as_ready;
    tree = tree-numbered (cells ++ more) r.root (after (trees_in rs) r.commit) ∙ sym tree_on ∙ ap (λ (q : ReadyRevision). q.tree) as_ready;
    more = more;
    nodes = ap (λ (cs : List Cell). cs ++ more) (ap (λ (f : Forest). f.nodes) is);
    few = subst (λ (q : ReadyRevision). length more ≤ 65 * length q.commit.changes) as_ready made.sparse;
  }

-- ---- what was made of a sound commit is ready

kept_trees : (cells : List Cell) (rs : List KeptRevision) → AreKept cells rs → (rev : ℕ) → All (HasSoundNode rev) (tree_at (trees_in rs) rev)
kept_trees cells rs kept rev = elim (cases_lt rev (length rs)) [
  | inl h ↦ (kept.kept rev h).nodes
  | inr past ↦ subst (All (HasSoundNode rev)) (sym (past_end (trees_in rs) rev (let n = trees-length rs in omega (arith, n, past)))) (All-nil (HasSoundNode rev))
]

module _ (name uuid : List ℕ) (cells : List Cell) (rs : List KeptRevision) (room node_room : ℕ) (base : Forest) (is : forest_of name uuid cells rs room node_room ≡ base) (kept : AreKept cells rs) (commit : Commit) (sound : IsSoundCommit commit) (next : NextRevision) (made : IsMade cells (trees_in rs) commit next) where
  tree_is : tree_made base next.revision.commit ≡ made.tree
  tree_is = ap (tree_made base) made.commit_is ∙ ap tree_or_none (after-is name uuid cells rs room node_room base is commit ∙ made.tree_is)

  read_is : apply_from 0 commit.changes (trees_in rs) (youngest (trees_in rs)) (length rs) ≡ Ok made.tree
  read_is = ap (apply_from 0 commit.changes (trees_in rs) (youngest (trees_in rs))) (sym (trees-length rs)) ∙ made.tree_is

  nodes_made : All (HasSoundNode (length rs)) made.tree
  nodes_made =
      let some = kept.some in
      let n = trees-length rs in
      let before : All (HasSoundNode (length rs)) (youngest (trees_in rs)) = later_nodes (length (trees_in rs) - 1) (length rs) (youngest (trees_in rs)) (omega (arith, some, n)) (kept_trees cells rs kept (length (trees_in rs) - 1)) in
      sound_changes (length rs) (trees_in rs) (trees-length rs) (kept_trees cells rs kept) (λ rev h. (kept.kept rev (omega (arith, n, h))).shown.formed) commit.changes 0 (youngest (trees_in rs)) made.tree sound.changes read_is before

  commit_made : IsCommitOf (length rs) commit
  commit_made = let some = kept.some in record {
    sound = sound;
    sources = sources_below (length rs) (trees_in rs) (trees-length rs) (kept_trees cells rs kept) commit.changes 0 (youngest (trees_in rs)) made.tree read_is;
    first = λ e. absurd (omega (arith, e, some));
  }

  pub made_ready : (number : ℕ) → number ≡ length rs → number ≤ 2000000000 → IsReady base number next.revision next.cells.items
  made_ready number number_is few = subst (λ (n : ℕ). IsReady base n next.revision next.cells.items) (sym number_is) (record {
    next = sym (length-of name uuid cells rs room node_room base is);
    few = omega (arith, few, number_is);
    sound = subst (λ (cs : List Cell). IsSoundTable (cs ++ next.cells.items)) (sym (nodes-of name uuid cells rs room node_room base is)) made.sound;
    kept = subst (λ (cs : List Cell). IsKept (cs ++ next.cells.items) (length rs) (tree_made base next.revision.commit) next.revision.root next.revision.commit) (sym (nodes-of name uuid cells rs room node_room base is))
        (subst (λ (t : Tree). IsKept (cells ++ next.cells.items) (length rs) t next.revision.root next.revision.commit) (sym tree_is) (record {
          within = made.within;
          created = (let c = made.created in let n = trees-length rs in omega (arith, c, n));
          shown = made.shown;
          sorted = made.sorted;
          nodes = nodes_made;
          commit_is = subst (IsCommitOf (length rs)) (sym made.commit_is) commit_made;
        }));
    sparse = subst (λ (c : Commit). length next.cells.items ≤ 65 * length c.changes) (sym made.commit_is) made.few;
  })

-- what was made is the next revision of the trees as they were
pub is_next : (name uuid : List ℕ) (cells : List Cell) (rs : List KeptRevision) (room node_room : ℕ) (old base : Forest) → forest_of name uuid cells rs room node_room ≡ old → base.revisions ≡ old.revisions → (commit : Commit) (next : NextRevision) → IsMade cells (trees_in rs) commit next
    → (ready : ReadyRevision) → ready ≡ ready_of base next.revision.commit next.revision.changed next.cells.items → IsNext (revisions_of old) commit ready
is_next name uuid cells rs room node_room old base is same commit next made ready as_made = subst (λ (r : ReadyRevision). IsNext (revisions_of old) commit r) (sym as_made) (record {
  commit_is = made.commit_is;
  tree_is = read ∙ ap (λ (t : Tree). Ok t) (sym tree);
  changed_is = made.changed_is ∙ (λ i. changed_paths commit.changes (sym (youngest-is name uuid cells rs room node_room old is) i) (sym tree i));
})
  where
    read : tree_after (revisions_of old) commit ≡ Ok made.tree
    read = after-is name uuid cells rs room node_room old is commit ∙ made.tree_is

    tree : tree_made base next.revision.commit ≡ made.tree
    tree =
        ap (λ (qs : List ForestRevision). tree_or_none (tree_after (map without_numbers qs) next.revision.commit)) same
        ∙ ap (λ (c : Commit). tree_or_none (tree_after (map without_numbers old.revisions) c)) made.commit_is
        ∙ ap tree_or_none read

pub not_next : (name uuid : List ℕ) (cells : List Cell) (rs : List KeptRevision) (room node_room : ℕ) (old : Forest) → forest_of name uuid cells rs room node_room ≡ old → (commit : Commit) (new : Forest) (fault : PushFault) → length old.revisions ≤ 2000000000 → Makes cells (trees_in rs) commit (Err fault) → Prepares commit old new (Err fault)
not_next name uuid cells rs room node_room old is commit new (faults.Unfit index) few h = (few, h.0, after-is name uuid cells rs room node_room old is commit ∙ h.1)
not_next name uuid cells rs room node_room old is commit new faults.FullRevisions few h = absurd h
not_next name uuid cells rs room node_room old is commit new faults.NoMemory few h = few

-- what was made is ready where there is room
pub ready_on : (base forest : Forest) (commit : Commit) (changed : List Changed) (more : List Cell) (ready : ReadyRevision) → ready ≡ ready_of base commit changed more → base.revisions ≡ forest.revisions → base.nodes ≡ forest.nodes → 1 ≤ forest.room → length more ≤ forest.node_room → IsReadyOn ready forest
ready_on base forest commit changed more ready is same same_nodes room node_room = record {
  base = ap (λ (r : ReadyRevision). r.base) is ∙ same;
  nodes = ap (λ (r : ReadyRevision). r.nodes) is ∙ same_nodes;
  roomy = (let needs = ap (λ (r : ReadyRevision). r.needs) is in omega (arith, needs, room));
  node_roomy = (let needs = ap (λ (r : ReadyRevision). r.node_needs) is in omega (arith, needs, node_room));
}
