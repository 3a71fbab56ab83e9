-- How one place is put over others, with marks on the directories above it.
use Rattle.std.specs.Prelude.{ℕ, ◌≡◌, Bool, true, false, List, [], ◌∷◌, Option, None, Some, Result, Ok, Err, MatchBool, not, ◌&&◌, cond, if◌then◌else◌}
use Rattle.std.specs.FinMap.{put}
use Rattle.std.specs.FinMap.Entries.{where_key}
use Rattle.std.specs.Ordering.{nat_cmp, eq_by_cmp}
use Rattle.std.specs.Str.{bytes_eq}
use Rattle.std.specs.Cmp.Lexicographic.{slice_cmp}
use Rattle.dsv_base.specs.Paths.{join_text, is_under, root_text}
use Rattle.dsv_base.specs.declared.prop.Prop.{Prop}
use Rattle.rev_nodes.specs.declared.cell.Cell.{Cell}
use Rattle.rev_nodes.specs.declared.node.Node.{Node}
use Rattle.rev_nodes.specs.declared.unfit.Unfit.{Unfit}
use Rattle.rev_nodes.specs.declared.unfit.Unfit.TheVariants.{NoParent}
use Rattle.rev_nodes.specs.Fitting.{is_want}
use Rattle.rev_nodes.specs.Trees.{is_dir_kind}
use Rattle.node_table.specs.Ways.{Name}
use Rattle.tree_edits.specs.Edits.{Held, Touched, EditedTree, touched_at, child_of, or_touched, held_root}

-- what stands at a place as a change at or below it leaves it
abbrev pub marked_held : ℕ → Held → Held
marked_held r here = record here { node = record here.node { created = r } }

-- the same with another text, changed last in this revision
abbrev pub held_with_text : ℕ → List ℕ → Held → Held
held_with_text r text here = record here { node = record here.node { text = text; created = r } }

-- the same with other properties, changed last in this revision
abbrev pub held_with_props : ℕ → List Prop → Held → Held
held_with_props r props here = record here { node = record here.node { props = props; created = r } }

-- what a copy of a node of the table puts at a path: it begins there, from its source, over what stands in it by the table
abbrev pub copied_held : ℕ → List ℕ → ℕ → ℕ → Node → Held
copied_held r source rev id node = record { node = record node { created = r }; line = record { since = r; source = Some (source, rev) }; under = Some id }

-- what stands one name below a place at a path
abbrev pub child_held : List Cell → Touched → List ℕ → Name → Held → Option Held
child_held cells touched path n here = or_touched (touched_at touched (join_text path n)) (child_of cells n here)

-- the touched paths with this one, and what stands there
abbrev pub with_edit : List ℕ → Option Held → Touched → Touched
with_edit path edit touched = put (slice_cmp nat_cmp) path edit touched

-- the touched paths without this one
abbrev pub without_edit : List ℕ → Touched → Touched
without_edit path [] = []
without_edit path (e ∷ es) = cond (eq_by_cmp (slice_cmp nat_cmp) path e.0) es (e ∷ without_edit path es)

-- a path stands below another
abbrev pub is_below : List ℕ → List ℕ → Bool
is_below p path = not (bytes_eq p path) && is_under p path

-- the touched paths without those below this one
abbrev pub cleared : List ℕ → Touched → Touched
cleared path touched = where_key (slice_cmp nat_cmp) (λ p. not (is_below p path)) touched

-- the touched paths with what stands at a place marked
abbrev pub marked_at : ℕ → List ℕ → Held → Touched → Touched
marked_at r path here touched = with_edit path (Some (marked_held r here)) touched

-- the touched paths with what is left at the end of a way, and the directories on the way marked; nothing where one of them is none
abbrev pub hung_in : ℕ → List Cell → Option Held → Touched → List ℕ → Option Held → List Name → Option Touched
hung_in r cells leaf touched path here [] = Some (with_edit path leaf touched)
hung_in r cells leaf touched path None (n ∷ ns) = None
hung_in r cells leaf touched path (Some here) (n ∷ ns) = if is_dir_kind here.node.kind then hung_in r cells leaf (marked_at r path here touched) (join_text path n) (child_held cells (marked_at r path here touched) path n here) ns else None

-- the touched paths of edits with what is left at a path
abbrev pub hung_at : ℕ → List Cell → Option Held → EditedTree → List Name → Option Touched
hung_at r cells leaf edits ns = hung_in r cells leaf edits.touched root_text (held_root cells edits) ns

-- a call left what was expected, or answers why not and changed nothing; want of memory is free
abbrev pub Hangs : {X : Type 0} → Option Touched → Touched → Touched → Result X Unfit → Type 0
Hangs expected old new (Ok x) = expected ≡ Some new
Hangs expected old new (Err why) = (new ≡ old) × MatchBool (is_want why) (Unit {0}) ((why ≡ NoParent) × (expected ≡ None))

-- the touched paths with what is left at the end of a way of one name or more below a place that is marked already, and the directories between marked; nothing where one of them is none
abbrev pub hung_below : ℕ → List Cell → Option Held → Touched → List ℕ → Held → List Name → Option Touched
hung_below r cells leaf touched path above [] = None
hung_below r cells leaf touched path above (n ∷ ns) = hung_in r cells leaf touched (join_text path n) (child_held cells touched path n above) ns

-- a directory stands there
abbrev pub stands_dir : Option Held → Bool
stands_dir None = false
stands_dir (Some here) = is_dir_kind here.node.kind

-- a directory was marked, and this is the revision that it had if it was touched before
pub record IsMarked (r : ℕ) (place : Option Held) (path : List ℕ) (old new : Touched) (before : Option ℕ) : Type 0 where
  pub here : Held
  pub is : place ≡ Some here
  pub dir : is_dir_kind here.node.kind ≡ true
  pub made : new ≡ marked_at r path here old
  pub fresh : before ≡ None → touched_at old path ≡ None
  pub touched : (created : ℕ) → before ≡ Some created → (touched_at old path ≡ Some (Some here)) × (here.node.created ≡ created)

-- a directory at a path is marked, or there is none and nothing is changed; want of memory is free
abbrev pub Touches : ℕ → Option Held → List ℕ → Touched → Touched → Result (Option ℕ) Unfit → Type 0
Touches r place path old new (Ok before) = IsMarked r place path old new before
Touches r place path old new (Err why) = (new ≡ old) × MatchBool (is_want why) (Unit {0}) ((why ≡ NoParent) × (stands_dir place ≡ false))

-- what a mark added is taken back
abbrev pub Untouches : Option ℕ → List ℕ → Touched → Touched → Type 0
Untouches None path old new = new ≡ without_edit path old
Untouches (Some created) path old new = (here : Held) → touched_at old path ≡ Some (Some here) → new ≡ marked_at created path here old
