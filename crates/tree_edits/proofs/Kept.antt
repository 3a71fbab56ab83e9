-- What all edits keep when one place is put over others.
use Rattle.std.proofs.Common.{◌≡◌, ℕ, ◌<◌, ◌≤◌, Bool, true, false, cond, List, [], ◌∷◌, ◌++◌, Option, None, Some, length, refl, sym, ap, subst, ◌∙◌, arith}
use Rattle.std.specs.Prelude.{is_some, nat_le, if◌then◌else◌}
use Rattle.std.specs.Option.{option_map, option_and_then}
use Rattle.std.proofs.lemmas.Bool.{and_parts, leb-true}
use Rattle.dsv_base.specs.Paths.{is_path, is_component, root_text, parent_text, name_of, join_text}
use Rattle.dsv_base.proofs.Joins.{join_parent, name_is_component}
use Rattle.rev_nodes.specs.declared.cell.Cell.{Cell}
use Rattle.rev_nodes.specs.declared.line.Line.{Line}
use Rattle.rev_nodes.specs.Trees.{is_dir_kind}
use Rattle.rev_nodes.proofs.Below.{parent_from}
use Rattle.rev_nodes.proofs.Forming.{tied}
use Rattle.rev_nodes.specs.Subtrees.{path_below}
use Rattle.node_table.specs.Ways.{Name, are_names}
use Rattle.node_table.specs.Tables.{cell_at, child_in, below_line, IsSoundTable}
use Rattle.node_table.proofs.Ways.{path_at-more, path_at-append}
use Rattle.tree_edits.specs.Edits.{Held, Touched, touched_at, held_in, child_of, or_touched, held_from}
use Rattle.tree_edits.specs.AreEdits.{IsHeld, IsInDir, IsPlaced, AreTouched}
use Rattle.tree_edits.specs.Hanging.{marked_held, child_held, with_edit, marked_at, hung_in}
use Rattle.tree_edits.proofs.Lists.{is_same, touched-with, touched-here, touched-other, order-with}
use Rattle.tree_edits.proofs.Texts.{names_more, parent_at, longer-join, shorter_apart, longer_apart, front_is_path}
use Rattle.tree_edits.proofs.Views.{stepped, above_same, longer_at}

-- a parent is shorter
pub shorter_parent : (p q : List ℕ) → is_path p ≡ true → parent_text p ≡ Some q → length q < length p
shorter_parent p q one is =
    let other = parent_from p q is in
    let joined = join_parent p q one is in
    subst (λ t. length q < length t) joined (longer-join q (name_of p) (name_is_component p one other.0))

-- what stands somewhere fits the table, if not yet the revision
pub record IsHere (r : ℕ) (cells : List Cell) (here : Held) : Type 0 where
  pub created : here.node.created ≤ r
  pub since : here.line.since ≤ r
  pub within : (id : ℕ) → here.under ≡ Some id → id < length cells
  pub older : (id : ℕ) → here.under ≡ Some id → (cell_at cells id).node.created ≤ here.node.created
  pub file : (id : ℕ) → here.under ≡ Some id → is_dir_kind here.node.kind ≡ false → (cell_at cells id).entries ≡ []

-- the parent of a place was marked
pub record IsMarkedDir (r : ℕ) (touched : Touched) (parent : List ℕ) (here : Option Held) : Type 0 where
  pub above : Held
  pub there : touched_at touched parent ≡ Some (Some above)
  pub dir : is_dir_kind above.node.kind ≡ true
  pub created : above.node.created ≡ r
  pub began : above.line.since ≤ r
  pub since : (h : Held) → here ≡ Some h → above.line.since ≤ h.line.since

-- a place on a way whose directories above were marked
pub record IsPlace (r : ℕ) (cells : List Cell) (touched : Touched) (path : List ℕ) (here : Option Held) : Type 0 where
  pub one : is_path path ≡ true
  pub touched_is : (edit : Option Held) → touched_at touched path ≡ Some edit → edit ≡ here
  pub fits : (h : Held) → here ≡ Some h → IsHere r cells h
  pub up : (parent : List ℕ) → parent_text path ≡ Some parent → IsMarkedDir r touched parent here
  pub root_stands : parent_text path ≡ None → is_some here ≡ true

-- what covers what stands below it
pub record IsCover (v edit : Option Held) : Type 0 where
  pub above : Held
  pub is : v ≡ Some above
  pub dir : is_dir_kind above.node.kind ≡ true
  pub created : (here : Held) → edit ≡ Some here → here.node.created ≤ above.node.created
  pub since : (here : Held) → edit ≡ Some here → above.line.since ≤ here.line.since

-- what can be put at a path
pub record EditFits (r : ℕ) (cells : List Cell) (touched : Touched) (path : List ℕ) (v : Option Held) : Type 0 where
  pub one : is_path path ≡ true
  pub held : (h : Held) → v ≡ Some h → IsHeld r cells h
  pub up : (parent : List ℕ) → parent_text path ≡ Some parent → IsInDir touched parent v
  pub stands : parent_text path ≡ None → is_some v ≡ true
  pub down : (p : List ℕ) (edit : Option Held) → touched_at touched p ≡ Some edit → parent_text p ≡ Some path → IsCover v edit

pub held_here : (r : ℕ) (cells : List Cell) (h : Held) → IsHeld r cells h → IsHere r cells h
held_here r cells h k = record { created = k.created; since = let a = k.created in let b = k.since in omega (arith, a, b); within = k.within; older = k.older; file = k.file }

-- with the same line, kind and number, changed in this revision
pub changed_fits : (r : ℕ) (cells : List Cell) (h new : Held) → IsHere r cells h → new.line ≡ h.line → new.under ≡ h.under → new.node.kind ≡ h.node.kind → new.node.created ≡ r → IsHeld r cells new
changed_fits r cells h new k line under kind created = record {
  created = omega (arith, created);
  since = let s = k.since in let l = ap (λ (x : Line). x.since) line in omega (arith, s, l, created);
  within = λ id e. k.within id (sym under ∙ e);
  older = λ id e. let o = k.older id (sym under ∙ e) in let c = k.created in omega (arith, o, c, created);
  file = λ id e d. k.file id (sym under ∙ e) (ap is_dir_kind (sym kind) ∙ d);
}

module _ (cells : List Cell) (sound : IsSoundTable cells) (r : ℕ) where
  line_between : (above : Line) (n : Name) (own : Line) → above.since ≤ r → own.since ≤ r → ((below_line above n own).since ≤ r) × (above.since ≤ (below_line above n own).since)
  line_between above n own a o = by (nat_le above.since own.since) refl
    where
      by : (b : Bool) → nat_le above.since own.since ≡ b → let l : Line = if b then own else record { since = above.since; source = option_map (λ s. (join_text s.0 n, s.1)) above.source } in (l.since ≤ r) × (above.since ≤ l.since)
      by true e = (o, leb-true above.since own.since e)
      by false e = (a, omega arith)

  -- what the table has below a place
  pub child_fits : (above : Held) (n : Name) (h : Held) → IsHere r cells above → child_of cells n above ≡ Some h → IsHere r cells h × (above.line.since ≤ h.line.since)
  child_fits above n h k e = by above.under refl e
    where
      by : (u : Option ℕ) → above.under ≡ u → option_map (λ i. held_in cells (below_line above.line n (cell_at cells i).line) i) (option_and_then (child_in cells n) u) ≡ Some h → IsHere r cells h × (above.line.since ≤ h.line.since)
      by None u e = absurd (cc e)
      by (Some id) u e = at_child (child_in cells n id) refl e
        where
          at_child : (o : Option ℕ) → child_in cells n id ≡ o → option_map (λ i. held_in cells (below_line above.line n (cell_at cells i).line) i) o ≡ Some h → IsHere r cells h × (above.line.since ≤ h.line.since)
          at_child None f e = absurd (cc e)
          at_child (Some i) f e =
              let is : held_in cells (below_line above.line n (cell_at cells i).line) i ≡ h = cc in
              let c = (sound id).children n i f in
              let own = (sound i).since in
              let low = c.lower in
              let older = c.older in
              let within = k.within id u in
              let old = k.older id u in
              let now = k.created in
              let line = line_between above.line n (cell_at cells i).line k.since (omega (arith, own, older, old, now)) in
              subst (λ x. IsHere r cells x × (above.line.since ≤ x.line.since)) is (
                record {
                  created = omega (arith, older, old, now);
                  since = line.0;
                  within = λ j s. subst (λ x. x < length cells) (let t : i ≡ j = cc in t) (omega (arith, low, within));
                  older = λ j s. subst (λ x. (cell_at cells x).node.created ≤ (cell_at cells i).node.created) (let t : i ≡ j = cc in t) (omega arith);
                  file = λ j s d. subst (λ x. (cell_at cells x).entries ≡ []) (let t : i ≡ j = cc in t) ((sound i).file d);
                },
                line.1,
              )

  -- ---- one path more

  pub put_kept : (touched : Touched) (path : List ℕ) (v : Option Held) → AreTouched r cells touched → EditFits r cells touched path v → AreTouched r cells (with_edit path v touched)
  put_kept touched path v a f = record {
    sorted = order-with path v touched a.sorted;
    placed = λ p edit e. placed_by p edit (is_same p path) refl (sym (touched-with p path v touched) ∙ e);
    held = λ p h e. held_by p h (is_same p path) refl (sym (touched-with p path v touched) ∙ e);
  }
    where
      held_by : (p : List ℕ) (h : Held) (b : Bool) → is_same p path ≡ b → cond b (Some v) (touched_at touched p) ≡ Some (Some h) → IsHeld r cells h
      held_by p h true t e = f.held h (let s : v ≡ Some h = cc in s)
      held_by p h false t e = a.held p h e

      moved_dir : (q : List ℕ) (edit : Option Held) → is_same q path ≡ false → IsInDir touched q edit → IsInDir (with_edit path v touched) q edit
      moved_dir q edit other d = record { above = d.above; there = touched-other q path v touched other ∙ d.there; dir = d.dir; created = d.created; since = d.since }

      covered : (q : List ℕ) (edit : Option Held) → q ≡ path → IsCover v edit → IsInDir (with_edit path v touched) q edit
      covered q edit same c = record { above = c.above; there = ap (touched_at (with_edit path v touched)) same ∙ touched-here path v touched ∙ ap Some c.is; dir = c.dir; created = c.created; since = c.since }

      at_parent : (p q : List ℕ) (edit : Option Held) (b : Bool) → is_same q path ≡ b → touched_at touched p ≡ Some edit → parent_text p ≡ Some q → IsInDir touched q edit → IsInDir (with_edit path v touched) q edit
      at_parent p q edit true t e is d = covered q edit (tied q path t) (f.down p edit e (is ∙ ap Some (tied q path t)))
      at_parent p q edit false t e is d = moved_dir q edit t d

      placed_by : (p : List ℕ) (edit : Option Held) (b : Bool) → is_same p path ≡ b → cond b (Some v) (touched_at touched p) ≡ Some edit → IsPlaced (with_edit path v touched) p edit
      placed_by p edit true t e =
          let same : p ≡ path = tied p path t in
          let is : v ≡ edit = cc in
          record {
            one = ap is_path same ∙ f.one;
            parents = λ q par. subst (λ x. IsInDir (with_edit path v touched) q x) is (moved_dir q v (shorter_apart q path (shorter_parent path q f.one (ap parent_text (sym same) ∙ par))) (f.up q (ap parent_text (sym same) ∙ par)));
            stands = λ none. ap is_some (sym is) ∙ f.stands (ap parent_text (sym same) ∙ none);
          }
      placed_by p edit false t e =
          let old = a.placed p edit e in
          record {
            one = old.one;
            parents = λ q par. at_parent p q edit (is_same q path) refl e par (old.parents q par);
            stands = old.stands;
          }

  -- ---- in place: another value of the same line, kind and number

  in_dir : (touched : Touched) (path : List ℕ) (here v : Option Held) → IsPlace r cells touched path here → ((h : Held) → v ≡ Some h → h.node.created ≤ r) → ((above : ℕ) → above ≤ r → ((h : Held) → here ≡ Some h → above ≤ h.line.since) → (h : Held) → v ≡ Some h → above ≤ h.line.since) → (parent : List ℕ) → parent_text path ≡ Some parent → IsInDir touched parent v
  in_dir touched path here v p young later parent is =
      let u = p.up parent is in
      record { above = u.above; there = u.there; dir = u.dir; created = λ h e. let y = young h e in let c = u.created in omega (arith, y, c); since = λ h e. later u.above.line.since u.began u.since h e }

  pub place_fits : (touched : Touched) (path : List ℕ) (h new : Held) → AreTouched r cells touched → IsPlace r cells touched path (Some h) → new.line ≡ h.line → new.under ≡ h.under → new.node.kind ≡ h.node.kind → new.node.created ≡ r → EditFits r cells touched path (Some new)
  place_fits touched path h new a p line under kind created = record {
    one = p.one;
    held = λ x e. subst (IsHeld r cells) (let s : new ≡ x = cc in s) (changed_fits r cells h new (p.fits h refl) line under kind created);
    up = in_dir touched path (Some h) (Some new) p
        (λ x e. subst (λ (y : Held). y.node.created ≤ r) (let s : new ≡ x = cc in s) (omega (arith, created)))
        (λ above low since x e. subst (λ (y : Held). above ≤ y.line.since) (let s : new ≡ x = cc in s) (let s = since h refl in let l = ap (λ (y : Line). y.since) line in omega (arith, s, l)));
    stands = λ none. refl;
    down = λ q edit e par.
        let d = (a.placed q edit e).parents path par in
        let same : d.above ≡ h = let s : Some d.above ≡ Some h = p.touched_is (Some d.above) d.there in cc in
        record {
          above = new;
          is = refl;
          dir = ap is_dir_kind (kind ∙ ap (λ (y : Held). y.node.kind) (sym same)) ∙ d.dir;
          created = λ x f. let c = (a.held q x (e ∙ ap Some f)).created in omega (arith, c, created);
          since = λ x f. let s = d.since x f in let l = ap (λ (y : Line). y.since) line in let m = ap (λ (y : Held). y.line.since) same in omega (arith, s, l, m);
        };
  }

  -- ---- where nothing stands

  pub fresh_fits : (touched : Touched) (path : List ℕ) (new : Held) → AreTouched r cells touched → IsPlace r cells touched path None → IsHeld r cells new → new.line.since ≡ r → EditFits r cells touched path (Some new)
  fresh_fits touched path new a p fits begins = record {
    one = p.one;
    held = λ x e. subst (IsHeld r cells) (let s : new ≡ x = cc in s) fits;
    up = in_dir touched path None (Some new) p
        (λ x e. subst (λ (y : Held). y.node.created ≤ r) (let s : new ≡ x = cc in s) fits.created)
        (λ above low since x e. subst (λ (y : Held). above ≤ y.line.since) (let s : new ≡ x = cc in s) (omega (arith, low, begins)));
    stands = λ none. refl;
    down = λ q edit e par. absurd (let d = (a.placed q edit e).parents path par in let s = p.touched_is (Some d.above) d.there in cc s);
  }

  -- ---- taken away

  pub gone_fits : (touched : Touched) (path : List ℕ) (here : Option Held) → IsPlace r cells touched path here → (parent_text path ≡ None → ⊥) → ((p : List ℕ) (edit : Option Held) → touched_at touched p ≡ Some edit → parent_text p ≡ Some path → ⊥) → EditFits r cells touched path None
  gone_fits touched path here p other none = record {
    one = p.one;
    held = λ x e. absurd (cc e);
    up = in_dir touched path here None p (λ x e. absurd (cc e)) (λ above low since x e. absurd (cc e));
    stands = λ root. absurd (other root);
    down = λ q edit e par. absurd (none q edit e par);
  }

  -- ---- down a way

  pub mark_kept : (touched : Touched) (path : List ℕ) (h : Held) → AreTouched r cells touched → IsPlace r cells touched path (Some h) → AreTouched r cells (marked_at r path h touched)
  mark_kept touched path h a p = put_kept touched path (Some (marked_held r h)) a (place_fits touched path h (marked_held r h) a p refl refl refl refl)

  pub next_place : (touched : Touched) (path : List ℕ) (h : Held) (n : Name) → AreTouched r cells touched → IsPlace r cells touched path (Some h) → is_dir_kind h.node.kind ≡ true → is_path (join_text path n) ≡ true → parent_text (join_text path n) ≡ Some path → IsPlace r cells (marked_at r path h touched) (join_text path n) (child_held cells (marked_at r path h touched) path n h)
  next_place touched path h n a p dir one is = record {
    one = one;
    touched_is = λ edit e. sym (ap (λ o. or_touched o (child_of cells n h)) e);
    fits = λ x e. fits_by x (touched_at (marked_at r path h touched) (join_text path n)) refl e;
    up = λ parent par. subst (λ q. IsMarkedDir r (marked_at r path h touched) q (child_held cells (marked_at r path h touched) path n h)) (let s : Some path ≡ Some parent = sym is ∙ par in let t : path ≡ parent = cc in t) (record {
      above = marked_held r h;
      there = touched-here path (Some (marked_held r h)) touched;
      dir = dir;
      created = refl;
      began = (p.fits h refl).since;
      since = λ x e. since_by x (touched_at (marked_at r path h touched) (join_text path n)) refl e;
    });
    root_stands = λ none. absurd (let s = sym is ∙ none in cc s);
  }
    where
      kept : AreTouched r cells (marked_at r path h touched)
      kept = mark_kept touched path h a p

      fits_by : (x : Held) (o : Option (Option Held)) → touched_at (marked_at r path h touched) (join_text path n) ≡ o → or_touched o (child_of cells n h) ≡ Some x → IsHere r cells x
      fits_by x None t e = (child_fits h n x (p.fits h refl) e).0
      fits_by x (Some edit) t e = held_here r cells x (kept.held (join_text path n) x (t ∙ ap Some e))

      since_by : (x : Held) (o : Option (Option Held)) → touched_at (marked_at r path h touched) (join_text path n) ≡ o → or_touched o (child_of cells n h) ≡ Some x → h.line.since ≤ x.line.since
      since_by x None t e = (child_fits h n x (p.fits h refl) e).1
      since_by x (Some edit) t e =
          let d = (kept.placed (join_text path n) edit t).parents path is in
          let s : Some (Some (marked_held r h)) ≡ Some (Some d.above) = sym (touched-here path (Some (marked_held r h)) touched) ∙ d.there in
          let same : d.above ≡ marked_held r h = cc in
          let m = ap (λ (y : Held). y.line.since) same in
          let l = d.since x e in
          omega (arith, l, m)

  -- what is held at the end of a way isn't changed by a mark above
  pub unmarked_held : (touched : Touched) (path : List ℕ) (h : Held) (n : Name) (ns : List Name) → are_names (n ∷ ns) ≡ true → held_from cells (marked_at r path h touched) (join_text path n) (child_held cells (marked_at r path h touched) path n h) ns ≡ held_from cells touched path (Some h) (n ∷ ns)
  unmarked_held touched path h n ns k =
      let p = and_parts (is_component n) (are_names ns) k in
      let l = longer-join path n p.0 in
      ap (λ o. held_from cells (marked_at r path h touched) (join_text path n) (or_touched o (child_of cells n h)) ns) (touched-other (join_text path n) path (Some (marked_held r h)) touched (longer_apart (join_text path n) path l))
      ∙ above_same cells path (Some (marked_held r h)) touched (join_text path n) (child_held cells touched path n h) ns p.1 (omega (arith, l))

  -- what has to be known at the end of a way
  abbrev pub Ends : Option Held → Touched → List ℕ → Option Held → Type 0
  Ends leaf touched end_ held_there = (t : Touched) (here : Option Held) → AreTouched r cells t → IsPlace r cells t end_ here → here ≡ held_there → ((p : List ℕ) (edit : Option Held) → touched_at t p ≡ Some edit → parent_text p ≡ Some end_ → touched_at touched p ≡ Some edit) → EditFits r cells t end_ leaf

  pub kept_in : (leaf : Option Held) (ns ds : List Name) (touched : Touched) (path : List ℕ) (here : Option Held) (new : Touched) → are_names ns ≡ true → are_names ds ≡ true → path ≡ path_below root_text ds → is_path (path_below path ns) ≡ true → AreTouched r cells touched → IsPlace r cells touched path here → hung_in r cells leaf touched path here ns ≡ Some new → Ends leaf touched (path_below path ns) (held_from cells touched path here ns) → AreTouched r cells new
  kept_in leaf [] ds touched path here new k d is one a p e ends = subst (AreTouched r cells) (let s : with_edit path leaf touched ≡ new = cc in s) (put_kept touched path leaf a (ends touched here a p refl (λ q edit f par. f)))
  kept_in leaf (n ∷ ns) ds touched path None new k d is one a p e ends = absurd (cc e)
  kept_in leaf (n ∷ ns) ds touched path (Some h) new k d is one a p e ends =
      let q = and_parts (is_component n) (are_names ns) k in
      let s = stepped r cells leaf touched path h n ns new e in
      let at_next : join_text path n ≡ path_below root_text (ds ++ n ∷ []) = ap (λ t. join_text t n) is ∙ sym (path_at-more root_text ds n) in
      let next_one : is_path (join_text path n) ≡ true = ap is_path at_next ∙ front_is_path (ds ++ n ∷ []) ns (names_more ds n d q.0) q.1 (ap is_path (path_at-append root_text (ds ++ n ∷ []) ns ∙ ap (λ t. path_below t ns) (sym at_next)) ∙ one) in
      let par : parent_text (join_text path n) ≡ Some path = ap (λ t. parent_text (join_text t n)) is ∙ parent_at ds n d q.0 ∙ ap Some (sym is) in
      kept_in leaf ns (ds ++ n ∷ []) (marked_at r path h touched) (join_text path n) (child_held cells (marked_at r path h touched) path n h) new q.1 (names_more ds n d q.0) at_next one (mark_kept touched path h a p) (next_place touched path h n a p s.dir next_one par) s.next
      (λ t here at pt held_is below. ends t here at pt (held_is ∙ unmarked_held touched path h n ns k) (λ x edit f up.
      let l = longer-join path n q.0 in
      let far = longer_at ns (join_text path n) q.1 in
      let less = shorter_parent x (path_below (join_text path n) ns) ((at.placed x edit f).one) up in
      sym (touched-other x path (Some (marked_held r h)) touched (longer_apart x path (omega (arith, l, far, less)))) ∙ below x edit f up))
