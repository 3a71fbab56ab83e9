-- A cell's height tells whether all ways below it fit.
use Rattle.std.proofs.Common.{◌≡◌, ℕ, zero, suc, ◌+◌, ◌-◌, ◌<◌, ◌≤◌, true, false, List, [], ◌∷◌, Option, None, Some, length, get_or, min, max, refl, sym, ap, subst, ◌∙◌, inl, inr, arith}
use Rattle.std.specs.Prelude.{nat_le}
use Rattle.std.proofs.lemmas.Bool.{and_parts, and_from, le-leb, leb-true, cases_lt, false_from_ne_true}
use Rattle.rev_nodes.specs.declared.cell.Cell.{Cell}
use Rattle.rev_nodes.specs.declared.entry.Entry.{Entry}
use Rattle.rev_nodes.specs.declared.height.Height.{Height}
use Rattle.node_table.specs.Ways.{Name}
use Rattle.node_table.specs.Heights.{no_height, height_below, higher}
use Rattle.node_table.specs.Tables.{child_in, cell_at, height_over, reach, IsSoundTable}
use Rattle.node_table.specs.Limits.{fits, AllFit, HasLong}
use Rattle.node_table.proofs.EntriesFound.{no_entry, own_entry, found_in}
use Rattle.node_table.proofs.Growing.{reach_none}

-- ---- the height over entries is the greatest of each

module _ (cells : List Cell) where
  abbrev pub height_at : Entry → Height
  height_at e = height_below e.name (cell_at cells e.id).height

  -- what is told of a height: its names, or its bytes
  module _ (part : Height → ℕ) (greater : (a b : Height) → part (higher a b) ≡ max (part a) (part b)) (none : part no_height ≡ 0) where
    pub counted : (entries : List Entry) (k : ℕ) (d : Entry) → k < length entries → part (height_at (get_or entries k d)) ≤ part (height_over cells entries)
    counted [] k d h = absurd (omega (arith, h))
    counted (e ∷ es) zero d h = let g = greater (height_at e) (height_over cells es) in omega (arith, g)
    counted (e ∷ es) (suc k) d h = let g = greater (height_at e) (height_over cells es) in let more = counted es k d (omega (arith, h)) in omega (arith, g, more)

    pub record IsHigh (least : ℕ) (entries : List Entry) : Type 0 where
      pub index : ℕ
      pub within : index < length entries
      pub high : (d : Entry) → least < part (height_at (get_or entries index d))

    pub high_entry : (least : ℕ) (entries : List Entry) → least < part (height_over cells entries) → IsHigh least entries
    high_entry least [] h = absurd (let n = none in omega (arith, n, h))
    high_entry least (e ∷ es) h = elim (cases_lt least (part (height_at e))) [
      | inl here ↦ first here
      | inr low ↦ later (high_entry least es (let g = greater (height_at e) (height_over cells es) in omega (arith, g, h, low)))
    ]
      where
        first : least < part (height_at e) → IsHigh least (e ∷ es)
        first here = record { index = 0; within = omega arith; high = λ d. here }

        later : IsHigh least es → IsHigh least (e ∷ es)
        later more = record { index = suc more.index; within = let w = more.within in omega (arith, w); high = more.high }

module _ (cells : List Cell) (sound : IsSoundTable cells) where
  abbrev entries_at : ℕ → List Entry
  entries_at id = (cell_at cells id).entries

  abbrev item : ℕ → ℕ → Entry
  item id k = get_or (entries_at id) k no_entry

  child_names : (n : Name) (id i : ℕ) → child_in cells n id ≡ Some i → min 255 ((cell_at cells i).height.names + 1) ≤ (cell_at cells id).height.names
  child_names n id i e =
      let f = found_in n (entries_at id) i e in
      subst (λ k. min 255 ((cell_at cells k).height.names + 1) ≤ (cell_at cells id).height.names) (f.id_is no_entry)
      (subst (λ (h : Height). min 255 ((cell_at cells (item id f.index).id).height.names + 1) ≤ h.names) (sym (sound id).height)
      (counted cells (λ h. h.names) (λ a b. refl) refl (entries_at id) f.index no_entry f.within))

  child_bytes : (n : Name) (id i : ℕ) → child_in cells n id ≡ Some i → min 65535 ((cell_at cells i).height.bytes + length n + 1) ≤ (cell_at cells id).height.bytes
  child_bytes n id i e =
      let f = found_in n (entries_at id) i e in
      subst (λ k. min 65535 ((cell_at cells k).height.bytes + length n + 1) ≤ (cell_at cells id).height.bytes) (f.id_is no_entry)
      (subst (λ (m : Name). min 65535 ((cell_at cells (item id f.index).id).height.bytes + length m + 1) ≤ (cell_at cells id).height.bytes) (f.name_is no_entry)
      (subst (λ (h : Height). min 65535 ((cell_at cells (item id f.index).id).height.bytes + length (item id f.index).name + 1) ≤ h.bytes) (sym (sound id).height)
      (counted cells (λ h. h.bytes) (λ a b. refl) refl (entries_at id) f.index no_entry f.within)))

  -- ---- where the height fits, all ways do

  pub all_fit : (ns : List Name) (levels bytes id j : ℕ) → levels < 255 → bytes < 65535 → (cell_at cells id).height.names ≤ levels → (cell_at cells id).height.bytes ≤ bytes → reach cells (Some id) ns ≡ Some j → fits levels bytes ns ≡ true
  all_fit [] levels bytes id j few short low small e = refl
  all_fit (n ∷ ns) levels bytes id j few short low small e =
      by (child_in cells n id) refl e (λ i low_there small_there g. all_fit ns (levels - 1) (bytes - suc (length n)) i j (omega (arith, few)) (omega (arith, short)) low_there small_there g)
    where
      by : (o : Option ℕ) → child_in cells n id ≡ o → reach cells o ns ≡ Some j
          → ((i : ℕ) → (cell_at cells i).height.names ≤ levels - 1 → (cell_at cells i).height.bytes ≤ bytes - suc (length n) → reach cells (Some i) ns ≡ Some j → fits (levels - 1) (bytes - suc (length n)) ns ≡ true)
          → fits levels bytes (n ∷ ns) ≡ true
      by None f g go = absurd (let w = sym (reach_none cells ns) ∙ g in cc w)
      by (Some i) f g go =
          let a = child_names n id i f in
          let b = child_bytes n id i f in
          and_from _ _ (le-leb 1 levels (omega (arith, a, low, few))) (and_from _ _ (le-leb (suc (length n)) bytes (omega (arith, b, small, short)))
          (go i (omega (arith, a, low, few)) (omega (arith, b, small, short)) g))

  -- ---- where it doesn't, one of them doesn't

  long_name : (levels bytes id k : ℕ) → k < length (entries_at id) → (1 ≤ levels → suc (length (item id k).name) ≤ bytes → ⊥) → HasLong cells levels bytes id
  long_name levels bytes id k less other = record {
    names = (item id k).name ∷ [];
    end_ = (item id k).id;
    leads = own_entry (entries_at id) (sound id).sorted k no_entry less;
    long = false_from_ne_true _ (λ t. let p = and_parts (nat_le 1 levels) _ t in let q = and_parts (nat_le (suc (length (item id k).name)) bytes) _ p.1 in other (leb-true _ _ p.0) (leb-true _ _ q.0));
  }

  long_below : (levels bytes id k : ℕ) → k < length (entries_at id) → HasLong cells (levels - 1) (bytes - suc (length (item id k).name)) (item id k).id → HasLong cells levels bytes id
  long_below levels bytes id k less more = record {
    names = (item id k).name ∷ more.names;
    end_ = more.end_;
    leads = ap (λ o. reach cells o more.names) (own_entry (entries_at id) (sound id).sorted k no_entry less) ∙ more.leads;
    long = false_from_ne_true _ (λ t. let p = and_parts (nat_le 1 levels) _ t in let q = and_parts (nat_le (suc (length (item id k).name)) bytes) _ p.1 in let f : true ≡ false = sym q.1 ∙ more.long in cc f);
  }

  item_lower : (id k : ℕ) → k < length (entries_at id) → (item id k).id < id
  item_lower id k less = ((sound id).children (item id k).name (item id k).id (own_entry (entries_at id) (sound id).sorted k no_entry less)).lower

  pub long_by_names : (fuel levels bytes id : ℕ) → id < fuel → levels < (cell_at cells id).height.names → HasLong cells levels bytes id
  long_by_names zero levels bytes id below high = absurd (omega (arith, below))
  long_by_names (suc fuel) levels bytes id below high =
      let h = high_entry cells (λ h. h.names) (λ a b. refl) refl levels (entries_at id) (subst (λ (t : Height). levels < t.names) (sound id).height high) in
      let tall = h.high no_entry in
      let low = item_lower id h.index h.within in
      elim (cases_lt 0 levels) [
        | inl some ↦ long_below levels bytes id h.index h.within (long_by_names fuel (levels - 1) (bytes - suc (length (item id h.index).name)) (item id h.index).id (omega (arith, low, below)) (omega (arith, tall, some)))
        | inr none ↦ long_name levels bytes id h.index h.within (λ a b. omega (arith, a, none))
      ]

  pub long_by_bytes : (fuel levels bytes id : ℕ) → id < fuel → bytes < (cell_at cells id).height.bytes → HasLong cells levels bytes id
  long_by_bytes zero levels bytes id below high = absurd (omega (arith, below))
  long_by_bytes (suc fuel) levels bytes id below high =
      let h = high_entry cells (λ h. h.bytes) (λ a b. refl) refl bytes (entries_at id) (subst (λ (t : Height). bytes < t.bytes) (sound id).height high) in
      let tall = h.high no_entry in
      let low = item_lower id h.index h.within in
      elim (cases_lt (length (item id h.index).name) bytes) [
        | inl room ↦ long_below levels bytes id h.index h.within (long_by_bytes fuel (levels - 1) (bytes - suc (length (item id h.index).name)) (item id h.index).id (omega (arith, low, below)) (omega (arith, tall, room)))
        | inr full ↦ long_name levels bytes id h.index h.within (λ a b. omega (arith, b, full))
      ]

  -- ---- for the code

  pub fits_by_height : (levels bytes id : ℕ) → levels < 255 → bytes < 65535 → (height : Height) → height ≡ (cell_at cells id).height → height.names ≤ levels → height.bytes ≤ bytes → AllFit cells levels bytes id
  fits_by_height levels bytes id few short height is low small ns j e =
      all_fit ns levels bytes id j few short (subst (λ (h : Height). h.names ≤ levels) is low) (subst (λ (h : Height). h.bytes ≤ bytes) is small) e

  pub too_many : (levels bytes id : ℕ) (height : Height) → height ≡ (cell_at cells id).height → levels < height.names → HasLong cells levels bytes id
  too_many levels bytes id height is high = long_by_names (suc id) levels bytes id (omega arith) (subst (λ (h : Height). levels < h.names) is high)

  pub too_long : (levels bytes id : ℕ) (height : Height) → height ≡ (cell_at cells id).height → bytes < height.bytes → HasLong cells levels bytes id
  too_long levels bytes id height is high = long_by_bytes (suc id) levels bytes id (omega arith) (subst (λ (h : Height). bytes < h.bytes) is high)
