-- What the program's own calls say of maps, sets, searches and ranks.
use Rattle.std.specs.Prelude.{ℕ, ◌≡◌, ◌<◌, ◌≤◌, true, List, [], ◌∷◌, ◌++◌, map, length, nat_eq, if◌then◌else◌, slice_index}
use Rattle.std.specs.List.{list_any, IsDistinct}
use Rattle.std.specs.Ordering.{nat_cmp}
use Rattle.std.specs.Cmp.Lexicographic.{slice_cmp}
use Rattle.std.specs.BTreeMap.{BTreeMap, get_by}
use Rattle.std.specs.BTreeSet.{BTreeSet, contains}
use Rattle.authz_file.specs.declared.section_entry.SectionEntry.{SectionEntry}
use Rattle.authz_file.specs.Groups.{named_at, place_of_label, with_name}

-- a map that has per label the place of the last entry, its keys being read as texts
abbrev pub FindsLabels : {K : Type 0} → BTreeMap K ℕ → (K → List ℕ) → List SectionEntry → Type 0
FindsLabels map text entries = (label : List ℕ) → get_by (λ k. slice_cmp nat_cmp label (text k)) map ≡ place_of_label entries label

-- the list has the number
abbrev pub Has : List ℕ → ℕ → Type 0
Has xs q = list_any (nat_eq q) xs ≡ true

-- two lists have the same numbers
abbrev pub HaveSame : List ℕ → List ℕ → Type 0
HaveSame xs ys = (q : ℕ) → list_any (nat_eq q) xs ≡ list_any (nat_eq q) ys

-- every place that is named is that of an entry
abbrev pub IsGraph : List (List ℕ) → Type 0
IsGraph graph = (place named : ℕ) → Has (named_at graph place) named → named < length graph

-- a place added behind others, unless it is among them
abbrev pub with_place : List ℕ → ℕ → List ℕ
with_place places place = if list_any (nat_eq place) places then places else places ++ place ∷ []

-- places added behind others, each unless it is among them
abbrev pub with_places : List ℕ → List ℕ → List ℕ
with_places places [] = places
with_places places (p ∷ ps) = with_places (with_place places p) ps

-- a set of the places of a list, in which each stands once
abbrev pub IsSeen : BTreeSet ℕ → List ℕ → Type 0
IsSeen seen places = ((place : ℕ) → contains nat_cmp seen place ≡ list_any (nat_eq place) places) × IsDistinct nat_eq places

-- names put to their places one after another
abbrev pub with_names : List (List ℕ) → List (List ℕ) → List (List ℕ)
with_names names [] = names
with_names names (n ∷ ns) = with_names (with_name names n) ns

-- the names of a set, its keys being read as texts
abbrev pub texts : {K : Type 0} → (K → List ℕ) → BTreeSet K → List (List ℕ)
texts text set = map text set.keys

-- a set has the names of another, and these, its keys being read as texts
abbrev pub AddsNames : {K : Type 0} → (K → List ℕ) → BTreeSet K → BTreeSet K → List (List ℕ) → Type 0
AddsNames text old new names = texts text new ≡ with_names (texts text old) names

-- no entry names a place of a higher rank
abbrev pub NeverRises : List (List ℕ) → List ℕ → Type 0
NeverRises graph ranks = (place named : ℕ) → Has (named_at graph place) named → slice_index ranks named ≤ slice_index ranks place
