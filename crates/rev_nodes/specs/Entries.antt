-- What stands in directories.
use Rattle.std.specs.Prelude.{ℕ, ◌≡◌, Bool, false, List, [], Option, None, Some, IsTrue, if◌then◌else◌}
use Rattle.std.specs.Option.{option_map_or}
use Rattle.std.specs.List.{filter_map, All}
use Rattle.std.specs.Str.{bytes_eq}
use Rattle.std.specs.FinMap.{is_sorted}
use Rattle.std.specs.Ordering.{nat_cmp}
use Rattle.std.specs.Cmp.Lexicographic.{slice_cmp}
use Rattle.dsv_base.specs.Paths.{is_path, parent_text, name_of}
use Rattle.rev_nodes.specs.declared.entry.Entry.{Entry}
use Rattle.rev_nodes.specs.declared.kind.Kind.TheVariants.{File}
use Rattle.rev_nodes.specs.declared.node.Node.{Node}
use Rattle.rev_nodes.specs.Forests.{Numbered, Forest, places_at, place_at, id_at, node_at}

-- the path stands right below the directory
abbrev pub is_child : List ℕ → List ℕ → Bool
is_child directory path = option_map_or (bytes_eq directory) (parent_text path) false

-- a place as an entry of the directory, if it is its child
abbrev pub entry_in : List ℕ → List ℕ × Numbered → Option Entry
entry_in directory place = if is_child directory place.0 then Some (record { name = name_of place.0; id = place.1.id }) else None

-- the children of a directory, in the order of the places
unfoldable pub entries_in : List ℕ → List (List ℕ × Numbered) → List Entry
entries_in directory places = filter_map (entry_in directory) places

-- wherever the number stands, these stand in it
abbrev pub AreEntriesOf : Forest → ℕ → List Entry → Type 0
AreEntriesOf forest id entries = (rev : ℕ) (path : List ℕ) → id_at forest rev path ≡ Some id → entries ≡ entries_in path (places_at forest rev)

-- where the number stands at a file, nothing is among these
abbrev pub HasNoneInFile : Forest → ℕ → List Entry → Type 0
HasNoneInFile forest id entries = (rev : ℕ) (path : List ℕ) (node : Node) → id_at forest rev path ≡ Some id → node_at forest rev path ≡ Some node → node.kind ≡ File → entries ≡ []

-- a place is found at its path, which is one
pub record IsSoundPlace (forest : Forest) (rev : ℕ) (place : List ℕ × Numbered) : Type 0 where
  pub found : place_at forest rev place.0 ≡ Some place.1
  pub path : IsTrue (is_path place.0)

-- two places of one number: the same node stands at both, with the same entries
pub record AreAlike (forest : Forest) (rev : ℕ) (path : List ℕ) (other : ℕ) (there : List ℕ) : Type 0 where
  pub nodes : node_at forest rev path ≡ node_at forest other there
  pub entries : entries_in path (places_at forest rev) ≡ entries_in there (places_at forest other)

-- the places of each revision rise by their paths, each standing once, and are so; and what has one number is alike, so that equal numbers have equal subtrees
pub record IsSound (forest : Forest) : Type 0 where
  pub sorted : (rev : ℕ) → IsTrue (is_sorted (slice_cmp nat_cmp) (places_at forest rev))
  pub places : (rev : ℕ) → All (IsSoundPlace forest rev) (places_at forest rev)
  pub alike : (rev : ℕ) (path : List ℕ) (other : ℕ) (there : List ℕ) (id : ℕ) → id_at forest rev path ≡ Some id → id_at forest other there ≡ Some id → AreAlike forest rev path other there
