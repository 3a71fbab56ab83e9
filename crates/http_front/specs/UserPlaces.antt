-- How users are found by name.
use Rattle.std.specs.Prelude.{ℕ, ◌≡◌, ◌≤◌, List, length}
use Rattle.std.specs.List.{IsDistinct, position_from}
use Rattle.std.specs.Ordering.{nat_cmp}
use Rattle.std.specs.Cmp.Lexicographic.{slice_cmp}
use Rattle.std.specs.BTreeMap.{BTreeMap, get_by}
use Rattle.std.specs.Str.{bytes_eq}
use Rattle.http_front.specs.declared.user.User.{User}
use Rattle.http_front.specs.UsersFile.{most_users, names, AreNamed}

-- the map has per name the place of the first user of that name, its keys being read as texts
abbrev pub FindsUsers : {K : Type 0} → BTreeMap K ℕ → (K → List ℕ) → List User → Type 0
FindsUsers map text users = (name : List ℕ) → get_by (λ k. slice_cmp nat_cmp name (text k)) map ≡ position_from (bytes_eq name) 0 (names users)

-- the names are found by the map, no two of them are the same, they are of the grammar, and they are as many as a users file may have
pub record IsIndexed {K : Type 0} (map : BTreeMap K ℕ) (text : K → List ℕ) (users : List User) : Type 0 where
  pub places : FindsUsers map text users
  pub distinct : IsDistinct bytes_eq (names users)
  pub named : AreNamed users
  pub few : length users ≤ most_users
