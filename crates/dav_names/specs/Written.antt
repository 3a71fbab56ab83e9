-- How a resource is written as a target, and when it is read back.
use Rattle.std.specs.Prelude.{ℕ, ◌<◌, ◌≤◌, ◌^◌, Bool, true, false, not, ◌&&◌, List, [], ◌∷◌, ◌++◌, ◌==◌, IsTrue, codes}
use Rattle.std.specs.List.{list_any, All}
use Rattle.std.specs.Fmt.{decimal}
use Rattle.dsv_base.specs.Escapes.{url_text}
use Rattle.dsv_base.specs.Paths.{front_of, is_path}
use Rattle.dsv_base.specs.declared.txn_name.TxnName.{TxnName}
use Rattle.dav_names.specs.declared.resource.Resource.{Resource}
use Rattle.dav_names.specs.declared.resource.Resource.TheVariants.{Public, Me, Rvr, RevOnly, Txr, Txn}
use Rattle.dav_names.specs.Targets.{is_mark}

-- a transaction's name
abbrev pub txn_text : TxnName → List ℕ
txn_text name = decimal name.base ++ codes "-" ++ decimal name.number

-- a path behind the root or a stub: nothing for `/`
abbrev pub path_end : List ℕ → List ℕ
path_end path = url_text (front_of path)

-- what is written behind the root
unfoldable pub resource_text : Resource → List ℕ
resource_text (Public path) = path_end path
resource_text Me = codes "/!svn/me"
resource_text (Rvr rev path) = codes "/!svn/rvr/" ++ decimal rev ++ path_end path
resource_text (RevOnly rev) = codes "/!svn/rev/" ++ decimal rev
resource_text (Txr name path) = codes "/!svn/txr/" ++ txn_text name ++ path_end path
resource_text (Txn name) = codes "/!svn/txn/" ++ txn_text name

-- the target that is written for a resource
unfoldable pub target_text : List ℕ → Resource → List ℕ
target_text root resource = root ++ resource_text resource

-- the text begins with `/`, and has neither `?` nor `#`
unfoldable pub is_root : List ℕ → Bool
is_root [] = false
is_root (b ∷ bs) = (b == 47) && not (list_any is_mark (b ∷ bs))

-- the number of a transaction isn't 0
abbrev pub is_numbered : Resource → Bool
is_numbered (Public path) = true
is_numbered Me = true
is_numbered (Rvr rev path) = true
is_numbered (RevOnly rev) = true
is_numbered (Txr name path) = not (name.number == 0)
is_numbered (Txn name) = not (name.number == 0)

-- what the type of a path keeps: it is a path, of bytes
abbrev pub IsPathOfBytes : List ℕ → Type 0
IsPathOfBytes path = IsTrue (is_path path) × All (λ b. b < 256) path

-- what the type of a transaction's name keeps: bounds of its two numbers
abbrev pub IsName : TxnName → Type 0
IsName name = (name.base ≤ 2000000000) × (name.number < 2 ^ 32)

-- what the types of all parts of a resource keep
abbrev pub IsInRange : Resource → Type 0
IsInRange (Public path) = IsPathOfBytes path
IsInRange Me = Unit {0}
IsInRange (Rvr rev path) = (rev ≤ 2000000000) × IsPathOfBytes path
IsInRange (RevOnly rev) = rev ≤ 2000000000
IsInRange (Txr name path) = IsName name × IsPathOfBytes path
IsInRange (Txn name) = IsName name
