-- What a request target names (RFC 9112, section 3.2; Subversion notes, "HTTP protocol v2").
use Rattle.std.specs.Prelude.{ℕ, ◌-◌, Bool, ◌&&◌, ◌||◌, List, [], ◌∷◌, ◌++◌, Option, None, Some, length, take, drop, ◌==◌, nat_eq, nat_le, slice_index, codes, if◌then◌else◌}
use Rattle.std.specs.List.{list_all, list_any, flat_map, starts_with}
use Rattle.std.specs.Option.{option_map, option_and_then, option_or}
use Rattle.std.specs.Str.{bytes_eq, str_eq_ignore_ascii_case}
use Rattle.dsv_base.specs.Lines.{cut_at}
use Rattle.dsv_base.specs.Numbers.{read_decimal}
use Rattle.dsv_base.specs.Paths.{components, is_component, is_path, root_text}
use Rattle.dsv_base.specs.declared.txn_name.TxnName.{TxnName}
use Rattle.dav_names.specs.declared.resource.Resource.{Resource}
use Rattle.dav_names.specs.declared.resource.Resource.TheVariants.{Public, Me, Rvr, RevOnly, Txr, Txn}
use Rattle.dav_names.specs.Escaped.{unescaped}

-- where the repository of this name stands
unfoldable pub root_of : List ℕ → List ℕ
root_of name = codes "/svn/" ++ name

-- `?` and `#`, which begin arguments and a fragment
abbrev pub is_mark : ℕ → Bool
is_mark b = b == 63 || b == 35

-- what stands behind a front in any case of its letters
abbrev pub behind : List ℕ → List ℕ → Option (List ℕ)
behind front text = if str_eq_ignore_ascii_case (take (length front) text) front then Some (drop (length front) text) else None

-- a text from its first `/` on
abbrev pub from_slash : List ℕ → Option (List ℕ)
from_slash [] = None
from_slash (b ∷ bs) = if b == 47 then Some (b ∷ bs) else from_slash bs

-- what stands behind the scheme, where the target has one
abbrev pub behind_scheme : List ℕ → Option (List ℕ)
behind_scheme target = option_or (behind (codes "http://") target) (behind (codes "https://") target)

-- a target without a scheme, or what stands behind the scheme from the first `/` on
abbrev pub path_after : List ℕ → Option (List ℕ) → Option (List ℕ)
path_after target None = Some target
path_after target (Some rest) = from_slash rest

-- the path of a target: all of it, or what stands behind its scheme and authority
unfoldable pub target_path : List ℕ → Option (List ℕ)
target_path target = path_after target (behind_scheme target)

-- what stands behind the repository's root
abbrev pub after_root : List ℕ → List ℕ → Option (List ℕ)
after_root root path = if starts_with nat_eq path root then Some (drop (length root) path) else None

-- without one `/` at the end
unfoldable pub without_slash : List ℕ → List ℕ
without_slash text = if nat_le 1 (length text) && (slice_index text (length text - 1) == 47) then take (length text - 1) text else text

-- each component of the path behind the root; there are none where nothing stands there
abbrev pub parts_of : List ℕ → Option (List (List ℕ))
parts_of [] = Some []
parts_of (b ∷ bs) = if b == 47 then Some (components bs) else None

-- a component after its `/`
abbrev pub after_slash : List ℕ → List ℕ
after_slash part = 47 ∷ part

-- components, each after a `/`
abbrev pub path_text : List (List ℕ) → List ℕ
path_text [] = root_text
path_text (part ∷ parts) = flat_map after_slash (part ∷ parts)

-- the path that these components make, where they do
unfoldable pub path_from_parts : List (List ℕ) → Option (List ℕ)
path_from_parts parts = if list_all is_component parts && is_path (path_text parts) then Some (path_text parts) else None

-- a revision's number: 0 to 2,000,000,000 without leading zeros
abbrev pub rev_named : List ℕ → Option ℕ
rev_named text = read_decimal 2000000000 text

-- a transaction of this revision and this number, which isn't 0
abbrev pub txn_of : ℕ → ℕ → Option TxnName
txn_of base number = if number == 0 then None else Some (record { base = base; number = number })

-- the transaction that the texts of a revision and of a number name
abbrev pub txn_parts : List ℕ → List ℕ → Option TxnName
txn_parts base number = option_and_then (λ base. option_and_then (txn_of base) (read_decimal 4294967295 number)) (rev_named base)

-- a transaction's name: REV, `-`, and 1 to 4,294,967,295 without leading zeros
unfoldable pub txn_named : List ℕ → Option TxnName
txn_named text = option_and_then (λ cut. txn_parts cut.0 cut.1) (cut_at 45 text)

-- `/!svn/me`
abbrev pub me_at : List (List ℕ) → Option Resource
me_at [] = Some Me
me_at (part ∷ parts) = None

-- `/!svn/rvr/REV` and components
abbrev pub rvr_at : List (List ℕ) → Option Resource
rvr_at [] = None
rvr_at (rev ∷ parts) = option_and_then (λ rev. option_map (Rvr rev) (path_from_parts parts)) (rev_named rev)

-- `/!svn/rev/REV`
abbrev pub rev_at : List (List ℕ) → Option Resource
rev_at [] = None
rev_at (rev ∷ []) = option_map RevOnly (rev_named rev)
rev_at (rev ∷ part ∷ parts) = None

-- `/!svn/txr/NAME` and components
abbrev pub txr_at : List (List ℕ) → Option Resource
txr_at [] = None
txr_at (name ∷ parts) = option_and_then (λ name. option_map (Txr name) (path_from_parts parts)) (txn_named name)

-- `/!svn/txn/NAME`
abbrev pub txn_at : List (List ℕ) → Option Resource
txn_at [] = None
txn_at (name ∷ []) = option_map Txn (txn_named name)
txn_at (name ∷ part ∷ parts) = None

-- what the components behind `!svn` name
abbrev pub special_at : List (List ℕ) → Option Resource
special_at [] = None
special_at (word ∷ parts) =
    if bytes_eq word (codes "me") then me_at parts else
    (if bytes_eq word (codes "rvr") then rvr_at parts else
    (if bytes_eq word (codes "rev") then rev_at parts else
    (if bytes_eq word (codes "txr") then txr_at parts else
    (if bytes_eq word (codes "txn") then txn_at parts else None))))

-- what components name: after `!svn` as above, else a path of the youngest revision
abbrev pub resource_at : List (List ℕ) → Option Resource
resource_at [] = Some (Public root_text)
resource_at (first ∷ parts) = if bytes_eq first (codes "!svn") then special_at parts else option_map Public (path_from_parts (first ∷ parts))

-- the resource that the text behind the root names, once its escapes are read
unfoldable pub resource_behind : List ℕ → Option Resource
resource_behind text = option_and_then resource_at (parts_of text)

-- the resource that the text behind the root names, as it is written
abbrev pub rest_named : List ℕ → Option Resource
rest_named rest = option_and_then resource_behind (unescaped (without_slash rest))

-- the resource that a target names in the repository with this root
unfoldable pub target : List ℕ → List ℕ → Option Resource
target root bytes =
    if list_any is_mark bytes then None else
    option_and_then (λ path. option_and_then rest_named (after_root root path)) (target_path bytes)
