-- The items of a revision in a script: a line of a word and numbers, which are lengths but for the
-- revision of a copy, then so many bytes one after another, then a line feed. No length is above what
-- stands behind the line.
use Rattle.std.specs.Prelude.{ℕ, ◌-◌, Bool, true, ◌&&◌, List, [], ◌∷◌, ◌++◌, Result, Ok, Err, length, slice_get, nat_eq, nat_le, nat_lt, codes, if◌then◌else◌}
use Rattle.std.specs.Option.{option_map_or}
use Rattle.std.specs.Str.{bytes_eq}
use Rattle.std.specs.Ordering.{nat_cmp, is_lt}
use Rattle.std.specs.Cmp.Lexicographic.{slice_cmp}
use Rattle.dsv_base.specs.Gives.{◌>>=◌}
use Rattle.dsv_base.specs.Paths.{is_path}
use Rattle.dsv_base.specs.declared.prop.Prop.{Prop}
use Rattle.rev_nodes.specs.declared.change.Change.{Change}
use Rattle.rev_nodes.specs.declared.change.Change.TheVariants.{Put, SetProp, DelProp, Mkdir, Delete, Copy}
use Rattle.rev_scripts.specs.declared.item.Item.{Item}
use Rattle.rev_scripts.specs.declared.item.Item.TheVariants as item
use Rattle.rev_scripts.specs.declared.item_fault.ItemFault.{ItemFault}
use Rattle.rev_scripts.specs.declared.item_fault.ItemFault.TheVariants.{Bad}
use Rattle.rev_nodes.specs.PropertyNames.{is_property_name, is_revision_property}
use Rattle.rev_scripts.specs.Steps.{ok_where, line_from, word_from, after_front, bytes_from, number_from, most_revision}

-- ---- the numbers of a line

-- two lengths, each at most the given one
abbrev pub two_lengths : ℕ → List ℕ → Result (ℕ × ℕ) ItemFault
two_lengths most numbers = do
  word ← word_from numbers
  one ← number_from most word.0
  two ← number_from most word.1
  Ok (one, two)

-- three lengths, each at most the given one
abbrev pub three_lengths : ℕ → List ℕ → Result (ℕ × ℕ × ℕ) ItemFault
three_lengths most numbers = do
  word ← word_from numbers
  one ← number_from most word.0
  others ← two_lengths most word.1
  Ok (one, others.0, others.1)

-- the source's length, its revision, which is below that of this number, and the new path's length
abbrev pub copy_numbers : ℕ → ℕ → List ℕ → Result (ℕ × ℕ × ℕ) ItemFault
copy_numbers most number numbers = do
  first ← word_from numbers
  source ← number_from most first.0
  second ← word_from first.1
  rev ← number_from most_revision second.0
  path ← number_from most second.1
  ok_where (nat_lt rev number) (source, rev, path)

-- ---- the bytes after it: so many parts, which a line feed ends, and what stands after that

-- one part of this size
abbrev pub one_part : ℕ → List ℕ → Result (List ℕ × List ℕ) ItemFault
one_part size text = do
  one ← bytes_from size text
  rest ← after_front (codes "\n") one.1
  Ok (one.0, rest)

-- two parts of these sizes
abbrev pub two_parts : ℕ → ℕ → List ℕ → Result (List ℕ × List ℕ × List ℕ) ItemFault
two_parts first second text = do
  one ← bytes_from first text
  two ← one_part second one.1
  Ok (one.0, two.0, two.1)

-- three parts of these sizes
abbrev pub three_parts : ℕ → ℕ → ℕ → List ℕ → Result (List ℕ × List ℕ × List ℕ × List ℕ) ItemFault
three_parts first second third text = do
  one ← bytes_from first text
  others ← two_parts second third one.1
  Ok (one.0, others.0, others.1, others.2)

-- ---- the items

-- a property of the revision itself
abbrev pub prop_from : List ℕ → List ℕ → Result (Item × List ℕ) ItemFault
prop_from numbers text = do
  sizes ← two_lengths (length text) numbers
  parts ← two_parts sizes.0 sizes.1 text
  ok_where (is_revision_property parts.0) (item.Prop (record { name = parts.0; value = parts.1 }), parts.2)

-- a directory that is added
abbrev pub mkdir_from : List ℕ → List ℕ → Result (Item × List ℕ) ItemFault
mkdir_from numbers text = do
  size ← number_from (length text) numbers
  parts ← one_part size text
  ok_where (is_path parts.0) (item.Change (Mkdir parts.0), parts.1)

-- a node that is removed
abbrev pub delete_from : List ℕ → List ℕ → Result (Item × List ℕ) ItemFault
delete_from numbers text = do
  size ← number_from (length text) numbers
  parts ← one_part size text
  ok_where (is_path parts.0) (item.Change (Delete parts.0), parts.1)

-- a text that is set
abbrev pub put_from : List ℕ → List ℕ → Result (Item × List ℕ) ItemFault
put_from numbers text = do
  sizes ← two_lengths (length text) numbers
  parts ← two_parts sizes.0 sizes.1 text
  ok_where (is_path parts.0) (item.Change (Put parts.0 parts.1), parts.2)

-- a property of a node that is set
abbrev pub setprop_from : List ℕ → List ℕ → Result (Item × List ℕ) ItemFault
setprop_from numbers text = do
  sizes ← three_lengths (length text) numbers
  parts ← three_parts sizes.0 sizes.1 sizes.2 text
  path ← ok_where (is_path parts.0) parts.0
  name ← ok_where (is_property_name parts.1) parts.1
  Ok (item.Change (SetProp path name parts.2), parts.3)

-- a property of a node that is removed
abbrev pub delprop_from : List ℕ → List ℕ → Result (Item × List ℕ) ItemFault
delprop_from numbers text = do
  sizes ← two_lengths (length text) numbers
  parts ← two_parts sizes.0 sizes.1 text
  path ← ok_where (is_path parts.0) parts.0
  name ← ok_where (is_property_name parts.1) parts.1
  Ok (item.Change (DelProp path name), parts.2)

-- a copy, in the revision of this number
abbrev pub copy_from : ℕ → List ℕ → List ℕ → Result (Item × List ℕ) ItemFault
copy_from number numbers text = do
  told ← copy_numbers (length text) number numbers
  parts ← two_parts told.0 told.2 text
  source ← ok_where (is_path parts.0) parts.0
  path ← ok_where (is_path parts.1) parts.1
  Ok (item.Change (Copy source told.1 path), parts.2)

-- the item of this word, in the revision of this number
unfoldable pub item_of : ℕ → List ℕ → List ℕ → List ℕ → Result (Item × List ℕ) ItemFault
item_of number word numbers text =
    if bytes_eq word (codes "prop") then prop_from numbers text
    else if bytes_eq word (codes "mkdir") then mkdir_from numbers text
    else if bytes_eq word (codes "delete") then delete_from numbers text
    else if bytes_eq word (codes "put") then put_from numbers text
    else if bytes_eq word (codes "setprop") then setprop_from numbers text
    else if bytes_eq word (codes "delprop") then delprop_from numbers text
    else if bytes_eq word (codes "copy") then copy_from number numbers text
    else Err Bad

-- the item whose first line this is
unfoldable pub item_after : ℕ → List ℕ → List ℕ → Result (Item × List ℕ) ItemFault
item_after number line text = if bytes_eq line (codes "end") then Ok (item.End, text) else (word_from line >>= (λ word. item_of number word.0 word.1 text))

-- an item of the revision of this number, and what stands after it
unfoldable pub item_from : ℕ → List ℕ → Result (Item × List ℕ) ItemFault
item_from number text = line_from text >>= (λ line. item_after number line.0 line.1)

-- ---- their order

-- what the items of a revision tell: its properties, and its changes with the lines that they begin at
pub record Told : Type 0 where
  pub props : List Prop
  pub changes : List Change
  pub lines : List ℕ

-- before the first item
abbrev pub nothing_told : Told
nothing_told = record { props = []; changes = []; lines = [] }

-- the name comes after that of the last property, where there is one
abbrev pub is_next_name : List Prop → List ℕ → Bool
is_next_name props name = option_map_or (λ before. is_lt (slice_cmp nat_cmp before.name name)) (slice_get props (length props - 1)) true

-- whether an item may stand after those that told this: properties stand before all changes, in byte order of the name, each once; revision 0 has no changes
abbrev pub may_follow : ℕ → Told → Item → Bool
may_follow number told item.End = true
may_follow number told (item.Prop prop) = nat_eq (length told.changes) 0 && is_next_name told.props prop.name
may_follow number told (item.Change change) = nat_le 1 number

-- one property more was told
abbrev pub told_with_prop : Told → Prop → Told
told_with_prop told prop = record told { props = told.props ++ prop ∷ [] }

-- one change more was told, at this line
abbrev pub told_with_change : Told → Change → ℕ → Told
told_with_change told change line = record told { changes = told.changes ++ change ∷ []; lines = told.lines ++ line ∷ [] }
