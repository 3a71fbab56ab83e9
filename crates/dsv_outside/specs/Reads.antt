-- What a read of a file does.
use Rattle.std.specs.Prelude.{ℕ, ◌≡◌, ◌≤◌, Bool, true, false, List, length, Option, None, Some, ⊤}
use Rattle.dsv_outside.specs.FileTables.{text_named, most_file_bytes}
use Rattle.dsv_outside.specs.declared.file_got.FileGot.{FileGot}
use Rattle.dsv_outside.specs.declared.file_got.FileGot.TheVariants.{Bytes, Failed, NoMemory}

-- these bytes stand under the name, where the files are told
abbrev pub Holds : Option (List (List ℕ × List ℕ)) → List ℕ → List ℕ → Type 0
Holds None name bytes = ⊤
Holds (Some files) name bytes = text_named files name ≡ Some bytes

-- the files are told, and under the name stands nothing or too much
abbrev pub IsUnreadable : Option (List (List ℕ × List ℕ)) → List ℕ → Type 0
IsUnreadable None name = ⊥
IsUnreadable (Some files) name = text_named files name ≡ None

-- the bytes given are those under the name, and not too many
abbrev pub FileGives : Option (List (List ℕ × List ℕ)) → List ℕ → FileGot → Type 0
FileGives contents name (Bytes bytes) = Holds contents name bytes × (length bytes ≤ most_file_bytes)
FileGives contents name Failed = ⊤
FileGives contents name NoMemory = ⊤

-- a read of a file that failed
abbrev pub is_failed_file : FileGot → Bool
is_failed_file (Bytes bytes) = false
is_failed_file Failed = true
is_failed_file NoMemory = false

-- a copy of the text, unless there was no memory for it
abbrev pub IsCopyOf : List ℕ → FileGot → Type 0
IsCopyOf text (Bytes bytes) = bytes ≡ text
IsCopyOf text Failed = ⊥
IsCopyOf text NoMemory = ⊤
