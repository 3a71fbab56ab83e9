-- What is read by runs, many bytes in one step; the meaning stays that of the bytes one by one.
use Rattle.std.specs.Prelude.{ℕ, ◌≡◌, Bool, true, option_and_then, cond, ◌&&◌, not, List, [], ◌∷◌, ◌++◌, Option, Some, None, Result, Ok, Err, ◌==◌}
use Rattle.dav_documents.specs.Plain.{is_written_name_byte}
use Rattle.dav_elements.specs.declared.progress.Progress.{Progress}
use Rattle.dav_elements.specs.declared.unread.Unread.{Unread}
use Rattle.dav_elements.specs.declared.unread.Unread.TheVariants.{Bad, NoMemory}
use Rattle.dsv_base.specs.Lines.{cut_at}
use Rattle.dav_elements.specs.declared.tag.Tag.{Tag}
use Rattle.dav_elements.specs.declared.frame.Frame.{Frame}
use Rattle.dav_elements.specs.declared.progress.Progress.TheVariants.{Within}
use Rattle.dav_reading.specs.declared.form_place.FormPlace.{FormPlace}
use Rattle.dav_reading.specs.declared.mode.Brackets.TheVariants.{Zero}
use Rattle.dav_reading.specs.declared.mode.Mode.TheVariants.{Content, Valued}
use Rattle.dav_reading.specs.References.{referred}
use Rattle.dav_reading.specs.Modes.{read_byte, read_bytes}
use Rattle.dav_reading.specs.declared.mode.Mode.{Mode}
use Rattle.dav_reading.specs.declared.mode.Place.{Place}
use Rattle.dav_reading.specs.declared.mode.Reader.{Reader}
use Rattle.dav_reading.specs.declared.run.Run.{Run}
use Rattle.dav_reading.specs.declared.run.Run.TheVariants.{Name, Text, Value, Reference}
use Rattle.dav_reading.specs.LineEnds.{blanked}

-- the run goes on with this byte
abbrev pub goes : Run → ℕ → Bool
goes Name b = is_written_name_byte b
goes Text b = not (b == 60) && not (b == 38) && not (b == 93)
goes (Value quote) b = not (b == quote) && not (b == 60) && not (b == 38)
goes Reference b = not (b == 59)

-- a byte of the run as it is kept
abbrev pub put : Run → ℕ → ℕ
put Name b = b
put Text b = b
put (Value quote) b = blanked b
put Reference b = b

-- what was read before with the longest run in front of a text, and what stands behind that
abbrev pub run_left : Run → List ℕ → List ℕ → List ℕ × List ℕ
run_left run read [] = (read, [])
run_left run read (b ∷ bs) = cond (goes run b) (run_left run (read ++ put run b ∷ []) bs) (read, b ∷ bs)

-- a reader by where it stands, and what it saw
abbrev pub reader_in : Mode → Progress → ℕ → Option FormPlace → Reader
reader_in mode progress begun form = record { place = record { mode = mode; progress = progress }; begun = begun; form = form }

-- a reader that stands there, and what it saw
abbrev pub reader_at : Place → ℕ → Option FormPlace → Reader
reader_at place begun form = record { place = place; begun = begun; form = form }

-- what is left to read comes to the same as all of it, and the text is bad only where that comes to nothing; want of memory is free
abbrev pub GoesBy : {X : Type 0} → (X → Option Reader) → Result X Unread → Option Reader → Type 0
GoesBy left (Ok x) whole = left x ≡ whole
GoesBy left (Err Bad) whole = whole ≡ None
GoesBy left (Err NoMemory) whole = Unit {0}

-- readers that hold what was read go on with each byte of the run
abbrev pub GoesOn : Run → (List ℕ → Reader) → Type 0
GoesOn run at = (read : List ℕ) (b : ℕ) → goes run b ≡ true → read_byte (at read) b ≡ Some (at (read ++ put run b ∷ []))

-- the word of a reference in front of a text, and what stands behind its `;`
abbrev pub reference_in : List ℕ → Option (List ℕ × List ℕ)
reference_in [] = None
reference_in (b ∷ bs) = cond (b == 38) (cut_at 59 bs) None

-- readers that hold what was read go on with what a reference stands for
abbrev pub Refers : (List ℕ → Reader) → Type 0
Refers at = (read text word rest : List ℕ) → reference_in text ≡ Some (word, rest) → read_bytes (at read) text ≡ option_and_then (λ bytes. read_bytes (at (read ++ bytes)) rest) (referred word)

-- a reader in the text of an element, by that text
abbrev pub in_text : Frame → List Frame → ℕ → Option FormPlace → List ℕ → Reader
in_text f around begun form text = reader_in (Content Zero) (Within (record f { text = text }) around) begun form

-- a reader in the value of an attribute, by that value
abbrev pub in_value : Progress → Tag → List ℕ → ℕ → ℕ → Option FormPlace → List ℕ → Reader
in_value progress tag key quote begun form value = reader_in (Valued tag key quote value) progress begun form
