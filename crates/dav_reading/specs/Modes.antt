-- Reading a document byte by byte.
use Rattle.std.specs.Prelude.{ℕ, Bool, true, false, ◌+◌, cond, ◌||◌, List, [], ◌∷◌, ◌++◌, Option, Some, None, option_and_then, option_map, ◌&&◌, ◌==◌}
use Rattle.dsv_base.specs.declared.form.Form.{Form}
use Rattle.dsv_base.specs.declared.form.Form.TheVariants as forms
use Rattle.dav_documents.specs.Plain.{begins_name, is_written_name_byte}
use Rattle.dav_elements.specs.declared.tag.Raw.{Raw}
use Rattle.dav_elements.specs.declared.tag.Tag.{Tag}
use Rattle.dav_elements.specs.declared.progress.Progress.{Progress}
use Rattle.dav_elements.specs.Names.{is_white}
use Rattle.dav_elements.specs.Growing.{enter, leave, say, refer}
use Rattle.dav_reading.specs.declared.mode.Aside.{Aside}
use Rattle.dav_reading.specs.declared.mode.Aside.TheVariants.{Marked, Comment, CommentDash, CommentEnd, Data, DataBracket, DataEnd, Typing, Quoted, Processing, ProcessingEnd}
use Rattle.dav_reading.specs.declared.form_place.FormPlace.{FormPlace}
use Rattle.dav_reading.specs.declared.mode.Brackets.{Brackets}
use Rattle.dav_reading.specs.declared.mode.Brackets.TheVariants.{Zero, One, Several}
use Rattle.dav_reading.specs.declared.mode.Mode.{Mode}
use Rattle.dav_reading.specs.declared.mode.Mode.TheVariants.{Content, TextRef, Less, Naming, Behind, Among, Keying, Keyed, Equal, Valued, ValueRef, Slash, Closing, Closed, Beside}
use Rattle.dav_reading.specs.declared.mode.Place.{Place}
use Rattle.dav_reading.specs.declared.mode.Reader.{Reader}
use Rattle.dav_reading.specs.LineEnds.{blanked}
use Rattle.dav_reading.specs.References.{referred}
use Rattle.dav_reading.specs.Asides.{now_in, then_between, read_aside}

-- behind a tag's name or an attribute: the tag ends, an empty element's tag may end, or white space comes
abbrev pub read_behind : Progress → Tag → ℕ → Option Place
read_behind progress tag b = cond (b == 62) (then_between (enter progress tag))
    (cond (b == 47) (now_in (Slash tag) progress)
    (cond (is_white b) (now_in (Among tag) progress) None))

-- behind an attribute's name, its `=` or white space
abbrev pub read_keyed : Progress → Tag → List ℕ → ℕ → Option Place
read_keyed progress tag key b = cond (b == 61) (now_in (Equal tag key) progress) (cond (is_white b) (now_in (Keyed tag key) progress) None)

-- behind an end tag's name, its `>` or white space
abbrev pub read_closed : Progress → List ℕ → ℕ → Option Place
read_closed progress name b = cond (b == 62) (then_between (leave progress name)) (cond (is_white b) (now_in (Closed name) progress) None)

-- a tag with one attribute more
abbrev pub with_raw : Tag → Raw → Tag
with_raw tag raw = record { name = tag.name; attrs = tag.attrs ++ raw ∷ [] }

-- a `]` more in a row; all from two on are alike
abbrev pub one_bracket_more : Brackets → Brackets
one_bracket_more Zero = One
one_bracket_more One = Several
one_bracket_more Several = Several

-- how many `]` stand in a row up to and with this byte
abbrev pub brackets_with : Brackets → ℕ → Brackets
brackets_with before b = cond (b == 93) (one_bracket_more before) Zero

-- there are two or more of them
abbrev pub are_several : Brackets → Bool
are_several Zero = false
are_several One = false
are_several Several = true

-- a byte of text between tags, where so many `]` stand just before; it isn't the end of `]]>`
abbrev pub read_said : Progress → Brackets → ℕ → Option Place
read_said progress before b = cond (b == 62 && are_several before) None (option_and_then (now_in (Content (brackets_with before b))) (say progress b))

-- one byte, by where the reader stands
abbrev pub read_in : Progress → Mode → ℕ → Option Place
read_in progress (Content before) b = cond (b == 60) (now_in Less progress) (cond (b == 38) (now_in (TextRef []) progress) (read_said progress before b))
read_in progress (TextRef word) b = cond (b == 59) (option_and_then (λ bytes. then_between (refer progress bytes)) (referred word)) (now_in (TextRef (word ++ b ∷ [])) progress)
read_in progress Less b = cond (begins_name b) (now_in (Naming (b ∷ [])) progress)
    (cond (b == 47) (now_in (Closing []) progress)
    (cond (b == 33) (now_in (Beside (Marked [])) progress)
    (cond (b == 63) (now_in (Beside Processing) progress) None)))
read_in progress (Naming name) b = cond (is_written_name_byte b) (now_in (Naming (name ++ b ∷ [])) progress) (read_behind progress (record { name = name; attrs = [] }) b)
read_in progress (Behind tag) b = read_behind progress tag b
read_in progress (Among tag) b = cond (begins_name b) (now_in (Keying tag (b ∷ [])) progress) (read_behind progress tag b)
read_in progress (Keying tag key) b = cond (is_written_name_byte b) (now_in (Keying tag (key ++ b ∷ [])) progress) (read_keyed progress tag key b)
read_in progress (Keyed tag key) b = read_keyed progress tag key b
read_in progress (Equal tag key) b = cond (b == 34 || b == 39) (now_in (Valued tag key b []) progress) (cond (is_white b) (now_in (Equal tag key) progress) None)
read_in progress (Valued tag key quote value) b = cond (b == quote) (now_in (Behind (with_raw tag (record { key = key; value = value }))) progress)
    (cond (b == 60) None
    (cond (b == 38) (now_in (ValueRef tag key quote value []) progress) (now_in (Valued tag key quote (value ++ blanked b ∷ [])) progress)))
read_in progress (ValueRef tag key quote value word) b = cond (b == 59) (option_and_then (λ bytes. now_in (Valued tag key quote (value ++ bytes)) progress) (referred word))
    (now_in (ValueRef tag key quote value (word ++ b ∷ [])) progress)
read_in progress (Slash tag) b = cond (b == 62) (option_and_then (λ inside. then_between (leave inside tag.name)) (enter progress tag)) None
read_in progress (Closing name) b = cond (is_written_name_byte b) (now_in (Closing (name ++ b ∷ [])) progress) (read_closed progress name b)
read_in progress (Closed name) b = read_closed progress name b
read_in progress (Beside aside) b = read_aside progress aside b

-- the left-out form that ends with this byte
abbrev pub form_of_aside : Aside → ℕ → Option Form
form_of_aside (Marked word) b = None
form_of_aside Comment b = None
form_of_aside CommentDash b = None
form_of_aside CommentEnd b = None
form_of_aside Data b = None
form_of_aside DataBracket b = None
form_of_aside DataEnd b = None
form_of_aside (Typing inside) b = cond (b == 62 && inside == 0) (Some forms.Doctype) None
form_of_aside (Quoted inside quote) b = None
form_of_aside Processing b = None
form_of_aside ProcessingEnd b = cond (b == 62) (Some forms.Processing) None

-- the left-out form that ends with this byte, if one does
abbrev pub form_in : Mode → ℕ → Option Form
form_in (Content before) b = None
form_in (TextRef word) b = None
form_in Less b = None
form_in (Naming name) b = None
form_in (Behind tag) b = None
form_in (Among tag) b = None
form_in (Keying tag key) b = None
form_in (Keyed tag key) b = None
form_in (Equal tag key) b = None
form_in (Valued tag key quote value) b = None
form_in (ValueRef tag key quote value word) b = None
form_in (Slash tag) b = None
form_in (Closing name) b = None
form_in (Closed name) b = None
form_in (Beside aside) b = form_of_aside aside b

-- how many elements began up to and with this byte, where so many began before: one more where a start tag's name begins
abbrev pub begun_with : ℕ → Mode → ℕ → ℕ
begun_with begun (Content before) b = begun
begun_with begun (TextRef word) b = begun
begun_with begun Less b = cond (begins_name b) (begun + 1) begun
begun_with begun (Naming name) b = begun
begun_with begun (Behind tag) b = begun
begun_with begun (Among tag) b = begun
begun_with begun (Keying tag key) b = begun
begun_with begun (Keyed tag key) b = begun
begun_with begun (Equal tag key) b = begun
begun_with begun (Valued tag key quote value) b = begun
begun_with begun (ValueRef tag key quote value word) b = begun
begun_with begun (Slash tag) b = begun
begun_with begun (Closing name) b = begun
begun_with begun (Closed name) b = begun
begun_with begun (Beside aside) b = begun

-- the form stands where so many elements have begun
abbrev pub placed_at : ℕ → Form → FormPlace
placed_at begun form = record { form = form; begun = begun }

-- the first left-out form up to here: the one that stood before, if one did, else the one that ends here
abbrev pub first_form : Option FormPlace → Option FormPlace → Option FormPlace
first_form None here = here
first_form (Some first) here = Some first

-- the first left-out form up to and with this byte; no element begins in a form, so that as many began before it as before its last byte
abbrev pub form_with : Reader → ℕ → Option FormPlace
form_with reader b = first_form reader.form (option_map (placed_at reader.begun) (form_in reader.place.mode b))

-- the reader that stands there behind this byte
abbrev pub reader_with : Reader → ℕ → Place → Reader
reader_with reader b place = record { place = place; begun = begun_with reader.begun reader.place.mode b; form = form_with reader b }

-- one byte more
abbrev pub read_byte : Reader → ℕ → Option Reader
read_byte reader b = option_map (reader_with reader b) (read_in reader.place.progress reader.place.mode b)

-- a text, byte by byte
abbrev pub read_bytes : Reader → List ℕ → Option Reader
read_bytes reader [] = Some reader
read_bytes reader (b ∷ bs) = option_and_then (λ next. read_bytes next bs) (read_byte reader b)
