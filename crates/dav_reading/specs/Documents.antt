-- Documents: one element each, with what may stand around it.
use Rattle.std.specs.Prelude.{ℕ, cond, Bool, true, false, List, Option, Some, None, option_and_then, Result, Ok, Err}
use Rattle.dsv_base.specs.Gives.{◌>>=◌}
use Rattle.dsv_base.specs.Escapes.{xml_plain}
use Rattle.dav_elements.specs.declared.elem.Elem.{Elem}
use Rattle.dav_elements.specs.declared.progress.Progress.{Progress}
use Rattle.dav_elements.specs.declared.progress.Progress.TheVariants.{Before, Within, After}
use Rattle.dav_reading.specs.declared.document.Document.{Document}
use Rattle.dav_reading.specs.declared.form_place.FormPlace.{FormPlace}
use Rattle.dav_reading.specs.declared.tree_fault.TreeFault.{TreeFault}
use Rattle.dav_reading.specs.declared.tree_fault.TreeFault.TheVariants.{BadDocument, NotInProfile, NoMemory}
use Rattle.dav_reading.specs.declared.mode.Brackets.TheVariants.{Zero}
use Rattle.dav_reading.specs.declared.mode.Mode.{Mode}
use Rattle.dav_reading.specs.declared.mode.Mode.TheVariants.{Content, TextRef, Less, Naming, Behind, Among, Keying, Keyed, Equal, Valued, ValueRef, Slash, Closing, Closed, Beside}
use Rattle.dav_reading.specs.declared.mode.Reader.{Reader}
use Rattle.dav_reading.specs.LineEnds.{lines_joined}
use Rattle.dav_reading.specs.Heads.{behind_mark, after_head}
use Rattle.dav_reading.specs.Modes.{read_bytes}

-- a reader before the first byte; so many elements may stand in each other
abbrev pub reader_at_start : ℕ → Reader
reader_at_start nest = record { place = record { mode = Content Zero; progress = Before nest false }; begun = 0; form = None }

-- it stands between tags, outside all else
abbrev pub is_content : Mode → Bool
is_content (Content before) = true
is_content (TextRef word) = false
is_content Less = false
is_content (Naming name) = false
is_content (Behind tag) = false
is_content (Among tag) = false
is_content (Keying tag key) = false
is_content (Keyed tag key) = false
is_content (Equal tag key) = false
is_content (Valued tag key quote value) = false
is_content (ValueRef tag key quote value word) = false
is_content (Slash tag) = false
is_content (Closing name) = false
is_content (Closed name) = false
is_content (Beside aside) = false

-- the element that was read, once it is ended
abbrev pub ended_elem : Progress → Option Elem
ended_elem (Before nest typed) = None
ended_elem (Within f around) = None
ended_elem (After e) = Some e

-- the element that was read, where the text ends behind it and between tags
abbrev pub whole_in : Mode → Progress → Option Elem
whole_in mode progress = cond (is_content mode) (ended_elem progress) None

-- a whole document by its root and its first left-out form; without a root the text is in no grammar
abbrev pub document_with : Option FormPlace → Option Elem → Result Document TreeFault
document_with form None = Err BadDocument
document_with form (Some root) = Ok (record { root = root; form = form })

-- what a reader answers at the text's end
abbrev pub answer_at_end : Option Reader → Result Document TreeFault
answer_at_end None = Err BadDocument
answer_at_end (Some reader) = document_with reader.form (whole_in reader.place.mode reader.place.progress)

-- a text whose line ends are joined
abbrev pub document_in : ℕ → List ℕ → Result Document TreeFault
document_in nest text = answer_at_end (option_and_then (read_bytes (reader_at_start nest)) (after_head (behind_mark text)))

-- a document, in which at most so many elements stand in each other: its element, and the first form in it that is left out, with its place; else that it isn't in the grammar
unfoldable pub document : ℕ → List ℕ → Result Document TreeFault
document nest bytes = cond (xml_plain bytes) (document_in nest (lines_joined bytes)) (Err BadDocument)

-- an element, where no form is left out; else that form
abbrev pub root_without : Elem → Option FormPlace → Result Elem TreeFault
root_without root None = Ok root
root_without root (Some first) = Err (NotInProfile first.form)

-- a document's element, or its first left-out form
abbrev pub element_or_form : Document → Result Elem TreeFault
element_or_form d = root_without d.root d.form

-- the element of a document, in which at most so many stand in each other; else that it isn't in the grammar, or the first form in it that is left out
unfoldable pub tree : ℕ → List ℕ → Result Elem TreeFault
tree nest bytes = document nest bytes >>= element_or_form

-- want of memory, which is no answer on the document
abbrev pub is_free_of_tree : TreeFault → Bool
is_free_of_tree NoMemory = true
is_free_of_tree BadDocument = false
is_free_of_tree (NotInProfile form) = false
