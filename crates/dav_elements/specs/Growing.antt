-- The elements that are open while a document is read, and what tags and texts do to them.
use Rattle.std.specs.Prelude.{ℕ, true, false, cond, List, [], ◌∷◌, ◌++◌, Option, Some, None, option_map}
use Rattle.std.specs.Str.{bytes_eq}
use Rattle.dav_elements.specs.declared.elem.Part.{Part, Text, Child}
use Rattle.dav_elements.specs.declared.elem.Elem.{Elem}
use Rattle.dav_elements.specs.declared.tag.Tag.{Tag}
use Rattle.dav_elements.specs.declared.frame.Opened.{Opened}
use Rattle.dav_elements.specs.declared.frame.Frame.{Frame}
use Rattle.dav_elements.specs.declared.progress.Progress.{Progress}
use Rattle.dav_elements.specs.declared.progress.Progress.TheVariants.{Before, Within, After}
use Rattle.dav_elements.specs.Names.{is_white}
use Rattle.dav_elements.specs.Opening.{outermost, opened_by}

-- an element whose start tag was just read
abbrev pub fresh : List ℕ → Opened → Frame
fresh raw head = record { raw = raw; head = head; parts = []; text = [] }

-- a text as a part; an empty one is none
abbrev pub text_part : List ℕ → List Part
text_part [] = []
text_part (b ∷ bs) = Text (b ∷ bs) ∷ []

-- an element's parts, with the text behind them
abbrev pub all_parts : Frame → List Part
all_parts f = f.parts ++ text_part f.text

-- one part more
abbrev pub with_part : Frame → Part → Frame
with_part f part = record f { parts = all_parts f ++ part ∷ []; text = [] }

-- the element as it is once its end tag was read
abbrev pub elem_of : Frame → Elem
elem_of f = record { name = f.head.name; attrs = f.head.attrs; parts = all_parts f }

-- a start tag is read
abbrev pub enter : Progress → Tag → Option Progress
enter (Before nest typed) tag = option_map (λ o. Within (fresh tag.name o) []) (opened_by (outermost nest) tag)
enter (Within f around) tag = option_map (λ o. Within (fresh tag.name o) (f ∷ around)) (opened_by f.head.scope tag)
enter (After e) tag = None

-- the innermost element is ended, and is a part of the one around it
abbrev pub frame_closed : Frame → List Frame → Progress
frame_closed f [] = After (elem_of f)
frame_closed f (g ∷ around) = Within (with_part g (Child (elem_of f))) around

-- an end tag is read, by its name as it is written
abbrev pub leave : Progress → List ℕ → Option Progress
leave (Within f around) name = cond (bytes_eq name f.raw) (Some (frame_closed f around)) None
leave (Before nest typed) name = None
leave (After e) name = None

-- a byte of text is read; outside the element it has to be white space
abbrev pub say : Progress → ℕ → Option Progress
say (Within f around) b = Some (Within (record f { text = f.text ++ b ∷ [] }) around)
say (Before nest typed) b = cond (is_white b) (Some (Before nest typed)) None
say (After e) b = cond (is_white b) (Some (After e)) None

-- bytes that may stand in the element alone, as those of a reference
abbrev pub refer : Progress → List ℕ → Option Progress
refer (Within f around) bytes = Some (Within (record f { text = f.text ++ bytes }) around)
refer (Before nest typed) bytes = None
refer (After e) bytes = None

-- a document type declaration is read: there is one at most, before the element
abbrev pub declare : Progress → Option Progress
declare (Before nest false) = Some (Before nest true)
declare (Before nest true) = None
declare (Within f around) = None
declare (After e) = None
