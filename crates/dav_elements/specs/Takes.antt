-- What a reader takes, against a definition.
use Rattle.std.specs.Prelude.{◌≡◌, Option, Some, None, Result, Ok, Err}
use Rattle.dav_elements.specs.declared.unread.Unread.{Unread}
use Rattle.dav_elements.specs.declared.unread.Unread.TheVariants.{Bad, NoMemory}

-- the answer is what the definition gives, and the text is bad exactly where that gives nothing; want of memory is free
abbrev pub Takes : {X : Type 0} → Result X Unread → Option X → Type 0
Takes (Ok x) right = right ≡ Some x
Takes (Err Bad) right = right ≡ None
Takes (Err NoMemory) right = Unit {0}

-- the same of an answer that is seen by a view, as the bytes that a reference points to
abbrev pub TakesBy : {X Y : Type 0} → (X → Y) → Result X Unread → Option Y → Type 0
TakesBy view (Ok x) right = right ≡ Some (view x)
TakesBy view (Err Bad) right = right ≡ None
TakesBy view (Err NoMemory) right = Unit {0}
