-- The end of an empty element, as the code reads it.
use Rattle.std.proofs.Common.{◌≡◌, ℕ, List, Option, Some, None, subst, ap}
use Rattle.std.specs.Prelude.{Err}
use Rattle.dav_elements.specs.declared.unread.Unread.{Unread}
use Rattle.dav_elements.specs.declared.unread.Unread.TheVariants.{Bad, NoMemory}
use Rattle.dav_elements.specs.declared.tag.Tag.{Tag}
use Rattle.dav_elements.specs.declared.progress.Progress.{Progress}
use Rattle.dav_elements.specs.Takes.{Takes}
use Rattle.dav_elements.specs.Growing.{enter, leave}
use Rattle.dav_reading.specs.declared.mode.Place.{Place}
use Rattle.dav_reading.specs.declared.mode.Mode.TheVariants.{Slash}
use Rattle.dav_reading.specs.Asides.{now_between, then_between}
use Rattle.dav_reading.specs.Modes.{read_in}

slashed : (progress inside : Progress) (tag : Tag) (name : List ℕ) (b : ℕ) (out : Option Progress) → b ≡ 62 → enter progress tag ≡ Some inside → name ≡ tag.name → leave inside name ≡ out
    → read_in progress (Slash tag) b ≡ then_between out
slashed progress inside tag name b out e i n l =
    let P : List ℕ → Type 0 = λ x. leave inside x ≡ out in
    rw e (rw i (ap then_between (subst P n l)))

pub slash_ok : (progress inside out : Progress) (tag : Tag) (name : List ℕ) (b : ℕ) → b ≡ 62 → enter progress tag ≡ Some inside → name ≡ tag.name → leave inside name ≡ Some out
    → read_in progress (Slash tag) b ≡ now_between out
slash_ok progress inside out tag name b = slashed progress inside tag name b (Some out)

pub slash_err : (progress inside : Progress) (tag : Tag) (name : List ℕ) (b : ℕ) (fault : Unread) → b ≡ 62 → enter progress tag ≡ Some inside → name ≡ tag.name → Takes {X = Progress} (Err fault) (leave inside name)
    → Takes {X = Place} (Err fault) (read_in progress (Slash tag) b)
slash_err progress inside tag name b Bad e i n l = slashed progress inside tag name b None e i n l
slash_err progress inside tag name b NoMemory e i n l = tt
