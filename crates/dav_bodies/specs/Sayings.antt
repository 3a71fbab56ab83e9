-- What bodies say that are in the wide grammar of their kind, which has the left-out forms in it.
use Rattle.std.specs.Prelude.{cond, Option, Some, None, Result, Ok, Err, nat_lt}
use Rattle.dav_reading.specs.declared.form_place.FormPlace.{FormPlace}
use Rattle.dav_bodies.specs.declared.body.Body.{Body}
use Rattle.dav_bodies.specs.declared.body_fault.BodyFault.{BodyFault}
use Rattle.dav_bodies.specs.declared.body_fault.BodyFault.TheVariants.{NotInProfile}
use Rattle.dav_bodies.specs.declared.said.Said.{Said}
use Rattle.dav_bodies.specs.declared.said.Said.TheVariants.{Asks, Leaves}

-- the first of two left-out forms, of which the other one is the document's: the one at an element comes first where that element begins before the document's
abbrev pub first_of : FormPlace → FormPlace → FormPlace
first_of own other = cond (nat_lt own.begun other.begun) own other

-- the first left-out form of a body, by that of its elements and attributes and that of its document, if it has one
abbrev pub first_left : FormPlace → Option FormPlace → FormPlace
first_left own None = own
first_left own (Some other) = first_of own other

-- what a body asks for, by what its root says and by the first left-out form of its document; or the first left-out form in it
abbrev pub asked : Option FormPlace → Said → Result Body BodyFault
asked None (Asks body) = Ok body
asked (Some other) (Asks body) = Err (NotInProfile other.form)
asked other (Leaves own) = Err (NotInProfile (first_left own other).form)
