-- Faults of bodies.
use Rattle.std.specs.Prelude.{Bool, true, false}
use Rattle.dav_bodies.specs.declared.body_fault.BodyFault.{BodyFault}
use Rattle.dav_bodies.specs.declared.body_fault.BodyFault.TheVariants.{BadBody, NotInProfile, NoMemory}

-- want of memory, which is no answer on the body
abbrev pub is_free_of_body : BodyFault → Bool
is_free_of_body NoMemory = true
is_free_of_body BadBody = false
is_free_of_body (NotInProfile form) = false
