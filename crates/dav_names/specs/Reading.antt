-- What reading a target answers, and how the program walks over components.
use Rattle.std.specs.Prelude.{ℕ, Bool, true, false, List, [], Option, None, Some, Result}
use Rattle.std.specs.Option.{ok_or}
use Rattle.dsv_base.specs.Paths.{components}
use Rattle.dav_names.specs.declared.resource.Resource.{Resource}
use Rattle.dav_names.specs.declared.target_fault.TargetFault.{TargetFault}
use Rattle.dav_names.specs.declared.target_fault.TargetFault.TheVariants.{BadTarget, NoMemory}
use Rattle.dav_names.specs.Targets.{target}

-- the fault that is free: want of memory
abbrev pub target_no_memory : TargetFault → Bool
target_no_memory BadTarget = false
target_no_memory NoMemory = true

-- the resource, or the fault that there is none
abbrev pub read_target : List ℕ → List ℕ → Result Resource TargetFault
read_target root bytes = ok_or (target root bytes) BadTarget

-- the components of what is left, if anything is
abbrev pub parts_left : Option (List ℕ) → List (List ℕ)
parts_left None = []
parts_left (Some text) = components text
