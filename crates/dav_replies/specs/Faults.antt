-- Refusals as the faults of calls.
use Rattle.std.specs.Prelude.{Bool, true, false}
use Rattle.dav_replies.specs.declared.refusal.Refusal.{Refusal}
use Rattle.dav_replies.specs.declared.refusal.Refusal.TheVariants.{NoMemory}

-- the refusal that is free: want of memory may come at any point
abbrev pub refusal_no_memory : Refusal → Bool
refusal_no_memory NoMemory = true
refusal_no_memory _ = false
