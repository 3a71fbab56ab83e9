-- The line that a fault names, and which fault is free: want of memory, which no file brings about.
use Rattle.std.specs.Prelude.{ℕ, Bool, true, false, Option, None, Some}
use Rattle.authz_file.specs.declared.rules_fault.RulesFault.{RulesFault}
use Rattle.authz_file.specs.declared.rules_fault.RulesFault.TheVariants.{BadLine, BadSection, BadAccess, UnknownGroup, UnknownAlias, GroupCycle, NoMemory}

-- the fault is free: want of memory
abbrev pub is_free_rules_fault : RulesFault → Bool
is_free_rules_fault (BadLine line) = false
is_free_rules_fault (BadSection line) = false
is_free_rules_fault (BadAccess line) = false
is_free_rules_fault (UnknownGroup line) = false
is_free_rules_fault (UnknownAlias line) = false
is_free_rules_fault (GroupCycle line) = false
is_free_rules_fault NoMemory = true

-- the line that is named; want of memory names none
abbrev pub line_of : RulesFault → Option ℕ
line_of (BadLine line) = Some line
line_of (BadSection line) = Some line
line_of (BadAccess line) = Some line
line_of (UnknownGroup line) = Some line
line_of (UnknownAlias line) = Some line
line_of (GroupCycle line) = Some line
line_of NoMemory = None
