use Rattle.std.proofs.Common.{◌≡◌, None, drop}
use Rattle.authz_file.specs.Entries.{entries_of}
use Rattle.authz_file.specs.Reading.{with_front}
use Rattle.authz_file.proofs.entries.entries_of.Given as goal

-- the entries so far, and those of the lines that are left
abbrev pub invariant-lines : goal.invariant-lines
invariant-lines l = with_front l.reading.entries.items (entries_of l.reading.section (drop l.line-index l.lines)) ≡ entries_of None l.fn.lines
