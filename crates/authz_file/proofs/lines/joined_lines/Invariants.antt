use Rattle.std.proofs.Common.{◌≡◌, ◌≤◌, ◌+◌, ◌++◌, false, length}
use Rattle.std.specs.Prelude.{option_copied}
use Rattle.dsv_base.specs.TextFiles.{file_lines, lines_left, left_size}
use Rattle.authz_file.specs.Lines.{joined_lines}
use Rattle.authz_file.proofs.lines.joined_lines.Given as goal

-- the lines so far, and those of what is left
abbrev pub invariant-lines : goal.invariant-lines
invariant-lines l = record {
  joined : l.lines.items ++ joined_lines l.begun l.number (lines_left (option_copied l.rest)) ≡ joined_lines false 1 (file_lines l.fn.bytes);
  counted : l.number + left_size (option_copied l.rest) ≤ length l.fn.bytes + 2;
}

abbrev pub decreases-lines : goal.decreases-lines
decreases-lines l = left_size (option_copied l.rest)
