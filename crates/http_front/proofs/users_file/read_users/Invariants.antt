use Rattle.std.proofs.Common.{◌≤◌, ◌+◌, [], length}
use Rattle.std.specs.Prelude.{option_copied}
use Rattle.dsv_base.specs.TextFiles.{file_lines, lines_left, left_size}
use Rattle.http_front.specs.UsersFile.{all_users, user_lines}
use Rattle.http_front.proofs.UserLines.{refused_from, ComesTo}
use Rattle.http_front.proofs.users_file.read_users.Given as goal

-- the users so far, and the lines of what is left
abbrev pub invariant-lines : goal.invariant-lines
invariant-lines l = record {
  so_far : ComesTo l.users (user_lines l.number (lines_left (option_copied l.rest))) (refused_from [] (user_lines 1 (file_lines l.fn.bytes))) (all_users (user_lines 1 (file_lines l.fn.bytes)));
  counted : l.number + left_size (option_copied l.rest) ≤ length l.fn.bytes + 2;
}

abbrev pub decreases-lines : goal.decreases-lines
decreases-lines l = left_size (option_copied l.rest)
