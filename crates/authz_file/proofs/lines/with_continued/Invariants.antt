use Rattle.std.proofs.Common.{◌≡◌, ◌++◌}
use Rattle.std.specs.Prelude.{option_copied}
use Rattle.dsv_base.specs.TextFiles.{lines_left, left_size}
use Rattle.authz_file.specs.Lines.{continued}
use Rattle.authz_file.proofs.lines.with_continued.Given as goal

-- the text so far, and what the lines that are left add to it
abbrev pub invariant-more : goal.invariant-more
invariant-more l = l.text.items ++ continued (lines_left (option_copied l.rest)) ≡ l.fn.line ++ continued (lines_left (option_copied l.fn.after))

abbrev pub decreases-more : goal.decreases-more
decreases-more l = left_size (option_copied l.rest)
