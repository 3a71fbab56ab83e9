use Rattle.std.proofs.Common.{◌≤◌, ◌+◌, length}
use Rattle.rev_scripts.specs.Scripts.{items_from}
use Rattle.rev_scripts.proofs.ItemTurns.{IsRead}
use Rattle.rev_scripts.proofs.reader.read_items.Given as goal

-- what was told so far, and the items that are left
abbrev pub invariant-items : goal.invariant-items
invariant-items l = record {
  read : IsRead l.number l.told l.begins l.rest (items_from (length l.fn.text) l.fn.number l.fn.told l.fn.line l.fn.text);
  room : l.begins + length l.rest ≤ l.fn.line + length l.fn.text;
  shorter : length l.rest ≤ length l.fn.text;
  few : length l.told.changes + length l.rest ≤ length l.fn.told.changes + length l.fn.text;
}

abbrev pub decreases-items : goal.decreases-items
decreases-items l = length l.rest
