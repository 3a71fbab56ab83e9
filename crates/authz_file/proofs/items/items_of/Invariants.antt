use Rattle.std.proofs.Common.{◌≡◌, ◌++◌, true}
use Rattle.std.specs.Prelude.{option_copied, map}
use Rattle.std.specs.List.{slice_split, list_all}
use Rattle.dsv_base.specs.TextFiles.{left_size, trimmed}
use Rattle.dsv_base.specs.TextFiles.{is_comma}
use Rattle.authz_file.specs.Words.{is_word}
use Rattle.authz_file.specs.Reading.{items_left}
use Rattle.authz_file.proofs.items.items_of.Given as goal

-- the words so far, and the items that are left
abbrev pub invariant-items : goal.invariant-items
invariant-items l = record {
  items : l.words.items ++ map trimmed (items_left (option_copied l.rest)) ≡ map trimmed (slice_split is_comma l.fn.value);
  words : list_all is_word l.words.items ≡ true;
}

abbrev pub decreases-items : goal.decreases-items
decreases-items l = left_size (option_copied l.rest)
