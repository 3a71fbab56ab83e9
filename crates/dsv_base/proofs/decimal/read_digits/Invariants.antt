use Rattle.std.proofs.Common.{◌≡◌, ◌≤◌, true, length}
use Rattle.std.specs.List.{list_all}
use Rattle.dsv_base.specs.Numbers.{is_digit, digits_after}
use Rattle.dsv_base.proofs.decimal.read_digits.Given as goal

-- what is read and what is left spell the whole number
abbrev pub invariant-digits : goal.invariant-digits
invariant-digits l = record {
  digits : list_all is_digit l.rest ≡ true;
  spelled : digits_after l.number l.rest ≡ digits_after 0 l.fn.text;
  within : l.number ≤ l.most;
}

abbrev pub decreases-digits : goal.decreases-digits
decreases-digits l = length l.rest
