use Rattle.std.proofs.Common.{◌≡◌, ◌≤◌, ◌∙◌, ◌+◌, ◌-◌, ◌*◌, ℕ, get_or, drop, subst}
use Rattle.dsv_base.specs.Numbers.{digits_after}
use Rattle.dsv_base.proofs.Digits.{digits_after-rises, digits_after-front, too_large}
use Rattle.dsv_base.proofs.decimal.read_digits.Goals as goal

pub returns-in-None-clause-value : goal.returns-in-None-clause-value
returns-in-None-clause-value c =
    let next : ℕ = c.digits.number * 10 + (get_or c.digits.rest.now 0 0 - 48) in
    let whole : digits_after next (drop 1 c.digits.rest.now) ≡ digits_after 0 c.args.text.now = digits_after-front c.digits.number c.digits.rest.now c.in-len1-up.len_at_least ∙ c.digits.invariant.spelled in
    let rises : next ≤ digits_after 0 c.args.text.now = subst (λ n. next ≤ n) whole (digits_after-rises (drop 1 c.digits.rest.now) next) in
    too_large next c.args.most (digits_after 0 c.args.text.now) rises c.in-None.ensures.value
