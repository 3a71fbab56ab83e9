use Rattle.std.proofs.Common.{◌≤◌, ap, below_more, get_or, arith}
use Rattle.std.specs.Option.{option_copied}
use Rattle.authz_check.specs.Weights.{level, weight_at}
use Rattle.authz_check.proofs.SectionsBelow.{get_or-any}
use Rattle.authz_check.proofs.Weighed.{weight_at-top, found_all}
use Rattle.authz_check.proofs.sections.right_in.Goals as goal

pub places-preserved : goal.places-preserved
places-preserved c =
    let user = option_copied c.args.user in
    let repos = option_copied c.args.repos in
    let places = c.args.places.now in
    let index = c.places.place-index in
    let found = c.with_place-best.ensures in
    record {
      reached = λ k d h. below_more (λ n. weight_at user repos c.args.path.now c.args.rules.now (get_or places n d) ≤ level c.with_place-best.result) index
          (λ n before. omega (arith, found, c.places.invariant.reached n d before))
          (omega (arith, found, ap (weight_at user repos c.args.path.now c.args.rules.now) (get_or-any places index d 0 c.places-test.true))) k h;
      attained = omega (arith, found, c.places.invariant.attained, weight_at-top user repos c.args.path.now c.args.rules.now (get_or places index 0));
    }

pub returns : goal.returns
returns c =
    found_all (option_copied c.args.user) (option_copied c.args.repos) c.args.path.now c.args.rules.now c.args.places.now c.places.best c.requires
    (λ k d h. c.places.invariant.reached k d (omega (arith, c.places-test.false)))
    c.places.invariant.attained
