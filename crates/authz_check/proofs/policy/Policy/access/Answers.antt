use Rattle.std.proofs.Common.{sym, ap, ◌∙◌}
use Rattle.std.specs.Option.{option_copied}
use Rattle.dsv_base.specs.Paths.{ancestors}
use Rattle.authz_check.specs.Access.{access, right_at}
use Rattle.authz_check.proofs.AccessWalk.{along, rooted_path, parent_below, along-here, along-parent, along-end, none_from}
use Rattle.authz_check.proofs.policy.Policy.access.Goals as goal

pub upwards-init : goal.upwards-init
unfolding access
upwards-init c =
    let same = c.text-at.ensures.text in
    record { rooted = rw same (rooted_path c.args.path.now c.text-at.ensures.path); left = ap (λ at. along (right_at c.args.self.now.rules c.args.self.now.name (option_copied c.args.user)) (ancestors at)) same }

pub returns-in-Some : goal.returns-in-Some
returns-in-Some c =
    let given = right_at c.args.self.now.rules c.args.self.now.name (option_copied c.args.user) in
    sym (along-here given c.upwards.at.now c.in-Some.right (sym c.in-Some.ensures)) ∙ c.upwards.invariant.left

pub upwards-smaller : goal.upwards-smaller
upwards-smaller c = (parent_below c.upwards.at.now c.in-Some-parent_text.parent.now c.upwards.invariant.rooted (sym c.in-Some-parent_text.ensures)).shorter

pub upwards-preserved : goal.upwards-preserved
upwards-preserved c =
    let given = right_at c.args.self.now.rules c.args.self.now.name (option_copied c.args.user) in
    let up = sym c.in-Some-parent_text.ensures in
    let nothing = sym c.right_at.ensures ∙ none_from c.right_at.result c.in_default.not-Some in
    record {
      rooted = (parent_below c.upwards.at.now c.in-Some-parent_text.parent.now c.upwards.invariant.rooted up).rooted;
      left = sym (along-parent given c.upwards.at.now c.in-Some-parent_text.parent.now c.upwards.invariant.rooted nothing up) ∙ c.upwards.invariant.left;
    }

pub returns-in-None : goal.returns-in-None
returns-in-None c =
    let given = right_at c.args.self.now.rules c.args.self.now.name (option_copied c.args.user) in
    let nothing = sym c.right_at.ensures ∙ none_from c.right_at.result c.in_default.not-Some in
    sym (along-end given c.upwards.at.now c.upwards.invariant.rooted nothing (sym c.in-None.ensures)) ∙ c.upwards.invariant.left
