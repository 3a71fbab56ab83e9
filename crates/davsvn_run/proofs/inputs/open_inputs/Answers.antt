use Rattle.std.proofs.Common.{ℕ, ◌≤◌, subst, ◌∙◌, arith}
use Rattle.davsvn_run.specs.Commands.{FileNames}
use Rattle.davsvn_run.specs.Opening.{AreRules}
use Rattle.davsvn_run.specs.Worlds.{Contents}
use Rattle.davsvn_run.proofs.RunLemmas.{opened, rules_ended, users_ended}
use Rattle.davsvn_run.proofs.inputs.open_inputs.Goals as goal

later : {a b c : ℕ} → a ≤ b → b ≤ c → a ≤ c
later h k = omega arith

pub returns-in-Err-open_rules-clause-says : goal.returns-in-Err-open_rules-clause-says
returns-in-Err-open_rules-clause-says g c =
    let names : FileNames = record { script = c.args.names.script.now; rules = c.args.names.rules.now; users = c.args.names.users.now } in
    rules_ended _ _ names _ _ _ _ c.in-Ok.ensures.bytes c.in-Ok.ensures.same c.in-Ok.ensures.cause.later c.in-Err-open_rules.why _ c.in-Err-open_rules.ensures.bytes c.in-Err-open_rules.ensures.cause c.end_of-in-Err-open_rules.ensures

pub returns-in-Err-open_users-clause-says : goal.returns-in-Err-open_users-clause-says
returns-in-Err-open_users-clause-says g c =
    let names : FileNames = record { script = c.args.names.script.now; rules = c.args.names.rules.now; users = c.args.names.users.now } in
    let rules_file = subst (λ (k : Contents). AreRules k c.args.names.rules.now c.in-Ok-open_rules.rules) c.in-Ok.ensures.same c.in-Ok-open_rules.ensures.bytes in
    users_ended _ _ names _ _ _ _ c.in-Ok.ensures.bytes (c.in-Ok-open_rules.ensures.same ∙ c.in-Ok.ensures.same) (later c.in-Ok.ensures.cause.later c.in-Ok-open_rules.ensures.cause.later) c.in-Ok-open_rules.rules rules_file c.in-Err-open_users.why _ c.in-Err-open_users.ensures.bytes c.in-Err-open_users.ensures.cause c.end_of-in-Err-open_users.ensures

pub returns-clause-says : goal.returns-clause-says
returns-clause-says g c =
    let names : FileNames = record { script = c.args.names.script.now; rules = c.args.names.rules.now; users = c.args.names.users.now } in
    opened _ _ _ names _ _ _ c.in-Ok.ensures.same c.in-Ok-open_rules.ensures.same c.in-Ok.ensures.bytes c.in-Ok-open_rules.ensures.bytes c.in-Ok-open_users.ensures.bytes
