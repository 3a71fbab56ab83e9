use Rattle.std.proofs.Common.{◌≡◌, sym, subst, ◌≤◌, length, Option, arith}
use Rattle.davsvn_run.specs.Services.{Service}
use Rattle.davsvn_run.specs.ServiceRuns.{IsManned}
use Rattle.davsvn_run.proofs.ServiceLemmas.{well_served}
use Rattle.davsvn_run.proofs.serving.serve_words.Goals as goal

pub serve_inputs-requires-clause-some : goal.serve_inputs-requires-clause-some
serve_inputs-requires-clause-some g c κs within =
    let manned = subst (λ (s : Option Service). IsManned s (length c.args.doors.items) (length c.args.clocks.items)) (sym c.in-Some.ensures.value) c.requires.manned in
    let doors : length c.args.doors.items ≡ c.in-Some.asked.workers = manned.0 in
    let some : 1 ≤ c.in-Some.asked.workers = c.in-Some.ensures.bound.0 in
    omega arith

pub serve_inputs-requires-clause-few : goal.serve_inputs-requires-clause-few
serve_inputs-requires-clause-few g c κs within =
    let manned = subst (λ (s : Option Service). IsManned s (length c.args.doors.items) (length c.args.clocks.items)) (sym c.in-Some.ensures.value) c.requires.manned in
    let doors : length c.args.doors.items ≡ c.in-Some.asked.workers = manned.0 in
    let few : c.in-Some.asked.workers ≤ 64 = c.in-Some.ensures.bound.1 in
    omega arith

pub returns-in-Ok-serve_inputs-clause-says : goal.returns-in-Ok-serve_inputs-clause-says
returns-in-Ok-serve_inputs-clause-says g c =
    let manned = subst (λ (s : Option Service). IsManned s (length c.args.doors.items) (length c.args.clocks.items)) (sym c.in-Some.ensures.value) c.requires.manned in
    well_served g.P.Keeper.faults g.P.Keeper.kept g.D.Door.state g.D.Door.faults g.C.Clock.readings _ _ _ _ c.args.keeper c.args.doors.items c.args.clocks.items c.in-Ok-serve_inputs.doors.items c.in-Ok-serve_inputs.hub c.in-Ok.inputs
    (sym c.in-Some.ensures.value) manned.0 c.in-Ok.ensures.says c.in-Ok-serve_inputs.ensures
