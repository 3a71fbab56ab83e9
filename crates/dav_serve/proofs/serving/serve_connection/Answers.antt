use Rattle.std.proofs.Common.{◌≤◌, ℕ, refl, ◌∙◌, arith}
use Rattle.dsv_outside.proofs.Causes.{HasCause-earlier}
use Rattle.dav_serve.proofs.Progress.{begun}
use Rattle.dav_serve.proofs.Ends.{never_begun, ends_now, goes_on_now, smaller_now}
use Rattle.dav_serve.proofs.serving.serve_connection.Goals as goal

same : (n : ℕ) → n ≤ n
same n = omega arith

later : (a b c : ℕ) → a ≤ b → b ≤ c → a ≤ c
later a b c h k = omega arith

pub returns-in-Err-clause-says : goal.returns-in-Err-clause-says
returns-in-Err-clause-says g c = never_begun _ _ _ _

pub steps-init : goal.steps-init
steps-init g c = record {
  far = begun _ _ _ _ _ c.new-front.ensures;
  opening = refl;
  pass = refl;
  origin = refl;
  room = c.in-Ok.ensures.len;
  read = same _;
  written = same _;
}

pub returns-in-Some-clause-says : goal.returns-in-Some-clause-says
returns-in-Some-clause-says g c =
    ends_now _ _ _ _ _ _ _ _ _ _ c.in-Some.end c.steps.invariant.opening c.steps.invariant.pass c.steps.invariant.far c.in-Some.ensures.says

pub returns-in-Some-clause-read : goal.returns-in-Some-clause-read
returns-in-Some-clause-read g c = HasCause-earlier _ _ _ _ c.steps.invariant.read c.in-Some.ensures.read

pub returns-in-Some-clause-written : goal.returns-in-Some-clause-written
returns-in-Some-clause-written g c = HasCause-earlier _ _ _ _ c.steps.invariant.written c.in-Some.ensures.written

pub steps-smaller : goal.steps-smaller
steps-smaller g c =
    smaller_now _ _ _ _ _ _ _ _ _ _ c.steps.invariant.opening c.steps.invariant.pass c.steps.invariant.far c.in-None.ensures.says

pub steps-preserved : goal.steps-preserved
steps-preserved g c = record {
  far = goes_on_now _ _ _ _ _ _ _ _ _ _ c.steps.invariant.opening c.steps.invariant.pass c.steps.invariant.far c.in-None.ensures.says;
  opening = c.in-None.ensures.opening ∙ c.steps.invariant.opening;
  pass = c.in-None.ensures.pass ∙ c.steps.invariant.pass;
  origin = c.in-None.ensures.origin ∙ c.steps.invariant.origin;
  room = c.steps.invariant.room;
  read = later _ _ _ c.steps.invariant.read c.in-None.ensures.read.later;
  written = later _ _ _ c.steps.invariant.written c.in-None.ensures.written.later;
}
