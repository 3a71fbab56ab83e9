use Rattle.std.proofs.Common.{◌≡◌, ap, ◌∙◌}
use Rattle.dsv_base.specs.Paths.{front_of}
use Rattle.path_locks.specs.LockStates.{locks_under}
use Rattle.path_locks.specs.Kept.{run_of, those_under}
use Rattle.path_locks.proofs.Runs.{run_is}
use Rattle.path_locks.proofs.locks.Locks.under.Goals as goal

pub returns : goal.returns
returns c =
    let front = c.front_of-front.ensures ∙ ap front_of c.text.ensures.text in
    let all : those_under c.args.path.now (run_of c.front_of-front.result.now c.range.result) ≡ locks_under c.args.path.now c.args.self.now =
    ap (λ f. those_under c.args.path.now (run_of f c.range.result)) front
    ∙ ap (λ es. those_under c.args.path.now (run_of (front_of c.args.path.now) es)) (c.range.ensures.between tt)
    ∙ run_is (λ k. k.items) c.args.path.now c.in_ok-first.first (c.in_ok-first.ensures.items ∙ front) c.self.inside.map.entries c.range.ensures.ordered c.self.invariant
    ∙ ap (locks_under c.args.path.now) c.self.view_is in
    rw all at c.found_in.ensures
