use Rattle.std.proofs.Common.{◌∙◌, sym, arith, ℕ, List, Vec, Global, Bor}
use Rattle.std.specs.Prelude.{Err}
use Rattle.std.proofs.lemmas.Result.{err_from_is_err_and}
use Rattle.dav_reading.specs.Modes.{read_bytes}
use Rattle.dav_reading.proofs.Running.{run_is, goes_same}
use Rattle.dav_reading.proofs.runs.pieces_read.Goals as goal

pub references-init : goal.references-init
references-init c = record {
  goes = λ at on refers. run_is c.args.run at on c.args.read.items c.args.text.now c.in_ok-first.first.items c.in_ok-first.behind.now c.in_ok-first.ensures.left;
  shorter = c.in_ok-first.ensures.shorter;
}

pub returns-in_err-more-in-Some-clause-goes : goal.returns-in_err-more-in-Some-clause-goes
returns-in_err-more-in-Some-clause-goes c = λ at on refers.
    let p = err_from_is_err_and c.from_residual-in_err-more-in-Some.result c.from_residual-in_err-more-in-Some.ensures.1 in
    rw (p.1, p.2) (goes_same {X = Vec ℕ Global × Bor (List ℕ)} (λ x. read_bytes (at x.0.items) x.1.now) (Err c.in_err-more-in-Some.field-0.0) _ _ (sym (refers c.references.read.items c.references.rest.now c.in-Some.word.now c.in-Some.behind.now c.in-Some.ensures.cut) ∙ c.references.invariant.goes at on refers) (c.in_err-more-in-Some.ensures.goes at on))

pub references-preserved : goal.references-preserved
references-preserved c = record {
  goes = λ at on refers. c.in_ok-more-in-Some.ensures.goes at on ∙ sym (refers c.references.read.items c.references.rest.now c.in-Some.word.now c.in-Some.behind.now c.in-Some.ensures.cut) ∙ c.references.invariant.goes at on refers;
  shorter = omega (arith, c.in_ok-more-in-Some.ensures.shorter, c.in-Some.ensures.shorter, c.references.invariant.shorter);
}
