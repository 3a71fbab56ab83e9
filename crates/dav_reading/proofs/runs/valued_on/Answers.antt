use Rattle.std.proofs.Common.{◌∙◌, ap, ℕ, List, Vec, Global, Bor}
use Rattle.dav_reading.specs.declared.mode.Reader.{Reader}
use Rattle.dav_reading.specs.Modes.{read_bytes}
use Rattle.dav_reading.specs.Runs.{in_value}
use Rattle.dav_reading.proofs.Running.{err_same, value_on, value_refers}
use Rattle.dav_reading.proofs.runs.valued_on.Goals as goal

pub returns-in-Err-clause-goes : goal.returns-in-Err-clause-goes
returns-in-Err-clause-goes c =
    let at : List ℕ → Reader = in_value c.args.progress c.args.tag c.args.key c.args.quote c.args.begun c.args.form in
    err_same (Vec ℕ Global × Bor (List ℕ)) (Reader × Bor (List ℕ)) (λ x. read_bytes (at x.0.items) x.1.now) (λ x. read_bytes x.0 x.1.now) c.in-Err.fault _ _ (ap (λ v. read_bytes (at v) c.args.text.now) c.into_vec.ensures)
    (c.in-Err.ensures.goes at (value_on c.args.progress c.args.tag c.args.key c.args.quote c.args.begun c.args.form) (value_refers c.args.progress c.args.tag c.args.key c.args.quote c.args.begun c.args.form c.requires))

pub returns-in-Ok-clause-goes : goal.returns-in-Ok-clause-goes
returns-in-Ok-clause-goes c =
    let at : List ℕ → Reader = in_value c.args.progress c.args.tag c.args.key c.args.quote c.args.begun c.args.form in
    ap (λ v. read_bytes (at v) c.in-Ok.rest.now) c.of.ensures
    ∙ c.in-Ok.ensures.goes at (value_on c.args.progress c.args.tag c.args.key c.args.quote c.args.begun c.args.form) (value_refers c.args.progress c.args.tag c.args.key c.args.quote c.args.begun c.args.form c.requires)
    ∙ ap (λ v. read_bytes (at v) c.args.text.now) c.into_vec.ensures
