use Rattle.std.proofs.Common.{◌∙◌, ap, ℕ, List, Vec, Global, Bor}
use Rattle.dav_reading.specs.declared.mode.Reader.{Reader}
use Rattle.dav_reading.specs.Modes.{read_bytes}
use Rattle.dav_reading.specs.Runs.{in_text}
use Rattle.dav_reading.proofs.Running.{err_same, text_on, text_refers}
use Rattle.dav_reading.proofs.runs.text_on.Goals as goal

pub returns-in-Err-clause-goes : goal.returns-in-Err-clause-goes
returns-in-Err-clause-goes c =
    let at : List ℕ → Reader = in_text c.args.frame c.args.around c.args.begun c.args.form in
    err_same (Vec ℕ Global × Bor (List ℕ)) (Reader × Bor (List ℕ)) (λ x. read_bytes (at x.0.items) x.1.now) (λ x. read_bytes x.0 x.1.now) c.in-Err.fault _ _ (ap (λ v. read_bytes (at v) c.args.text.now) c.into_vec.ensures)
    (c.in-Err.ensures.goes at (text_on c.args.frame c.args.around c.args.begun c.args.form) (text_refers c.args.frame c.args.around c.args.begun c.args.form))

pub returns-in-Ok-clause-goes : goal.returns-in-Ok-clause-goes
returns-in-Ok-clause-goes c =
    let at : List ℕ → Reader = in_text c.args.frame c.args.around c.args.begun c.args.form in
    ap (λ v. read_bytes (at v) c.in-Ok.rest.now) c.of.ensures
    ∙ c.in-Ok.ensures.goes at (text_on c.args.frame c.args.around c.args.begun c.args.form) (text_refers c.args.frame c.args.around c.args.begun c.args.form)
    ∙ ap (λ v. read_bytes (at v) c.args.text.now) c.into_vec.ensures
