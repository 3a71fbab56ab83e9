use Rattle.std.proofs.Common.{◌∙◌, ap, [], ℕ, List, Bor}
use Rattle.dav_reading.specs.declared.mode.Reader.{Reader}
use Rattle.dav_reading.specs.declared.mode.Mode.TheVariants.{Closing}
use Rattle.dav_reading.specs.declared.run.Run.TheVariants.{Name}
use Rattle.dav_reading.specs.Modes.{read_bytes}
use Rattle.dav_reading.specs.Runs.{reader_in}
use Rattle.dav_reading.proofs.Running.{run_is, closing_on, goes_same}
use Rattle.dav_reading.proofs.tags.closing_on.Goals as goal

pub returns-clause-goes : goal.returns-clause-goes
returns-clause-goes c =
    let at : List ℕ → Reader = λ n. reader_in (Closing n) c.args.progress c.args.begun c.args.form in
    goes_same {X = Reader × Bor (List ℕ)} (λ x. read_bytes x.0 x.1.now) c.closing_ended.result (read_bytes (at c.of.result) c.in_ok-name.rest.now) (read_bytes (at []) c.args.text.now)
    (ap (λ n. read_bytes (at n) c.in_ok-name.rest.now) c.of.ensures
    ∙ run_is Name at (closing_on c.args.progress c.args.begun c.args.form) c.new.result.items c.args.text.now c.in_ok-name.name.items c.in_ok-name.rest.now c.in_ok-name.ensures.left
    ∙ ap (λ n. read_bytes (at n) c.args.text.now) c.new.ensures.items)
    c.closing_ended.ensures.goes
