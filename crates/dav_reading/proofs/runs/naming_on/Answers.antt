use Rattle.std.proofs.Common.{◌∙◌, ap, ℕ, List}
use Rattle.dav_reading.specs.declared.mode.Reader.{Reader}
use Rattle.dav_reading.specs.declared.mode.Mode.TheVariants.{Naming}
use Rattle.dav_reading.specs.declared.run.Run.TheVariants.{Name}
use Rattle.dav_reading.specs.Modes.{read_bytes}
use Rattle.dav_reading.specs.Runs.{reader_in}
use Rattle.dav_reading.proofs.Running.{run_is, name_on}
use Rattle.dav_reading.proofs.runs.naming_on.Goals as goal

pub returns-clause-goes : goal.returns-clause-goes
returns-clause-goes c =
    let at : List ℕ → Reader = λ n. reader_in (Naming n) c.args.progress c.args.begun c.args.form in
    ap (λ n. read_bytes (at n) c.in_ok-name.rest.now) c.of.ensures
    ∙ run_is Name at (name_on c.args.progress c.args.begun c.args.form) c.into_vec.result.items c.args.text.now c.in_ok-name.name.items c.in_ok-name.rest.now c.in_ok-name.ensures.left
    ∙ ap (λ n. read_bytes (at n) c.args.text.now) c.into_vec.ensures
