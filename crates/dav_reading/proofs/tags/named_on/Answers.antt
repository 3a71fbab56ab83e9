use Rattle.std.proofs.Common.{◌∙◌, ◌++◌, ◌∷◌, [], ap, ℕ, List, Bor}
use Rattle.dav_reading.specs.declared.mode.Reader.{Reader}
use Rattle.dav_reading.specs.declared.mode.Mode.TheVariants.{Naming}
use Rattle.dav_reading.specs.declared.run.Run.TheVariants.{Name}
use Rattle.dav_reading.specs.Modes.{read_bytes}
use Rattle.dav_reading.specs.Runs.{reader_in}
use Rattle.dav_reading.proofs.Running.{run_is, name_on, goes_same}
use Rattle.dav_reading.proofs.tags.named_on.Goals as goal

pub returns-clause-goes : goal.returns-clause-goes
returns-clause-goes c =
    let at : List ℕ → Reader = λ n. reader_in (Naming n) c.args.progress c.args.begun c.args.form in
    goes_same {X = Reader × Bor (List ℕ)} (λ x. read_bytes x.0 x.1.now) c.name_ended.result (read_bytes (at c.in_ok-name.name.items) c.in_ok-name.rest.now) (read_bytes (at (c.args.first ∷ [])) c.args.text.now)
    (run_is Name at (name_on c.args.progress c.args.begun c.args.form) c.push.new.self.items c.args.text.now c.in_ok-name.name.items c.in_ok-name.rest.now c.in_ok-name.ensures.left
    ∙ ap (λ n. read_bytes (at n) c.args.text.now) (c.in_ok-push.ensures.items ∙ ap (λ l. l ++ c.args.first ∷ []) c.new-name.ensures.items))
    c.name_ended.ensures.goes
