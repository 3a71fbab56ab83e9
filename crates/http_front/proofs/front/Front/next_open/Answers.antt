use Rattle.std.proofs.Common.{drop, inl, subst, ap, ◌∙◌}
use Rattle.http_front.specs.declared.advance.Advance.TheVariants.{Needs}
use Rattle.http_front.specs.Advances.{AdvanceSays, IsAlways}
use Rattle.http_front.specs.Answers.{NextSays, Waits}
use Rattle.http_front.specs.Fronts.{FrontState}
use Rattle.http_front.specs.Outcomes.{Part, Refused}
use Rattle.http_front.proofs.InsideLemmas.{waits_from}
use Rattle.http_front.proofs.front.Front.next_open.Goals as goal

pub stop-requires-clause-first : goal.stop-requires-clause-first
stop-requires-clause-first c =
    subst (λ t. IsAlways t (λ u n. Refused c.in-Ok-Rejects.why)) (c.rest_from-rest.ensures ∙ ap (drop c.self.inside.start) c.as_slice.ensures.value)
    (subst (AdvanceSays c.rest_from-rest.result.now) c.in-Ok-Rejects.field-0-is c.in-Ok-Rejects.ensures)

pub returns-in-Ok-Needs-clause-says : goal.returns-in-Ok-Needs-clause-says
returns-in-Ok-Needs-clause-says c =
    let says : AdvanceSays c.rest_from-rest.result.now (Needs c.in-Ok-Needs.progress) = subst (AdvanceSays c.rest_from-rest.result.now) c.in-Ok-Needs.field-0-is c.in-Ok-Needs.ensures in
    let first : IsAlways (drop c.self.inside.start c.self.inside.bytes.items) (λ u n. Part) =
    subst (λ t. IsAlways t (λ u n. Part)) (c.rest_from-rest.ensures ∙ ap (drop c.self.inside.start) c.as_slice.ensures.value) says.0 in
    record {
      same = c.self.view_is;
      why = inl (subst (Waits c.args.users.now) c.self.view_is
          (waits_from c.args.users.now c.self.inside.number c.self.inside.at c.self.inside.start c.self.inside.bytes.items c.self.inside.phase c.self.inside.progress c.self.invariant
          (ap (λ (s : FrontState). s.phase) c.self.view_is ∙ c.requires) first));
    }

pub returns-in-Ok-Rejects-clause-says : goal.returns-in-Ok-Rejects-clause-says
returns-in-Ok-Rejects-clause-says c = subst (λ s. NextSays c.args.users.now s c.stop.new.self c.stop.result) c.self.view_is (c.stop.ensures.says c.args.users.now)
