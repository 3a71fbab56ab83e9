use Rattle.std.proofs.Common.{◌≡◌, true, get_or, sym, ap, ◌∙◌, below_more, arith}
use Rattle.std.specs.Option.{option_copied}
use Rattle.std.proofs.lemmas.Slice.Eq.{bytes_eq-Decides}
use Rattle.authz_check.specs.Everywhere.{meets, tested}
use Rattle.authz_check.proofs.SectionsBelow.{get_or-any, passes_at, passes-some, section_fails, met_all}
use Rattle.authz_check.proofs.policy.Policy.sections_meet.Goals as goal

pub places-preserved-then-eq : goal.places-preserved-then-eq
places-preserved-then-eq c =
    let P = tested (meets c.args.demand) c.args.self.now.rules c.args.self.now.name (option_copied c.args.user) in
    let items = c.places_below-place-items.result.now in
    let index = c.places.place-index in
    let same = (bytes_eq-Decides c.text.result.now c.places.last.now).0 (sym c.eq.ensures ∙ c.if-eq.true) in
    let test = ap P (sym c.text.ensures.text ∙ same) ∙ c.places.invariant.here in
    let here = passes-some P c.args.self.now.name c.args.path.now c.args.self.now.rules (get_or items index 0) c.in-Some.rule.now (sym c.in-Some.ensures) test in
    record {
      here = c.places.invariant.here;
      passed = λ k d h. below_more (λ n. passes_at P c.args.self.now.name c.args.path.now c.args.self.now.rules (get_or items n d) ≡ true) index
          (λ n before. c.places.invariant.passed n d before)
          (ap (passes_at P c.args.self.now.name c.args.path.now c.args.self.now.rules) (get_or-any items index d 0 c.places-test.true) ∙ here) k h;
    }

pub returns-then-not-meets : goal.returns-then-not-meets
returns-then-not-meets c =
    let P = tested (meets c.args.demand) c.args.self.now.rules c.args.self.now.name (option_copied c.args.user) in
    let items = c.places_below-place-items.result.now in
    sym (section_fails P c.args.self.now.name c.args.path.now c.args.self.now.rules (get_or items c.places.place-index 0) c.in-Some.rule.now (sym c.in-Some.ensures)
    (ap (meets c.args.demand) (sym c.access.ensures) ∙ sym c.meets.ensures ∙ c.if-not-meets.true))

pub places-preserved : goal.places-preserved
places-preserved c =
    let P = tested (meets c.args.demand) c.args.self.now.rules c.args.self.now.name (option_copied c.args.user) in
    let items = c.places_below-place-items.result.now in
    let index = c.places.place-index in
    let test = ap (meets c.args.demand) (sym c.access.ensures) ∙ sym c.meets.ensures ∙ c.if-not-meets.false in
    let here = passes-some P c.args.self.now.name c.args.path.now c.args.self.now.rules (get_or items index 0) c.in-Some.rule.now (sym c.in-Some.ensures) test in
    record {
      here = ap P c.text-last-in-places.ensures.text ∙ test;
      passed = λ k d h. below_more (λ n. passes_at P c.args.self.now.name c.args.path.now c.args.self.now.rules (get_or items n d) ≡ true) index
          (λ n before. c.places.invariant.passed n d before)
          (ap (passes_at P c.args.self.now.name c.args.path.now c.args.self.now.rules) (get_or-any items index d 0 c.places-test.true) ∙ here) k h;
    }

pub returns : goal.returns
returns c =
    let P = tested (meets c.args.demand) c.args.self.now.rules c.args.self.now.name (option_copied c.args.user) in
    sym (met_all P c.args.self.now.name c.args.path.now c.args.self.now.rules c.places_below-place-items.result.now c.requires c.places_below-place-items.ensures
    (λ k d h. c.places.invariant.passed k d (omega (arith, c.places-test.false))))
