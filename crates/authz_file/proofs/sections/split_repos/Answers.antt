use Rattle.std.proofs.Common.{◌≡◌, ℕ, ◌+◌, ◌-◌, List, take, drop, length, ap, Some, sym, ◌∙◌, arith, true, false}
use Rattle.std.proofs.lemmas.Grind.{common_steps}
use Rattle.authz_file.specs.Sections.{begins_cut}
use Rattle.authz_file.proofs.RepositoryCut.{cut-here, cut-past, cut-none}
use Rattle.authz_file.proofs.sections.split_repos.Goals as goal

all_of_rest : (text : List ℕ) (at : ℕ) → take (length text - at) (drop at text) ≡ drop at text
all_of_rest text at = grind (arith, common_steps)

pub returns-then-begins_cut : goal.returns-then-begins_cut
returns-then-begins_cut c =
    let yes : begins_cut (drop c.places.at c.args.name.now) ≡ true = rw (← all_of_rest c.args.name.now c.places.at) (cc (c.begins_cut.ensures, c.if-begins_cut.true)) in
    ap (λ rest. Some (take c.places.at c.args.name.now, rest)) (all_of_rest c.args.name.now (c.places.at + 1)) ∙ (sym (cut-here c.args.name.now c.places.at c.places-test.true yes) ∙ c.places.invariant.cut)

pub places-preserved : goal.places-preserved
places-preserved c = record {
  within = omega arith;
  cut =
      (let no : begins_cut (drop c.places.at c.args.name.now) ≡ false = rw (← all_of_rest c.args.name.now c.places.at) (cc (c.begins_cut.ensures, c.if-begins_cut.false)) in
      sym (cut-past c.args.name.now c.places.at c.places-test.true no) ∙ c.places.invariant.cut);
}

pub returns : goal.returns
returns c = sym (cut-none c.args.name.now c.places.at (omega arith)) ∙ c.places.invariant.cut
