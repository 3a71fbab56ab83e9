use Rattle.std.proofs.Common.{◌≡◌, ◌<◌, List, Result, Ok, length, sym, ap, ◌∙◌, rules, arith}
use Rattle.std.proofs.lemmas.Result.{err_from_is_err_and}
use Rattle.rev_scripts.specs.declared.script_fault.ScriptFault.{ScriptFault}
use Rattle.rev_nodes.specs.Trees.{Repository, Revision}
use Rattle.rev_trees.specs.Readies.{revisions_of}
use Rattle.rev_scripts.specs.Reading.{with_revisions}
use Rattle.rev_scripts.proofs.ReadRevisions.{one_pushed, fault_ends, nothing_left}
use Rattle.rev_scripts.proofs.build.read_others.Goals as goal

pub returns-in_err-next : goal.returns-in_err-next
returns-in_err-next c =
    let p = err_from_is_err_and c.from_residual.result c.from_residual.ensures.1 in
    let some : 0 < length c.revisions.rest = search rules in
    let finish = λ (revisions : List Revision). let r : Result Repository ScriptFault = Ok (record { name = c.args.trees.name; uuid = c.args.trees.uuid; revisions = revisions }) in r in
    rw (p.1, p.2) (fault_ends finish (revisions_of c.revisions.trees) c.revisions.begins c.revisions.rest _ c.in_err-next.field-0.0 c.revisions.invariant.read some c.in_err-next.ensures.value)

pub revisions-preserved : goal.revisions-preserved
revisions-preserved c = record {
  read = one_pushed (revisions_of c.revisions.trees) (revisions_of c.push_revision.new.trees) c.revisions.begins c.in_ok-next.next c.revisions.rest c.in_ok-next.after _ c.revisions.invariant.read c.in_ok-next.ensures.shorter c.in_ok-next.ensures.value;
  name = c.in_ok-next.ensures.name ∙ c.revisions.invariant.name;
  uuid = c.in_ok-next.ensures.uuid ∙ c.revisions.invariant.uuid;
  room = omega (arith, c.in_ok-next.ensures.room, c.revisions.invariant.room);
  few = omega (arith, c.in_ok-next.ensures.more, c.in_ok-next.ensures.shorter, c.revisions.invariant.few);
}

pub returns : goal.returns
returns c =
    let none : length c.revisions.rest ≡ 0 = search rules in
    ap (with_revisions c.args.trees) (nothing_left (revisions_of c.revisions.trees) c.revisions.begins c.revisions.rest _ c.revisions.invariant.read none)
    ∙ (λ i. Ok (record { name = sym c.revisions.invariant.name i; uuid = sym c.revisions.invariant.uuid i; revisions = revisions_of c.revisions.trees }))
