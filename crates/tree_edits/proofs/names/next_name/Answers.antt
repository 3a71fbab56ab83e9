use Rattle.std.proofs.Common.{◌-◌, length, sym, refl, subst}
use Rattle.tree_edits.specs.Rests.{IsRest}
use Rattle.tree_edits.proofs.Texts.{last_path, next_path, next_rest}
use Rattle.tree_edits.proofs.names.next_name.Goals as goal

pub returns-in-None : goal.returns-in-None
returns-in-None c = record { cut = c.in-None.ensures.cut; is = sym (last_path c.args.text.now c.args.path.now c.args.rest.now c.requires) }

pub returns-in-Some : goal.returns-in-Some
returns-in-Some c =
    let next = next_path c.args.text.now c.args.path.now c.args.rest.now c.in-Some.name.now c.in-Some.after.now c.requires c.in-Some.ensures.cut (length c.args.text.now - length c.in-Some.after.now - 1) refl in
    record {
      cut = c.in-Some.ensures.cut;
      is = next;
      more = λ one. subst (λ p. IsRest c.args.text.now p c.in-Some.after.now) (sym next) (next_rest c.args.text.now c.args.path.now c.args.rest.now c.in-Some.name.now c.in-Some.after.now c.requires c.in-Some.ensures.cut one);
      shorter = c.in-Some.ensures.shorter;
    }
