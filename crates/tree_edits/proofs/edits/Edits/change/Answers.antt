use Rattle.std.proofs.Common.{sym, subst}
use Rattle.tree_edits.specs.Applied.{Does}
use Rattle.tree_edits.proofs.Outcomes.{no_copy}
use Rattle.tree_edits.proofs.edits.Edits.change.Goals as goal

pub copy-requires-clause-from : goal.copy-requires-clause-from
copy-requires-clause-from c = c.requires.from c.in-Some.from c.in-Some.is

pub returns-in-Put : goal.returns-in-Put
returns-in-Put c = subst (λ ch. Does c.args.rev ch c.args.cells.now c.args.self.now c.put.new.self c.args.from c.put.result) (sym c.in-Put.is) (c.put.ensures c.args.from)

pub returns-in-SetProp : goal.returns-in-SetProp
returns-in-SetProp c = subst (λ ch. Does c.args.rev ch c.args.cells.now c.args.self.now c.change_prop.new.self c.args.from c.change_prop.result) (sym c.in-SetProp.is) (c.change_prop.ensures c.args.from)

pub returns-in-DelProp : goal.returns-in-DelProp
returns-in-DelProp c = subst (λ ch. Does c.args.rev ch c.args.cells.now c.args.self.now c.change_prop-in-DelProp.new.self c.args.from c.change_prop-in-DelProp.result) (sym c.in-DelProp.is) (c.change_prop-in-DelProp.ensures c.args.from)

pub returns-in-Mkdir : goal.returns-in-Mkdir
returns-in-Mkdir c = subst (λ ch. Does c.args.rev ch c.args.cells.now c.args.self.now c.mkdir.new.self c.args.from c.mkdir.result) (sym c.in-Mkdir.is) (c.mkdir.ensures c.args.from)

pub returns-in-Delete : goal.returns-in-Delete
returns-in-Delete c = subst (λ ch. Does c.args.rev ch c.args.cells.now c.args.self.now c.delete.new.self c.args.from c.delete.result) (sym c.in-Delete.is) (c.delete.ensures c.args.from)

pub returns-in-None : goal.returns-in-None
returns-in-None c = (λ i. c.args.self.now, no_copy c.args.cells.now c.args.self.now c.args.change.now c.args.from c.in-Copy.is c.in-None.is)
