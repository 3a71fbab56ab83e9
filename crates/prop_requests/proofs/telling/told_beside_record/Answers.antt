use Rattle.std.proofs.Common.{◌∙◌, ap}
use Rattle.rev_nodes.specs.Forests.{Forest}
use Rattle.prop_requests.proofs.Showing.{told_beside}
use Rattle.prop_requests.proofs.telling.told_beside_record.Goals as goal

pub returns : goal.returns
returns c = told_beside c.args.sight.now c.args.subject.now _ c.root.ensures (c.uuid.ensures ∙ ap (λ (f : Forest). f.uuid) c.trees.ensures) c.told_lock.ensures
