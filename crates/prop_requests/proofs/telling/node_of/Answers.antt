use Rattle.prop_requests.proofs.Entering.{created_there}
use Rattle.prop_requests.proofs.telling.node_of.Goals as goal

pub returns-clause-created : goal.returns-clause-created
returns-clause-created c = created_there c.args.trees.now c.args.id c.node.result.now c.learn.ensures.nodes c.requires c.node.ensures.is
