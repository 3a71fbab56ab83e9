use Rattle.std.specs.Option.{option_copied}
use Rattle.dav_machine.proofs.Getting.{get_missing}
use Rattle.dav_machine.proofs.reading.get_reply.Goals as goal

pub returns-in-None-clause-value : goal.returns-in-None-clause-value
returns-in-None-clause-value c =
    get_missing c.args.present.now.trees c.args.present.now.rules (option_copied c.args.user) c.args.at.now.rev c.args.at.now.path.now c.args.at.now.resource.now
    c.trees.result.now c.trees.ensures c.requires.readable c.in-None.ensures
