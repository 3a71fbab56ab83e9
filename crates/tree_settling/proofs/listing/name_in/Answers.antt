use Rattle.tree_settling.proofs.Scans.{name_behind}
use Rattle.tree_settling.proofs.listing.name_in.Goals as goal

pub returns : goal.returns
returns c = name_behind c.args.directory.now c.args.path.now c.behind.result.now c.front_length.result c.requires.path c.requires.child c.front_length.ensures c.behind.ensures
