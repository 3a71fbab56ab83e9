use Rattle.std.proofs.Common.{◌≡◌, List, ℕ}
use Rattle.rev_nodes.specs.Forests.{Forest, repository_of}
use Rattle.rev_scripts.proofs.WholeScript.{whole_script}
use Rattle.rev_scripts.proofs.build.read_script.Goals as goal

pub returns : goal.returns
returns c = whole_script c.args.bytes.now c.in_ok-name.name c.in_ok-name.uuid c.in_ok-name.rest c.in_ok-zeroth.zeroth c.in_ok-zeroth.line c.in_ok-zeroth.rest c.in_ok-trees.trees Forest c.read_others.result repository_of c.in_ok-name.ensures.value c.in_ok-zeroth.ensures.value (rw (c.get.ensures, c.get-2.ensures) at c.in_ok-trees.ensures) c.read_others.ensures
