use Rattle.dav_names.specs.Targets.{root_of}
use Rattle.dav_names.proofs.Roots.{root_of_name}
use Rattle.dav_names.proofs.write.root_of.Goals as goal

pub returns-clause-root : goal.returns-clause-root
unfolding root_of
returns-clause-root c name = rw (c.from_vec.ensures, c.in_ok-extend_from_slice.ensures.items, c.in_ok-root.ensures.items) (root_of_name c.args.name.now name)
