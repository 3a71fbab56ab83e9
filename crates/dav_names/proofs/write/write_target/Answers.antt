use Rattle.dav_names.specs.Written.{target_text}
use Rattle.dav_names.proofs.WrittenRead.{written_read}
use Rattle.dav_names.proofs.write.write_target.Goals as goal

pub returns-clause-read : goal.returns-clause-read
unfolding target_text
returns-clause-read c rooted some = rw (c.from_vec.ensures, c.in_ok-put_resource.ensures.value, c.in_ok-out.ensures.items) (written_read c.args.root.now c.args.resource.now rooted c.in_ok-put_resource.ensures.range some)
