use Rattle.std.proofs.Common.{[], ◌∷◌}
use Rattle.std.specs.Prelude.{codes}
use Rattle.dav_machine.specs.Options.{stub_field, rev_fields}
use Rattle.dav_machine.proofs.Fields.{one_more}
use Rattle.dav_machine.proofs.options.put_revs.Goals as goal

pub returns : goal.returns
unfolding rev_fields
returns c = one_more c.put_stub-2.result c.args.fields.now.items c.put_stub.new.fields.items c.put_stub-2.new.fields.items (stub_field c.args.root.now (codes "SVN-Rev-Root-Stub") (codes "/!svn/rvr") ∷ []) (stub_field c.args.root.now (codes "SVN-Rev-Stub") (codes "/!svn/rev")) c.in_ok-put_stub.ensures c.put_stub-2.ensures
