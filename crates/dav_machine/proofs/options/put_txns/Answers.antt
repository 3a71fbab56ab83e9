use Rattle.std.proofs.Common.{[], ◌∷◌}
use Rattle.std.specs.Prelude.{codes}
use Rattle.dav_machine.specs.Options.{stub_field, txn_fields}
use Rattle.dav_machine.proofs.Fields.{one_more}
use Rattle.dav_machine.proofs.options.put_txns.Goals as goal

pub returns : goal.returns
unfolding txn_fields
returns c = one_more c.put_stub-2.result c.args.fields.now.items c.put_stub.new.fields.items c.put_stub-2.new.fields.items (stub_field c.args.root.now (codes "SVN-Txn-Root-Stub") (codes "/!svn/txr") ∷ []) (stub_field c.args.root.now (codes "SVN-Txn-Stub") (codes "/!svn/txn")) c.in_ok-put_stub.ensures c.put_stub-2.ensures
