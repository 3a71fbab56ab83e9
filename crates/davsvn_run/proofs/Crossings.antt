-- A machine may cross threads.
use denote.RattleType.{RattleType}
use denote.Param.Send.{IsSend, IsSync, sendable, recorded_send, struct_send}
use denote.Struct.Declared.{shape}
use Rattle.std.proofs.Crossing.{crosses}
use Rattle.std.proofs.MapsCrossing as maps
use Rattle.dsv_base.specs.contracts.bytes.Bytes as Bytes
use Rattle.path_locks.specs.contracts.locks.Locks as Locks
use Rattle.authz_check.specs.contracts.policy.Policy as Policy
use Rattle.node_table.specs.contracts.table.Table as Table
use Rattle.rev_trees.specs.contracts.revision.KeptRevision as KeptRevision
use Rattle.rev_trees.specs.contracts.trees.Trees as Trees
use Rattle.dav_machine.specs.contracts.event.Event as Event
use Rattle.dav_machine.specs.contracts.present.Present as Present
use Rattle.dav_machine.specs.contracts.hub.Hub as Hub
use Rattle.dsv_outside.specs.declared.keeper.Keeper as Keeper
use Rattle.dsv_base.specs.contracts.prop.Prop as Prop
use Rattle.dsv_base.specs.contracts.list.List as Listed
use Rattle.rev_nodes.specs.contracts.node_id.NodeId as NodeId
use Rattle.rev_nodes.specs.contracts.text.Text as Text
use Rattle.rev_nodes.specs.contracts.entry.Entry as Entry
use Rattle.rev_nodes.specs.contracts.cell.Cell as Cell
use Rattle.rev_nodes.specs.contracts.change.Change as Change
use Rattle.rev_nodes.specs.contracts.changed.Changed as Changed
use Rattle.rev_nodes.specs.contracts.commit.Commit as Commit

pub bytes_send : IsSend Bytes.the_row
bytes_send = search (crosses, sendable) depth 30

pub bytes_sync : IsSync Bytes.the_row
bytes_sync = search (crosses, sendable) depth 30

pub locks_send : IsSend Locks.the_row
locks_send = search (bytes_send, bytes_sync, crosses, maps.crosses, sendable) depth 30

pub policy_send : IsSend Policy.the_row
policy_send = search (bytes_send, bytes_sync, crosses, sendable) depth 30

pub prop_send : IsSend Prop.the_row
prop_send = search (bytes_send, crosses, sendable) depth 30

pub prop_sync : IsSync Prop.the_row
prop_sync = search (bytes_sync, crosses, sendable) depth 30

pub text_send : IsSend Text.the_row
text_send = search (bytes_send, bytes_sync, crosses, sendable) depth 30

pub text_sync : IsSync Text.the_row
text_sync = search (bytes_send, bytes_sync, crosses, sendable) depth 30

pub entry_send : IsSend Entry.the_row
entry_send = search (bytes_send, bytes_sync, crosses, sendable) depth 30

pub entry_sync : IsSync Entry.the_row
entry_sync = search (bytes_send, bytes_sync, crosses, sendable) depth 30

pub cell_send : IsSend Cell.the_row
cell_send = search (bytes_send, bytes_sync, prop_send, prop_sync, text_send, entry_send, entry_sync, crosses, sendable) depth 30

pub table_send : IsSend Table.the_row
table_send = search (cell_send, crosses, sendable) depth 30

pub change_send : IsSend Change.the_row
change_send = search (bytes_send, prop_send, text_send, crosses, sendable) depth 30

pub changed_send : IsSend Changed.the_row
changed_send = search (bytes_send, crosses, sendable) depth 30

pub commit_send : IsSend (Commit.the_field).row
commit_send = search (bytes_send, prop_send, change_send, crosses, sendable) depth 30

pub changes_send : IsSend (Listed.the_row Changed.the_row)
changes_send = search (changed_send, crosses, sendable) depth 30

pub node_id_send : IsSend NodeId.the_row
node_id_send = search (sendable) depth 30

pub revision_send : IsSend KeptRevision.the_row
revision_send = recorded_send _ KeptRevision.the_type.D KeptRevision.the_type.to KeptRevision.the_type.to_one (struct_send (shape KeptRevision.the_type) (commit_send, (changes_send, (node_id_send, tt))))

pub trees_send : IsSend Trees.the_row
trees_send = search (bytes_send, table_send, revision_send, crosses, sendable) depth 30

pub event_send : IsSend Event.the_row
event_send = search (crosses, sendable) depth 30

pub present_send : IsSend Present.the_row
present_send = search (bytes_send, locks_send, policy_send, trees_send, crosses, sendable) depth 30

pub hub_send : (P : RattleType) (keeper : Keeper.Ghosts P.Denot) → IsSend P → IsSend (Hub.the_row P keeper)
hub_send P keeper sent = search (bytes_send, present_send, event_send, crosses, sendable) depth 40

pub hub_field_send : (P : RattleType) (keeper : Keeper.Ghosts P.Denot) → IsSend P → IsSend (Hub.the_field P keeper).row
hub_field_send P keeper sent = search (bytes_send, present_send, event_send, crosses, sendable) depth 40
