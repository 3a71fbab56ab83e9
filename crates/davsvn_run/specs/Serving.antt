-- How a run of `pipe` ends whose connection was served.
use Rattle.std.specs.Prelude.{◌≡◌}
use Rattle.dav_serve.specs.Serves.{is_read_fault, is_write_fault}
use Rattle.dsv_outside.specs.Causes.{HasCause}
use Rattle.dsv_outside.specs.declared.serve_end.ServeEnd.{ServeEnd}
use Rattle.dsv_outside.specs.declared.serve_end.ServeEnd.TheVariants as serve_end
use Rattle.rev_nodes.specs.Forests.{repository_of}
use Rattle.davsvn_run.specs.declared.end.End.{End}
use Rattle.davsvn_run.specs.declared.end.End.TheVariants as end
use Rattle.davsvn_run.specs.declared.inputs.Inputs.{Inputs}
use Rattle.davsvn_run.specs.Runs.{ServedBy}
use Rattle.davsvn_run.specs.Worlds.{WorldState, IsUnreported, KeepsNothing}

-- the end of a run by that of its connection
abbrev pub end_of_serving : ServeEnd → End
end_of_serving serve_end.Ended = end.Well
end_of_serving serve_end.Closed = end.Well
end_of_serving serve_end.BrokeOff = end.BrokeOff
end_of_serving serve_end.ReadFault = end.ReadFault
end_of_serving serve_end.WriteFault = end.WriteFault
end_of_serving serve_end.NoMemory = end.NoMemory

-- the connection of a world was served by these inputs and ended so, at a fault of source or sink where its count
-- rose; nothing was kept, and files and errors stayed what they were
pub record ServingSays {S K E C F P : Type 0}
    (inputs : Inputs) (p q : WorldState S K E C F P) (ended : ServeEnd)
    : Type 0 where
  pub served : ServedBy (repository_of inputs.trees) inputs.rules inputs.users p.told q.told ended
  pub read : HasCause p.told.read_faults q.told.read_faults (is_read_fault ended)
  pub written : HasCause p.told.write_faults q.told.write_faults (is_write_fault ended)
  pub kept : KeepsNothing p.told q.told
  pub files : q.files ≡ p.files
  pub contents : q.told.contents ≡ p.told.contents
  pub errors : IsUnreported p q
