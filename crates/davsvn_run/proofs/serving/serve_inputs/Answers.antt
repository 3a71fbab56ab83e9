use denote.Exit.{yes}
use denote.Param.Send.{param_send, arg_send}
use Rattle.davsvn_run.proofs.Crossings.{hub_send}
use Rattle.davsvn_run.proofs.serving.serve_inputs.Goals as goal

pub serve_doors-requires-send-H : goal.serve_doors-requires-send-H
serve_doors-requires-send-H g c κs within = param_send 0 _ (arg_send _ yes _ (hub_send _ g.P.Keeper c.type_bounds.send-P))
