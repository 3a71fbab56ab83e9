use Rattle.dav_serve.proofs.Attending.{attended_begun, attended_more}
use Rattle.dav_serve.proofs.station.serve_station.Goals as goal

pub connections-init : goal.connections-init
connections-init g c = record { so = attended_begun c.args.users.now _ c.requires; end = c.most_of-end.ensures }

pub connections-preserved : goal.connections-preserved
connections-preserved g c =
    record { so = attended_more c.args.users.now _ _ _ c.connections.counter c.connections.invariant.so c.if-not-serve_next.ensures; end = c.connections.invariant.end }
