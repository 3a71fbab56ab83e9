use Rattle.std.proofs.Common.{◌≡◌, ◌≤◌}
use Rattle.dav_serve.specs.Steps.{most_piece_bytes}
use Rattle.dav_serve.proofs.Progress.{SoFar, measure}
use Rattle.dav_serve.proofs.serving.serve_connection.Given as goal

-- the connection came so far, and the counts of faults haven't fallen
abbrev pub invariant-steps : goal.invariant-steps
invariant-steps g l = record {
  far : SoFar (g.T.Turn.opening l.fn.turn) (g.T.Turn.pass l.fn.turn) l.fn.users
      (record { history = g.T.Turn.front l.fn.turn; left = g.S.Source.left l.fn.source; over = g.S.Source.over l.fn.source; taken = g.K.Sink.taken l.fn.sink; readings = g.C.Clock.readings l.fn.clock })
      l.front
      (record { history = g.T.Turn.front l.turn; left = g.S.Source.left l.source; over = g.S.Source.over l.source; taken = g.K.Sink.taken l.sink; readings = g.C.Clock.readings l.clock });
  opening : g.T.Turn.opening l.turn ≡ g.T.Turn.opening l.fn.turn;
  pass : g.T.Turn.pass l.turn ≡ g.T.Turn.pass l.fn.turn;
  origin : g.T.Turn.origin l.turn ≡ g.T.Turn.origin l.fn.turn;
  room : l.piece.len ≡ most_piece_bytes;
  read : g.S.Source.faults l.fn.source ≤ g.S.Source.faults l.source;
  written : g.K.Sink.faults l.fn.sink ≤ g.K.Sink.faults l.sink;
}

abbrev pub decreases-steps : goal.decreases-steps
decreases-steps g l = measure l.front
