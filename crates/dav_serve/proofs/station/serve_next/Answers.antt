use Rattle.std.proofs.Common.{◌∙◌, refl, sym, ap, subst, ◌≤◌, ℕ, ◌∷◌, [], ◌++◌, List}
use Rattle.std.specs.Prelude.{option_map}
use Rattle.dsv_outside.specs.DoorStates.{DoorState, PairState, Returned}
use Rattle.dsv_outside.specs.Doors.{TakesInput}
use Rattle.dav_serve.proofs.station.serve_next.Goals as goal

pub returns : goal.returns
returns g c =
    let served = c.serve_connection-end in
    let gives = c.in-Pair.ensures.gives in
    let back = c.back.ensures.returned in
    let faults = g.D.Door.faults in
    let pair : PairState = record {
      left = g.D.S.Source.left c.in-Pair.source;
      over = g.D.S.Source.over c.in-Pair.source;
      source_faults = g.D.S.Source.faults c.in-Pair.source;
      taken = g.D.K.Sink.taken c.in-Pair.sink;
      sink_faults = g.D.K.Sink.faults c.in-Pair.sink;
    } in
    let last : Returned = record {
      end = served.result;
      pair = record {
        left = g.D.S.Source.left served.new.source;
        over = g.D.S.Source.over served.new.source;
        source_faults = g.D.S.Source.faults served.new.source;
        taken = g.D.K.Sink.taken served.new.sink;
        sink_faults = g.D.K.Sink.faults served.new.sink;
      };
    } in
    record {
      connection = record { given = pair; returned = last };
      visit = record { served = served.ensures.says; read = served.ensures.read; written = served.ensures.written };
      came = subst (λ (d : DoorState). TakesInput (g.D.Door.state c.args.station.now.door).coming d.coming pair) (sym back) gives.input;
      went = ap (λ (d : DoorState). d.returned) back ∙ ap (option_map (λ (pairs : List Returned). pairs ++ last ∷ [])) gives.returned;
      counted = ap (λ (d : DoorState). d.given) back ∙ gives.given;
      none_out = ap (λ (d : DoorState). d.out) back;
      later = subst (λ (n : ℕ). faults c.args.station.now.door ≤ n) (sym c.back.ensures.same) c.in-Pair.ensures.cause.later;
      opening = served.ensures.opening;
      pass = served.ensures.pass;
      origin = served.ensures.origin;
      limit = refl;
    }
