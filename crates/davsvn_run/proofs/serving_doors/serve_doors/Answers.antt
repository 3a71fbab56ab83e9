use Rattle.std.proofs.Common.{◌≡◌, ◌∙◌, sym, ap, subst, ◌≤◌, length, vec_capacity, vec_len, ℕ, arith}
use Rattle.dav_serve.specs.Stations.{door_of, turn_of}
use Rattle.davsvn_run.specs.ServedDoors.{clock_of, ServedDoors}
use Rattle.davsvn_run.proofs.DoorsServed.{length_passes, turns_one_start, turns_not_few, doors_served, none_out_of, behind_none, limits_of_none}
use Rattle.davsvn_run.proofs.serving_doors.serve_doors.Goals as goal

pub assembled-stations-requires-clause-doors : goal.assembled-stations-requires-clause-doors
assembled-stations-requires-clause-doors g c =
    let given = c.in-Ok.ensures in
    let size : length c.in-Ok.passes.items ≡ c.len-2.result = ap length given.2 ∙ length_passes c.len-2.result given.0 0 in
    let passes : vec_len c.in-Ok.passes ≡ length c.in-Ok.passes.items = c.in-Ok.passes.ok.0 in
    sym (passes ∙ size ∙ c.len-2.ensures)

pub assembled-stations-requires-clause-clocks : goal.assembled-stations-requires-clause-clocks
assembled-stations-requires-clause-clocks g c =
    let given = c.in-Ok.ensures in
    let size : length c.in-Ok.passes.items ≡ c.len-2.result = ap length given.2 ∙ length_passes c.len-2.result given.0 0 in
    let passes : vec_len c.in-Ok.passes ≡ length c.in-Ok.passes.items = c.in-Ok.passes.ok.0 in
    let doors : vec_len c.args.doors ≡ length c.args.doors.items = c.args.doors.ok.0 in
    let clocks : vec_len c.args.clocks ≡ length c.args.clocks.items = c.args.clocks.ok.0 in
    clocks ∙ c.requires.clocks ∙ sym doors ∙ sym c.len-2.ensures ∙ sym size ∙ sym passes

pub assembled-stations-requires-clause-room : goal.assembled-stations-requires-clause-room
assembled-stations-requires-clause-room g c =
    let given = c.in-Ok.ensures in
    let size : length c.in-Ok.passes.items ≡ c.len-2.result = ap length given.2 ∙ length_passes c.len-2.result given.0 0 in
    let passes : vec_len c.in-Ok.passes ≡ length c.in-Ok.passes.items = c.in-Ok.passes.ok.0 in
    let stations : vec_len c.in-Some.rooms.stations ≡ length c.in-Some.rooms.stations.items = c.in-Some.rooms.stations.ok.0 in
    let none : length c.in-Some.rooms.stations.items ≡ 0 = ap length c.in-Some.ensures.stations.0 in
    let room : c.len.result ≤ vec_capacity c.in-Some.rooms.stations = c.in-Some.ensures.stations.1 in
    let first : c.len.result ≡ vec_len c.args.doors = c.len.ensures in
    let second : c.len-2.result ≡ vec_len c.args.doors = c.len-2.ensures in
    omega arith

pub serve_stations_into-turns-requires-clause-none_out : goal.serve_stations_into-turns-requires-clause-none_out
serve_stations_into-turns-requires-clause-none_out g c κs within =
    none_out_of g.D.Door.state c.assembled-stations.result.items c.args.doors.items
    (behind_none door_of c.in-Some.rooms.stations.items c.assembled-stations.result.items c.args.doors.items c.in-Some.ensures.stations.0 c.assembled-stations.ensures.doors)
    c.requires.none_out

pub end-requires : goal.end-requires
end-requires g c =
    let given = c.in-Ok.ensures in
    let served = c.serve_stations_into-turns.ensures in
    let same = behind_none turn_of c.in-Some.rooms.stations.items c.assembled-stations.result.items c.in-Ok.passes.items c.in-Some.ensures.stations.0 c.assembled-stations.ensures.turns ∙ given.2 in
    turns_one_start g.D.Door.state g.D.Door.faults g.C.Clock.readings c.args.users.now given.0 c.args.limit c.len-2.result c.assembled-stations.result.items served.later c.serve_stations_into-turns.result.0.items
    same served.each served.turns_back

pub unreachable-requires : goal.unreachable-requires
unreachable-requires g c =
    let given = c.in-Ok.ensures in
    let served = c.serve_stations_into-turns.ensures in
    let same = behind_none turn_of c.in-Some.rooms.stations.items c.assembled-stations.result.items c.in-Ok.passes.items c.in-Some.ensures.stations.0 c.assembled-stations.ensures.turns ∙ given.2 in
    let doors : vec_len c.args.doors ≡ length c.args.doors.items = c.args.doors.ok.0 in
    let second : c.len-2.result ≡ vec_len c.args.doors = c.len-2.ensures in
    let some : 1 ≤ length c.args.doors.items = c.requires.some in
    turns_not_few g.D.Door.state g.D.Door.faults g.C.Clock.readings c.args.users.now given.0 c.args.limit c.len-2.result c.assembled-stations.result.items served.later c.serve_stations_into-turns.result.0.items
    same served.each served.turns_back given.1.counted (omega arith) c.in-Err-end.ensures.1

pub returns : goal.returns
returns g c =
    let given = c.in-Ok.ensures in
    let served = c.serve_stations_into-turns.ensures in
    let none = c.in-Some.ensures.stations.0 in
    let stations = c.assembled-stations.result.items in
    let first = c.in-Some.rooms.stations.items in
    let same = behind_none turn_of first stations c.in-Ok.passes.items none c.assembled-stations.ensures.turns ∙ given.2 in
    let doors : vec_len c.args.doors ≡ length c.args.doors.items = c.args.doors.ok.0 in
    let count : c.len-2.result ≡ length c.args.doors.items = c.len-2.ensures ∙ doors in
    subst (λ (n : ℕ). ServedDoors g.H.Core.told g.D.Door.state g.D.Door.faults g.C.Clock.readings c.args.users.now c.args.limit n c.args.machine c.args.doors.items c.args.clocks.items c.serve_stations_into-turns.result.1.items c.in-Ok-end.machine) count
    (doors_served g.D.Door.state g.D.Door.faults g.C.Clock.readings c.args.users.now given.0 c.args.limit g.H.Core.told c.args.machine c.in-Ok-end.machine c.len-2.result stations served.later c.serve_stations_into-turns.result.0.items
    c.args.doors.items c.args.clocks.items c.serve_stations_into-turns.result.1.items
    given.1 same (c.assembled-stations.ensures.limits (limits_of_none c.args.limit first none))
    (behind_none door_of first stations c.args.doors.items none c.assembled-stations.ensures.doors)
    (behind_none clock_of first stations c.args.clocks.items none c.assembled-stations.ensures.clocks)
    served.each served.turns_back served.doors_back c.in-Ok-end.ensures)
