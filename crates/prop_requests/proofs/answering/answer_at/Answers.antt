use Rattle.std.proofs.Common.{rules, ◌≡◌, None, ap}
use Rattle.rev_nodes.specs.Forests.{id_at}
use Rattle.prop_requests.specs.Propfinds.{about_place}
use Rattle.prop_requests.specs.Sights.{sources_by}
use Rattle.prop_requests.proofs.Entering.{none_in}
use Rattle.prop_requests.proofs.answering.answer_at.Goals as goal

pub returns-in-None : goal.returns-in-None
returns-in-None c =
    let sight = c.args.sight.now in
    let spot = c.args.spot.now in
    let gone : id_at sight.trees spot.rev spot.path ≡ None = search rules in
    ap (about_place (sources_by sight) spot.asked c.args.children c.args.query.now) (none_in sight spot.rev spot.path c.requires.readable gone)
