use Rattle.std.proofs.Common.{arith, ◌∙◌}
use Rattle.hub_turn.proofs.Holdings.{in_hand_again, told_of, passed_of, give_counts, give_passes}
use Rattle.hub_turn.proofs.holding.give_hub.Goals as goal

pub fetch_add-requires : goal.fetch_add-requires
fetch_add-requires g c =
    let w = c.requires.board.0.words in
    let b = c.front-front.ensures.bound in (
      c.exchange.ensures.0 ∙ c.requires.board.1,
      omega arith,
      give_counts g.H.Core.told _ _ _ _ _ c.args.hub _ c.requires.may (in_hand_again g.H.Core.told _ _ c.args.hub _ c.requires.may c.exchange.ensures.3) (omega arith),
    )

pub fetch_add-requires-2 : goal.fetch_add-requires-2
fetch_add-requires-2 g c =
    let w = c.requires.board.0.words in
    let e = in_hand_again g.H.Core.told c.args.seat.now.me c.exchange.new.seat.me c.args.hub c.args.more c.requires.may c.exchange.ensures.3 in
    let t = told_of g.H.Core.told c.args.seat.now.me c.exchange.new.seat.me c.fetch_add.new.seat.me c.args.hub c.fetch_add.result c.args.more e c.fetch_add.ensures.2 in (
      c.fetch_add.ensures.0 ∙ (c.exchange.ensures.0 ∙ c.requires.board.1),
      omega arith,
      give_passes g.H.Core.told _ _ _ c.args.seat.now.me c.fetch_add.new.seat.me c.args.hub c.args.more c.requires.may t c.requires.board.0.slots,
    )

pub returns-clause-given : goal.returns-clause-given
returns-clause-given g c =
    let e = in_hand_again g.H.Core.told c.args.seat.now.me c.exchange.new.seat.me c.args.hub c.args.more c.requires.may c.exchange.ensures.3 in
    let t = told_of g.H.Core.told c.args.seat.now.me c.exchange.new.seat.me c.fetch_add.new.seat.me c.args.hub c.fetch_add.result c.args.more e c.fetch_add.ensures.2 in
    passed_of g.H.Core.told c.args.seat.now.me c.fetch_add.new.seat.me c.fetch_add-2.new.seat.me c.args.hub t c.fetch_add-2.ensures.2
