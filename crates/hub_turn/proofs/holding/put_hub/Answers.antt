use Rattle.std.proofs.Common.{arith, ◌∙◌}
use Rattle.hub_turn.proofs.Steps.{opens_up}
use Rattle.hub_turn.proofs.Holdings.{open_hand, put_hand, put_idle, put_passes}
use Rattle.hub_turn.proofs.holding.put_hub.Goals as goal

pub load-requires : goal.load-requires
load-requires g c =
    let w = c.requires.board.0.words in
    (c.requires.board.1, omega arith, opens_up g.H.Core.told _ _ _ _ c.requires.founding.founding c.requires.founding.some c.requires.founding.empty)

pub exchange-requires : goal.exchange-requires
exchange-requires g c = (c.load.ensures.0 ∙ c.requires.board.1, open_hand g.H.Core.told c.args.seat.now.me c.load.new.seat.me c.load.ensures.2)

pub fetch_add-requires : goal.fetch_add-requires
fetch_add-requires g c =
    let w = c.requires.board.0.words in
    let e = put_hand g.H.Core.told c.args.seat.now.me c.load.new.seat.me c.exchange.new.seat.me c.args.hub c.load.ensures.2 c.exchange.ensures.3 in (
      c.exchange.ensures.0 ∙ (c.load.ensures.0 ∙ c.requires.board.1),
      omega arith,
      put_passes g.H.Core.told _ _ _ c.args.seat.now.me c.exchange.new.seat.me c.args.hub c.requires.founding c.requires.stands e c.requires.board.0.slots,
    )

pub returns-clause-idle : goal.returns-clause-idle
returns-clause-idle g c =
    let e = put_hand g.H.Core.told c.args.seat.now.me c.load.new.seat.me c.exchange.new.seat.me c.args.hub c.load.ensures.2 c.exchange.ensures.3 in
    put_idle g.H.Core.told c.args.seat.now.me c.exchange.new.seat.me c.fetch_add.new.seat.me c.args.hub e c.fetch_add.ensures.2
