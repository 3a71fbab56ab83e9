use Rattle.std.proofs.Common.{arith, ◌∙◌}
use Rattle.hub_turn.proofs.Steps.{takes, looks}
use Rattle.hub_turn.proofs.Holdings.{queues, queued_stage, queued_some, queued_empty, found_of, hand_of}
use Rattle.hub_turn.proofs.holding.take_hub_alone.Goals as goal

pub fetch_add-ticket-requires : goal.fetch_add-ticket-requires
fetch_add-ticket-requires g c =
    let w = c.requires.board.0.words in
    (c.requires.board.1, omega arith, takes g.H.Core.told _ _ _ _ c.requires.idle.idle c.requires.idle.some)

pub load-serving-requires : goal.load-serving-requires
load-serving-requires g c =
    let w = c.requires.board.0.words in
    let q = queues g.H.Core.told _ _ _ c.requires.idle c.fetch_add-ticket.ensures.2 in (
      c.fetch_add-ticket.ensures.0 ∙ c.requires.board.1,
      omega arith,
      looks g.H.Core.told _ _ _ _ q.ticket (queued_stage g.H.Core.told _ _ _ q) (queued_some g.H.Core.told _ _ _ q c.requires.idle.some) (queued_empty g.H.Core.told _ _ _ q),
    )

pub exchange-requires : goal.exchange-requires
exchange-requires g c =
    let q = queues g.H.Core.told _ _ _ c.requires.idle c.fetch_add-ticket.ensures.2 in
    let f = found_of g.H.Core.told _ _ _ _ _ q c.load-serving.ensures.2 c.if-serving-ticket.false in
    (c.load-serving.ensures.0 ∙ (c.fetch_add-ticket.ensures.0 ∙ c.requires.board.1), hand_of g.H.Core.told _ _ _ f)
