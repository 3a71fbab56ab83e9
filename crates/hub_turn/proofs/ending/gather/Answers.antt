use Rattle.std.proofs.Common.{arith, ◌∙◌}
use Rattle.hub_turn.proofs.Steps.{joins}
use Rattle.hub_turn.proofs.Gathering.{tables}
use Rattle.hub_turn.proofs.ending.gather.Goals as goal

pub join_seat-requires : goal.join_seat-requires
join_seat-requires g c =
    let h = c.requires.seat in
    let h' = c.open-theirs.ensures.seat in
    let w = c.requires.board.0.words in (
      c.requires.board.1,
      tables _ _ _ _ _ _ _ h' h ∙ c.requires.board.1,
      h'.empty,
      omega arith,
      joins g.H.Core.told _ _ _ _ _ h.idle h'.idle c.requires.some,
    )
