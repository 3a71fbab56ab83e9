use Rattle.http_front.proofs.InsideLemmas.{kept_more}
use Rattle.http_front.proofs.front.Front.feed.Goals as goal

pub invariant_of-self : goal.invariant_of-self
invariant_of-self c =
    kept_more c.self.inside.number c.self.inside.at c.self.inside.start c.self.inside.bytes.items c.args.piece.now c.extend_from_slice.new.self.items
    c.self.inside.phase c.self.inside.progress c.in_ok-extend_from_slice.ensures.items c.self.invariant
