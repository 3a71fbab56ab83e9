use Rattle.std.proofs.Common.{subst, arith}
use Rattle.http_front.specs.Heads.{HeadOf}
use Rattle.http_front.proofs.AdvanceLemmas.{has_head}
use Rattle.http_front.proofs.advancing.take_head.Goals as goal

pub begin_body-requires : goal.begin_body-requires
begin_body-requires c =
    has_head c.args.bytes.now c.front_bytes-text.result.now c.args.len c.in-Some.head c.requires c.front_bytes-text.ensures (omega arith)
    (subst (HeadOf c.front_bytes-text.result.now) c.in-Some.is c.in_ok-head.ensures)
