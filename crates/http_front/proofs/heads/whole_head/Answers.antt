use Rattle.std.proofs.Common.{arith}
use Rattle.http_front.proofs.HeadLemmas.{whole_read, none_longer}
use Rattle.http_front.proofs.heads.whole_head.Goals as goal

pub returns-then-spans-text : goal.returns-then-spans-text
returns-then-spans-text c =
    let read = c.requires.reads in
    none_longer c.args.text.now c.args.headers.now c.args.spans.now read.0 read.1 (omega arith) (omega arith)

pub returns : goal.returns
returns c =
    let read = c.requires.reads in
    whole_read c.args.text.now c.args.headers.now c.args.spans.now read.0 read.1 c.requires.few (omega arith) c.in_ok-head_at.field-0 (c.in_ok-head_at.ensures)
