use Rattle.std.proofs.Common.{sym}
use Rattle.dav_replies.proofs.Wanting.{head, last_head, whole, last_whole, guest_head, guest_last_head, guest_whole, guest_last_whole}
use Rattle.dav_replies.proofs.no_memory.no_memory_bytes.Goals as goal

pub returns-in-Plain-true-true : goal.returns-in-Plain-true-true
returns-in-Plain-true-true c = rw (c.in-Plain-true-true.is-0, c.in-Plain-true-true.is-1, c.in-Plain-true-true.is-2) (sym last_head)

pub returns-in-Plain-true-false : goal.returns-in-Plain-true-false
returns-in-Plain-true-false c = rw (c.in-Plain-true-false.is-0, c.in-Plain-true-false.is-1, c.in-Plain-true-false.is-2) (sym head)

pub returns-in-Plain-false-true : goal.returns-in-Plain-false-true
returns-in-Plain-false-true c = rw (c.in-Plain-false-true.is-0, c.in-Plain-false-true.is-1, c.in-Plain-false-true.is-2) (sym last_whole)

pub returns-in-Plain-false-false : goal.returns-in-Plain-false-false
returns-in-Plain-false-false c = rw (c.in-Plain-false-false.is-0, c.in-Plain-false-false.is-1, c.in-Plain-false-false.is-2) (sym whole)

pub returns-in-Guest-true-true : goal.returns-in-Guest-true-true
returns-in-Guest-true-true c = rw (c.in-Guest-true-true.is-0, c.in-Guest-true-true.is-1, c.in-Guest-true-true.is-2) (sym guest_last_head)

pub returns-in-Guest-true-false : goal.returns-in-Guest-true-false
returns-in-Guest-true-false c = rw (c.in-Guest-true-false.is-0, c.in-Guest-true-false.is-1, c.in-Guest-true-false.is-2) (sym guest_head)

pub returns-in-Guest-false-true : goal.returns-in-Guest-false-true
returns-in-Guest-false-true c = rw (c.in-Guest-false-true.is-0, c.in-Guest-false-true.is-1, c.in-Guest-false-true.is-2) (sym guest_last_whole)

pub returns-in-Guest-false-false : goal.returns-in-Guest-false-false
returns-in-Guest-false-false c = rw (c.in-Guest-false-false.is-0, c.in-Guest-false-false.is-1, c.in-Guest-false-false.is-2) (sym guest_whole)
