use Rattle.http_front.specs.Advances.{request_with}
use Rattle.http_front.proofs.Laws.{whole_size}
use Rattle.http_front.proofs.front.Front.give.Goals as goal

pub pass-requires-clause-within : goal.pass-requires-clause-within
pass-requires-clause-within c =
    (whole_size c.args.users.now c.args.self.now.number c.args.self.now.rest (request_with c.args.users.now c.args.self.now.number c.args.head c.args.body) c.args.len
    (c.requires.first c.args.users.now c.args.self.now.number)).1

pub pass-requires-clause-small : goal.pass-requires-clause-small
pass-requires-clause-small c =
    (whole_size c.args.users.now c.args.self.now.number c.args.self.now.rest (request_with c.args.users.now c.args.self.now.number c.args.head c.args.body) c.args.len
    (c.requires.first c.args.users.now c.args.self.now.number)).2
