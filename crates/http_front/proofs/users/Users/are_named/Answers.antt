use Rattle.std.proofs.Common.{subst}
use Rattle.http_front.specs.UsersFile.{AreNamed}
use Rattle.http_front.proofs.users.Users.are_named.Goals as goal

pub returns : goal.returns
returns c = subst AreNamed c.self.view_is c.self.invariant.named
