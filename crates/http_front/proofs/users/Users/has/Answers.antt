use Rattle.std.proofs.Common.{ap, ◌∙◌}
use Rattle.std.specs.Option.{is_some}
use Rattle.http_front.specs.UsersFile.{names}
use Rattle.http_front.proofs.NamePlaces.{found_or_not}
use Rattle.http_front.proofs.users.Users.has.Goals as goal

pub returns : goal.returns
returns c = c.is_some.ensures ∙ ap is_some c.place.ensures ∙ found_or_not c.args.name.now 0 (names c.args.self.now)
