use Rattle.dav_serve.proofs.Beginnings.{beginning}
use Rattle.dav_serve.proofs.laws.beginnings_are_first.Goals as goal

pub returns : goal.returns
returns c = λ users bytes some all end begins messages. beginning users 0 0 bytes some all end begins messages
