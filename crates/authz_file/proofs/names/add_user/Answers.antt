use Rattle.std.proofs.Common.{sym, ◌∙◌}
use Rattle.authz_file.proofs.NameSets.{user-insert}
use Rattle.authz_file.proofs.names.add_user.Goals as goal

pub returns : goal.returns
returns c = user-insert (λ k. k.items) c.in_ok-name.name c.args.names.now.keys c.insert.new.self.keys c.args.word.now (sym c.is_user.ensures ∙ c.if-not-is_user.false) c.in_ok-name.ensures.items c.in_ok-insert.ensures.keys
