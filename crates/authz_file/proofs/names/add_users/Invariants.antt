use Rattle.std.proofs.Common.{◌≡◌, take}
use Rattle.std.specs.Prelude.{filter}
use Rattle.authz_file.specs.Words.{is_user}
use Rattle.authz_file.specs.Searching.{texts, with_names}
use Rattle.authz_file.proofs.names.add_users.Given as goal

abbrev pub invariant-words : goal.invariant-words
invariant-words l = texts (λ k. k.items) l.names ≡ with_names (texts (λ k. k.items) l.fn.names) (filter is_user (take l.word-index l.words))
