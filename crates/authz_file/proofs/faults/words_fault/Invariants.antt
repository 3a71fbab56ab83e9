use Rattle.std.proofs.Common.{◌≡◌, drop}
use Rattle.authz_file.specs.Resolving.{words_fault}
use Rattle.authz_file.proofs.faults.words_fault.Given as goal

-- the words that are left decide
abbrev pub invariant-words : goal.invariant-words
invariant-words l = words_fault l.book l.line (drop l.word-index l.words) ≡ words_fault l.book l.line l.words
