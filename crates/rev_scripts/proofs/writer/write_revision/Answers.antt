use Rattle.std.proofs.Common.{rules}
use Rattle.rev_scripts.specs.Written.{revision_text}
use Rattle.rev_scripts.proofs.RevisionBack.{revision_back}
use Rattle.rev_scripts.proofs.Extending.{extends}
use Rattle.rev_scripts.proofs.writer.write_revision.Goals as goal

pub returns-clause-text : goal.returns-clause-text
unfolding revision_text
returns-clause-text c = search rules

pub returns-clause-reads_back : goal.returns-clause-reads_back
returns-clause-reads_back c = λ tellable. rw (returns-clause-text c) (revision_back c.args.number c.args.commit.now tellable)

pub returns-clause-extends : goal.returns-clause-extends
returns-clause-extends c = λ tellable. rw (returns-clause-text c) (extends c.args.number c.args.commit.now tellable)
