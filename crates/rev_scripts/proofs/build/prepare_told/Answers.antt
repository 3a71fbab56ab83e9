use Rattle.rev_scripts.specs.Scripts.{commit_of}
use Rattle.rev_scripts.proofs.ReadRevisions.{change_unfit}
use Rattle.rev_scripts.proofs.build.prepare_told.Goals as goal

pub returns-in-Err-Unfit-clause-says : goal.returns-in-Err-Unfit-clause-says
returns-in-Err-Unfit-clause-says c =
    rw (c.line_of.ensures, c.as_slice.ensures.value, c.into_commit-commit.ensures.lines) (change_unfit c.args.told.lines c.args.trees.now c.prepare.new.self (commit_of c.args.author c.args.moment c.args.told) c.into_commit-commit.result.0 c.in-Err-Unfit.field-0 c.in-Err-Unfit.index c.in-Err-Unfit.field-0-is c.into_commit-commit.ensures.commit c.in-Err-Unfit.ensures.says)
