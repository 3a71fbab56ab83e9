use Rattle.std.proofs.Common.{◌==◌, arith}
use Rattle.std.proofs.lemmas.Bool.Decides.{nat_tests}
use Rattle.std.proofs.lemmas.List.Splits.{length-slice_split}
use Rattle.dsv_base.proofs.path.is_below_root_text.Goals as goal

pub returns-then-slash_count-ge64 : goal.returns-then-slash_count-ge64
returns-then-slash_count-ge64 c = grind (arith, nat_tests, length-slice_split (λ b. b == 47) c.args.rest.now)

pub returns : goal.returns
returns c = grind (arith, nat_tests, length-slice_split (λ b. b == 47) c.args.rest.now)
