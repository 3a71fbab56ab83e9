use Rattle.std.proofs.Common.{◌∙◌}
use Rattle.dsv_base.proofs.Blanks.{without_back-blank, without_back-other}
use Rattle.dsv_base.proofs.text_files.without_back.Goals as goal

pub returns-then-not-is_blank : goal.returns-then-not-is_blank
returns-then-not-is_blank c = without_back-other c.back.rest.now c.in-len1-up.len_at_least (cc (c.is_blank.ensures, c.if-not-is_blank.true)) ∙ c.back.invariant

pub back-preserved : goal.back-preserved
back-preserved c = without_back-blank c.back.rest.now c.in-len1-up.len_at_least (cc (c.is_blank.ensures, c.if-not-is_blank.false)) ∙ c.back.invariant
