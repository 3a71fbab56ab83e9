use Rattle.std.proofs.Common.{false, sym}
use Rattle.std.specs.Str.{is_utf8}
use Rattle.std.proofs.lemmas.Str.{IsUtf8-from_is_utf8, is_utf8-from_IsUtf8}
use Rattle.std.proofs.lemmas.Bool.Decides.{same_from_decides}
use Rattle.dsv_base.proofs.text.is_utf8_text.Goals as goal

pub returns-in-Ok : goal.returns-in-Ok
returns-in-Ok c = sym (is_utf8-from_IsUtf8 c.args.text.now c.in-Ok.ensures.cases.1)

pub returns-in-Err : goal.returns-in-Err
returns-in-Err c =
    let text = c.args.text.now in
    same_from_decides false (is_utf8 text) ((λ h. cc), (λ p. absurd (c.in-Err.ensures.cases.0 p))) (IsUtf8-from_is_utf8 text, is_utf8-from_IsUtf8 text)
