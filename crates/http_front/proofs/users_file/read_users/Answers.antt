use Rattle.std.proofs.Common.{◌≡◌, ◌+◌, [], ◌∷◌, ◌∙◌, sym, ap, subst, arith}
use Rattle.std.specs.Prelude.{option_copied}
use Rattle.std.proofs.lemmas.Result.{err_from_is_err_and}
use Rattle.dsv_base.specs.TextFiles.{file_lines, lines_left, left_size}
use Rattle.http_front.specs.UsersFile.{all_users, user_lines}
use Rattle.http_front.proofs.UserLines.{refused_from, ComesTo, after_skipped, after_taken, users_refused, users_taken}
use Rattle.http_front.proofs.users_file.read_users.Goals as goal
use Rattle.http_front.proofs.users_file.read_users.Goals.{then-not-is_skipped+in_ok-users, else-not-is_skipped}

pub returns-in_err-users : goal.returns-in_err-users
returns-in_err-users c =
    let lines : lines_left (option_copied c.lines.rest) ≡ c.next_line.result.0.now ∷ lines_left (option_copied c.next_line.result.1) = ap (λ o. lines_left (option_copied o)) c.in-Some.is ∙ c.next_line.ensures.line in
    let p = err_from_is_err_and c.from_residual.result c.from_residual.ensures.1 in
    rw (p.1, p.2) (users_refused c.args.bytes.now c.lines.users c.lines.number c.next_line.result.0.now (lines_left (option_copied c.next_line.result.1)) c.in_err-users.field-0.0
    (ap (λ ls. refused_from c.lines.users (user_lines c.lines.number ls)) (sym lines) ∙ c.lines.invariant.so_far.refused)
    (sym c.is_skipped.ensures ∙ c.if-not-is_skipped.true) c.in_err-users.ensures.refused)

pub lines-preserved : goal.lines-preserved
lines-preserved c =
    let lines : lines_left (option_copied c.lines.rest) ≡ c.next_line.result.0.now ∷ lines_left (option_copied c.next_line.result.1) = ap (λ o. lines_left (option_copied o)) c.in-Some.is ∙ c.next_line.ensures.line in
    let refused_line = refused_from [] (user_lines 1 (file_lines c.args.bytes.now)) in
    let all = all_users (user_lines 1 (file_lines c.args.bytes.now)) in
    let before : ComesTo c.lines.users (user_lines c.lines.number (c.next_line.result.0.now ∷ lines_left (option_copied c.next_line.result.1))) refused_line all =
    subst (λ ls. ComesTo c.lines.users (user_lines c.lines.number ls) refused_line all) lines c.lines.invariant.so_far in
    record {
      so_far = elim c.if-not-is_skipped.branch [
        | then-not-is_skipped+in_ok-users w ↦
            after_taken c.lines.users c.if-not-is_skipped.users c.lines.number c.next_line.result.0.now (lines_left (option_copied c.next_line.result.1)) refused_line all before
            (sym c.is_skipped.ensures ∙ w.if-not-is_skipped.true) w.in_ok-users.ensures.taken (w.users-is ∙ w.in_ok-users.ensures.more)
        | else-not-is_skipped w ↦
            subst (λ users. ComesTo users (user_lines (c.lines.number + 1) (lines_left (option_copied c.next_line.result.1))) refused_line all) (sym w.users-is)
            (after_skipped c.lines.users c.lines.number c.next_line.result.0.now (lines_left (option_copied c.next_line.result.1)) refused_line all before (sym c.is_skipped.ensures ∙ w.if-not-is_skipped.false))
      ];
      counted = omega (arith, c.next_line.ensures.shorter, ap (λ o. left_size (option_copied o)) c.in-Some.is);
    }

pub returns : goal.returns
returns c = users_taken c.args.bytes.now c.lines.users (option_copied c.lines.rest) c.lines.number (ap option_copied c.in_default.is) c.lines.invariant.so_far
