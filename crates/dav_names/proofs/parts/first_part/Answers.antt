use Rattle.std.proofs.Common.{ap, ◌∙◌}
use Rattle.dav_names.proofs.Components.{components-cut, cut_parts}
use Rattle.dav_names.proofs.parts.first_part.Goals as goal

pub returns-in-None : goal.returns-in-None
returns-in-None c = components-cut c.args.text.now ∙ ap (cut_parts c.args.text.now) c.in-None.ensures.cut

pub returns-in-Some : goal.returns-in-Some
returns-in-Some c = components-cut c.args.text.now ∙ ap (cut_parts c.args.text.now) c.in-Some.ensures.cut
