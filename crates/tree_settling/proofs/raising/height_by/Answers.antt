use Rattle.std.proofs.Common.{◌++◌, Option, subst}
use Rattle.std.specs.Prelude.{option_to_list}
use Rattle.std.specs.Option.{option_copied}
use Rattle.rev_nodes.specs.declared.height.Height.{Height}
use Rattle.tree_settling.specs.Merged.{entry_made, TellsHeight}
use Rattle.tree_settling.proofs.Raised.{put_height}
use Rattle.tree_settling.proofs.raising.height_by.Goals as goal

pub returns-in-Some : goal.returns-in-Some
returns-in-Some c = λ front back told.
    let all = c.args.cells.now ++ c.args.more.now in
    let gone = option_to_list (option_copied c.args.here) in
    put_height all front back gone (entry_made c.args.change.now.0 c.args.change.now.1) c.in-Some.height c.height_gone-gone.result c.height_come-come.result c.replaced.result c.height_gone-gone.ensures c.height_come-come.ensures c.replaced.ensures
    (subst (λ (height : Option Height). TellsHeight all (front ++ (gone ++ back)) height) c.in-Some.is told)
