use Rattle.std.proofs.Common.{◌≡◌, ℕ, ◌<◌, false, arith, ap}
use Rattle.std.specs.Prelude.{nat_le}
use Rattle.std.proofs.lemmas.Bool.{leb-true}
use Rattle.std.proofs.lemmas.Bool.Decides.{nat_tests}
use Rattle.rev_nodes.specs.declared.cell.Cell.{Cell}
use Rattle.node_table.proofs.HeightLaws.{fits_by_height, too_many, too_long}
use Rattle.node_table.proofs.heights.fits_below.Goals as goal

past : (a b : ℕ) → nat_le a b ≡ false → b < a
past a b h = grind (arith, nat_tests)

pub returns-then-height-levels-clause-some : goal.returns-then-height-levels-clause-some
returns-then-height-levels-clause-some c = λ e. too_many c.args.cells.now c.requires.sound c.args.levels c.args.bytes c.args.id c.cell_of.result.now.height (ap (λ (x : Cell). x.height) c.cell_of.ensures) c.if-height-levels.true

pub returns-clause-all : goal.returns-clause-all
returns-clause-all c = λ e. fits_by_height c.args.cells.now c.requires.sound c.args.levels c.args.bytes c.args.id c.requires.few c.requires.short c.cell_of.result.now.height (ap (λ (x : Cell). x.height) c.cell_of.ensures) c.if-height-levels.false (leb-true _ _ e)

pub returns-clause-some : goal.returns-clause-some
returns-clause-some c = λ e. too_long c.args.cells.now c.requires.sound c.args.levels c.args.bytes c.args.id c.cell_of.result.now.height (ap (λ (x : Cell). x.height) c.cell_of.ensures) (past _ _ e)
