use Rattle.std.proofs.Common.{◌≡◌, true, false, sym, ◌∙◌}
use Rattle.std.specs.Str.{bytes_eq}
use Rattle.dsv_base.specs.Paths.{root_text}
use Rattle.node_table.specs.Ways.{names_in}
use Rattle.tree_edits.specs.Edits.{held}
use Rattle.tree_edits.proofs.Deleting.{gone_done, gone_fails, none_to_take, root_to_take, some_of, none_of}
use Rattle.tree_edits.proofs.edits.Edits.delete.Goals as goal

pub returns-then-not-stands : goal.returns-then-not-stands
returns-then-not-stands c = λ from. (λ i. c.args.self.now, λ trees tree sources is has. none_to_take c.args.cells.now c.args.self.now c.args.path.now c.stands.ensures.path (none_of (held c.args.cells.now c.args.self.now (names_in c.args.path.now)) (sym c.stands.ensures.there ∙ c.if-not-stands.true)) trees tree is)

pub returns-then-eq : goal.returns-then-eq
returns-then-eq c =
    let h = some_of (held c.args.cells.now c.args.self.now (names_in c.args.path.now)) (sym c.stands.ensures.there ∙ c.if-not-stands.false) in
    let e : bytes_eq c.args.path.now root_text ≡ true = cc in
    λ from. (λ i. c.args.self.now, λ trees tree sources is has. root_to_take c.args.cells.now c.args.self.now c.args.path.now c.stands.ensures.path h.0 h.1 e trees tree is)

pub returns-in-Ok : goal.returns-in-Ok
returns-in-Ok c =
    let h = some_of (held c.args.cells.now c.args.self.now (names_in c.args.path.now)) (sym c.stands.ensures.there ∙ c.if-not-stands.false) in
    let e : bytes_eq c.args.path.now root_text ≡ false = cc in
    gone_done c.args.rev c.args.cells.now c.args.self.now c.clear_below.new.self c.hang.new.self.touched c.requires c.args.path.now c.stands.ensures.path e (c.clear_below.ensures.root ∙ c.in-Ok.ensures.root) c.in-Ok.ensures.says c.clear_below.ensures.touched h.0 h.1

pub returns-in-Err : goal.returns-in-Err
returns-in-Err c =
    let h = some_of (held c.args.cells.now c.args.self.now (names_in c.args.path.now)) (sym c.stands.ensures.there ∙ c.if-not-stands.false) in
    λ from. gone_fails c.args.rev c.args.cells.now c.args.self.now c.hang.new.self c.requires c.args.path.now c.stands.ensures.path h.0 h.1 c.in-Err.why c.in-Err.ensures.says c.in-Err.ensures.root
