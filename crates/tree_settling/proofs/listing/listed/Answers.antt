use Rattle.std.proofs.Common.{◌≡◌, false, reverse, nat_eq, sym, ap, ◌∙◌, arith}
use Rattle.std.specs.List.{starts_with}
use Rattle.tree_settling.proofs.Scans.{scan_listed, scan_stops, scan_ends}
use Rattle.tree_settling.proofs.listing.listed.Goals as goal

pub returns-then-not-starts_with : goal.returns-then-not-starts_with
returns-then-not-starts_with c =
    let not : starts_with nat_eq c.index-made-left.result.0 c.args.directory.now ≡ false = ap (λ t. starts_with nat_eq t c.args.directory.now) (sym c.at.ensures) ∙ sym c.starts_with.ensures.value ∙ c.if-not-starts_with.true in
    scan_listed c.args.directory.now (reverse c.args.made.now) c.made.names.items c.requires
    (scan_stops c.args.directory.now c.args.made.now c.made.names.items c.made.left c.index-made-left.result (let some = c.made-test.true in omega (arith, some)) c.made.invariant.within c.index-made-left.is c.made.invariant.scanned not)

pub returns : goal.returns
returns c =
    scan_listed c.args.directory.now (reverse c.args.made.now) c.made.names.items c.requires
    (scan_ends c.args.directory.now c.args.made.now c.made.names.items c.made.left (let none = c.made-test.false in omega (arith, none)) c.made.invariant.scanned)
