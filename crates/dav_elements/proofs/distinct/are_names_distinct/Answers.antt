use Rattle.std.proofs.Common.{arith}
use Rattle.dav_elements.specs.Opening.{same_attr}
use Rattle.dav_elements.proofs.Seen.{doubled, still_distinct, name_found, name_more}
use Rattle.dav_elements.proofs.distinct.are_names_distinct.Goals as goal

pub returns-then-not-branch : goal.returns-then-not-branch
returns-then-not-branch c =
    doubled same_attr c.args.attrs.now c.attrs.left c.index-attrs-left.result _ c.attrs-test.true c.attrs.invariant.within c.index-attrs-left.is
    (name_found c.attrs.seen.keys _ (c.get.result, c.get-in-attrs.result) c.index-attrs-left.result _ c.in_ok-insert.ensures.added c.get.ensures c.get-in-attrs.ensures c.attrs.invariant.seen) c.if-not-branch.true

pub attrs-preserved : goal.attrs-preserved
attrs-preserved c =
    let found = name_found c.attrs.seen.keys _ (c.get.result, c.get-in-attrs.result) c.index-attrs-left.result _ c.in_ok-insert.ensures.added c.get.ensures c.get-in-attrs.ensures c.attrs.invariant.seen in
    record {
      within = omega (arith, c.attrs.invariant.within);
      distinct = still_distinct same_attr c.args.attrs.now c.attrs.left c.index-attrs-left.result _ c.attrs-test.true c.attrs.invariant.within c.index-attrs-left.is found c.if-not-branch.false c.attrs.invariant.distinct;
      seen = name_more c.attrs.seen.keys c.insert.new.self.keys c.args.attrs.now c.attrs.left (c.get.result, c.get-in-attrs.result) c.index-attrs-left.result c.in_ok-insert.ensures.keys c.attrs-test.true c.attrs.invariant.within c.index-attrs-left.is c.get.ensures c.get-in-attrs.ensures c.attrs.invariant.seen;
    }
