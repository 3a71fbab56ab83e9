use Rattle.std.proofs.Common.{arith}
use Rattle.dav_elements.specs.Opening.{same_key}
use Rattle.dav_elements.proofs.Seen.{doubled, still_distinct, key_found, key_more}
use Rattle.dav_elements.proofs.distinct.are_keys_distinct.Goals as goal

pub returns-then-not-branch : goal.returns-then-not-branch
returns-then-not-branch c =
    doubled same_key c.args.raws.now c.raws.left c.index-raws-left.result _ c.raws-test.true c.raws.invariant.within c.index-raws-left.is
    (key_found c.raws.seen.keys _ c.get.result c.index-raws-left.result _ c.in_ok-insert.ensures.added c.get.ensures c.raws.invariant.seen) c.if-not-branch.true

pub raws-preserved : goal.raws-preserved
raws-preserved c =
    let found = key_found c.raws.seen.keys _ c.get.result c.index-raws-left.result _ c.in_ok-insert.ensures.added c.get.ensures c.raws.invariant.seen in
    record {
      within = omega (arith, c.raws.invariant.within);
      distinct = still_distinct same_key c.args.raws.now c.raws.left c.index-raws-left.result _ c.raws-test.true c.raws.invariant.within c.index-raws-left.is found c.if-not-branch.false c.raws.invariant.distinct;
      seen = key_more c.raws.seen.keys c.insert.new.self.keys c.args.raws.now c.raws.left c.get.result c.index-raws-left.result c.in_ok-insert.ensures.keys c.raws-test.true c.raws.invariant.within c.index-raws-left.is c.get.ensures c.raws.invariant.seen;
    }
