use Rattle.std.proofs.Common.{◌<◌, drop, arith, ap}
use Rattle.std.proofs.lemmas.List.{take_rest}
use Rattle.http_front.specs.Sections.{line_end_length}
use Rattle.http_front.proofs.ScanLemmas.{blank_more}
use Rattle.http_front.proofs.scan.blank_length.Goals as goal

pub ends-preserved : goal.ends-preserved
ends-preserved c =
    let ends : 0 < line_end_length (drop c.ends.at c.args.bytes.now) = omega (arith, ap line_end_length (take_rest c.args.bytes.now c.ends.at), c.line_end_length.ensures, c.if-line_end_length-eq0.false) in
    record {
      within = omega arith;
      so_far = blank_more c.args.bytes.now c.ends.at (omega arith) ends c.ends.invariant.so_far;
    }
