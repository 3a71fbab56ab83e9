use Rattle.std.proofs.Common.{arith, sym, ◌∙◌, subst, ap}
use Rattle.std.proofs.lemmas.List.{take_rest}
use Rattle.http_front.specs.declared.scan.ScanStep.TheVariants.{Goes}
use Rattle.http_front.specs.Scans.{ScanStepSays}
use Rattle.http_front.specs.Sections.{section_from}
use Rattle.http_front.proofs.ScanLemmas.{scanned_more, scanned_to, scanned_all}
use Rattle.http_front.proofs.scan.scan_section.Goals as goal

pub bytes-preserved : goal.bytes-preserved
bytes-preserved c =
    scanned_more c.args.first c.args.bytes.now c.bytes.at c.bytes.place c.bytes.invariant c.in-Goes.next (omega arith)
    (subst (λ rest. ScanStepSays c.bytes.place rest (Goes c.in-Goes.next)) (take_rest c.args.bytes.now c.bytes.at) c.in-Goes.ensures)

pub returns-in-Stops-clause-section : goal.returns-in-Stops-clause-section
returns-in-Stops-clause-section c =
    scanned_to c.args.first c.args.bytes.now c.bytes.at c.bytes.place c.bytes.invariant 0
    (ap (section_from c.bytes.place) (sym (take_rest c.args.bytes.now c.bytes.at)) ∙ c.in-Stops.ensures)
    ∙ sym c.scan_to.ensures.section

pub returns-in-Ends-clause-section : goal.returns-in-Ends-clause-section
returns-in-Ends-clause-section c =
    scanned_to c.args.first c.args.bytes.now c.bytes.at c.bytes.place c.bytes.invariant c.in-Ends.closing
    (ap (section_from c.bytes.place) (sym (take_rest c.args.bytes.now c.bytes.at)) ∙ c.in-Ends.ensures.0)
    ∙ sym c.scan_to-in-Ends.ensures.section

pub returns-clause-section : goal.returns-clause-section
returns-clause-section c = scanned_all c.args.first c.args.bytes.now c.bytes.at c.bytes.place c.bytes.invariant c.open_bytes.result (omega arith) c.open_bytes.ensures.value ∙ sym c.scan_to-2.ensures.section
