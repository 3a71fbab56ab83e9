-- Sections that are read byte by byte.
use Rattle.std.specs.Prelude.{◌≡◌, ℕ, ◌+◌, ◌<◌, ◌≤◌, List, ◌++◌, length, drop}
use Rattle.http_front.specs.declared.byte_place.BytePlace.{BytePlace}
use Rattle.http_front.specs.declared.scan.Scan.{Scan}
use Rattle.http_front.specs.declared.scan.ScanStep.{ScanStep}
use Rattle.http_front.specs.declared.scan.ScanStep.TheVariants.{Goes, Stops, Ends}
use Rattle.http_front.specs.declared.line_section.LineSection.{LineSection}
use Rattle.http_front.specs.Sections.{section_from, section_end, one_more}

-- so many bytes more in front
abbrev pub further : ℕ → LineSection → LineSection
further n s = record { lines = n + s.lines; closing = s.closing }

-- what one byte says, whatever follows the bytes that are there
abbrev pub ScanStepSays : BytePlace → List ℕ → ScanStep → Type 0
ScanStepSays place bytes (Goes next) = (more : List ℕ) → section_from place (bytes ++ more) ≡ one_more (section_from next (drop 1 bytes ++ more))
ScanStepSays place bytes Stops = section_from place bytes ≡ section_end 0
ScanStepSays place bytes (Ends n) = (section_from place bytes ≡ section_end n) × (0 < n)

-- the section has been read up to there
pub record IsScanned (first : BytePlace) (bytes : List ℕ) (scan : Scan) : Type 0 where
  pub within : scan.at ≤ length bytes
  pub goes : (more : List ℕ) → section_from first (bytes ++ more) ≡ further scan.at (section_from scan.place (drop scan.at bytes ++ more))
