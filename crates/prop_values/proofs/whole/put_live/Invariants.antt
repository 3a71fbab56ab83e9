use Rattle.std.proofs.Common.{◌≡◌, drop}
use Rattle.dav_documents.specs.Drafts.{with_elements}
use Rattle.dav_documents.specs.Written.{for_each}
use Rattle.prop_values.specs.Responses.{live_element}
use Rattle.prop_values.proofs.whole.put_live.Given as goal

-- what is written, and then the elements of the live properties that are left
abbrev pub invariant-lives : goal.invariant-lives
invariant-lives l = with_elements (for_each (live_element l.sources.told.now l.sources.subject.now) (drop l.live-index l.lives)) l.writer ≡ with_elements (for_each (live_element l.sources.told.now l.sources.subject.now) l.lives) l.fn.writer
