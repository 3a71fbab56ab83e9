-- Where a node is asked about.
use Rattle.std.specs.Prelude.{ℕ, List}
use Rattle.rev_nodes.specs.declared.node.Node.{Node}
use Rattle.prop_values.specs.Places.{NodePlace}
use Rattle.prop_values.specs.declared.subject.Subject.{Subject}
use Rattle.prop_values.specs.declared.subject.Subject.TheVariants.{YoungestNode, RevisionNode}
use Rattle.prop_requests.specs.declared.asked_as.AskedAs.{AskedAs}
use Rattle.prop_requests.specs.declared.asked_as.AskedAs.TheVariants.{Youngest, Named}

-- as what a node is asked about, and at which path of which revision
pub record SpotState : Type 0 where
  pub asked : AskedAs
  pub rev : ℕ
  pub path : List ℕ

-- a node at its place, as what has properties
abbrev pub subject_as : AskedAs → NodePlace → Subject
subject_as Youngest place = YoungestNode place
subject_as Named place = RevisionNode place

-- a node that stands there, as what has properties
abbrev pub subject_at : SpotState → Node → Subject
subject_at spot node = subject_as spot.asked (record { rev = spot.rev; path = spot.path; node = node })
