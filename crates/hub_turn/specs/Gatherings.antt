-- The seats of passes, put together.
use Rattle.std.specs.Prelude.{◌≡◌, ◌<◌, List, [], ◌++◌, length}
use Rattle.atomic_table.specs.Seated.{TableId}
use Rattle.atomic_table.specs.Table.{Me}
use Rattle.dav_machine.specs.Origins.{Origin}
use Rattle.hub_turn.specs.Passes.{PassState, members_of, origin_of, AreOf}
use Rattle.hub_turn.specs.Views.{Member, Idle, SeatView}

-- the seat has these members, of this origin, and no ticket
pub record HasMembers {S : Type 0} (origin : Origin) (members : List Member) (z : TableId) (m : Me S SeatView) : Type 0 where
  pub have : m.0.members ≡ members
  pub idle : m.0.stage ≡ Idle
  pub empty : m.1 ≡ []
  pub come : origin_of z m.0.about ≡ origin

-- the seat has the members of all passes but those that are left
pub record Gathered {S : Type 0} (all left : List PassState) (z : TableId) (m : Me S SeatView) : Type 0 where
  pub origin : Origin
  pub of : AreOf origin all
  pub done : List PassState
  pub parts : all ≡ left ++ done
  pub some : 0 < length done
  pub seat : HasMembers origin (members_of done) z m
