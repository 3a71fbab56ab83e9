-- Nodes where they are asked about, and what is known of what is told of: nothing but what the user is shown.
use Rattle.std.specs.Prelude.{ℕ, List, Option}
use Rattle.dsv_base.specs.declared.prop.Prop.{Prop}
use Rattle.rev_nodes.specs.declared.node.Node.{Node}
use Rattle.path_locks.specs.declared.lock.Lock.{Lock}

-- a node, with the revision and the path at which it is asked
pub record NodePlace : Type 0 where
  pub rev : ℕ
  pub path : List ℕ
  pub node : Node

-- what is told of one node or revision beside what it is: where the repository stands, and its uuid; the lock on the node,
-- where it is one of the youngest revision and has one; and of the record of the revision that is told of, as the user is
-- shown it, its properties, its author and its moment
pub record Facts : Type 0 where
  pub root : List ℕ
  pub uuid : List ℕ
  pub lock : Option Lock
  pub props : List Prop
  pub author : Option (List ℕ)
  pub moment : Option ℕ
