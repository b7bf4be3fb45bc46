-- A world as the code keeps it.
use Rattle.wire_core.specs.declared.node.NodeId.{NodeId}
use Rattle.vip_config.specs.declared.parts.ConfigParts.{ConfigParts}
use Rattle.world_nodes.specs.Firsts.{MayOpen}
use Rattle.world_nodes.specs.Nodes.{AreNodes, nodes_of}
use Rattle.world_model.specs.World.{WorldState}
use Rattle.world_model.specs.declared.world.World.{World}

-- what is seen of it
abbrev pub world_of : {C : Type 0} → World C → WorldState C
world_of w = record { cfg = w.cfg; nodes = nodes_of w.nodes; mail = w.mail }

-- It may go on: no call failed before.
pub record IsSound {C : Type 0} (allowed : ConfigParts → NodeId → Type 0) (w : World C) : Type 0 where
  pub nodes : AreNodes w.nodes
  pub may : MayOpen allowed w.cfg
