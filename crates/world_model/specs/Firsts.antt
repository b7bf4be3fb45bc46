-- The first world: every node opened on an empty disk, and nothing sent.
use Rattle.std.specs.Prelude.{[]}
use Rattle.vip_config.specs.declared.parts.ConfigParts.{ConfigParts}
use Rattle.world_nodes.specs.Firsts.{first_nodes}
use Rattle.world_nodes.specs.Sites.{Opening}
use Rattle.world_model.specs.World.{WorldState}

-- Every node opened on an empty disk, and nothing sent.
abbrev pub first_world : {C : Type 0} → Opening C → ConfigParts → WorldState C
first_world recover cfg =
    record { cfg = cfg; nodes = first_nodes recover cfg; mail = record { posted = []; taken = [] } }
