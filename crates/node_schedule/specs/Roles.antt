-- A node's lists by the tables as what decides in the code's node.
use Rattle.std.specs.Prelude.{true}
use Rattle.vip_config.specs.declared.parts.ConfigParts.{ConfigParts}
use Rattle.node_roles.specs.Roles.{opened, step, written}
use Rattle.node_roles.specs.declared.role.Role.{Role}
use Rattle.node_roles.specs.declared.role.Role.TheVariants.{Replica, Mux, Agent}
use Rattle.world_spec.specs.Nodes.{Lists, OfManager, OfMux, OfAgent}
use Rattle.world_model.specs.Shown.{FollowsTables}
use Rattle.world_nodes.specs.Sites.{deciding}

-- what decides in a node with these lists, under a configuration
abbrev pub role_of : ConfigParts → Lists → Role
role_of cfg (OfManager m) = Replica (record { config = cfg; lists = m; sound = true })
role_of cfg (OfMux m) = Mux (record { config = cfg; lists = m })
role_of cfg (OfAgent a) = Agent (record { config = cfg; lists = a })

-- Whatever a node's role: each step is the turn of its table, and each opening makes the lists that its entries make.
abbrev pub RolesFollow : Type 0
RolesFollow = (cfg : ConfigParts) → FollowsTables cfg (role_of cfg) (deciding step written) opened
