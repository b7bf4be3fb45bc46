-- A node of any role: what it is once it has opened, and what an input makes of it.
use Rattle.std.specs.Prelude.{true, List, Option}
use Rattle.wire_core.specs.Steps.{no_step}
use Rattle.wire_core.specs.declared.entry.Entry.{Entry}
use Rattle.wire_core.specs.declared.node.NodeId.{NodeId}
use Rattle.wire_core.specs.declared.node.NodeId.TheVariants as node
use Rattle.wire_core.specs.declared.step.Step.{Step}
use Rattle.vip_config.specs.declared.parts.ConfigParts.{ConfigParts}
use Rattle.node_spec.specs.Steps.{turned}
use Rattle.node_spec.specs.Turns.{Input}
use Rattle.manager_spec.specs.Manager.{Manager, opened_manager}
use Rattle.manager_spec.specs.ManagerTable.{manager_step}
use Rattle.mux_spec.specs.Mux.{Mux as MuxLists, opened_mux}
use Rattle.mux_spec.specs.MuxTable.{mux_step}
use Rattle.agent_spec.specs.Agent.{Agent as AgentLists, opened_agent}
use Rattle.agent_spec.specs.AgentTable.{agent_step}
use Rattle.manager_core.specs.Seen.{with_lists as manager_with}
use Rattle.mux_core.specs.Seen.{with_lists as mux_with}
use Rattle.host_agent.specs.Seen.{with_lists as agent_with}
use Rattle.node_roles.specs.declared.role.Role.{Role}
use Rattle.node_roles.specs.declared.role.Role.TheVariants.{Replica, Mux, Agent}

-- What a node is once it has opened with these entries: what the table of its role opens to, under the configuration.
abbrev pub opened : ConfigParts → NodeId → List Entry → Role
opened cfg (node.Replica i) entries =
    Replica (record { config = cfg; lists = opened_manager cfg i entries; sound = true })
opened cfg (node.Mux i) entries = Mux (record { config = cfg; lists = opened_mux cfg i entries })
opened cfg (node.Agent i) entries = Agent (record { config = cfg; lists = opened_agent cfg i entries })

-- What an input makes of a node, and its step: the turn of its role's table.
abbrev pub step : Role → Input → Role × Step
step (Replica r) x =
    turned (λ (lists : Manager). Replica (manager_with r lists)) r.config no_step (manager_step r.config r.lists x)
step (Mux m) x = turned (λ (lists : MuxLists). Mux (mux_with m lists)) m.config no_step (mux_step m.config m.lists x)
step (Agent a) x =
    turned (λ (lists : AgentLists). Agent (agent_with a lists)) a.config no_step (agent_step a.config a.lists x)

-- The entry that an input makes a node write: that of the same turn.
abbrev pub written : Role → Input → Option Entry
written (Replica r) x = (manager_step r.config r.lists x).entry
written (Mux m) x = (mux_step m.config m.lists x).entry
written (Agent a) x = (agent_step a.config a.lists x).entry
