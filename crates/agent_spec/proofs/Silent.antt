-- An agent writes nothing but its Boot.
use Rattle.std.proofs.Common.{◌≡◌, refl, ℕ, List, None, arith}
use Rattle.control_msg.specs.declared.message.Message.{Message}
use Rattle.control_msg.specs.declared.message.Message.TheVariants as message
use Rattle.node_spec.specs.Datagrams.{Heard, Refused, Told, Brought, heard, by_heard}
use Rattle.node_spec.specs.Turns.{Input, Arrived, Ticked, drop_turn}
use Rattle.vip_config.specs.declared.parts.ConfigParts.{ConfigParts}
use Rattle.vip_config.specs.declared.who.Who.{Who}
use Rattle.vip_config.specs.declared.who.Who.TheVariants as who
use Rattle.wire_core.specs.declared.node.NodeId.{NodeId}
use Rattle.wire_core.specs.declared.node.NodeId.TheVariants as node
use Rattle.agent_spec.specs.Agent.{Agent}
use Rattle.agent_spec.specs.AgentTable.{agent_hears, agent_step, agent_takes, from_mux}
use Rattle.agent_spec.proofs.Answering.{answers_leave, ticks_leave}
use Rattle.agent_spec.proofs.Passing.{machine_leaves, wrapped_leaves}

-- a Redirect isn't taken yet
muxes_silent : (c : ConfigParts) (a : Agent) (from : ℕ) (m : Message) → (from_mux c a from m).entry ≡ None
muxes_silent c a from m = grind arith

hears_silent : (c : ConfigParts) (a : Agent) (from : NodeId) (m : Message) → (agent_hears c a from m).entry ≡ None
unfolding agent_hears
hears_silent c a (node.Replica from) m = (answers_leave c a from m).entry
hears_silent c a (node.Mux from) m = muxes_silent c a from m
hears_silent c a (node.Agent from) m = refl

takes_silent : (c : ConfigParts) (a : Agent) (sender : Who) (bytes : List ℕ)
    → (agent_takes c a sender bytes).entry ≡ None
unfolding agent_takes
takes_silent c a (who.Replica i) bytes = refl
takes_silent c a (who.Mux i) bytes = (wrapped_leaves c a (who.Mux i) bytes).entry
takes_silent c a (who.Agent i) bytes = (wrapped_leaves c a (who.Agent i) bytes).entry
takes_silent c a (who.Machine machine) bytes = (machine_leaves c a machine bytes).entry
takes_silent c a who.Outside bytes = refl

heard_silent : (c : ConfigParts) (a : Agent) (h : Heard)
    → (by_heard (drop_turn a) (agent_hears c a) (agent_takes c a) h).entry ≡ None
heard_silent c a (Refused cause) = refl
heard_silent c a (Told from m) = hears_silent c a from m
heard_silent c a (Brought sender bytes) = takes_silent c a sender bytes

pub step_silent : (c : ConfigParts) (a : Agent) (x : Input) → (agent_step c a x).entry ≡ None
unfolding agent_step
step_silent c a (Arrived from bytes) = heard_silent c a (heard c from bytes)
step_silent c a (Ticked now) = (ticks_leave c a now).entry
