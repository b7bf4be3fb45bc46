-- A packet that was handed.
use Rattle.std.proofs.Common.{◌≡◌, ◌∙◌, ℕ, List, [], ◌∷◌, refl, sym, ap, append-nil}
use Rattle.vip_config.specs.declared.parts.ConfigParts.{ConfigParts}
use Rattle.wire_core.specs.declared.outgoing.Outgoing.{Outgoing}
use Rattle.wire_core.specs.declared.step.Step.{Step}
use Rattle.wire_core.specs.declared.act.Act.TheVariants.{Hand}
use Rattle.wire_core.specs.Steps.{first_of, with_act}
use Rattle.std.specs.Prelude.{Option, Some, None, ◌++◌}
use Rattle.node_spec.specs.Sends.{Send, ToMachine, carry}
use Rattle.node_spec.specs.Steps.{onto, outgoing, turned, with_sends}
use Rattle.node_spec.specs.Turns.{act_turn}
use Rattle.node_spec.proofs.Turning.{onto_act}
use Rattle.agent_spec.specs.declared.connection.Connection.{Connection}
use Rattle.agent_spec.specs.Agent.{Traffic}
use Rattle.agent_spec.specs.Traffic.{hand, restored}
use Rattle.host_agent.specs.Transfers.{handed}
use Rattle.host_agent.specs.Seen.{as_is}

first_none : {X : Type 0} (e : Option X) → first_of e None ≡ e
first_none None = refl
first_none (Some x) = refl

pub hand_turned : (c : ConfigParts) (o : Step) (t : Traffic) (x : Connection) (p : List ℕ)
    → (t, handed c o x p) ≡ turned as_is c o (hand t x p)
unfolding hand turned onto
hand_turned c o t x p =
    rw (first_none o.entry, append-nil o.notes, append-nil (outgoing c (carry (ToMachine x.machine) (restored x p)))) refl
