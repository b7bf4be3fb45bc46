-- A packet is handed to a machine.
use Rattle.std.specs.Prelude.{ℕ, List}
use Rattle.vip_config.specs.declared.parts.ConfigParts.{ConfigParts}
use Rattle.wire_core.specs.declared.act.Act.TheVariants.{Hand}
use Rattle.wire_core.specs.declared.step.Step.{Step}
use Rattle.wire_core.specs.Steps.{with_act}
use Rattle.node_spec.specs.Sends.{ToMachine, carry}
use Rattle.node_spec.specs.Steps.{outgoing, with_sends}
use Rattle.agent_spec.specs.declared.connection.Connection.{Connection}
use Rattle.wire_core.specs.declared.address.Ip4.{Ip4}
use Rattle.wire_core.specs.declared.range.Range.{Range}
use Rattle.agent_spec.specs.declared.held.Granting.{Granting}
use Rattle.agent_spec.specs.Agent.{Traffic, with_ranges}
use Rattle.agent_spec.specs.Ranges.{granted}
use Rattle.agent_spec.specs.Traffic.{restored}

-- as an act, and to the machine's socket
abbrev pub handed : ConfigParts → Step → Connection → List ℕ → Step
handed c s x p =
    with_sends (outgoing c (carry (ToMachine x.machine) (restored x p))) (with_act (Hand x.machine (restored x p)) s)

-- a Grant of a range to a machine, and what came of it
abbrev pub granted_to : Traffic → ℕ → Range → Ip4 → Traffic × Granting
granted_to t n r machine =
    (with_ranges t (granted t.ranges n r machine t.time).0, (granted t.ranges n r machine t.time).1)
