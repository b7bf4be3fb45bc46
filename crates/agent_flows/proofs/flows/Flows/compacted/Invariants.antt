use Rattle.std.proofs.Common.{◌≡◌, take}
use Rattle.agent_flows.specs.Slots.{listed}
use Rattle.agent_flows.proofs.flows.Flows.compacted.Given as goal

abbrev pub invariant-loop-slot : goal.invariant-loop-slot
invariant-loop-slot l = l.flows ≡ listed (take l.slot-index l.slot-items)
