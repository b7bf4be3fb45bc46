use Rattle.std.proofs.Common.{◌≡◌, drop, slice_get}
use Rattle.agent_flows.specs.Slots.{listed}
use Rattle.agent_flows.proofs.slots.nth.Given as goal

abbrev pub invariant-loop-slot : goal.invariant-loop-slot
invariant-loop-slot l = slice_get (listed l.slots) l.i ≡ slice_get (listed (drop l.slot-index l.slots)) l.left
