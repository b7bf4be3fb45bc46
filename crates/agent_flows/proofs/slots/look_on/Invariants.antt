use Rattle.std.proofs.Common.{length, ◌-◌, ◌≡◌, find, take, None}
use Rattle.agent_spec.specs.Connections.{is_idle}
use Rattle.agent_flows.specs.Slots.{IsLooked, listed}
use Rattle.agent_flows.proofs.slots.look_on.Given as goal

abbrev pub invariant-loop-looked : goal.invariant-loop-looked
invariant-loop-looked l = record {
  looked : IsLooked l.slots l.looked;
  before : find (is_idle l.now l.idle) (listed (take l.looked.at l.slots)) ≡ None;
}

abbrev pub decreases-loop-looked : goal.decreases-loop-looked
decreases-loop-looked l = length l.slots - l.looked.at
