use Rattle.std.proofs.Common.{◌≡◌, take}
use Rattle.host_agent.specs.Idle.{drops, with_acts}
use Rattle.host_agent.proofs.leavers.tell_drops.Given as goal

abbrev pub invariant-loop-n : goal.invariant-loop-n
invariant-loop-n l = l.step ≡ with_acts (drops (take l.n-index l.numbers)) l.fn.step
