use Rattle.std.proofs.Common.{◌≡◌, false, take}
use Rattle.std.specs.List.{list_any}
use Rattle.manager_spec.specs.Agents.{same_request}
use Rattle.manager_log.specs.Parts.{command_of}
use Rattle.manager_log.proofs.queue.Request.is_within.Given as goal

abbrev pub invariant-loop-i : goal.invariant-loop-i
invariant-loop-i l = list_any (same_request (command_of l.self)) (take l.i l.value) ≡ false
