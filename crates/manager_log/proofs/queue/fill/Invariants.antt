use Rattle.std.proofs.Common.{◌≡◌, ◌-◌, ◌++◌, map, take, drop, length}
use Rattle.manager_log.specs.Parts.{command_of}
use Rattle.manager_log.proofs.queue.fill.Given as goal

abbrev pub invariant-loop-requests : goal.invariant-loop-requests
invariant-loop-requests l = record {
  value : l.value ++ take (16 - length l.value) (map command_of l.requests.items)
      ≡ l.fn.value ++ take (16 - length l.fn.value) (map command_of l.fn.requests.items);
  left : drop (16 - length l.value) (map command_of l.requests.items)
      ≡ drop (16 - length l.fn.value) (map command_of l.fn.requests.items);
}

abbrev pub decreases-loop-requests : goal.decreases-loop-requests
decreases-loop-requests l = length l.requests.items
