use Rattle.std.proofs.Common.{◌+◌, ◌≡◌, ◌++◌, take}
use Rattle.world_spec.specs.Steps.{sent_lines}
use Rattle.world_model.proofs.spreading.say_all_sent.Given as goal

abbrev pub invariant-loop-send : goal.invariant-loop-send
invariant-loop-send l = record {
  at : l.k ≡ l.sent + l.send-index;
  lines : l.lines.items ≡ l.initial.lines.items ++ sent_lines l.from l.sent (take l.send-index l.sends);
}
