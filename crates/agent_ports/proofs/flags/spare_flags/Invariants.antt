use Rattle.std.proofs.Common.{◌≡◌, Bool, length, map, take}
use Rattle.wire_core.specs.declared.address.Ip4.{Ip4}
use Rattle.agent_ports.specs.Ports.{Answers, is_spare}
use Rattle.agent_ports.proofs.flags.spare_flags.Given as goal

abbrev pub invariant-loop-h : goal.invariant-loop-h
invariant-loop-h g l = record {
  len : length l.flags.items ≡ l.h-index;
  flags : (test : Ip4 → Bool) → Answers (goal.F-post g l.busy) test
      → l.flags.items ≡ map (is_spare test l.now l.idle) (take l.h-index l.held);
}
