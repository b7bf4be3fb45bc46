use Rattle.std.proofs.Common.{◌≡◌, drop}
use Rattle.wire_core.specs.Flows.{fnv_1a_from}
use Rattle.wire_core.proofs.fnv.fnv_1a_from.Given as goal

abbrev pub invariant-loop-byte : goal.invariant-loop-byte
invariant-loop-byte l = fnv_1a_from l.hash (drop l.byte-index l.bytes) ≡ fnv_1a_from l.fn.hash l.bytes
