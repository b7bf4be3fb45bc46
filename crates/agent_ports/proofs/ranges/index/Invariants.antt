use Rattle.std.proofs.Common.{◌≡◌, take}
use Rattle.indexmap.specs.IndexMap.{get}
use Rattle.wire_core.specs.declared.address.Ip4.{Ip4}
use Rattle.wire_core.specs.Same.{same_ip}
use Rattle.agent_ports.specs.Leases.{entry_leases, leases_of}
use Rattle.agent_ports.proofs.ranges.index.Given as goal

abbrev pub invariant-loop-h : goal.invariant-loop-h
invariant-loop-h l = (m : Ip4) → entry_leases (get same_ip l.map m) ≡ leases_of (take l.h-index l.held) m
