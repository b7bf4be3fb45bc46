use Rattle.std.proofs.Common.{◌≡◌, take}
use Rattle.vip_config.specs.Leases.{taken_ports}
use Rattle.vip_config.proofs.leases.take_ports.Given as goal

abbrev pub invariant-loop-endpoint : goal.invariant-loop-endpoint
invariant-loop-endpoint l = l.ports.items ≡ taken_ports (take l.endpoint-index l.endpoints)
