use Rattle.std.proofs.Common.{◌≡◌, take}
use Rattle.vip_config.proofs.copies.copy_endpoints.Given as goal

abbrev pub invariant-loop-endpoint : goal.invariant-loop-endpoint
invariant-loop-endpoint l = l.copies.items ≡ take l.endpoint-index l.endpoints
