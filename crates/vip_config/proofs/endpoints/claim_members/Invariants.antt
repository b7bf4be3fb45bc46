use Rattle.std.proofs.Common.{◌≡◌, take}
use Rattle.vip_config.specs.Claims.{all_claimed, claims_of}
use Rattle.vip_config.specs.Endpoints.{member_claims, same_endpoint_key}
use Rattle.vip_config.proofs.endpoints.claim_members.Given as goal

abbrev pub invariant-loop-k : goal.invariant-loop-k
invariant-loop-k l =
    l.walk ≡ all_claimed same_endpoint_key l.fn.walk
    (claims_of (member_claims l.machines.entries l.at.vip l.at.endpoint l.at.proto) 0 (take l.k l.members))
