use Rattle.vip_config.specs.Machines.{address_claims}
use Rattle.vip_config.specs.Claims.{claims_of}
use Rattle.std.proofs.Common.{ap, ◌∙◌}
use Rattle.vip_config.specs.Claims.{all_claimed}
use Rattle.vip_config.specs.Machines.{agent_address_claims}
use Rattle.vip_config.proofs.Walks.{one_more}
use Rattle.vip_config.proofs.machines.claim_agents.Goals as goal
use Rattle.wire_core.specs.Same.{same_ip}

pub loop-i-preserved : goal.loop-i-preserved
loop-i-preserved c =
    one_more same_ip agent_address_claims c.args.walk.now c.loop-i.walk c.claim_addresses.new.walk c.loop-i.i _
    c.args.agents.now c.loop-i-test.true
    (c.in_ok-claim_addresses.ensures
    ∙ ap (λ s. all_claimed same_ip c.loop-i.walk (claims_of (address_claims c.loop-i.i) 0 s)) c.as_slice.ensures
    ∙ ap (λ x. all_claimed same_ip c.loop-i.walk (agent_address_claims c.loop-i.i x)) c.index-agents-i.is)
    c.loop-i.invariant
