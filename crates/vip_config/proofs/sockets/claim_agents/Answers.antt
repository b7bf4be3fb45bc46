use Rattle.std.proofs.Common.{ap, ◌∙◌}
use Rattle.vip_config.specs.Claims.{all_claimed}
use Rattle.vip_config.specs.Sockets.{agent_claims}
use Rattle.vip_config.proofs.Walks.{one_more}
use Rattle.vip_config.proofs.sockets.claim_agents.Goals as goal
use Rattle.wire_core.specs.Same.{same_socket}

pub loop-i-preserved : goal.loop-i-preserved
loop-i-preserved c =
    one_more same_socket agent_claims c.args.walk.now c.loop-i.walk c.claim_agent.new.walk c.loop-i.i _
    c.args.agents.now c.loop-i-test.true
    (c.in_ok-claim_agent.ensures
    ∙ ap (λ agent. all_claimed same_socket c.loop-i.walk (agent_claims c.loop-i.i agent)) c.index-agents-i.is)
    c.loop-i.invariant
