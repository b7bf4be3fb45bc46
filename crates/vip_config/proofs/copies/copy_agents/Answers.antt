use Rattle.std.proofs.Common.{◌∷◌, [], ◌++◌, ap, ◌∙◌}
use Rattle.vip_config.proofs.Loops.{copied_more}
use Rattle.vip_config.proofs.copies.copy_agents.Goals as goal

pub loop-agent-preserved : goal.loop-agent-preserved
loop-agent-preserved c =
    copied_more c.args.agents.now c.loop-agent.agent-index _ c.loop-agent-test.true c.loop-agent.copies.items
    c.push.new.self.items
    (c.in_ok-push.ensures.items ∙ ap (λ x. c.loop-agent.copies.items ++ x ∷ [])
    (c.in_ok-copy_agent.ensures ∙ c.agent-item.is)) c.loop-agent.invariant
