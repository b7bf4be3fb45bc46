use Rattle.std.proofs.Common.{List, ◌++◌, map, subst}
use Rattle.config_text.specs.declared.agents.AgentConf.{AgentConf}
use Rattle.config_text.specs.declared.agents.Attach.{Attach}
use Rattle.wire_core.specs.Same.{same_ip}
use Rattle.vip_config.specs.Ways.{FindsAs, attaches_of}
use Rattle.vip_config.proofs.Lookups.{finds_joined}
use Rattle.vip_config.proofs.ways.index_attached.Goals as goal

pub loop-agent-preserved : goal.loop-agent-preserved
loop-agent-preserved c =
    let before = c.loop-agent.index.entries in
    let after = c.add_attached.new.index.entries in
    let step : FindsAs same_ip after (before ++ attaches_of c.agent-item.result) =
    subst (λ (machines : List Attach). FindsAs same_ip after (before ++ map (λ m. (m.address, m.attach)) machines))
    c.as_slice.ensures c.in_ok-add_attached.ensures in
    finds_joined same_ip c.args.agents.now c.loop-agent.agent-index _ c.loop-agent-test.true attaches_of
    before after c.loop-agent.invariant
    (subst (λ (agent : AgentConf). FindsAs same_ip after (before ++ attaches_of agent)) c.agent-item.is step)
