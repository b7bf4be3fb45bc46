use Rattle.std.proofs.Common.{◌∙◌, sym, filter}
use Rattle.agent_spec.specs.Connections.{is_idle}
use Rattle.agent_flows.proofs.Looks.{fewer_idle, settled}
use Rattle.agent_flows.proofs.flows.Flows.forget_idle.Goals as goal

pub loop-smaller : goal.loop-smaller
loop-smaller c =
    fewer_idle c.expire.result (filter (is_idle c.args.now c.args.idle) c.loop.self)
    (filter (is_idle c.args.now c.args.idle) c.expire.new.self)
    (sym c.is_some.ensures ∙ c.loop-test.true)
    c.expire.ensures.walk

pub loop-preserved : goal.loop-preserved
loop-preserved c = c.expire.ensures.others ∙ c.loop.invariant

pub returns : goal.returns
returns c =
    settled (is_idle c.args.now c.args.idle) c.expire.result c.loop.self c.expire.new.self c.args.self.now
    (sym c.is_some.ensures ∙ c.loop-test.false)
    c.expire.ensures.first
    c.expire.ensures.left
    c.loop.invariant
