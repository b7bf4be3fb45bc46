use Rattle.std.proofs.Common.{rules, ◌≡◌}
use Rattle.wire_core.specs.declared.act.Act.TheVariants.{Hold}
use Rattle.wire_core.specs.Steps.{with_act}
use Rattle.node_spec.specs.Steps.{turned}
use Rattle.node_spec.specs.Turns.{each}
use Rattle.agent_spec.specs.Answers.{ask_left, retry}
use Rattle.host_agent.specs.Retries.{without_ask}
use Rattle.host_agent.specs.Seen.{as_is, site}
use Rattle.host_agent.proofs.Retried.{grant_turned}
use Rattle.host_agent.proofs.grant.take_grant.Goals as goal

pub returns-clause-turn : goal.returns-clause-turn
returns-clause-turn c =
    let waits : c.in_ok-waiting.waiting ≡ c.args.host.now.queue = search rules in
    let begins : c.begin.new.self ≡ without_ask c.args.seq c.args.host.now = search rules in
    let acts : c.act.new.self ≡ with_act (Hold c.args.n) c.args.step.now = search rules in
    let tries : (site c.retry_each.new.traffic c.retry_each.new.host, c.retry_each.new.step)
    ≡ turned as_is c.args.cfg.now c.act.new.self
    (each (retry c.args.cfg.now) c.in_ok-waiting.waiting (site c.args.traffic.now c.begin.new.self)) = search rules in
    let asks : (site c.retry_each.new.traffic c.ask_left.new.host, c.ask_left.new.step)
    ≡ turned as_is c.args.cfg.now c.retry_each.new.step
    (ask_left c.args.origin.now.boot c.args.origin.now.hint (site c.retry_each.new.traffic c.retry_each.new.host)) = search rules in
    grant_turned c.args.cfg.now c.args.origin.now.boot c.args.origin.now.hint c.args.seq c.args.n c.args.step.now
    c.retry_each.new.step c.ask_left.new.step (site c.args.traffic.now c.args.host.now)
    (site c.retry_each.new.traffic c.retry_each.new.host) (site c.retry_each.new.traffic c.ask_left.new.host)
    (rw (waits, begins, acts) at tries) asks
