use Rattle.std.proofs.Common.{rules, ◌≡◌, nat_le, length, true}
use Rattle.node_spec.specs.Steps.{turned}
use Rattle.agent_spec.specs.Packets.{ask_for}
use Rattle.host_agent.specs.Seen.{as_is, site}
use Rattle.host_agent.proofs.Sites.{host_turned}
use Rattle.host_agent.proofs.grant.ask_left.Goals as goal

pub returns-in_ok-ask_for-clause-turn : goal.returns-in_ok-ask_for-clause-turn
returns-in_ok-ask_for-clause-turn c =
    let holds : nat_le 1 (length c.args.host.now.queue) ≡ true = search rules in
    let asks : (c.ask_for.new.self, c.ask_for.new.step)
    ≡ turned as_is c.args.cfg.now c.args.step.now
    (ask_for c.args.origin.now.boot c.args.origin.now.hint c.args.traffic.now.time c.args.host.now) = search rules in
    rw holds (host_turned c.args.cfg.now c.args.step.now c.ask_for.new.step c.ask_for.new.self
    (site c.args.traffic.now c.args.host.now)
    (ask_for c.args.origin.now.boot c.args.origin.now.hint c.args.traffic.now.time c.args.host.now) asks)
