use Rattle.std.proofs.Common.{rules, ◌≡◌, Bool, true, false, Ok, take, refl}
use Rattle.std.specs.Prelude.{is_none}
use Rattle.packet_spec.specs.Packets.{read_packet}
use Rattle.node_spec.specs.Steps.{tried}
use Rattle.agent_spec.specs.Answers.{retry}
use Rattle.agent_spec.specs.Packets.{with_packet}
use Rattle.host_agent.specs.Retries.{may_leave}
use Rattle.host_agent.specs.Seen.{as_is}
use Rattle.host_agent.proofs.Retried.{left_again, waits_again}
use Rattle.host_agent.proofs.grant.retry.Goals as goal

pub returns-in_default-clause-turn : goal.returns-in_default-clause-turn
unfolding retry
returns-in_default-clause-turn c =
    let tries : (c.leaves.new.traffic, (c.leaves.new.step, true))
    ≡ tried as_is c.args.cfg.now c.args.step.now c.args.traffic.now
    (may_leave c.args.cfg.now c.args.traffic.now (read_packet c.args.bytes.items)) = search rules in
    left_again c.args.cfg.now c.args.step.now c.leaves.new.step c.args.traffic.now c.leaves.new.traffic c.args.host.now
    (read_packet c.args.bytes.items) true tries refl

pub returns-clause-turn : goal.returns-clause-turn
unfolding retry
returns-clause-turn c =
    let packet : read_packet c.args.bytes.items ≡ Ok (take c.in-Some.len c.args.bytes.items) = search rules in
    let keeps : c.keep.new.self ≡ with_packet c.args.host.now (take c.in-Some.len c.args.bytes.items) = search rules in
    let tries : (c.leaves.new.traffic, (c.leaves.new.step, false))
    ≡ tried as_is c.args.cfg.now c.args.step.now c.args.traffic.now
    (may_leave c.args.cfg.now c.args.traffic.now (read_packet c.args.bytes.items)) = search rules in
    rw (packet, keeps) (waits_again c.args.cfg.now c.args.step.now c.leaves.new.step c.args.traffic.now c.leaves.new.traffic
    c.args.host.now (take c.in-Some.len c.args.bytes.items) false (rw packet at tries) refl)
