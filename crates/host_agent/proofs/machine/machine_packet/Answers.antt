use Rattle.std.proofs.Common.{rules, ◌≡◌, true}
use Rattle.packet_spec.specs.Packets.{key_of}
use Rattle.wire_core.specs.Same.{same_ip}
use Rattle.node_spec.specs.Steps.{turned, tried}
use Rattle.agent_spec.specs.Packets.{machine_packet, stays, try_packet}
use Rattle.host_agent.specs.Seen.{as_is}
use Rattle.host_agent.proofs.Sites.{left_packet, stayed_packet}
use Rattle.host_agent.proofs.machine.machine_packet.Goals as goal

pub returns-then-left-clause-turn : goal.returns-then-left-clause-turn
unfolding machine_packet
returns-then-left-clause-turn c =
    let own : same_ip (key_of c.args.packet.now).src c.args.host.now.machine ≡ true = search rules in
    let tries : (c.try_packet.new.traffic, (c.try_packet.new.step, c.in_ok-left.left))
    ≡ tried as_is c.args.cfg.now c.args.step.now c.args.traffic.now
    (try_packet c.args.cfg.now c.args.traffic.now c.args.packet.now) = search rules in
    rw own (left_packet c.args.cfg.now c.args.origin.now.boot c.args.origin.now.hint c.args.step.now c.try_packet.new.step
    c.args.traffic.now c.try_packet.new.traffic c.args.host.now c.args.packet.now
    (try_packet c.args.cfg.now c.args.traffic.now c.args.packet.now) c.in_ok-left.left tries c.if-left.true)

pub returns-clause-turn : goal.returns-clause-turn
unfolding machine_packet
returns-clause-turn c =
    let own : same_ip (key_of c.args.packet.now).src c.args.host.now.machine ≡ true = search rules in
    let tries : (c.try_packet.new.traffic, (c.try_packet.new.step, c.in_ok-left.left))
    ≡ tried as_is c.args.cfg.now c.args.step.now c.args.traffic.now
    (try_packet c.args.cfg.now c.args.traffic.now c.args.packet.now) = search rules in
    let holds : (c.hold.new.self, c.hold.new.step)
    ≡ turned as_is c.args.cfg.now c.try_packet.new.step
    (stays c.args.origin.now.boot c.args.origin.now.hint c.try_packet.new.traffic.time c.args.host.now c.args.packet.now) = search rules in
    rw own (stayed_packet c.args.cfg.now c.args.origin.now.boot c.args.origin.now.hint c.args.step.now c.try_packet.new.step
    c.hold.new.step c.args.traffic.now c.try_packet.new.traffic c.args.host.now c.hold.new.self c.args.packet.now
    (try_packet c.args.cfg.now c.args.traffic.now c.args.packet.now) c.in_ok-left.left tries c.if-left.false holds)
