use Rattle.std.proofs.Common.{rules, ◌≡◌, Some}
use Rattle.packet_spec.specs.Packets.{key_of}
use Rattle.node_spec.specs.Steps.{turned}
use Rattle.node_spec.proofs.Turning.{some_tried}
use Rattle.agent_spec.specs.Connections.{by_private}
use Rattle.agent_spec.specs.Packets.{try_packet}
use Rattle.agent_spec.specs.Traffic.{use_conn}
use Rattle.host_agent.specs.Seen.{as_is}
use Rattle.host_agent.proofs.trying.try_packet.Goals as goal

pub returns : goal.returns
unfolding try_packet
returns c =
    let found : by_private (key_of c.args.packet.now) c.args.traffic.now.conns ≡ Some c.in-Some.c = search rules in
    let leaves : (c.use_conn.new.traffic, c.use_conn.new.step)
    ≡ turned as_is c.args.cfg.now c.args.step.now (use_conn c.args.cfg.now c.args.traffic.now c.in-Some.c c.args.packet.now) = search rules in
    rw found (some_tried as_is c.args.cfg.now c.args.step.now c.use_conn.new.step c.args.traffic.now c.use_conn.new.traffic
    (use_conn c.args.cfg.now c.args.traffic.now c.in-Some.c c.args.packet.now) leaves)
