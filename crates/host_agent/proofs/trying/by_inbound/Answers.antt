use Rattle.std.proofs.Common.{rules, ◌≡◌, Some}
use Rattle.packet_spec.specs.Packets.{key_of}
use Rattle.node_spec.specs.Steps.{turned}
use Rattle.node_spec.proofs.Turning.{some_tried}
use Rattle.agent_spec.specs.Connections.{by_private}
use Rattle.agent_spec.specs.Traffic.{use_inbound}
use Rattle.host_agent.specs.Seen.{as_is}
use Rattle.host_agent.proofs.trying.by_inbound.Goals as goal

pub returns : goal.returns
returns c =
    let found : by_private (key_of c.args.packet.now) c.args.traffic.now.inbound ≡ Some c.in-Some.c = search rules in
    let leaves : (c.use_inbound.new.traffic, c.use_inbound.new.step)
    ≡ turned as_is c.args.cfg.now c.args.step.now (use_inbound c.args.cfg.now c.args.traffic.now c.in-Some.c c.args.packet.now) = search rules in
    rw found (some_tried as_is c.args.cfg.now c.args.step.now c.use_inbound.new.step c.args.traffic.now c.use_inbound.new.traffic
    (use_inbound c.args.cfg.now c.args.traffic.now c.in-Some.c c.args.packet.now) leaves)
