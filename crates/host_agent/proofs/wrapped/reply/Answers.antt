use Rattle.std.proofs.Common.{rules, ◌≡◌, true, ap}
use Rattle.packet_spec.specs.Packets.{has_rst}
use Rattle.wire_core.specs.Same.{same_ip}
use Rattle.wire_core.specs.declared.step.Step.{Step}
use Rattle.node_spec.specs.Steps.{turned}
use Rattle.agent_spec.specs.Traffic.{closes, hand, touched}
use Rattle.agent_spec.specs.Wrapped.{reply}
use Rattle.host_agent.specs.Seen.{as_is}
use Rattle.host_agent.specs.Transfers.{handed}
use Rattle.host_agent.proofs.Handed.{hand_turned}
use Rattle.host_agent.proofs.Tries.{both_turned}
use Rattle.host_agent.proofs.wrapped.reply.Goals as goal

pub returns : goal.returns
unfolding reply
returns c =
    let own : same_ip c.args.c.now.machine c.args.machine ≡ true = search rules in
    let touches : c.touch.new.self ≡ touched c.args.traffic.now c.args.c.now = search rules in
    let hands : c.hand.new.step ≡ handed c.args.cfg.now c.args.step.now c.args.c.now c.args.packet.now = search rules in
    let closing : (c.close_after.new.traffic, c.close_after.new.step)
    ≡ turned as_is c.args.cfg.now c.hand.new.step (closes (has_rst c.args.packet.now) c.args.c.now c.touch.new.self) = search rules in
    rw own (both_turned c.args.cfg.now c.args.step.now (handed c.args.cfg.now c.args.step.now c.args.c.now c.args.packet.now)
    c.close_after.new.step (touched c.args.traffic.now c.args.c.now) c.close_after.new.traffic
    (hand (touched c.args.traffic.now c.args.c.now) c.args.c.now c.args.packet.now)
    (closes (has_rst c.args.packet.now) c.args.c.now)
    (hand_turned c.args.cfg.now c.args.step.now (touched c.args.traffic.now c.args.c.now) c.args.c.now c.args.packet.now)
    (rw (touches, hands) at closing))
