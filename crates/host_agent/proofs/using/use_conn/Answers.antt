use Rattle.std.proofs.Common.{rules, ◌≡◌}
use Rattle.packet_spec.specs.Packets.{has_rst}
use Rattle.node_spec.specs.Steps.{turned}
use Rattle.agent_spec.specs.Traffic.{closes, leaving, touched, use_conn}
use Rattle.host_agent.specs.Leaving.{leaves_by, sent_or_dropped}
use Rattle.host_agent.specs.Seen.{as_is}
use Rattle.host_agent.proofs.Left.{left_turned, dropped_turned}
use Rattle.host_agent.proofs.using.use_conn.Goals as goal

pub returns-in_ok-close_after : goal.returns-in_ok-close_after
unfolding use_conn
returns-in_ok-close_after c =
    let touches : c.touch.new.self ≡ touched c.args.traffic.now c.args.c.now = search rules in
    let leaves : (c.leave.new.step, c.in_ok-left.left)
    ≡ sent_or_dropped c.args.cfg.now c.args.step.now
    (leaves_by c.args.cfg.now c.args.c.now (leaving c.args.c.now c.args.packet.now) c.args.c.now.peer) = search rules in
    let closing : (c.close_after.new.traffic, c.close_after.new.step)
    ≡ turned as_is c.args.cfg.now c.leave.new.step (closes (has_rst c.args.packet.now) c.args.c.now c.touch.new.self) = search rules in
    left_turned c.args.cfg.now c.args.step.now c.leave.new.step (touched c.args.traffic.now c.args.c.now) c.args.c.now
    (leaving c.args.c.now c.args.packet.now) (closes (has_rst c.args.packet.now) c.args.c.now) c.args.c.now.peer
    c.in_ok-left.left (c.close_after.new.traffic, c.close_after.new.step) leaves c.if-left.true (rw touches at closing)

pub returns-else-left : goal.returns-else-left
unfolding use_conn
returns-else-left c =
    let touches : c.touch.new.self ≡ touched c.args.traffic.now c.args.c.now = search rules in
    let leaves : (c.leave.new.step, c.in_ok-left.left)
    ≡ sent_or_dropped c.args.cfg.now c.args.step.now
    (leaves_by c.args.cfg.now c.args.c.now (leaving c.args.c.now c.args.packet.now) c.args.c.now.peer) = search rules in
    rw touches (dropped_turned c.args.cfg.now c.args.step.now c.leave.new.step (touched c.args.traffic.now c.args.c.now) c.args.c.now
    (leaving c.args.c.now c.args.packet.now) (closes (has_rst c.args.packet.now) c.args.c.now) c.args.c.now.peer
    c.in_ok-left.left leaves c.if-left.false)
