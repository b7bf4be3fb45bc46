use Rattle.std.proofs.Common.{rules, ◌≡◌}
use Rattle.agent_spec.specs.Traffic.{inbound_touched, leaving, use_inbound}
use Rattle.host_agent.specs.Leaving.{leaves_by, sent_or_dropped}
use Rattle.host_agent.proofs.Left.{gone_turned}
use Rattle.host_agent.proofs.using.use_inbound.Goals as goal

pub returns : goal.returns
unfolding use_inbound
returns c =
    let touches : c.touch_inbound.new.self ≡ inbound_touched c.args.traffic.now c.args.c.now = search rules in
    let leaves : (c.leave.new.step, c.in_ok-leave.field-0)
    ≡ sent_or_dropped c.args.cfg.now c.args.step.now
    (leaves_by c.args.cfg.now c.args.c.now (leaving c.args.c.now c.args.packet.now) c.args.c.now.peer) = search rules in
    rw touches (gone_turned c.args.cfg.now c.args.step.now c.leave.new.step (inbound_touched c.args.traffic.now c.args.c.now) c.args.c.now
    (leaving c.args.c.now c.args.packet.now) c.args.c.now.peer c.in_ok-leave.field-0 leaves)
