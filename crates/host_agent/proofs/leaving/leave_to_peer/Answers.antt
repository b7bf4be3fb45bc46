use Rattle.std.proofs.Common.{rules, ◌≡◌, ℕ, List, Bool, true, None, ap}
use Rattle.wire_core.specs.declared.step.Step.{Step}
use Rattle.ipip.specs.Wrapping.{wrap_fault, wrapped}
use Rattle.node_spec.specs.Sends.{Carries}
use Rattle.node_spec.specs.Steps.{datagram}
use Rattle.agent_spec.specs.Traffic.{leaving}
use Rattle.host_agent.proofs.leaving.leave_to_peer.Goals as goal

pub returns-in_ok-to_agent_of-in-Ok : goal.returns-in_ok-to_agent_of-in-Ok
unfolding datagram
returns-in_ok-to_agent_of-in-Ok c =
    let p : List ℕ = leaving c.args.c.now c.args.packet.now in
    let clear : wrap_fault 0 (leaving c.args.c.now c.args.packet.now) ≡ None = search rules in
    let items : c.wrap_frame.new.bytes.items
    ≡ datagram (Carries (wrapped 0 c.args.c.now.machine c.args.peer (leaving c.args.c.now c.args.packet.now))) = search rules in
    rw clear (ap (λ (s : Step). (s, true))
    (c.in_ok-to_agent_of-in-Ok.ensures (wrapped 0 c.args.c.now.machine c.args.peer (leaving c.args.c.now c.args.packet.now)) items))
