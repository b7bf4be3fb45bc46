use Rattle.std.proofs.Common.{◌≡◌, ℕ, take}
use Rattle.std.specs.List.{flat_map}
use Rattle.control_msg.specs.declared.message.Message.TheVariants.{Return}
use Rattle.node_spec.specs.Sends.{tell_all}
use Rattle.node_spec.specs.Steps.{outgoing, with_sends}
use Rattle.host_agent.proofs.telling.return_each.Given as goal

abbrev pub invariant-loop-n : goal.invariant-loop-n
invariant-loop-n l =
    l.step
    ≡ with_sends (flat_map (outgoing l.fn.cfg)
    (flat_map (λ (n : ℕ). tell_all (Return l.boot n)) (take l.n-index l.numbers))) l.fn.step
