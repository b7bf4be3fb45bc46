use Rattle.std.proofs.Common.{rules, ◌≡◌, ◌∙◌, sym, ap, true, false, Some, ℕ}
use Rattle.agent_ports.specs.Full.{is_taken}
use Rattle.agent_ports.specs.Leases.{port_at}
use Rattle.agent_ports.proofs.Choosing.{taken_is, unused_here, unused_later}
use Rattle.agent_ports.proofs.choice.free_in.Goals as goal

pub returns-then-is_none : goal.returns-then-is_none
returns-then-is_none c =
    let free : is_taken c.args.flows.now c.args.end.now (port_at c.args.lease.now c.loop-i.i).1 ≡ false = search rules in
    ap (λ (p : ℕ × ℕ). Some p) c.port-port.ensures
    ∙ sym
    (unused_here (is_taken c.args.flows.now c.args.end.now) (port_at c.args.lease.now) c.loop-i.i c.loop-i-test.true free)
    ∙ c.loop-i.invariant

pub loop-i-preserved : goal.loop-i-preserved
loop-i-preserved c =
    let taken : is_taken c.args.flows.now c.args.end.now (port_at c.args.lease.now c.loop-i.i).1 ≡ true = search rules in
    sym
    (unused_later (is_taken c.args.flows.now c.args.end.now) (port_at c.args.lease.now) c.loop-i.i c.loop-i-test.true taken)
    ∙ c.loop-i.invariant
