use Rattle.std.proofs.Common.{rules, ◌≡◌, ◌∙◌, sym, ap, arith, drop, true, false, None, List, ◌∷◌, ◌+◌}
use Rattle.std.proofs.lemmas.List.{drop_all, drop_more}
use Rattle.agent_spec.specs.Ranges.{first_unused}
use Rattle.agent_ports.specs.declared.lease.Lease.{Lease}
use Rattle.agent_ports.specs.Full.{is_taken}
use Rattle.agent_ports.specs.Leases.{lease_ports}
use Rattle.agent_ports.proofs.Choosing.{found_here, found_later, none_left}
use Rattle.agent_ports.proofs.choice.first_free.Goals as goal

pub returns-then-is_some : goal.returns-then-is_some
returns-then-is_some c =
    let step = drop_more c.args.leases.now c.loop-lease.lease-index _ c.loop-lease-test.true in
    sym
    (found_here (is_taken c.args.flows.now c.args.end.now) _ (drop (c.loop-lease.lease-index + 1) c.args.leases.now)
    c.free_in-found.result
    (sym c.is_some.ensures ∙ c.if-is_some.true)
    c.free_in-found.ensures)
    ∙ ap
    (λ (l : List Lease). first_unused (is_taken c.args.flows.now c.args.end.now) (lease_ports l))
    (sym step)
    ∙ c.loop-lease.invariant

pub loop-lease-preserved : goal.loop-lease-preserved
loop-lease-preserved c =
    let step = drop_more c.args.leases.now c.loop-lease.lease-index _ c.loop-lease-test.true in
    sym
    (found_later (is_taken c.args.flows.now c.args.end.now) _ (drop (c.loop-lease.lease-index + 1) c.args.leases.now)
    c.free_in-found.result
    (sym c.is_some.ensures ∙ c.if-is_some.false)
    c.free_in-found.ensures)
    ∙ ap
    (λ (l : List Lease). first_unused (is_taken c.args.flows.now c.args.end.now) (lease_ports l))
    (sym step)
    ∙ c.loop-lease.invariant

pub returns : goal.returns
returns c =
    none_left (is_taken c.args.flows.now c.args.end.now) c.args.leases.now c.loop-lease.lease-index
    (omega (arith, c.loop-lease-test.false))
    c.loop-lease.invariant
