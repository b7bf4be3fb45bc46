use Rattle.std.proofs.Common.{rules, ◌≡◌, ◌∙◌, ap, sym, subst, length, ◌≤◌, drop, ℕ}
use Rattle.agent_spec.specs.declared.connection.Connection.{Connection}
use Rattle.agent_ports.specs.declared.lease.Lease.{Lease}
use Rattle.agent_ports.specs.declared.remote_end.RemoteEnd.{RemoteEnd}
use Rattle.agent_spec.specs.Packets.{is_used}
use Rattle.agent_spec.specs.Ranges.{first_unused, ports_of}
use Rattle.agent_ports.specs.Full.{below_of}
use Rattle.agent_ports.specs.Ports.{PortsState}
use Rattle.agent_ports.specs.Leases.{lease_number, leases_of}
use Rattle.agent_ports.specs.Order.{SplitsAt}
use Rattle.agent_ports.proofs.Choosing.{chosen, front_known, known_kept}
use Rattle.agent_ports.proofs.ports.Ports.choose_port.Goals as goal

pub full_to-to-requires-clause-full : goal.full_to-to-requires-clause-full
full_to-to-requires-clause-full c =
    let leases : c.leases-leases.result.now ≡ leases_of c.self.inside.held c.of-end.result.machine =
    c.leases-leases.ensures.leases
    ∙ ap (λ (e : RemoteEnd). leases_of c.self.inside.held e.machine) (sym c.of-end.ensures) in
    front_known c.self.inside.flows c.of-end.result (below_of c.self.inside.full c.of-end.result) c.self.inside.held
    c.leases-leases.result.now
    c.first_from-from.result
    leases
    (c.self.invariant.known c.of-end.result)
    (subst
    (λ (n : ℕ). SplitsAt lease_number n c.leases-leases.result.now c.first_from-from.result)
    c.below.ensures
    c.first_from-from.ensures)

pub invariant_of-self : goal.invariant_of-self
invariant_of-self c =
    let leases : c.leases-leases.result.now ≡ leases_of c.self.inside.held c.of-end.result.machine =
    c.leases-leases.ensures.leases
    ∙ ap (λ (e : RemoteEnd). leases_of c.self.inside.held e.machine) (sym c.of-end.ensures) in
    known_kept c.self.inside.full c.keep_full.new.full c.self.inside.flows c.self.inside.held c.of-end.result
    c.leases-leases.result.now
    c.full_to-to.result
    c.self.invariant
    c.keep_full.ensures.top
    c.keep_full.ensures.below
    leases
    c.leases-leases.ensures.ascend
    c.full_to-to.ensures.within
    c.full_to-to.ensures.full

pub returns-clause-port : goal.returns-clause-port
returns-clause-port c =
    let port : c.first_free.result
    ≡ first_unused (is_used c.self.inside.flows c.args.key.now c.args.vip)
    (ports_of c.self.inside.held c.args.key.now.src) =
    chosen c.self.inside.flows c.args.key.now c.args.vip c.self.inside.held c.leases-leases.result.now
    c.split_at.result.1.now
    c.full_to-to.result
    c.of-end.result
    c.first_free.result
    c.of-end.ensures
    c.leases-leases.ensures.leases
    c.split_at.ensures.back
    c.full_to-to.ensures.within
    c.full_to-to.ensures.full
    c.first_free.ensures in
    subst
    (λ (p : PortsState).
    c.first_free.result
    ≡ first_unused (is_used p.conns c.args.key.now c.args.vip) (ports_of p.ranges.held c.args.key.now.src))
    c.self.view_is
    port
