use Rattle.std.proofs.Common.{rules, ◌≡◌, ◌∙◌, true, ap}
use Rattle.ipip.specs.Wrapping.{inner_of}
use Rattle.packet_spec.specs.Packets.{read_packet}
use Rattle.node_spec.specs.Steps.{turned}
use Rattle.agent_spec.specs.Agent.{is_own, with_traffic}
use Rattle.agent_spec.specs.Wrapped.{inner_as, may_wrap, outer_as}
use Rattle.host_agent.specs.contracts.state.State.{the_view}
use Rattle.host_agent.specs.Seen.{Core, as_is, with_lists}
use Rattle.host_agent.proofs.Sited.{lifted_turned}
use Rattle.host_agent.proofs.state.State.take_outer.Goals as goal

pub returns : goal.returns
returns c =
    let own : is_own c.self.inside.hosts c.args.inner.now.outer_dst ≡ true = search rules in
    let may : may_wrap c.self.inside.cfg c.args.sender c.args.inner.now.outer_src ≡ true = search rules in
    let inner : (c.take_inner.new.traffic, c.take_inner.new.step)
    ≡ turned as_is c.self.inside.cfg c.args.step.now
    (inner_as c.self.inside.cfg c.self.inside.traffic c.args.sender c.args.inner.now.outer_dst
    (read_packet c.args.inner.now.bytes.now)) = search rules in
    let main : (
      with_lists (the_view c.self.inside) (with_traffic (the_view c.self.inside).lists c.take_inner.new.traffic),
      c.take_inner.new.step,
    )
    ≡ turned (with_lists (the_view c.self.inside)) c.self.inside.cfg c.args.step.now
    (outer_as c.self.inside.cfg (the_view c.self.inside).lists c.args.sender (inner_of c.args.inner.now)) =
    rw (own, may) (lifted_turned (the_view c.self.inside) c.args.step.now c.take_inner.new.step c.take_inner.new.traffic
    (inner_as c.self.inside.cfg c.self.inside.traffic c.args.sender c.args.inner.now.outer_dst
    (read_packet c.args.inner.now.bytes.now)) inner) in
    main
    ∙ ap (λ (x : Core). turned (with_lists x) x.config c.args.step.now
    (outer_as x.config x.lists c.args.sender (inner_of c.args.inner.now))) c.self.view_is
