use Rattle.std.proofs.Common.{rules, ◌≡◌, ◌∙◌, true, false, ap}
use Rattle.std.specs.Prelude.{option_map}
use Rattle.packet_spec.specs.Packets.{read_packet}
use Rattle.wire_core.specs.declared.cause.DropCause.TheVariants.{NotMine}
use Rattle.wire_core.specs.declared.note.Note.TheVariants.{Dropped}
use Rattle.wire_core.specs.Steps.{with_note}
use Rattle.node_spec.specs.Steps.{tried, turned}
use Rattle.agent_spec.specs.Agent.{host_of}
use Rattle.agent_spec.specs.Packets.{from_machine, read_as}
use Rattle.host_agent.specs.contracts.state.State.{the_view}
use Rattle.host_agent.specs.Seen.{Core, kept_in, site, with_lists}
use Rattle.host_agent.proofs.Sited.{packet_turned, stranger_turned}
use Rattle.host_agent.proofs.state.State.from_machine.Goals as goal

pub returns-then-own : goal.returns-then-own
unfolding from_machine
returns-then-own c =
    let packet : ((c.packet.new.traffic, c.packet.new.self), (c.packet.new.step, true))
    ≡ tried (kept_in c.self.inside.hosts) c.self.inside.cfg c.args.step.now (c.self.inside.traffic, c.self.inside.hosts)
    (option_map (λ h. read_as c.self.inside.cfg c.self.inside.origin.boot c.self.inside.origin.hint
    (site c.self.inside.traffic h) (read_packet c.args.bytes.now)) (host_of c.self.inside.hosts c.args.machine)) = search rules in
    packet_turned (the_view c.self.inside) c.args.step.now c.packet.new.step c.packet.new.traffic c.packet.new.self
    c.args.bytes.now (host_of c.self.inside.hosts c.args.machine) packet
    ∙ ap (λ (x : Core). turned (with_lists x) x.config c.args.step.now
    (from_machine x.config x.lists c.args.machine c.args.bytes.now)) c.self.view_is

pub returns : goal.returns
unfolding from_machine
returns c =
    let packet : ((c.packet.new.traffic, c.packet.new.self), (c.packet.new.step, false))
    ≡ tried (kept_in c.self.inside.hosts) c.self.inside.cfg c.args.step.now (c.self.inside.traffic, c.self.inside.hosts)
    (option_map (λ h. read_as c.self.inside.cfg c.self.inside.origin.boot c.self.inside.origin.hint
    (site c.self.inside.traffic h) (read_packet c.args.bytes.now)) (host_of c.self.inside.hosts c.args.machine)) = search rules in
    let note : c.drop_for.new.step ≡ with_note (Dropped NotMine) c.packet.new.step = search rules in
    stranger_turned (the_view c.self.inside) c.args.step.now c.packet.new.step c.drop_for.new.step c.packet.new.traffic
    c.packet.new.self c.args.bytes.now (host_of c.self.inside.hosts c.args.machine) packet note
    ∙ ap (λ (x : Core). turned (with_lists x) x.config c.args.step.now
    (from_machine x.config x.lists c.args.machine c.args.bytes.now)) c.self.view_is
