use Rattle.std.proofs.Common.{rules, ◌≡◌, ◌∙◌, [], None, get_or, set, ap}
use Rattle.packet_spec.specs.Packets.{read_packet}
use Rattle.wire_core.specs.declared.step.Step.{Step}
use Rattle.node_spec.specs.Steps.{turned}
use Rattle.agent_spec.specs.Agent.{Host}
use Rattle.agent_spec.specs.Answers.{is_ask, take_grant}
use Rattle.agent_spec.specs.Packets.{read_as}
use Rattle.host_agent.specs.Retries.{with_denials}
use Rattle.host_agent.specs.Seen.{as_is, site}
use Rattle.host_agent.proofs.Slots.{addresses_stay, at_turned, on_ok, read_is}
use Rattle.host_agent.proofs.machines.packet_at.Goals as goal

pub returns-clause-turn : goal.returns-clause-turn
returns-clause-turn c = λ h is.
    let element : get_or c.args.hosts.now c.args.place c.index-hosts-place.result ≡ h =
    read_is c.args.hosts.now c.args.place c.index-hosts-place.result h is in
    on_ok c.read_machine_packet.result
    (λ e. at_turned c.args.cfg.now c.args.step.now c.read_machine_packet.new.step c.read_machine_packet.new.traffic c.args.hosts.now c.args.place
    c.read_machine_packet.new.host (read_as c.args.cfg.now c.args.origin.now.boot c.args.origin.now.hint (site c.args.traffic.now h) (read_packet c.args.bytes.now))
    (e ∙ ap (λ (x : Host). turned as_is c.args.cfg.now c.args.step.now (read_as c.args.cfg.now c.args.origin.now.boot c.args.origin.now.hint (site c.args.traffic.now x) (read_packet c.args.bytes.now))) element))
    c.read_machine_packet.ensures.turn

pub returns-clause-machines : goal.returns-clause-machines
returns-clause-machines c =
    addresses_stay c.args.hosts.now c.args.place c.read_machine_packet.new.host c.index-hosts-place.result c.read_machine_packet.ensures.machine
