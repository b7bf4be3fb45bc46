use Rattle.std.proofs.Common.{rules, ◌≡◌, ◌∙◌, [], None, set, ap}
use Rattle.packet_spec.specs.Packets.{read_packet}
use Rattle.wire_core.specs.declared.step.Step.{Step}
use Rattle.node_spec.specs.Steps.{turned}
use Rattle.agent_spec.specs.Agent.{Host}
use Rattle.agent_spec.specs.Answers.{is_ask, take_grant}
use Rattle.agent_spec.specs.Packets.{read_as}
use Rattle.host_agent.specs.Retries.{with_denials}
use Rattle.host_agent.specs.Seen.{as_is, site}
use Rattle.host_agent.proofs.Slots.{addresses_stay, at_turned, element_is, on_ok}
use Rattle.host_agent.proofs.machines.is_asking_at.Goals as goal

pub returns : goal.returns
returns c = λ h is.
    c.is_asking.ensures
    ∙ ap (λ (x : Host). is_ask c.args.seq x.ask)
    (element_is c.args.hosts.now c.args.place c.index-hosts-place.result h c.index-hosts-place.is is)
