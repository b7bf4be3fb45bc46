use Rattle.std.proofs.Common.{rules, ◌≡◌, ◌∙◌, [], None, get_or, set, ap}
use Rattle.packet_spec.specs.Packets.{read_packet}
use Rattle.wire_core.specs.declared.step.Step.{Step}
use Rattle.node_spec.specs.Steps.{turned}
use Rattle.agent_spec.specs.Agent.{Host}
use Rattle.agent_spec.specs.Answers.{is_ask, take_grant}
use Rattle.agent_spec.specs.Packets.{read_as}
use Rattle.host_agent.specs.Retries.{with_denials}
use Rattle.host_agent.specs.Seen.{as_is, site}
use Rattle.host_agent.proofs.Slots.{addresses_stay, at_turned, on_ok, read_is}
use Rattle.host_agent.proofs.machines.refuse_at.Goals as goal

pub returns-clause-left : goal.returns-clause-left
returns-clause-left c = λ h is.
    let element : get_or c.args.hosts.now c.args.place c.index-hosts-place.result ≡ h =
    read_is c.args.hosts.now c.args.place c.index-hosts-place.result h is in
    on_ok c.refuse.result
    (λ e. ap (λ (x : Host). set c.args.hosts.now c.args.place x)
    (e ∙ ap (λ (x : Host). record x { queue = []; ask = None }) element))
    c.refuse.ensures.left

pub returns-clause-notes : goal.returns-clause-notes
returns-clause-notes c = λ h is.
    let element : get_or c.args.hosts.now c.args.place c.index-hosts-place.result ≡ h =
    read_is c.args.hosts.now c.args.place c.index-hosts-place.result h is in
    on_ok c.refuse.result (λ e. e ∙ ap (λ (x : Host). with_denials x.queue c.args.step.now) element) c.refuse.ensures.notes

pub returns-clause-machines : goal.returns-clause-machines
returns-clause-machines c =
    addresses_stay c.args.hosts.now c.args.place c.refuse.new.self c.index-hosts-place.result c.refuse.ensures.machine
