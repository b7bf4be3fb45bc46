use Rattle.std.proofs.Common.{rules, ◌≡◌, ◌∙◌, [], None, get_or, set, ap}
use Rattle.packet_spec.specs.Packets.{read_packet}
use Rattle.wire_core.specs.declared.step.Step.{Step}
use Rattle.node_spec.specs.Steps.{turned}
use Rattle.agent_spec.specs.Agent.{Host}
use Rattle.agent_spec.specs.Answers.{is_ask, take_grant}
use Rattle.agent_spec.specs.Packets.{read_as}
use Rattle.host_agent.specs.Retries.{with_denials}
use Rattle.host_agent.specs.Seen.{as_is, site}
use Rattle.host_agent.proofs.Slots.{addresses_stay, at_turned, on_ok, read_is}
use Rattle.host_agent.proofs.machines.grant_at.Goals as goal

pub returns-clause-turn : goal.returns-clause-turn
returns-clause-turn c = λ h is.
    let element : get_or c.args.hosts.now c.args.place c.index-hosts-place.result ≡ h =
    read_is c.args.hosts.now c.args.place c.index-hosts-place.result h is in
    on_ok c.take_grant.result
    (λ e. at_turned c.args.cfg.now c.args.step.now c.take_grant.new.step c.take_grant.new.traffic c.args.hosts.now c.args.place
    c.take_grant.new.host (take_grant c.args.cfg.now c.args.origin.now.boot c.args.origin.now.hint (site c.args.traffic.now h) c.args.seq c.args.n)
    (e ∙ ap (λ (x : Host). turned as_is c.args.cfg.now c.args.step.now (take_grant c.args.cfg.now c.args.origin.now.boot c.args.origin.now.hint (site c.args.traffic.now x) c.args.seq c.args.n)) element))
    c.take_grant.ensures.turn

pub returns-clause-machines : goal.returns-clause-machines
returns-clause-machines c =
    addresses_stay c.args.hosts.now c.args.place c.take_grant.new.host c.index-hosts-place.result c.take_grant.ensures.machine
