use Rattle.std.proofs.Common.{rules, ◌≡◌, ◌∙◌, ◌<◌, ◌++◌, ℕ, List, Bool, true, false, Some, None, take, drop, length, slice_get, set, refl, sym, ap}
use Rattle.std.specs.Prelude.{option_map}
use Rattle.packet_spec.specs.Packets.{read_packet}
use Rattle.wire_core.specs.declared.step.Step.{Step}
use Rattle.node_spec.specs.Steps.{tried, turned}
use Rattle.agent_spec.specs.Agent.{Host, Traffic, host_of}
use Rattle.agent_spec.specs.Answers.{is_ask, take_grant}
use Rattle.agent_spec.specs.Packets.{read_as}
use Rattle.host_agent.specs.Hosts.{addresses, denial, put_at}
use Rattle.host_agent.specs.Retries.{with_denials}
use Rattle.host_agent.specs.Seen.{as_is, kept_in, site}
use Rattle.host_agent.proofs.Slots.{denied_at, kept_same, placed_turned, undenied_at, whole_hosts}
use Rattle.host_agent.proofs.machines.Machines.packet.Goals as goal

pub returns-in_default : goal.returns-in_default
unfolding tried
returns-in_default c =
    let none : host_of c.args.self.now c.args.machine ≡ None = search rules in
    rw none refl

pub invariant_of-self : goal.invariant_of-self
invariant_of-self c =
    let len : c.self.inside.list.len ≡ length c.self.inside.list.items = search rules in
    let same : addresses c.packet_at.new.hosts ≡ addresses c.self.inside.list.items = search rules in
    rw (whole_hosts c.self.inside.list.len c.self.inside.list.items c.packet_at.new.hosts len same)
    (kept_same c.self.inside.list.items c.packet_at.new.hosts c.self.inside.places.keys c.self.invariant same)

pub returns : goal.returns
returns c =
    let len : c.self.inside.list.len ≡ length c.self.inside.list.items = search rules in
    let same : addresses c.packet_at.new.hosts ≡ addresses c.self.inside.list.items = search rules in
    let found : slice_get c.self.inside.list.items c.in-Some.place ≡ host_of c.self.inside.list.items c.args.machine = search rules in
    let lt : c.in-Some.place < length c.self.inside.list.items = search rules in
    let turns : (h : Host) → slice_get c.self.inside.list.items c.in-Some.place ≡ Some h
    → ((c.packet_at.new.traffic, c.packet_at.new.hosts), c.packet_at.new.step)
    ≡ turned (put_at c.self.inside.list.items c.in-Some.place) c.args.cfg.now c.args.step.now (read_as c.args.cfg.now c.args.origin.now.boot c.args.origin.now.hint (site c.args.traffic.now h) (read_packet c.args.bytes.now)) =
    λ h is. search rules in
    ap (λ (gs : List Host). ((c.packet_at.new.traffic, gs), (c.packet_at.new.step, true)))
    (whole_hosts c.self.inside.list.len c.self.inside.list.items c.packet_at.new.hosts len same)
    ∙ placed_turned c.args.cfg.now c.args.step.now c.packet_at.new.step c.args.traffic.now c.packet_at.new.traffic
    c.self.inside.list.items c.packet_at.new.hosts c.args.machine c.in-Some.place
    (λ h. read_as c.args.cfg.now c.args.origin.now.boot c.args.origin.now.hint (site c.args.traffic.now h) (read_packet c.args.bytes.now)) c.self.invariant.apart found lt turns same
    ∙ ap (λ (hs : List Host). tried (kept_in hs) c.args.cfg.now c.args.step.now (c.args.traffic.now, hs)
    (option_map (λ h. read_as c.args.cfg.now c.args.origin.now.boot c.args.origin.now.hint (site c.args.traffic.now h) (read_packet c.args.bytes.now)) (host_of hs c.args.machine))) c.self.view_is
