use Rattle.std.proofs.Common.{rules, ◌≡◌, ◌∙◌, ◌<◌, ◌++◌, ℕ, List, [], Bool, true, false, Some, None, take, drop, length, slice_get, set, refl, sym, ap}
use Rattle.std.specs.Prelude.{option_map}
use Rattle.packet_spec.specs.Packets.{read_packet}
use Rattle.wire_core.specs.declared.step.Step.{Step}
use Rattle.node_spec.specs.Steps.{tried, turned}
use Rattle.agent_spec.specs.Agent.{Host, Traffic, host_of}
use Rattle.agent_spec.specs.Answers.{is_ask, take_grant}
use Rattle.agent_spec.specs.Packets.{read_as}
use Rattle.host_agent.specs.Hosts.{addresses, denial, put_at}
use Rattle.host_agent.specs.Retries.{with_denials}
use Rattle.host_agent.specs.Seen.{as_is, kept_in, site}
use Rattle.host_agent.proofs.Slots.{denied_at, kept_same, placed_turned, undenied_at, whole_hosts}
use Rattle.host_agent.proofs.machines.Machines.deny.Goals as goal

pub returns-in_default : goal.returns-in_default
unfolding tried
returns-in_default c =
    let none : host_of c.args.self.now c.args.machine ≡ None = search rules in
    rw none refl

pub returns-then-not-out : goal.returns-then-not-out
returns-then-not-out c =
    let found : slice_get c.self.inside.list.items c.in-Some.place ≡ host_of c.self.inside.list.items c.args.machine = search rules in
    let lt : c.in-Some.place < length c.self.inside.list.items = search rules in
    let asks : (h : Host) → slice_get c.self.inside.list.items c.in-Some.place ≡ Some h → false ≡ is_ask c.args.seq h.ask =
    λ h is. search rules in
    ap (λ (hs : List Host). (hs, (c.args.step.now, false))) (sym c.self.view_is)
    ∙ undenied_at c.args.cfg.now c.args.step.now c.self.inside.list.items c.args.machine c.in-Some.place c.args.seq found lt asks
    ∙ ap (λ (hs : List Host). tried as_is c.args.cfg.now c.args.step.now hs (denial hs c.args.seq (host_of hs c.args.machine)))
    c.self.view_is

pub invariant_of-self : goal.invariant_of-self
invariant_of-self c =
    let len : c.self.inside.list.len ≡ length c.self.inside.list.items = search rules in
    let same : addresses c.refuse_at.new.hosts ≡ addresses c.self.inside.list.items = search rules in
    rw (whole_hosts c.self.inside.list.len c.self.inside.list.items c.refuse_at.new.hosts len same)
    (kept_same c.self.inside.list.items c.refuse_at.new.hosts c.self.inside.places.keys c.self.invariant same)

pub returns : goal.returns
returns c =
    let len : c.self.inside.list.len ≡ length c.self.inside.list.items = search rules in
    let same : addresses c.refuse_at.new.hosts ≡ addresses c.self.inside.list.items = search rules in
    let found : slice_get c.self.inside.list.items c.in-Some.place ≡ host_of c.self.inside.list.items c.args.machine = search rules in
    let lt : c.in-Some.place < length c.self.inside.list.items = search rules in
    let asks : (h : Host) → slice_get c.self.inside.list.items c.in-Some.place ≡ Some h → true ≡ is_ask c.args.seq h.ask =
    λ h is. search rules in
    let left : (h : Host) → slice_get c.self.inside.list.items c.in-Some.place ≡ Some h
    → c.refuse_at.new.hosts ≡ set c.self.inside.list.items c.in-Some.place (record h { queue = []; ask = None }) =
    λ h is. search rules in
    let notes : (h : Host) → slice_get c.self.inside.list.items c.in-Some.place ≡ Some h
    → c.refuse_at.new.step ≡ with_denials h.queue c.args.step.now = λ h is. search rules in
    ap (λ (gs : List Host). (gs, (c.refuse_at.new.step, true)))
    (whole_hosts c.self.inside.list.len c.self.inside.list.items c.refuse_at.new.hosts len same)
    ∙ denied_at c.args.cfg.now c.args.step.now c.refuse_at.new.step c.self.inside.list.items c.refuse_at.new.hosts
    c.args.machine c.in-Some.place c.args.seq c.self.invariant.apart found lt asks left notes
    ∙ ap (λ (hs : List Host). tried as_is c.args.cfg.now c.args.step.now hs (denial hs c.args.seq (host_of hs c.args.machine)))
    c.self.view_is
