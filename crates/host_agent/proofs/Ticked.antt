-- A tick, from its parts.
use Rattle.std.proofs.Common.{◌≡◌, ◌∙◌, ℕ, List, [], ◌∷◌, ◌++◌, map, filter, refl, sym, ap, append_assoc}
use Rattle.std.specs.List.{flat_map}
use Rattle.vip_config.specs.declared.parts.ConfigParts.{ConfigParts}
use Rattle.wire_core.specs.declared.outgoing.Outgoing.{Outgoing}
use Rattle.wire_core.specs.declared.step.Step.{Step}
use Rattle.node_spec.specs.Sends.{Send}
use Rattle.node_spec.specs.Turns.{also, lifted}
use Rattle.node_spec.specs.Steps.{onto, outgoing, turned, with_sends}
use Rattle.node_spec.proofs.Turning.{flat_append, quiet_turned, says_turned, then_turned}
use Rattle.agent_spec.specs.declared.connection.Connection.{Connection}
use Rattle.agent_spec.specs.Agent.{Agent, Host, Traffic, host_of, with_ranges, with_traffic}
use Rattle.agent_spec.specs.Clock.{asks_again, at_now, close_idle, forget_inbound, give_back_spare, holds_packet, idle_leave}
use Rattle.agent_spec.specs.Clock.{on_tick, renewed, returns_again, says_again, up_again}
use Rattle.agent_spec.specs.Connections.{is_idle}
use Rattle.agent_spec.specs.Ranges.{Ranges}
use Rattle.agent_ports.specs.Ports.{PortsState, given_back_each, is_spare, numbers}
use Rattle.host_agent.specs.Idle.{closed_each, closings, drops, with_acts, without_idle}
use Rattle.host_agent.specs.Seen.{Core, as_is, with_lists}
use Rattle.host_agent.proofs.Gone.{closed_turned, gave_turned}
use Rattle.host_agent.proofs.Tries.{both_turned}

-- the traffic of these ports
abbrev traffic_of : PortsState → List Connection → ℕ → Traffic
traffic_of p inbound time = record { ranges = p.ranges; conns = p.conns; inbound = inbound; time = time }

-- connections that closed
pub idle_turned : (c : ConfigParts) (o s : Step) (idle : ℕ) (p q : PortsState) (inbound : List Connection) (time : ℕ)
    → q ≡ closed_each time (filter (is_idle time idle) p.conns) p
    → s ≡ with_acts (closings (filter (is_idle time idle) p.conns)) o
    → (traffic_of q inbound time, s) ≡ turned as_is c o (close_idle idle (traffic_of p inbound time))
unfolding close_idle
idle_turned c o s idle p q inbound time ports step =
    ap (λ (x : PortsState). (traffic_of x inbound time, s)) ports
    ∙ ap (λ (x : Step). (traffic_of (closed_each time (filter (is_idle time idle) p.conns) p) inbound time, x)) step
    ∙ closed_turned c (filter (is_idle time idle) p.conns) o (traffic_of p inbound time)

-- ranges that were given back
pub spare_turned : (c : ConfigParts) (o s : Step) (hosts : List Host) (idle : ℕ) (p q : PortsState) (inbound : List Connection)
    (time : ℕ)
    → q.ranges
    ≡ given_back_each (filter (is_spare (λ m. holds_packet (host_of hosts m)) time idle) p.ranges.held) p.ranges
    → q.conns ≡ p.conns
    → s ≡ with_acts (drops (numbers (filter (is_spare (λ m. holds_packet (host_of hosts m)) time idle) p.ranges.held))) o
    → (traffic_of q inbound time, s) ≡ turned as_is c o (give_back_spare hosts idle (traffic_of p inbound time))
unfolding give_back_spare
spare_turned c o s hosts idle p q inbound time ranges conns step =
    ap (λ (r : Ranges). (traffic_of (record { ranges = r; conns = q.conns }) inbound time, s)) ranges
    ∙ ap (λ (cs : List Connection). (
      with_ranges (traffic_of (record { ranges = p.ranges; conns = cs }) inbound time)
          (given_back_each (filter (is_spare (λ m. holds_packet (host_of hosts m)) time idle) p.ranges.held) p.ranges),
      s,
    )) conns
    ∙ ap (λ (x : Step). (
      with_ranges (traffic_of p inbound time)
          (given_back_each (filter (is_spare (λ m. holds_packet (host_of hosts m)) time idle) p.ranges.held) p.ranges),
      x,
    )) step
    ∙ gave_turned c (filter (is_spare (λ m. holds_packet (host_of hosts m)) time idle) p.ranges.held) o
    (traffic_of p inbound time)

-- connections, inbound entries, ranges
pub leave_turned : (c : ConfigParts) (hosts : List Host) (o p q : Step) (t u v : Traffic)
    → (u, p) ≡ turned as_is c o (close_idle c.timers.flow_idle t)
    → (v, q) ≡ turned as_is c p (give_back_spare hosts c.timers.range_idle (without_idle c.timers.flow_idle u))
    → (v, q) ≡ turned as_is c o (idle_leave c hosts t)
unfolding idle_leave forget_inbound
leave_turned c hosts o p q t u v first last =
    both_turned c o p q (without_idle c.timers.flow_idle u) v
    (also (close_idle c.timers.flow_idle t) (forget_inbound c.timers.flow_idle))
    (give_back_spare hosts c.timers.range_idle)
    (both_turned c o p p u (without_idle c.timers.flow_idle u) (close_idle c.timers.flow_idle t)
    (forget_inbound c.timers.flow_idle) first (quiet_turned as_is c p (without_idle c.timers.flow_idle u)))
    last

-- datagrams after datagrams
more_sends : (xs ys : List Outgoing) (s : Step) → with_sends ys (with_sends xs s) ≡ with_sends (xs ++ ys) s
more_sends xs ys s = rw (append_assoc s.sends xs ys) refl

-- what is said again
pub said_turned : (core : Core) (o p q r : Step) (retry : ℕ)
    → p ≡ with_sends (flat_map (outgoing core.config) (up_again core.lists)) o
    → q ≡ with_sends (flat_map (outgoing core.config) (asks_again retry core.lists)) p
    → r ≡ with_sends (flat_map (outgoing core.config) (returns_again core.lists)) q
    → (with_lists core (record core.lists { hosts = map (renewed core.lists.traffic.time retry) core.lists.hosts }), r)
    ≡ turned (with_lists core) core.config o (says_again retry core.lists)
unfolding says_again
said_turned core o p q r retry up asks returns =
    let all : r ≡ with_sends
    (flat_map (outgoing core.config) (up_again core.lists ++ asks_again retry core.lists ++ returns_again core.lists)) o =
    returns
    ∙ ap (λ (s : Step). with_sends (flat_map (outgoing core.config) (returns_again core.lists)) s)
    (asks ∙ ap (λ (s : Step). with_sends (flat_map (outgoing core.config) (asks_again retry core.lists)) s) up)
    ∙ ap (λ (s : Step). with_sends (flat_map (outgoing core.config) (returns_again core.lists)) s)
    (more_sends (flat_map (outgoing core.config) (up_again core.lists))
    (flat_map (outgoing core.config) (asks_again retry core.lists)) o)
    ∙ more_sends
    (flat_map (outgoing core.config) (up_again core.lists) ++ flat_map (outgoing core.config) (asks_again retry core.lists))
    (flat_map (outgoing core.config) (returns_again core.lists)) o
    ∙ ap (λ (xs : List Outgoing). with_sends xs o)
    (rw (
      flat_append (outgoing core.config) (up_again core.lists ++ asks_again retry core.lists) (returns_again core.lists),
      flat_append (outgoing core.config) (up_again core.lists) (asks_again retry core.lists),
    ) refl) in
    ap (λ (s : Step).
    (with_lists core (record core.lists { hosts = map (renewed core.lists.traffic.time retry) core.lists.hosts }), s)) all
    ∙ says_turned (with_lists core) core.config o
    (record core.lists { hosts = map (renewed core.lists.traffic.time retry) core.lists.hosts })
    (up_again core.lists ++ asks_again retry core.lists ++ returns_again core.lists)

-- the whole tick
pub tick_turned : (core : Core) (now : ℕ) (o p q : Step) (u : Traffic) (after : Core)
    → (u, p) ≡ turned as_is core.config o (idle_leave core.config core.lists.hosts (at_now core.lists now))
    → (after, q) ≡ turned (with_lists core) core.config p
    (says_again core.config.timers.ask_retry (with_traffic core.lists u))
    → (after, q) ≡ turned (with_lists core) core.config o (on_tick core.config core.lists now)
unfolding on_tick turned onto
tick_turned core now o p q u after first last =
    then_turned (with_lists core) core.config o p (with_traffic core.lists u)
    (lifted (with_traffic core.lists) (idle_leave core.config core.lists.hosts (at_now core.lists now)))
    (says_again core.config.timers.ask_retry) (after, q)
    (ap (λ (x : Traffic × Step). with_traffic core.lists x.0) first) (ap (λ (x : Traffic × Step). x.1) first) last
