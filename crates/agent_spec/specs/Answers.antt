-- What replicas answer an agent: Grant, Denied, Returned, AgentKnown.
use Rattle.std.specs.Prelude.{ℕ, ◌==◌, nat_le, Bool, true, false, ◌&&◌, List, [], map, length, Option, Some}
use Rattle.std.specs.Prelude.{None, Result, Ok, Err, if◌then◌else◌}
use Rattle.wire_core.specs.declared.address.Ip4.{Ip4}
use Rattle.wire_core.specs.declared.range.Range.{Range}
use Rattle.wire_core.specs.declared.cause.DropCause.TheVariants as drop
use Rattle.wire_core.specs.Ranges.{is_leasable}
use Rattle.packet_spec.specs.declared.fault.PacketFault.{PacketFault}
use Rattle.packet_spec.specs.Packets.{read_packet}
use Rattle.vip_config.specs.declared.parts.ConfigParts.{ConfigParts}
use Rattle.vip_config.specs.Leases.{lease_rules_of}
use Rattle.wire_core.specs.declared.act.Act.TheVariants.{Hold}
use Rattle.wire_core.specs.declared.note.Note.TheVariants.{Dropped}
use Rattle.vip_config.specs.Serving.{has_snat}
use Rattle.node_spec.specs.Turns.{Turn, quiet, drop_turn, act_turn, also, each}
use Rattle.agent_spec.specs.declared.held.Asked.{Asked}
use Rattle.agent_spec.specs.declared.held.Granting.{Granting}
use Rattle.agent_spec.specs.declared.held.Granting.TheVariants as granting
use Rattle.agent_spec.specs.Ranges.{Ranges, granted, is_returning, returned}
use Rattle.agent_spec.specs.Agent.{Agent, Host, Site, Traffic, host_of, site_at, put_host, with_ranges, of_traffic}
use Rattle.agent_spec.specs.Agent.{of_host, of_site}
use Rattle.agent_spec.specs.Packets.{try_packet, ask_for, with_packet}

-- of another boot it is dropped, with the own one
abbrev pub of_own_boot : Agent → ℕ → Turn Agent → Turn Agent
of_own_boot a boot t = if boot == a.boot then t else drop_turn a (drop.WrongBoot a.boot)

-- the ask with this number is out
abbrev pub is_ask : ℕ → Option Asked → Bool
is_ask seq None = false
is_ask seq (Some x) = x.seq == seq

-- ---- Grant

-- A held packet runs through the rows again; without a port it stays held.
abbrev pub or_waits : Site → List ℕ → Option (Turn Traffic) → Turn Site
or_waits s p (Some t) = of_traffic s t
or_waits s p None = quiet (record s { host = with_packet s.host p })

-- it is read again; it had no fault when it was held
abbrev pub again : ConfigParts → Site → Result (List ℕ) PacketFault → Turn Site
again c s (Err fault) = quiet s
again c s (Ok p) = or_waits s p (try_packet c s.traffic p)

-- a held packet's turn
unfoldable pub retry : ConfigParts → List ℕ → Site → Turn Site
retry c bytes s = again c s (read_packet bytes)

-- where any are left, a range is asked for again
abbrev pub ask_left : ℕ → ℕ → Site → Turn Site
ask_left boot hint s =
    if nat_le 1 (length s.host.queue) then of_host s (ask_for boot hint s.traffic.time s.host) else quiet s

-- the ask with this number is over, and the queue is taken
abbrev pub begun : Site → ℕ → Site
begun s seq = record s {
  host = record s.host { queue = []; ask = if is_ask seq s.host.ask then None else s.host.ask };
}

-- A range is held from now on, and the held packets go through the rows in their order.
unfoldable pub take_grant : ConfigParts → ℕ → ℕ → Site → ℕ → ℕ → Turn Site
take_grant c boot hint s seq n =
    also (also (act_turn (begun s seq) (Hold n)) (each (retry c) s.host.queue)) (ask_left boot hint)

-- by the kept number
abbrev pub took : ConfigParts → Agent → ℕ → Site → ℕ → ℕ → Ranges × Granting → Turn Agent
took c a from s seq n (ranges, granting.Old kept) = drop_turn a (drop.OldGrant kept)
took c a from s seq n (ranges, granting.Held) =
    of_site
    (record a { hint = from })
    (take_grant c a.boot from (record s { traffic = with_ranges s.traffic ranges }) seq n)

-- the machine is its own, and may have the range
abbrev pub grant_to : ConfigParts → Agent → ℕ → ℕ → ℕ → Range → Option Host → Turn Agent
grant_to c a from seq n r None = drop_turn a drop.NotMine
grant_to c a from seq n r (Some h) =
    if has_snat c.vips r.vip h.machine && is_leasable (lease_rules_of c) r
    then took c a from (site_at a h) seq n (granted a.traffic.ranges n r h.machine a.traffic.time)
    else drop_turn a drop.NotMine

-- Grant: a range is the machine's, unless it is another boot's, not the machine's to have, or an old one.
unfoldable pub on_grant : ConfigParts → Agent → ℕ → ℕ → Ip4 → ℕ → ℕ → Range → Turn Agent
on_grant c a from boot machine seq n r =
    of_own_boot a boot (grant_to c a from seq n r (host_of a.hosts machine))

-- ---- Denied

-- the ask is over, and each held packet is dropped
abbrev pub refused : Agent → ℕ → Host → Turn Agent
refused a from h =
    record (quiet (record a { hint = from; hosts = put_host (record h { queue = []; ask = None }) a.hosts })) {
      notes = map (λ (p : List ℕ). Dropped drop.Denied) h.queue;
    }

-- of the ask that is out
abbrev pub denied : Agent → ℕ → ℕ → Option Host → Turn Agent
denied a from seq None = drop_turn a drop.Late
denied a from seq (Some h) = if is_ask seq h.ask then refused a from h else drop_turn a drop.Late

-- Denied: the ask is over, and what was held for it is dropped.
unfoldable pub on_denied : Agent → ℕ → ℕ → Ip4 → ℕ → Turn Agent
on_denied a from boot machine seq = of_own_boot a boot (denied a from seq (host_of a.hosts machine))

-- ---- Returned and AgentKnown

-- the number is no longer returning
abbrev pub with_returned : Agent → ℕ → ℕ → Agent
with_returned a from n = record a { hint = from; traffic = with_ranges a.traffic (returned n a.traffic.ranges) }

-- Returned: the number needn't be given back again.
unfoldable pub on_returned : Agent → ℕ → ℕ → ℕ → Turn Agent
on_returned a from boot n =
    of_own_boot a boot
    (if is_returning n a.traffic.ranges then quiet (with_returned a from n) else drop_turn a drop.Late)

-- AgentKnown: a primary knows this boot.
unfoldable pub on_known : Agent → ℕ → ℕ → Turn Agent
on_known a from boot = of_own_boot a boot (quiet (record a { known = true; hint = from }))
