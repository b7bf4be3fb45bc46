-- Whatever comes, the keys of connections stay apart.
use Rattle.std.proofs.Common.{◌≡◌, refl, sym, subst, ℕ, Bool, true, not, List, [], ◌∷◌, Option}
use Rattle.std.proofs.Common.{Some, None, is_some, if◌then◌else◌}
use Rattle.std.specs.Prelude.{filter, length, nat_le, Result, Ok, Err, ◌==◌, ◌&&◌}
use Rattle.control_msg.specs.declared.message.Message.{Message}
use Rattle.control_msg.specs.declared.message.Message.TheVariants as message
use Rattle.ipip.specs.Wrapping.{Unwrapped, wrap_fault, unwrapped}
use Rattle.ipip.specs.declared.unwrapping.UnwrapFault.{UnwrapFault}
use Rattle.ipip.specs.declared.wrapping.WrapFault.{WrapFault}
use Rattle.config_text.specs.declared.vips.Member.{Member}
use Rattle.node_spec.specs.declared.accept.Accept.{Accept}
use Rattle.node_spec.specs.declared.accept.Accept.TheVariants as accept
use Rattle.node_spec.specs.Fastpath.{accept_redirect}
use Rattle.node_spec.specs.Datagrams.{Heard, Refused, Told, Brought, heard, by_heard}
use Rattle.node_spec.specs.Turns.{Input, Arrived, Ticked, Turn, each, drop_turn, quiet}
use Rattle.packet_spec.specs.declared.fault.PacketFault.{PacketFault}
use Rattle.packet_spec.specs.Packets.{key_of, has_rst, read_packet}
use Rattle.vip_config.specs.declared.parts.ConfigParts.{ConfigParts}
use Rattle.vip_config.specs.declared.who.Who.{Who}
use Rattle.vip_config.specs.declared.who.Who.TheVariants as who
use Rattle.vip_config.specs.Serving.{agent_with, has_snat, member_at, snat_vip}
use Rattle.vip_config.specs.Leases.{lease_rules_of}
use Rattle.wire_core.specs.Flows.{reverse}
use Rattle.wire_core.specs.Ranges.{is_leasable, range_at}
use Rattle.wire_core.specs.Same.{same_ip}
use Rattle.wire_core.specs.declared.address.Ip4.{Ip4}
use Rattle.wire_core.specs.declared.cause.DropCause.TheVariants as drop
use Rattle.wire_core.specs.declared.entry.Entry.{Entry}
use Rattle.wire_core.specs.declared.flow.FlowKey.{FlowKey}
use Rattle.wire_core.specs.declared.node.NodeId.{NodeId}
use Rattle.wire_core.specs.declared.node.NodeId.TheVariants as node
use Rattle.wire_core.specs.declared.range.Range.{Range}
use Rattle.agent_spec.specs.declared.connection.Connection.{Connection}
use Rattle.agent_spec.specs.declared.held.Granting.{Granting}
use Rattle.agent_spec.specs.declared.held.Granting.TheVariants as granting
use Rattle.agent_spec.specs.declared.held.Held.{Held}
use Rattle.agent_spec.specs.declared.order.Redirection.{Redirection}
use Rattle.agent_spec.specs.Agent.{Agent, Host, Site, Traffic, host_of, is_own, opened_agent}
use Rattle.agent_spec.specs.Agent.{site_at, with_ranges}
use Rattle.agent_spec.specs.AgentTable.{agent_hears, agent_step, agent_takes, from_mux, from_replica}
use Rattle.agent_spec.specs.Answers.{again, ask_left, denied, grant_to, is_ask, of_own_boot, with_returned}
use Rattle.agent_spec.specs.Answers.{on_denied, on_grant, on_known, on_returned, or_waits, retry, take_grant, took}
use Rattle.agent_spec.specs.Answers.{begun}
use Rattle.agent_spec.specs.Clock.{close_idle, is_spare, forget_inbound, give_back, give_back_spare, idle_leave}
use Rattle.agent_spec.specs.Clock.{on_tick, says_again, at_now}
use Rattle.agent_spec.specs.Connections.{at_time, by_private, by_public, closed, has_private, has_public, is_idle}
use Rattle.agent_spec.specs.Connections.{most, private_key, public_key, with_peer}
use Rattle.agent_spec.specs.Keys.{IsFree, KeysApart}
use Rattle.agent_spec.specs.Packets.{by_conn, by_inbound, is_used, machine_packet, new_conn, new_connection}
use Rattle.agent_spec.specs.Packets.{or_stays, from_machine, of_machine, read_as, try_packet, with_port}
use Rattle.agent_spec.specs.Ranges.{Ranges, first_unused, is_returning, ports_of, granted}
use Rattle.agent_spec.specs.Redirects.{if_accepted, number_of, on_redirect, redirect_to, redirected, with_redirect}
use Rattle.agent_spec.specs.Traffic.{closes, close_conn, goes, hand, inbound_touched, leaving, open_conn, to_peer}
use Rattle.agent_spec.specs.Traffic.{touched, use_conn, use_inbound}
use Rattle.agent_spec.specs.Wrapped.{delivered, enters, enters_or_meets, may_wrap, new_entry, on_wrapped, reply}
use Rattle.agent_spec.specs.Wrapped.{to_server, outer_as, unwrapped_as, inner_as, by_reply, to_member}
use Rattle.agent_spec.proofs.KeyLists.{apart_append, apart_changed, apart_filter, by_if, each_none, found_passes}

-- a turn of the traffic keeps the keys apart
abbrev Keeps : Traffic → Turn Traffic → Type 0
Keeps t u = KeysApart t.conns → KeysApart u.state.conns

-- ---- the parts of which rows are made

pub time_inner : (now : ℕ) (c : Connection) → private_key (at_time now c) ≡ private_key c
unfolding private_key
time_inner now c = refl

time_outer : (now : ℕ) (c : Connection) → public_key (at_time now c) ≡ public_key c
unfolding public_key
time_outer now c = refl

pub touched_keeps : (t : Traffic) (x : Connection) → KeysApart t.conns → KeysApart (touched t x).conns
touched_keeps t x h = apart_changed x (at_time t.time) (time_inner t.time) (time_outer t.time) t.conns h

pub close_keeps : (x : Connection) (t : Traffic) → Keeps t (close_conn x t)
unfolding close_conn
close_keeps x t h = apart_filter (λ c. not (has_private (private_key x) c)) t.conns h

closes_keeps : (rst : Bool) (x : Connection) (t : Traffic) → Keeps t (closes rst x t)
closes_keeps rst x t = by_if (Keeps t) rst (close_keeps x t) (λ h. h)

peer_keeps : (c : ConfigParts) (t : Traffic) (x : Connection) (peer : Ip4) (p : List ℕ) (f : Traffic → Turn Traffic)
    → Keeps t (f t) → (w : Option WrapFault) → Keeps t (to_peer c t x peer p f w)
peer_keeps c t x peer p f k (Some fault) = λ h. h
peer_keeps c t x peer p f k None = k

goes_keeps : (c : ConfigParts) (t : Traffic) (x : Connection) (p : List ℕ) (f : Traffic → Turn Traffic)
    → Keeps t (f t) → (o : Option Ip4) → Keeps t (goes c t x p f o)
goes_keeps c t x p f k (Some peer) = peer_keeps c t x peer p f k (wrap_fault 0 p)
goes_keeps c t x p f k None = k

use_keeps : (c : ConfigParts) (t : Traffic) (x : Connection) (p : List ℕ) → Keeps t (use_conn c t x p)
unfolding use_conn
use_keeps c t x p h =
    goes_keeps c (touched t x) x (leaving x p) (closes (has_rst p) x) (closes_keeps (has_rst p) x (touched t x)) x.peer
    (touched_keeps t x h)

inbound_keeps : (c : ConfigParts) (t : Traffic) (x : Connection) (p : List ℕ) → Keeps t (use_inbound c t x p)
unfolding use_inbound
inbound_keeps c t x p h = goes_keeps c (inbound_touched t x) x (leaving x p) quiet (λ k. k) x.peer h

-- ---- a machine's packet

-- where a packet may leave, it leaves the keys apart
abbrev May : Traffic → Option (Turn Traffic) → Type 0
May t None = Unit {0}
May t (Some u) = Keeps t u

new_inner : (now : ℕ) (key : FlowKey) (vip : Ip4) (chosen : ℕ × ℕ)
    → private_key (new_connection now key vip chosen) ≡ key
unfolding private_key
new_inner now key vip chosen = refl

new_outer : (now : ℕ) (key : FlowKey) (vip : Ip4) (chosen : ℕ × ℕ)
    → public_key (new_connection now key vip chosen) ≡ record key { src = vip; sport = chosen.1 }
unfolding public_key
new_outer now key vip chosen = refl

not_used : (cs : List Connection) (key : FlowKey) (vip : Ip4) (ports : List (ℕ × ℕ)) (chosen : ℕ × ℕ)
    → first_unused (is_used cs key vip) ports ≡ Some chosen
    → by_public (record key { src = vip; sport = chosen.1 }) cs ≡ None
not_used cs key vip ports chosen found =
    let passes = found_passes (λ (p : ℕ × ℕ). not (is_used cs key vip p.1)) ports chosen found in
    none_by (by_public (record key { src = vip; sport = chosen.1 }) cs) passes
  where
    none_by : (o : Option Connection) → not (is_some o) ≡ true → o ≡ None
    none_by None h = refl
    none_by (Some x) h = absurd (cc)

pub open_keeps : (t : Traffic) (x : Connection) → IsFree private_key (private_key x) t.conns
    → IsFree public_key (public_key x) t.conns → Keeps t (open_conn t x)
unfolding open_conn
open_keeps t x inner outer h = apart_append t.conns x h inner outer

-- the port that was chosen gives a connection of which both keys are free
pub open_is_free : (t : Traffic) (vip : Ip4) (p : List ℕ) → by_private (key_of p) t.conns ≡ None → (chosen : ℕ × ℕ)
    → first_unused (is_used t.conns (key_of p) vip) (ports_of t.ranges.held (key_of p).src) ≡ Some chosen
    → IsFree private_key (private_key (new_connection t.time (key_of p) vip chosen)) t.conns
    × IsFree public_key (public_key (new_connection t.time (key_of p) vip chosen)) t.conns
open_is_free t vip p none chosen e = (
  subst (λ k. IsFree private_key k t.conns) (sym (new_inner t.time (key_of p) vip chosen))
      (each_none (has_private (key_of p)) t.conns none),
  subst (λ k. IsFree public_key k t.conns) (sym (new_outer t.time (key_of p) vip chosen))
      (each_none (has_public (record (key_of p) { src = vip; sport = chosen.1 })) t.conns
      (not_used t.conns (key_of p) vip (ports_of t.ranges.held (key_of p).src) chosen e)),
)

port_keeps : (c : ConfigParts) (t : Traffic) (vip : Ip4) (p : List ℕ) → by_private (key_of p) t.conns ≡ None
    → (o : Option (ℕ × ℕ)) → first_unused (is_used t.conns (key_of p) vip) (ports_of t.ranges.held (key_of p).src) ≡ o
    → May t (with_port c t vip p o)
port_keeps c t vip p none None e = tt
port_keeps c t vip p none (Some chosen) e =
    let x : Connection = new_connection t.time (key_of p) vip chosen in
    let free = not_used t.conns (key_of p) vip (ports_of t.ranges.held (key_of p).src) chosen e in
    λ h. use_keeps c (open_conn t x).state x p
    (open_keeps t x
    (subst (λ k. IsFree private_key k t.conns) (sym (new_inner t.time (key_of p) vip chosen))
    (each_none (has_private (key_of p)) t.conns none))
    (subst (λ k. IsFree public_key k t.conns) (sym (new_outer t.time (key_of p) vip chosen))
    (each_none (has_public (record (key_of p) { src = vip; sport = chosen.1 })) t.conns free))
    h)

new_keeps : (c : ConfigParts) (t : Traffic) (p : List ℕ) → by_private (key_of p) t.conns ≡ None → (o : Option Ip4)
    → May t (new_conn c t p o)
unfolding new_conn
new_keeps c t p none None = λ h. h
new_keeps c t p none (Some vip) =
    by_if (May t) (nat_le most (length t.conns)) (λ h. h)
    (port_keeps c t vip p none
    (first_unused (is_used t.conns (key_of p) vip) (ports_of t.ranges.held (key_of p).src))
    refl)

entry_keeps : (c : ConfigParts) (t : Traffic) (p : List ℕ) → by_private (key_of p) t.conns ≡ None
    → (o : Option Connection)
    → May t (by_inbound c t p o)
entry_keeps c t p none (Some x) = inbound_keeps c t x p
entry_keeps c t p none None = new_keeps c t p none (snat_vip c.vips (key_of p).src)

conn_keeps : (c : ConfigParts) (t : Traffic) (p : List ℕ) (o : Option Connection) → by_private (key_of p) t.conns ≡ o
    → May t (by_conn c t p o)
conn_keeps c t p (Some x) e = use_keeps c t x p
conn_keeps c t p None e = entry_keeps c t p e (by_private (key_of p) t.inbound)

pub try_keeps : (c : ConfigParts) (t : Traffic) (p : List ℕ) → May t (try_packet c t p)
unfolding try_packet
try_keeps c t p = conn_keeps c t p (by_private (key_of p) t.conns) refl

-- a turn of one machine keeps the keys apart, and so does one of the agent
abbrev KeepsAt : Site → Turn Site → Type 0
KeepsAt s u = KeysApart s.traffic.conns → KeysApart u.state.traffic.conns

abbrev KeepsIn : Agent → Turn Agent → Type 0
KeepsIn a u = KeysApart a.traffic.conns → KeysApart u.state.traffic.conns

stays_keeps : (boot hint : ℕ) (s : Site) (p : List ℕ) (o : Option (Turn Traffic)) → May s.traffic o
    → KeepsAt s (or_stays boot hint s p o)
stays_keeps boot hint s p None k = λ h. h
stays_keeps boot hint s p (Some t) k = k

machine_keeps : (c : ConfigParts) (boot hint : ℕ) (s : Site) (p : List ℕ) → KeepsAt s (machine_packet c boot hint s p)
unfolding machine_packet
machine_keeps c boot hint s p =
    by_if (KeepsAt s) (same_ip (key_of p).src s.host.machine)
    (stays_keeps boot hint s p (try_packet c s.traffic p) (try_keeps c s.traffic p))
    (λ h. h)

read_keeps : (c : ConfigParts) (boot hint : ℕ) (s : Site) (r : Result (List ℕ) PacketFault)
    → KeepsAt s (read_as c boot hint s r)
read_keeps c boot hint s (Err fault) = λ h. h
read_keeps c boot hint s (Ok p) = machine_keeps c boot hint s p

of_machine_keeps : (c : ConfigParts) (a : Agent) (bytes : List ℕ) (o : Option Host) → KeepsIn a (of_machine c a bytes o)
of_machine_keeps c a bytes None = λ h. h
of_machine_keeps c a bytes (Some host) = read_keeps c a.boot a.hint (site_at a host) (read_packet bytes)

from_machine_keeps : (c : ConfigParts) (a : Agent) (machine : Ip4) (bytes : List ℕ)
    → KeepsIn a (from_machine c a machine bytes)
unfolding from_machine
from_machine_keeps c a machine bytes = of_machine_keeps c a bytes (host_of a.hosts machine)

-- ---- Grant

waits_keeps : (s : Site) (p : List ℕ) (o : Option (Turn Traffic)) → May s.traffic o → KeepsAt s (or_waits s p o)
waits_keeps s p None k = λ h. h
waits_keeps s p (Some t) k = k

again_keeps : (c : ConfigParts) (s : Site) (r : Result (List ℕ) PacketFault) → KeepsAt s (again c s r)
again_keeps c s (Err fault) = λ h. h
again_keeps c s (Ok p) = waits_keeps s p (try_packet c s.traffic p) (try_keeps c s.traffic p)

retry_keeps : (c : ConfigParts) (bytes : List ℕ) (s : Site) → KeepsAt s (retry c bytes s)
unfolding retry
retry_keeps c bytes s = again_keeps c s (read_packet bytes)

each_retry : (c : ConfigParts) (queue : List (List ℕ)) (s : Site) → KeepsAt s (each (retry c) queue s)
unfolding each
each_retry c [] s h = h
each_retry c (bytes ∷ queue) s h = each_retry c queue (retry c bytes s).state (retry_keeps c bytes s h)

left_keeps : (boot hint : ℕ) (s : Site) → KeepsAt s (ask_left boot hint s)
left_keeps boot hint s = by_if (KeepsAt s) (nat_le 1 (length s.host.queue)) (λ h. h) (λ h. h)

take_keeps : (c : ConfigParts) (boot hint : ℕ) (s : Site) (seq n : ℕ) → KeepsAt s (take_grant c boot hint s seq n)
unfolding take_grant
take_keeps c boot hint s seq n h =
    left_keeps boot hint (each (retry c) s.host.queue (begun s seq)).state
    (each_retry c s.host.queue (begun s seq) h)

took_keeps : (c : ConfigParts) (a : Agent) (from : ℕ) (s : Site) (seq n : ℕ) (r : Ranges) (g : Granting)
    → s.traffic.conns ≡ a.traffic.conns → KeepsIn a (took c a from s seq n (r, g))
took_keeps c a from s seq n r (granting.Old kept) same = λ h. h
took_keeps c a from s seq n r granting.Held same =
    λ h. take_keeps c a.boot from (record s { traffic = with_ranges s.traffic r }) seq n (subst KeysApart (sym same) h)

grant_keeps : (c : ConfigParts) (a : Agent) (from seq n : ℕ) (r : Range) (o : Option Host)
    → KeepsIn a (grant_to c a from seq n r o)
grant_keeps c a from seq n r None = λ h. h
grant_keeps c a from seq n r (Some host) =
    by_if (KeepsIn a) (has_snat c.vips r.vip host.machine && is_leasable (lease_rules_of c) r)
    (took_keeps c a from (site_at a host) seq n
    (granted a.traffic.ranges n r host.machine a.traffic.time).0
    (granted a.traffic.ranges n r host.machine a.traffic.time).1
    refl)
    (λ h. h)

boot_keeps : (a : Agent) (boot : ℕ) (t : Turn Agent) → KeepsIn a t → KeepsIn a (of_own_boot a boot t)
boot_keeps a boot t k = by_if (KeepsIn a) (boot == a.boot) k (λ h. h)

denied_keeps : (a : Agent) (from seq : ℕ) (o : Option Host) → KeepsIn a (denied a from seq o)
denied_keeps a from seq None = λ h. h
denied_keeps a from seq (Some host) = by_if (KeepsIn a) (is_ask seq host.ask) (λ h. h) (λ h. h)

replica_keeps : (c : ConfigParts) (a : Agent) (from : ℕ) (m : Message) → KeepsIn a (from_replica c a from m)
unfolding on_grant on_denied on_returned on_known
replica_keeps c a from (message.Grant boot machine seq n vip start) =
    boot_keeps a boot (grant_to c a from seq n (range_at vip start) (host_of a.hosts machine))
    (grant_keeps c a from seq n (range_at vip start) (host_of a.hosts machine))
replica_keeps c a from (message.Denied boot machine seq reason number) =
    boot_keeps a boot (denied a from seq (host_of a.hosts machine)) (denied_keeps a from seq (host_of a.hosts machine))
replica_keeps c a from (message.Returned boot n) =
    boot_keeps a boot
    (if is_returning n a.traffic.ranges then quiet (with_returned a from n) else drop_turn a drop.Late)
    (by_if (KeepsIn a) (is_returning n a.traffic.ranges) (λ h. h) (λ h. h))
replica_keeps c a from (message.AgentKnown boot) =
    boot_keeps a boot (quiet (record a { known = true; hint = from })) (λ h. h)
replica_keeps c a from _ = λ h. h

-- ---- wrapped packets

hand_keeps : (t : Traffic) (x : Connection) (p : List ℕ) → Keeps t (hand t x p)
unfolding hand
hand_keeps t x p h = h

reply_keeps : (t : Traffic) (machine : Ip4) (p : List ℕ) (x : Connection) → Keeps t (reply t machine p x)
unfolding reply hand
reply_keeps t machine p x =
    by_if (Keeps t) (same_ip x.machine machine)
    (λ h. closes_keeps (has_rst p) x (touched t x) (touched_keeps t x h))
    (λ h. h)

enters_keeps : (t : Traffic) (p : List ℕ) (x : Connection) → Keeps t (enters t p x)
unfolding enters hand
enters_keeps t p x = by_if (Keeps t) (nat_le most (length t.inbound)) (λ h. h) (λ h. h)

meets_keeps : (t : Traffic) (sender : Who) (p : List ℕ) (made : Connection) (o : Option Connection)
    → Keeps t (enters_or_meets t sender p made o)
unfolding hand
meets_keeps t sender p made None = enters_keeps t p made
meets_keeps t sender p made (Some x) =
    by_if (Keeps t) (same_ip x.machine made.machine) (λ h. h)
    (enters_keeps (record t { inbound = closed (private_key x) t.inbound }) p made)

server_keeps : (t : Traffic) (sender : Who) (p : List ℕ) (made : Connection) → Keeps t (to_server t sender p made)
unfolding to_server
server_keeps t sender p made =
    by_if (Keeps t) (is_some (by_private (private_key made) t.conns)) (λ h. h)
    (meets_keeps t sender p made (by_public (public_key made) t.inbound))

member_keeps : (t : Traffic) (sender : Who) (machine : Ip4) (p : List ℕ) (o : Option Member)
    → Keeps t (to_member t sender machine p o)
member_keeps t sender machine p None = λ h. h
member_keeps t sender machine p (Some m) = server_keeps t sender p (new_entry t.time (key_of p) machine m.port)

by_reply_keeps : (c : ConfigParts) (t : Traffic) (sender : Who) (machine : Ip4) (p : List ℕ) (o : Option Connection)
    → Keeps t (by_reply c t sender machine p o)
by_reply_keeps c t sender machine p (Some x) = reply_keeps t machine p x
by_reply_keeps c t sender machine p None = member_keeps t sender machine p (member_at c.vips (key_of p) machine)

inner_keeps : (c : ConfigParts) (t : Traffic) (sender : Who) (machine : Ip4) (r : Result (List ℕ) PacketFault)
    → Keeps t (inner_as c t sender machine r)
unfolding delivered
inner_keeps c t sender machine (Err fault) = λ h. h
inner_keeps c t sender machine (Ok p) =
    by_reply_keeps c t sender machine p (by_public (reverse (key_of p)) t.conns)

outer_keeps : (c : ConfigParts) (a : Agent) (sender : Who) (u : Unwrapped) → KeepsIn a (outer_as c a sender u)
outer_keeps c a sender u =
    by_if (KeepsIn a) (not (is_own a.hosts u.outer_dst)) (λ h. h)
    (by_if (KeepsIn a) (not (may_wrap c sender u.outer_src)) (λ h. h)
    (inner_keeps c a.traffic sender u.outer_dst (read_packet u.bytes)))

unwrapped_keeps : (c : ConfigParts) (a : Agent) (sender : Who) (r : Result Unwrapped UnwrapFault)
    → KeepsIn a (unwrapped_as c a sender r)
unwrapped_keeps c a sender (Err fault) = λ h. h
unwrapped_keeps c a sender (Ok u) = outer_keeps c a sender u

takes_keeps : (c : ConfigParts) (a : Agent) (sender : Who) (bytes : List ℕ) → KeepsIn a (agent_takes c a sender bytes)
unfolding agent_takes on_wrapped
takes_keeps c a (who.Replica i) bytes = λ h. h
takes_keeps c a (who.Mux i) bytes = unwrapped_keeps c a (who.Mux i) (unwrapped bytes)
takes_keeps c a (who.Agent i) bytes = unwrapped_keeps c a (who.Agent i) (unwrapped bytes)
takes_keeps c a (who.Machine machine) bytes = from_machine_keeps c a machine bytes
takes_keeps c a who.Outside bytes = λ h. h

-- ---- redirects

peer_inner : (peer : Option Ip4) (n : ℕ) (c : Connection) → private_key (with_peer peer n c) ≡ private_key c
unfolding private_key
peer_inner peer n c = refl

peer_outer : (peer : Option Ip4) (n : ℕ) (c : Connection) → public_key (with_peer peer n c) ≡ public_key c
unfolding public_key
peer_outer peer n c = refl

redirected_keeps : (o : Redirection) (t : Traffic) (x : Connection) → KeysApart t.conns
    → KeysApart (with_redirect o t x).conns
redirected_keeps o t x h =
    by_if (λ (u : Traffic). KeysApart u.conns) (o.side == 0)
    (apart_changed x (with_peer (Some o.server) x.n) (peer_inner (Some o.server) x.n) (peer_outer (Some o.server) x.n)
    t.conns h)
    h

redirect_to_keeps : (a : Agent) (o : Redirection) (x : Option Connection) → KeepsIn a (redirect_to a o x)
redirect_to_keeps a o None = λ h. h
redirect_to_keeps a o (Some x) = redirected_keeps o a.traffic x

accepted_keeps : (a : Agent) (o : Redirection) (x : Option Connection) (answer : Accept)
    → KeepsIn a (if_accepted a o x answer)
accepted_keeps a o x accept.NotFromMux = λ h. h
accepted_keeps a o x accept.NoConnection = λ h. h
accepted_keeps a o x (accept.StaleLease kept) = λ h. h
accepted_keeps a o x accept.Yes = redirect_to_keeps a o x

-- a Redirect, also as it will be taken
pub redirect_keeps : (c : ConfigParts) (a : Agent) (from : ℕ) (o : Redirection) → KeepsIn a (on_redirect c a from o)
unfolding on_redirect
redirect_keeps c a from o =
    by_if (KeepsIn a) (is_some (agent_with c o.opener) && is_some (agent_with c o.server))
    (accepted_keeps a o (redirected o a.traffic)
    (accept_redirect (who.Mux from) o.side o.n (number_of (redirected o a.traffic))))
    (λ h. h)

mux_keeps : (c : ConfigParts) (a : Agent) (from : ℕ) (m : Message) → KeepsIn a (from_mux c a from m)
mux_keeps c a from (message.Redirect side n src sport dst dport opener server) = λ h. h
mux_keeps c a from _ = λ h. h

-- ---- the clock

each_closes : (xs : List Connection) (t : Traffic) → Keeps t (each close_conn xs t)
unfolding each
each_closes [] t h = h
each_closes (x ∷ xs) t h = each_closes xs (close_conn x t).state (close_keeps x t h)

each_gives : (xs : List Held) (t : Traffic) → Keeps t (each give_back xs t)
unfolding each give_back
each_gives [] t h = h
each_gives (x ∷ xs) t h = each_gives xs (give_back x t).state h

idle_keeps : (c : ConfigParts) (hosts : List Host) (t : Traffic) → Keeps t (idle_leave c hosts t)
unfolding idle_leave close_idle forget_inbound give_back_spare
idle_keeps c hosts t h =
    each_gives (filter (is_spare hosts after.time c.timers.range_idle) after.ranges.held) after
    (each_closes (filter (is_idle t.time c.timers.flow_idle) t.conns) t h)
  where
    after : Traffic
    after = (forget_inbound c.timers.flow_idle (close_idle c.timers.flow_idle t).state).state

tick_keeps : (c : ConfigParts) (a : Agent) (now : ℕ) → KeepsIn a (on_tick c a now)
unfolding on_tick says_again
tick_keeps c a now h = idle_keeps c a.hosts (at_now a now) h

-- ---- whatever comes

message_keeps : (c : ConfigParts) (a : Agent) (from : NodeId) (m : Message) → KeepsIn a (agent_hears c a from m)
unfolding agent_hears
message_keeps c a (node.Replica from) m = replica_keeps c a from m
message_keeps c a (node.Mux from) m = mux_keeps c a from m
message_keeps c a (node.Agent from) m = λ h. h

datagram_keeps : (c : ConfigParts) (a : Agent) (h : Heard)
    → KeepsIn a (by_heard (drop_turn a) (agent_hears c a) (agent_takes c a) h)
datagram_keeps c a (Refused cause) = λ h. h
datagram_keeps c a (Told from m) = message_keeps c a from m
datagram_keeps c a (Brought sender bytes) = takes_keeps c a sender bytes

pub step_keeps : (c : ConfigParts) (a : Agent) (x : Input) → KeepsIn a (agent_step c a x)
unfolding agent_step
step_keeps c a (Arrived from bytes) = datagram_keeps c a (heard c from bytes)
step_keeps c a (Ticked now) = tick_keeps c a now

pub opened_apart : (c : ConfigParts) (index : ℕ) (entries : List Entry)
    → KeysApart (opened_agent c index entries).traffic.conns
unfolding opened_agent
opened_apart c index entries = record { private_keys = tt; public_keys = tt }
