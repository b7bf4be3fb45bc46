-- Whatever comes, inbound entries stay apart.
use Rattle.std.proofs.Common.{◌≡◌, refl, sym, subst, ap, ℕ, Bool, true, not, List, [], ◌∷◌, Option}
use Rattle.std.proofs.Common.{Some, None, is_some, if◌then◌else◌}
use Rattle.std.specs.Prelude.{filter, length, nat_le, option_map, Result, Ok, Err, ◌==◌, ◌&&◌}
use Rattle.control_msg.specs.declared.message.Message.{Message}
use Rattle.control_msg.specs.declared.message.Message.TheVariants as message
use Rattle.ipip.specs.Wrapping.{Unwrapped, wrap_fault, unwrapped}
use Rattle.ipip.specs.declared.unwrapping.UnwrapFault.{UnwrapFault}
use Rattle.ipip.specs.declared.wrapping.WrapFault.{WrapFault}
use Rattle.config_text.specs.declared.vips.Member.{Member}
use Rattle.node_spec.specs.declared.accept.Accept.{Accept}
use Rattle.node_spec.specs.declared.accept.Accept.TheVariants as accept
use Rattle.node_spec.specs.Fastpath.{accept_redirect}
use Rattle.node_spec.specs.Datagrams.{Heard, Refused, Told, Brought, heard, by_heard}
use Rattle.node_spec.specs.Turns.{Input, Arrived, Ticked, Turn, each, drop_turn, quiet}
use Rattle.packet_spec.specs.declared.fault.PacketFault.{PacketFault}
use Rattle.packet_spec.specs.Packets.{key_of, has_rst, read_packet}
use Rattle.vip_config.specs.declared.parts.ConfigParts.{ConfigParts}
use Rattle.vip_config.specs.declared.parts.VipConf.{VipConf}
use Rattle.vip_config.specs.declared.who.Who.{Who}
use Rattle.vip_config.specs.declared.who.Who.TheVariants as who
use Rattle.vip_config.specs.Serving.{agent_with, has_snat, member_at, snat_vip}
use Rattle.vip_config.specs.Leases.{lease_rules_of}
use Rattle.vip_config.specs.Rules.{KeepsRules}
use Rattle.wire_core.specs.Flows.{reverse}
use Rattle.wire_core.specs.Ranges.{is_leasable, range_at}
use Rattle.wire_core.specs.Same.{same_ip}
use Rattle.wire_core.specs.declared.address.Ip4.{Ip4}
use Rattle.wire_core.specs.declared.cause.DropCause.TheVariants as drop
use Rattle.wire_core.specs.declared.entry.Entry.{Entry}
use Rattle.wire_core.specs.declared.flow.FlowKey.{FlowKey}
use Rattle.wire_core.specs.declared.node.NodeId.{NodeId}
use Rattle.wire_core.specs.declared.node.NodeId.TheVariants as node
use Rattle.wire_core.specs.declared.range.Range.{Range}
use Rattle.agent_spec.specs.declared.connection.Connection.{Connection}
use Rattle.agent_spec.specs.declared.held.Granting.{Granting}
use Rattle.agent_spec.specs.declared.held.Granting.TheVariants as granting
use Rattle.agent_spec.specs.declared.held.Held.{Held}
use Rattle.agent_spec.specs.declared.order.Redirection.{Redirection}
use Rattle.agent_spec.specs.Agent.{Agent, Host, Site, Traffic, host_of, is_own, opened_agent}
use Rattle.agent_spec.specs.Agent.{site_at, with_ranges}
use Rattle.agent_spec.specs.AgentTable.{agent_hears, agent_step, agent_takes, from_mux, from_replica}
use Rattle.agent_spec.specs.Answers.{again, ask_left, denied, grant_to, is_ask, of_own_boot, with_returned}
use Rattle.agent_spec.specs.Answers.{on_denied, on_grant, on_known, on_returned, or_waits, retry, take_grant, took}
use Rattle.agent_spec.specs.Answers.{begun}
use Rattle.agent_spec.specs.Clock.{close_idle, is_spare, forget_inbound, give_back, give_back_spare, idle_leave}
use Rattle.agent_spec.specs.Clock.{on_tick, says_again, at_now}
use Rattle.agent_spec.specs.Connections.{at_time, by_private, by_public, closed, has_private, has_public, is_idle}
use Rattle.agent_spec.specs.Connections.{most, private_key, public_key, with_peer}
use Rattle.agent_spec.specs.Keys.{EntriesApart, IsFree, IsServed}
use Rattle.agent_spec.specs.Packets.{by_conn, by_inbound, is_used, machine_packet, new_conn, new_connection}
use Rattle.agent_spec.specs.Packets.{or_stays, from_machine, of_machine, read_as, try_packet, with_port}
use Rattle.agent_spec.specs.Ranges.{Ranges, first_unused, is_returning, ports_of, granted}
use Rattle.agent_spec.specs.Redirects.{if_accepted, number_of, on_redirect, redirect_to, redirected, with_redirect}
use Rattle.agent_spec.specs.Traffic.{closes, close_conn, goes, hand, inbound_touched, leaving, open_conn, to_peer}
use Rattle.agent_spec.specs.Traffic.{touched, use_conn, use_inbound}
use Rattle.agent_spec.specs.Wrapped.{clears_peer, met_again, delivered, enters, enters_or_meets, may_wrap, new_entry, on_wrapped, reply}
use Rattle.agent_spec.specs.Wrapped.{to_server, outer_as, unwrapped_as, inner_as, by_reply, to_member}
use Rattle.agent_spec.proofs.KeyLists.{by_if, each_none}
use Rattle.agent_spec.proofs.EntryLists.{changed_apart, closed_free, entered_apart, filtered_apart}

-- a turn of the traffic keeps the entries apart
abbrev Keeps : ConfigParts → Traffic → Turn Traffic → Type 0
Keeps c t u = EntriesApart c t.inbound → EntriesApart c u.state.inbound

-- ---- the parts of which rows are made

time_inner : (now : ℕ) (x : Connection) → private_key (at_time now x) ≡ private_key x
unfolding private_key
time_inner now x = refl

time_outer : (now : ℕ) (x : Connection) → public_key (at_time now x) ≡ public_key x
unfolding public_key
time_outer now x = refl

met_inner : (now : ℕ) (clear : Bool) (x : Connection) → private_key (met_again now clear x) ≡ private_key x
unfolding private_key
met_inner now clear x = refl

met_outer : (now : ℕ) (clear : Bool) (x : Connection) → public_key (met_again now clear x) ≡ public_key x
unfolding public_key
met_outer now clear x = refl

close_keeps : (c : ConfigParts) (x : Connection) (t : Traffic) → Keeps c t (close_conn x t)
unfolding close_conn
close_keeps c x t h = h

closes_keeps : (c : ConfigParts) (rst : Bool) (x : Connection) (t : Traffic) → Keeps c t (closes rst x t)
closes_keeps c rst x t = by_if (Keeps c t) rst (close_keeps c x t) (λ h. h)

peer_keeps : (c : ConfigParts) (t : Traffic) (x : Connection) (peer : Ip4) (p : List ℕ) (f : Traffic → Turn Traffic)
    → Keeps c t (f t) → (w : Option WrapFault) → Keeps c t (to_peer c t x peer p f w)
peer_keeps c t x peer p f k (Some fault) = λ h. h
peer_keeps c t x peer p f k None = k

goes_keeps : (c : ConfigParts) (t : Traffic) (x : Connection) (p : List ℕ) (f : Traffic → Turn Traffic)
    → Keeps c t (f t) → (o : Option Ip4) → Keeps c t (goes c t x p f o)
goes_keeps c t x p f k (Some peer) = peer_keeps c t x peer p f k (wrap_fault 0 p)
goes_keeps c t x p f k None = k

use_keeps : (c : ConfigParts) (t : Traffic) (x : Connection) (p : List ℕ) → Keeps c t (use_conn c t x p)
unfolding use_conn
use_keeps c t x p h =
    goes_keeps c (touched t x) x (leaving x p) (closes (has_rst p) x) (closes_keeps c (has_rst p) x (touched t x)) x.peer h

entry_keeps : (c : ConfigParts) (t : Traffic) (x : Connection) (p : List ℕ) → Keeps c t (use_inbound c t x p)
unfolding use_inbound
entry_keeps c t x p h =
    goes_keeps c (inbound_touched t x) x (leaving x p) quiet (λ k. k) x.peer
    (changed_apart c x (at_time t.time) (time_inner t.time) (time_outer t.time) (λ y k. k) t.inbound h)

-- ---- a machine's packet

-- where a packet may leave, it leaves the entries apart
abbrev May : ConfigParts → Traffic → Option (Turn Traffic) → Type 0
May c t None = Unit {0}
May c t (Some u) = Keeps c t u

open_keeps : (c : ConfigParts) (t : Traffic) (x : Connection) → Keeps c t (open_conn t x)
unfolding open_conn
open_keeps c t x h = h

port_keeps : (c : ConfigParts) (t : Traffic) (vip : Ip4) (p : List ℕ) (o : Option (ℕ × ℕ))
    → May c t (with_port c t vip p o)
port_keeps c t vip p None = tt
port_keeps c t vip p (Some chosen) =
    let x : Connection = new_connection t.time (key_of p) vip chosen in
    λ h. use_keeps c (open_conn t x).state x p (open_keeps c t x h)

new_keeps : (c : ConfigParts) (t : Traffic) (p : List ℕ) (o : Option Ip4) → May c t (new_conn c t p o)
unfolding new_conn
new_keeps c t p None = λ h. h
new_keeps c t p (Some vip) =
    by_if (May c t) (nat_le most (length t.conns)) (λ h. h)
    (port_keeps c t vip p (first_unused (is_used t.conns (key_of p) vip) (ports_of t.ranges.held (key_of p).src)))

inbound_keeps : (c : ConfigParts) (t : Traffic) (p : List ℕ) (o : Option Connection) → May c t (by_inbound c t p o)
inbound_keeps c t p (Some x) = entry_keeps c t x p
inbound_keeps c t p None = new_keeps c t p (snat_vip c.vips (key_of p).src)

conn_keeps : (c : ConfigParts) (t : Traffic) (p : List ℕ) (o : Option Connection) → May c t (by_conn c t p o)
conn_keeps c t p (Some x) = use_keeps c t x p
conn_keeps c t p None = inbound_keeps c t p (by_private (key_of p) t.inbound)

try_keeps : (c : ConfigParts) (t : Traffic) (p : List ℕ) → May c t (try_packet c t p)
unfolding try_packet
try_keeps c t p = conn_keeps c t p (by_private (key_of p) t.conns)

-- a turn of one machine keeps the entries apart, and so does one of the agent
abbrev KeepsAt : ConfigParts → Site → Turn Site → Type 0
KeepsAt c s u = EntriesApart c s.traffic.inbound → EntriesApart c u.state.traffic.inbound

abbrev KeepsIn : ConfigParts → Agent → Turn Agent → Type 0
KeepsIn c a u = EntriesApart c a.traffic.inbound → EntriesApart c u.state.traffic.inbound

stays_keeps : (c : ConfigParts) (boot hint : ℕ) (s : Site) (p : List ℕ) (o : Option (Turn Traffic)) → May c s.traffic o
    → KeepsAt c s (or_stays boot hint s p o)
stays_keeps c boot hint s p None k = λ h. h
stays_keeps c boot hint s p (Some t) k = k

machine_keeps : (c : ConfigParts) (boot hint : ℕ) (s : Site) (p : List ℕ)
    → KeepsAt c s (machine_packet c boot hint s p)
unfolding machine_packet
machine_keeps c boot hint s p =
    by_if (KeepsAt c s) (same_ip (key_of p).src s.host.machine)
    (stays_keeps c boot hint s p (try_packet c s.traffic p) (try_keeps c s.traffic p))
    (λ h. h)

read_keeps : (c : ConfigParts) (boot hint : ℕ) (s : Site) (r : Result (List ℕ) PacketFault)
    → KeepsAt c s (read_as c boot hint s r)
read_keeps c boot hint s (Err fault) = λ h. h
read_keeps c boot hint s (Ok p) = machine_keeps c boot hint s p

of_machine_keeps : (c : ConfigParts) (a : Agent) (bytes : List ℕ) (o : Option Host)
    → KeepsIn c a (of_machine c a bytes o)
of_machine_keeps c a bytes None = λ h. h
of_machine_keeps c a bytes (Some host) = read_keeps c a.boot a.hint (site_at a host) (read_packet bytes)

from_machine_keeps : (c : ConfigParts) (a : Agent) (machine : Ip4) (bytes : List ℕ)
    → KeepsIn c a (from_machine c a machine bytes)
unfolding from_machine
from_machine_keeps c a machine bytes = of_machine_keeps c a bytes (host_of a.hosts machine)

-- ---- Grant

waits_keeps : (c : ConfigParts) (s : Site) (p : List ℕ) (o : Option (Turn Traffic)) → May c s.traffic o
    → KeepsAt c s (or_waits s p o)
waits_keeps c s p None k = λ h. h
waits_keeps c s p (Some t) k = k

again_keeps : (c : ConfigParts) (s : Site) (r : Result (List ℕ) PacketFault) → KeepsAt c s (again c s r)
again_keeps c s (Err fault) = λ h. h
again_keeps c s (Ok p) = waits_keeps c s p (try_packet c s.traffic p) (try_keeps c s.traffic p)

retry_keeps : (c : ConfigParts) (bytes : List ℕ) (s : Site) → KeepsAt c s (retry c bytes s)
unfolding retry
retry_keeps c bytes s = again_keeps c s (read_packet bytes)

each_retry : (c : ConfigParts) (queue : List (List ℕ)) (s : Site) → KeepsAt c s (each (retry c) queue s)
unfolding each
each_retry c [] s h = h
each_retry c (bytes ∷ queue) s h = each_retry c queue (retry c bytes s).state (retry_keeps c bytes s h)

left_keeps : (c : ConfigParts) (boot hint : ℕ) (s : Site) → KeepsAt c s (ask_left boot hint s)
left_keeps c boot hint s = by_if (KeepsAt c s) (nat_le 1 (length s.host.queue)) (λ h. h) (λ h. h)

take_keeps : (c : ConfigParts) (boot hint : ℕ) (s : Site) (seq n : ℕ) → KeepsAt c s (take_grant c boot hint s seq n)
unfolding take_grant
take_keeps c boot hint s seq n h =
    left_keeps c boot hint (each (retry c) s.host.queue (begun s seq)).state
    (each_retry c s.host.queue (begun s seq) h)

took_keeps : (c : ConfigParts) (a : Agent) (from : ℕ) (s : Site) (seq n : ℕ) (r : Ranges) (g : Granting)
    → s.traffic.inbound ≡ a.traffic.inbound → KeepsIn c a (took c a from s seq n (r, g))
took_keeps c a from s seq n r (granting.Old kept) same = λ h. h
took_keeps c a from s seq n r granting.Held same =
    λ h. take_keeps c a.boot from (record s { traffic = with_ranges s.traffic r }) seq n
    (subst (EntriesApart c) (sym same) h)

grant_keeps : (c : ConfigParts) (a : Agent) (from seq n : ℕ) (r : Range) (o : Option Host)
    → KeepsIn c a (grant_to c a from seq n r o)
grant_keeps c a from seq n r None = λ h. h
grant_keeps c a from seq n r (Some host) =
    by_if (KeepsIn c a) (has_snat c.vips r.vip host.machine && is_leasable (lease_rules_of c) r)
    (took_keeps c a from (site_at a host) seq n
    (granted a.traffic.ranges n r host.machine a.traffic.time).0
    (granted a.traffic.ranges n r host.machine a.traffic.time).1
    refl)
    (λ h. h)

boot_keeps : (c : ConfigParts) (a : Agent) (boot : ℕ) (t : Turn Agent) → KeepsIn c a t
    → KeepsIn c a (of_own_boot a boot t)
boot_keeps c a boot t k = by_if (KeepsIn c a) (boot == a.boot) k (λ h. h)

denied_keeps : (c : ConfigParts) (a : Agent) (from seq : ℕ) (o : Option Host) → KeepsIn c a (denied a from seq o)
denied_keeps c a from seq None = λ h. h
denied_keeps c a from seq (Some host) = by_if (KeepsIn c a) (is_ask seq host.ask) (λ h. h) (λ h. h)

replica_keeps : (c : ConfigParts) (a : Agent) (from : ℕ) (m : Message) → KeepsIn c a (from_replica c a from m)
unfolding on_grant on_denied on_returned on_known
replica_keeps c a from (message.Grant boot machine seq n vip start) =
    boot_keeps c a boot (grant_to c a from seq n (range_at vip start) (host_of a.hosts machine))
    (grant_keeps c a from seq n (range_at vip start) (host_of a.hosts machine))
replica_keeps c a from (message.Denied boot machine seq reason number) =
    boot_keeps c a boot (denied a from seq (host_of a.hosts machine))
    (denied_keeps c a from seq (host_of a.hosts machine))
replica_keeps c a from (message.Returned boot n) =
    boot_keeps c a boot
    (if is_returning n a.traffic.ranges then quiet (with_returned a from n) else drop_turn a drop.Late)
    (by_if (KeepsIn c a) (is_returning n a.traffic.ranges) (λ h. h) (λ h. h))
replica_keeps c a from (message.AgentKnown boot) =
    boot_keeps c a boot (quiet (record a { known = true; hint = from })) (λ h. h)
replica_keeps c a from _ = λ h. h

-- ---- wrapped packets

hand_keeps : (c : ConfigParts) (t : Traffic) (x : Connection) (p : List ℕ) → Keeps c t (hand t x p)
unfolding hand
hand_keeps c t x p h = h

reply_keeps : (c : ConfigParts) (t : Traffic) (machine : Ip4) (p : List ℕ) (x : Connection)
    → Keeps c t (reply t machine p x)
unfolding reply hand
reply_keeps c t machine p x =
    by_if (Keeps c t) (same_ip x.machine machine)
    (λ h. closes_keeps c (has_rst p) x (touched t x) h)
    (λ h. h)

enters_keeps : (c : ConfigParts) (t : Traffic) (p : List ℕ) (x : Connection) → KeepsRules c → IsServed c.vips x
    → IsFree public_key (public_key x) t.inbound → Keeps c t (enters t p x)
unfolding enters hand
enters_keeps c t p x rules own free =
    by_if (Keeps c t) (nat_le most (length t.inbound)) (λ h. h)
    (λ h. entered_apart c t.inbound x rules h own free)

meets_keeps : (c : ConfigParts) (t : Traffic) (sender : Who) (p : List ℕ) (made : Connection) → KeepsRules c
    → IsServed c.vips made → (o : Option Connection) → by_public (public_key made) t.inbound ≡ o
    → Keeps c t (enters_or_meets t sender p made o)
unfolding hand
meets_keeps c t sender p made rules own None none =
    enters_keeps c t p made rules own (each_none (has_public (public_key made)) t.inbound none)
meets_keeps c t sender p made rules own (Some x) found =
    by_if (Keeps c t) (same_ip x.machine made.machine)
    (changed_apart c x (met_again t.time (clears_peer sender p)) (met_inner t.time (clears_peer sender p))
    (met_outer t.time (clears_peer sender p)) (λ y k. k) t.inbound)
    (λ h. enters_keeps c (record t { inbound = closed (private_key x) t.inbound }) p made rules own
    (closed_free (public_key made) t.inbound x h.keys.public_keys found)
    (filtered_apart c (λ y. not (has_private (private_key x) y)) t.inbound h))

server_keeps : (c : ConfigParts) (t : Traffic) (sender : Who) (p : List ℕ) (made : Connection) → KeepsRules c
    → IsServed c.vips made → Keeps c t (to_server t sender p made)
unfolding to_server
server_keeps c t sender p made rules own =
    by_if (Keeps c t) (is_some (by_private (private_key made) t.conns)) (λ h. h)
    (meets_keeps c t sender p made rules own (by_public (public_key made) t.inbound) refl)

pub made_served : (vips : List VipConf) (now : ℕ) (k : FlowKey) (machine : Ip4) (m : Member)
    → member_at vips k machine ≡ Some m → IsServed vips (new_entry now k machine m.port)
made_served vips now k machine m is = ap (option_map (λ (x : Member). x.port)) is

member_keeps : (c : ConfigParts) (t : Traffic) (sender : Who) (machine : Ip4) (p : List ℕ) → KeepsRules c
    → (o : Option Member) → member_at c.vips (key_of p) machine ≡ o → Keeps c t (to_member t sender machine p o)
member_keeps c t sender machine p rules None is = λ h. h
member_keeps c t sender machine p rules (Some m) is =
    server_keeps c t sender p (new_entry t.time (key_of p) machine m.port) rules
    (made_served c.vips t.time (key_of p) machine m is)

by_reply_keeps : (c : ConfigParts) (t : Traffic) (sender : Who) (machine : Ip4) (p : List ℕ) → KeepsRules c
    → (o : Option Connection) → Keeps c t (by_reply c t sender machine p o)
by_reply_keeps c t sender machine p rules (Some x) = reply_keeps c t machine p x
by_reply_keeps c t sender machine p rules None =
    member_keeps c t sender machine p rules (member_at c.vips (key_of p) machine) refl

inner_keeps : (c : ConfigParts) (t : Traffic) (sender : Who) (machine : Ip4) → KeepsRules c
    → (r : Result (List ℕ) PacketFault) → Keeps c t (inner_as c t sender machine r)
unfolding delivered
inner_keeps c t sender machine rules (Err fault) = λ h. h
inner_keeps c t sender machine rules (Ok p) =
    by_reply_keeps c t sender machine p rules (by_public (reverse (key_of p)) t.conns)

outer_keeps : (c : ConfigParts) (a : Agent) (sender : Who) (u : Unwrapped) → KeepsRules c
    → KeepsIn c a (outer_as c a sender u)
outer_keeps c a sender u rules =
    by_if (KeepsIn c a) (not (is_own a.hosts u.outer_dst)) (λ h. h)
    (by_if (KeepsIn c a) (not (may_wrap c sender u.outer_src)) (λ h. h)
    (inner_keeps c a.traffic sender u.outer_dst rules (read_packet u.bytes)))

unwrapped_keeps : (c : ConfigParts) (a : Agent) (sender : Who) → KeepsRules c → (r : Result Unwrapped UnwrapFault)
    → KeepsIn c a (unwrapped_as c a sender r)
unwrapped_keeps c a sender rules (Err fault) = λ h. h
unwrapped_keeps c a sender rules (Ok u) = outer_keeps c a sender u rules

takes_keeps : (c : ConfigParts) (a : Agent) (sender : Who) (bytes : List ℕ) → KeepsRules c
    → KeepsIn c a (agent_takes c a sender bytes)
unfolding agent_takes on_wrapped
takes_keeps c a (who.Replica i) bytes rules = λ h. h
takes_keeps c a (who.Mux i) bytes rules = unwrapped_keeps c a (who.Mux i) rules (unwrapped bytes)
takes_keeps c a (who.Agent i) bytes rules = unwrapped_keeps c a (who.Agent i) rules (unwrapped bytes)
takes_keeps c a (who.Machine machine) bytes rules = from_machine_keeps c a machine bytes
takes_keeps c a who.Outside bytes rules = λ h. h

-- ---- redirects

peer_inner : (peer : Option Ip4) (n : ℕ) (x : Connection) → private_key (with_peer peer n x) ≡ private_key x
unfolding private_key
peer_inner peer n x = refl

peer_outer : (peer : Option Ip4) (n : ℕ) (x : Connection) → public_key (with_peer peer n x) ≡ public_key x
unfolding public_key
peer_outer peer n x = refl

redirected_keeps : (c : ConfigParts) (o : Redirection) (t : Traffic) (x : Connection) → EntriesApart c t.inbound
    → EntriesApart c (with_redirect o t x).inbound
redirected_keeps c o t x h =
    by_if (λ (u : Traffic). EntriesApart c u.inbound) (o.side == 0) h
    (changed_apart c x (with_peer (Some o.opener) o.n) (peer_inner (Some o.opener) o.n)
    (peer_outer (Some o.opener) o.n) (λ y k. k) t.inbound h)

redirect_to_keeps : (c : ConfigParts) (a : Agent) (o : Redirection) (x : Option Connection)
    → KeepsIn c a (redirect_to a o x)
redirect_to_keeps c a o None = λ h. h
redirect_to_keeps c a o (Some x) = redirected_keeps c o a.traffic x

accepted_keeps : (c : ConfigParts) (a : Agent) (o : Redirection) (x : Option Connection) (answer : Accept)
    → KeepsIn c a (if_accepted a o x answer)
accepted_keeps c a o x accept.NotFromMux = λ h. h
accepted_keeps c a o x accept.NoConnection = λ h. h
accepted_keeps c a o x (accept.StaleLease kept) = λ h. h
accepted_keeps c a o x accept.Yes = redirect_to_keeps c a o x

-- a Redirect, also as it will be taken
pub redirect_keeps : (c : ConfigParts) (a : Agent) (from : ℕ) (o : Redirection) → KeepsIn c a (on_redirect c a from o)
unfolding on_redirect
redirect_keeps c a from o =
    by_if (KeepsIn c a) (is_some (agent_with c o.opener) && is_some (agent_with c o.server))
    (accepted_keeps c a o (redirected o a.traffic)
    (accept_redirect (who.Mux from) o.side o.n (number_of (redirected o a.traffic))))
    (λ h. h)

mux_keeps : (c : ConfigParts) (a : Agent) (from : ℕ) (m : Message) → KeepsIn c a (from_mux c a from m)
mux_keeps c a from (message.Redirect side n src sport dst dport opener server) = λ h. h
mux_keeps c a from _ = λ h. h

-- ---- the clock

each_closes : (c : ConfigParts) (xs : List Connection) (t : Traffic) → Keeps c t (each close_conn xs t)
unfolding each
each_closes c [] t h = h
each_closes c (x ∷ xs) t h = each_closes c xs (close_conn x t).state (close_keeps c x t h)

each_gives : (c : ConfigParts) (xs : List Held) (t : Traffic) → Keeps c t (each give_back xs t)
unfolding each give_back
each_gives c [] t h = h
each_gives c (x ∷ xs) t h = each_gives c xs (give_back x t).state h

forget_keeps : (c : ConfigParts) (idle : ℕ) (t : Traffic) → Keeps c t (forget_inbound idle t)
unfolding forget_inbound
forget_keeps c idle t h = filtered_apart c (λ x. not (is_idle t.time idle x)) t.inbound h

idle_keeps : (c : ConfigParts) (hosts : List Host) (t : Traffic) → Keeps c t (idle_leave c hosts t)
unfolding idle_leave close_idle give_back_spare
idle_keeps c hosts t h =
    each_gives c (filter (is_spare hosts after.time c.timers.range_idle) after.ranges.held) after
    (forget_keeps c c.timers.flow_idle (close_idle c.timers.flow_idle t).state
    (each_closes c (filter (is_idle t.time c.timers.flow_idle) t.conns) t h))
  where
    after : Traffic
    after = (forget_inbound c.timers.flow_idle (close_idle c.timers.flow_idle t).state).state

tick_keeps : (c : ConfigParts) (a : Agent) (now : ℕ) → KeepsIn c a (on_tick c a now)
unfolding on_tick says_again
tick_keeps c a now h = idle_keeps c a.hosts (at_now a now) h

-- ---- whatever comes

message_keeps : (c : ConfigParts) (a : Agent) (from : NodeId) (m : Message) → KeepsIn c a (agent_hears c a from m)
unfolding agent_hears
message_keeps c a (node.Replica from) m = replica_keeps c a from m
message_keeps c a (node.Mux from) m = mux_keeps c a from m
message_keeps c a (node.Agent from) m = λ h. h

datagram_keeps : (c : ConfigParts) (a : Agent) → KeepsRules c → (h : Heard)
    → KeepsIn c a (by_heard (drop_turn a) (agent_hears c a) (agent_takes c a) h)
datagram_keeps c a rules (Refused cause) = λ h. h
datagram_keeps c a rules (Told from m) = message_keeps c a from m
datagram_keeps c a rules (Brought sender bytes) = takes_keeps c a sender bytes rules

pub step_keeps : (c : ConfigParts) (a : Agent) (x : Input) → KeepsRules c → KeepsIn c a (agent_step c a x)
unfolding agent_step
step_keeps c a (Arrived from bytes) rules = datagram_keeps c a rules (heard c from bytes)
step_keeps c a (Ticked now) rules = tick_keeps c a now

pub opened_apart : (c : ConfigParts) (index : ℕ) (entries : List Entry)
    → EntriesApart c (opened_agent c index entries).traffic.inbound
unfolding opened_agent
opened_apart c index entries = record { keys = record { private_keys = tt; public_keys = tt }; served = tt }
