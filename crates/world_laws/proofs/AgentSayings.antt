-- An agent tells its own boot, and gives back what is returning.
use Rattle.std.proofs.Common.{◌≡◌, refl, sym, subst, inl, inr, ℕ, zero, suc, ◌-◌, ◌^◌, Bool, not, List, [], ◌∷◌, ◌++◌, filter, take, Option, Some, None, is_some, nat_le, length}
use Rattle.std.specs.Prelude.{Result, Ok, Err, ◌==◌, ◌&&◌, ◌||◌}
use Rattle.std.specs.List.{flat_map}
use Rattle.wire_core.specs.Members.{In, Each}
use Rattle.wire_core.specs.Same.{same_ip}
use Rattle.wire_core.specs.Flows.{reverse}
use Rattle.wire_core.specs.Ranges.{is_leasable, range_at}
use Rattle.wire_core.specs.declared.address.Ip4.{Ip4}
use Rattle.wire_core.specs.declared.cause.DropCause.{DropCause}
use Rattle.wire_core.specs.declared.cause.DropCause.TheVariants as drop
use Rattle.wire_core.specs.declared.node.NodeId.{NodeId}
use Rattle.wire_core.specs.declared.node.NodeId.TheVariants as node
use Rattle.wire_core.specs.declared.range.Range.{Range}
use Rattle.config_text.specs.declared.vips.Member.{Member}
use Rattle.control_msg.specs.declared.message.Message.{Message}
use Rattle.control_msg.specs.declared.message.Message.TheVariants as message
use Rattle.ipip.specs.Wrapping.{Unwrapped, wrap_fault, unwrapped}
use Rattle.ipip.specs.declared.unwrapping.UnwrapFault.{UnwrapFault}
use Rattle.ipip.specs.declared.wrapping.WrapFault.{WrapFault}
use Rattle.packet_spec.specs.declared.fault.PacketFault.{PacketFault}
use Rattle.packet_spec.specs.Packets.{key_of, has_rst, read_packet}
use Rattle.vip_config.specs.declared.parts.ConfigParts.{ConfigParts}
use Rattle.vip_config.specs.declared.who.Who.{Who}
use Rattle.vip_config.specs.declared.who.Who.TheVariants as who
use Rattle.vip_config.specs.Leases.{lease_rules_of}
use Rattle.vip_config.specs.Serving.{agent_with, has_snat, member_at, snat_vip}
use Rattle.node_spec.specs.declared.accept.Accept.{Accept}
use Rattle.node_spec.specs.declared.accept.Accept.TheVariants as accept
use Rattle.node_spec.specs.Datagrams.{Heard, Refused, Told, Brought, heard, by_heard}
use Rattle.node_spec.specs.Fastpath.{has_fastpath, accept_redirect}
use Rattle.node_spec.specs.Sends.{Said, Says, Carries, Send, tell_all, to_agent}
use Rattle.node_spec.specs.Turns.{Input, Arrived, Ticked, Turn, also, drop_turn, each, quiet}
use Rattle.agent_spec.specs.declared.connection.Connection.{Connection}
use Rattle.agent_spec.specs.declared.held.Held.{Held}
use Rattle.agent_spec.specs.declared.held.Granting.{Granting}
use Rattle.agent_spec.specs.declared.held.Granting.TheVariants as granting
use Rattle.agent_spec.specs.declared.order.Redirection.{Redirection}
use Rattle.agent_spec.specs.declared.held.Asked.{Asked}
use Rattle.agent_spec.specs.Agent.{Agent, Host, Site, Traffic, host_of, is_own, of_host, site_at, with_ranges, with_traffic}
use Rattle.agent_spec.specs.AgentTable.{agent_hears, agent_step, agent_takes, from_mux, from_replica}
use Rattle.agent_spec.specs.Answers.{again, ask_left, begun, denied, grant_to, is_ask, of_own_boot, on_denied, on_grant, on_known, on_returned, or_waits, refused, retry, take_grant, took, with_returned}
use Rattle.agent_spec.specs.Clock.{at_now, ask_again, asks_again, close_idle, forget_inbound, give_back, give_back_spare, idle_leave, is_due, is_spare, on_tick, returns_again, says_again, up_again}
use Rattle.agent_spec.specs.Connections.{by_private, by_public, closed, is_idle, most, private_key, public_key}
use Rattle.agent_spec.specs.Packets.{ask_for, by_conn, by_inbound, enqueued, from_machine, held_by, is_used, machine_packet, new_conn, new_connection, of_machine, or_stays, read_as, stays, try_packet, with_port}
use Rattle.agent_spec.specs.Ranges.{Ranges, first_unused, granted, is_returning, ports_of}
use Rattle.agent_spec.specs.Redirects.{if_accepted, number_of, on_redirect, redirect_to, redirected}
use Rattle.agent_spec.specs.Traffic.{closes, close_conn, goes, hand, inbound_touched, leaving, open_conn, to_peer, touched, use_conn, use_inbound}
use Rattle.agent_spec.specs.Wrapped.{by_reply, delivered, enters, enters_or_meets, inner_as, may_wrap, new_entry, on_wrapped, outer_as, reply, to_member, to_server, unwrapped_as}
use Rattle.manager_spec.proofs.Choices.{by_if}
use Rattle.lease_spec.proofs.MemberLaws.{each_append, each_on}
use Rattle.world_laws.specs.Sayings.{IsOfAgent, AgentSays}

-- ---- packets alone

abbrev IsPacket : Said → Type 0
IsPacket (Says m) = ⊥
IsPacket (Carries packet) = Unit {0}

abbrev Packets : List Send → Type 0
Packets xs = Each (λ (x : Send). IsPacket x.said) xs

-- a turn that sends packets alone
abbrev Passing : {S : Type 0} → Turn S → Type 0
Passing t = Packets t.sends

agent_packet : (o : Option ℕ) (p : List ℕ) → Packets (to_agent o (Carries p))
agent_packet None p = tt
agent_packet (Some agent) p = (tt, tt)

close_sends : (x : Connection) (t : Traffic) → Passing (close_conn x t)
unfolding close_conn
close_sends x t = tt

closes_sends : (rst : Bool) (x : Connection) (t : Traffic) → Passing (closes rst x t)
closes_sends rst x t = by_if Passing rst {x = close_conn x t} {y = quiet t} (λ _. close_sends x t) (λ _. tt)

peer_sends : (c : ConfigParts) (t : Traffic) (x : Connection) (peer : Ip4) (p : List ℕ) (f : Traffic → Turn Traffic)
    → Passing (f t) → (w : Option WrapFault) → Passing (to_peer c t x peer p f w)
peer_sends c t x peer p f k (Some fault) = tt
peer_sends c t x peer p f k None = each_append _ (to_agent (agent_with c peer) _) (f t).sends (agent_packet _ _) k

goes_sends : (c : ConfigParts) (t : Traffic) (x : Connection) (p : List ℕ) (f : Traffic → Turn Traffic) → Passing (f t)
    → (o : Option Ip4) → Passing (goes c t x p f o)
goes_sends c t x p f k (Some peer) = peer_sends c t x peer p f k (wrap_fault 0 p)
goes_sends c t x p f k None = (tt, k)

use_sends : (c : ConfigParts) (t : Traffic) (x : Connection) (p : List ℕ) → Passing (use_conn c t x p)
unfolding use_conn
use_sends c t x p = goes_sends c (touched t x) x (leaving x p) (closes (has_rst p) x)
    (closes_sends (has_rst p) x (touched t x)) x.peer

inbound_sends : (c : ConfigParts) (t : Traffic) (x : Connection) (p : List ℕ) → Passing (use_inbound c t x p)
unfolding use_inbound
inbound_sends c t x p = goes_sends c (inbound_touched t x) x (leaving x p) quiet tt x.peer

open_sends : (t : Traffic) (x : Connection) → Passing (open_conn t x)
unfolding open_conn
open_sends t x = tt

-- where a packet may leave
abbrev May : Option (Turn Traffic) → Type 0
May None = Unit {0}
May (Some u) = Passing u

port_sends : (c : ConfigParts) (t : Traffic) (vip : Ip4) (p : List ℕ) (o : Option (ℕ × ℕ)) → May (with_port c t vip p o)
port_sends c t vip p None = tt
port_sends c t vip p (Some chosen) =
    let x : Connection = new_connection t.time (key_of p) vip chosen in
    each_append _ (open_conn t x).sends (use_conn c (open_conn t x).state x p).sends (open_sends t x)
    (use_sends c (open_conn t x).state x p)

new_sends : (c : ConfigParts) (t : Traffic) (p : List ℕ) (o : Option Ip4) → May (new_conn c t p o)
unfolding new_conn
new_sends c t p None = tt
new_sends c t p (Some vip) = by_if May (nat_le most (length t.conns)) {x = Some (drop_turn t drop.TableFull)} (λ _. tt)
    (λ _. port_sends c t vip p (first_unused (is_used t.conns (key_of p) vip) (ports_of t.ranges.held (key_of p).src)))

entry_sends : (c : ConfigParts) (t : Traffic) (p : List ℕ) (o : Option Connection) → May (by_inbound c t p o)
entry_sends c t p (Some x) = inbound_sends c t x p
entry_sends c t p None = new_sends c t p (snat_vip c.vips (key_of p).src)

conn_sends : (c : ConfigParts) (t : Traffic) (p : List ℕ) (o : Option Connection) → May (by_conn c t p o)
conn_sends c t p (Some x) = use_sends c t x p
conn_sends c t p None = entry_sends c t p (by_private (key_of p) t.inbound)

try_sends : (c : ConfigParts) (t : Traffic) (p : List ℕ) → May (try_packet c t p)
unfolding try_packet
try_sends c t p = conn_sends c t p (by_private (key_of p) t.conns)

-- ---- packets and asks

-- packets, or an Ask of this boot
abbrev IsAsk : ℕ → Said → Type 0
IsAsk own (Says (message.Ask boot machine seq)) = boot ≡ own
IsAsk own (Says _) = ⊥
IsAsk own (Carries packet) = Unit {0}

abbrev Asks : ℕ → List Send → Type 0
Asks own xs = Each (λ (x : Send). IsAsk own x.said) xs

packet_asks : (own : ℕ) (said : Said) → IsPacket said → IsAsk own said
packet_asks own (Says m) h = absurd h
packet_asks own (Carries packet) h = tt

packets_ask : (own : ℕ) (xs : List Send) → Packets xs → Asks own xs
packets_ask own xs h = each_on _ (λ (x : Send). IsAsk own x.said) (λ x k. packet_asks own x.said k) xs h

ask_sends : (boot hint now : ℕ) (h : Host) → Asks boot (ask_for boot hint now h).sends
unfolding ask_for
ask_sends boot hint now h = by_if (λ (t : Turn Host). Asks boot t.sends) (is_some h.ask || (h.seq == 2 ^ 64 - 1))
    {x = quiet h} (λ _. tt) (λ _. (refl, tt))

held_sends : (boot hint now : ℕ) (h : Host) (q : List (List ℕ) × Option ℕ) → Asks boot (held_by boot hint now h q).sends
held_sends boot hint now h (queue, None) = tt
held_sends boot hint now h (queue, Some count) = ask_sends boot hint now (record h { queue = queue })

stays_sends : (boot hint : ℕ) (s : Site) (p : List ℕ) (o : Option (Turn Traffic)) → May o
    → Asks boot (or_stays boot hint s p o).sends
unfolding stays
stays_sends boot hint s p None k = held_sends boot hint s.traffic.time s.host (enqueued s.host.queue p)
stays_sends boot hint s p (Some u) k = packets_ask boot u.sends k

machine_sends : (c : ConfigParts) (boot hint : ℕ) (s : Site) (p : List ℕ) → Asks boot (machine_packet c boot hint s p).sends
unfolding machine_packet
machine_sends c boot hint s p =
    by_if (λ (t : Turn Site). Asks boot t.sends) (same_ip (key_of p).src s.host.machine) {y = drop_turn s drop.BadSource}
    (λ _. stays_sends boot hint s p (try_packet c s.traffic p) (try_sends c s.traffic p)) (λ _. tt)

read_sends : (c : ConfigParts) (boot hint : ℕ) (s : Site) (r : Result (List ℕ) PacketFault)
    → Asks boot (read_as c boot hint s r).sends
read_sends c boot hint s (Err fault) = tt
read_sends c boot hint s (Ok p) = machine_sends c boot hint s p

-- a turn of an agent that says this and keeps its boot
record Keeps (a : Agent) (t : Turn Agent) : Type 0 where
  boot : t.state.boot ≡ a.boot
  sends : Asks a.boot t.sends

of_machine_sends : (c : ConfigParts) (a : Agent) (bytes : List ℕ) (o : Option Host) → Keeps a (of_machine c a bytes o)
of_machine_sends c a bytes None = record { boot = refl; sends = tt }
of_machine_sends c a bytes (Some h) =
    record { boot = refl; sends = read_sends c a.boot a.hint (site_at a h) (read_packet bytes) }

from_machine_sends : (c : ConfigParts) (a : Agent) (machine : Ip4) (bytes : List ℕ) → Keeps a (from_machine c a machine bytes)
unfolding from_machine
from_machine_sends c a machine bytes = of_machine_sends c a bytes (host_of a.hosts machine)

-- ---- wrapped packets

hand_sends : (t : Traffic) (x : Connection) (p : List ℕ) → Passing (hand t x p)
unfolding hand
hand_sends t x p = (tt, tt)

reply_sends : (t : Traffic) (machine : Ip4) (p : List ℕ) (x : Connection) → Passing (reply t machine p x)
unfolding reply
reply_sends t machine p x = by_if Passing (same_ip x.machine machine) {y = drop_turn t drop.WrongMachine}
    (λ _. each_append _ (hand (touched t x) x p).sends (closes (has_rst p) x (hand (touched t x) x p).state).sends
    (hand_sends (touched t x) x p) (closes_sends (has_rst p) x (hand (touched t x) x p).state))
    (λ _. tt)

enters_sends : (t : Traffic) (p : List ℕ) (x : Connection) → Passing (enters t p x)
unfolding enters
enters_sends t p x = by_if Passing (nat_le most (length t.inbound)) {x = drop_turn t drop.TableFull} (λ _. tt)
    (λ _. hand_sends _ x p)

meets_sends : (t : Traffic) (sender : Who) (p : List ℕ) (made : Connection) (o : Option Connection)
    → Passing (enters_or_meets t sender p made o)
meets_sends t sender p made None = enters_sends t p made
meets_sends t sender p made (Some x) =
    by_if Passing (same_ip x.machine made.machine)
    {y = enters (record t { inbound = closed (private_key x) t.inbound }) p made}
    (λ _. hand_sends _ x p) (λ _. enters_sends _ p made)

server_sends : (t : Traffic) (sender : Who) (p : List ℕ) (made : Connection) → Passing (to_server t sender p made)
unfolding to_server
server_sends t sender p made =
    by_if Passing (is_some (by_private (private_key made) t.conns)) {x = drop_turn t drop.KeyInUse} (λ _. tt)
    (λ _. meets_sends t sender p made (by_public (public_key made) t.inbound))

member_sends : (t : Traffic) (sender : Who) (machine : Ip4) (p : List ℕ) (o : Option Member)
    → Passing (to_member t sender machine p o)
member_sends t sender machine p None = tt
member_sends t sender machine p (Some m) = server_sends t sender p (new_entry t.time (key_of p) machine m.port)

by_reply_sends : (c : ConfigParts) (t : Traffic) (sender : Who) (machine : Ip4) (p : List ℕ) (o : Option Connection)
    → Passing (by_reply c t sender machine p o)
by_reply_sends c t sender machine p (Some x) = reply_sends t machine p x
by_reply_sends c t sender machine p None = member_sends t sender machine p (member_at c.vips (key_of p) machine)

inner_sends : (c : ConfigParts) (t : Traffic) (sender : Who) (machine : Ip4) (r : Result (List ℕ) PacketFault)
    → Passing (inner_as c t sender machine r)
unfolding delivered
inner_sends c t sender machine (Err fault) = tt
inner_sends c t sender machine (Ok p) = by_reply_sends c t sender machine p (by_public (reverse (key_of p)) t.conns)

drop_keeps : (a : Agent) (cause : DropCause) → Keeps a (drop_turn a cause)
drop_keeps a cause = record { boot = refl; sends = tt }

outer_sends : (c : ConfigParts) (a : Agent) (sender : Who) (u : Unwrapped) → Keeps a (outer_as c a sender u)
outer_sends c a sender u =
    by_if (Keeps a) (not (is_own a.hosts u.outer_dst)) {x = drop_turn a drop.NotMine} (λ _. drop_keeps a drop.NotMine)
    (λ _. by_if (Keeps a) (not (may_wrap c sender u.outer_src)) {x = drop_turn a drop.BadSender}
    (λ _. drop_keeps a drop.BadSender)
    (λ _. record {
      boot = refl;
      sends = packets_ask a.boot _ (inner_sends c a.traffic sender u.outer_dst (read_packet u.bytes));
    }))

unwrapped_sends : (c : ConfigParts) (a : Agent) (sender : Who) (r : Result Unwrapped UnwrapFault)
    → Keeps a (unwrapped_as c a sender r)
unwrapped_sends c a sender (Err fault) = drop_keeps a _
unwrapped_sends c a sender (Ok u) = outer_sends c a sender u

wrapped_sends : (c : ConfigParts) (a : Agent) (sender : Who) (bytes : List ℕ) → Keeps a (on_wrapped c a sender bytes)
unfolding on_wrapped
wrapped_sends c a sender bytes = unwrapped_sends c a sender (unwrapped bytes)

takes_sends : (c : ConfigParts) (a : Agent) (sender : Who) (bytes : List ℕ) → Keeps a (agent_takes c a sender bytes)
unfolding agent_takes
takes_sends c a (who.Replica i) bytes = drop_keeps a _
takes_sends c a (who.Mux i) bytes = wrapped_sends c a (who.Mux i) bytes
takes_sends c a (who.Agent i) bytes = wrapped_sends c a (who.Agent i) bytes
takes_sends c a (who.Machine machine) bytes = from_machine_sends c a machine bytes
takes_sends c a who.Outside bytes = drop_keeps a _

-- ---- answers of replicas

waits_sends : (s : Site) (p : List ℕ) (o : Option (Turn Traffic)) → May o → Passing (or_waits s p o)
waits_sends s p None k = tt
waits_sends s p (Some u) k = k

again_sends : (c : ConfigParts) (s : Site) (r : Result (List ℕ) PacketFault) → Passing (again c s r)
again_sends c s (Err fault) = tt
again_sends c s (Ok p) = waits_sends s p (try_packet c s.traffic p) (try_sends c s.traffic p)

retry_sends : (c : ConfigParts) (bytes : List ℕ) (s : Site) → Passing (retry c bytes s)
unfolding retry
retry_sends c bytes s = again_sends c s (read_packet bytes)

each_sends : (c : ConfigParts) (queue : List (List ℕ)) (s : Site) → Passing (each (retry c) queue s)
unfolding each
each_sends c [] s = tt
each_sends c (bytes ∷ queue) s =
    each_append _ (retry c bytes s).sends (each (retry c) queue (retry c bytes s).state).sends (retry_sends c bytes s)
    (each_sends c queue (retry c bytes s).state)

left_sends : (boot hint : ℕ) (s : Site) → Asks boot (ask_left boot hint s).sends
left_sends boot hint s = by_if (λ (t : Turn Site). Asks boot t.sends) (nat_le 1 (length s.host.queue))
    {x = of_host s (ask_for boot hint s.traffic.time s.host)} {y = quiet s}
    (λ _. ask_sends boot hint s.traffic.time s.host) (λ _. tt)

take_sends : (c : ConfigParts) (boot hint : ℕ) (s : Site) (seq n : ℕ) → Asks boot (take_grant c boot hint s seq n).sends
unfolding take_grant
take_sends c boot hint s seq n =
    let tried : Turn Site = each (retry c) s.host.queue (begun s seq) in
    each_append _ tried.sends (ask_left boot hint tried.state).sends
    (packets_ask boot tried.sends (each_sends c s.host.queue (begun s seq))) (left_sends boot hint tried.state)

took_sends : (c : ConfigParts) (a : Agent) (from : ℕ) (h : Host) (seq n : ℕ) (g : Ranges × Granting)
    → Keeps a (took c a from (site_at a h) seq n g)
took_sends c a from h seq n (ranges, granting.Old kept) = drop_keeps a _
took_sends c a from h seq n (ranges, granting.Held) = record {
  boot = refl;
  sends = take_sends c a.boot from (record (site_at a h) { traffic = with_ranges a.traffic ranges }) seq n;
}

grant_sends : (c : ConfigParts) (a : Agent) (from seq n : ℕ) (r : Range) (o : Option Host)
    → Keeps a (grant_to c a from seq n r o)
grant_sends c a from seq n r None = drop_keeps a _
grant_sends c a from seq n r (Some h) =
    by_if (Keeps a) (has_snat c.vips r.vip h.machine && is_leasable (lease_rules_of c) r) {y = drop_turn a drop.NotMine}
    (λ _. took_sends c a from h seq n (granted a.traffic.ranges n r h.machine a.traffic.time)) (λ _. drop_keeps a _)

own_sends : (a : Agent) (boot : ℕ) (t : Turn Agent) → Keeps a t → Keeps a (of_own_boot a boot t)
own_sends a boot t k = by_if (Keeps a) (boot == a.boot) {y = drop_turn a (drop.WrongBoot a.boot)} (λ _. k) (λ _. drop_keeps a _)

denied_sends : (a : Agent) (from seq : ℕ) (o : Option Host) → Keeps a (denied a from seq o)
denied_sends a from seq None = drop_keeps a _
denied_sends a from seq (Some h) = by_if (Keeps a) (is_ask seq h.ask) {x = refused a from h} {y = drop_turn a drop.Late}
    (λ _. record { boot = refl; sends = tt }) (λ _. drop_keeps a _)

replica_sends : (c : ConfigParts) (a : Agent) (from : ℕ) (m : Message) → Keeps a (from_replica c a from m)
unfolding on_grant on_denied on_returned on_known
replica_sends c a from (message.Grant boot machine seq n vip start) =
    own_sends a boot _ (grant_sends c a from seq n (range_at vip start) (host_of a.hosts machine))
replica_sends c a from (message.Denied boot machine seq reason number) =
    own_sends a boot _ (denied_sends a from seq (host_of a.hosts machine))
replica_sends c a from (message.Returned boot n) = own_sends a boot _
    (by_if (Keeps a) (is_returning n a.traffic.ranges) {x = quiet (with_returned a from n)} {y = drop_turn a drop.Late}
    (λ _. record { boot = refl; sends = tt }) (λ _. drop_keeps a _))
replica_sends c a from (message.AgentKnown boot) = own_sends a boot _ (record { boot = refl; sends = tt })
replica_sends c a from _ = drop_keeps a _

-- ---- redirects

redirect_sends : (a : Agent) (o : Redirection) (x : Option Connection) → Keeps a (redirect_to a o x)
redirect_sends a o None = drop_keeps a _
redirect_sends a o (Some x) = record { boot = refl; sends = tt }

accepted_sends : (a : Agent) (o : Redirection) (x : Option Connection) (k : Accept) → Keeps a (if_accepted a o x k)
accepted_sends a o x accept.NotFromMux = drop_keeps a _
accepted_sends a o x accept.NoConnection = drop_keeps a _
accepted_sends a o x (accept.StaleLease kept) = drop_keeps a _
accepted_sends a o x accept.Yes = redirect_sends a o x

on_redirect_sends : (c : ConfigParts) (a : Agent) (from : ℕ) (o : Redirection) → Keeps a (on_redirect c a from o)
unfolding on_redirect
on_redirect_sends c a from o = by_if (Keeps a) (is_some (agent_with c o.opener) && is_some (agent_with c o.server))
    {y = drop_turn a drop.NotMine}
    (λ _. accepted_sends a o (redirected o a.traffic)
    (accept_redirect (who.Mux from) o.side o.n (number_of (redirected o a.traffic))))
    (λ _. drop_keeps a _)

mux_sends : (c : ConfigParts) (a : Agent) (from : ℕ) (m : Message) → Keeps a (from_mux c a from m)
mux_sends c a from (message.Redirect side n src sport dst dport opener server) =
    let o : Redirection = record {
      side = side;
      n = n;
      src = src;
      sport = sport;
      dst = dst;
      dport = dport;
      opener = opener;
      server = server;
    } in
    by_if (Keeps a) has_fastpath {x = on_redirect c a from o} {y = drop_turn a drop.WrongRole}
    (λ _. on_redirect_sends c a from o) (λ _. drop_keeps a _)
mux_sends c a from _ = drop_keeps a _

hears_sends : (c : ConfigParts) (a : Agent) (from : NodeId) (m : Message) → Keeps a (agent_hears c a from m)
unfolding agent_hears
hears_sends c a (node.Replica i) m = replica_sends c a i m
hears_sends c a (node.Mux i) m = mux_sends c a i m
hears_sends c a (node.Agent i) m = drop_keeps a _

heard_sends : (c : ConfigParts) (a : Agent) (h : Heard)
    → Keeps a (by_heard (drop_turn a) (agent_hears c a) (agent_takes c a) h)
heard_sends c a (Refused cause) = drop_keeps a cause
heard_sends c a (Told from m) = hears_sends c a from m
heard_sends c a (Brought sender packet) = takes_sends c a sender packet

ask_of : (own : ℕ) (returning : List ℕ) (said : Said) → IsAsk own said → IsOfAgent own returning said
ask_of own returning (Says (message.Ask boot machine seq)) h = h
ask_of own returning (Says (message.Prepare c)) h = absurd h
ask_of own returning (Says (message.Promise c l vote value)) h = absurd h
ask_of own returning (Says (message.Accept c t v)) h = absurd h
ask_of own returning (Says (message.Accepted c t)) h = absurd h
ask_of own returning (Says (message.Refuse c p)) h = absurd h
ask_of own returning (Says (message.Chosen t c v)) h = absurd h
ask_of own returning (Says (message.Fetch t)) h = absurd h
ask_of own returning (Says (message.Grant boot machine seq n vip start)) h = absurd h
ask_of own returning (Says (message.Denied boot machine seq reason number)) h = absurd h
ask_of own returning (Says (message.Return boot n)) h = absurd h
ask_of own returning (Says (message.Returned boot n)) h = absurd h
ask_of own returning (Says (message.AgentUp boot)) h = absurd h
ask_of own returning (Says (message.AgentKnown boot)) h = absurd h
ask_of own returning (Says (message.MuxHello boot epoch)) h = absurd h
ask_of own returning (Says (message.Program epoch boot n vip start machine)) h = absurd h
ask_of own returning (Says (message.Programmed epoch boot n)) h = absurd h
ask_of own returning (Says (message.Unprogram epoch boot n vip start)) h = absurd h
ask_of own returning (Says (message.Unprogrammed epoch boot n)) h = absurd h
ask_of own returning (Says (message.MuxRefuse epoch boot kept)) h = absurd h
ask_of own returning (Says (message.Lead ballot length)) h = absurd h
ask_of own returning (Says (message.RedirectAsk src sport dst dport machine)) h = absurd h
ask_of own returning (Says (message.Redirect side n src sport dst dport opener server)) h = absurd h
ask_of own returning (Carries packet) h = tt

said_by : (a : Agent) (t : Turn Agent) → Keeps a t → AgentSays t
said_by a t k = each_on _ (λ (x : Send). IsOfAgent t.state.boot t.state.traffic.ranges.returning x.said)
    (λ x h. subst (λ (own : ℕ). IsOfAgent own t.state.traffic.ranges.returning x.said) (sym k.boot)
    (ask_of a.boot t.state.traffic.ranges.returning x.said h))
    t.sends k.sends

-- ---- the clock

abbrev AllOf : Agent → List Send → Type 0
AllOf a xs = Each (λ (x : Send). IsOfAgent a.boot a.traffic.ranges.returning x.said) xs

up_of : (a : Agent) → AllOf a (up_again a)
unfolding up_again
up_of a = by_if (AllOf a) a.known (λ _. tt) (λ _. (refl, (refl, (refl, (refl, (refl, tt))))))

ask_again_of : (a : Agent) (now retry : ℕ) (machine : Ip4) (o : Option Asked)
    → AllOf a (ask_again a.boot now retry machine o)
ask_again_of a now retry machine None = tt
ask_again_of a now retry machine (Some x) =
    by_if (AllOf a) (is_due now retry x) (λ _. (refl, (refl, (refl, (refl, (refl, tt)))))) (λ _. tt)

each_flat : {X : Type 0} (P : Send → Type 0) (f : X → List Send) (xs : List X) → ((x : X) → In x xs → Each P (f x))
    → Each P (flat_map f xs)
each_flat P f [] h = tt
each_flat P f (x ∷ xs) h = each_append P (f x) (flat_map f xs) (h x (inl refl)) (each_flat P f xs (λ y i. h y (inr i)))

asks_of : (retry : ℕ) (a : Agent) → AllOf a (asks_again retry a)
unfolding asks_again
asks_of retry a = each_flat _ (λ (h : Host). ask_again a.boot a.traffic.time retry h.machine h.ask) a.hosts
    (λ h _. ask_again_of a a.traffic.time retry h.machine h.ask)

in_take : (k : ℕ) (xs : List ℕ) (n : ℕ) → In n (take k xs) → In n xs
in_take zero xs n h = absurd h
in_take (suc k) [] n h = absurd h
in_take (suc k) (x ∷ xs) n h = elim h [ inl e ↦ inl e | inr i ↦ inr (in_take k xs n i) ]

returns_of : (a : Agent) → AllOf a (returns_again a)
unfolding returns_again
returns_of a = each_flat _ (λ (n : ℕ). tell_all (message.Return a.boot n)) (take 64 a.traffic.ranges.returning)
    (λ n i. (let there = in_take 64 a.traffic.ranges.returning n i in
    ((refl, there), ((refl, there), ((refl, there), ((refl, there), ((refl, there), tt)))))))

again_of : (retry : ℕ) (a : Agent) → AllOf a (says_again retry a).sends
unfolding says_again
again_of retry a = each_append _ (up_again a ++ asks_again retry a) (returns_again a)
    (each_append _ (up_again a) (asks_again retry a) (up_of a) (asks_of retry a)) (returns_of a)

-- what idle connections and ranges do says nothing
silent_each : {X : Type 0} (f : X → Traffic → Turn Traffic) → ((x : X) (t : Traffic) → (f x t).sends ≡ [])
    → (xs : List X) (t : Traffic) → (each f xs t).sends ≡ []
unfolding each
silent_each f h [] t = refl
silent_each f h (x ∷ xs) t = rw (h x t) (silent_each f h xs (f x t).state)

close_silent : (x : Connection) (t : Traffic) → (close_conn x t).sends ≡ []
unfolding close_conn
close_silent x t = refl

give_silent : (h : Held) (t : Traffic) → (give_back h t).sends ≡ []
unfolding give_back
give_silent h t = refl

idle_silent : (c : ConfigParts) (hosts : List Host) (t : Traffic) → (idle_leave c hosts t).sends ≡ []
unfolding idle_leave close_idle forget_inbound give_back_spare
idle_silent c hosts t =
    let closed : Turn Traffic = close_idle c.timers.flow_idle t in
    let first : closed.sends ≡ [] =
    silent_each close_conn close_silent (filter (is_idle t.time c.timers.flow_idle) t.conns) t in
    let left : Turn Traffic = also (close_idle c.timers.flow_idle t) (forget_inbound c.timers.flow_idle) in
    let last = silent_each give_back give_silent
    (filter (is_spare hosts left.state.time c.timers.range_idle) left.state.ranges.held) left.state in
    rw (first, last) refl

tick_of : (c : ConfigParts) (a : Agent) (now : ℕ) → AgentSays (on_tick c a now)
unfolding on_tick says_again idle_leave
tick_of c a now =
    let b : Agent = with_traffic a (idle_leave c a.hosts (at_now a now)).state in
    let h : AllOf b (says_again c.timers.ask_retry b).sends = again_of c.timers.ask_retry b in
    rw (idle_silent c a.hosts (at_now a now)) h

-- ---- a turn

pub agent_says : (c : ConfigParts) (a : Agent) (x : Input) → AgentSays (agent_step c a x)
unfolding agent_step
agent_says c a (Arrived from bytes) =
    said_by a (by_heard (drop_turn a) (agent_hears c a) (agent_takes c a) (heard c from bytes))
    (heard_sends c a (heard c from bytes))
agent_says c a (Ticked now) = tick_of c a now
