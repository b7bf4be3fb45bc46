-- What muxes and agents do is no act of the managers.
use Rattle.std.proofs.Common.{◌≡◌, refl, ap, ◌∙◌, ℕ, Bool, not, false, List, [], ◌∷◌, filter, Option, Some, None, is_some, nat_le, length, arith}
use Rattle.std.specs.Prelude.{Result, Ok, Err, ◌-◌, ◌^◌, ◌==◌, ◌&&◌, ◌||◌, cond}
use Rattle.wire_core.specs.Members.{Each}
use Rattle.wire_core.specs.Same.{same_ip}
use Rattle.wire_core.specs.Flows.{reverse}
use Rattle.wire_core.specs.Ranges.{is_leasable, range_at}
use Rattle.wire_core.specs.declared.act.Act.{Act}
use Rattle.wire_core.specs.declared.address.Ip4.{Ip4}
use Rattle.wire_core.specs.declared.cause.DropCause.TheVariants as drop
use Rattle.wire_core.specs.declared.node.NodeId.{NodeId}
use Rattle.wire_core.specs.declared.node.NodeId.TheVariants as node
use Rattle.wire_core.specs.declared.range.Range.{Range}
use Rattle.config_text.specs.declared.vips.Member.{Member}
use Rattle.control_msg.specs.declared.message.Message.{Message}
use Rattle.control_msg.specs.declared.message.Message.TheVariants as message
use Rattle.ipip.specs.Wrapping.{Unwrapped, wrap_fault, unwrapped}
use Rattle.ipip.specs.declared.unwrapping.UnwrapFault.{UnwrapFault}
use Rattle.ipip.specs.declared.wrapping.WrapFault.{WrapFault}
use Rattle.packet_spec.specs.declared.fault.PacketFault.{PacketFault}
use Rattle.packet_spec.specs.Packets.{key_of, has_rst, read_packet}
use Rattle.vip_config.specs.declared.parts.ConfigParts.{ConfigParts}
use Rattle.vip_config.specs.declared.who.Who.{Who}
use Rattle.vip_config.specs.declared.who.Who.TheVariants as who
use Rattle.vip_config.specs.Leases.{lease_rules_of}
use Rattle.vip_config.specs.Serving.{has_snat, member_at, snat_vip}
use Rattle.node_spec.specs.Datagrams.{Heard, Refused, Told, Brought, heard, by_heard}
use Rattle.node_spec.specs.Fastpath.{has_fastpath}
use Rattle.node_spec.specs.Turns.{Input, Arrived, Ticked, Turn, drop_turn, each, quiet}
use Rattle.mux_spec.specs.declared.row.Order.{Order}
use Rattle.mux_spec.specs.Commands.{on_program, on_unprogram, programs, refused as mux_refused, unprograms}
use Rattle.mux_spec.specs.Gates.{admit}
use Rattle.mux_spec.specs.Mux.{Mux, on_tick as mux_tick}
use Rattle.mux_spec.specs.MuxTable.{from_mux as mux_from_mux, from_replica as mux_from_replica, mux_hears, mux_step}
use Rattle.mux_spec.specs.Packets.{Passing, Sends, Drops, on_packet, passed, passing}
use Rattle.mux_spec.specs.Redirects.{on_redirect_ask}
use Rattle.agent_spec.specs.declared.connection.Connection.{Connection}
use Rattle.agent_spec.specs.declared.held.Held.{Held}
use Rattle.agent_spec.specs.declared.held.Granting.{Granting}
use Rattle.agent_spec.specs.declared.held.Granting.TheVariants as granting
use Rattle.agent_spec.specs.declared.order.Redirection.{Redirection}
use Rattle.agent_spec.specs.Agent.{Agent, Host, Site, Traffic, host_of, is_own, of_host, site_at, with_ranges}
use Rattle.agent_spec.specs.AgentTable.{agent_hears, agent_step, agent_takes, from_mux, from_replica}
use Rattle.agent_spec.specs.Answers.{again, ask_left, begun, denied, grant_to, is_ask, of_own_boot, on_denied, on_grant, on_known, on_returned, or_waits, refused, retry, take_grant, took, with_returned}
use Rattle.agent_spec.specs.Clock.{at_now, close_idle, forget_inbound, give_back, give_back_spare, idle_leave, is_spare, on_tick, says_again}
use Rattle.agent_spec.specs.Connections.{by_private, by_public, closed, is_idle, most, private_key, public_key}
use Rattle.agent_spec.specs.Packets.{ask_for, by_conn, by_inbound, enqueued, from_machine, held_by, is_used, machine_packet, new_conn, new_connection, of_machine, or_stays, read_as, stays, try_packet, with_port}
use Rattle.agent_spec.specs.Ranges.{Ranges, first_unused, granted, is_returning, ports_of}
use Rattle.agent_spec.specs.Redirects.{on_redirect}
use Rattle.agent_spec.specs.Traffic.{closes, close_conn, goes, hand, inbound_touched, leaving, open_conn, to_peer, touched, use_conn, use_inbound}
use Rattle.agent_spec.specs.Wrapped.{by_reply, delivered, enters, enters_or_meets, inner_as, may_wrap, new_entry, on_wrapped, outer_as, reply, to_member, to_server, unwrapped_as}
use Rattle.agent_spec.proofs.Answering.{redirects_leave}
use Rattle.manager_spec.proofs.Choices.{by_if}
use Rattle.lease_spec.proofs.MemberLaws.{each_append}
use Rattle.world_laws.specs.Acts.{is_managers, managers_acts}

-- not of the managers
abbrev IsOther : Act → Type 0
IsOther a = is_managers a ≡ false

abbrev Others : List Act → Type 0
Others acts = Each IsOther acts

none_of : (acts : List Act) → Others acts → managers_acts acts ≡ []
unfolding managers_acts
none_of [] h = refl
none_of (a ∷ acts) h =
    ap (λ (b : Bool). cond b (a ∷ filter is_managers acts) (filter is_managers acts)) h.0 ∙ none_of acts h.1

-- ---- muxes

program_none : (c : ConfigParts) (m : Mux) (o : Order) (machine : Ip4) → (on_program c m o machine).acts ≡ []
unfolding on_program programs mux_refused admit
program_none c m o machine = grind arith

unprogram_none : (c : ConfigParts) (m : Mux) (o : Order) → (on_unprogram c m o).acts ≡ []
unfolding on_unprogram unprograms mux_refused admit
unprogram_none c m o = grind arith

command_none : (c : ConfigParts) (m : Mux) (from : ℕ) (x : Message) → (mux_from_replica c m from x).acts ≡ []
command_none c m from x = grind (arith, program_none, unprogram_none)

asked_none : (c : ConfigParts) (m : Mux) (x : Message) → (mux_from_mux c m x).acts ≡ []
unfolding on_redirect_ask
asked_none c m x = grind arith

passed_none : (c : ConfigParts) (m : Mux) (x : Passing) → (passed c m x).acts ≡ []
passed_none c m (flows, Sends machine bytes ask) = refl
passed_none c m (flows, Drops cause) = refl

packet_none : (c : ConfigParts) (m : Mux) (sender : Who) (bytes : List ℕ) → (on_packet c m sender bytes).acts ≡ []
unfolding on_packet
packet_none c m sender bytes = passed_none c m (passing c m sender bytes)

mux_hears_none : (c : ConfigParts) (m : Mux) (from : NodeId) (x : Message) → (mux_hears c m from x).acts ≡ []
unfolding mux_hears
mux_hears_none c m (node.Replica i) x = command_none c m i x
mux_hears_none c m (node.Mux i) x = asked_none c m x
mux_hears_none c m (node.Agent i) x = refl

mux_none : (c : ConfigParts) (m : Mux) (h : Heard)
    → (by_heard (drop_turn m) (mux_hears c m) (on_packet c m) h).acts ≡ []
mux_none c m (Refused cause) = refl
mux_none c m (Told from x) = mux_hears_none c m from x
mux_none c m (Brought sender packet) = packet_none c m sender packet

mux_does_none : (c : ConfigParts) (m : Mux) (x : Input) → (mux_step c m x).acts ≡ []
unfolding mux_step mux_tick
mux_does_none c m (Arrived from bytes) = mux_none c m (heard c from bytes)
mux_does_none c m (Ticked now) = refl

pub mux_acts : (c : ConfigParts) (m : Mux) (x : Input) → managers_acts (mux_step c m x).acts ≡ []
unfolding managers_acts
mux_acts c m x = ap managers_acts (mux_does_none c m x)

-- ---- an agent's packets

-- a turn that does nothing of the managers
abbrev Own : {S : Type 0} → Turn S → Type 0
Own t = Others t.acts

close_own : (x : Connection) (t : Traffic) → Own (close_conn x t)
unfolding close_conn
close_own x t = (refl, tt)

closes_own : (rst : Bool) (x : Connection) (t : Traffic) → Own (closes rst x t)
closes_own rst x t = by_if Own rst {x = close_conn x t} {y = quiet t} (λ _. close_own x t) (λ _. tt)

peer_own : (c : ConfigParts) (t : Traffic) (x : Connection) (peer : Ip4) (p : List ℕ) (f : Traffic → Turn Traffic)
    → Own (f t) → (w : Option WrapFault) → Own (to_peer c t x peer p f w)
peer_own c t x peer p f k (Some fault) = tt
peer_own c t x peer p f k None = k

goes_own : (c : ConfigParts) (t : Traffic) (x : Connection) (p : List ℕ) (f : Traffic → Turn Traffic) → Own (f t)
    → (o : Option Ip4) → Own (goes c t x p f o)
goes_own c t x p f k (Some peer) = peer_own c t x peer p f k (wrap_fault 0 p)
goes_own c t x p f k None = k

use_own : (c : ConfigParts) (t : Traffic) (x : Connection) (p : List ℕ) → Own (use_conn c t x p)
unfolding use_conn
use_own c t x p = goes_own c (touched t x) x (leaving x p) (closes (has_rst p) x)
    (closes_own (has_rst p) x (touched t x)) x.peer

inbound_own : (c : ConfigParts) (t : Traffic) (x : Connection) (p : List ℕ) → Own (use_inbound c t x p)
unfolding use_inbound
inbound_own c t x p = goes_own c (inbound_touched t x) x (leaving x p) quiet tt x.peer

open_own : (t : Traffic) (x : Connection) → Own (open_conn t x)
unfolding open_conn
open_own t x = (refl, tt)

-- where a packet may leave
abbrev May : Option (Turn Traffic) → Type 0
May None = Unit {0}
May (Some u) = Own u

port_own : (c : ConfigParts) (t : Traffic) (vip : Ip4) (p : List ℕ) (o : Option (ℕ × ℕ)) → May (with_port c t vip p o)
port_own c t vip p None = tt
port_own c t vip p (Some chosen) =
    let x : Connection = new_connection t.time (key_of p) vip chosen in
    each_append IsOther (open_conn t x).acts (use_conn c (open_conn t x).state x p).acts (open_own t x)
    (use_own c (open_conn t x).state x p)

new_own : (c : ConfigParts) (t : Traffic) (p : List ℕ) (o : Option Ip4) → May (new_conn c t p o)
unfolding new_conn
new_own c t p None = tt
new_own c t p (Some vip) = by_if May (nat_le most (length t.conns)) {x = Some (drop_turn t drop.TableFull)} (λ _. tt)
    (λ _. port_own c t vip p (first_unused (is_used t.conns (key_of p) vip) (ports_of t.ranges.held (key_of p).src)))

entry_own : (c : ConfigParts) (t : Traffic) (p : List ℕ) (o : Option Connection) → May (by_inbound c t p o)
entry_own c t p (Some x) = inbound_own c t x p
entry_own c t p None = new_own c t p (snat_vip c.vips (key_of p).src)

conn_own : (c : ConfigParts) (t : Traffic) (p : List ℕ) (o : Option Connection) → May (by_conn c t p o)
conn_own c t p (Some x) = use_own c t x p
conn_own c t p None = entry_own c t p (by_private (key_of p) t.inbound)

try_own : (c : ConfigParts) (t : Traffic) (p : List ℕ) → May (try_packet c t p)
unfolding try_packet
try_own c t p = conn_own c t p (by_private (key_of p) t.conns)

ask_own : (boot hint now : ℕ) (h : Host) → Own (ask_for boot hint now h)
unfolding ask_for
ask_own boot hint now h =
    by_if Own (is_some h.ask || (h.seq == 2 ^ 64 - 1)) {x = quiet h} (λ _. tt) (λ _. tt)

held_own : (boot hint now : ℕ) (h : Host) (q : List (List ℕ) × Option ℕ) → Own (held_by boot hint now h q)
held_own boot hint now h (queue, None) = tt
held_own boot hint now h (queue, Some count) = ask_own boot hint now (record h { queue = queue })

stays_own : (boot hint : ℕ) (s : Site) (p : List ℕ) (o : Option (Turn Traffic)) → May o → Own (or_stays boot hint s p o)
unfolding stays
stays_own boot hint s p None k = held_own boot hint s.traffic.time s.host (enqueued s.host.queue p)
stays_own boot hint s p (Some u) k = k

machine_own : (c : ConfigParts) (boot hint : ℕ) (s : Site) (p : List ℕ) → Own (machine_packet c boot hint s p)
unfolding machine_packet
machine_own c boot hint s p =
    by_if Own (same_ip (key_of p).src s.host.machine) {y = drop_turn s drop.BadSource}
    (λ _. stays_own boot hint s p (try_packet c s.traffic p) (try_own c s.traffic p)) (λ _. tt)

read_own : (c : ConfigParts) (boot hint : ℕ) (s : Site) (r : Result (List ℕ) PacketFault)
    → Own (read_as c boot hint s r)
read_own c boot hint s (Err fault) = tt
read_own c boot hint s (Ok p) = machine_own c boot hint s p

of_machine_own : (c : ConfigParts) (a : Agent) (bytes : List ℕ) (o : Option Host) → Own (of_machine c a bytes o)
of_machine_own c a bytes None = tt
of_machine_own c a bytes (Some h) = read_own c a.boot a.hint (site_at a h) (read_packet bytes)

from_machine_own : (c : ConfigParts) (a : Agent) (machine : Ip4) (bytes : List ℕ) → Own (from_machine c a machine bytes)
unfolding from_machine
from_machine_own c a machine bytes = of_machine_own c a bytes (host_of a.hosts machine)

-- ---- wrapped packets

hand_own : (t : Traffic) (x : Connection) (p : List ℕ) → Own (hand t x p)
unfolding hand
hand_own t x p = (refl, tt)

reply_own : (t : Traffic) (machine : Ip4) (p : List ℕ) (x : Connection) → Own (reply t machine p x)
unfolding reply
reply_own t machine p x = by_if Own (same_ip x.machine machine) {y = drop_turn t drop.WrongMachine}
    (λ _. each_append IsOther (hand (touched t x) x p).acts (closes (has_rst p) x (hand (touched t x) x p).state).acts
    (hand_own (touched t x) x p) (closes_own (has_rst p) x (hand (touched t x) x p).state))
    (λ _. tt)

enters_own : (t : Traffic) (p : List ℕ) (x : Connection) → Own (enters t p x)
unfolding enters
enters_own t p x = by_if Own (nat_le most (length t.inbound)) {x = drop_turn t drop.TableFull} (λ _. tt)
    (λ _. hand_own _ x p)

meets_own : (t : Traffic) (sender : Who) (p : List ℕ) (made : Connection) (o : Option Connection)
    → Own (enters_or_meets t sender p made o)
meets_own t sender p made None = enters_own t p made
meets_own t sender p made (Some x) =
    by_if Own (same_ip x.machine made.machine)
    {y = enters (record t { inbound = closed (private_key x) t.inbound }) p made}
    (λ _. hand_own _ x p) (λ _. enters_own _ p made)

server_own : (t : Traffic) (sender : Who) (p : List ℕ) (made : Connection) → Own (to_server t sender p made)
unfolding to_server
server_own t sender p made =
    by_if Own (is_some (by_private (private_key made) t.conns)) {x = drop_turn t drop.KeyInUse} (λ _. tt)
    (λ _. meets_own t sender p made (by_public (public_key made) t.inbound))

member_own : (t : Traffic) (sender : Who) (machine : Ip4) (p : List ℕ) (o : Option Member)
    → Own (to_member t sender machine p o)
member_own t sender machine p None = tt
member_own t sender machine p (Some m) = server_own t sender p (new_entry t.time (key_of p) machine m.port)

by_reply_own : (c : ConfigParts) (t : Traffic) (sender : Who) (machine : Ip4) (p : List ℕ) (o : Option Connection)
    → Own (by_reply c t sender machine p o)
by_reply_own c t sender machine p (Some x) = reply_own t machine p x
by_reply_own c t sender machine p None = member_own t sender machine p (member_at c.vips (key_of p) machine)

inner_own : (c : ConfigParts) (t : Traffic) (sender : Who) (machine : Ip4) (r : Result (List ℕ) PacketFault)
    → Own (inner_as c t sender machine r)
unfolding delivered
inner_own c t sender machine (Err fault) = tt
inner_own c t sender machine (Ok p) = by_reply_own c t sender machine p (by_public (reverse (key_of p)) t.conns)

outer_own : (c : ConfigParts) (a : Agent) (sender : Who) (u : Unwrapped) → Own (outer_as c a sender u)
outer_own c a sender u =
    by_if Own (not (is_own a.hosts u.outer_dst)) {x = drop_turn a drop.NotMine} (λ _. tt)
    (λ _. by_if Own (not (may_wrap c sender u.outer_src)) {x = drop_turn a drop.BadSender} (λ _. tt)
    (λ _. inner_own c a.traffic sender u.outer_dst (read_packet u.bytes)))

unwrapped_own : (c : ConfigParts) (a : Agent) (sender : Who) (r : Result Unwrapped UnwrapFault)
    → Own (unwrapped_as c a sender r)
unwrapped_own c a sender (Err fault) = tt
unwrapped_own c a sender (Ok u) = outer_own c a sender u

wrapped_own : (c : ConfigParts) (a : Agent) (sender : Who) (bytes : List ℕ) → Own (on_wrapped c a sender bytes)
unfolding on_wrapped
wrapped_own c a sender bytes = unwrapped_own c a sender (unwrapped bytes)

takes_own : (c : ConfigParts) (a : Agent) (sender : Who) (bytes : List ℕ) → Own (agent_takes c a sender bytes)
unfolding agent_takes
takes_own c a (who.Replica i) bytes = tt
takes_own c a (who.Mux i) bytes = wrapped_own c a (who.Mux i) bytes
takes_own c a (who.Agent i) bytes = wrapped_own c a (who.Agent i) bytes
takes_own c a (who.Machine machine) bytes = from_machine_own c a machine bytes
takes_own c a who.Outside bytes = tt

-- ---- messages to an agent

waits_own : (s : Site) (p : List ℕ) (o : Option (Turn Traffic)) → May o → Own (or_waits s p o)
waits_own s p None k = tt
waits_own s p (Some u) k = k

again_own : (c : ConfigParts) (s : Site) (r : Result (List ℕ) PacketFault) → Own (again c s r)
again_own c s (Err fault) = tt
again_own c s (Ok p) = waits_own s p (try_packet c s.traffic p) (try_own c s.traffic p)

retry_own : (c : ConfigParts) (bytes : List ℕ) (s : Site) → Own (retry c bytes s)
unfolding retry
retry_own c bytes s = again_own c s (read_packet bytes)

-- one after the other
each_own : {S X : Type 0} (f : X → S → Turn S) → ((x : X) (s : S) → Own (f x s)) → (xs : List X) (s : S)
    → Own (each f xs s)
unfolding each
each_own f h [] s = tt
each_own f h (x ∷ xs) s =
    each_append IsOther (f x s).acts (each f xs (f x s).state).acts (h x s) (each_own f h xs (f x s).state)

left_own : (boot hint : ℕ) (s : Site) → Own (ask_left boot hint s)
left_own boot hint s = by_if Own (nat_le 1 (length s.host.queue))
    {x = of_host s (ask_for boot hint s.traffic.time s.host)} {y = quiet s}
    (λ _. ask_own boot hint s.traffic.time s.host) (λ _. tt)

take_own : (c : ConfigParts) (boot hint : ℕ) (s : Site) (seq n : ℕ) → Own (take_grant c boot hint s seq n)
unfolding take_grant
take_own c boot hint s seq n =
    let tried : Turn Site = each (retry c) s.host.queue (begun s seq) in (
      refl,
      each_append IsOther tried.acts (ask_left boot hint tried.state).acts
          (each_own (retry c) (retry_own c) s.host.queue (begun s seq)) (left_own boot hint tried.state),
    )

took_own : (c : ConfigParts) (a : Agent) (from : ℕ) (h : Host) (seq n : ℕ) (g : Ranges × Granting)
    → Own (took c a from (site_at a h) seq n g)
took_own c a from h seq n (ranges, granting.Old kept) = tt
took_own c a from h seq n (ranges, granting.Held) =
    take_own c a.boot from (record (site_at a h) { traffic = with_ranges a.traffic ranges }) seq n

grant_own : (c : ConfigParts) (a : Agent) (from seq n : ℕ) (r : Range) (o : Option Host)
    → Own (grant_to c a from seq n r o)
grant_own c a from seq n r None = tt
grant_own c a from seq n r (Some h) =
    by_if Own (has_snat c.vips r.vip h.machine && is_leasable (lease_rules_of c) r) {y = drop_turn a drop.NotMine}
    (λ _. took_own c a from h seq n (granted a.traffic.ranges n r h.machine a.traffic.time)) (λ _. tt)

boot_own : (a : Agent) (boot : ℕ) (t : Turn Agent) → Own t → Own (of_own_boot a boot t)
boot_own a boot t k = by_if Own (boot == a.boot) {y = drop_turn a (drop.WrongBoot a.boot)} (λ _. k) (λ _. tt)

denied_own : (a : Agent) (from seq : ℕ) (o : Option Host) → Own (denied a from seq o)
denied_own a from seq None = tt
denied_own a from seq (Some h) =
    by_if Own (is_ask seq h.ask) {x = refused a from h} {y = drop_turn a drop.Late} (λ _. tt) (λ _. tt)

replica_own : (c : ConfigParts) (a : Agent) (from : ℕ) (m : Message) → Own (from_replica c a from m)
unfolding on_grant on_denied on_returned on_known
replica_own c a from (message.Grant boot machine seq n vip start) =
    boot_own a boot _ (grant_own c a from seq n (range_at vip start) (host_of a.hosts machine))
replica_own c a from (message.Denied boot machine seq reason number) =
    boot_own a boot _ (denied_own a from seq (host_of a.hosts machine))
replica_own c a from (message.Returned boot n) = boot_own a boot _
    (by_if Own (is_returning n a.traffic.ranges) {x = quiet (with_returned a from n)} {y = drop_turn a drop.Late}
    (λ _. tt) (λ _. tt))
replica_own c a from (message.AgentKnown boot) = boot_own a boot _ tt
replica_own c a from _ = tt

redirect_own : (c : ConfigParts) (a : Agent) (from : ℕ) (o : Redirection) → Own (on_redirect c a from o)
redirect_own c a from o = rw (redirects_leave c a from o).acts tt

mux_own : (c : ConfigParts) (a : Agent) (from : ℕ) (m : Message) → Own (from_mux c a from m)
mux_own c a from (message.Redirect side n src sport dst dport opener server) =
    let o : Redirection = record {
      side = side;
      n = n;
      src = src;
      sport = sport;
      dst = dst;
      dport = dport;
      opener = opener;
      server = server;
    } in
    by_if Own has_fastpath {x = on_redirect c a from o} {y = drop_turn a drop.WrongRole}
    (λ _. redirect_own c a from o) (λ _. tt)
mux_own c a from _ = tt

hears_own : (c : ConfigParts) (a : Agent) (from : NodeId) (m : Message) → Own (agent_hears c a from m)
unfolding agent_hears
hears_own c a (node.Replica i) m = replica_own c a i m
hears_own c a (node.Mux i) m = mux_own c a i m
hears_own c a (node.Agent i) m = tt

heard_own : (c : ConfigParts) (a : Agent) (h : Heard)
    → Own (by_heard (drop_turn a) (agent_hears c a) (agent_takes c a) h)
heard_own c a (Refused cause) = tt
heard_own c a (Told from m) = hears_own c a from m
heard_own c a (Brought sender packet) = takes_own c a sender packet

-- ---- an agent's clock

give_own : (h : Held) (t : Traffic) → Own (give_back h t)
unfolding give_back
give_own h t = (refl, tt)

close_idle_own : (idle : ℕ) (t : Traffic) → Own (close_idle idle t)
unfolding close_idle
close_idle_own idle t = each_own close_conn close_own (filter (is_idle t.time idle) t.conns) t

forget_own : (idle : ℕ) (t : Traffic) → Own (forget_inbound idle t)
unfolding forget_inbound
forget_own idle t = tt

spare_own : (hosts : List Host) (idle : ℕ) (t : Traffic) → Own (give_back_spare hosts idle t)
unfolding give_back_spare
spare_own hosts idle t = each_own give_back give_own (filter (is_spare hosts t.time idle) t.ranges.held) t

idle_own : (c : ConfigParts) (hosts : List Host) (t : Traffic) → Own (idle_leave c hosts t)
unfolding idle_leave
idle_own c hosts t =
    let closed : Turn Traffic = close_idle c.timers.flow_idle t in
    let left : Turn Traffic = forget_inbound c.timers.flow_idle closed.state in
    each_append IsOther _ (give_back_spare hosts c.timers.range_idle left.state).acts
    (each_append IsOther closed.acts left.acts (close_idle_own c.timers.flow_idle t)
    (forget_own c.timers.flow_idle closed.state))
    (spare_own hosts c.timers.range_idle left.state)

again_said_own : (retry : ℕ) (a : Agent) → Own (says_again retry a)
unfolding says_again
again_said_own retry a = tt

tick_own : (c : ConfigParts) (a : Agent) (now : ℕ) → Own (on_tick c a now)
unfolding on_tick
tick_own c a now = each_append IsOther (idle_leave c a.hosts (at_now a now)).acts _ (idle_own c a.hosts (at_now a now))
    (again_said_own c.timers.ask_retry _)

-- ---- an agent's turn

own_acts : (c : ConfigParts) (a : Agent) (x : Input) → Own (agent_step c a x)
unfolding agent_step
own_acts c a (Arrived from bytes) = heard_own c a (heard c from bytes)
own_acts c a (Ticked now) = tick_own c a now

pub agent_acts : (c : ConfigParts) (a : Agent) (x : Input) → managers_acts (agent_step c a x).acts ≡ []
agent_acts c a x = none_of (agent_step c a x).acts (own_acts c a x)
