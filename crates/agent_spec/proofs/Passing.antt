-- What stays where packets of machines and wrapped packets pass, and what a row that drops one still does.
use Rattle.std.proofs.Common.{◌≡◌, refl, ap, sym, subst, ◌∙◌, inl, inr, ℕ, Bool, true, false, not, List, [], ◌∷◌}
use Rattle.std.proofs.Common.{Option}
use Rattle.std.proofs.Common.{Some, None, is_some, if◌then◌else◌, ◌⊎◌, arith}
use Rattle.std.specs.Prelude.{map, length, nat_le, ◌≤◌, ◌++◌, Result, Ok, Err, ◌==◌, cond}
use Rattle.std.proofs.lemmas.Bool.Decides.{nat_tests}
use Rattle.config_text.specs.declared.vips.Member.{Member}
use Rattle.ipip.specs.Wrapping.{Unwrapped, wrap_fault, unwrapped}
use Rattle.ipip.specs.Causes.{wrap_cause, unwrap_cause}
use Rattle.ipip.specs.declared.unwrapping.UnwrapFault.{UnwrapFault}
use Rattle.ipip.specs.declared.wrapping.WrapFault.{WrapFault}
use Rattle.node_spec.specs.Turns.{Turn, drop_turn, quiet, also, lifted}
use Rattle.packet_spec.specs.declared.fault.PacketFault.{PacketFault}
use Rattle.packet_spec.specs.Causes.{packet_cause}
use Rattle.packet_spec.specs.Packets.{key_of, has_rst, read_packet}
use Rattle.vip_config.specs.declared.parts.ConfigParts.{ConfigParts}
use Rattle.vip_config.specs.declared.who.Who.{Who}
use Rattle.vip_config.specs.Serving.{member_at, snat_vip}
use Rattle.wire_core.specs.Flows.{reverse}
use Rattle.wire_core.specs.Members.{Each}
use Rattle.wire_core.specs.Same.{same_ip}
use Rattle.wire_core.specs.declared.address.Ip4.{Ip4}
use Rattle.wire_core.specs.declared.cause.DropCause.{DropCause}
use Rattle.wire_core.specs.declared.cause.DropCause.TheVariants as drop
use Rattle.agent_spec.specs.declared.connection.Connection.{Connection}
use Rattle.agent_spec.specs.declared.held.Held.{Held}
use Rattle.agent_spec.specs.Agent.{Agent, Host, Site, Traffic, host_of, is_own, of_host, of_site, of_traffic, put_host}
use Rattle.agent_spec.specs.Agent.{site_at, with_traffic}
use Rattle.agent_spec.specs.Connections.{by_private, by_public, closed, most, private_key, public_key}
use Rattle.agent_spec.specs.Footprints.{AreOthers, IsHeld, LeavesHosts, LeavesLeases, SameLeases, lease_of, machines_of}
use Rattle.agent_spec.specs.Footprints.{MachineDrops, Passed, DroppedAtOnce, ConnUsed, EntryUsed}
use Rattle.agent_spec.specs.Footprints.{WrappedDrops, Handed, RefusedAtOnce, EntryLeft}
use Rattle.agent_spec.specs.Packets.{ask_for, by_conn, by_inbound, enqueued, from_machine, held_by, is_used}
use Rattle.agent_spec.specs.Packets.{machine_packet, new_conn, new_connection, of_machine, or_stays, read_as, stays}
use Rattle.agent_spec.specs.Packets.{try_packet, with_port}
use Rattle.agent_spec.specs.Ranges.{Ranges, at_number, first_unused, less_one, more_one, ports_of}
use Rattle.agent_spec.specs.Traffic.{closes, close_conn, goes, hand, inbound_touched, leaving, open_conn, to_peer}
use Rattle.agent_spec.specs.Traffic.{touched, use_conn, use_inbound}
use Rattle.agent_spec.specs.Wrapped.{by_reply, delivered, enters, enters_or_meets, inner_as, may_wrap, new_entry}
use Rattle.agent_spec.specs.Wrapped.{on_wrapped, outer_as, reply, to_member, to_server, unwrapped_as}
use Rattle.agent_spec.proofs.KeyLists.{by_if}

-- ---- leases

pub same_refl : (p : Ranges) → SameLeases p p
same_refl p = record { held = refl; kept = refl; returning = refl }

pub same_trans : (p q r : Ranges) → SameLeases p q → SameLeases q r → SameLeases p r
same_trans p q r a b = record {
  held = b.held ∙ a.held;
  kept = b.kept ∙ a.kept;
  returning = b.returning ∙ a.returning;
}

same_map : (f : Held → Held) → ((h : Held) → lease_of (f h) ≡ lease_of h) → (hs : List Held)
    → map lease_of (map f hs) ≡ map lease_of hs
same_map f same [] = refl
same_map f same (h ∷ hs) =
    ap (λ l. l ∷ map lease_of (map f hs)) (same h) ∙ ap (λ ls. lease_of h ∷ ls) (same_map f same hs)

pub more_same : (n : ℕ) (hs : List Held) → map lease_of (map (at_number n more_one) hs) ≡ map lease_of hs
more_same n hs =
    same_map (at_number n more_one) (λ h. by_if (λ (x : Held). lease_of x ≡ lease_of h) (h.n == n) refl refl) hs

pub less_same : (n now : ℕ) (hs : List Held) → map lease_of (map (at_number n (less_one now)) hs) ≡ map lease_of hs
less_same n now hs =
    same_map (at_number n (less_one now)) (λ h. by_if (λ (x : Held). lease_of x ≡ lease_of h) (h.n == n) refl refl) hs

-- ---- the parts of which rows are made

-- the leases and the time stay, and nothing is written
pub record Passes (t : Traffic) (u : Turn Traffic) : Type 0 where
  pub leases : SameLeases t.ranges u.state.ranges
  pub time : u.state.time ≡ t.time
  pub entry : u.entry ≡ None

drop_passes : (t : Traffic) (cause : DropCause) → Passes t (drop_turn t cause)
drop_passes t cause = record { leases = same_refl t.ranges; time = refl; entry = refl }

pub close_passes : (x : Connection) (t : Traffic) → Passes t (close_conn x t)
unfolding close_conn
close_passes x t = record {
  leases = record { held = less_same x.n t.time t.ranges.held; kept = refl; returning = refl };
  time = refl;
  entry = refl;
}

closes_passes : (rst : Bool) (x : Connection) (t : Traffic) → Passes t (closes rst x t)
closes_passes rst x t =
    by_if (Passes t) rst (close_passes x t) (record { leases = same_refl t.ranges; time = refl; entry = refl })

pub close_notes : (x : Connection) (t : Traffic) → (close_conn x t).notes ≡ []
unfolding close_conn
close_notes x t = refl

closes_notes : (rst : Bool) (x : Connection) (t : Traffic) → (closes rst x t).notes ≡ []
closes_notes rst x t = by_if (λ (u : Turn Traffic). u.notes ≡ []) rst (close_notes x t) refl

peer_passes : (c : ConfigParts) (t : Traffic) (x : Connection) (peer : Ip4) (p : List ℕ) (f : Traffic → Turn Traffic)
    → Passes t (f t) → (w : Option WrapFault) → Passes t (to_peer c t x peer p f w)
peer_passes c t x peer p f k (Some fault) = drop_passes t (wrap_cause fault)
peer_passes c t x peer p f k None = record { leases = k.leases; time = k.time; entry = k.entry }

goes_passes : (c : ConfigParts) (t : Traffic) (x : Connection) (p : List ℕ) (f : Traffic → Turn Traffic)
    → Passes t (f t) → (o : Option Ip4) → Passes t (goes c t x p f o)
goes_passes c t x p f k (Some peer) = peer_passes c t x peer p f k (wrap_fault 0 p)
goes_passes c t x p f k None = record { leases = k.leases; time = k.time; entry = k.entry }

use_passes : (c : ConfigParts) (t : Traffic) (x : Connection) (p : List ℕ) → Passes t (use_conn c t x p)
unfolding use_conn
use_passes c t x p =
    let k = goes_passes c (touched t x) x (leaving x p) (closes (has_rst p) x)
    (closes_passes (has_rst p) x (touched t x)) x.peer in
    record { leases = k.leases; time = k.time; entry = k.entry }

inbound_passes : (c : ConfigParts) (t : Traffic) (x : Connection) (p : List ℕ) → Passes t (use_inbound c t x p)
unfolding use_inbound
inbound_passes c t x p =
    let k = goes_passes c (inbound_touched t x) x (leaving x p) quiet
    (record { leases = same_refl t.ranges; time = refl; entry = refl }) x.peer in
    record { leases = k.leases; time = k.time; entry = k.entry }

open_passes : (t : Traffic) (x : Connection) → Passes t (open_conn t x)
unfolding open_conn
open_passes t x = record {
  leases = record { held = more_same x.n t.ranges.held; kept = refl; returning = refl };
  time = refl;
  entry = refl;
}

open_entry : (t : Traffic) (x : Connection) → (open_conn t x).entry ≡ None
unfolding open_conn
open_entry t x = refl

-- ---- what is dropped

-- what came passes, or it is dropped, and a connection or an inbound entry may have been used
pub data Drops (t : Traffic) (u : Turn Traffic) : Type 0 where
  Quiet : u.notes ≡ [] → Drops t u
  AtOnce : (cause : DropCause) → u ≡ drop_turn t cause → Drops t u
  ConnOf : (x : Connection) (fault : WrapFault) → u ≡ drop_turn (touched t x) (wrap_cause fault) → Drops t u
  EntryOf : (x : Connection) (fault : WrapFault) → u ≡ drop_turn (inbound_touched t x) (wrap_cause fault)
      → Drops t u

goes_drops : (c : ConfigParts) (t : Traffic) (x : Connection) (p : List ℕ) (f : Traffic → Turn Traffic)
    → (f (touched t x)).notes ≡ [] → (o : Option Ip4) → Drops t (goes c (touched t x) x p f o)
goes_drops c t x p f k None = Quiet k
goes_drops c t x p f k (Some peer) = by (wrap_fault 0 p)
  where
    by : (w : Option WrapFault) → Drops t (to_peer c (touched t x) x peer p f w)
    by (Some fault) = ConnOf x fault refl
    by None = Quiet k

use_drops : (c : ConfigParts) (t : Traffic) (x : Connection) (p : List ℕ) → Drops t (use_conn c t x p)
unfolding use_conn
use_drops c t x p =
    goes_drops c t x (leaving x p) (closes (has_rst p) x) (closes_notes (has_rst p) x (touched t x)) x.peer

entry_goes_drops : (c : ConfigParts) (t : Traffic) (x : Connection) (p : List ℕ) (o : Option Ip4)
    → Drops t (goes c (inbound_touched t x) x p quiet o)
entry_goes_drops c t x p None = Quiet refl
entry_goes_drops c t x p (Some peer) = by (wrap_fault 0 p)
  where
    by : (w : Option WrapFault) → Drops t (to_peer c (inbound_touched t x) x peer p quiet w)
    by (Some fault) = EntryOf x fault refl
    by None = Quiet refl

inbound_drops : (c : ConfigParts) (t : Traffic) (x : Connection) (p : List ℕ) → Drops t (use_inbound c t x p)
unfolding use_inbound
inbound_drops c t x p = entry_goes_drops c t x (leaving x p) x.peer

-- ---- a machine's packet

-- where a packet may leave
pub record Tries (t : Traffic) (u : Turn Traffic) : Type 0 where
  pub passes : Passes t u
  pub drops : Drops t u

abbrev pub May : Traffic → Option (Turn Traffic) → Type 0
May t None = Unit {0}
May t (Some u) = Tries t u

new_notes : (c : ConfigParts) (t : Traffic) (now : ℕ) (vip : Ip4) (p : List ℕ) (chosen : ℕ × ℕ)
    → (use_conn c t (new_connection now (key_of p) vip chosen) p).notes ≡ []
unfolding use_conn
new_notes c t now vip p chosen =
    closes_notes (has_rst p) (new_connection now (key_of p) vip chosen)
    (touched t (new_connection now (key_of p) vip chosen))

opened_tries : (c : ConfigParts) (t : Traffic) (x : Connection) (p : List ℕ)
    → ((u : Traffic) → (use_conn c u x p).notes ≡ []) → Tries t (also (open_conn t x) (λ u. use_conn c u x p))
unfolding open_conn
opened_tries c t x p none =
    let first = open_passes t x in
    let second = use_passes c (open_conn t x).state x p in record {
      passes = record {
        leases = same_trans t.ranges (open_conn t x).state.ranges (use_conn c (open_conn t x).state x p).state.ranges
            first.leases second.leases;
        time = second.time ∙ first.time;
        entry = second.entry;
      };
      drops = Quiet (none (open_conn t x).state);
    }

port_tries : (c : ConfigParts) (t : Traffic) (vip : Ip4) (p : List ℕ) (o : Option (ℕ × ℕ))
    → May t (with_port c t vip p o)
port_tries c t vip p None = tt
port_tries c t vip p (Some chosen) =
    opened_tries c t (new_connection t.time (key_of p) vip chosen) p
    (λ u. new_notes c u t.time vip p chosen)

drop_tries : (t : Traffic) (cause : DropCause) → Tries t (drop_turn t cause)
drop_tries t cause = record { passes = drop_passes t cause; drops = AtOnce cause refl }

new_tries : (c : ConfigParts) (t : Traffic) (p : List ℕ) (o : Option Ip4) → May t (new_conn c t p o)
unfolding new_conn
new_tries c t p None = drop_tries t drop.NoSnat
new_tries c t p (Some vip) =
    by_if (May t) (nat_le most (length t.conns)) (drop_tries t drop.TableFull)
    (port_tries c t vip p
    (first_unused (is_used t.conns (key_of p) vip) (ports_of t.ranges.held (key_of p).src)))

entry_tries : (c : ConfigParts) (t : Traffic) (p : List ℕ) (o : Option Connection) → May t (by_inbound c t p o)
entry_tries c t p (Some x) = record { passes = inbound_passes c t x p; drops = inbound_drops c t x p }
entry_tries c t p None = new_tries c t p (snat_vip c.vips (key_of p).src)

conn_tries : (c : ConfigParts) (t : Traffic) (p : List ℕ) (o : Option Connection) → May t (by_conn c t p o)
conn_tries c t p (Some x) = record { passes = use_passes c t x p; drops = use_drops c t x p }
conn_tries c t p None = entry_tries c t p (by_private (key_of p) t.inbound)

pub try_tries : (c : ConfigParts) (t : Traffic) (p : List ℕ) → May t (try_packet c t p)
unfolding try_packet
try_tries c t p = conn_tries c t p (by_private (key_of p) t.conns)

-- ---- a packet that is held

ask_notes : (boot hint now : ℕ) (h : Host) → (ask_for boot hint now h).notes ≡ []
unfolding ask_for
ask_notes boot hint now h = grind arith

pub ask_entry : (boot hint now : ℕ) (h : Host) → (ask_for boot hint now h).entry ≡ None
unfolding ask_for
ask_entry boot hint now h = grind arith

held_entry : (boot hint now : ℕ) (h : Host) (q : List (List ℕ) × Option ℕ) → (held_by boot hint now h q).entry ≡ None
held_entry boot hint now h (queue, None) = refl
held_entry boot hint now h (queue, Some count) = ask_entry boot hint now (record h { queue = queue })

-- it is held, or dropped
pub data Stays (h : Host) (u : Turn Host) : Type 0 where
  Kept : Each IsHeld u.notes → Stays h u
  Full : u ≡ drop_turn h drop.QueueFull → Stays h u

held_stays : (boot hint now : ℕ) (h : Host) (q : List (List ℕ) × Option ℕ) → Stays h (held_by boot hint now h q)
held_stays boot hint now h (queue, None) = Full refl
held_stays boot hint now h (queue, Some count) =
    Kept (tt, subst (Each IsHeld) (sym (ask_notes boot hint now (record h { queue = queue }))) tt)

-- ---- one machine

-- the leases and the time stay, and nothing is written
pub record SitePasses (s : Site) (u : Turn Site) : Type 0 where
  pub leases : SameLeases s.traffic.ranges u.state.traffic.ranges
  pub time : u.state.traffic.time ≡ s.traffic.time
  pub entry : u.entry ≡ None

pub data SiteDrops (s : Site) (u : Turn Site) : Type 0 where
  SiteQuiet : Each IsHeld u.notes → SiteDrops s u
  SiteAtOnce : (cause : DropCause) → u ≡ drop_turn s cause → SiteDrops s u
  SiteConn : (x : Connection) (fault : WrapFault)
      → u ≡ drop_turn (record s { traffic = touched s.traffic x }) (wrap_cause fault) → SiteDrops s u
  SiteEntry : (x : Connection) (fault : WrapFault)
      → u ≡ drop_turn (record s { traffic = inbound_touched s.traffic x }) (wrap_cause fault) → SiteDrops s u

site_drop : (s : Site) (cause : DropCause) → SitePasses s (drop_turn s cause)
site_drop s cause = record { leases = same_refl s.traffic.ranges; time = refl; entry = refl }

stays_passes : (boot hint : ℕ) (s : Site) (p : List ℕ) (o : Option (Turn Traffic)) → May s.traffic o
    → SitePasses s (or_stays boot hint s p o)
unfolding stays
stays_passes boot hint s p None k = record {
  leases = same_refl s.traffic.ranges;
  time = refl;
  entry = held_entry boot hint s.traffic.time s.host (enqueued s.host.queue p);
}
stays_passes boot hint s p (Some u) k = record {
  leases = k.passes.leases;
  time = k.passes.time;
  entry = k.passes.entry;
}

lift_drops : (s : Site) (u : Turn Traffic) → Drops s.traffic u → SiteDrops s (of_traffic s u)
lift_drops s u (Quiet notes) = SiteQuiet (subst (Each IsHeld) (sym notes) tt)
lift_drops s u (AtOnce cause is) = SiteAtOnce cause (ap (of_traffic s) is)
lift_drops s u (ConnOf x fault is) = SiteConn x fault (ap (of_traffic s) is)
lift_drops s u (EntryOf x fault is) = SiteEntry x fault (ap (of_traffic s) is)

lift_stays : (s : Site) (u : Turn Host) → Stays s.host u → SiteDrops s (of_host s u)
lift_stays s u (Kept notes) = SiteQuiet notes
lift_stays s u (Full is) = SiteAtOnce drop.QueueFull (ap (of_host s) is)

stays_drops : (boot hint : ℕ) (s : Site) (p : List ℕ) (o : Option (Turn Traffic)) → May s.traffic o
    → SiteDrops s (or_stays boot hint s p o)
unfolding stays
stays_drops boot hint s p None k =
    lift_stays s (held_by boot hint s.traffic.time s.host (enqueued s.host.queue p))
    (held_stays boot hint s.traffic.time s.host (enqueued s.host.queue p))
stays_drops boot hint s p (Some u) k = lift_drops s u k.drops

machine_passes : (c : ConfigParts) (boot hint : ℕ) (s : Site) (p : List ℕ)
    → SitePasses s (machine_packet c boot hint s p)
unfolding machine_packet
machine_passes c boot hint s p =
    by_if (SitePasses s) (same_ip (key_of p).src s.host.machine)
    (stays_passes boot hint s p (try_packet c s.traffic p) (try_tries c s.traffic p))
    (site_drop s drop.BadSource)

machine_drops : (c : ConfigParts) (boot hint : ℕ) (s : Site) (p : List ℕ)
    → SiteDrops s (machine_packet c boot hint s p)
unfolding machine_packet
machine_drops c boot hint s p =
    by_if (SiteDrops s) (same_ip (key_of p).src s.host.machine)
    (stays_drops boot hint s p (try_packet c s.traffic p) (try_tries c s.traffic p))
    (SiteAtOnce drop.BadSource refl)

read_passes : (c : ConfigParts) (boot hint : ℕ) (s : Site) (r : Result (List ℕ) PacketFault)
    → SitePasses s (read_as c boot hint s r)
read_passes c boot hint s (Err fault) = site_drop s (packet_cause fault)
read_passes c boot hint s (Ok p) = machine_passes c boot hint s p

read_drops : (c : ConfigParts) (boot hint : ℕ) (s : Site) (r : Result (List ℕ) PacketFault)
    → SiteDrops s (read_as c boot hint s r)
read_drops c boot hint s (Err fault) = SiteAtOnce (packet_cause fault) refl
read_drops c boot hint s (Ok p) = machine_drops c boot hint s p

-- ---- an agent's machines

abbrev address : ℕ → Ip4
address n = record { 0 = n }

same_address : (x h : Host) → same_ip x.machine h.machine ≡ true → h.machine ≡ x.machine
same_address x h e =
    let same : h.machine.0 ≡ x.machine.0 = grind (arith, nat_tests, e) in ap address same

put_machine : (h x : Host) → (if same_ip x.machine h.machine then h else x).machine ≡ x.machine
put_machine h x = by (same_ip x.machine h.machine) refl
  where
    by : (b : Bool) → same_ip x.machine h.machine ≡ b → (if b then h else x).machine ≡ x.machine
    by true e = same_address x h e
    by false e = refl

pub put_machines : (h : Host) (hosts : List Host) → machines_of (put_host h hosts) ≡ machines_of hosts
put_machines h [] = refl
put_machines h (x ∷ xs) =
    ap (λ m. m ∷ machines_of (put_host h xs)) (put_machine h x) ∙ ap (λ ms. x.machine ∷ ms) (put_machines h xs)

-- where no machine is twice, the one that was found put back changes nothing
put_other : (h : Host) (xs : List Host) → Each (λ y. (h.machine.0 == y.0) ≡ false) (machines_of xs)
    → put_host h xs ≡ xs
put_other h [] others = refl
put_other h (x ∷ xs) others =
    let e : same_ip x.machine h.machine ≡ false = grind (arith, nat_tests, others.0) in
    ap (λ b. (if b then h else x) ∷ put_host h xs) e ∙ ap (λ ys. x ∷ ys) (put_other h xs others.1)

each_found : (x h : Host) (machine : Ip4) (xs : List Host)
    → Each (λ y. (x.machine.0 == y.0) ≡ false) (machines_of xs) → host_of xs machine ≡ Some h
    → (x.machine.0 == h.machine.0) ≡ false
each_found x h machine [] others found = absurd (cc)
each_found x h machine (y ∷ ys) others found =
    by (same_ip y.machine machine) found (each_found x h machine ys others.1)
  where
    by : (b : Bool) → cond b (Some y) (host_of ys machine) ≡ Some h
        → (host_of ys machine ≡ Some h → (x.machine.0 == h.machine.0) ≡ false) → (x.machine.0 == h.machine.0) ≡ false
    by true e rest = let same : y ≡ h = cc in subst (λ (z : Host). (x.machine.0 == z.machine.0) ≡ false) same others.0
    by false e rest = rest e

put_same : (h : Host) (machine : Ip4) (hosts : List Host) → AreOthers (machines_of hosts)
    → host_of hosts machine ≡ Some h → put_host h hosts ≡ hosts
put_same h machine [] others found = refl
put_same h machine (x ∷ xs) others found =
    by (same_ip x.machine machine) found (put_same h machine xs others.1)
  where
    first : (b : Bool) → (if b then x else x) ∷ xs ≡ x ∷ xs
    first true = refl
    first false = refl

    by : (b : Bool) → cond b (Some x) (host_of xs machine) ≡ Some h
        → (host_of xs machine ≡ Some h → put_host h xs ≡ xs) → put_host h (x ∷ xs) ≡ x ∷ xs
    by true e rest =
        let same : x ≡ h = cc in
        let here : put_host x xs ≡ xs = put_other x xs others.0 in
        subst (λ (z : Host). put_host z (x ∷ xs) ≡ x ∷ xs) same
        (ap (λ ys. (if same_ip x.machine x.machine then x else x) ∷ ys) here ∙ first (same_ip x.machine x.machine))
    by false e rest =
        let no : same_ip x.machine h.machine ≡ false = each_found x h machine xs others.0 e in
        ap (λ b. (if b then h else x) ∷ put_host h xs) no ∙ ap (λ ys. x ∷ ys) (rest e)

site_leaves : (a : Agent) (h : Host) (u : Turn Site) → SitePasses (site_at a h) u → LeavesLeases a (of_site a u)
site_leaves a h u k = record {
  index = refl;
  boot = refl;
  known = refl;
  hint = refl;
  machines = put_machines u.state.host a.hosts;
  leases = k.leases;
  time = k.time;
  entry = k.entry;
}

of_machine_leaves : (c : ConfigParts) (a : Agent) (bytes : List ℕ) (o : Option Host)
    → LeavesLeases a (of_machine c a bytes o)
of_machine_leaves c a bytes None = record {
  index = refl;
  boot = refl;
  known = refl;
  hint = refl;
  machines = refl;
  leases = same_refl a.traffic.ranges;
  time = refl;
  entry = refl;
}
of_machine_leaves c a bytes (Some h) =
    site_leaves a h (read_as c a.boot a.hint (site_at a h) (read_packet bytes))
    (read_passes c a.boot a.hint (site_at a h) (read_packet bytes))

pub machine_leaves : (c : ConfigParts) (a : Agent) (machine : Ip4) (bytes : List ℕ)
    → LeavesLeases a (from_machine c a machine bytes)
unfolding from_machine
machine_leaves c a machine bytes = of_machine_leaves c a bytes (host_of a.hosts machine)

site_drops : (a : Agent) (h : Host) (u : Turn Site) → put_host h a.hosts ≡ a.hosts → SiteDrops (site_at a h) u
    → MachineDrops a (of_site a u)
site_drops a h u same (SiteQuiet notes) = Passed notes
site_drops a h u same (SiteAtOnce cause is) =
    DroppedAtOnce cause (ap (of_site a) is ∙ ap (λ hosts. drop_turn (record a { hosts = hosts }) cause) same)
site_drops a h u same (SiteConn x fault is) =
    ConnUsed x fault
    (ap (of_site a) is
    ∙ ap (λ hosts. drop_turn (record a { hosts = hosts; traffic = touched a.traffic x }) (wrap_cause fault)) same)
site_drops a h u same (SiteEntry x fault is) =
    EntryUsed x fault
    (ap (of_site a) is
    ∙ ap (λ hosts. drop_turn (record a { hosts = hosts; traffic = inbound_touched a.traffic x }) (wrap_cause fault))
    same)

of_machine_drops : (c : ConfigParts) (a : Agent) (machine : Ip4) (bytes : List ℕ) (o : Option Host)
    → AreOthers (machines_of a.hosts) → host_of a.hosts machine ≡ o → MachineDrops a (of_machine c a bytes o)
of_machine_drops c a machine bytes None others found = DroppedAtOnce drop.NotMine refl
of_machine_drops c a machine bytes (Some h) others found =
    site_drops a h (read_as c a.boot a.hint (site_at a h) (read_packet bytes))
    (put_same h machine a.hosts others found)
    (read_drops c a.boot a.hint (site_at a h) (read_packet bytes))

pub machine_may_drop : (c : ConfigParts) (a : Agent) (machine : Ip4) (bytes : List ℕ)
    → AreOthers (machines_of a.hosts) → MachineDrops a (from_machine c a machine bytes)
unfolding from_machine
machine_may_drop c a machine bytes others =
    of_machine_drops c a machine bytes (host_of a.hosts machine) others refl

-- ---- wrapped packets

-- a packet is handed, or dropped; another machine's entry may have left
pub data Hands (t : Traffic) (u : Turn Traffic) : Type 0 where
  HandQuiet : u.notes ≡ [] → Hands t u
  HandAtOnce : (cause : DropCause) → u ≡ drop_turn t cause → Hands t u
  HandLeft : (x : Connection) → most ≤ length (closed (private_key x) t.inbound)
      → u ≡ drop_turn (record t { inbound = closed (private_key x) t.inbound }) drop.TableFull → Hands t u

pub record Delivers (t : Traffic) (u : Turn Traffic) : Type 0 where
  pub passes : Passes t u
  pub hands : Hands t u

drop_delivers : (t : Traffic) (cause : DropCause) → Delivers t (drop_turn t cause)
drop_delivers t cause = record { passes = drop_passes t cause; hands = HandAtOnce cause refl }

reply_delivers : (t : Traffic) (machine : Ip4) (p : List ℕ) (x : Connection) → Delivers t (reply t machine p x)
unfolding reply hand
reply_delivers t machine p x =
    by_if (Delivers t) (same_ip x.machine machine) handed (drop_delivers t drop.WrongMachine)
  where
    closing : Passes (touched t x) (closes (has_rst p) x (touched t x))
    closing = closes_passes (has_rst p) x (touched t x)

    handed : Delivers t (also (hand (touched t x) x p) (closes (has_rst p) x))
    handed = record {
      passes = record { leases = closing.leases; time = closing.time; entry = closing.entry };
      hands = HandQuiet (closes_notes (has_rst p) x (touched t x));
    }

enters_passes : (t : Traffic) (p : List ℕ) (x : Connection) → Passes t (enters t p x)
unfolding enters hand
enters_passes t p x =
    by_if (Passes t) (nat_le most (length t.inbound)) (drop_passes t drop.TableFull)
    (record { leases = same_refl t.ranges; time = refl; entry = refl })

enters_hands : (t : Traffic) (p : List ℕ) (x : Connection)
    → ((enters t p x).notes ≡ []) ⊎ ((most ≤ length t.inbound) × (enters t p x ≡ drop_turn t drop.TableFull))
unfolding enters hand
enters_hands t p x = by (nat_le most (length t.inbound)) refl
  where
    by : (b : Bool) → nat_le most (length t.inbound) ≡ b
        → ((if b then drop_turn t drop.TableFull
        else hand (record t { inbound = t.inbound ++ x ∷ [] }) x p).notes ≡ [])
        ⊎ ((most ≤ length t.inbound)
        × ((if b then drop_turn t drop.TableFull
        else hand (record t { inbound = t.inbound ++ x ∷ [] }) x p) ≡ drop_turn t drop.TableFull))
    by true e = inr (grind (arith, nat_tests), refl)
    by false e = inl refl

meets_delivers : (t : Traffic) (sender : Who) (p : List ℕ) (made : Connection) (o : Option Connection)
    → Delivers t (enters_or_meets t sender p made o)
unfolding hand
meets_delivers t sender p made None = record {
  passes = enters_passes t p made;
  hands = by (enters t p made) (enters_hands t p made);
}
  where
    by : (u : Turn Traffic) → (u.notes ≡ []) ⊎ ((most ≤ length t.inbound) × (u ≡ drop_turn t drop.TableFull))
        → Hands t u
    by u (inl notes) = HandQuiet notes
    by u (inr (full, is)) = HandAtOnce drop.TableFull is
meets_delivers t sender p made (Some x) =
    by_if (Delivers t) (same_ip x.machine made.machine)
    (record {
      passes = record { leases = same_refl t.ranges; time = refl; entry = refl };
      hands = HandQuiet refl;
    })
    (record {
      passes = record { leases = entering.leases; time = entering.time; entry = entering.entry };
      hands = by (enters left p made) (enters_hands left p made);
    })
  where
    left : Traffic
    left = record t { inbound = closed (private_key x) t.inbound }

    entering : Passes left (enters left p made)
    entering = enters_passes left p made

    by : (u : Turn Traffic) → (u.notes ≡ []) ⊎ ((most ≤ length left.inbound) × (u ≡ drop_turn left drop.TableFull))
        → Hands t u
    by u (inl notes) = HandQuiet notes
    by u (inr (full, is)) = HandLeft x full is

server_delivers : (t : Traffic) (sender : Who) (p : List ℕ) (made : Connection)
    → Delivers t (to_server t sender p made)
unfolding to_server
server_delivers t sender p made =
    by_if (Delivers t) (is_some (by_private (private_key made) t.conns)) (drop_delivers t drop.KeyInUse)
    (meets_delivers t sender p made (by_public (public_key made) t.inbound))

member_delivers : (t : Traffic) (sender : Who) (machine : Ip4) (p : List ℕ) (o : Option Member)
    → Delivers t (to_member t sender machine p o)
member_delivers t sender machine p None = drop_delivers t drop.NoConnection
member_delivers t sender machine p (Some m) = server_delivers t sender p (new_entry t.time (key_of p) machine m.port)

by_reply_delivers : (c : ConfigParts) (t : Traffic) (sender : Who) (machine : Ip4) (p : List ℕ)
    (o : Option Connection) → Delivers t (by_reply c t sender machine p o)
by_reply_delivers c t sender machine p (Some x) = reply_delivers t machine p x
by_reply_delivers c t sender machine p None = member_delivers t sender machine p (member_at c.vips (key_of p) machine)

inner_delivers : (c : ConfigParts) (t : Traffic) (sender : Who) (machine : Ip4) (r : Result (List ℕ) PacketFault)
    → Delivers t (inner_as c t sender machine r)
unfolding delivered
inner_delivers c t sender machine (Err fault) = drop_delivers t (packet_cause fault)
inner_delivers c t sender machine (Ok p) =
    by_reply_delivers c t sender machine p (by_public (reverse (key_of p)) t.conns)

-- a wrapped packet leaves the hosts, and what is dropped does nothing else
pub record Wraps (a : Agent) (t : Turn Agent) : Type 0 where
  pub leaves : LeavesHosts a t
  pub drops : WrappedDrops a t

drop_wraps : (a : Agent) (cause : DropCause) → Wraps a (drop_turn a cause)
drop_wraps a cause = record {
  leaves = record { state = refl; leases = same_refl a.traffic.ranges; time = refl; entry = refl };
  drops = RefusedAtOnce cause refl;
}

lift_hands : (a : Agent) (u : Turn Traffic) → Hands a.traffic u → WrappedDrops a (lifted (with_traffic a) u)
lift_hands a u (HandQuiet notes) = Handed notes
lift_hands a u (HandAtOnce cause is) = RefusedAtOnce cause (ap (lifted (with_traffic a)) is)
lift_hands a u (HandLeft x full is) = EntryLeft x full (ap (lifted (with_traffic a)) is)

lift_wraps : (a : Agent) (u : Turn Traffic) → Delivers a.traffic u → Wraps a (lifted (with_traffic a) u)
lift_wraps a u k = record {
  leaves = record {
    state = refl;
    leases = k.passes.leases;
    time = k.passes.time;
    entry = k.passes.entry;
  };
  drops = lift_hands a u k.hands;
}

outer_wraps : (c : ConfigParts) (a : Agent) (sender : Who) (u : Unwrapped) → Wraps a (outer_as c a sender u)
outer_wraps c a sender u =
    by_if (Wraps a) (not (is_own a.hosts u.outer_dst)) (drop_wraps a drop.NotMine)
    (by_if (Wraps a) (not (may_wrap c sender u.outer_src)) (drop_wraps a drop.BadSender)
    (lift_wraps a (inner_as c a.traffic sender u.outer_dst (read_packet u.bytes))
    (inner_delivers c a.traffic sender u.outer_dst (read_packet u.bytes))))

unwrapped_wraps : (c : ConfigParts) (a : Agent) (sender : Who) (r : Result Unwrapped UnwrapFault)
    → Wraps a (unwrapped_as c a sender r)
unwrapped_wraps c a sender (Err fault) = drop_wraps a (unwrap_cause fault)
unwrapped_wraps c a sender (Ok u) = outer_wraps c a sender u

pub wrapped_leaves : (c : ConfigParts) (a : Agent) (sender : Who) (bytes : List ℕ)
    → LeavesHosts a (on_wrapped c a sender bytes)
unfolding on_wrapped
wrapped_leaves c a sender bytes = (unwrapped_wraps c a sender (unwrapped bytes)).leaves

pub wrapped_may_drop : (c : ConfigParts) (a : Agent) (sender : Who) (bytes : List ℕ)
    → WrappedDrops a (on_wrapped c a sender bytes)
unfolding on_wrapped
wrapped_may_drop c a sender bytes = (unwrapped_wraps c a sender (unwrapped bytes)).drops
