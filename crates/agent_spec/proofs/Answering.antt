-- What answers of replicas and the clock leave, and what they do to the leases.
use Rattle.std.proofs.Common.{◌≡◌, refl, ap, ◌∙◌, ℕ, true, List, [], ◌∷◌, Option, Some, None}
use Rattle.std.proofs.Common.{is_some, if◌then◌else◌}
use Rattle.std.specs.Prelude.{map, filter, length, nat_le, Result, Ok, Err, ◌==◌, ◌&&◌, ◌++◌}
use Rattle.wire_core.specs.Steps.{first_of}
use Rattle.control_msg.specs.declared.message.Message.{Message}
use Rattle.control_msg.specs.declared.message.Message.TheVariants as message
use Rattle.node_spec.specs.declared.accept.Accept.{Accept}
use Rattle.node_spec.specs.declared.accept.Accept.TheVariants as accept
use Rattle.node_spec.specs.Datagrams.{Heard, Refused, Told, Brought, heard, by_heard}
use Rattle.node_spec.specs.Fastpath.{accept_redirect}
use Rattle.node_spec.specs.Turns.{Input, Arrived, Ticked, Turn, also, drop_turn, each, quiet}
use Rattle.packet_spec.specs.declared.fault.PacketFault.{PacketFault}
use Rattle.packet_spec.specs.Packets.{read_packet}
use Rattle.vip_config.specs.declared.parts.ConfigParts.{ConfigParts}
use Rattle.vip_config.specs.Leases.{lease_rules_of}
use Rattle.vip_config.specs.declared.who.Who.{Who}
use Rattle.vip_config.specs.declared.who.Who.TheVariants as who
use Rattle.vip_config.specs.Serving.{agent_with, has_snat}
use Rattle.wire_core.specs.Members.{Each}
use Rattle.wire_core.specs.Ranges.{is_leasable, range_at}
use Rattle.wire_core.specs.declared.act.Act.TheVariants as act
use Rattle.wire_core.specs.declared.cause.DropCause.{DropCause}
use Rattle.wire_core.specs.declared.cause.DropCause.TheVariants as drop
use Rattle.wire_core.specs.declared.entry.Entry.{Entry}
use Rattle.wire_core.specs.declared.note.Note.{Note}
use Rattle.wire_core.specs.declared.note.Note.TheVariants.{Dropped}
use Rattle.wire_core.specs.declared.range.Range.{Range}
use Rattle.wire_core.specs.declared.node.NodeId.{NodeId}
use Rattle.wire_core.specs.declared.node.NodeId.TheVariants as node
use Rattle.agent_spec.specs.declared.connection.Connection.{Connection}
use Rattle.agent_spec.specs.declared.held.Held.{Held}
use Rattle.agent_spec.specs.declared.order.Redirection.{Redirection}
use Rattle.agent_spec.specs.declared.held.Granting.{Granting}
use Rattle.agent_spec.specs.declared.held.Granting.TheVariants as granting
use Rattle.agent_spec.specs.Agent.{Agent, Host, Site, Traffic, host_of, opened_agent, site_at}
use Rattle.agent_spec.specs.Agent.{with_ranges}
use Rattle.agent_spec.specs.Agent.{with_traffic}
use Rattle.agent_spec.specs.AgentTable.{agent_hears, agent_step, agent_takes, from_mux, from_replica}
use Rattle.agent_spec.specs.Answers.{again, ask_left, begun, denied, grant_to, is_ask, of_own_boot, on_denied, on_grant}
use Rattle.agent_spec.specs.Answers.{on_known, on_returned, or_waits, refused, retry, take_grant, took, with_returned}
use Rattle.agent_spec.specs.Footprints.{AnswerDrops, Denies, Holds as Takes, LeavesMachines, NotTaken, NotesNothing}
use Rattle.agent_spec.specs.Clock.{at_now, close_idle, forget_inbound, give_back, give_back_spare, idle_leave, is_spare}
use Rattle.agent_spec.specs.Clock.{on_tick, renewed, says_again}
use Rattle.agent_spec.specs.Connections.{is_idle}
use Rattle.agent_spec.specs.Footprints.{HeldApart, KeptRise, LeavesAllButPeers, LeavesKnown, machines_of}
use Rattle.agent_spec.specs.Footprints.{RedirectDrops, RedirectRefused, RedirectTaken}
use Rattle.agent_spec.specs.Packets.{from_machine, try_packet}
use Rattle.agent_spec.specs.Ranges.{Ranges, granted, is_returning}
use Rattle.agent_spec.specs.Redirects.{if_accepted, number_of, on_redirect, redirect_to, redirected, with_redirect}
use Rattle.agent_spec.specs.Traffic.{close_conn}
use Rattle.agent_spec.specs.Wrapped.{on_wrapped}
use Rattle.agent_spec.proofs.KeyLists.{by_if}
use Rattle.agent_spec.proofs.HeldRanges.{Holds, holds_given, holds_granted, holds_refl, holds_returned, holds_same}
use Rattle.agent_spec.proofs.HeldRanges.{holds_trans}
use Rattle.agent_spec.proofs.Passing.{May, SitePasses, ask_entry, close_notes, close_passes, machine_leaves}
use Rattle.agent_spec.proofs.Passing.{put_machines, same_refl, same_trans, try_tries, wrapped_leaves}

-- ---- held packets go through the rows again

waits_passes : (s : Site) (p : List ℕ) (o : Option (Turn Traffic)) → May s.traffic o → SitePasses s (or_waits s p o)
waits_passes s p None k = record { leases = same_refl s.traffic.ranges; time = refl; entry = refl }
waits_passes s p (Some u) k = record {
  leases = k.passes.leases;
  time = k.passes.time;
  entry = k.passes.entry;
}

again_passes : (c : ConfigParts) (s : Site) (r : Result (List ℕ) PacketFault) → SitePasses s (again c s r)
again_passes c s (Err fault) = record { leases = same_refl s.traffic.ranges; time = refl; entry = refl }
again_passes c s (Ok p) = waits_passes s p (try_packet c s.traffic p) (try_tries c s.traffic p)

retry_passes : (c : ConfigParts) (bytes : List ℕ) (s : Site) → SitePasses s (retry c bytes s)
unfolding retry
retry_passes c bytes s = again_passes c s (read_packet bytes)

no_entries : (a b : Option Entry) → a ≡ None → b ≡ None → first_of a b ≡ None
no_entries a b h k = ap (λ e. first_of e b) h ∙ k

-- one after the other
also_passes : (s : Site) (u : Turn Site) (f : Site → Turn Site) → SitePasses s u → SitePasses u.state (f u.state)
    → SitePasses s (also u f)
also_passes s u f a b = record {
  leases = same_trans s.traffic.ranges u.state.traffic.ranges (f u.state).state.traffic.ranges a.leases b.leases;
  time = b.time ∙ a.time;
  entry = no_entries u.entry (f u.state).entry a.entry b.entry;
}

each_passes : (c : ConfigParts) (queue : List (List ℕ)) (s : Site) → SitePasses s (each (retry c) queue s)
unfolding each
each_passes c [] s = record { leases = same_refl s.traffic.ranges; time = refl; entry = refl }
each_passes c (bytes ∷ queue) s =
    also_passes s (retry c bytes s) (each (retry c) queue) (retry_passes c bytes s)
    (each_passes c queue (retry c bytes s).state)

left_passes : (boot hint : ℕ) (s : Site) → SitePasses s (ask_left boot hint s)
left_passes boot hint s =
    by_if (SitePasses s) (nat_le 1 (length s.host.queue))
    (record {
      leases = same_refl s.traffic.ranges;
      time = refl;
      entry = ask_entry boot hint s.traffic.time s.host;
    })
    (record { leases = same_refl s.traffic.ranges; time = refl; entry = refl })

pub take_passes : (c : ConfigParts) (boot hint : ℕ) (s : Site) (seq n : ℕ) → SitePasses s (take_grant c boot hint s seq n)
unfolding take_grant
take_passes c boot hint s seq n =
    let tried = each_passes c s.host.queue (begun s seq) in
    let first = each (retry c) s.host.queue (begun s seq) in
    let left = left_passes boot hint first.state in record {
      leases = same_trans s.traffic.ranges first.state.traffic.ranges
          (ask_left boot hint first.state).state.traffic.ranges tried.leases left.leases;
      time = left.time ∙ tried.time;
      entry = no_entries first.entry (ask_left boot hint first.state).entry tried.entry left.entry;
    }

take_acts : (c : ConfigParts) (boot hint : ℕ) (s : Site) (seq n : ℕ)
    → (take_grant c boot hint s seq n).acts
    ≡ act.Hold n
    ∷ ((each (retry c) s.host.queue (begun s seq)).acts
    ++ (ask_left boot hint (each (retry c) s.host.queue (begun s seq)).state).acts)
unfolding take_grant
take_acts c boot hint s seq n = refl

-- ---- an answer

-- what an answer of a replica leaves, what it drops, and what it does to the leases
pub record Answers (a : Agent) (t : Turn Agent) : Type 0 where
  pub leaves : LeavesMachines a t
  pub drops : AnswerDrops a t
  pub holds : Holds a.traffic.ranges t.state.traffic.ranges

drop_answers : (a : Agent) (cause : DropCause) → Answers a (drop_turn a cause)
drop_answers a cause = record {
  leaves = record { index = refl; boot = refl; machines = refl; time = refl; entry = refl };
  drops = NotTaken cause refl;
  holds = holds_refl a.traffic.ranges;
}

took_answers : (c : ConfigParts) (a : Agent) (from : ℕ) (h : Host) (seq n : ℕ) (r : Ranges) (g : Granting)
    → Holds a.traffic.ranges r → Answers a (took c a from (site_at a h) seq n (r, g))
took_answers c a from h seq n r (granting.Old kept) more = drop_answers a (drop.OldGrant kept)
took_answers c a from h seq n r granting.Held more =
    let s : Site = record (site_at a h) { traffic = with_ranges a.traffic r } in
    let u : Turn Site = take_grant c a.boot from s seq n in
    let k = take_passes c a.boot from s seq n in record {
      leaves = record {
        index = refl;
        boot = refl;
        machines = put_machines u.state.host a.hosts;
        time = k.time;
        entry = k.entry;
      };
      drops = Takes n ((each (retry c) s.host.queue (begun s seq)).acts
          ++ (ask_left a.boot from (each (retry c) s.host.queue (begun s seq)).state).acts)
          (take_acts c a.boot from s seq n);
      holds = holds_trans a.traffic.ranges r u.state.traffic.ranges more (holds_same r u.state.traffic.ranges k.leases);
    }

grant_answers : (c : ConfigParts) (a : Agent) (from seq n : ℕ) (r : Range) (o : Option Host)
    → Answers a (grant_to c a from seq n r o)
grant_answers c a from seq n r None = drop_answers a drop.NotMine
grant_answers c a from seq n r (Some h) =
    by_if (Answers a) (has_snat c.vips r.vip h.machine && is_leasable (lease_rules_of c) r)
    (took_answers c a from h seq n (granted a.traffic.ranges n r h.machine a.traffic.time).0
    (granted a.traffic.ranges n r h.machine a.traffic.time).1
    (holds_granted a.traffic.ranges n r h.machine a.traffic.time))
    (drop_answers a drop.NotMine)

boot_answers : (a : Agent) (boot : ℕ) (t : Turn Agent) → Answers a t → Answers a (of_own_boot a boot t)
boot_answers a boot t k = by_if (Answers a) (boot == a.boot) k (drop_answers a (drop.WrongBoot a.boot))

each_denied : (queue : List (List ℕ))
    → Each (λ note. note ≡ Dropped drop.Denied) (map (λ (p : List ℕ). Dropped drop.Denied) queue)
each_denied [] = tt
each_denied (p ∷ queue) = (refl, each_denied queue)

refused_answers : (a : Agent) (from : ℕ) (h : Host) → Answers a (refused a from h)
refused_answers a from h = record {
  leaves = record {
    index = refl;
    boot = refl;
    machines = put_machines (record h { queue = []; ask = None }) a.hosts;
    time = refl;
    entry = refl;
  };
  drops = Denies (each_denied h.queue) refl;
  holds = holds_refl a.traffic.ranges;
}

denied_answers : (a : Agent) (from seq : ℕ) (o : Option Host) → Answers a (denied a from seq o)
denied_answers a from seq None = drop_answers a drop.Late
denied_answers a from seq (Some h) =
    by_if (Answers a) (is_ask seq h.ask) (refused_answers a from h) (drop_answers a drop.Late)

returned_answers : (a : Agent) (from n : ℕ)
    → Answers a (if is_returning n a.traffic.ranges then quiet (with_returned a from n) else drop_turn a drop.Late)
returned_answers a from n =
    by_if (Answers a) (is_returning n a.traffic.ranges)
    (record {
      leaves = record { index = refl; boot = refl; machines = refl; time = refl; entry = refl };
      drops = NotesNothing refl;
      holds = holds_returned n a.traffic.ranges;
    })
    (drop_answers a drop.Late)

pub replica_answers : (c : ConfigParts) (a : Agent) (from : ℕ) (m : Message) → Answers a (from_replica c a from m)
unfolding on_grant on_denied on_returned on_known
replica_answers c a from (message.Grant boot machine seq n vip start) =
    boot_answers a boot (grant_to c a from seq n (range_at vip start) (host_of a.hosts machine))
    (grant_answers c a from seq n (range_at vip start) (host_of a.hosts machine))
replica_answers c a from (message.Denied boot machine seq reason number) =
    boot_answers a boot (denied a from seq (host_of a.hosts machine))
    (denied_answers a from seq (host_of a.hosts machine))
replica_answers c a from (message.Returned boot n) =
    boot_answers a boot
    (if is_returning n a.traffic.ranges then quiet (with_returned a from n) else drop_turn a drop.Late)
    (returned_answers a from n)
replica_answers c a from (message.AgentKnown boot) =
    boot_answers a boot (quiet (record a { known = true; hint = from }))
    (record {
      leaves = record { index = refl; boot = refl; machines = refl; time = refl; entry = refl };
      drops = NotesNothing refl;
      holds = holds_refl a.traffic.ranges;
    })
replica_answers c a from _ = drop_answers a drop.WrongRole

-- ---- redirects

-- what a Redirect leaves, and what it drops
pub record Redirects (a : Agent) (t : Turn Agent) : Type 0 where
  pub leaves : LeavesAllButPeers a t
  pub drops : RedirectDrops a t

drop_redirects : (a : Agent) (cause : DropCause) → Redirects a (drop_turn a cause)
drop_redirects a cause = record {
  leaves = record { state = refl; entry = refl; acts = refl };
  drops = RedirectRefused cause refl;
}

peers_alone : (a : Agent) (o : Redirection) (x : Connection)
    → with_traffic a (with_redirect o a.traffic x)
    ≡ with_traffic a (record a.traffic {
      conns = (with_redirect o a.traffic x).conns;
      inbound = (with_redirect o a.traffic x).inbound;
    })
peers_alone a o x =
    by_if (λ (u : Traffic). with_traffic a u
    ≡ with_traffic a (record a.traffic { conns = u.conns; inbound = u.inbound })) (o.side == 0) refl refl

to_redirects : (a : Agent) (o : Redirection) (x : Option Connection) → Redirects a (redirect_to a o x)
to_redirects a o None = drop_redirects a drop.NoConnection
to_redirects a o (Some x) = record {
  leaves = record { state = peers_alone a o x; entry = refl; acts = refl };
  drops = RedirectTaken refl;
}

accepted_redirects : (a : Agent) (o : Redirection) (x : Option Connection) (answer : Accept)
    → Redirects a (if_accepted a o x answer)
accepted_redirects a o x accept.NotFromMux = drop_redirects a drop.NotFromMux
accepted_redirects a o x accept.NoConnection = drop_redirects a drop.NoConnection
accepted_redirects a o x (accept.StaleLease kept) = drop_redirects a (drop.StaleLease kept)
accepted_redirects a o x accept.Yes = to_redirects a o x

pub redirect_redirects : (c : ConfigParts) (a : Agent) (from : ℕ) (o : Redirection)
    → Redirects a (on_redirect c a from o)
unfolding on_redirect
redirect_redirects c a from o =
    by_if (Redirects a) (is_some (agent_with c o.opener) && is_some (agent_with c o.server))
    (accepted_redirects a o (redirected o a.traffic)
    (accept_redirect (who.Mux from) o.side o.n (number_of (redirected o a.traffic))))
    (drop_redirects a drop.NotMine)

-- ---- the clock

-- the leases stay apart and none falls, the time stays, and nothing is written or noted
pub record Leaves (t : Traffic) (u : Turn Traffic) : Type 0 where
  pub holds : Holds t.ranges u.state.ranges
  pub entry : u.entry ≡ None
  pub notes : u.notes ≡ []

no_notes : (a b : List Note) → a ≡ [] → b ≡ [] → a ++ b ≡ []
no_notes a b h k = ap (λ xs. xs ++ b) h ∙ k

also_leaves : (t : Traffic) (u : Turn Traffic) (f : Traffic → Turn Traffic) → Leaves t u
    → Leaves u.state (f u.state) → Leaves t (also u f)
also_leaves t u f a b = record {
  holds = holds_trans t.ranges u.state.ranges (f u.state).state.ranges a.holds b.holds;
  entry = no_entries u.entry (f u.state).entry a.entry b.entry;
  notes = no_notes u.notes (f u.state).notes a.notes b.notes;
}

close_leaves : (x : Connection) (t : Traffic) → Leaves t (close_conn x t)
close_leaves x t =
    let k = close_passes x t in record {
      holds = holds_same t.ranges (close_conn x t).state.ranges k.leases;
      entry = k.entry;
      notes = close_notes x t;
    }

each_closes : (xs : List Connection) (t : Traffic) → Leaves t (each close_conn xs t)
unfolding each
each_closes [] t = record { holds = holds_refl t.ranges; entry = refl; notes = refl }
each_closes (x ∷ xs) t =
    also_leaves t (close_conn x t) (each close_conn xs) (close_leaves x t) (each_closes xs (close_conn x t).state)

give_leaves : (h : Held) (t : Traffic) → Leaves t (give_back h t)
unfolding give_back
give_leaves h t = record { holds = holds_given h.n t.ranges; entry = refl; notes = refl }

each_gives : (hs : List Held) (t : Traffic) → Leaves t (each give_back hs t)
unfolding each
each_gives [] t = record { holds = holds_refl t.ranges; entry = refl; notes = refl }
each_gives (h ∷ hs) t =
    also_leaves t (give_back h t) (each give_back hs) (give_leaves h t) (each_gives hs (give_back h t).state)

forget_leaves : (idle : ℕ) (t : Traffic) → Leaves t (forget_inbound idle t)
unfolding forget_inbound
forget_leaves idle t = record { holds = holds_refl t.ranges; entry = refl; notes = refl }

closes_leaves : (idle : ℕ) (t : Traffic) → Leaves t (close_idle idle t)
unfolding close_idle
closes_leaves idle t = each_closes (filter (is_idle t.time idle) t.conns) t

spare_leaves : (hosts : List Host) (idle : ℕ) (t : Traffic) → Leaves t (give_back_spare hosts idle t)
unfolding give_back_spare
spare_leaves hosts idle t = each_gives (filter (is_spare hosts t.time idle) t.ranges.held) t

idle_leaves : (c : ConfigParts) (hosts : List Host) (t : Traffic) → Leaves t (idle_leave c hosts t)
unfolding idle_leave
idle_leaves c hosts t =
    let closing = close_idle c.timers.flow_idle t in
    let forgot = also closing (forget_inbound c.timers.flow_idle) in
    also_leaves t forgot (give_back_spare hosts c.timers.range_idle)
    (also_leaves t closing (forget_inbound c.timers.flow_idle) (closes_leaves c.timers.flow_idle t)
    (forget_leaves c.timers.flow_idle closing.state))
    (spare_leaves hosts c.timers.range_idle forgot.state)

renewed_machines : (now retry : ℕ) (hosts : List Host)
    → machines_of (map (renewed now retry) hosts) ≡ machines_of hosts
renewed_machines now retry [] = refl
renewed_machines now retry (h ∷ hs) = ap (λ ms. h.machine ∷ ms) (renewed_machines now retry hs)

-- what the clock leaves, and what it does to the leases
pub record Ticks (a : Agent) (t : Turn Agent) : Type 0 where
  pub leaves : LeavesKnown a t
  pub holds : Holds a.traffic.ranges t.state.traffic.ranges

pub tick_ticks : (c : ConfigParts) (a : Agent) (now : ℕ) → Ticks a (on_tick c a now)
unfolding on_tick says_again
tick_ticks c a now =
    let u = idle_leave c a.hosts (at_now a now) in
    let k = idle_leaves c a.hosts (at_now a now) in record {
      leaves = record {
        index = refl;
        boot = refl;
        known = refl;
        hint = refl;
        machines = renewed_machines u.state.time c.timers.ask_retry a.hosts;
        entry = no_entries u.entry None k.entry refl;
        notes = no_notes u.notes [] k.notes refl;
      };
      holds = k.holds;
    }

-- ---- whatever comes

mux_holds : (c : ConfigParts) (a : Agent) (from : ℕ) (m : Message)
    → Holds a.traffic.ranges (from_mux c a from m).state.traffic.ranges
mux_holds c a from (message.Redirect side n src sport dst dport opener server) = holds_refl a.traffic.ranges
mux_holds c a from _ = holds_refl a.traffic.ranges

message_holds : (c : ConfigParts) (a : Agent) (from : NodeId) (m : Message)
    → Holds a.traffic.ranges (agent_hears c a from m).state.traffic.ranges
unfolding agent_hears
message_holds c a (node.Replica from) m = (replica_answers c a from m).holds
message_holds c a (node.Mux from) m = mux_holds c a from m
message_holds c a (node.Agent from) m = holds_refl a.traffic.ranges

wrapped_holds : (c : ConfigParts) (a : Agent) (sender : Who) (bytes : List ℕ)
    → Holds a.traffic.ranges (on_wrapped c a sender bytes).state.traffic.ranges
wrapped_holds c a sender bytes =
    holds_same a.traffic.ranges (on_wrapped c a sender bytes).state.traffic.ranges
    (wrapped_leaves c a sender bytes).leases

takes_holds : (c : ConfigParts) (a : Agent) (sender : Who) (bytes : List ℕ)
    → Holds a.traffic.ranges (agent_takes c a sender bytes).state.traffic.ranges
unfolding agent_takes
takes_holds c a (who.Replica i) bytes = holds_refl a.traffic.ranges
takes_holds c a (who.Mux i) bytes = wrapped_holds c a (who.Mux i) bytes
takes_holds c a (who.Agent i) bytes = wrapped_holds c a (who.Agent i) bytes
takes_holds c a (who.Machine machine) bytes =
    holds_same a.traffic.ranges (from_machine c a machine bytes).state.traffic.ranges
    (machine_leaves c a machine bytes).leases
takes_holds c a who.Outside bytes = holds_refl a.traffic.ranges

datagram_holds : (c : ConfigParts) (a : Agent) (h : Heard)
    → Holds a.traffic.ranges
    (by_heard (drop_turn a) (agent_hears c a) (agent_takes c a) h).state.traffic.ranges
datagram_holds c a (Refused cause) = holds_refl a.traffic.ranges
datagram_holds c a (Told from m) = message_holds c a from m
datagram_holds c a (Brought sender bytes) = takes_holds c a sender bytes

pub step_holds : (c : ConfigParts) (a : Agent) (x : Input)
    → Holds a.traffic.ranges (agent_step c a x).state.traffic.ranges
unfolding agent_step
step_holds c a (Arrived from bytes) = datagram_holds c a (heard c from bytes)
step_holds c a (Ticked now) = (tick_ticks c a now).holds

-- ---- as the laws say it

pub answers_leave : (c : ConfigParts) (a : Agent) (from : ℕ) (m : Message) → LeavesMachines a (from_replica c a from m)
answers_leave c a from m = (replica_answers c a from m).leaves

pub answers_drop : (c : ConfigParts) (a : Agent) (from : ℕ) (m : Message) → AnswerDrops a (from_replica c a from m)
answers_drop c a from m = (replica_answers c a from m).drops

pub redirects_leave : (c : ConfigParts) (a : Agent) (from : ℕ) (o : Redirection)
    → LeavesAllButPeers a (on_redirect c a from o)
redirects_leave c a from o = (redirect_redirects c a from o).leaves

pub redirects_drop : (c : ConfigParts) (a : Agent) (from : ℕ) (o : Redirection)
    → RedirectDrops a (on_redirect c a from o)
redirects_drop c a from o = (redirect_redirects c a from o).drops

pub ticks_leave : (c : ConfigParts) (a : Agent) (now : ℕ) → LeavesKnown a (on_tick c a now)
ticks_leave c a now = (tick_ticks c a now).leaves

pub stays_apart : (c : ConfigParts) (a : Agent) (x : Input) → HeldApart a.traffic.ranges
    → HeldApart (agent_step c a x).state.traffic.ranges
stays_apart c a x h = (step_holds c a x).apart h

pub kept_rise : (c : ConfigParts) (a : Agent) (x : Input)
    → KeptRise a.traffic.ranges (agent_step c a x).state.traffic.ranges
kept_rise c a x = (step_holds c a x).rises

pub opens_apart : (c : ConfigParts) (index : ℕ) (entries : List Entry)
    → HeldApart (opened_agent c index entries).traffic.ranges
unfolding opened_agent
opens_apart c index entries = tt
