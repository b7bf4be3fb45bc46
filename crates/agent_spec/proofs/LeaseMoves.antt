-- What each row does to the leases.
use Rattle.std.proofs.Common.{◌≡◌, refl, sym, ap, subst, ◌∙◌, inl, inr, ℕ, Bool, true, false, not, List, [], ◌∷◌, ◌++◌}
use Rattle.std.proofs.Common.{Option, Some, None, if◌then◌else◌, arith, cond}
use Rattle.std.specs.Prelude.{map, filter, ◌==◌, ◌&&◌}
use Rattle.std.proofs.lemmas.Bool.Decides.{nat_tests}
use Rattle.indexmap.specs.IndexMap.{insert_entry}
use Rattle.wire_core.specs.Members.{In, Each}
use Rattle.wire_core.specs.Ranges.{is_leasable, range_at}
use Rattle.wire_core.specs.Same.{same_ip, same_range}
use Rattle.wire_core.specs.declared.address.Ip4.{Ip4}
use Rattle.wire_core.specs.declared.cause.DropCause.{DropCause}
use Rattle.wire_core.specs.declared.cause.DropCause.TheVariants as drop
use Rattle.wire_core.specs.declared.node.NodeId.{NodeId}
use Rattle.wire_core.specs.declared.node.NodeId.TheVariants as node
use Rattle.wire_core.specs.declared.range.Range.{Range}
use Rattle.control_msg.specs.declared.message.Message.{Message}
use Rattle.control_msg.specs.declared.message.Message.TheVariants as message
use Rattle.vip_config.specs.Leases.{lease_rules_of}
use Rattle.vip_config.specs.Serving.{has_snat}
use Rattle.vip_config.specs.declared.parts.ConfigParts.{ConfigParts}
use Rattle.vip_config.specs.declared.who.Who.{Who}
use Rattle.vip_config.specs.declared.who.Who.TheVariants as who
use Rattle.node_spec.specs.Datagrams.{Heard, Refused, Told, Brought, by_heard, heard}
use Rattle.node_spec.specs.Turns.{Input, Arrived, Ticked, Turn, drop_turn, each, quiet}
use Rattle.agent_spec.specs.declared.connection.Connection.{Connection}
use Rattle.agent_spec.specs.declared.held.Granting.{Granting}
use Rattle.agent_spec.specs.declared.held.Granting.TheVariants as granting
use Rattle.agent_spec.specs.declared.held.Held.{Held}
use Rattle.agent_spec.specs.Agent.{Agent, Host, Site, Traffic, host_of, site_at, with_ranges}
use Rattle.agent_spec.specs.AgentTable.{agent_hears, agent_step, agent_takes, from_mux, from_replica}
use Rattle.agent_spec.specs.Answers.{denied, grant_to, is_ask, of_own_boot, on_denied, on_grant, on_known, on_returned}
use Rattle.agent_spec.specs.Answers.{refused, take_grant, took, with_returned}
use Rattle.agent_spec.specs.Clock.{at_now, close_idle, forget_inbound, give_back, give_back_spare, idle_leave, is_spare}
use Rattle.agent_spec.specs.Clock.{on_tick, says_again}
use Rattle.agent_spec.specs.Connections.{is_idle}
use Rattle.agent_spec.specs.Footprints.{SameLeases, lease_of}
use Rattle.agent_spec.specs.Leases.{GivesBack, Ends, IsTaken, LeasesMove, Stay, Takes, TurnMoves, all_back, heard_in}
use Rattle.agent_spec.specs.Ranges.{Ranges, given_back, granted, inserted, is_old, is_returning, kept_at, new_held}
use Rattle.agent_spec.specs.Ranges.{returned}
use Rattle.agent_spec.specs.Traffic.{close_conn}
use Rattle.agent_spec.specs.Wrapped.{on_wrapped}
use Rattle.agent_spec.proofs.Answering.{answers_leave, take_passes, ticks_leave}
use Rattle.agent_spec.proofs.KeyLists.{found_passes}
use Rattle.agent_spec.proofs.Passing.{close_passes, machine_leaves, same_refl, same_trans, wrapped_leaves}

-- what a turn does to the leases
abbrev Moves : ConfigParts → Agent → Input → Turn Agent → Type 0
Moves c a x t = LeasesMove c a x t.state.traffic.ranges

-- both ways of a choice, each with the test's answer
by_test : {X : Type 0} (P : X → Type 0) (b : Bool) {x y : X} → (b ≡ true → P x) → (b ≡ false → P y)
    → P (if b then x else y)
by_test P true f g = f refl
by_test P false f g = g refl

abbrev first : Ranges × Granting → Ranges
first g = g.0

-- what is held once a Grant is taken
abbrev pub with_new : Ranges → ℕ → Range → Ip4 → ℕ → Ranges
with_new p n r machine now = record p {
  held = inserted (new_held n r machine now) p.held;
  kept = insert_entry same_range p.kept r n;
}

pub granted_new : (p : Ranges) (n : ℕ) (r : Range) (machine : Ip4) (now : ℕ) → is_old p n r ≡ false
    → (granted p n r machine now).0 ≡ with_new p n r machine now
granted_new p n r machine now e = by (is_old p n r) e
  where
    by : (b : Bool) → b ≡ false
        → first (if b then (p, granting.Old (kept_at p.kept r)) else (with_new p n r machine now, granting.Held))
        ≡ with_new p n r machine now
    by true e = absurd (cc)
    by false e = refl

module _ (c : ConfigParts) (a : Agent) (x : Input) where
  stays : (cause : DropCause) → Moves c a x (drop_turn a cause)
  stays cause = Stay (same_refl a.traffic.ranges)

  -- ---- a Grant

  taken_moves : (from : ℕ) (h : Host) (seq n : ℕ) (r : Range) → IsTaken c a x n r h.machine
      → Moves c a x (took c a from (site_at a h) seq n
      (with_new a.traffic.ranges n r h.machine a.traffic.time, granting.Held))
  taken_moves from h seq n r taken =
      let q : Ranges = with_new a.traffic.ranges n r h.machine a.traffic.time in
      let s : Site = record (site_at a h) { traffic = with_ranges a.traffic q } in
      let k = take_passes c a.boot from s seq n in
      Takes n r h.machine a.traffic.time taken
      (subst (λ (p : Ranges). SameLeases p (take_grant c a.boot from s seq n).state.traffic.ranges)
      (sym (granted_new a.traffic.ranges n r h.machine a.traffic.time taken.fresh)) k.leases)

  took_moves : (from : ℕ) (h : Host) (seq n : ℕ) (r : Range)
      → (is_old a.traffic.ranges n r ≡ false → IsTaken c a x n r h.machine)
      → Moves c a x (took c a from (site_at a h) seq n (granted a.traffic.ranges n r h.machine a.traffic.time))
  took_moves from h seq n r taken =
      by_test (λ (g : Ranges × Granting). Moves c a x (took c a from (site_at a h) seq n g))
      (is_old a.traffic.ranges n r)
      {x = (a.traffic.ranges, granting.Old (kept_at a.traffic.ranges.kept r))}
      {y = (with_new a.traffic.ranges n r h.machine a.traffic.time, granting.Held)}
      (λ _. stays (drop.OldGrant (kept_at a.traffic.ranges.kept r)))
      (λ fresh. taken_moves from h seq n r (taken fresh))

  both : (p q : Bool) → (p && q) ≡ true → (p ≡ true) × (q ≡ true)
  both true true e = (refl, refl)
  both true false e = absurd (cc)
  both false q e = absurd (cc)

  grant_moves : (from seq n : ℕ) (r : Range) (machine : Ip4) (o : Option Host) → host_of a.hosts machine ≡ o
      → heard_in c x ≡ Some (Told (node.Replica from) (message.Grant a.boot machine seq n r.vip r.start))
      → Moves c a x (grant_to c a from seq n r o)
  grant_moves from seq n r machine None found told = stays drop.NotMine
  grant_moves from seq n r machine (Some h) found told =
      by_test (Moves c a x) (has_snat c.vips r.vip h.machine && is_leasable (lease_rules_of c) r)
      {x = took c a from (site_at a h) seq n (granted a.traffic.ranges n r h.machine a.traffic.time)}
      {y = drop_turn a drop.NotMine}
      (λ may. took_moves from h seq n r (λ fresh. record {
        from = from;
        seq = seq;
        told = subst (λ (m : Ip4). heard_in c x ≡ Some
            (Told (node.Replica from) (message.Grant a.boot m seq n r.vip r.start)))
            (sym same) told;
        snat = (both (has_snat c.vips r.vip h.machine) (is_leasable (lease_rules_of c) r) may).0;
        leasable = (both (has_snat c.vips r.vip h.machine) (is_leasable (lease_rules_of c) r) may).1;
        fresh = fresh;
      }))
      (λ _. stays drop.NotMine)
    where
      same_address : (p q : Ip4) → p.0 ≡ q.0 → p ≡ q
      same_address p q e = ap (λ (k : ℕ). let ip : Ip4 = record { 0 = k } in ip) e

      same : h.machine ≡ machine
      same =
          let e : same_ip h.machine machine ≡ true = found_passes
          (λ (k : Host). same_ip k.machine machine) a.hosts h found in
          same_address h.machine machine (grind (arith, nat_tests, e))

  own_moves : (boot : ℕ) (t : Turn Agent) → (boot ≡ a.boot → Moves c a x t) → Moves c a x (of_own_boot a boot t)
  own_moves boot t k = by_test (Moves c a x) (boot == a.boot) {x = t} {y = drop_turn a (drop.WrongBoot a.boot)}
      (λ e. k (grind (arith, nat_tests, e))) (λ _. stays (drop.WrongBoot a.boot))

  -- ---- the other answers

  denied_moves : (from seq : ℕ) (o : Option Host) → Moves c a x (denied a from seq o)
  denied_moves from seq None = stays drop.Late
  denied_moves from seq (Some h) = by_test (Moves c a x)
      (is_ask seq h.ask) {x = refused a from h} {y = drop_turn a drop.Late}
      (λ _. Stay (same_refl a.traffic.ranges)) (λ _. stays drop.Late)

  returned_moves : (from n : ℕ)
      → Moves c a x (if is_returning n a.traffic.ranges then quiet (with_returned a from n) else drop_turn a drop.Late)
  returned_moves from n = by_test (Moves c a x) (is_returning n a.traffic.ranges)
      {x = quiet (with_returned a from n)} {y = drop_turn a drop.Late}
      (λ _. Ends n (same_refl (returned n a.traffic.ranges))) (λ _. stays drop.Late)

  replica_moves : (from : ℕ) (m : Message) → heard_in c x ≡ Some (Told (node.Replica from) m)
      → Moves c a x (from_replica c a from m)
  unfolding on_grant on_denied on_returned on_known
  replica_moves from (message.Grant boot machine seq n vip start) told =
      own_moves boot (grant_to c a from seq n (range_at vip start) (host_of a.hosts machine))
      (λ own. grant_moves from seq n (range_at vip start) machine (host_of a.hosts machine) refl
      (subst (λ (b : ℕ). heard_in c x ≡ Some
      (Told (node.Replica from) (message.Grant b machine seq n vip start))) own told))
  replica_moves from (message.Denied boot machine seq reason number) told =
      own_moves boot (denied a from seq (host_of a.hosts machine))
      (λ _. denied_moves from seq (host_of a.hosts machine))
  replica_moves from (message.Returned boot n) told = own_moves boot _ (λ _. returned_moves from n)
  replica_moves from (message.AgentKnown boot) told = own_moves boot _ (λ _. Stay (same_refl a.traffic.ranges))
  replica_moves from _ told = stays drop.WrongRole

  -- ---- muxes, packets

  mux_moves : (from : ℕ) (m : Message) → Moves c a x (from_mux c a from m)
  mux_moves from (message.Redirect side n src sport dst dport opener server) = stays drop.WrongRole
  mux_moves from _ = stays drop.WrongRole

  hears_moves : (from : NodeId) (m : Message) → heard_in c x ≡ Some (Told from m) → Moves c a x (agent_hears c a from m)
  unfolding agent_hears
  hears_moves (node.Replica from) m told = replica_moves from m told
  hears_moves (node.Mux from) m told = mux_moves from m
  hears_moves (node.Agent from) m told = stays drop.WrongRole

  takes_moves : (sender : Who) (bytes : List ℕ) → Moves c a x (agent_takes c a sender bytes)
  unfolding agent_takes
  takes_moves (who.Replica i) bytes = stays drop.WrongRole
  takes_moves (who.Mux i) bytes = Stay (wrapped_leaves c a (who.Mux i) bytes).leases
  takes_moves (who.Agent i) bytes = Stay (wrapped_leaves c a (who.Agent i) bytes).leases
  takes_moves (who.Machine machine) bytes = Stay (machine_leaves c a machine bytes).leases
  takes_moves who.Outside bytes = stays drop.NotMine

  heard_moves : (h : Heard) → heard_in c x ≡ Some h
      → Moves c a x (by_heard (drop_turn a) (agent_hears c a) (agent_takes c a) h)
  heard_moves (Refused cause) told = stays cause
  heard_moves (Told from m) told = hears_moves from m told
  heard_moves (Brought sender bytes) told = takes_moves sender bytes

-- ---- the clock

each_closed : (xs : List Connection) (t : Traffic) → SameLeases t.ranges (each close_conn xs t).state.ranges
unfolding each
each_closed [] t = same_refl t.ranges
each_closed (x ∷ xs) t =
    same_trans t.ranges (close_conn x t).state.ranges (each close_conn xs (close_conn x t).state).state.ranges
    (close_passes x t).leases (each_closed xs (close_conn x t).state)

each_back : (hs : List Held) (t : Traffic)
    → (each give_back hs t).state.ranges ≡ all_back (map (λ (h : Held). h.n) hs) t.ranges
unfolding each give_back
each_back [] t = refl
each_back (h ∷ hs) t = each_back hs (give_back h t).state

pub filter_lease : (n : ℕ) (hs : List Held)
    → map lease_of (filter (λ (h : Held). not (h.n == n)) hs)
    ≡ filter (λ (l : ℕ × (Range × Ip4)). not (l.0 == n)) (map lease_of hs)
filter_lease n [] = refl
filter_lease n (h ∷ hs) = by (not (h.n == n)) (filter_lease n hs)
  where
    by : (b : Bool)
        → map lease_of (filter (λ (h : Held). not (h.n == n)) hs)
        ≡ filter (λ (l : ℕ × (Range × Ip4)). not (l.0 == n)) (map lease_of hs)
        → map lease_of (cond b (h ∷ filter (λ (k : Held). not (k.n == n)) hs)
        (filter (λ (k : Held). not (k.n == n)) hs))
        ≡ cond b (lease_of h ∷ filter (λ (l : ℕ × (Range × Ip4)). not (l.0 == n)) (map lease_of hs))
        (filter (λ (l : ℕ × (Range × Ip4)). not (l.0 == n)) (map lease_of hs))
    by true rest = ap (λ ls. lease_of h ∷ ls) rest
    by false rest = rest

back_same : (n : ℕ) (p q : Ranges) → SameLeases p q → SameLeases (given_back n p) (given_back n q)
back_same n p q s = record {
  held = filter_lease n q.held ∙ ap (filter (λ (l : ℕ × (Range × Ip4)). not (l.0 == n))) s.held ∙ sym
      (filter_lease n p.held);
  kept = s.kept;
  returning = ap (λ (ns : List ℕ). ns ++ n ∷ []) s.returning;
}

all_back_same : (ns : List ℕ) (p q : Ranges) → SameLeases p q → SameLeases (all_back ns p) (all_back ns q)
all_back_same [] p q s = s
all_back_same (n ∷ ns) p q s = all_back_same ns (given_back n p) (given_back n q) (back_same n p q s)

numbers_of : (hs : List Held) → map (λ (l : ℕ × (Range × Ip4)). l.0) (map lease_of hs) ≡ map (λ (h : Held). h.n) hs
numbers_of [] = refl
numbers_of (h ∷ hs) = ap (λ (ns : List ℕ). h.n ∷ ns) (numbers_of hs)

filter_in : (p : Held → Bool) (hs : List Held) → Each (λ l. In l (map lease_of hs)) (map lease_of (filter p hs))
filter_in p [] = tt
filter_in p (h ∷ hs) = by (p h) (more (map lease_of (filter p hs)) (filter_in p hs))
  where
    more : (ls : List (ℕ × (Range × Ip4))) → Each (λ l. In l (map lease_of hs)) ls
        → Each (λ l. In l (map lease_of (h ∷ hs))) ls
    more [] k = tt
    more (l ∷ ls) k = (inr k.0, more ls k.1)

    by : (b : Bool) → Each (λ l. In l (map lease_of (h ∷ hs))) (map lease_of (filter p hs))
        → Each (λ l. In l (map lease_of (h ∷ hs))) (map lease_of (cond b (h ∷ filter p hs) (filter p hs)))
    by true rest = (inl refl, rest)
    by false rest = rest

idle_back : (c : ConfigParts) (hosts : List Host) (t : Traffic)
    → (ls : List (ℕ × (Range × Ip4))) × Each (λ l. In l (map lease_of t.ranges.held)) ls
    × SameLeases (all_back (map (λ (l : ℕ × (Range × Ip4)). l.0) ls) t.ranges) (idle_leave c hosts t).state.ranges
unfolding idle_leave close_idle forget_inbound give_back_spare
idle_back c hosts t =
    let left : Traffic = (forget_inbound c.timers.flow_idle (close_idle c.timers.flow_idle t).state).state in
    let same : SameLeases t.ranges left.ranges = each_closed (filter (is_idle t.time c.timers.flow_idle) t.conns) t in
    let spare : List Held = filter (is_spare hosts left.time c.timers.range_idle) left.ranges.held in (
      map lease_of spare,
      subst (λ ls. Each (λ l. In l ls) (map lease_of spare)) same.held
          (filter_in (is_spare hosts left.time c.timers.range_idle) left.ranges.held),
      subst (λ (q : Ranges). SameLeases
          (all_back (map (λ (l : ℕ × (Range × Ip4)). l.0) (map lease_of spare)) t.ranges) q)
          (ap (λ (ns : List ℕ). all_back ns left.ranges) (numbers_of spare) ∙ sym (each_back spare left))
          (all_back_same (map (λ (l : ℕ × (Range × Ip4)). l.0) (map lease_of spare)) t.ranges left.ranges same),
    )

tick_moves : (c : ConfigParts) (a : Agent) (x : Input) (now : ℕ) → Moves c a x (on_tick c a now)
unfolding on_tick says_again
tick_moves c a x now = let b = idle_back c a.hosts (at_now a now) in GivesBack b.0 b.1 b.2

-- ---- whatever comes

-- what a turn leaves whatever comes: the boot, and nothing is written
record Leaves (a : Agent) (t : Turn Agent) : Type 0 where
  boot : t.state.boot ≡ a.boot
  entry : t.entry ≡ None

drop_leaves : (a : Agent) (cause : DropCause) → Leaves a (drop_turn a cause)
drop_leaves a cause = record { boot = refl; entry = refl }

replica_leaves : (c : ConfigParts) (a : Agent) (from : ℕ) (m : Message) → Leaves a (from_replica c a from m)
replica_leaves c a from m = let k = answers_leave c a from m in record { boot = k.boot; entry = k.entry }

mux_leaves : (c : ConfigParts) (a : Agent) (from : ℕ) (m : Message) → Leaves a (from_mux c a from m)
mux_leaves c a from (message.Redirect side n src sport dst dport opener server) = drop_leaves a drop.WrongRole
mux_leaves c a from _ = drop_leaves a drop.WrongRole

hears_leaves : (c : ConfigParts) (a : Agent) (from : NodeId) (m : Message) → Leaves a (agent_hears c a from m)
unfolding agent_hears
hears_leaves c a (node.Replica from) m = replica_leaves c a from m
hears_leaves c a (node.Mux from) m = mux_leaves c a from m
hears_leaves c a (node.Agent from) m = drop_leaves a drop.WrongRole

wrapped_keeps : (c : ConfigParts) (a : Agent) (sender : Who) (bytes : List ℕ) → Leaves a (on_wrapped c a sender bytes)
wrapped_keeps c a sender bytes =
    let k = wrapped_leaves c a sender bytes in record { boot = ap (λ (b : Agent). b.boot) k.state; entry = k.entry }

takes_leaves : (c : ConfigParts) (a : Agent) (sender : Who) (bytes : List ℕ) → Leaves a (agent_takes c a sender bytes)
unfolding agent_takes
takes_leaves c a (who.Replica i) bytes = drop_leaves a drop.WrongRole
takes_leaves c a (who.Mux i) bytes = wrapped_keeps c a (who.Mux i) bytes
takes_leaves c a (who.Agent i) bytes = wrapped_keeps c a (who.Agent i) bytes
takes_leaves c a (who.Machine machine) bytes =
    let k = machine_leaves c a machine bytes in record { boot = k.boot; entry = k.entry }
takes_leaves c a who.Outside bytes = drop_leaves a drop.NotMine

heard_leaves : (c : ConfigParts) (a : Agent) (h : Heard)
    → Leaves a (by_heard (drop_turn a) (agent_hears c a) (agent_takes c a) h)
heard_leaves c a (Refused cause) = drop_leaves a cause
heard_leaves c a (Told from m) = hears_leaves c a from m
heard_leaves c a (Brought sender bytes) = takes_leaves c a sender bytes

step_leaves : (c : ConfigParts) (a : Agent) (x : Input) → Leaves a (agent_step c a x)
unfolding agent_step
step_leaves c a (Arrived from bytes) = heard_leaves c a (heard c from bytes)
step_leaves c a (Ticked now) = let k = ticks_leave c a now in record { boot = k.boot; entry = k.entry }

step_leases : (c : ConfigParts) (a : Agent) (x : Input) → Moves c a x (agent_step c a x)
unfolding agent_step
step_leases c a (Arrived from bytes) = heard_moves c a (Arrived from bytes) (heard c from bytes) refl
step_leases c a (Ticked now) = tick_moves c a (Ticked now) now

pub step_moves : (c : ConfigParts) (a : Agent) (x : Input) → TurnMoves c a x (agent_step c a x)
step_moves c a x =
    let k = step_leaves c a x in record { leases = step_leases c a x; boot = k.boot; entry = k.entry }
