-- Whatever comes, each connection goes through a held range of its machine, and each range counts its own.
use Rattle.std.proofs.Common.{◌≡◌, ◌≤◌, refl, sym, ap, subst, ◌∙◌, inl, inr, ℕ, ◌+◌, ◌-◌, ◌^◌, Bool, true, false, not}
use Rattle.std.proofs.Common.{List, [], ◌∷◌, ◌++◌, Option, Some, None, is_some, if◌then◌else◌, arith, min, length}
use Rattle.std.specs.Prelude.{map, filter, nat_le, Result, Ok, Err, ◌==◌, ◌&&◌, ◌||◌}
use Rattle.std.specs.List.{list_any}
use Rattle.std.proofs.lemmas.Bool.Decides.{nat_tests}
use Rattle.std.proofs.lemmas.List.{length-append, length-map}
use Rattle.indexmap.specs.IndexMap.{insert_entry}
use Rattle.wire_core.specs.Flows.{reverse}
use Rattle.wire_core.specs.Members.{In, Each}
use Rattle.wire_core.specs.Ranges.{is_leasable, range_at, range_of}
use Rattle.wire_core.specs.Same.{same_ip, same_key, same_range}
use Rattle.wire_core.specs.declared.address.Ip4.{Ip4}
use Rattle.wire_core.specs.declared.cause.DropCause.TheVariants as drop
use Rattle.wire_core.specs.declared.entry.Entry.{Entry}
use Rattle.wire_core.specs.declared.flow.FlowKey.{FlowKey}
use Rattle.wire_core.specs.declared.node.NodeId.{NodeId}
use Rattle.wire_core.specs.declared.node.NodeId.TheVariants as node
use Rattle.wire_core.specs.declared.range.Range.{Range}
use Rattle.config_text.specs.declared.vips.Member.{Member}
use Rattle.control_msg.specs.declared.message.Message.{Message}
use Rattle.control_msg.specs.declared.message.Message.TheVariants as message
use Rattle.ipip.specs.Wrapping.{Unwrapped, wrap_fault, unwrapped}
use Rattle.ipip.specs.declared.unwrapping.UnwrapFault.{UnwrapFault}
use Rattle.ipip.specs.declared.wrapping.WrapFault.{WrapFault}
use Rattle.packet_spec.specs.Packets.{has_rst, key_of, read_packet}
use Rattle.packet_spec.specs.declared.fault.PacketFault.{PacketFault}
use Rattle.vip_config.specs.Leases.{lease_rules_of}
use Rattle.vip_config.specs.Rules.{KeepsRules}
use Rattle.vip_config.specs.Serving.{has_snat, member_at, snat_vip}
use Rattle.vip_config.specs.declared.parts.ConfigParts.{ConfigParts}
use Rattle.vip_config.specs.declared.who.Who.{Who}
use Rattle.vip_config.specs.declared.who.Who.TheVariants as who
use Rattle.node_spec.specs.Datagrams.{Heard, Refused, Told, Brought, by_heard, heard}
use Rattle.node_spec.specs.Turns.{Input, Arrived, Ticked, Turn, also, drop_turn, each, quiet}
use Rattle.agent_spec.specs.declared.connection.Connection.{Connection}
use Rattle.agent_spec.specs.declared.held.Granting.{Granting}
use Rattle.agent_spec.specs.declared.held.Granting.TheVariants as granting
use Rattle.agent_spec.specs.declared.held.Held.{Held}
use Rattle.agent_spec.specs.Agent.{Agent, Host, Site, Traffic, host_of, is_own, of_host, opened_agent, site_at}
use Rattle.agent_spec.specs.Agent.{with_ranges}
use Rattle.agent_spec.specs.AgentTable.{agent_hears, agent_step, agent_takes, from_mux, from_replica}
use Rattle.agent_spec.specs.Answers.{again, ask_left, begun, denied, grant_to, is_ask, of_own_boot, on_denied, on_grant}
use Rattle.agent_spec.specs.Answers.{on_known, on_returned, or_waits, refused, retry, take_grant, took, with_returned}
use Rattle.agent_spec.specs.Clock.{at_now, close_idle, forget_inbound, give_back, give_back_spare, idle_leave, is_spare}
use Rattle.agent_spec.specs.Clock.{on_tick, says_again}
use Rattle.agent_spec.specs.Connections.{at_private, at_time, by_private, by_public, closed, has_private, has_public}
use Rattle.agent_spec.specs.Connections.{is_idle, most, private_key, public_key}
use Rattle.agent_spec.specs.Footprints.{AreApart, lease_of}
use Rattle.agent_spec.specs.Keys.{IsFree, KeysApart, OwnKeys}
use Rattle.agent_spec.specs.Packets.{ask_for, by_conn, by_inbound, from_machine, is_used, machine_packet, new_conn}
use Rattle.agent_spec.specs.Packets.{new_connection, of_machine, or_stays, read_as, try_packet, with_port}
use Rattle.agent_spec.specs.Ranges.{Ranges, at_number, clashes, first_unused, granted, inserted, is_old, is_returning}
use Rattle.agent_spec.specs.Ranges.{kept_at, less_one, more_one, new_held, place_for, ports_of}
use Rattle.agent_spec.specs.Through.{ConnsAreHeld, HasRange, IsCounted, count_of}
use Rattle.agent_spec.specs.Traffic.{close_conn, closes, goes, hand, inbound_touched, leaving, open_conn, to_peer}
use Rattle.agent_spec.specs.Traffic.{touched, use_conn, use_inbound}
use Rattle.agent_spec.specs.Wrapped.{by_reply, delivered, enters, enters_or_meets, inner_as, may_wrap, new_entry}
use Rattle.agent_spec.specs.Wrapped.{on_wrapped, outer_as, reply, to_member, to_server, unwrapped_as}
use Rattle.agent_spec.proofs.Counting.{IsPortOf, both, by_test, count_append, count_closed, count_least, count_mapped}
use Rattle.agent_spec.proofs.Counting.{count_none, each_in, each_inserted, each_mapped, each_on, each_passing, fewer}
use Rattle.agent_spec.proofs.Counting.{found_in, has_filtered, has_mapped, in_filter, in_inserted, in_mapped, in_right}
use Rattle.agent_spec.proofs.Counting.{is_equal, neither, none_of, other_way, port_in, port_of, same_number, snat_is}
use Rattle.agent_spec.proofs.LeaseMoves.{granted_new}
use Rattle.agent_spec.proofs.HeldRanges.{holds_given, holds_granted}
use Rattle.agent_spec.proofs.KeyLists.{each_filter, each_snoc, own_filter}
use Rattle.agent_spec.proofs.Passing.{less_same, more_same}
use Rattle.agent_spec.proofs.Unique.{close_keeps, open_keeps, open_is_free, touched_keeps, time_inner}

-- ---- what stays together

-- keys and ranges are apart, and connections go through held ranges
record Sound (c : ConfigParts) (conns : List Connection) (held : List Held) : Type 0 where
  keys : KeysApart conns
  apart : AreApart (map lease_of held)
  through : ConnsAreHeld c conns held

abbrev IsSound : ConfigParts → Traffic → Type 0
IsSound c t = Sound c t.conns t.ranges.held

abbrev Keeps : ConfigParts → Traffic → Turn Traffic → Type 0
Keeps c t u = IsSound c t → IsSound c u.state

-- a connection with this key and number is open
record Stands (cs : List Connection) (x : Connection) : Type 0 where
  conn : Connection
  there : In conn cs
  key : private_key conn ≡ private_key x
  number : conn.n ≡ x.n

stands_itself : (cs : List Connection) (x : Connection) → In x cs → Stands cs x
stands_itself cs x i = record { conn = x; there = i; key = refl; number = refl }

-- ---- a use

used_number : (k : FlowKey) (now : ℕ) (x : Connection) → (at_private k (at_time now) x).n ≡ x.n
used_number k now x = by_test (λ (y : Connection). y.n ≡ x.n) (has_private k x) (λ _. refl) (λ _. refl)

used_key : (k : FlowKey) (now : ℕ) (x : Connection) → private_key (at_private k (at_time now) x) ≡ private_key x
used_key k now x =
    by_test (λ (y : Connection). private_key y ≡ private_key x) (has_private k x) (λ _. time_inner now x) (λ _. refl)

used_range : (k : FlowKey) (now : ℕ) (held : List Held) (x : Connection) → HasRange held x
    → HasRange held (at_private k (at_time now) x)
used_range k now held x h = by_test (HasRange held) (has_private k x) (λ _. record {
  range = h.range;
  there = h.there;
  through = record { number = h.through.number; machine = h.through.machine; range = h.through.range };
}) (λ _. h)

counted_on : (c : ConfigParts) (cs ds : List Connection) → ((n : ℕ) → count_of n ds ≡ count_of n cs) →
    (held : List Held)
    → Each (IsCounted c cs) held → Each (IsCounted c ds) held
counted_on c cs ds same held h = each_on (IsCounted c cs) (IsCounted c ds) (λ x k. record {
  snat = k.snat;
  leasable = k.leasable;
  count = k.count ∙ sym (same x.n);
}) held h

touched_sound : (c : ConfigParts) (t : Traffic) (x : Connection) → IsSound c t → IsSound c (touched t x)
touched_sound c t x s =
    let f : Connection → Connection = at_private (private_key x) (at_time t.time) in record {
      keys = touched_keeps t x s.keys;
      apart = s.apart;
      through = record {
        ranged = each_mapped (HasRange t.ranges.held) f t.conns
            (each_on (HasRange t.ranges.held) _
            (used_range (private_key x) t.time t.ranges.held) t.conns s.through.ranged);
        counts = counted_on c t.conns (map f t.conns)
            (λ n. count_mapped f (used_number (private_key x) t.time) n t.conns) t.ranges.held s.through.counts;
        few = subst (λ (k : ℕ). k ≤ most) (sym (length-map t.conns f)) s.through.few;
      };
    }

touched_stands : (t : Traffic) (x : Connection) → Stands t.conns x → Stands (touched t x).conns x
touched_stands t x s =
    let f : Connection → Connection = at_private (private_key x) (at_time t.time) in record {
      conn = f s.conn;
      there = in_mapped f t.conns s.conn s.there;
      key = used_key (private_key x) t.time s.conn ∙ s.key;
      number = used_number (private_key x) t.time s.conn ∙ s.number;
    }

-- ---- a connection closes

less_lease : (n now : ℕ) (h : Held) → lease_of (at_number n (less_one now) h) ≡ lease_of h
less_lease n now h = by_test (λ (x : Held). lease_of x ≡ lease_of h) (h.n == n) (λ _. refl) (λ _. refl)

more_lease : (n : ℕ) (h : Held) → lease_of (at_number n more_one h) ≡ lease_of h
more_lease n h = by_test (λ (x : Held). lease_of x ≡ lease_of h) (h.n == n) (λ _. refl) (λ _. refl)

closed_count : (c : ConfigParts) (cs ds : List Connection) (y : Connection) (n now : ℕ) → y.n ≡ n
    → ((k : ℕ) → count_of k cs ≡ count_of k ds + (if y.n == k then 1 else 0)) → (h : Held) → IsCounted c cs h
    → IsCounted c ds (at_number n (less_one now) h)
closed_count c cs ds y n now own more h k = by_test (IsCounted c ds) (h.n == n)
    {x = less_one now h} {y = h}
    (λ is. record {
      snat = k.snat;
      leasable = k.leasable;
      count = (let e : (y.n == h.n) ≡ true = same_number y.n h.n (own ∙ sym (is_equal h.n n is)) in
          one_less h.count (count_of h.n cs) (count_of h.n ds) k.count
          (more h.n ∙ ap (λ (b : Bool). count_of h.n ds + (if b then 1 else 0)) e));
    })
    (λ other. record {
      snat = k.snat;
      leasable = k.leasable;
      count = (let e : (y.n == h.n) ≡ false = not_same other in
          k.count ∙ more h.n ∙ ap (λ (b : Bool). count_of h.n ds + (if b then 1 else 0)) e ∙ plus_none
          (count_of h.n ds));
    })
  where
    one_less : (a b d : ℕ) → a ≡ b → b ≡ d + 1 → a - 1 ≡ d
    one_less a b d e f = omega arith

    plus_none : (a : ℕ) → a + 0 ≡ a
    plus_none a = omega arith

    not_same : (h.n == n) ≡ false → (y.n == h.n) ≡ false
    not_same e = subst (λ (m : ℕ). (m == h.n) ≡ false) (sym own) (grind (arith, nat_tests, e))

close_sound : (c : ConfigParts) (x : Connection) (t : Traffic) → Stands t.conns x → Keeps c t (close_conn x t)
unfolding close_conn
close_sound c x t st s =
    let held : List Held = map (at_number x.n (less_one t.time)) t.ranges.held in
    let left : List Connection = closed (private_key x) t.conns in record {
      keys = close_keeps x t s.keys;
      apart = subst AreApart (sym (less_same x.n t.time t.ranges.held)) s.apart;
      through = record {
        ranged = each_filter (HasRange held) (λ y. not (has_private (private_key x) y)) t.conns
            (each_on (HasRange t.ranges.held) (HasRange held)
            (has_mapped (at_number x.n (less_one t.time))
            (less_lease x.n t.time) t.ranges.held) t.conns s.through.ranged);
        counts = each_mapped (IsCounted c left) (at_number x.n (less_one t.time)) t.ranges.held
            (each_on (IsCounted c t.conns) _ (closed_count c t.conns left st.conn x.n t.time st.number
            (count_closed (private_key x) t.conns st.conn s.keys.private_keys st.there st.key))
            t.ranges.held s.through.counts);
        few = at_most (fewer (λ y. not (has_private (private_key x) y)) t.conns) s.through.few;
      };
    }
  where
    at_most : {a b d : ℕ} → a ≤ b → b ≤ d → a ≤ d
    at_most h k = omega arith

closes_sound : (c : ConfigParts) (rst : Bool) (x : Connection) (t : Traffic) → Stands t.conns x → Keeps c t
    (closes rst x t)
closes_sound c rst x t st =
    by_test (Keeps c t) rst {x = close_conn x t} {y = quiet t} (λ _. close_sound c x t st) (λ _ s. s)

-- ---- a packet leaves

peer_sound : (c : ConfigParts) (t : Traffic) (x : Connection) (peer : Ip4) (p : List ℕ) (f : Traffic → Turn Traffic)
    → Keeps c t (f t) → (w : Option WrapFault) → Keeps c t (to_peer c t x peer p f w)
peer_sound c t x peer p f k (Some fault) = λ s. s
peer_sound c t x peer p f k None = k

goes_sound : (c : ConfigParts) (t : Traffic) (x : Connection) (p : List ℕ) (f : Traffic → Turn Traffic)
    → Keeps c t (f t) → (o : Option Ip4) → Keeps c t (goes c t x p f o)
goes_sound c t x p f k (Some peer) = peer_sound c t x peer p f k (wrap_fault 0 p)
goes_sound c t x p f k None = k

use_sound : (c : ConfigParts) (t : Traffic) (x : Connection) (p : List ℕ) → Stands t.conns x → Keeps c t
    (use_conn c t x p)
unfolding use_conn
use_sound c t x p st s =
    goes_sound c (touched t x) x (leaving x p) (closes (has_rst p) x)
    (closes_sound c (has_rst p) x (touched t x) (touched_stands t x st)) x.peer (touched_sound c t x s)

inbound_sound : (c : ConfigParts) (t : Traffic) (x : Connection) (p : List ℕ) → Keeps c t (use_inbound c t x p)
unfolding use_inbound
inbound_sound c t x p s = goes_sound c (inbound_touched t x) x (leaving x p) quiet (λ k. k) x.peer s

-- ---- a connection opens

opened_count : (c : ConfigParts) (cs : List Connection) (x : Connection) → length cs ≤ 65535 → (h : Held)
    → IsCounted c cs h → IsCounted c (cs ++ x ∷ []) (at_number x.n more_one h)
opened_count c cs x room h k = by_test (IsCounted c (cs ++ x ∷ [])) (h.n == x.n)
    {x = more_one h} {y = h}
    (λ is. record {
      snat = k.snat;
      leasable = k.leasable;
      count = (let e : (x.n == h.n) ≡ true = same_number x.n h.n (sym (is_equal h.n x.n is)) in
          let few : count_of h.n cs ≤ length cs = count_least h.n cs in
          one_more h.count (count_of h.n cs) (length cs) k.count few room
          ∙ ap (λ (b : Bool). count_of h.n cs + (if b then 1 else 0)) (sym e) ∙ sym (count_append h.n cs x));
    })
    (λ other. record {
      snat = k.snat;
      leasable = k.leasable;
      count = (let e : (x.n == h.n) ≡ false = grind (arith, nat_tests, other) in
          k.count ∙ plus_none (count_of h.n cs)
          ∙ ap (λ (b : Bool). count_of h.n cs + (if b then 1 else 0)) (sym e) ∙ sym (count_append h.n cs x));
    })
  where
    one_more : (a b l : ℕ) → a ≡ b → b ≤ l → l ≤ 65535 → min (a + 1) (2 ^ 32 - 1) ≡ b + 1
    one_more a b l e few room = omega arith

    plus_none : (a : ℕ) → a ≡ a + 0
    plus_none a = omega arith

opens_sound : (c : ConfigParts) (t : Traffic) (x : Connection) → IsFree private_key (private_key x) t.conns
    → IsFree public_key (public_key x) t.conns → HasRange t.ranges.held x → length t.conns ≤ 65535
    → Keeps c t (open_conn t x)
unfolding open_conn
opens_sound c t x inner outer has room s =
    let held : List Held = map (at_number x.n more_one) t.ranges.held in record {
      keys = open_keeps t x inner outer s.keys;
      apart = subst AreApart (sym (more_same x.n t.ranges.held)) s.apart;
      through = record {
        ranged = each_snoc (HasRange held) t.conns x
            (each_on (HasRange t.ranges.held) (HasRange held)
            (has_mapped (at_number x.n more_one) (more_lease x.n) t.ranges.held) t.conns s.through.ranged)
            (has_mapped (at_number x.n more_one) (more_lease x.n) t.ranges.held x has);
        counts = each_mapped (IsCounted c (t.conns ++ x ∷ [])) (at_number x.n more_one) t.ranges.held
            (each_on (IsCounted c t.conns) _ (opened_count c t.conns x room) t.ranges.held s.through.counts);
        few = subst (λ (k : ℕ). k ≤ most) (sym (length-append t.conns (x ∷ []))) (within (length t.conns) room);
      };
    }
  where
    within : (l : ℕ) → l ≤ 65535 → l + 1 ≤ most
    within l h = omega arith

-- the last of a list stands
stands_last : (t : Traffic) (x : Connection) → Stands (open_conn t x).state.conns x
unfolding open_conn
stands_last t x = stands_itself (t.conns ++ x ∷ []) x (in_right t.conns (x ∷ []) x (inl refl))

each_itself : (cs : List Connection) → Each (λ (x : Connection). In x cs) cs
each_itself [] = tt
each_itself (x ∷ xs) = (inl refl, each_on (λ (y : Connection). In y xs) _ (λ y i. inr i) xs (each_itself xs))

-- one of another key stands after a closing
stands_closed : (x y : Connection) (t : Traffic) → Stands t.conns y → same_key (private_key x) (private_key y) ≡ false
    → Stands (close_conn x t).state.conns y
unfolding close_conn
stands_closed x y t s other = record {
  conn = s.conn;
  there = in_filter (λ (z : Connection). not (has_private (private_key x) z)) t.conns s.conn s.there
      (ap not (subst (λ (k : FlowKey). same_key k (private_key x) ≡ false) (sym s.key)
      (other_way (private_key x) (private_key y) other)));
  key = s.key;
  number = s.number;
}

-- where a packet may leave
abbrev May : ConfigParts → Traffic → Option (Turn Traffic) → Type 0
May c t None = Unit {0}
May c t (Some u) = Keeps c t u

-- a connection through a port of the machine has its range
has_range : (c : ConfigParts) → KeepsRules c → (t : Traffic) (vip : Ip4) (key : FlowKey) (chosen : ℕ × ℕ) → IsSound c t
    → snat_vip c.vips key.src ≡ Some vip → In chosen (ports_of t.ranges.held key.src)
    → HasRange t.ranges.held (new_connection t.time key vip chosen)
has_range c rules t vip key chosen s leaves there =
    let k : IsPortOf t.ranges.held key.src chosen = port_of t.ranges.held key.src chosen there in
    let own : IsCounted c t.conns k.range = each_in
    (IsCounted c t.conns) t.ranges.held k.range s.through.counts k.there in
    let same : k.range.range.vip ≡ vip = snat_is c rules k.range.range.vip key.src vip leaves
    (subst (λ (m : Ip4). has_snat c.vips k.range.range.vip m ≡ true) k.own own.snat) in
    let port : min (k.range.range.start + k.place) 65535 ≡ chosen.1 = ap (λ (p : ℕ × ℕ). p.1) k.is in
    record {
      range = k.range;
      there = k.there;
      through = record {
        number = ap (λ (p : ℕ × ℕ). p.0) k.is;
        machine = k.own;
        range = port_in c rules k.range.range k.place own.leasable k.lt
            ∙ ap (λ (v : Ip4). range_of v (min (k.range.range.start + k.place) 65535)) same
            ∙ ap (λ (p : ℕ). range_of vip p) port;
      };
    }

module _ (c : ConfigParts) (rules : KeepsRules c) where
  port_sound : (t : Traffic) (vip : Ip4) (p : List ℕ) → by_private (key_of p) t.conns ≡ None
      → snat_vip c.vips (key_of p).src ≡ Some vip → length t.conns ≤ 65535 → (o : Option (ℕ × ℕ))
      → first_unused (is_used t.conns (key_of p) vip) (ports_of t.ranges.held (key_of p).src) ≡ o
      → May c t (with_port c t vip p o)
  port_sound t vip p none leaves room None e = tt
  port_sound t vip p none leaves room (Some chosen) e =
      let x : Connection = new_connection t.time (key_of p) vip chosen in
      let there : In chosen (ports_of t.ranges.held (key_of p).src) =
      found_in (λ (q : ℕ × ℕ). not (is_used t.conns (key_of p) vip q.1))
      (ports_of t.ranges.held (key_of p).src) chosen e in
      let free = open_is_free t vip p none chosen e in
      λ s. use_sound c (open_conn t x).state x p (stands_last t x)
      (opens_sound c t x free.0 free.1 (has_range c rules t vip (key_of p) chosen s leaves there) room s)

  new_sound : (t : Traffic) (p : List ℕ) → by_private (key_of p) t.conns ≡ None → (o : Option Ip4)
      → snat_vip c.vips (key_of p).src ≡ o → May c t (new_conn c t p o)
  unfolding new_conn
  new_sound t p none None leaves = λ s. s
  new_sound t p none (Some vip) leaves = by_test (May c t) (nat_le most (length t.conns))
      {x = Some (drop_turn t drop.TableFull)} (λ _ s. s)
      (λ room. port_sound t vip p none leaves (below (length t.conns) room)
      (first_unused (is_used t.conns (key_of p) vip) (ports_of t.ranges.held (key_of p).src)) refl)
    where
      below : (l : ℕ) → nat_le most l ≡ false → l ≤ 65535
      below l e = grind (arith, nat_tests, e)

  entry_sound : (t : Traffic) (p : List ℕ) → by_private (key_of p) t.conns ≡ None → (o : Option Connection)
      → May c t (by_inbound c t p o)
  entry_sound t p none (Some x) = inbound_sound c t x p
  entry_sound t p none None = new_sound t p none (snat_vip c.vips (key_of p).src) refl

  conn_sound : (t : Traffic) (p : List ℕ) (o : Option Connection) → by_private (key_of p) t.conns ≡ o
      → May c t (by_conn c t p o)
  conn_sound t p (Some x) e = use_sound c t x p
      (stands_itself t.conns x (found_in (has_private (key_of p)) t.conns x e))
  conn_sound t p None e = entry_sound t p e (by_private (key_of p) t.inbound)

  try_sound : (t : Traffic) (p : List ℕ) → May c t (try_packet c t p)
  unfolding try_packet
  try_sound t p = conn_sound t p (by_private (key_of p) t.conns) refl

  -- ---- a machine's packet

  abbrev KeepsAt : Site → Turn Site → Type 0
  KeepsAt s u = IsSound c s.traffic → IsSound c u.state.traffic

  abbrev KeepsIn : Agent → Turn Agent → Type 0
  KeepsIn a u = IsSound c a.traffic → IsSound c u.state.traffic

  stays_sound : (boot hint : ℕ) (s : Site) (p : List ℕ) (o : Option (Turn Traffic)) → May c s.traffic o
      → KeepsAt s (or_stays boot hint s p o)
  stays_sound boot hint s p None k = λ h. h
  stays_sound boot hint s p (Some t) k = k

  machine_sound : (boot hint : ℕ) (s : Site) (p : List ℕ) → KeepsAt s (machine_packet c boot hint s p)
  unfolding machine_packet
  machine_sound boot hint s p = by_test (KeepsAt s) (same_ip (key_of p).src s.host.machine)
      {x = or_stays boot hint s p (try_packet c s.traffic p)} {y = drop_turn s drop.BadSource}
      (λ _. stays_sound boot hint s p (try_packet c s.traffic p) (try_sound s.traffic p)) (λ _ h. h)

  read_sound : (boot hint : ℕ) (s : Site) (r : Result (List ℕ) PacketFault) → KeepsAt s (read_as c boot hint s r)
  read_sound boot hint s (Err fault) = λ h. h
  read_sound boot hint s (Ok p) = machine_sound boot hint s p

  of_machine_sound : (a : Agent) (bytes : List ℕ) (o : Option Host) → KeepsIn a (of_machine c a bytes o)
  of_machine_sound a bytes None = λ h. h
  of_machine_sound a bytes (Some host) = read_sound a.boot a.hint (site_at a host) (read_packet bytes)

  from_machine_sound : (a : Agent) (machine : Ip4) (bytes : List ℕ) → KeepsIn a (from_machine c a machine bytes)
  unfolding from_machine
  from_machine_sound a machine bytes = of_machine_sound a bytes (host_of a.hosts machine)

  -- ---- a Grant

  waits_sound : (s : Site) (p : List ℕ) (o : Option (Turn Traffic)) → May c s.traffic o → KeepsAt s (or_waits s p o)
  waits_sound s p None k = λ h. h
  waits_sound s p (Some t) k = k

  again_sound : (s : Site) (r : Result (List ℕ) PacketFault) → KeepsAt s (again c s r)
  again_sound s (Err fault) = λ h. h
  again_sound s (Ok p) = waits_sound s p (try_packet c s.traffic p) (try_sound s.traffic p)

  retry_sound : (bytes : List ℕ) (s : Site) → KeepsAt s (retry c bytes s)
  unfolding retry
  retry_sound bytes s = again_sound s (read_packet bytes)

  each_retry : (queue : List (List ℕ)) (s : Site) → KeepsAt s (each (retry c) queue s)
  unfolding each
  each_retry [] s h = h
  each_retry (bytes ∷ queue) s h = each_retry queue (retry c bytes s).state (retry_sound bytes s h)

  left_sound : (boot hint : ℕ) (s : Site) → KeepsAt s (ask_left boot hint s)
  left_sound boot hint s = by_test (KeepsAt s) (nat_le 1 (length s.host.queue))
      {x = of_host s (ask_for boot hint s.traffic.time s.host)}
      {y = quiet s} (λ _ h. h) (λ _ h. h)

  take_sound : (boot hint : ℕ) (s : Site) (seq n : ℕ) → KeepsAt s (take_grant c boot hint s seq n)
  unfolding take_grant
  take_sound boot hint s seq n h =
      left_sound boot hint (each (retry c) s.host.queue (begun s seq)).state (each_retry s.host.queue (begun s seq) h)

  -- a range is held, and none of its connections is open
  abbrev new_ranges : Ranges → ℕ → Range → Ip4 → ℕ → Ranges
  new_ranges p n r machine now = record p {
    held = inserted (new_held n r machine now) p.held;
    kept = insert_entry same_range p.kept r n;
  }

  no_number : (n : ℕ) (r : Range) (held : List Held) → clashes held n r ≡ false
      → Each (λ (h : Held). (h.n == n) ≡ false) held
  no_number n r [] e = tt
  no_number n r (h ∷ hs) e =
      let k = neither ((h.n == n) || same_range h.range r) (clashes hs n r) e in
      ((neither (h.n == n) (same_range h.range r) k.0).0, no_number n r hs k.1)

  granted_sound : (t : Traffic) (n : ℕ) (r : Range) (machine : Ip4) → is_old t.ranges n r ≡ false
      → has_snat c.vips r.vip machine ≡ true → is_leasable (lease_rules_of c) r ≡ true → IsSound c t
      → Sound c t.conns (new_ranges t.ranges n r machine t.time).held
  granted_sound t n r machine fresh snat leasable s =
      let old = neither (clashes t.ranges.held n r || list_any (λ m. m == n) t.ranges.returning)
      (nat_le n (kept_at t.ranges.kept r)) fresh in
      let free = (neither (clashes t.ranges.held n r) (list_any (λ m. m == n) t.ranges.returning) old.0).0 in
      let others = no_number n r t.ranges.held free in
      let x : Held = new_held n r machine t.time in
      let held : List Held = inserted x t.ranges.held in
      let same : (granted t.ranges n r machine t.time).0 ≡ new_ranges t.ranges n r machine t.time =
      granted_new t.ranges n r machine t.time fresh in record {
        keys = s.keys;
        apart = subst (λ (p : Ranges). AreApart (map lease_of p.held)) same
            ((holds_granted t.ranges n r machine t.time).apart s.apart);
        through = record {
          ranged = each_on (HasRange t.ranges.held) (HasRange held) (λ y h. record {
            range = h.range;
            there = in_inserted x h.range (place_for n t.ranges.held) t.ranges.held h.there;
            through = h.through;
          }) t.conns s.through.ranged;
          counts = each_inserted (IsCounted c t.conns) x (place_for n t.ranges.held) t.ranges.held
              (record {
                snat = snat;
                leasable = leasable;
                count = sym (count_none n t.conns (each_on (HasRange t.ranges.held) _ (λ y h.
                    subst (λ (m : ℕ). (m == n) ≡ false) h.through.number
                    (each_in (λ (k : Held). (k.n == n) ≡ false) t.ranges.held h.range others h.there))
                    t.conns s.through.ranged));
              })
              s.through.counts;
          few = s.through.few;
        };
      }

  took_sound : (a : Agent) (from : ℕ) (h : Host) (seq n : ℕ) (r : Range) → has_snat c.vips r.vip h.machine ≡ true
      → is_leasable (lease_rules_of c) r ≡ true
      → KeepsIn a (took c a from (site_at a h) seq n (granted a.traffic.ranges n r h.machine a.traffic.time))
  took_sound a from h seq n r snat leasable =
      by_test (λ (g : Ranges × Granting). KeepsIn a (took c a from (site_at a h) seq n g)) (is_old a.traffic.ranges n r)
      {x = (a.traffic.ranges, granting.Old (kept_at a.traffic.ranges.kept r))}
      {y = (new_ranges a.traffic.ranges n r h.machine a.traffic.time, granting.Held)}
      (λ _ s. s)
      (λ fresh s. take_sound a.boot from
      (record (site_at a h) {
        traffic = with_ranges a.traffic
            (new_ranges a.traffic.ranges n r h.machine a.traffic.time);
      }) seq n
      (granted_sound a.traffic n r h.machine fresh snat leasable s))

  grant_sound : (a : Agent) (from seq n : ℕ) (r : Range) (o : Option Host) → KeepsIn a (grant_to c a from seq n r o)
  grant_sound a from seq n r None = λ s. s
  grant_sound a from seq n r (Some h) =
      by_test (KeepsIn a) (has_snat c.vips r.vip h.machine && is_leasable (lease_rules_of c) r)
      {x = took c a from (site_at a h) seq n (granted a.traffic.ranges n r h.machine a.traffic.time)}
      {y = drop_turn a drop.NotMine}
      (λ may. (let k = both (has_snat c.vips r.vip h.machine) (is_leasable (lease_rules_of c) r) may in
      took_sound a from h seq n r k.0 k.1)) (λ _ s. s)

  own_sound : (a : Agent) (boot : ℕ) (t : Turn Agent) → KeepsIn a t → KeepsIn a (of_own_boot a boot t)
  own_sound a boot t k = by_test (KeepsIn a) (boot == a.boot) {x = t} {y = drop_turn a (drop.WrongBoot a.boot)}
      (λ _. k) (λ _ s. s)

  denied_sound : (a : Agent) (from seq : ℕ) (o : Option Host) → KeepsIn a (denied a from seq o)
  denied_sound a from seq None = λ s. s
  denied_sound a from seq (Some h) = by_test (KeepsIn a)
      (is_ask seq h.ask) {x = refused a from h} {y = drop_turn a drop.Late}
      (λ _ s. s) (λ _ s. s)

  replica_sound : (a : Agent) (from : ℕ) (m : Message) → KeepsIn a (from_replica c a from m)
  unfolding on_grant on_denied on_returned on_known
  replica_sound a from (message.Grant boot machine seq n vip start) =
      own_sound a boot (grant_to c a from seq n (range_at vip start) (host_of a.hosts machine))
      (grant_sound a from seq n (range_at vip start) (host_of a.hosts machine))
  replica_sound a from (message.Denied boot machine seq reason number) =
      own_sound a boot (denied a from seq (host_of a.hosts machine)) (denied_sound a from seq (host_of a.hosts machine))
  replica_sound a from (message.Returned boot n) =
      own_sound a boot (if is_returning n a.traffic.ranges then quiet
      (with_returned a from n) else drop_turn a drop.Late)
      (by_test (KeepsIn a) (is_returning n a.traffic.ranges) {x = quiet
      (with_returned a from n)} {y = drop_turn a drop.Late}
      (λ _ s. s) (λ _ s. s))
  replica_sound a from (message.AgentKnown boot) =
      own_sound a boot (quiet (record a { known = true; hint = from })) (λ s. s)
  replica_sound a from _ = λ s. s

  -- ---- wrapped packets

  reply_sound : (t : Traffic) (machine : Ip4) (p : List ℕ) (x : Connection) → In x t.conns → Keeps c t
      (reply t machine p x)
  unfolding reply hand
  reply_sound t machine p x there = by_test (Keeps c t) (same_ip x.machine machine)
      {x = also (hand (touched t x) x p) (closes (has_rst p) x)} {y = drop_turn t drop.WrongMachine}
      (λ _ s. closes_sound c (has_rst p) x (touched t x) (touched_stands t x (stands_itself t.conns x there))
      (touched_sound c t x s))
      (λ _ s. s)

  enters_sound : (t : Traffic) (p : List ℕ) (x : Connection) → Keeps c t (enters t p x)
  unfolding enters hand
  enters_sound t p x = by_test (Keeps c t) (nat_le most (length t.inbound)) {x = drop_turn t drop.TableFull} (λ _ s. s)
      (λ _ s. s)

  meets_sound : (t : Traffic) (sender : Who) (p : List ℕ) (made : Connection) (o : Option Connection)
      → Keeps c t (enters_or_meets t sender p made o)
  unfolding hand
  meets_sound t sender p made None = enters_sound t p made
  meets_sound t sender p made (Some x) = by_test (Keeps c t) (same_ip x.machine made.machine)
      {y = enters (record t { inbound = closed (private_key x) t.inbound }) p made} (λ _ s. s)
      (λ _. enters_sound (record t { inbound = closed (private_key x) t.inbound }) p made)

  server_sound : (t : Traffic) (sender : Who) (p : List ℕ) (made : Connection) → Keeps c t (to_server t sender p made)
  unfolding to_server
  server_sound t sender p made = by_test (Keeps c t) (is_some (by_private (private_key made) t.conns))
      {x = drop_turn t drop.KeyInUse} (λ _ s. s)
      (λ _. meets_sound t sender p made (by_public (public_key made) t.inbound))

  member_sound : (t : Traffic) (sender : Who) (machine : Ip4) (p : List ℕ) (o : Option Member)
      → Keeps c t (to_member t sender machine p o)
  member_sound t sender machine p None = λ s. s
  member_sound t sender machine p (Some m) = server_sound t sender p (new_entry t.time (key_of p) machine m.port)

  by_reply_sound : (t : Traffic) (sender : Who) (machine : Ip4) (p : List ℕ) (o : Option Connection)
      → by_public (reverse (key_of p)) t.conns ≡ o → Keeps c t (by_reply c t sender machine p o)
  by_reply_sound t sender machine p (Some x) e =
      reply_sound t machine p x (found_in (has_public (reverse (key_of p))) t.conns x e)
  by_reply_sound t sender machine p None e = member_sound t sender machine p (member_at c.vips (key_of p) machine)

  inner_sound : (t : Traffic) (sender : Who) (machine : Ip4) (r : Result (List ℕ) PacketFault)
      → Keeps c t (inner_as c t sender machine r)
  unfolding delivered
  inner_sound t sender machine (Err fault) = λ s. s
  inner_sound t sender machine (Ok p) = by_reply_sound t sender machine p (by_public (reverse (key_of p)) t.conns) refl

  outer_sound : (a : Agent) (sender : Who) (u : Unwrapped) → KeepsIn a (outer_as c a sender u)
  outer_sound a sender u = by_test (KeepsIn a) (not (is_own a.hosts u.outer_dst)) {x = drop_turn a drop.NotMine}
      (λ _ s. s)
      (λ _. by_test (KeepsIn a) (not (may_wrap c sender u.outer_src)) {x = drop_turn a drop.BadSender} (λ _ s. s)
      (λ _. inner_sound a.traffic sender u.outer_dst (read_packet u.bytes)))

  unwrapped_sound : (a : Agent) (sender : Who) (r : Result Unwrapped UnwrapFault) → KeepsIn a
      (unwrapped_as c a sender r)
  unwrapped_sound a sender (Err fault) = λ s. s
  unwrapped_sound a sender (Ok u) = outer_sound a sender u

  takes_sound : (a : Agent) (sender : Who) (bytes : List ℕ) → KeepsIn a (agent_takes c a sender bytes)
  unfolding agent_takes on_wrapped
  takes_sound a (who.Replica i) bytes = λ s. s
  takes_sound a (who.Mux i) bytes = unwrapped_sound a (who.Mux i) (unwrapped bytes)
  takes_sound a (who.Agent i) bytes = unwrapped_sound a (who.Agent i) (unwrapped bytes)
  takes_sound a (who.Machine machine) bytes = from_machine_sound a machine bytes
  takes_sound a who.Outside bytes = λ s. s

  -- ---- the clock

  -- each that is to close stands, and the keys of those behind it differ
  closing : (xs : List Connection) (t : Traffic) → Each (Stands t.conns) xs
      → OwnKeys private_key xs → Keeps c t (each close_conn xs t)
  unfolding each
  closing [] t st own s = s
  closing (x ∷ xs) t st own s =
      closing xs (close_conn x t).state (still xs st.1 own.0) own.1 (close_sound c x t st.0 s)
    where
      still : (ys : List Connection) → Each (Stands t.conns) ys
          → Each (λ y. same_key (private_key x) (private_key y) ≡ false) ys
          → Each (Stands (close_conn x t).state.conns) ys
      still [] h k = tt
      still (y ∷ ys) h k = (stands_closed x y t h.0 k.0, still ys h.1 k.1)

  mux_sound : (a : Agent) (from : ℕ) (m : Message) → KeepsIn a (from_mux c a from m)
  mux_sound a from (message.Redirect side n src sport dst dport opener server) = λ s. s
  mux_sound a from _ = λ s. s

  hears_sound : (a : Agent) (from : NodeId) (m : Message) → KeepsIn a (agent_hears c a from m)
  unfolding agent_hears
  hears_sound a (node.Replica from) m = replica_sound a from m
  hears_sound a (node.Mux from) m = mux_sound a from m
  hears_sound a (node.Agent from) m = λ s. s

  heard_sound : (a : Agent) (h : Heard) → KeepsIn a (by_heard (drop_turn a) (agent_hears c a) (agent_takes c a) h)
  heard_sound a (Refused cause) = λ s. s
  heard_sound a (Told from m) = hears_sound a from m
  heard_sound a (Brought sender bytes) = takes_sound a sender bytes

  -- ---- ranges are given back

  back_sound : (h : Held) (t : Traffic) → count_of h.n t.conns ≡ 0 → Keeps c t (give_back h t)
  unfolding give_back
  back_sound h t none s =
      let held : List Held = filter (λ (k : Held). not (k.n == h.n)) t.ranges.held in record {
        keys = s.keys;
        apart = (holds_given h.n t.ranges).apart s.apart;
        through = record {
          ranged = both_on t.conns s.through.ranged (none_of h.n t.conns none);
          counts = each_filter (IsCounted c t.conns) (λ (k : Held). not (k.n == h.n)) t.ranges.held s.through.counts;
          few = s.through.few;
        };
      }
    where
      both_on : (cs : List Connection) → Each (HasRange t.ranges.held) cs → Each
          (λ (x : Connection). (x.n == h.n) ≡ false) cs
          → Each (HasRange (filter (λ (k : Held). not (k.n == h.n)) t.ranges.held)) cs
      both_on [] a b = tt
      both_on (x ∷ xs) a b = (has_filtered h.n t.ranges.held x b.0 a.0, both_on xs a.1 b.1)

  gives_sound : (hs : List Held) (t : Traffic) → Each (λ (h : Held). count_of h.n t.conns ≡ 0) hs
      → Keeps c t (each give_back hs t)
  unfolding each give_back
  gives_sound [] t none s = s
  gives_sound (h ∷ hs) t none s = gives_sound hs (give_back h t).state none.1 (back_sound h t none.0 s)

  spare_sound : (hosts : List Host) (idle : ℕ) (t : Traffic) → Keeps c t (give_back_spare hosts idle t)
  unfolding give_back_spare
  spare_sound hosts idle t s =
      gives_sound (filter (is_spare hosts t.time idle) t.ranges.held) t
      (each_passing (IsCounted c t.conns) (λ (h : Held). count_of h.n t.conns ≡ 0) (is_spare hosts t.time idle)
      (λ h k spare. sym k.count ∙ is_equal h.count 0 (both (h.count == 0) _ (both _ _ spare).0).0)
      t.ranges.held s.through.counts) s

  idle_sound : (hosts : List Host) (t : Traffic) → Keeps c t (idle_leave c hosts t)
  unfolding idle_leave close_idle forget_inbound
  idle_sound hosts t s =
      let xs : List Connection = filter (is_idle t.time c.timers.flow_idle) t.conns in
      spare_sound hosts c.timers.range_idle (forget_inbound c.timers.flow_idle (each close_conn xs t).state).state
      (closing xs t (all_stand t.conns)
      (own_filter private_key (is_idle t.time c.timers.flow_idle) t.conns s.keys.private_keys) s)
    where
      all_stand : (cs : List Connection) → Each (Stands cs) (filter (is_idle t.time c.timers.flow_idle) cs)
      all_stand cs = each_passing (λ (x : Connection). In x cs) (Stands cs) (is_idle t.time c.timers.flow_idle)
          (λ x i _. stands_itself cs x i) cs (each_itself cs)

  tick_sound : (a : Agent) (now : ℕ) → KeepsIn a (on_tick c a now)
  unfolding on_tick says_again
  tick_sound a now s = idle_sound a.hosts (at_now a now) s

  -- ---- whatever comes

  step_sound : (a : Agent) (x : Input) → KeepsIn a (agent_step c a x)
  unfolding agent_step
  step_sound a (Arrived from bytes) = heard_sound a (heard c from bytes)
  step_sound a (Ticked now) = tick_sound a now

pub stays_held : (c : ConfigParts) (a : Agent) (x : Input) → KeepsRules c → KeysApart a.traffic.conns
    → AreApart (map lease_of a.traffic.ranges.held) → ConnsAreHeld c a.traffic.conns a.traffic.ranges.held
    → ConnsAreHeld c (agent_step c a x).state.traffic.conns (agent_step c a x).state.traffic.ranges.held
stays_held c a x rules keys apart h =
    (step_sound c rules a x (record { keys = keys; apart = apart; through = h })).through

pub opens_held : (c : ConfigParts) (index : ℕ) (entries : List Entry)
    → ConnsAreHeld c (opened_agent c index entries).traffic.conns (opened_agent c index entries).traffic.ranges.held
unfolding opened_agent
opens_held c index entries = record { ranged = tt; counts = tt; few = omega arith }
