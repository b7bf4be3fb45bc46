-- A reply to a live connection reaches its machine alone: its agent finds it by the five numbers, no other agent has
-- them, and its port is no endpoint's.
use Rattle.std.proofs.Common.{◌≡◌, refl, sym, ap, subst, ◌∙◌, ◌⊎◌, inl, inr, ℕ, zero, suc, ◌+◌, ◌-◌, ◌%◌}
use Rattle.std.proofs.Common.{◌≤◌, Bool, true}
use Rattle.std.proofs.Common.{false, not, List, [], ◌∷◌, map, Option, Some, None, arith}
use Rattle.std.specs.Prelude.{◌==◌, ◌&&◌, ◌||◌, nat_le, slice_get, slice_index_or, Result, Ok, if◌then◌else◌, find}
use Rattle.std.specs.List.{list_any}
use Rattle.std.proofs.lemmas.Bool.Decides.{nat_tests}
use Rattle.wire_core.proofs.SameLaws.{ip_is, key_is}
use Rattle.wire_core.specs.Flows.{reverse}
use Rattle.wire_core.specs.Members.{In}
use Rattle.wire_core.specs.Ranges.{allows, has_port, is_leasable, range_of}
use Rattle.wire_core.specs.Same.{same_ip}
use Rattle.wire_core.specs.declared.address.Ip4.{Ip4}
use Rattle.wire_core.specs.declared.cause.DropCause.TheVariants as drop
use Rattle.wire_core.specs.declared.connection.Conn.{Conn}
use Rattle.wire_core.specs.declared.flow.FlowKey.{FlowKey}
use Rattle.wire_core.specs.declared.node.NodeId.TheVariants.{Agent}
use Rattle.wire_core.specs.declared.range.Range.{Range}
use Rattle.wire_core.specs.declared.rules.VipRule.{VipRule}
use Rattle.config_text.specs.declared.vips.Endpoint.{Endpoint}
use Rattle.config_text.specs.declared.vips.Member.{Member}
use Rattle.packet_spec.specs.declared.fault.PacketFault.{PacketFault}
use Rattle.packet_spec.specs.Packets.{has_rst, key_of, read_packet}
use Rattle.ipip.specs.Wrapping.{Unwrapped, unwrapped}
use Rattle.ipip.specs.declared.unwrapping.UnwrapFault.{UnwrapFault}
use Rattle.vip_config.specs.Leases.{lease_rules_of, taken_ports, vip_rule}
use Rattle.vip_config.specs.Rules.{Once}
use Rattle.vip_config.specs.Serving.{endpoint_for, endpoints_at, member_at, member_in, serves}
use Rattle.vip_config.specs.declared.parts.ConfigParts.{ConfigParts}
use Rattle.vip_config.specs.declared.parts.VipConf.{VipConf}
use Rattle.vip_config.specs.declared.who.Who.{Who}
use Rattle.vip_config.specs.declared.who.Who.TheVariants as who
use Rattle.node_spec.specs.Datagrams.{Heard, by_heard}
use Rattle.node_spec.specs.Sends.{Send}
use Rattle.node_spec.specs.Turns.{Input, Turn, also, drop_turn}
use Rattle.agent_spec.specs.Agent.{Agent as AgentLists, Traffic, is_own}
use Rattle.agent_spec.specs.AgentTable.{agent_hears, agent_step, agent_takes}
use Rattle.agent_spec.specs.Connections.{by_public, conn_of, has_public, public_key}
use Rattle.agent_spec.specs.Through.{HasRange, IsCounted}
use Rattle.agent_spec.specs.Traffic.{close_conn, closes, hand, touched}
use Rattle.agent_spec.specs.Wrapped.{by_reply, delivered, inner_as, may_wrap, on_wrapped, outer_as, reply, to_member}
use Rattle.agent_spec.specs.Wrapped.{unwrapped_as}
use Rattle.agent_spec.specs.declared.connection.Connection.{Connection}
use Rattle.lease_spec.proofs.MemberLaws.{by_if, each_in, found_in, found_passes, in_cases, in_map}
use Rattle.world_spec.specs.Facts.{Reached}
use Rattle.world_spec.specs.Nodes.{Lists, OfManager, OfMux, OfAgent}
use Rattle.world_spec.specs.Views.{conns, conns_of}
use Rattle.world_spec.specs.World.{Site, World, at, nobody, site}
use Rattle.world_laws.specs.Agents.{AgentIsRight}
use Rattle.world_laws.specs.Hearing.{IsSound}
use Rattle.world_laws.specs.Replies.{RepliesReachTheirMachine, brings, handed}
use Rattle.world_laws.specs.Safety.{outer_end}
use Rattle.world_laws.proofs.AgentLaws.{agents_at}
use Rattle.world_laws.proofs.Ends.{at_place, conns_apart, from_flat, image_of, in_flat}
use Rattle.world_laws.proofs.Single.{single}

-- ---- a leasable range has no endpoint's port

both : (a b : Bool) → (a && b) ≡ true → (a ≡ true) × (b ≡ true)
both true true e = (refl, refl)
both true false e = absurd (cc)
both false b e = absurd (cc)

either : (a b : Bool) → (a || b) ≡ true → (a ≡ true) ⊎ (b ≡ true)
either true b e = inl refl
either false b e = inr e

-- the rule is of this VIP and allows the range of this port
abbrev has_range : Ip4 → ℕ → VipRule → Bool
has_range a port rule = (rule.vip.0 == a.0) && allows rule (port - port % 8)

abbrev address_of : VipConf → Ip4
address_of vip = vip.address

rule_there : (a : Ip4) (port : ℕ) (vips : List VipConf) → list_any (has_range a port) (map vip_rule vips) ≡ true
    → In a (map address_of vips)
rule_there a port [] e = absurd (cc)
rule_there a port (v ∷ vs) e =
    elim (either (has_range a port (vip_rule v)) (list_any (has_range a port) (map vip_rule vs)) e) [
      | inl here ↦ inl (ip_is v.address a (both (v.address.0 == a.0) (allows (vip_rule v) (port - port % 8)) here).0)
      | inr later ↦ inr (rule_there a port vs later)
    ]

abbrev endpoints_if : Ip4 → VipConf → List Endpoint
endpoints_if a vip = if same_ip vip.address a then vip.endpoints else []

-- an endpoint is of a VIP with this address
at_vip : (a : Ip4) (v : VipConf) (e : Endpoint) → In e (endpoints_if a v) → (v.address ≡ a) × In e v.endpoints
at_vip a v e = by (same_ip v.address a) refl
  where
    by : (b : Bool) → same_ip v.address a ≡ b → In e (if b then v.endpoints else [])
        → (v.address ≡ a) × In e v.endpoints
    by true is i = (ip_is v.address a is, i)
    by false is i = absurd i

endpoint_there : (a : Ip4) (vips : List VipConf) (e : Endpoint) → In e (endpoints_at vips a)
    → In a (map address_of vips)
endpoint_there a [] e i = absurd i
endpoint_there a (v ∷ vs) e i = elim (in_cases (endpoints_if a v) (endpoints_at vs a) e i) [
  | inl here ↦ inl (at_vip a v e here).0
  | inr later ↦ inr (endpoint_there a vs e later)
]

-- a range has its ports
at_most : (a b : ℕ) → a ≤ b → nat_le a b ≡ true
at_most a b le = grind (arith, nat_tests, le)

in_range : (port : ℕ) → has_port (port - port % 8) port ≡ true
in_range port =
    let low : nat_le (port - port % 8) port ≡ true = at_most (port - port % 8) port (omega arith) in
    let high : nat_le port (port - port % 8 + 7) ≡ true = at_most port (port - port % 8 + 7) (omega arith) in
    rw (low, high) refl

taken_there : (start port : ℕ) (es : List Endpoint) (e : Endpoint) → In e es → e.port ≡ port
    → has_port start port ≡ true → list_any (has_port start) (taken_ports es) ≡ true
taken_there start port [] e i same has = absurd i
taken_there start port (x ∷ xs) e i same has = elim i [
  | inl here ↦ first (has_port start x.port) (list_any (has_port start) (taken_ports xs))
      (ap (has_port start) (ap (λ (y : Endpoint). y.port) here ∙ same) ∙ has)
  | inr later ↦ second (has_port start x.port) (list_any (has_port start) (taken_ports xs))
      (taken_there start port xs e later same has)
]
  where
    first : (a b : Bool) → a ≡ true → (a || b) ≡ true
    first true b h = refl
    first false b h = absurd (cc)

    second : (a b : Bool) → b ≡ true → (a || b) ≡ true
    second true b h = refl
    second false b h = h

not_taken : (rule : VipRule) (start : ℕ) → allows rule start ≡ true → list_any (has_port start) rule.taken ≡ true → ⊥
not_taken rule start allowed taken = absurd (
    let free : not (list_any (has_port start) rule.taken) ≡ true =
    last (start % 8 == 0) (nat_le rule.low start) (nat_le (start + 7) rule.high)
    (not (list_any (has_port start) rule.taken)) allowed in
    let false_is : false ≡ true = sym (ap not taken) ∙ free in cc)
  where
    last : (a b c d : Bool) → (a && b && c && d) ≡ true → d ≡ true
    last true true true d e = e
    last true true false d e = absurd (cc)
    last true false c d e = absurd (cc)
    last false b c d e = absurd (cc)

-- no endpoint of the VIP has a port of a range that the VIP's rule allows
no_endpoint : (a : Ip4) (port : ℕ) (vips : List VipConf) → Once (map address_of vips) → (e : Endpoint)
    → In e (endpoints_at vips a) → e.port ≡ port → list_any (has_range a port) (map vip_rule vips) ≡ true → ⊥
no_endpoint a port [] once e i same has = i
no_endpoint a port (v ∷ vs) once e i same has =
    elim (in_cases (endpoints_if a v) (endpoints_at vs a) e i) [
      | inl here ↦ elim (either (has_range a port (vip_rule v)) (list_any (has_range a port) (map vip_rule vs)) has) [
        | inl allowed ↦ not_taken (vip_rule v) (port - port % 8)
            (both (v.address.0 == a.0) (allows (vip_rule v) (port - port % 8)) allowed).1
            (taken_there (port - port % 8) port v.endpoints e (at_vip a v e here).1 same (in_range port))
        | inr later ↦ once.0 (subst (λ (k : Ip4). In k (map address_of vs)) (sym (at_vip a v e here).0)
            (rule_there a port vs later))
      ]
      | inr later ↦ elim (either (has_range a port (vip_rule v)) (list_any (has_range a port) (map vip_rule vs)) has) [
        | inl allowed ↦ once.0 (subst (λ (k : Ip4). In k (map address_of vs))
            (sym (ip_is v.address a (both (v.address.0 == a.0) (allows (vip_rule v) (port - port % 8)) allowed).0))
            (endpoint_there a vs e later))
        | inr also_later ↦ no_endpoint a port vs once.1 e later same also_later
      ]
    ]

-- so no machine serves such a port
no_member : (vips : List VipConf) (k : FlowKey) (machine : Ip4) (m : Member) → Once (map address_of vips)
    → list_any (has_range k.dst k.dport) (map vip_rule vips) ≡ true → member_at vips k machine ≡ Some m → ⊥
unfolding member_at endpoint_for
no_member vips k machine m once has = by (find (serves k) (endpoints_at vips k.dst)) refl
  where
    port_is : (e : Endpoint) → serves k e ≡ true → e.port ≡ k.dport
    port_is e s = (let port : (e.port == k.dport) ≡ true = (both _ (e.port == k.dport) s).1 in
        grind (arith, nat_tests, port))

    by : (o : Option Endpoint) → find (serves k) (endpoints_at vips k.dst) ≡ o → member_in machine o ≡ Some m → ⊥
    by None is served = absurd (cc)
    by (Some e) is served = no_endpoint k.dst k.dport vips once e
        (found_in (serves k) (endpoints_at vips k.dst) e is)
        (port_is e (found_passes (serves k) (endpoints_at vips k.dst) e is)) has

-- ---- a turn that sends nothing, or this alone

abbrev Only : Send → List Send → Type 0
Only s xs = (xs ≡ []) ⊎ (xs ≡ s ∷ [])

closes_sends : (rst : Bool) (x : Connection) (t : Traffic) → (closes rst x t).sends ≡ []
unfolding close_conn
closes_sends true x t = refl
closes_sends false x t = refl

reply_only : (t : Traffic) (machine : Ip4) (p : List ℕ) (x : Connection)
    → Only (handed (conn_of x) p) (reply t machine p x).sends
unfolding reply hand
reply_only t machine p x =
    by_if (λ (u : Turn Traffic). Only (handed (conn_of x) p) u.sends) (same_ip x.machine machine)
    {y = drop_turn t drop.WrongMachine}
    (λ _. inr (ap (λ (l : List Send). handed (conn_of x) p ∷ l)
    (closes_sends (has_rst p) x (hand (touched t x) x p).state)))
    (λ _. inl refl)

-- ---- an agent of a world

site_of : (xs : List Site) (i : ℕ) (l : Lists) → (slice_index_or xs i nobody).up ≡ Some l
    → (s : Site) × (slice_get xs i ≡ Some s) × (s.up ≡ Some l)
site_of [] i l e = absurd (cc)
site_of (x ∷ xs) zero l e = (x, refl, e)
site_of (x ∷ xs) (suc i) l e = site_of xs i l e

module _ (cfg : ConfigParts) (sound : IsSound cfg) (w : World) (r : Reached cfg w) where
  right : (i : ℕ) (a : AgentLists) → at w (Agent i) ≡ Some (OfAgent a) → AgentIsRight cfg w i a
  right i a is = (agents_at cfg sound w r).lists (Agent i) (OfAgent a) is

  -- a connection of an agent that is up is live
  is_live : (i : ℕ) (a : AgentLists) → at w (Agent i) ≡ Some (OfAgent a) → (x : Connection) → In x a.traffic.conns
      → In (conn_of x) (conns w)
  unfolding conns site
  is_live i a is x there =
      let s : (s : Site) × (slice_get w.agents i ≡ Some s) × (s.up ≡ Some (OfAgent a)) =
      site_of w.agents i (OfAgent a) is in
      in_flat (λ (z : Site). conns_of z.up) w.agents i s.0 (conn_of x) s.1
      (subst (λ (o : Option Lists). In (conn_of x) (conns_of o)) (sym s.2)
      (in_map conn_of a.traffic.conns x there))

  -- the range of a connection's port, as one that may be leased
  abbrev IsThrough : Conn → Type 0
  IsThrough c = is_leasable (lease_rules_of cfg) (range_of c.vip c.port) ≡ true

  of_lists : (i : ℕ) (o : Option Lists) → at w (Agent i) ≡ o → (c : Conn) → In c (conns_of o) → IsThrough c
  of_lists i None is c there = absurd there
  of_lists i (Some (OfManager m)) is c there = absurd there
  of_lists i (Some (OfMux m)) is c there = absurd there
  of_lists i (Some (OfAgent a)) is c there =
      let x = image_of conn_of a.traffic.conns c there in
      let h : HasRange a.traffic.ranges.held x.item =
      each_in (HasRange a.traffic.ranges.held) a.traffic.conns x.item (right i a is).through.ranged x.there in
      let counted : IsCounted cfg a.traffic.conns h.range =
      each_in (IsCounted cfg a.traffic.conns) a.traffic.ranges.held h.range (right i a is).through.counts h.there in
      subst IsThrough x.is (subst (λ (g : Range). is_leasable (lease_rules_of cfg) g ≡ true) h.through.range
      counted.leasable)

  through : (c : Conn) → In c (conns w) → IsThrough c
  unfolding conns
  through c there =
      let k = from_flat (λ (z : Site). conns_of z.up) w.agents c there in
      of_lists k.place k.item.up (at_place w k.place k.item k.is) c k.there

  module _ (agent : ℕ) (a : AgentLists) (is : at w (Agent agent) ≡ Some (OfAgent a)) (c : Conn) (live : In c (conns w))
      (p : List ℕ) (key : reverse (key_of p) ≡ outer_end c) where
    -- the connection that the agent finds is this one
    found : (x : Connection) → by_public (reverse (key_of p)) a.traffic.conns ≡ Some x → conn_of x ≡ c
    unfolding public_key
    found x e =
        let there : In x a.traffic.conns = found_in (has_public (reverse (key_of p))) a.traffic.conns x e in
        let same : public_key x ≡ reverse (key_of p) =
        key_is (public_key x) (reverse (key_of p))
        (found_passes (has_public (reverse (key_of p))) a.traffic.conns x e) in
        single outer_end (conns w) (conns_apart cfg sound w r).outer (conn_of x) c (is_live agent a is x there) live
        (same ∙ key)

    -- the port isn't an endpoint's
    not_served : (machine : Ip4) (m : Member) → member_at cfg.vips (key_of p) machine ≡ Some m → ⊥
    not_served machine m =
        let vip : c.vip ≡ (key_of p).dst = sym (ap (λ (k : FlowKey). k.src) key) in
        let port : c.port ≡ (key_of p).dport = sym (ap (λ (k : FlowKey). k.sport) key) in
        no_member cfg.vips (key_of p) machine m sound.rules.vips
        (subst (λ (v : Ip4). list_any (has_range v (key_of p).dport) (map vip_rule cfg.vips) ≡ true) vip
        (subst (λ (n : ℕ). list_any (has_range c.vip n) (map vip_rule cfg.vips) ≡ true) port (through c live)))

    member_only : (t : Traffic) (sender : Who) (machine : Ip4) (o : Option Member)
        → member_at cfg.vips (key_of p) machine ≡ o → Only (handed c p) (to_member t sender machine p o).sends
    member_only t sender machine None e = inl refl
    member_only t sender machine (Some m) e = absurd (not_served machine m e)

    by_reply_only : (sender : Who) (machine : Ip4) (o : Option Connection)
        → by_public (reverse (key_of p)) a.traffic.conns ≡ o
        → Only (handed c p) (by_reply cfg a.traffic sender machine p o).sends
    by_reply_only sender machine (Some x) e =
        subst (λ (d : Conn). Only (handed d p) (reply a.traffic machine p x).sends) (found x e)
        (reply_only a.traffic machine p x)
    by_reply_only sender machine None e =
        member_only a.traffic sender machine (member_at cfg.vips (key_of p) machine) refl

    inner_only : (sender : Who) (machine : Ip4) → Only (handed c p) (inner_as cfg a.traffic sender machine (Ok p)).sends
    unfolding delivered
    inner_only sender machine = by_reply_only sender machine (by_public (reverse (key_of p)) a.traffic.conns) refl

    outer_only : (sender : Who) (u : Unwrapped) → read_packet u.bytes ≡ Ok p
        → Only (handed c p) (outer_as cfg a sender u).sends
    outer_only sender u inner =
        by_if (λ (t : Turn AgentLists). Only (handed c p) t.sends) (not (is_own a.hosts u.outer_dst))
        {x = drop_turn a drop.NotMine} (λ _. inl refl)
        (λ _. by_if (λ (t : Turn AgentLists). Only (handed c p) t.sends) (not (may_wrap cfg sender u.outer_src))
        {x = drop_turn a drop.BadSender} (λ _. inl refl)
        (λ _. subst (λ (q : Result (List ℕ) PacketFault).
        Only (handed c p) (inner_as cfg a.traffic sender u.outer_dst q).sends) (sym inner)
        (inner_only sender u.outer_dst)))

    wrapped_only : (sender : Who) (frame : List ℕ) (u : Unwrapped) → unwrapped frame ≡ Ok u → read_packet u.bytes ≡ Ok p
        → Only (handed c p) (on_wrapped cfg a sender frame).sends
    unfolding on_wrapped
    wrapped_only sender frame u outer inner =
        subst (λ (q : Result Unwrapped UnwrapFault). Only (handed c p) (unwrapped_as cfg a sender q).sends) (sym outer)
        (outer_only sender u inner)

    takes_only : (sender : Who) → brings sender ≡ true → (frame : List ℕ) (u : Unwrapped) → unwrapped frame ≡ Ok u
        → read_packet u.bytes ≡ Ok p → Only (handed c p) (agent_takes cfg a sender frame).sends
    unfolding agent_takes
    takes_only (who.Replica i) may frame u outer inner = absurd (cc)
    takes_only (who.Mux i) may frame u outer inner = wrapped_only (who.Mux i) frame u outer inner
    takes_only (who.Agent i) may frame u outer inner = wrapped_only (who.Agent i) frame u outer inner
    takes_only (who.Machine m) may frame u outer inner = absurd (cc)
    takes_only who.Outside may frame u outer inner = absurd (cc)

  pub replies_reach : RepliesReachTheirMachine cfg w
  unfolding agent_step
  replies_reach agent a is c live input p h =
      subst (λ (i : Input). Only (handed c p) (agent_step cfg a i).sends) (sym h.arrived)
      (subst (λ (x : Heard).
      Only (handed c p) (by_heard (drop_turn a) (agent_hears cfg a) (agent_takes cfg a) x).sends) (sym h.brought)
      (takes_only agent a is c live p h.key h.sender h.may_bring h.frame h.outer h.outer_is h.inner_is))
