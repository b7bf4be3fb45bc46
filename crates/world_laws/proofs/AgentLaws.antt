-- In every world an agent holds leases of its own alone, and what it gave back stays away.
use Rattle.std.proofs.Common.{◌≡◌, ◌≢◌, refl, sym, ap, subst, ◌∙◌, ◌⊎◌, inl, inr, ℕ, suc, ◌+◌, ◌<◌, ◌≤◌, Bool, true}
use Rattle.std.proofs.Common.{false, List, [], ◌∷◌, ◌++◌, map, filter, Option, Some, None, arith, max, append-nil}
use Rattle.std.specs.Prelude.{fold}
use Rattle.std.proofs.lemmas.Grind.{fold-append}
use Rattle.wire_core.specs.Members.{In, Each}
use Rattle.wire_core.specs.declared.address.Ip4.{Ip4}
use Rattle.wire_core.specs.declared.entry.Entry.{Entry}
use Rattle.wire_core.specs.declared.entry.Entry.TheVariants as entry
use Rattle.wire_core.specs.declared.node.NodeId.{NodeId}
use Rattle.wire_core.specs.declared.node.NodeId.TheVariants.{Replica, Mux, Agent}
use Rattle.wire_core.specs.declared.range.Range.{Range}
use Rattle.control_msg.specs.declared.message.Message.{Message}
use Rattle.control_msg.specs.declared.message.Message.TheVariants as message
use Rattle.vip_config.specs.declared.parts.ConfigParts.{ConfigParts}
use Rattle.agent_spec.proofs.Answering.{opens_apart, stays_apart}
use Rattle.agent_spec.proofs.LeaseMoves.{step_moves}
use Rattle.agent_spec.proofs.Through.{opens_held, stays_held}
use Rattle.agent_spec.proofs.Unique.{opened_apart, step_keeps}
use Rattle.agent_spec.specs.Agent.{Agent as AgentLists, opened_agent}
use Rattle.agent_spec.specs.AgentTable.{agent_step}
use Rattle.agent_spec.specs.Leases.{TurnMoves as AgentMoves}
use Rattle.agent_spec.specs.Ranges.{Ranges}
use Rattle.lease_spec.proofs.MemberLaws.{each_in, each_map, each_on, each_passing, in_cases, in_left}
use Rattle.lease_spec.specs.declared.row.Row.{Row}
use Rattle.node_spec.specs.Boots.{boot_after, boot_of}
use Rattle.node_spec.specs.Sends.{Place, ToNode, ToMachine, ToRouter, Said, Says, Carries, Send}
use Rattle.node_spec.specs.Turns.{Input, Turn}
use Rattle.world_spec.proofs.Principle.{always}
use Rattle.world_spec.specs.Events.{AreNamed, Basic, world}
use Rattle.world_spec.specs.Facts.{Holds, Keeps, Reached, Steps}
use Rattle.world_spec.specs.Nodes.{Lists, OfManager, OfMux, OfAgent, boot_entry, booted, listed, node_turn, opened}
use Rattle.world_spec.specs.Shapes.{Given, Grows, TurnMoves}
use Rattle.world_spec.specs.World.{Site, World, Sent, all_sent, at, disk, first_world, is_placed, sent_by}
use Rattle.world_laws.specs.Agents.{AgentIsRight, AgentsAreRight, AgentsTellTheirOwn, HasReturned, IsBack, IsOfOwnBoot}
use Rattle.world_laws.specs.Agents.{IsOwn, IsOwnSaying, RangesAre, agent_boot}
use Rattle.world_laws.specs.Grants.{IsLease}
use Rattle.world_laws.specs.Hearing.{IsSound, ListsFit}
use Rattle.world_laws.specs.Living.{LivesGoOn}
use Rattle.world_laws.specs.Reasons.{AnyEntry}
use Rattle.world_laws.specs.Sayings.{AgentSays, IsOfAgent}
use Rattle.world_laws.proofs.AgentSayings.{agent_says}
use Rattle.world_laws.proofs.Births.{born_once}
use Rattle.world_laws.proofs.GrantLaws.{goes_on, lease_on}
use Rattle.world_laws.proofs.Heard.{first_have, hearing_at, none_said}
use Rattle.world_laws.proofs.LeaseSteps.{are_on, moves_are}
use Rattle.world_laws.proofs.ReasonLaws.{any_entry}
use Rattle.world_laws.proofs.Taken.{taken_is_lease}

-- ---- boots

boot_up : (b : ℕ) (e : Entry) → b ≤ boot_after b e
boot_up b (entry.Boot version role index boot) = omega arith
boot_up b (entry.Promise ballot) = omega arith
boot_up b (entry.Vote ballot value) = omega arith
boot_up b (entry.Learn ballot value) = omega arith
boot_up b (entry.Epoch epoch) = omega arith

boots_up : (es : List Entry) (b : ℕ) → b ≤ fold boot_after b es
boots_up [] b = omega arith
boots_up (e ∷ es) b = let here : b ≤ boot_after b e = boot_up b e in
    let rest : boot_after b e ≤ fold boot_after (boot_after b e) es = boots_up es (boot_after b e) in omega
    (arith, here, rest)

boot_rises : (es fs : List Entry) → boot_of es ≤ boot_of (es ++ fs)
unfolding boot_of
boot_rises es fs = subst (λ (k : ℕ). fold boot_after 0 es ≤ k) (sym (fold-append boot_after 0 es fs))
    (boots_up fs (fold boot_after 0 es))

boot_next : (x : NodeId) (es : List Entry) → boot_of (booted x es) ≡ boot_of es + 1
unfolding boot_of
boot_next x es = fold-append boot_after 0 es (boot_entry x es ∷ []) ∙ higher (fold boot_after 0 es)
  where
    higher : (b : ℕ) → max b (b + 1) ≡ b + 1
    higher b = omega arith

up_boot : (x : NodeId) (w u : World) → Grows x w u → (agent : ℕ) → agent_boot w agent ≤ agent_boot u agent
up_boot x w u g agent =
    let more = g.disk_more (Agent agent) in
    subst (λ (es : List Entry). boot_of (disk w (Agent agent)) ≤ boot_of es) (sym more.1)
    (boot_rises (disk w (Agent agent)) more.0)

at_most : (a b c : ℕ) → a ≤ b → b ≤ c → a ≤ c
at_most a b c h k = omega arith

-- ---- what was said stays true

own_on : (cfg : ConfigParts) (w u : World) → LivesGoOn cfg w u → (agent boot n : ℕ) → IsOwn cfg w agent boot n
    → IsOwn cfg u agent boot n
own_on cfg w u on agent boot n h = record {
  range = h.range;
  machine = h.machine;
  lease = lease_on cfg w u on agent boot n h.range h.machine h.lease;
}

saying_on : (cfg : ConfigParts) (w u : World) → LivesGoOn cfg w u → (agent : ℕ)
    → agent_boot w agent ≤ agent_boot u agent
    → (said : Said) → IsOfOwnBoot cfg w agent said → IsOfOwnBoot cfg u agent said
saying_on cfg w u on agent up (Says (message.Ask boot machine seq)) h = at_most boot _ _ h up
saying_on cfg w u on agent up (Says (message.AgentUp boot)) h = at_most boot _ _ h up
saying_on cfg w u on agent up (Says (message.Return boot n)) h =
    (at_most boot _ _ h.0 up, own_on cfg w u on agent boot n h.1)
saying_on cfg w u on agent up (Says (message.Prepare c)) h = absurd h
saying_on cfg w u on agent up (Says (message.Promise c l vote value)) h = absurd h
saying_on cfg w u on agent up (Says (message.Accept c t v)) h = absurd h
saying_on cfg w u on agent up (Says (message.Accepted c t)) h = absurd h
saying_on cfg w u on agent up (Says (message.Refuse c p)) h = absurd h
saying_on cfg w u on agent up (Says (message.Chosen t c v)) h = absurd h
saying_on cfg w u on agent up (Says (message.Fetch t)) h = absurd h
saying_on cfg w u on agent up (Says (message.Grant boot machine seq n vip start)) h = absurd h
saying_on cfg w u on agent up (Says (message.Denied boot machine seq reason number)) h = absurd h
saying_on cfg w u on agent up (Says (message.Returned boot n)) h = absurd h
saying_on cfg w u on agent up (Says (message.AgentKnown boot)) h = absurd h
saying_on cfg w u on agent up (Says (message.MuxHello boot epoch)) h = absurd h
saying_on cfg w u on agent up (Says (message.Program epoch boot n vip start machine)) h = absurd h
saying_on cfg w u on agent up (Says (message.Programmed epoch boot n)) h = absurd h
saying_on cfg w u on agent up (Says (message.Unprogram epoch boot n vip start)) h = absurd h
saying_on cfg w u on agent up (Says (message.Unprogrammed epoch boot n)) h = absurd h
saying_on cfg w u on agent up (Says (message.MuxRefuse epoch boot keeps)) h = absurd h
saying_on cfg w u on agent up (Says (message.Lead c l)) h = absurd h
saying_on cfg w u on agent up (Says (message.RedirectAsk src sport dst dport machine)) h = absurd h
saying_on cfg w u on agent up (Says (message.Redirect side n src sport dst dport opener server)) h = absurd h
saying_on cfg w u on agent up (Carries packet) h = tt

own_saying_on : (cfg : ConfigParts) (w u : World) (x : NodeId) → LivesGoOn cfg w u → Grows x w u → (y : NodeId)
    (said : Said)
    → IsOwnSaying cfg w y said → IsOwnSaying cfg u y said
own_saying_on cfg w u x on g (Replica i) said h = tt
own_saying_on cfg w u x on g (Mux i) said h = tt
own_saying_on cfg w u x on g (Agent agent) said h = saying_on cfg w u on agent (up_boot x w u g agent) said h

-- ---- what an agent sends

-- a Return as a datagram
abbrev pub return_of : ℕ → ℕ → NodeId → ℕ → Sent
return_of agent boot to n = record { from = Agent agent; to = ToNode to; said = Says (message.Return boot n) }

-- what another node sends is no Return of this agent
other_silent : (x : NodeId) (agent boot : ℕ) (to : NodeId) (n : ℕ) → Agent agent ≢ x → (ss : List Sent)
    → Each (λ (s : Sent). s.from ≡ x) ss → In (return_of agent boot to n) ss → ⊥
other_silent x agent boot to n ne ss own i =
    ne (each_in (λ (s : Sent). s.from ≡ x) ss (return_of agent boot to n) own i)

-- under a step of another node it returned nothing more
returned_back : (x : NodeId) (w u : World) → Grows x w u → (agent boot : ℕ) → Agent agent ≢ x → (n : ℕ)
    → HasReturned u agent boot n → HasReturned w agent boot n
returned_back x w u g agent boot ne n h =
    let more = g.sent_more in
    let i : In (return_of agent boot h.to n) (w.sent ++ more.0) = subst
    (In (return_of agent boot h.to n)) more.1 h.sent in
    record {
      to = h.to;
      sent = elim (in_cases w.sent more.0 (return_of agent boot h.to n) i) [
        | inl old ↦ old
        | inr new ↦ absurd (other_silent x agent boot h.to n ne more.0 more.2 new)
      ];
    }

some_is : {X : Type 0} (a b : X) → Some a ≡ Some b → a ≡ b
some_is a b e = cc

send_is : (x : NodeId) (s : Send) (agent boot : ℕ) (to : NodeId) (n : ℕ) → sent_by x s ≡ return_of agent boot to n
    → s.said ≡ Says (message.Return boot n)
send_is x s agent boot to n e = ap (λ (d : Sent). d.said) e

-- a Return among what a turn sends is of a number that is returning
returns_now : (agent boot own : ℕ) (returning : List ℕ) (to : NodeId) (n : ℕ) (sends : List Send)
    → Each (λ (s : Send). IsOfAgent own returning s.said) sends
    → In (return_of agent boot to n) (map (sent_by (Agent agent)) sends) → In n returning
returns_now agent boot own returning to n [] h i = absurd i
returns_now agent boot own returning to n (s ∷ sends) h i = elim i [
  | inl e ↦ (subst (IsOfAgent own returning) (send_is (Agent agent) s agent boot to n e) h.0).1
  | inr j ↦ returns_now agent boot own returning to n sends h.1 j
]

of_placed : (cfg : ConfigParts) (own : ℕ) (returning : List ℕ) (sends : List Send)
    → Each (λ (s : Send). IsOfAgent own returning s.said) sends
    → Each (λ (s : Send). IsOfAgent own returning s.said) (filter (is_placed cfg) sends)
of_placed cfg own returning sends h = each_passing (λ (s : Send). IsOfAgent own returning s.said) (is_placed cfg) sends
    (λ s i _. each_in (λ (s : Send). IsOfAgent own returning s.said) sends s h i)

-- what an agent says in a turn is of its boot, where what is returning is its own
says_own : (cfg : ConfigParts) (u : World) (agent own : ℕ) (returning : List ℕ) → own ≤ agent_boot u agent
    → ((n : ℕ) → In n returning → IsOwn cfg u agent own n) → (said : Said) → IsOfAgent own returning said
    → IsOfOwnBoot cfg u agent said
says_own cfg u agent own returning le has (Says (message.Ask boot machine seq)) h =
    subst (λ (b : ℕ). b ≤ agent_boot u agent) (sym h) le
says_own cfg u agent own returning le has (Says (message.AgentUp boot)) h =
    subst (λ (b : ℕ). b ≤ agent_boot u agent) (sym h) le
says_own cfg u agent own returning le has (Says (message.Return boot n)) h = (
  subst (λ (b : ℕ). b ≤ agent_boot u agent) (sym h.0) le,
  subst (λ (b : ℕ). IsOwn cfg u agent b n) (sym h.0) (has n h.1),
)
says_own cfg u agent own returning le has (Says (message.Prepare c)) h = absurd h
says_own cfg u agent own returning le has (Says (message.Promise c l vote value)) h = absurd h
says_own cfg u agent own returning le has (Says (message.Accept c t v)) h = absurd h
says_own cfg u agent own returning le has (Says (message.Accepted c t)) h = absurd h
says_own cfg u agent own returning le has (Says (message.Refuse c p)) h = absurd h
says_own cfg u agent own returning le has (Says (message.Chosen t c v)) h = absurd h
says_own cfg u agent own returning le has (Says (message.Fetch t)) h = absurd h
says_own cfg u agent own returning le has (Says (message.Grant boot machine seq n vip start)) h = absurd h
says_own cfg u agent own returning le has (Says (message.Denied boot machine seq reason number)) h = absurd h
says_own cfg u agent own returning le has (Says (message.Returned boot n)) h = absurd h
says_own cfg u agent own returning le has (Says (message.AgentKnown boot)) h = absurd h
says_own cfg u agent own returning le has (Says (message.MuxHello boot epoch)) h = absurd h
says_own cfg u agent own returning le has (Says (message.Program epoch boot n vip start machine)) h = absurd h
says_own cfg u agent own returning le has (Says (message.Programmed epoch boot n)) h = absurd h
says_own cfg u agent own returning le has (Says (message.Unprogram epoch boot n vip start)) h = absurd h
says_own cfg u agent own returning le has (Says (message.Unprogrammed epoch boot n)) h = absurd h
says_own cfg u agent own returning le has (Says (message.MuxRefuse epoch boot keeps)) h = absurd h
says_own cfg u agent own returning le has (Says (message.Lead c l)) h = absurd h
says_own cfg u agent own returning le has (Says (message.RedirectAsk src sport dst dport machine)) h = absurd h
says_own cfg u agent own returning le has
    (Says (message.Redirect side n src sport dst dport opener server)) h = absurd h
says_own cfg u agent own returning le has (Carries packet) h = tt

-- ---- a turn of an agent

one_range : (cfg : ConfigParts) → IsSound cfg → (w : World) → Reached cfg w → (agent boot n : ℕ) (r : Range)
    (machine : Ip4)
    (r' : Range) (machine' : Ip4) → IsLease cfg w agent boot n r machine → IsLease cfg w agent boot n r' machine' → r
    ≡ r'
one_range cfg sound w rd agent boot n r machine r' machine' a b =
    sym a.range_is ∙ ap (λ (row : Row). row.range) (born_once cfg sound w rd n a.born b.born a.birth b.birth)
    ∙ b.range_is

-- an agent's turn keeps all that is claimed of it
turn_right : (cfg : ConfigParts) → IsSound cfg → (w u : World) → Steps cfg w u → (agent : ℕ) (a : AgentLists)
    (x : Input)
    → AgentIsRight cfg w agent a → Given cfg w (Agent agent) x → TurnMoves cfg w u (Agent agent) (OfAgent a) x
    → AgentIsRight cfg u agent (agent_step cfg a x).state
turn_right cfg sound w u s agent a x h given mv =
    let t : Turn AgentLists = agent_step cfg a x in
    let on : LivesGoOn cfg w u = goes_on cfg sound w u s in
    let m : AgentMoves cfg a x t = step_moves cfg a x in
    let same : disk u (Agent agent) ≡ disk w (Agent agent) =
    mv.disk_here ∙ ap (λ (o : Option Entry). disk w (Agent agent) ++ listed o) m.entry ∙ append-nil
    (disk w (Agent agent)) in
    let moved : RangesAre (IsLease cfg w agent a.boot) (HasReturned w agent a.boot) t.state.traffic.ranges =
    moves_are (IsLease cfg w agent a.boot) (HasReturned w agent a.boot) cfg a x t.state.traffic.ranges m.leases
    (λ n r machine taken. taken_is_lease cfg sound w s.before agent a x given n r machine taken)
    (λ n r machine r' machine' k j. one_range cfg sound w s.before agent a.boot n r machine r' machine' k j) h.ranges in
    record {
      boot = m.boot ∙ h.boot ∙ ap boot_of (sym same);
      ranges = subst (λ (b : ℕ). RangesAre (IsLease cfg u agent b) (HasReturned u agent b) t.state.traffic.ranges)
          (sym m.boot)
          (are_on (IsLease cfg w agent a.boot) (IsLease cfg u agent a.boot) (HasReturned w agent a.boot)
          (HasReturned u agent a.boot)
          t.state.traffic.ranges (λ n r machine k. lease_on cfg w u on agent a.boot n r machine k)
          (λ n b. before (agent_step cfg a x) n b) moved);
      apart = stays_apart cfg a x h.apart;
      keys = step_keeps cfg a x h.keys;
      through = stays_held cfg a x sound.rules h.keys h.apart h.through;
    }
  where
    before : (t : Turn AgentLists) (n : ℕ) → HasReturned u agent a.boot n
        → HasReturned w agent a.boot n ⊎ In n (agent_step cfg a x).state.traffic.ranges.returning
    before t n b =
        let i : In (return_of agent a.boot b.to n) (w.sent ++ all_sent cfg (Agent agent) (agent_step cfg a x).sends) =
        subst (In (return_of agent a.boot b.to n)) mv.sent b.sent in
        elim (in_cases w.sent (all_sent cfg (Agent agent) (agent_step cfg a x).sends)
        (return_of agent a.boot b.to n) i) [
          | inl old ↦ inl (record { to = b.to; sent = old })
          | inr new ↦ inr (returns_now agent a.boot (agent_step cfg a x).state.boot
              (agent_step cfg a x).state.traffic.ranges.returning b.to n
              (filter (is_placed cfg) (agent_step cfg a x).sends)
              (of_placed cfg (agent_step cfg a x).state.boot (agent_step cfg a x).state.traffic.ranges.returning
              (agent_step cfg a x).sends (agent_says cfg a x)) new)
        ]

turn_says : (cfg : ConfigParts) (u : World) (agent : ℕ) (t : Turn AgentLists) → AgentSays t
    → AgentIsRight cfg u agent t.state
    → Each (AgentsTellTheirOwn cfg u) (all_sent cfg (Agent agent) t.sends)
turn_says cfg u agent t says right =
    each_map (AgentsTellTheirOwn cfg u) (sent_by (Agent agent)) (filter (is_placed cfg) t.sends)
    (each_on (λ (s : Send). IsOfAgent t.state.boot t.state.traffic.ranges.returning s.said) _
    (λ s h. says_own cfg u agent t.state.boot t.state.traffic.ranges.returning le has s.said h)
    (filter (is_placed cfg) t.sends)
    (of_placed cfg t.state.boot t.state.traffic.ranges.returning t.sends says))
  where
    le : t.state.boot ≤ agent_boot u agent
    le = subst (λ (k : ℕ). t.state.boot ≤ k) right.boot (itself t.state.boot)
      where
        itself : (k : ℕ) → k ≤ k
        itself k = omega arith

    has : (n : ℕ) → In n t.state.traffic.ranges.returning → IsOwn cfg u agent t.state.boot n
    has n i =
        let b : IsBack (IsLease cfg u agent t.state.boot) t.state.traffic.ranges n =
        each_in (IsBack (IsLease cfg u agent t.state.boot) t.state.traffic.ranges) t.state.traffic.ranges.returning n
        right.ranges.returning i in
        record { range = b.range; machine = b.machine; lease = b.own }

-- ---- an opening

-- an agent that has just opened, in a boot in which it returned nothing
opens_right : (cfg : ConfigParts) (u : World) (agent : ℕ) (es : List Entry) → disk u (Agent agent) ≡ es
    → ((n : ℕ) → HasReturned u agent (boot_of es) n → ⊥) → AgentIsRight cfg u agent (opened_agent cfg agent es)
unfolding opened_agent
opens_right cfg u agent es here none = record {
  boot = ap boot_of (sym here);
  ranges = record { held = tt; returning = tt; back = λ n b. absurd (none n b) };
  apart = opens_apart cfg agent es;
  keys = opened_apart cfg agent es;
  through = opens_held cfg agent es;
}

-- what was said before the opening is of an earlier boot
new_boot : (cfg : ConfigParts) (w u : World) (agent : ℕ) → Each (AgentsTellTheirOwn cfg w) w.sent → u.sent ≡ w.sent
    → (n : ℕ) → HasReturned u agent (boot_of (booted (Agent agent) (disk w (Agent agent)))) n → ⊥
new_boot cfg w u agent said sent n b =
    let own : IsOfOwnBoot cfg w agent
    (Says (message.Return (boot_of (booted (Agent agent) (disk w (Agent agent)))) n)) =
    each_in (AgentsTellTheirOwn cfg w) w.sent
    (return_of agent (boot_of (booted (Agent agent) (disk w (Agent agent)))) b.to n) said
    (subst (In (return_of agent (boot_of (booted (Agent agent) (disk w (Agent agent)))) b.to n)) sent b.sent) in
    less (agent_boot w agent)
    (subst (λ (k : ℕ). k ≤ agent_boot w agent) (boot_next (Agent agent) (disk w (Agent agent))) own.0)
  where
    less : (b : ℕ) → b + 1 ≤ b → ⊥
    less b h = omega arith

-- ---- every world

right_on : (cfg : ConfigParts) (w u : World) (x : NodeId) → LivesGoOn cfg w u → Grows x w u → (agent : ℕ)
    (a : AgentLists)
    → disk u (Agent agent) ≡ disk w (Agent agent)
    → ((n : ℕ) → HasReturned u agent a.boot n → HasReturned w agent a.boot n) → AgentIsRight cfg w agent a
    → AgentIsRight cfg u agent a
right_on cfg w u x on g agent a same back h = record {
  boot = h.boot ∙ ap boot_of (sym same);
  ranges = are_on (IsLease cfg w agent a.boot) (IsLease cfg u agent a.boot) (HasReturned w agent a.boot)
      (HasReturned u agent a.boot)
      a.traffic.ranges (λ n r machine k. lease_on cfg w u on agent a.boot n r machine k)
      (λ n b. inl (back n b)) h.ranges;
  apart = h.apart;
  keys = h.keys;
  through = h.through;
}

lists_on : (cfg : ConfigParts) (w u : World) (x : NodeId) → LivesGoOn cfg w u → Grows x w u → (y : NodeId) (l : Lists)
    → disk u y ≡ disk w y →
    ((agent boot n : ℕ) → Agent agent ≡ y → HasReturned u agent boot n → HasReturned w agent boot n)
    → AgentsAreRight cfg w y l → AgentsAreRight cfg u y l
lists_on cfg w u x on g (Replica i) l same back h = tt
lists_on cfg w u x on g (Mux i) l same back h = tt
lists_on cfg w u x on g (Agent agent) (OfManager m) same back h = absurd h
lists_on cfg w u x on g (Agent agent) (OfMux m) same back h = absurd h
lists_on cfg w u x on g (Agent agent) (OfAgent a) same back h =
    right_on cfg w u x on g agent a same (λ n b. back agent a.boot n refl b) h

returned_same : (w u : World) → u.sent ≡ w.sent → (agent boot n : ℕ) → HasReturned u agent boot n
    → HasReturned w agent boot n
returned_same w u sent agent boot n h =
    record { to = h.to; sent = subst (In (return_of agent boot h.to n)) sent h.sent }

module _ (cfg : ConfigParts) (u : World) where
  of_replica : (i : ℕ) (sends : List Send) → Each (AgentsTellTheirOwn cfg u) (all_sent cfg (Replica i) sends)
  of_replica i sends = each_map (AgentsTellTheirOwn cfg u) (sent_by (Replica i)) (filter (is_placed cfg) sends)
      (each_passing (λ (s : Send). Unit {0}) (is_placed cfg) sends (λ s j e. tt))

  of_mux : (i : ℕ) (sends : List Send) → Each (AgentsTellTheirOwn cfg u) (all_sent cfg (Mux i) sends)
  of_mux i sends = each_map (AgentsTellTheirOwn cfg u) (sent_by (Mux i)) (filter (is_placed cfg) sends)
      (each_passing (λ (s : Send). Unit {0}) (is_placed cfg) sends (λ s j e. tt))

-- what a turn adds and leaves
turns : (cfg : ConfigParts) → IsSound cfg → (w u : World) → Steps cfg w u → (x : NodeId) (l : Lists) (i : Input)
    → ListsFit cfg w x l → AgentsAreRight cfg w x l → Given cfg w x i → TurnMoves cfg w u x l i
    → Each (AgentsTellTheirOwn cfg u) (all_sent cfg x (node_turn cfg l i).sends) × AgentsAreRight cfg u x
    (node_turn cfg l i).state
turns cfg sound w u s (Replica j) l i fits h given mv = (of_replica cfg u j (node_turn cfg l i).sends, tt)
turns cfg sound w u s (Mux j) l i fits h given mv = (of_mux cfg u j (node_turn cfg l i).sends, tt)
turns cfg sound w u s (Agent agent) (OfManager m) i fits h given mv = absurd fits
turns cfg sound w u s (Agent agent) (OfMux m) i fits h given mv = absurd fits
turns cfg sound w u s (Agent agent) (OfAgent a) i fits h given mv =
    let right : AgentIsRight cfg u agent (agent_step cfg a i).state = turn_right cfg sound w u s agent a i h given mv in
    (turn_says cfg u agent (agent_step cfg a i) (agent_says cfg a i) right, right)

opens : (cfg : ConfigParts) (w u : World) (x : NodeId) → Each (AgentsTellTheirOwn cfg w) w.sent → u.sent ≡ w.sent
    → disk u x ≡ booted x (disk w x) → AgentsAreRight cfg u x (opened cfg x (booted x (disk w x)))
unfolding opened
opens cfg w u (Replica i) said sent booting = tt
opens cfg w u (Mux i) said sent booting = tt
opens cfg w u (Agent agent) said sent booting =
    opens_right cfg u agent (booted (Agent agent) (disk w (Agent agent))) booting (new_boot cfg w u agent said sent)

-- ---- the first world

first_opens : (cfg : ConfigParts) (x : NodeId) → disk (first_world cfg) x ≡ booted x []
    → AgentsAreRight cfg (first_world cfg) x (opened cfg x (booted x []))
unfolding opened first_world
first_opens cfg (Replica i) here = tt
first_opens cfg (Mux i) here = tt
first_opens cfg (Agent agent) here = opens_right cfg (first_world cfg) agent (booted (Agent agent) []) here
    (λ n b. b.sent)

-- a node that is up there was opened on an empty disk
abbrev WasOpened : ConfigParts → NodeId → Site → Type 0
WasOpened cfg x s = (l : Lists) → s.up ≡ Some l → (s.entries ≡ booted x []) × (opened cfg x (booted x []) ≡ l)

first_lists : (cfg : ConfigParts) (x : NodeId) (l : Lists) → at (first_world cfg) x ≡ Some l
    → AgentsAreRight cfg (first_world cfg) x l
first_lists cfg x l is =
    let f = first_have cfg (WasOpened cfg) (λ y l e. absurd (cc)) (λ y l e. (refl, some_is _ l e)) x l is in
    subst (AgentsAreRight cfg (first_world cfg) x) f.1 (first_opens cfg x f.0)

-- ---- the law

agents_keep : (cfg : ConfigParts) → IsSound cfg → Keeps cfg (AgentsTellTheirOwn cfg) AnyEntry (AgentsAreRight cfg)
agents_keep cfg sound = record {
  said_lasts = λ x w u z g s h. own_saying_on cfg w u x (goes_on cfg sound w u z) g s.from s.said h;
  kept_lasts = λ x w u z g y e h. tt;
  lists_last = λ x w u z g y ne l h. lists_on cfg w u x (goes_on cfg sound w u z) g y l (g.disk_other y ne)
      (λ agent boot n is b. returned_back x w u g agent boot (λ same. ne (sym is ∙ same)) n b) h;
  lists_rest = λ x w u z g same sent l h. lists_on cfg w u x (goes_on cfg sound w u z) g x l same
      (λ agent boot n is b. returned_same w u sent agent boot n b) h;
  opening = λ w u x z h g d sent. (tt, opens cfg w u x h.said sent d);
  turn = λ w u x l i z h g was given m.
      (let k = turns cfg sound w u z x l i ((hearing_at cfg sound w z.before).lists x l was)
      (h.lists x l was) given m in
      (k.0, any_entry u x _, k.1));
  cut = λ w u x l i z h g was given m. any_entry u x _;
  first = record {
    said = none_said cfg (AgentsTellTheirOwn cfg);
    kept = λ x. any_entry (first_world cfg) x _;
    lists = first_lists cfg;
  };
}

pub agents : (cfg : ConfigParts) → IsSound cfg → (bs : List Basic) → AreNamed cfg bs
    → Holds (AgentsTellTheirOwn cfg) AnyEntry (AgentsAreRight cfg) (world cfg bs)
agents cfg sound bs named = always cfg (AgentsTellTheirOwn cfg) AnyEntry (AgentsAreRight cfg)
    (agents_keep cfg sound) bs named

pub agents_at : (cfg : ConfigParts) → IsSound cfg → (w : World) → Reached cfg w
    → Holds (AgentsTellTheirOwn cfg) AnyEntry (AgentsAreRight cfg) w
agents_at cfg sound w r =
    subst (Holds (AgentsTellTheirOwn cfg) AnyEntry (AgentsAreRight cfg)) (sym r.is) (agents cfg sound r.events r.named)
