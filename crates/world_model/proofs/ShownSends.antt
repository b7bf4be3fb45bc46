-- What a node sends goes where its table says, in bytes.
use Rattle.std.proofs.Common.{◌≡◌, ℕ, suc, ◌+◌, Bool, true, false, List, [], ◌∷◌, ◌++◌, map, Option, Some, None, refl, sym, ap, subst, ◌∙◌, arith, max}
use Rattle.std.specs.Prelude.{fold, if◌then◌else◌, is_some, not, ◌&&◌, cond, slice_get}
use Rattle.std.specs.List.{flat_map}
use Rattle.std.specs.Map.{lookup}
use Rattle.std.proofs.lemmas.List.{map-append}
use Rattle.wire_core.specs.Members.{Each}
use Rattle.wire_core.specs.Same.{same_ip}
use Rattle.wire_core.specs.declared.address.Ip4.{Ip4}
use Rattle.wire_core.specs.declared.address.Socket.{Socket}
use Rattle.wire_core.specs.declared.node.NodeId.{NodeId}
use Rattle.wire_core.specs.declared.node.NodeId.TheVariants.{Replica, Mux, Agent}
use Rattle.config_text.specs.declared.agents.AgentConf.{AgentConf}
use Rattle.config_text.specs.declared.agents.Attach.{Attach}
use Rattle.vip_config.specs.declared.parts.ConfigParts.{ConfigParts}
use Rattle.vip_config.specs.declared.who.Who.TheVariants as who
use Rattle.vip_config.specs.Queries.{KnowsOwners, node_owner, who_of}
use Rattle.vip_config.specs.Ways.{all_attaches, attaches_of}
use Rattle.node_spec.specs.Sends.{Place, ToNode, ToMachine, ToRouter, Send}
use Rattle.node_spec.specs.Steps.{datagram, outgoing, sent_to, socket_at}
use Rattle.world_mail.specs.Mails.{least_waiting, untaken, waiting_from}
use Rattle.world_mail.specs.declared.mail.Posted.{Posted}
use Rattle.world_spec.specs.Acts.{log_length, longest as longest_log}
use Rattle.world_spec.specs.Nodes.{Lists}
use Rattle.world_spec.specs.World.{Site, World, Sent, all_sent, is_placed, is_to_node, sent_by, untaken as untaken_sent, waiting_from as waiting_sent, least_waiting as least_sent}
use Rattle.world_nodes.specs.Nodes.{longer}
use Rattle.world_model.specs.Shown.{receiver, shown, shown_sent, shown_site}
use Rattle.world_model.specs.World.{node_in, posted_by}

false_true : false ≡ true → ⊥
false_true e = absurd (cc)

abbrev or_this : Option Socket → Socket → Socket
or_this None d = d
or_this (Some s) d = s

some_is : (a b : Socket) → Some a ≡ Some b → a ≡ b
some_is a b e = ap (λ (o : Option Socket). or_this o a) e

-- ---- whose a socket is

module _ (P : Socket → Type 0) where
  abbrev of_pairs : List (Ip4 × Socket) → Type 0
  of_pairs es = Each (λ e. P e.1) es

  found_has : (t : Ip4 → Bool) (es : List (Ip4 × Socket)) (s : Socket) → of_pairs es → lookup t es ≡ Some s → P s
  found_has t [] s each is = absurd (cc)
  found_has t (e ∷ es) s each is = by (found_has t es s each.1) (t e.0) is
    where
      by : (lookup t es ≡ Some s → P s) → (b : Bool) → cond b (Some e.1) (lookup t es) ≡ Some s → P s
      by rest true eq = subst P (some_is e.1 s eq) each.0
      by rest false eq = rest eq

  both : (es fs : List (Ip4 × Socket)) → of_pairs es → of_pairs fs → of_pairs (es ++ fs)
  both [] fs e f = f
  both (x ∷ es) fs e f = (e.0, both es fs e.1 f)

  of_machines : (ms : List Attach) → Each (λ m. P m.attach) ms → of_pairs (map (λ m. (m.address, m.attach)) ms)
  of_machines [] each = tt
  of_machines (m ∷ ms) each = (each.0, of_machines ms each.1)

  of_agents : (agents : List AgentConf)
      → ((i : ℕ) (a : AgentConf) → slice_get agents i ≡ Some a → Each (λ m. P m.attach) a.machines)
      → of_pairs (all_attaches agents)
  of_agents [] all = tt
  of_agents (a ∷ agents) all =
      both (attaches_of a) (all_attaches agents) (of_machines a.machines (all 0 a refl))
      (of_agents agents (λ i b at. all (suc i) b at))

module _ (cfg : ConfigParts) (owners : KnowsOwners cfg) where
  owner_in : (x : NodeId) → node_in (node_owner x) ≡ Some x
  owner_in (Replica i) = refl
  owner_in (Mux i) = refl
  owner_in (Agent i) = refl

  attached_in : (ms : List Attach) → Each (λ m. who_of cfg m.attach ≡ who.Machine m.address) ms
      → Each (λ m. node_in (who_of cfg m.attach) ≡ None) ms
  attached_in [] each = tt
  attached_in (m ∷ ms) each = (ap node_in each.0, attached_in ms each.1)

  -- the socket of a place is a node's where the place is a node
  place_shown : (p : Place) (s : Socket) → socket_at cfg p ≡ Some s → node_in (who_of cfg s) ≡ receiver p
  place_shown (ToNode x) s is = ap node_in (owners.nodes x s is) ∙ owner_in x
  place_shown (ToMachine machine) s is =
      found_has (λ s. node_in (who_of cfg s) ≡ None) (same_ip machine) (all_attaches cfg.agents) s
      (of_agents (λ s. node_in (who_of cfg s) ≡ None) cfg.agents (λ i a at. attached_in a.machines (owners.attached i a at))) is
  place_shown ToRouter s is =
      let same : cfg.router ≡ s = some_is cfg.router s is in
      ap (λ (t : Socket). node_in (who_of cfg t)) (sym same) ∙ ap node_in owners.router

  -- ---- datagrams

  sent_one : (x : NodeId) (s : Send) → is_placed cfg s ≡ true
      → map (posted_by cfg x) (outgoing cfg s) ≡ shown_sent (sent_by x s) ∷ []
  unfolding outgoing
  sent_one x s is = by (socket_at cfg s.to) refl
    where
      one : Option NodeId → List Posted
      one to = record { from = x; to = to; bytes = datagram s.said } ∷ []

      by : (o : Option Socket) → socket_at cfg s.to ≡ o
          → map (posted_by cfg x) (sent_to (datagram s.said) o) ≡ shown_sent (sent_by x s) ∷ []
      by None e = absurd (false_true (ap is_some (sym e) ∙ is))
      by (Some socket) e = ap one (place_shown s.to socket e)

  sent_none : (s : Send) → is_placed cfg s ≡ false → outgoing cfg s ≡ []
  unfolding outgoing
  sent_none s is = by (socket_at cfg s.to) is
    where
      by : (o : Option Socket) → is_some o ≡ false → sent_to (datagram s.said) o ≡ []
      by None e = refl
      by (Some socket) e = absurd (cc)

  pub sends_shown : (x : NodeId) (sends : List Send)
      → map (posted_by cfg x) (flat_map (outgoing cfg) sends) ≡ map shown_sent (all_sent cfg x sends)
  sends_shown x [] = refl
  sends_shown x (s ∷ sends) = by (is_placed cfg s) refl (sends_shown x sends)
    where
      by : (b : Bool) → is_placed cfg s ≡ b
          → map (posted_by cfg x) (flat_map (outgoing cfg) sends) ≡ map shown_sent (all_sent cfg x sends)
          → map (posted_by cfg x) (outgoing cfg s ++ flat_map (outgoing cfg) sends) ≡ map shown_sent (all_sent cfg x (s ∷ sends))
      by true e ih =
          map-append (posted_by cfg x) (outgoing cfg s) (flat_map (outgoing cfg) sends)
          ∙ ap (λ (l : List Posted). l ++ map (posted_by cfg x) (flat_map (outgoing cfg) sends)) (sent_one x s e)
          ∙ rw e (ap (λ (l : List Posted). shown_sent (sent_by x s) ∷ l) ih)
      by false e ih = rw (e, sent_none s e) ih

-- none of them is taken
pub marks_shown : (ss : List Sent) → map untaken (map shown_sent ss) ≡ map untaken_sent ss
marks_shown [] = refl
marks_shown (s ∷ ss) = ap (λ (l : List Bool). false ∷ l) (marks_shown ss)

-- ---- waiting

to_node : (p : Place) → is_some (receiver p) ≡ is_to_node p
to_node (ToNode x) = refl
to_node (ToMachine machine) = refl
to_node ToRouter = refl

waiting_shown : (k : ℕ) (ss : List Sent) (ts : List Bool) → waiting_from k (map shown_sent ss) ts ≡ waiting_sent k ss ts
waiting_shown k [] ts = refl
waiting_shown k (s ∷ ss) [] = refl
waiting_shown k (s ∷ ss) (t ∷ ts) =
    ap (λ (b : Bool). if b && not t then Some k else waiting_from (k + 1) (map shown_sent ss) ts) (to_node s.to)
    ∙ ap (λ (o : Option ℕ). if is_to_node s.to && not t then Some k else o) (waiting_shown (k + 1) ss ts)

pub least_shown : {C : Type 0} (cfg : ConfigParts) (core : Lists → C) (w : World)
    → least_waiting (shown cfg core w).mail ≡ least_sent w
unfolding least_waiting least_sent
least_shown {C} cfg core w = waiting_shown 1 w.sent w.taken

-- ---- the longest log

longest_from : {C : Type 0} (core : Lists → C) (n : ℕ) (ss : List Site)
    → fold longer n (map (shown_site core) ss) ≡ max n (longest_log ss)
longest_from {C} core n [] = omega arith
longest_from {C} core n (s ∷ ss) =
    let more = longest_from core (max n (log_length s.entries)) ss in omega (arith, more)

pub longest_shown : {C : Type 0} (core : Lists → C) (ss : List Site) → fold longer 0 (map (shown_site core) ss) ≡ longest_log ss
longest_shown {C} core ss = let more = longest_from core 0 ss in omega (arith, more)
