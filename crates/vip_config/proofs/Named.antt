-- Whoever owns a socket is configured, and a node owns its own socket alone.
use Rattle.std.proofs.Common.{◌≡◌, inl, inr, ◌⊎◌, ℕ, zero, suc, ◌+◌, ◌<◌, Bool, true, false, List, [], ◌∷◌, ◌++◌, map}
use Rattle.std.proofs.Common.{length, slice_get, Option, Some, None, option_map, unwrap_or, refl, ap, sym, subst}
use Rattle.std.proofs.Common.{arith}
use Rattle.std.specs.Map.{lookup}
use Rattle.std.proofs.lemmas.List.{map-append}
use Rattle.wire_core.specs.Members.{In}
use Rattle.wire_core.specs.declared.address.Socket.{Socket}
use Rattle.wire_core.specs.declared.node.NodeId.{NodeId}
use Rattle.wire_core.specs.declared.node.NodeId.TheVariants.{Replica, Mux, Agent}
use Rattle.wire_core.specs.Same.{same_socket}
use Rattle.wire_core.proofs.SameLaws.{socket_is}
use Rattle.config_text.specs.declared.agents.AgentConf.{AgentConf}
use Rattle.config_text.specs.declared.agents.Attach.{Attach}
use Rattle.vip_config.specs.Claims.{Claim, claims_of, owners_of}
use Rattle.vip_config.specs.Queries.{IsOwner, node_owner, socket_of, sockets_of, who_of}
use Rattle.vip_config.specs.Rules.{all_machines}
use Rattle.vip_config.specs.Sockets.{agent_claims, attach_claims, mux_claims, replica_claims}
use Rattle.vip_config.specs.declared.parts.ConfigParts.{ConfigParts}
use Rattle.vip_config.specs.declared.who.Who.{Who}
use Rattle.vip_config.specs.declared.who.Who.TheVariants.{Outside, Machine, Agent as of_agent, Replica as of_replica}
use Rattle.vip_config.specs.declared.who.Who.TheVariants.{Mux as of_mux}
use Rattle.vip_config.proofs.Clean.{in_flat}
use Rattle.vip_config.proofs.Members.{in_cases}
use Rattle.vip_config.proofs.Walks.{none_some}

-- ---- lists

at_within : {X : Type 0} (xs : List X) (i : ℕ) (x : X) → slice_get xs i ≡ Some x → i < length xs
at_within [] i x at = absurd (none_some (sym at))
at_within (y ∷ ys) zero x at = omega arith
at_within (y ∷ ys) (suc i) x at = let rest = at_within ys i x at in omega (arith, rest)

at_in : {X : Type 0} (xs : List X) (i : ℕ) (x : X) → slice_get xs i ≡ Some x → In x xs
at_in [] i x at = absurd (none_some (sym at))
at_in (y ∷ ys) zero x at = inl (ap (λ o. unwrap_or o y) at)
at_in (y ∷ ys) (suc i) x at = inr (at_in ys i x at)

in_map : {X Y : Type 0} (f : X → Y) (xs : List X) (x : X) → In x xs → In (f x) (map f xs)
in_map f [] x i = i
in_map f (y ∷ ys) x i = elim i [ inl is ↦ inl (ap f is) | inr j ↦ inr (in_map f ys x j) ]

module _ {K V : Type 0} (same : K → K → Bool) (reflects : (a b : K) → same a b ≡ true → a ≡ b) where
  found_in : (es : List (K × V)) (k : K) (v : V) → lookup (same k) es ≡ Some v → In (k, v) es
  found_in [] k v is = absurd (none_some (sym is))
  found_in (e ∷ es) k v is = by (same k e.0) refl (found_in es k v)
    where
      by : (b : Bool) → same k e.0 ≡ b → (lookup (same k) es ≡ Some v → In (k, v) es) → In (k, v) (e ∷ es)
      by true key rest =
          let value : e.1 ≡ v = ap (λ o. unwrap_or o e.1) (rw key at is) in
          inl (λ t. (sym (reflects k e.0 key) t, value t))
      by false key rest = inr (rest (rw key at is))

-- ---- what is claimed is claimed by a member

in_owners : {K V : Type 0} (cs ds : List (Claim K V)) (e : K × V) → In e (owners_of (cs ++ ds))
    → In e (owners_of cs) ⊎ In e (owners_of ds)
in_owners cs ds e h =
    in_cases (owners_of cs) (owners_of ds) e (subst (In e) (map-append (λ c. (c.key, c.owner)) cs ds) h)

by_members : {A K V : Type 0} (P : K × V → Type 0) (f : ℕ → A → List (Claim K V)) (from : ℕ) (xs : List A)
    → ((i n : ℕ) (x : A) → n ≡ from + i → slice_get xs i ≡ Some x → (e : K × V) → In e (owners_of (f n x)) → P e)
    → (e : K × V) → In e (owners_of (claims_of f from xs)) → P e
by_members P f from [] each e h = absurd h
by_members P f from (y ∷ ys) each e h =
    elim (in_owners (f from y) (claims_of f (suc from) ys) e h) [
      | inl here ↦ each 0 from y (omega arith) refl e here
      | inr there ↦ by_members P f (suc from) ys
          (λ i n x number at. each (suc i) n x (omega (arith, number)) at) e there
    ]

-- ---- sockets

abbrev IsNamed : ConfigParts → Socket → Who → Type 0
IsNamed c s (of_replica i) = slice_get c.replicas i ≡ Some s
IsNamed c s (of_mux i) = slice_get c.muxes i ≡ Some s
IsNamed c s (of_agent i) = option_map (λ agent. agent.socket) (slice_get c.agents i) ≡ Some s
IsNamed c s (Machine address) = In address (all_machines c)
IsNamed c s Outside = Unit {0}

module _ (c : ConfigParts) where
  abbrev IsNamedIn : Socket × Who → Type 0
  IsNamedIn e = IsNamed c e.0 e.1

  of_replicas : (e : Socket × Who) → In e (owners_of (claims_of replica_claims 0 c.replicas)) → IsNamedIn e
  of_replicas =
      by_members IsNamedIn replica_claims 0 c.replicas
      (λ i n x number at e h. elim h [
        | inl is ↦ subst IsNamedIn is (subst (λ m. slice_get c.replicas m ≡ Some x) (omega (arith, number)) at)
        | inr none ↦ absurd none
      ])

  of_muxes : (e : Socket × Who) → In e (owners_of (claims_of mux_claims 0 c.muxes)) → IsNamedIn e
  of_muxes =
      by_members IsNamedIn mux_claims 0 c.muxes
      (λ i n x number at e h. elim h [
        | inl is ↦ subst IsNamedIn is (subst (λ m. slice_get c.muxes m ≡ Some x) (omega (arith, number)) at)
        | inr none ↦ absurd none
      ])

  of_machines : (i : ℕ) (a : AgentConf) → slice_get c.agents i ≡ Some a → (n : ℕ) (e : Socket × Who)
      → In e (owners_of (claims_of (attach_claims n) 0 a.machines)) → IsNamedIn e
  of_machines i a at n =
      by_members IsNamedIn (attach_claims n) 0 a.machines
      (λ j m machine number there e h. elim h [
        | inl is ↦ subst IsNamedIn is
            (in_flat (λ (agent : AgentConf). map (λ machine. machine.address) agent.machines) c.agents a machine.address
            (at_in c.agents i a at)
            (in_map (λ (x : Attach). x.address) a.machines machine (at_in a.machines j machine there)))
        | inr none ↦ absurd none
      ])

  of_agents : (e : Socket × Who) → In e (owners_of (claims_of agent_claims 0 c.agents)) → IsNamedIn e
  of_agents =
      by_members IsNamedIn agent_claims 0 c.agents
      (λ i n a number at e h. elim h [
        | inl is ↦ subst IsNamedIn is
            (ap (option_map (λ (agent : AgentConf). agent.socket))
            (subst (λ m. slice_get c.agents m ≡ Some a) (omega (arith, number)) at))
        | inr there ↦ of_machines i a at n e there
      ])

  of_all : (e : Socket × Who) → In e (sockets_of c) → IsNamedIn e
  of_all e h =
      let rs = claims_of replica_claims 0 c.replicas in
      let ms = claims_of mux_claims 0 c.muxes in
      elim h [
        | inl router ↦ subst IsNamedIn router tt
        | inr rest ↦ elim (in_owners (rs ++ ms) (claims_of agent_claims 0 c.agents) e rest) [
          | inl nodes ↦ elim (in_owners rs ms e nodes) [ inl r ↦ of_replicas e r | inr m ↦ of_muxes e m ]
          | inr a ↦ of_agents e a
        ]
      ]

  who_named : (socket : Socket) → IsNamed c socket (who_of c socket)
  who_named socket = by (lookup (same_socket socket) (sockets_of c)) refl
    where
      by : (o : Option Who) → lookup (same_socket socket) (sockets_of c) ≡ o
          → IsNamed c socket (unwrap_or o Outside)
      by None is = tt
      by (Some who) is = of_all (socket, who) (found_in same_socket socket_is (sockets_of c) socket who is)

  pub only : (n : NodeId) (socket : Socket) → who_of c socket ≡ node_owner n → socket_of c n ≡ Some socket
  only (Replica i) socket is = subst (IsNamed c socket) is (who_named socket)
  only (Mux i) socket is = subst (IsNamed c socket) is (who_named socket)
  only (Agent i) socket is = subst (IsNamed c socket) is (who_named socket)

  agent_within : (o : Option AgentConf) (s : Socket) → option_map (λ agent. agent.socket) o ≡ Some s
      → (a : AgentConf) × (o ≡ Some a)
  agent_within None s is = absurd (none_some (sym is))
  agent_within (Some a) s is = (a, refl)

  owner : (socket : Socket) (who : Who) → IsNamed c socket who → IsOwner c who
  owner socket (of_replica i) is = at_within c.replicas i socket is
  owner socket (of_mux i) is = at_within c.muxes i socket is
  owner socket (of_agent i) is =
      let agent = agent_within (slice_get c.agents i) socket is in at_within c.agents i agent.0 agent.1
  owner socket (Machine address) is = is
  owner socket Outside is = tt

  pub configured : (socket : Socket) → IsOwner c (who_of c socket)
  configured socket = owner socket (who_of c socket) (who_named socket)
