-- Whose each socket and each machine is.
use Rattle.std.proofs.Common.{◌≡◌, inl, inr, ℕ, zero, suc, ◌+◌, Bool, true, false, List, [], ◌∷◌, ◌++◌}
use Rattle.std.proofs.Common.{slice_get, Option, Some, None, option_map, unwrap_or, refl, ap, sym, ◌∙◌, subst, arith}
use Rattle.std.proofs.Common.{true≢false}
use Rattle.std.specs.Map.{keys_of, lookup}
use Rattle.std.proofs.lemmas.List.{map-append}
use Rattle.wire_core.specs.Members.{In, Each}
use Rattle.wire_core.specs.declared.address.Ip4.{Ip4}
use Rattle.wire_core.specs.declared.address.Socket.{Socket}
use Rattle.wire_core.specs.declared.node.NodeId.{NodeId}
use Rattle.wire_core.specs.declared.node.NodeId.TheVariants.{Replica, Mux, Agent}
use Rattle.wire_core.specs.Same.{same_ip, same_socket}
use Rattle.wire_core.proofs.SameLaws.{ip_is, ip_itself, socket_is, socket_itself}
use Rattle.config_text.specs.declared.agents.AgentConf.{AgentConf}
use Rattle.vip_config.specs.Claims.{Claim, claims_of, owners_of}
use Rattle.vip_config.specs.Machines.{address_claims, agent_address_claims, agent_of, machine_claims, machines_of}
use Rattle.vip_config.specs.Queries.{KnowsOwners, node_owner, socket_of, sockets_of, who_of}
use Rattle.vip_config.specs.Rules.{KeepsRules, Once}
use Rattle.vip_config.specs.Sockets.{agent_claims, attach_claims, mux_claims, replica_claims}
use Rattle.vip_config.specs.Sockets.{socket_claims}
use Rattle.vip_config.specs.declared.parts.ConfigParts.{ConfigParts}
use Rattle.vip_config.specs.declared.who.Who.{Who}
use Rattle.vip_config.specs.declared.who.Who.TheVariants.{Outside, Machine, Agent as of_agent, Replica as of_replica}
use Rattle.vip_config.specs.declared.who.Who.TheVariants.{Mux as of_mux}
use Rattle.vip_config.proofs.Laws.{machine_keys, owner_keys, socket_keys}
use Rattle.vip_config.proofs.Named.{configured, only}
use Rattle.vip_config.proofs.Members.{in_left, in_right}
use Rattle.vip_config.proofs.Walks.{none_some}

module _ {K V : Type 0} (same : K → K → Bool) (own : (k : K) → same k k ≡ true) (reflects : (a b : K) → same a b ≡ true
    → a ≡ b) where
  in_keys : (es : List (K × V)) (k : K) (v : V) → In (k, v) es → In k (keys_of es)
  in_keys [] k v h = absurd h
  in_keys (e ∷ es) k v h = elim h [ inl is ↦ inl (ap (λ (x : K × V). x.0) is) | inr there ↦ inr (in_keys es k v there) ]

  -- a key that stands once is found with its owner
  pub owner_found : (es : List (K × V)) (k : K) (v : V) → Once (keys_of es) → In (k, v) es → lookup (same k) es ≡ Some v
  owner_found [] k v once h = absurd h
  owner_found (e ∷ es) k v once h = by (same k e.0) refl (owner_found es k v once.1)
    where
      by : (b : Bool) → same k e.0 ≡ b → (In (k, v) es → lookup (same k) es ≡ Some v)
          → lookup (same k) (e ∷ es) ≡ Some v
      by true is rest =
          rw is
          (elim h [
            | inl here ↦ ap (λ (x : K × V). Some x.1) here
            | inr there ↦ absurd (once.0 (subst (λ x. In x (keys_of es)) (reflects k e.0 is) (in_keys es k v there)))
          ])
      by false is rest =
          rw is
          (elim h [
            | inl here ↦ absurd (true≢false (sym (own k) ∙ ap (same k) (sym (ap (λ (x : K × V). x.0) here)) ∙ is))
            | inr there ↦ rest there
          ])

  pub none_found : (es : List (K × V)) (k : K) → (In k (keys_of es) → ⊥) → lookup (same k) es ≡ None
  none_found [] k none = refl
  none_found (e ∷ es) k none = by (same k e.0) refl (none_found es k (λ there. none (inr there)))
    where
      by : (b : Bool) → same k e.0 ≡ b → lookup (same k) es ≡ None → lookup (same k) (e ∷ es) ≡ None
      by true is rest = absurd (none (inl (sym (reflects k e.0 is))))
      by false is rest = rw is rest

in_owners_left : {K V : Type 0} (cs ds : List (Claim K V)) (e : K × V) → In e (owners_of cs)
    → In e (owners_of (cs ++ ds))
in_owners_left cs ds e h =
    subst (In e) (sym (map-append (λ c. (c.key, c.owner)) cs ds)) (in_left (owners_of cs) (owners_of ds) e h)

in_owners_right : {K V : Type 0} (cs ds : List (Claim K V)) (e : K × V) → In e (owners_of ds)
    → In e (owners_of (cs ++ ds))
in_owners_right cs ds e h =
    subst (In e) (sym (map-append (λ c. (c.key, c.owner)) cs ds)) (in_right (owners_of cs) (owners_of ds) e h)

some_same : {X : Type 0} (x y : X) → Some x ≡ Some y → x ≡ y
some_same x y is = ap (λ o. unwrap_or o x) is

-- what a member claims is among all that is claimed
in_claims : {A K V : Type 0} (f : ℕ → A → List (Claim K V)) (from i n : ℕ) (xs : List A) (x : A) (e : K × V)
    → n ≡ from + i → slice_get xs i ≡ Some x → In e (owners_of (f n x)) → In e (owners_of (claims_of f from xs))
in_claims f from i n [] x e number at h = absurd (none_some (sym at))
in_claims f from zero n (y ∷ ys) x e number at h =
    let same : x ≡ y = some_same x y (sym at) in
    let first : n ≡ from = omega (arith, number) in
    in_owners_left (f from y) (claims_of f (suc from) ys) e
    (subst (λ z. In e (owners_of (f from z))) same (subst (λ m. In e (owners_of (f m x))) first h))
in_claims f from (suc i) n (y ∷ ys) x e number at h =
    in_owners_right (f from y) (claims_of f (suc from) ys) e
    (in_claims f (suc from) i n ys x e (omega (arith, number)) at h)

each_at : {X : Type 0} (P : X → Type 0) (xs : List X) → ((j : ℕ) (x : X) → slice_get xs j ≡ Some x → P x) → Each P xs
each_at P [] f = tt
each_at P (x ∷ xs) f = (f 0 x refl, each_at P xs (λ j y at. f (suc j) y at))

mapped_some : {X Y : Type 0} (f : X → Y) (o : Option X) (y : Y) → option_map f o ≡ Some y
    → (x : X) × (o ≡ Some x) × (f x ≡ y)
mapped_some f None y is = absurd (none_some (sym is))
mapped_some f (Some x) y is = (x, refl, some_same (f x) y is)

abbrev replicas_in : ConfigParts → List (Claim Socket Who)
replicas_in c = claims_of replica_claims 0 c.replicas

abbrev muxes_in : ConfigParts → List (Claim Socket Who)
muxes_in c = claims_of mux_claims 0 c.muxes

abbrev agents_in : ConfigParts → List (Claim Socket Who)
agents_in c = claims_of agent_claims 0 c.agents

module _ (c : ConfigParts) (keeps : KeepsRules c) where
  found : (socket : Socket) (who : Who) → In (socket, who) (sockets_of c) → who_of c socket ≡ who
  found socket who there =
      let once : Once (keys_of (sockets_of c)) =
      subst Once (sym (owner_keys (socket_claims c.router c.replicas c.muxes c.agents) ∙ socket_keys c)) keeps.sockets
      in
      ap (λ o. unwrap_or o Outside) (owner_found same_socket socket_itself socket_is (sockets_of c) socket who once there)

  of_agents : (e : Socket × Who) → In e (owners_of (agents_in c)) → In e (sockets_of c)
  of_agents e h = inr (in_owners_right (replicas_in c ++ muxes_in c) (agents_in c) e h)

  of_nodes : (e : Socket × Who) → In e (owners_of (replicas_in c ++ muxes_in c)) → In e (sockets_of c)
  of_nodes e h = inr (in_owners_left (replicas_in c ++ muxes_in c) (agents_in c) e h)

  nodes : (n : NodeId) (socket : Socket) → socket_of c n ≡ Some socket → who_of c socket ≡ node_owner n
  nodes (Replica i) socket at =
      found socket (of_replica i)
      (of_nodes (socket, of_replica i)
      (in_owners_left (replicas_in c) (muxes_in c) (socket, of_replica i)
      (in_claims replica_claims 0 i i c.replicas socket (socket, of_replica i) (omega arith) at (inl refl))))
  nodes (Mux i) socket at =
      found socket (of_mux i)
      (of_nodes (socket, of_mux i)
      (in_owners_right (replicas_in c) (muxes_in c) (socket, of_mux i)
      (in_claims mux_claims 0 i i c.muxes socket (socket, of_mux i) (omega arith) at (inl refl))))
  nodes (Agent i) socket at =
      let agent = mapped_some (λ (a : AgentConf). a.socket) (slice_get c.agents i) socket at in
      found socket (of_agent i)
      (of_agents (socket, of_agent i)
      (in_claims agent_claims 0 i i c.agents agent.0 (socket, of_agent i) (omega arith) agent.1
      (inl (ap (λ s. (s, of_agent i)) agent.2))))

  attached : (i : ℕ) (a : AgentConf) → slice_get c.agents i ≡ Some a
      → Each (λ machine. who_of c machine.attach ≡ Machine machine.address) a.machines
  attached i a at =
      each_at (λ machine. who_of c machine.attach ≡ Machine machine.address) a.machines
      (λ j machine there.
      let e : Socket × Who = (machine.attach, Machine machine.address) in
      found machine.attach (Machine machine.address)
      (of_agents e (in_claims agent_claims 0 i i c.agents a e (omega arith) at
      (inr (in_claims (attach_claims i) 0 j j a.machines machine e (omega arith) there (inl refl))))))

  machines : (i : ℕ) (a : AgentConf) → slice_get c.agents i ≡ Some a
      → Each (λ machine. agent_of (machines_of c.agents) machine.address ≡ Some i) a.machines
  machines i a at =
      let once : Once (keys_of (machines_of c.agents)) =
      subst Once (sym (owner_keys (machine_claims c.agents) ∙ machine_keys c.agents)) keeps.machines in
      each_at (λ machine. agent_of (machines_of c.agents) machine.address ≡ Some i) a.machines
      (λ j machine there.
      let e : Ip4 × ℕ = (machine.address, i) in
      owner_found same_ip ip_itself ip_is (machines_of c.agents) machine.address i once
      (in_claims agent_address_claims 0 i i c.agents a e (omega arith) at
      (in_claims (address_claims i) 0 j j a.machines machine e (omega arith) there (inl refl))))

  pub knows_owners : KnowsOwners c
  knows_owners = record {
    router = found c.router Outside (inl refl);
    nodes = nodes;
    only = only c;
    configured = configured c;
    attached = attached;
    others = λ socket none.
        ap (λ o. unwrap_or o Outside)
        (none_found same_socket socket_itself socket_is (sockets_of c) socket
        (λ there. none (subst (In socket) (owner_keys (socket_claims c.router c.replicas c.muxes c.agents)
        ∙ socket_keys c) there)));
    machines = machines;
    no_machines = λ address none.
        none_found same_ip ip_itself ip_is (machines_of c.agents) address
        (λ there. none (subst (In address) (owner_keys (machine_claims c.agents) ∙ machine_keys c.agents) there));
  }
