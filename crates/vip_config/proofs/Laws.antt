-- A configuration that breaks no rule keeps them all.
use Rattle.std.proofs.Common.{◌≡◌, inl, inr, ℕ, suc, Bool, true, false, not, ◌||◌, List, [], ◌∷◌, ◌++◌, map, length}
use Rattle.std.proofs.Common.{Option, Some, None, is_some, refl, ap, sym, ◌∙◌, subst, arith, true≢false}
use Rattle.std.specs.List.{flat_map, list_any}
use Rattle.std.specs.Map.{keys_of}
use Rattle.std.specs.Option.{option_or}
use Rattle.std.proofs.lemmas.List.{map-append}
use Rattle.std.proofs.lemmas.Bool.{eqb-true}
use Rattle.std.proofs.lemmas.Bool.Decides.{nat_tests}
use Rattle.wire_core.specs.Members.{In, Each}
use Rattle.wire_core.specs.declared.address.Ip4.{Ip4}
use Rattle.config_text.specs.declared.agents.AgentConf.{AgentConf}
use Rattle.config_text.specs.declared.settings.Settings.{Settings}
use Rattle.config_text.specs.declared.vips.VipText.{VipText}
use Rattle.config_text.specs.Bounds.{HasEndpointPorts, IsBounded}
use Rattle.config_text.specs.Sizes.{HasLength, IsSized, IsSizedVip}
use Rattle.std.specs.Prelude.{Result}
use Rattle.vip_config.specs.declared.broken.Broken.{Broken}
use Rattle.vip_config.specs.Claims.{Claim, Tells, claims_of, first_broken, owners_of}
use Rattle.vip_config.specs.Configs.{broken_rule, parts_of, shared_machine, shared_socket, shared_vip, vip_conf_of}
use Rattle.vip_config.specs.Configs.{wrong_port, wrong_snat}
use Rattle.std.specs.Prelude.{unwrap_or}
use Rattle.vip_config.specs.Leases.{all_machine_rules, lease_rules_of, machine_rule, machine_rules, rules_of, vip_rule}
use Rattle.vip_config.specs.Machines.{agent_of, address_claims, agent_address_claims, is_machine, machine_claims}
use Rattle.vip_config.specs.Machines.{machines_of}
use Rattle.wire_core.specs.declared.flow.Proto.{Proto}
use Rattle.wire_core.specs.Same.{same_ip, same_socket}
use Rattle.wire_core.proofs.SameLaws.{ip_itself, proto_itself, socket_itself}
use Rattle.config_text.specs.declared.vips.Endpoint.{Endpoint}
use Rattle.config_text.specs.declared.vips.Member.{Member}
use Rattle.vip_config.specs.Endpoints.{endpoint_claims, member_claims, same_endpoint_key}
use Rattle.vip_config.specs.Endpoints.{vip_endpoint_claims}
use Rattle.vip_config.specs.declared.endpoints.EndpointKey.{EndpointKey}
use Rattle.vip_config.specs.declared.endpoints.EndpointKey.TheVariants.{Port, MachinePort, Machine}
use Rattle.vip_config.specs.Rules.{endpoint_port, machine_ports, members_of, HasBounds, HasLengths, HasRanges}
use Rattle.vip_config.specs.Rules.{KeepsRules, Once, agent_sockets, all_machines, all_snat, all_sockets}
use Rattle.vip_config.specs.Snat.{snat_claims, vip_snat_claims}
use Rattle.vip_config.specs.Sockets.{agent_claims, attach_claims, mux_claims, replica_claims}
use Rattle.vip_config.specs.Sockets.{socket_claims}
use Rattle.vip_config.specs.Vips.{HasPorts, first_wrong_port, is_high, is_low, vip_claims}
use Rattle.vip_config.specs.Vips as vips
use Rattle.vip_config.specs.declared.place.Place.{Place}
use Rattle.vip_config.specs.declared.parts.ConfigParts.{ConfigParts}
use Rattle.vip_config.specs.declared.parts.VipConf.{VipConf}
use Rattle.vip_config.proofs.Members.{each_append, each_left, each_right, in_any, in_cases, in_left, in_right}
use Rattle.vip_config.proofs.Members.{once_apart, once_join, once_left, once_right}
use Rattle.vip_config.proofs.Walks.{claimed_keys, none_some}

abbrev pub keys : {K V : Type 0} → List (Claim K V) → List K
keys cs = map (λ c. c.key) cs

-- ---- claims of which none is broken

and_left : (a b : Bool) → (a || b) ≡ false → a ≡ false
and_left true b h = h
and_left false b h = refl

and_right : (a b : Bool) → (a || b) ≡ false → b ≡ false
and_right true b h = absurd (true≢false h)
and_right false b h = h

not_false : (a : Bool) → not a ≡ false → a ≡ true
not_false true h = refl
not_false false h = absurd (true≢false h)

-- no key is claimed twice, none is one of those before, and each member fits
pub record Clean {K V : Type 0} (before : List K) (cs : List (Claim K V)) : Type 0 where
  pub once : Once (keys cs)
  pub apart : (k : K) → In k before → In k (keys cs) → ⊥
  pub fit : Each (λ c. c.fits ≡ true) cs

module _ {K V : Type 0} (same : K → K → Bool) (own : (k : K) → same k k ≡ true) where
  pub clean : (before : List K) (cs : List (Claim K V)) → first_broken same before cs ≡ None → Clean before cs
  clean before [] none = record { once = tt; apart = λ k i j. j; fit = tt }
  clean before (c ∷ cs) none = by (not c.fits || list_any (same c.key) before) refl (clean (before ++ c.key ∷ []) cs)
    where
      by : (b : Bool) → (not c.fits || list_any (same c.key) before) ≡ b
          → (first_broken same (before ++ c.key ∷ []) cs ≡ None → Clean (before ++ c.key ∷ []) cs)
          → Clean before (c ∷ cs)
      by true is rest = absurd (none_some (rw is at none))
      by false is rest =
          let later = rest (rw is at none) in
          let new : list_any (same c.key) before ≡ false = and_right (not c.fits) (list_any (same c.key) before) is in
          record {
            once = (λ i. later.apart c.key (in_right before (c.key ∷ []) c.key (inl refl)) i, later.once);
            apart = λ k i j.
                elim j [
                  | inl same_key ↦ true≢false (sym
                      (in_any same own c.key before (subst (λ x. In x before) (sym same_key) i)) ∙ new)
                  | inr later_key ↦ later.apart k (in_left before (c.key ∷ []) k i) later_key
                ];
            fit = (not_false c.fits (and_left (not c.fits) (list_any (same c.key) before) is), later.fit);
          }

-- the keys that the members of a list claim, where their numbers are of no account
pub keys_claims : {A K V : Type 0} (f : ℕ → A → List (Claim K V)) (g : A → List K)
    → ((i : ℕ) (x : A) → keys (f i x) ≡ g x) → (i : ℕ) (xs : List A) → keys (claims_of f i xs) ≡ flat_map g xs
keys_claims f g each i [] = refl
keys_claims f g each i (x ∷ xs) =
    map-append (λ c. c.key) (f i x) (claims_of f (suc i) xs) ∙ (λ t. each i x t ++ keys_claims f g each (suc i) xs t)

-- what holds of each claim holds of what each member names
pub each_claims : {A K V Y : Type 0} (P : Claim K V → Type 0) (Q : Y → Type 0) (f : ℕ → A → List (Claim K V)) (g : A
    → List Y) → ((i : ℕ) (x : A) → Each P (f i x) → Each Q (g x))
    → (i : ℕ) (xs : List A) → Each P (claims_of f i xs) → Each Q (flat_map g xs)
each_claims P Q f g each i [] h = tt
each_claims P Q f g each i (x ∷ xs) h =
    each_append Q (g x) (flat_map g xs) (each i x (each_left P (f i x) (claims_of f (suc i) xs) h))
    (each_claims P Q f g each (suc i) xs (each_right P (f i x) (claims_of f (suc i) xs) h))

-- what holds of each member's claims
pub each_group : {A K V : Type 0} (P : Claim K V → Type 0) (Q : A → Type 0) (f : ℕ → A → List (Claim K V))
    → ((i : ℕ) (x : A) → Each P (f i x) → Q x) → (i : ℕ) (xs : List A) → Each P (claims_of f i xs) → Each Q xs
each_group P Q f each i [] h = tt
each_group P Q f each i (x ∷ xs) h = (
  each i x (each_left P (f i x) (claims_of f (suc i) xs) h),
  each_group P Q f each (suc i) xs (each_right P (f i x) (claims_of f (suc i) xs) h),
)

pub once_group : {A K V : Type 0} (Q : A → Type 0) (f : ℕ → A → List (Claim K V))
    → ((i : ℕ) (x : A) → Once (keys (f i x)) → Q x) → (i : ℕ) (xs : List A) → Once (keys (claims_of f i xs)) → Each Q xs
once_group Q f each i [] h = tt
once_group Q f each i (x ∷ xs) h =
    let both = subst Once (map-append (λ c. c.key) (f i x) (claims_of f (suc i) xs)) h in (
      each i x (once_left (keys (f i x)) (keys (claims_of f (suc i) xs)) both),
      once_group Q f each (suc i) xs (once_right (keys (f i x)) (keys (claims_of f (suc i) xs)) both),
    )

-- what claims a key stands once where the keys do
module _ {A K V Y : Type 0} (mark : Y → K) (f : ℕ → A → List (Claim K V)) (g : A → List Y)
    (marks : (i : ℕ) (x : A) (y : Y) → In y (g x) → In (mark y) (keys (f i x))) where
  pub in_marks : (i : ℕ) (xs : List A) (y : Y) → In y (flat_map g xs) → In (mark y) (keys (claims_of f i xs))
  in_marks i [] y h = h
  in_marks i (x ∷ xs) y h =
      subst (In (mark y)) (sym (map-append (λ c. c.key) (f i x) (claims_of f (suc i) xs)))
      (elim (in_cases (g x) (flat_map g xs) y h) [
        | inl here ↦ in_left (keys (f i x)) (keys (claims_of f (suc i) xs)) (mark y) (marks i x y here)
        | inr there ↦ in_right (keys (f i x)) (keys (claims_of f (suc i) xs)) (mark y) (in_marks (suc i) xs y there)
      ])

  pub once_marks : ((i : ℕ) (x : A) → Once (keys (f i x)) → Once (g x)) → (i : ℕ) (xs : List A)
      → Once (keys (claims_of f i xs)) → Once (flat_map g xs)
  once_marks each i [] h = tt
  once_marks each i (x ∷ xs) h =
      let both = subst Once (map-append (λ c. c.key) (f i x) (claims_of f (suc i) xs)) h in
      once_join (g x) (flat_map g xs) (each i x (once_left (keys (f i x)) (keys (claims_of f (suc i) xs)) both))
      (once_marks each (suc i) xs (once_right (keys (f i x)) (keys (claims_of f (suc i) xs)) both))
      (λ y here there. once_apart (keys (f i x)) (keys (claims_of f (suc i) xs)) (mark y) both (marks i x y here)
      (in_marks (suc i) xs y there))

-- ---- sockets and machines

pub flat_single : {X : Type 0} (xs : List X) → flat_map (λ x. x ∷ []) xs ≡ xs
flat_single [] = refl
flat_single (x ∷ xs) = ap (λ l. x ∷ l) (flat_single xs)

pub flat_of : {A X : Type 0} (f : A → X) (xs : List A) → flat_map (λ x. f x ∷ []) xs ≡ map f xs
flat_of f [] = refl
flat_of f (x ∷ xs) = ap (λ l. f x ∷ l) (flat_of f xs)

pub machine_keys : (agents : List AgentConf)
    → keys (machine_claims agents) ≡ flat_map (λ agent. map (λ machine. machine.address) agent.machines) agents
machine_keys agents =
    keys_claims agent_address_claims (λ agent. map (λ machine. machine.address) agent.machines)
    (λ i agent. keys_claims (address_claims i) (λ machine. machine.address ∷ []) (λ j machine. refl) 0 agent.machines
    ∙ flat_of (λ machine. machine.address) agent.machines)
    0 agents

pub agent_keys : (i : ℕ) (agent : AgentConf) → keys (agent_claims i agent) ≡ agent_sockets agent
agent_keys i agent =
    ap (λ l. agent.socket ∷ l) (keys_claims (attach_claims i) (λ machine. machine.attach ∷ [])
    (λ j machine. refl) 0 agent.machines ∙ flat_of (λ machine. machine.attach) agent.machines)

pub socket_keys : (c : ConfigParts) → keys (socket_claims c.router c.replicas c.muxes c.agents) ≡ all_sockets c
socket_keys c =
    ap (λ l. c.router ∷ l)
    (map-append (λ x. x.key) (claims_of replica_claims 0 c.replicas ++ claims_of mux_claims 0 c.muxes)
    (claims_of agent_claims 0 c.agents)
    ∙ ap (λ l. l ++ keys (claims_of agent_claims 0 c.agents))
    (map-append (λ x. x.key) (claims_of replica_claims 0 c.replicas) (claims_of mux_claims 0 c.muxes))
    ∙ (λ t.
    (keys_claims replica_claims (λ socket. socket ∷ []) (λ i socket. refl) 0 c.replicas ∙ flat_single c.replicas) t
    ++ (keys_claims mux_claims (λ socket. socket ∷ []) (λ i socket. refl) 0 c.muxes ∙ flat_single c.muxes) t
    ++ keys_claims agent_claims agent_sockets agent_keys 0 c.agents t))

pub owner_keys : {K V : Type 0} (cs : List (Claim K V)) → keys_of (owners_of cs) ≡ keys cs
owner_keys [] = refl
owner_keys (c ∷ cs) = ap (λ l. c.key ∷ l) (owner_keys cs)

any_in : (a : Ip4) (xs : List Ip4) → list_any (same_ip a) xs ≡ true → In a xs
any_in a [] h = absurd (true≢false (sym h))
any_in a (x ∷ xs) h = by (same_ip a x) refl (any_in a xs)
  where
    by : (b : Bool) → same_ip a x ≡ b → (list_any (same_ip a) xs ≡ true → In a xs) → In a (x ∷ xs)
    by true is rest = let n = eqb-true a.0 x.0 is in inl (λ t. record { 0 = sym n t })
    by false is rest = inr (rest (rw is at h))

-- an address of the machines, by the test
pub machine_test : (agents : List AgentConf) (a : Ip4) → is_machine (machines_of agents) a
    ≡ list_any (same_ip a) (flat_map (λ agent. map (λ machine. machine.address) agent.machines) agents)
machine_test agents a =
    sym (claimed_keys same_ip (same_ip a) (machines_of agents))
    ∙ ap (list_any (same_ip a)) (owner_keys (machine_claims agents) ∙ machine_keys agents)

-- ---- VIPs

pub same_vips : (xs : List VipText)
    → flat_map (λ vip. vip.address ∷ []) xs ≡ map (λ vip. vip.address) (map vip_conf_of xs)
same_vips [] = refl
same_vips (x ∷ xs) = ap (λ l. x.address ∷ l) (same_vips xs)

pub same_snat : (xs : List VipText) → flat_map (λ vip. vip.snat) xs ≡ flat_map (λ vip. vip.snat) (map vip_conf_of xs)
same_snat [] = refl
same_snat (x ∷ xs) = ap (λ l. x.snat ++ l) (same_snat xs)

pub none_left : {X : Type 0} (a b : Option X) → option_or a b ≡ None → a ≡ None
none_left None b h = refl
none_left (Some x) b h = absurd (none_some h)

pub none_right : {X : Type 0} (a b : Option X) → option_or a b ≡ None → b ≡ None
none_right None b h = h
none_right (Some x) b h = absurd (none_some h)

port_of : (i : ℕ) (vip : VipText) → vips.wrong_port i vip ≡ None → HasRanges (vip_conf_of vip)
port_of i vip none = by (is_low vip.low) refl (is_high vip.low vip.high) refl
  where
    by : (b : Bool) → is_low vip.low ≡ b → (c : Bool) → is_high vip.low vip.high ≡ c → HasRanges (vip_conf_of vip)
    by false low c high = absurd (none_some (rw low at none))
    by true low false high = absurd (none_some (rw (low, high) at none))
    by true low true high = record {
      low = grind (arith, nat_tests, low);
      high = grind (arith, nat_tests, high);
      above = grind (arith, nat_tests, low);
      order = grind (arith, nat_tests, high);
      below = grind (arith, nat_tests, high);
    }

ranges : (i : ℕ) (xs : List VipText) → first_wrong_port i xs ≡ None → Each HasRanges (map vip_conf_of xs)
ranges i [] none = tt
ranges i (x ∷ xs) none = (
  port_of i x (none_left _ (first_wrong_port (suc i) xs) none),
  ranges (suc i) xs (none_right (vips.wrong_port i x) _ none),
)

pub has_ports : (xs : List VipText) → Each HasRanges (map vip_conf_of xs) → Each HasPorts xs
has_ports [] h = tt
has_ports (x ∷ xs) h = ((omega (arith, h.0.order, h.0.below), omega (arith, h.0.below)), has_ports xs h.1)

-- ---- endpoints

own_key : (k : EndpointKey) → same_endpoint_key k k ≡ true
own_key (Port v p n) = let proto = proto_itself p in grind (arith, nat_tests, proto)
own_key (MachinePort p a n) = let proto = proto_itself p in grind (arith, nat_tests, proto)
own_key (Machine v e a) = grind (arith, nat_tests)

alone : {X : Type 0} (x : X) → Once (x ∷ [])
alone x = (λ i. i, tt)

each_vip : (P : VipConf → Type 0) (xs : List VipText) → Each (λ vip. P (vip_conf_of vip)) xs
    → Each P (map vip_conf_of xs)
each_vip P [] h = tt
each_vip P (x ∷ xs) h = (h.0, each_vip P xs h.1)

module _ (machines : List (Ip4 × ℕ)) where
  ports_once : (i : ℕ) (vip : VipText) → Once (keys (vip_endpoint_claims machines i vip))
      → Once (map endpoint_port vip.endpoints)
  ports_once i vip h =
      subst Once (flat_of endpoint_port vip.endpoints)
      (once_marks (λ p. Port i p.0 p.1) (endpoint_claims machines i) (λ e. endpoint_port e ∷ [])
      (λ j e y there. elim there [ inl is ↦ inl (ap (λ p. Port i p.0 p.1) is) | inr none ↦ absurd none ])
      (λ j e h. alone (endpoint_port e)) 0 vip.endpoints h)

  members_once : (i j : ℕ) (e : Endpoint) → Once (keys (endpoint_claims machines i j e)) → Once (members_of e)
  members_once i j e h =
      subst Once (flat_of (λ member. member.address) e.machines)
      (once_marks (λ a. Machine i j a) (member_claims machines i j e.proto) (λ member. member.address ∷ [])
      (λ k member y there. elim there [ inl is ↦ inr (inl (ap (λ a. Machine i j a) is)) | inr none ↦ absurd none ])
      (λ k member h. alone member.address) 0 e.machines h.1)

  member_marks : (i j : ℕ) (p : Proto) (k : ℕ) (member : Member) (y : Proto × Ip4 × ℕ)
      → In y ((p, member.address, member.port) ∷ [])
      → In (MachinePort y.0 y.1 y.2) (keys (member_claims machines i j p k member))
  member_marks i j p k member y there =
      elim there [ inl is ↦ inl (ap (λ (q : Proto × Ip4 × ℕ). MachinePort q.0 q.1 q.2) is) | inr none ↦ absurd none ]

  endpoint_marks : (i j : ℕ) (e : Endpoint) (y : Proto × Ip4 × ℕ) → In y (machine_ports e)
      → In (MachinePort y.0 y.1 y.2) (keys (endpoint_claims machines i j e))
  endpoint_marks i j e y there =
      inr (in_marks (λ (q : Proto × Ip4 × ℕ). MachinePort q.0 q.1 q.2) (member_claims machines i j e.proto)
      (λ member. (e.proto, member.address, member.port) ∷ [])
      (member_marks i j e.proto) 0 e.machines y
      (subst (In y) (sym (flat_of (λ member. (e.proto, member.address, member.port)) e.machines)) there))

  endpoint_once : (i j : ℕ) (e : Endpoint) → Once (keys (endpoint_claims machines i j e)) → Once (machine_ports e)
  endpoint_once i j e h =
      subst Once (flat_of (λ member. (e.proto, member.address, member.port)) e.machines)
      (once_marks (λ (q : Proto × Ip4 × ℕ). MachinePort q.0 q.1 q.2) (member_claims machines i j e.proto)
      (λ member. (e.proto, member.address, member.port) ∷ [])
      (member_marks i j e.proto) (λ k member h. alone {X = Proto × Ip4 × ℕ} (e.proto, member.address, member.port)) 0
      e.machines h.1)

  vip_marks : (i : ℕ) (vip : VipText) (y : Proto × Ip4 × ℕ) → In y (flat_map machine_ports vip.endpoints)
      → In (MachinePort y.0 y.1 y.2) (keys (vip_endpoint_claims machines i vip))
  vip_marks i vip y there =
      in_marks (λ (q : Proto × Ip4 × ℕ). MachinePort q.0 q.1 q.2) (endpoint_claims machines i) machine_ports
      (endpoint_marks i) 0 vip.endpoints y there

  vip_once : (i : ℕ) (vip : VipText) → Once (keys (vip_endpoint_claims machines i vip))
      → Once (flat_map machine_ports vip.endpoints)
  vip_once i vip h =
      once_marks (λ (q : Proto × Ip4 × ℕ). MachinePort q.0 q.1 q.2) (endpoint_claims machines i) machine_ports
      (endpoint_marks i) (endpoint_once i) 0 vip.endpoints h

  all_once : (xs : List VipText) → Once (keys (claims_of (vip_endpoint_claims machines) 0 xs))
      → Once (flat_map (λ vip. flat_map machine_ports vip.endpoints) xs)
  all_once xs h =
      once_marks (λ (q : Proto × Ip4 × ℕ). MachinePort q.0 q.1 q.2) (vip_endpoint_claims machines)
      (λ vip. flat_map machine_ports vip.endpoints) vip_marks vip_once 0 xs h

  members_fit : (P : Ip4 → Type 0) → ((a : Ip4) → is_machine machines a ≡ true → P a) → (i j : ℕ) (e : Endpoint)
      → Each (λ c. c.fits ≡ true) (endpoint_claims machines i j e) → Each P (members_of e)
  members_fit P there i j e h =
      subst (Each P) (flat_of (λ member. member.address) e.machines)
      (each_claims (λ c. c.fits ≡ true) P (member_claims machines i j e.proto) (λ member. member.address ∷ [])
      (λ k member h. (there member.address h.1.0, tt)) 0 e.machines h.1)

pub same_machine_ports : (xs : List VipText) → flat_map (λ vip. flat_map machine_ports vip.endpoints) xs
    ≡ flat_map (λ vip. flat_map machine_ports vip.endpoints) (map vip_conf_of xs)
same_machine_ports [] = refl
same_machine_ports (x ∷ xs) = ap (λ l. flat_map machine_ports x.endpoints ++ l) (same_machine_ports xs)

-- ---- all the rules

not_true : (b : Bool) → not b ≡ true → b ≡ false
not_true true h = absurd (true≢false (sym h))
not_true false h = refl

pub keeps_rules : (s : Settings) → broken_rule s ≡ None → KeepsRules (parts_of s)
keeps_rules s none =
    let machines = machines_of s.agents in
    let sockets =
    clean same_socket socket_itself [] (socket_claims s.router s.replicas s.muxes s.agents)
    (none_left (shared_socket s) _ none) in
    let later = none_right (shared_socket s) _ none in
    let addresses =
    clean same_ip ip_itself [] (machine_claims s.agents) (none_left (shared_machine s) _ later) in
    let of_vips = none_right (shared_machine s) _ later in
    let vips =
    clean same_ip ip_itself [] (claims_of (vip_claims machines) 0 s.vips)
    (none_left (shared_vip machines s.vips) _ of_vips) in
    let of_ports = none_right (shared_vip machines s.vips) _ of_vips in
    let of_snat = none_right (wrong_port s.vips) _ of_ports in
    let snat =
    clean same_ip ip_itself [] (claims_of (vip_snat_claims machines) 0 s.vips)
    (none_left (wrong_snat machines s.vips) _ of_snat) in
    let endpoints =
    clean same_endpoint_key own_key [] (claims_of (vip_endpoint_claims machines) 0 s.vips)
    (none_right (wrong_snat machines s.vips) _ of_snat) in
    let there : Ip4 → Type 0 = λ a. In a (all_machines (parts_of s)) in
    let snat_of = λ (i : ℕ) (vip : VipText). keys_claims (snat_claims machines i) (λ a. a ∷ []) (λ j a. refl) 0 vip.snat
    ∙ flat_single vip.snat in
    record {
      sockets = subst Once (socket_keys (parts_of s)) sockets.once;
      machines = subst Once (machine_keys s.agents) addresses.once;
      vips =
          subst Once (keys_claims (vip_claims machines) (λ vip. vip.address ∷ []) (λ i vip. refl) 0 s.vips
          ∙ same_vips s.vips) vips.once;
      vips_apart =
          subst (Each (λ a. In a (all_machines (parts_of s)) → ⊥)) (same_vips s.vips)
          (each_claims (λ c. c.fits ≡ true) (λ a. In a (all_machines (parts_of s)) → ⊥) (vip_claims machines)
          (λ vip. vip.address ∷ [])
          (λ i vip h. (
            λ there. true≢false (sym (in_any same_ip ip_itself vip.address (all_machines (parts_of s)) there)
                ∙ sym (machine_test s.agents vip.address) ∙ not_true _ h.0),
            tt,
          ))
          0 s.vips vips.fit);
      ranges = ranges 0 s.vips (none_left (wrong_port s.vips) _ of_ports);
      snat =
          subst Once (keys_claims (vip_snat_claims machines) (λ vip. vip.snat) snat_of 0 s.vips
          ∙ same_snat s.vips) snat.once;
      snat_machines =
          subst (Each (λ a. In a (all_machines (parts_of s)))) (same_snat s.vips)
          (each_claims (λ c. c.fits ≡ true) (λ a. In a (all_machines (parts_of s))) (vip_snat_claims machines)
          (λ vip. vip.snat)
          (λ i vip h.
          subst (Each (λ a. In a (all_machines (parts_of s)))) (flat_single vip.snat)
          (each_claims (λ c. c.fits ≡ true) (λ a. In a (all_machines (parts_of s))) (snat_claims machines i)
          (λ a. a ∷ [])
          (λ j a h. (any_in a (all_machines (parts_of s)) (sym (machine_test s.agents a) ∙ h.0), tt)) 0 vip.snat h))
          0 s.vips snat.fit);
      ports =
          each_vip (λ vip. Once (map endpoint_port vip.endpoints)) s.vips
          (once_group (λ vip. Once (map endpoint_port vip.endpoints)) (vip_endpoint_claims machines)
          (ports_once machines) 0 s.vips endpoints.once);
      members =
          each_vip (λ vip. Each (λ e. Once (members_of e)) vip.endpoints) s.vips
          (once_group (λ vip. Each (λ e. Once (members_of e)) vip.endpoints) (vip_endpoint_claims machines)
          (λ i vip h. once_group (λ e. Once (members_of e)) (endpoint_claims machines i)
          (members_once machines i) 0 vip.endpoints h) 0 s.vips endpoints.once);
      members_machines =
          each_vip (λ vip. Each (λ e. Each there (members_of e)) vip.endpoints) s.vips
          (each_group (λ c. c.fits ≡ true) (λ vip. Each (λ e. Each there (members_of e)) vip.endpoints)
          (vip_endpoint_claims machines)
          (λ i vip h.
          each_group (λ c. c.fits ≡ true) (λ e. Each there (members_of e)) (endpoint_claims machines i)
          (members_fit machines there (λ a is.
          any_in a (all_machines (parts_of s)) (sym (machine_test s.agents a) ∙ is)) i) 0 vip.endpoints h)
          0 s.vips endpoints.fit);
      machine_ports = subst Once (same_machine_ports s.vips) (all_once machines s.vips endpoints.once);
    }

pub each_on : {X : Type 0} (P Q : X → Type 0) → ((x : X) → P x → Q x) → (xs : List X) → Each P xs → Each Q xs
each_on P Q f [] h = tt
each_on P Q f (x ∷ xs) h = (f x h.0, each_on P Q f xs h.1)

length-map : {A B : Type 0} (f : A → B) (xs : List A) → length (map f xs) ≡ length xs
length-map f [] = refl
length-map f (x ∷ xs) = ap suc (length-map f xs)

pub has_lengths : (s : Settings) → IsSized s → HasLengths (parts_of s)
has_lengths s sized =
    let of_vip =
    λ (P : VipConf → Type 0) (f : (v : VipText) → IsSizedVip v → P (vip_conf_of v)). each_vip P s.vips
    (each_on IsSizedVip (λ v. P (vip_conf_of v)) f s.vips sized.of_vips) in
    record {
      replicas = sized.replicas;
      muxes = sized.muxes;
      agents = sized.agents;
      machines = sized.of_agents;
      vips = let same = length-map vip_conf_of s.vips in (rw same sized.vips.0, rw same sized.vips.1);
      snat = of_vip (λ vip. HasLength 0 4096 vip.snat) (λ v h. h.snat);
      endpoints = of_vip (λ vip. HasLength 0 1024 vip.endpoints) (λ v h. h.endpoints);
      members = of_vip (λ vip. Each (λ endpoint. HasLength 1 64 endpoint.machines) vip.endpoints) (λ v h. h.members);
    }

pub has_bounds : (s : Settings) → IsBounded s → HasBounds (parts_of s)
has_bounds s bounded = record {
  version = bounded.version;
  router = bounded.router;
  replicas = bounded.replicas;
  muxes = bounded.muxes;
  agents = bounded.agents;
  endpoints = each_vip (λ vip. Each HasEndpointPorts vip.endpoints) s.vips bounded.endpoints;
  limit = bounded.limit;
  timers = bounded.timers;
}

pub told : {X : Type 0} (a b v : Option Place) (r : Result X Broken) → a ≡ None → b ≡ None → Tells v r
    → Tells (option_or a (option_or b v)) r
told None None v r is_a is_b h = h
told None (Some y) v r is_a is_b h = absurd (none_some is_b)
told (Some x) b v r is_a is_b h = absurd (none_some is_a)

-- ---- counts and leases

keys_count : {K V : Type 0} (es : List (K × V)) → length (keys_of es) ≡ length es
keys_count [] = refl
keys_count (e ∷ es) = ap suc (keys_count es)

pub machine_count : (agents : List AgentConf)
    → length (machines_of agents) ≡ length (flat_map (λ agent. map (λ machine. machine.address) agent.machines) agents)
machine_count agents =
    sym (keys_count (machines_of agents)) ∙ ap length (owner_keys (machine_claims agents) ∙ machine_keys agents)

vip_names : (xs : List VipConf) → map (λ rule. rule.vip) (map vip_rule xs) ≡ map (λ vip. vip.address) xs
vip_names [] = refl
vip_names (x ∷ xs) = ap (λ l. x.address ∷ l) (vip_names xs)

pub rules_vips : (machines : List (Ip4 × ℕ)) (c : ConfigParts) → KeepsRules c
    → Once (map (λ rule. rule.vip) (rules_of machines c).vips)
rules_vips machines c keeps = subst Once (sym (vip_names c.vips)) keeps.vips

machine_names : (machines : List (Ip4 × ℕ)) (vip : Ip4) (xs : List Ip4)
    → map (λ rule. rule.machine) (map (machine_rule machines vip) xs) ≡ xs
machine_names machines vip [] = refl
machine_names machines vip (x ∷ xs) = ap (λ l. x ∷ l) (machine_names machines vip xs)

all_names : (machines : List (Ip4 × ℕ)) (xs : List VipConf)
    → map (λ rule. rule.machine) (all_machine_rules machines xs) ≡ flat_map (λ vip. vip.snat) xs
all_names machines [] = refl
all_names machines (x ∷ xs) =
    map-append (λ rule. rule.machine) (machine_rules machines x) (all_machine_rules machines xs)
    ∙ (λ t. machine_names machines x.address x.snat t ++ all_names machines xs t)

pub rules_machines : (machines : List (Ip4 × ℕ)) (c : ConfigParts) → KeepsRules c
    → Once (map (λ rule. rule.machine) (rules_of machines c).machines)
rules_machines machines c keeps = subst Once (sym (all_names machines c.vips)) keeps.snat

some_of : (o : Option ℕ) → is_some o ≡ true → o ≡ Some (unwrap_or o 0)
some_of None h = absurd (true≢false (sym h))
some_of (Some n) h = refl

named : (machines : List (Ip4 × ℕ)) (vip : Ip4) (xs : List Ip4) → Each (λ a. is_machine machines a ≡ true) xs
    → Each (λ rule. agent_of machines rule.machine ≡ Some rule.agent) (map (machine_rule machines vip) xs)
named machines vip [] h = tt
named machines vip (x ∷ xs) h = (some_of (agent_of machines x) h.0, named machines vip xs h.1)

all_named : (machines : List (Ip4 × ℕ)) (xs : List VipConf)
    → Each (λ a. is_machine machines a ≡ true) (flat_map (λ vip. vip.snat) xs)
    → Each (λ rule. agent_of machines rule.machine ≡ Some rule.agent) (all_machine_rules machines xs)
all_named machines [] h = tt
all_named machines (x ∷ xs) h =
    each_append (λ rule. agent_of machines rule.machine ≡ Some rule.agent) (machine_rules machines x)
    (all_machine_rules machines xs)
    (named machines x.address x.snat
    (each_left (λ a. is_machine machines a ≡ true) x.snat (flat_map (λ vip. vip.snat) xs) h))
    (all_named machines xs (each_right (λ a. is_machine machines a ≡ true) x.snat (flat_map (λ vip. vip.snat) xs) h))

pub rules_agents : (c : ConfigParts) → KeepsRules c
    → Each (λ rule. agent_of (machines_of c.agents) rule.machine ≡ Some rule.agent) (lease_rules_of c).machines
rules_agents c keeps =
    all_named (machines_of c.agents) c.vips
    (each_on (λ a. In a (all_machines c)) (λ a. is_machine (machines_of c.agents) a ≡ true)
    (λ a there. machine_test c.agents a ∙ in_any same_ip ip_itself a (all_machines c) there)
    (all_snat c) keeps.snat_machines)
