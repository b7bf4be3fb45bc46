-- A configuration that keeps the rules breaks none.
use Rattle.std.proofs.Common.{◌≡◌, inl, ℕ, suc, Bool, true, false, not, ◌&&◌, ◌==◌, List, []}
use Rattle.std.proofs.Common.{◌∷◌, ◌++◌, map, Option, None, refl, ap, sym, ◌∙◌, subst, arith, true≢false}
use Rattle.std.specs.List.{flat_map}
use Rattle.std.specs.Option.{option_or}
use Rattle.std.proofs.lemmas.Bool.{eqb-true}
use Rattle.std.proofs.lemmas.Bool.Decides.{nat_tests}
use Rattle.wire_core.specs.Members.{In, Each}
use Rattle.wire_core.specs.declared.address.Ip4.{Ip4}
use Rattle.wire_core.specs.declared.flow.Proto.{Proto}
use Rattle.wire_core.specs.Same.{same_ip, same_proto, same_socket}
use Rattle.wire_core.proofs.SameLaws.{ip_is, ip_itself, proto_is, socket_is}
use Rattle.config_text.specs.declared.settings.Settings.{Settings}
use Rattle.config_text.specs.declared.vips.Endpoint.{Endpoint}
use Rattle.config_text.specs.declared.vips.Member.{Member}
use Rattle.config_text.specs.declared.vips.VipText.{VipText}
use Rattle.vip_config.specs.Claims.{Claim, claims_of}
use Rattle.vip_config.specs.Configs.{broken_rule, parts_of, shared_machine, shared_socket}
use Rattle.vip_config.specs.Configs.{shared_vip, vip_conf_of, wrong_endpoint, wrong_port, wrong_snat}
use Rattle.vip_config.specs.Endpoints.{endpoint_claims, member_claims, same_endpoint_key}
use Rattle.vip_config.specs.Endpoints.{vip_endpoint_claims}
use Rattle.vip_config.specs.Machines.{address_claims, agent_address_claims, is_machine, machine_claims, machines_of}
use Rattle.vip_config.specs.Rules.{HasRanges, KeepsRules, Once, all_machines, endpoint_port, machine_ports, members_of}
use Rattle.vip_config.specs.Snat.{snat_claims, vip_snat_claims}
use Rattle.vip_config.specs.Sockets.{agent_claims, attach_claims, mux_claims, replica_claims}
use Rattle.vip_config.specs.Sockets.{socket_claims}
use Rattle.vip_config.specs.Vips.{first_wrong_port, is_high, is_low, vip_claims}
use Rattle.vip_config.specs.Vips as vips
use Rattle.vip_config.specs.declared.endpoints.EndpointKey.{EndpointKey}
use Rattle.vip_config.specs.declared.endpoints.EndpointKey.TheVariants.{Port, MachinePort, Machine}
use Rattle.vip_config.specs.declared.parts.VipConf.{VipConf}
use Rattle.vip_config.proofs.Laws.{each_on, flat_of, flat_single, keys, keys_claims, machine_keys, machine_test}
use Rattle.vip_config.proofs.Laws.{same_machine_ports, same_snat, same_vips, socket_keys}
use Rattle.vip_config.proofs.Members.{each_append, in_any}
use Rattle.vip_config.proofs.Clean.{claims_all, claims_each, each_parts, each_text, each_unmap, flat_keys, flat_none}
use Rattle.vip_config.proofs.Clean.{in_flat, named_all, named_each, no_member, none_broken, nothing, once_mapped}
use Rattle.vip_config.proofs.Clean.{once_numbered}

-- ---- keys that are the same are equal

three : (a b c : Bool) → (a && b && c) ≡ true → (a ≡ true) × (b ≡ true) × (c ≡ true)
three true true c h = (refl, refl, h)
three true false c h = absurd (true≢false (sym h))
three false b c h = absurd (true≢false (sym h))

same_keys : (k l : EndpointKey) → same_endpoint_key k l ≡ true → k ≡ l
same_keys (Port v p n) (Port w q m) h =
    let parts = three (v == w) (same_proto p q) (n == m) h in
    let vip = eqb-true v w parts.0 in
    let proto = proto_is p q parts.1 in
    let port = eqb-true n m parts.2 in
    λ t. Port (vip t) (proto t) (port t)
same_keys (MachinePort p a n) (MachinePort q b m) h =
    let parts = three (same_proto p q) (a.0 == b.0) (n == m) h in
    let proto = proto_is p q parts.0 in
    let address = ip_is a b parts.1 in
    let port = eqb-true n m parts.2 in
    λ t. MachinePort (proto t) (address t) (port t)
same_keys (Machine v e a) (Machine w f b) h =
    let parts = three (v == w) (e == f) (a.0 == b.0) h in
    let vip = eqb-true v w parts.0 in
    let endpoint = eqb-true e f parts.1 in
    let address = ip_is a b parts.2 in
    λ t. Machine (vip t) (endpoint t) (address t)
same_keys (Port v p n) (MachinePort q b m) h = absurd (true≢false (sym h))
same_keys (Port v p n) (Machine w f b) h = absurd (true≢false (sym h))
same_keys (MachinePort p a n) (Port w q m) h = absurd (true≢false (sym h))
same_keys (MachinePort p a n) (Machine w f b) h = absurd (true≢false (sym h))
same_keys (Machine v e a) (Port w q m) h = absurd (true≢false (sym h))
same_keys (Machine v e a) (MachinePort q b m) h = absurd (true≢false (sym h))

-- ---- the keys of endpoints, by their kind

abbrev ports_in : EndpointKey → List (ℕ × Proto × ℕ)
ports_in (Port i p n) = (i, p, n) ∷ []
ports_in (MachinePort p a n) = []
ports_in (Machine i j a) = []

abbrev machine_ports_in : EndpointKey → List (Proto × Ip4 × ℕ)
machine_ports_in (Port i p n) = []
machine_ports_in (MachinePort p a n) = (p, a, n) ∷ []
machine_ports_in (Machine i j a) = []

abbrev members_in : EndpointKey → List (ℕ × ℕ × Ip4)
members_in (Port i p n) = []
members_in (MachinePort p a n) = []
members_in (Machine i j a) = (i, j, a) ∷ []

once_kinds : (ks : List EndpointKey) → Once (flat_map ports_in ks) → Once (flat_map machine_ports_in ks)
    → Once (flat_map members_in ks) → Once ks
once_kinds [] a b c = tt
once_kinds (Port i p n ∷ ks) a b c =
    (λ here. a.0 (in_flat ports_in ks (Port i p n) (i, p, n) here (inl refl)), once_kinds ks a.1 b c)
once_kinds (MachinePort p m n ∷ ks) a b c =
    (λ here. b.0 (in_flat machine_ports_in ks (MachinePort p m n) (p, m, n) here (inl refl)), once_kinds ks a b.1 c)
once_kinds (Machine i j m ∷ ks) a b c =
    (λ here. c.0 (in_flat members_in ks (Machine i j m) (i, j, m) here (inl refl)), once_kinds ks a b c.1)

abbrev EndpointClaim : Type 0
EndpointClaim = Claim EndpointKey (Unit {0})

abbrev ports_at : EndpointClaim → List (ℕ × Proto × ℕ)
ports_at c = ports_in c.key

abbrev machine_ports_at : EndpointClaim → List (Proto × Ip4 × ℕ)
machine_ports_at c = machine_ports_in c.key

abbrev members_at : EndpointClaim → List (ℕ × ℕ × Ip4)
members_at c = members_in c.key

module _ (machines : List (Ip4 × ℕ)) where
  endpoint_port_at : (i j : ℕ) (e : Endpoint)
      → flat_map ports_at (endpoint_claims machines i j e) ≡ (i, e.proto, e.port) ∷ []
  endpoint_port_at i j e =
      ap (λ l. (i, e.proto, e.port) ∷ l)
      (named_all ports_at (member_claims machines i j e.proto) nothing (λ k member. refl) 0 e.machines
      ∙ flat_none e.machines)

  endpoint_numbers : (i j : ℕ) (e : Endpoint) → Each (λ z. z.0 ≡ i) (flat_map ports_at (endpoint_claims machines i j e))
  endpoint_numbers i j e =
      (refl, named_each ports_at (member_claims machines i j e.proto) (λ z. z.0 ≡ i) (λ k member. tt) 0 e.machines)

  vip_ports_once : (i : ℕ) (vip : VipText) → Once (map endpoint_port vip.endpoints)
      → Once (flat_map ports_at (vip_endpoint_claims machines i vip))
  vip_ports_once i vip h =
      subst Once
      (sym (named_all ports_at (endpoint_claims machines i) (λ e. (i, e.proto, e.port) ∷ [])
      (endpoint_port_at i) 0 vip.endpoints
      ∙ flat_of (λ e. (i, e.proto, e.port)) vip.endpoints))
      (once_mapped (λ (e : Endpoint). (i, e.proto, e.port)) endpoint_port (λ (z : ℕ × Proto × ℕ). (z.1, z.2))
      (λ e. refl) vip.endpoints h)

  all_ports_once : (xs : List VipText) → Each (λ vip. Once (map endpoint_port vip.endpoints)) xs
      → Once (flat_map ports_at (claims_of (vip_endpoint_claims machines) 0 xs))
  all_ports_once xs h =
      once_numbered ports_at (vip_endpoint_claims machines) (λ z. z.0)
      (λ i vip. named_each ports_at (endpoint_claims machines i) (λ z. z.0 ≡ i) (endpoint_numbers i) 0 vip.endpoints)
      (λ vip. Once (map endpoint_port vip.endpoints)) vip_ports_once 0 xs h

  endpoint_machine_ports : (i j : ℕ) (e : Endpoint)
      → flat_map machine_ports_at (endpoint_claims machines i j e) ≡ machine_ports e
  endpoint_machine_ports i j e =
      named_all machine_ports_at (member_claims machines i j e.proto)
      (λ member. (e.proto, member.address, member.port) ∷ []) (λ k member. refl) 0 e.machines
      ∙ flat_of (λ member. (e.proto, member.address, member.port)) e.machines

  all_machine_ports_at : (xs : List VipText)
      → flat_map machine_ports_at (claims_of (vip_endpoint_claims machines) 0 xs) ≡ flat_map
      (λ vip. flat_map machine_ports vip.endpoints) xs
  all_machine_ports_at xs =
      named_all machine_ports_at (vip_endpoint_claims machines) (λ vip. flat_map machine_ports vip.endpoints)
      (λ i vip. named_all machine_ports_at (endpoint_claims machines i) machine_ports
      (endpoint_machine_ports i) 0 vip.endpoints) 0 xs

  endpoint_members_at : (i j : ℕ) (e : Endpoint)
      → flat_map members_at (endpoint_claims machines i j e) ≡ map (λ member. (i, j, member.address)) e.machines
  endpoint_members_at i j e =
      named_all members_at (member_claims machines i j e.proto) (λ member. (i, j, member.address) ∷ [])
      (λ k member. refl) 0 e.machines
      ∙ flat_of (λ member. (i, j, member.address)) e.machines

  endpoint_members_once : (i j : ℕ) (e : Endpoint) → Once (members_of e)
      → Once (flat_map members_at (endpoint_claims machines i j e))
  endpoint_members_once i j e h =
      subst Once (sym (endpoint_members_at i j e))
      (once_mapped (λ (member : Member). (i, j, member.address)) (λ member. member.address) (λ (z : ℕ × ℕ × Ip4). z.2)
      (λ member. refl) e.machines h)

  members_vip : (i j : ℕ) (e : Endpoint) → Each (λ z. z.0 ≡ i) (flat_map members_at (endpoint_claims machines i j e))
  members_vip i j e =
      named_each members_at (member_claims machines i j e.proto) (λ z. z.0 ≡ i) (λ k member. (refl, tt)) 0 e.machines

  members_endpoint : (i j : ℕ) (e : Endpoint)
      → Each (λ z. z.1 ≡ j) (flat_map members_at (endpoint_claims machines i j e))
  members_endpoint i j e =
      named_each members_at (member_claims machines i j e.proto) (λ z. z.1 ≡ j) (λ k member. (refl, tt)) 0 e.machines

  vip_members_once : (i : ℕ) (vip : VipText) → Each (λ e. Once (members_of e)) vip.endpoints
      → Once (flat_map members_at (vip_endpoint_claims machines i vip))
  vip_members_once i vip h =
      once_numbered members_at (endpoint_claims machines i) (λ z. z.1) (members_endpoint i) (λ e. Once (members_of e))
      (endpoint_members_once i) 0 vip.endpoints h

  all_members_once : (xs : List VipText) → Each (λ vip. Each (λ e. Once (members_of e)) vip.endpoints) xs
      → Once (flat_map members_at (claims_of (vip_endpoint_claims machines) 0 xs))
  all_members_once xs h =
      once_numbered members_at (vip_endpoint_claims machines) (λ z. z.0)
      (λ i vip. named_each members_at (endpoint_claims machines i) (λ z. z.0 ≡ i) (members_vip i) 0 vip.endpoints)
      (λ vip. Each (λ e. Once (members_of e)) vip.endpoints) vip_members_once 0 xs h

  keys_once : (xs : List VipText)
      → Each (λ vip. Once (map endpoint_port vip.endpoints)) xs
      → Once (flat_map (λ vip. flat_map machine_ports vip.endpoints) xs)
      → Each (λ vip. Each (λ e. Once (members_of e)) vip.endpoints) xs
      → Once (keys (claims_of (vip_endpoint_claims machines) 0 xs))
  keys_once xs ports machine_ports members =
      let cs = claims_of (vip_endpoint_claims machines) 0 xs in
      once_kinds (keys cs)
      (subst Once (sym (flat_keys ports_in cs)) (all_ports_once xs ports))
      (subst Once (sym (flat_keys machine_ports_in cs ∙ all_machine_ports_at xs)) machine_ports)
      (subst Once (sym (flat_keys members_in cs)) (all_members_once xs members))

  endpoint_fits : (i j : ℕ) (e : Endpoint) → Each (λ a. is_machine machines a ≡ true) (members_of e)
      → Each (λ c. c.fits ≡ true) (endpoint_claims machines i j e)
  endpoint_fits i j e h = (
    refl,
    claims_each (λ c. c.fits ≡ true) (λ member. is_machine machines member.address ≡ true)
        (member_claims machines i j e.proto)
        (λ k member is. (refl, (is, tt))) 0 e.machines
        (each_unmap (λ a. is_machine machines a ≡ true) (λ member. member.address) e.machines h),
  )

  vip_fits : (i : ℕ) (vip : VipText) → Each (λ e. Each (λ a. is_machine machines a ≡ true) (members_of e)) vip.endpoints
      → Each (λ c. c.fits ≡ true) (vip_endpoint_claims machines i vip)
  vip_fits i vip h =
      claims_each (λ c. c.fits ≡ true) (λ e. Each (λ a. is_machine machines a ≡ true) (members_of e))
      (endpoint_claims machines i) (endpoint_fits i) 0 vip.endpoints h

-- ---- ports of VIPs

is_low_port : (vip : VipConf) → HasRanges vip → is_low vip.low ≡ true
is_low_port vip h = grind (arith, nat_tests, h.low, h.above, h.order, h.below)

is_high_port : (vip : VipConf) → HasRanges vip → is_high vip.low vip.high ≡ true
is_high_port vip h = grind (arith, nat_tests, h.high, h.order, h.below)

right_port : (i : ℕ) (vip : VipText) → HasRanges (vip_conf_of vip) → vips.wrong_port i vip ≡ None
right_port i vip h = rw (is_low_port (vip_conf_of vip) h, is_high_port (vip_conf_of vip) h) refl

right_ports : (i : ℕ) (xs : List VipText) → Each (λ vip. HasRanges (vip_conf_of vip)) xs → first_wrong_port i xs ≡ None
right_ports i [] h = refl
right_ports i (x ∷ xs) h = rw (right_port i x h.0) (right_ports (suc i) xs h.1)

-- ---- all the rules

none_both : {X : Type 0} (a b : Option X) → a ≡ None → b ≡ None → option_or a b ≡ None
none_both a b is_a is_b = rw is_a is_b

not_is_true : (b : Bool) → (b ≡ true → ⊥) → not b ≡ true
not_is_true true h = absurd (h refl)
not_is_true false h = refl

module _ (s : Settings) (keeps : KeepsRules (parts_of s)) where
  abbrev machines : List (Ip4 × ℕ)
  machines = machines_of s.agents

  is_there : (a : Ip4) → In a (all_machines (parts_of s)) → is_machine machines a ≡ true
  is_there a there = machine_test s.agents a ∙ in_any same_ip ip_itself a (all_machines (parts_of s)) there

  no_shared_socket : shared_socket s ≡ None
  no_shared_socket =
      none_broken same_socket socket_is (socket_claims s.router s.replicas s.muxes s.agents)
      (subst Once (sym (socket_keys (parts_of s))) keeps.sockets) (
        refl,
        each_append (λ c. c.fits ≡ true) (claims_of replica_claims 0 s.replicas ++ claims_of mux_claims 0 s.muxes)
            (claims_of agent_claims 0 s.agents)
            (each_append (λ c. c.fits ≡ true) (claims_of replica_claims 0 s.replicas) (claims_of mux_claims 0 s.muxes)
            (claims_all (λ c. c.fits ≡ true) replica_claims (λ i socket. (refl, tt)) 0 s.replicas)
            (claims_all (λ c. c.fits ≡ true) mux_claims (λ i socket. (refl, tt)) 0 s.muxes))
            (claims_all (λ c. c.fits ≡ true) agent_claims
            (λ i agent. (
              refl,
              claims_all (λ c. c.fits ≡ true) (attach_claims i)
                  (λ j machine. (refl, tt)) 0 agent.machines,
            )) 0 s.agents),
      )

  no_shared_machine : shared_machine s ≡ None
  no_shared_machine =
      none_broken same_ip ip_is (machine_claims s.agents)
      (subst Once (sym (machine_keys s.agents)) keeps.machines)
      (claims_all (λ c. c.fits ≡ true) agent_address_claims
      (λ i agent. claims_all (λ c. c.fits ≡ true) (address_claims i)
      (λ j machine. (refl, tt)) 0 agent.machines) 0 s.agents)

  is_apart : (a : Ip4) → (In a (all_machines (parts_of s)) → ⊥) → not (is_machine machines a) ≡ true
  is_apart a apart =
      ap not (machine_test s.agents a ∙ no_member same_ip ip_is a (all_machines (parts_of s)) apart)

  no_shared_vip : shared_vip machines s.vips ≡ None
  no_shared_vip =
      none_broken same_ip ip_is (claims_of (vip_claims machines) 0 s.vips)
      (subst Once (sym (keys_claims (vip_claims machines) (λ vip. vip.address ∷ []) (λ i vip. refl) 0 s.vips
      ∙ same_vips s.vips)) keeps.vips)
      (claims_each (λ c. c.fits ≡ true) (λ vip. In vip.address (all_machines (parts_of s)) → ⊥) (vip_claims machines)
      (λ i vip apart. (is_apart vip.address apart, tt)) 0 s.vips
      (each_text (λ vip. In vip.address (all_machines (parts_of s)) → ⊥) s.vips
      (each_unmap (λ a. In a (all_machines (parts_of s)) → ⊥) (λ vip. vip.address)
      (map vip_conf_of s.vips) keeps.vips_apart)))

  no_wrong_port : wrong_port s.vips ≡ None
  no_wrong_port = right_ports 0 s.vips (each_text HasRanges s.vips keeps.ranges)

  snat_keys : (i : ℕ) (vip : VipText) → keys (vip_snat_claims machines i vip) ≡ vip.snat
  snat_keys i vip = keys_claims (snat_claims machines i) (λ a. a ∷ []) (λ j a. refl) 0 vip.snat ∙ flat_single vip.snat

  no_wrong_snat : wrong_snat machines s.vips ≡ None
  no_wrong_snat =
      none_broken same_ip ip_is (claims_of (vip_snat_claims machines) 0 s.vips)
      (subst Once (sym (keys_claims (vip_snat_claims machines) (λ vip. vip.snat) snat_keys 0 s.vips
      ∙ same_snat s.vips)) keeps.snat)
      (claims_each (λ c. c.fits ≡ true) (λ vip. Each (λ a. In a (all_machines (parts_of s))) vip.snat)
      (vip_snat_claims machines)
      (λ i vip h. claims_each (λ c. c.fits ≡ true) (λ a. In a (all_machines (parts_of s))) (snat_claims machines i)
      (λ j a there. (is_there a there, tt)) 0 vip.snat h) 0 s.vips
      (each_parts (λ a. In a (all_machines (parts_of s))) (λ vip. vip.snat) s.vips
      (subst (Each (λ a. In a (all_machines (parts_of s)))) (sym (same_snat s.vips)) keeps.snat_machines)))

  vip_members_fit : (i : ℕ) (vip : VipText)
      → Each (λ e. Each (λ a. In a (all_machines (parts_of s))) (members_of e)) vip.endpoints
      → Each (λ c. c.fits ≡ true) (vip_endpoint_claims machines i vip)
  vip_members_fit i vip h =
      vip_fits machines i vip
      (each_on (λ e. Each (λ a. In a (all_machines (parts_of s))) (members_of e))
      (λ e. Each (λ a. is_machine machines a ≡ true) (members_of e))
      (λ e there. each_on (λ a. In a (all_machines (parts_of s))) (λ a. is_machine machines a ≡ true) is_there
      (members_of e) there) vip.endpoints h)

  no_wrong_endpoint : wrong_endpoint machines s.vips ≡ None
  no_wrong_endpoint =
      none_broken same_endpoint_key same_keys (claims_of (vip_endpoint_claims machines) 0 s.vips)
      (keys_once machines s.vips (each_text (λ vip. Once (map endpoint_port vip.endpoints)) s.vips keeps.ports)
      (subst Once (sym (same_machine_ports s.vips)) keeps.machine_ports)
      (each_text (λ vip. Each (λ e. Once (members_of e)) vip.endpoints) s.vips keeps.members))
      (claims_each (λ c. c.fits ≡ true)
      (λ vip. Each (λ e. Each (λ a. In a (all_machines (parts_of s))) (members_of e)) vip.endpoints)
      (vip_endpoint_claims machines) vip_members_fit 0 s.vips
      (each_text (λ vip. Each
      (λ e. Each (λ a. In a (all_machines (parts_of s))) (members_of e)) vip.endpoints) s.vips keeps.members_machines))

  pub breaks_none : broken_rule s ≡ None
  breaks_none =
      none_both (shared_socket s) _ no_shared_socket
      (none_both (shared_machine s) _ no_shared_machine
      (none_both (shared_vip machines s.vips) _ no_shared_vip
      (none_both (wrong_port s.vips) _ no_wrong_port
      (none_both (wrong_snat machines s.vips) (wrong_endpoint machines s.vips) no_wrong_snat no_wrong_endpoint))))
