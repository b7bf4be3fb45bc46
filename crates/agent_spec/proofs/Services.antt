-- A port of a machine serves one endpoint.
use Rattle.std.proofs.Common.{◌≡◌, inl, inr, ℕ, Bool, true, false, cond, List, [], ◌∷◌, map, find, Option, Some}
use Rattle.std.proofs.Common.{None, refl, ap, sym, subst, ◌∙◌, arith}
use Rattle.std.specs.Prelude.{◌==◌, ◌&&◌, if◌then◌else◌, option_map}
use Rattle.std.specs.List.{flat_map}
use Rattle.wire_core.specs.Members.{In}
use Rattle.wire_core.specs.Same.{same_ip, same_proto}
use Rattle.wire_core.specs.declared.address.Ip4.{Ip4}
use Rattle.wire_core.specs.declared.flow.FlowKey.{FlowKey}
use Rattle.wire_core.specs.declared.flow.Proto.{Proto}
use Rattle.wire_core.proofs.SameLaws.{ip_is, proto_is}
use Rattle.config_text.specs.declared.vips.Endpoint.{Endpoint}
use Rattle.config_text.specs.declared.vips.Member.{Member}
use Rattle.vip_config.specs.Rules.{KeepsRules, Once, machine_ports}
use Rattle.vip_config.specs.Serving.{endpoint_for, endpoints_at, member_at, member_in, serves}
use Rattle.vip_config.specs.declared.parts.ConfigParts.{ConfigParts}
use Rattle.vip_config.specs.declared.parts.VipConf.{VipConf}
use Rattle.vip_config.proofs.Clean.{in_flat}
use Rattle.vip_config.proofs.Members.{in_cases, once_apart, once_left, once_right}
use Rattle.agent_spec.specs.Keys.{served_port}
use Rattle.agent_spec.proofs.KeyLists.{found_passes}

-- ---- lists

found_in : {X : Type 0} (p : X → Bool) (xs : List X) (x : X) → find p xs ≡ Some x → In x xs
found_in p [] x h = absurd (cc)
found_in p (y ∷ ys) x h = by (p y) h (found_in p ys x)
  where
    by : (b : Bool) → cond b (Some y) (find p ys) ≡ Some x → (find p ys ≡ Some x → In x ys) → In x (y ∷ ys)
    by true h rest = let same : y ≡ x = cc in inl same
    by false h rest = inr (rest h)

in_map : {X Y : Type 0} (f : X → Y) (xs : List X) (x : X) → In x xs → In (f x) (map f xs)
in_map f [] x i = absurd i
in_map f (y ∷ ys) x i = elim i [ inl is ↦ inl (ap f is) | inr j ↦ inr (in_map f ys x j) ]

-- where a member of joined lists comes from
record Source {X Y : Type 0} (g : X → List Y) (xs : List X) (y : Y) : Type 0 where
  of : X
  within : In of xs
  has : In y (g of)

source : {X Y : Type 0} (g : X → List Y) (xs : List X) (y : Y) → In y (flat_map g xs) → Source g xs y
source g [] y i = absurd i
source g (x ∷ xs) y i =
    elim (in_cases (g x) (flat_map g xs) y i) [
      | inl j ↦ record { of = x; within = inl refl; has = j }
      | inr j ↦ let r = source g xs y j in record { of = r.of; within = inr r.within; has = r.has }
    ]

-- joined lists without two equal members: one member comes from one place
same_source : {X Y : Type 0} (g : X → List Y) (xs : List X) (a b : X) (y : Y) → Once (flat_map g xs) → In a xs
    → In b xs → In y (g a) → In y (g b) → a ≡ b
same_source g [] a b y once i j p q = absurd i
same_source g (x ∷ xs) a b y once i j p q =
    elim i [
      | inl here ↦ elim j [
        | inl there ↦ sym here ∙ there
        | inr later ↦ absurd (once_apart (g x) (flat_map g xs) y once
            (subst (λ w. In y (g w)) (sym here) p) (in_flat g xs b y later q))
      ]
      | inr before ↦ elim j [
        | inl there ↦ absurd (once_apart (g x) (flat_map g xs) y once
            (subst (λ w. In y (g w)) (sym there) q) (in_flat g xs a y before p))
        | inr later ↦ same_source g xs a b y (once_right (g x) (flat_map g xs) once) before later p q
      ]
    ]

once_part : {X Y : Type 0} (g : X → List Y) (xs : List X) (a : X) → Once (flat_map g xs) → In a xs → Once (g a)
once_part g [] a once i = absurd i
once_part g (x ∷ xs) a once i =
    elim i [
      | inl here ↦ subst (λ w. Once (g w)) here (once_left (g x) (flat_map g xs) once)
      | inr later ↦ once_part g xs a (once_right (g x) (flat_map g xs) once) later
    ]

-- ---- who serves

-- the endpoint of packets with this key, which the machine serves at the port
record Serving (vips : List VipConf) (k : FlowKey) (machine : Ip4) (port : ℕ) : Type 0 where
  vip : VipConf
  endpoint : Endpoint
  is_vip : In vip vips
  is_endpoint : In endpoint vip.endpoints
  at_address : vip.address ≡ k.dst
  of_proto : endpoint.proto ≡ k.proto
  at_port : endpoint.port ≡ k.dport
  is_member : In (endpoint.proto, machine, port) (machine_ports endpoint)

both_left : (a b : Bool) → a && b ≡ true → a ≡ true
both_left true b h = refl
both_left false b h = absurd (cc)

both_right : (a b : Bool) → a && b ≡ true → b ≡ true
both_right true b h = h
both_right false b h = absurd (cc)

at_vip : (a : Ip4) (e : Endpoint) (v : VipConf) (b : Bool) → same_ip v.address a ≡ b
    → In e (if b then v.endpoints else []) → (v.address ≡ a) × In e v.endpoints
at_vip a e v true is i = (ip_is v.address a is, i)
at_vip a e v false is i = absurd i

by_member : (vips : List VipConf) (k : FlowKey) (machine : Ip4) (port : ℕ) (e : Endpoint)
    → find (serves k) (endpoints_at vips k.dst) ≡ Some e → (m : Member)
    → find (λ (x : Member). same_ip x.address machine) e.machines ≡ Some m → m.port ≡ port → Serving vips k machine port
by_member vips k machine port e found m among is =
    let test : serves k e ≡ true = found_passes (serves k) (endpoints_at vips k.dst) e found in
    let from = source (λ (v : VipConf). if same_ip v.address k.dst then v.endpoints else []) vips e
    (found_in (serves k) (endpoints_at vips k.dst) e found) in
    let here = at_vip k.dst e from.of (same_ip from.of.address k.dst) refl from.has in
    let address : m.address ≡ machine = ip_is m.address machine
    (found_passes (λ (x : Member). same_ip x.address machine) e.machines m among) in
    let member = in_map (λ (x : Member). (e.proto, x.address, x.port)) e.machines m
    (found_in (λ (x : Member). same_ip x.address machine) e.machines m among) in
    record {
      vip = from.of;
      endpoint = e;
      is_vip = from.within;
      is_endpoint = here.1;
      at_address = here.0;
      of_proto = proto_is e.proto k.proto (both_left (same_proto e.proto k.proto) (e.port == k.dport) test);
      at_port = port_is (both_right (same_proto e.proto k.proto) (e.port == k.dport) test);
      is_member = subst (λ (a : Ip4). In (e.proto, a, port) (machine_ports e)) address
          (subst (λ (p : ℕ). In (e.proto, m.address, p) (machine_ports e)) is member);
    }
  where
    port_is : (e.port == k.dport) ≡ true → e.port ≡ k.dport
    port_is same = grind arith

-- the port of a machine that serves
abbrev port_of : Option Member → Option ℕ
port_of o = option_map (λ (m : Member). m.port) o

by_endpoint : (vips : List VipConf) (k : FlowKey) (machine : Ip4) (port : ℕ) (e : Endpoint)
    → find (serves k) (endpoints_at vips k.dst) ≡ Some e → (o : Option Member)
    → find (λ (x : Member). same_ip x.address machine) e.machines ≡ o
    → port_of o ≡ Some port → Serving vips k machine port
by_endpoint vips k machine port e found None among is = absurd (cc)
by_endpoint vips k machine port e found (Some m) among is = by_member vips k machine port e found m among (some_is is)
  where
    some_is : Some m.port ≡ Some port → m.port ≡ port
    some_is h = cc

by_endpoints : (vips : List VipConf) (k : FlowKey) (machine : Ip4) (port : ℕ) (o : Option Endpoint)
    → find (serves k) (endpoints_at vips k.dst) ≡ o → port_of (member_in machine o) ≡ Some port
    → Serving vips k machine port
by_endpoints vips k machine port None found is = absurd (cc)
by_endpoints vips k machine port (Some e) found is =
    by_endpoint vips k machine port e found (find (λ (x : Member). same_ip x.address machine) e.machines) refl is

serving : (vips : List VipConf) (k : FlowKey) (machine : Ip4) (port : ℕ) → served_port vips k machine ≡ Some port
    → Serving vips k machine port
unfolding member_at endpoint_for
serving vips k machine port is =
    by_endpoints vips k machine port (find (serves k) (endpoints_at vips k.dst)) refl is

-- ---- one endpoint

service_is : (c : ConfigParts) (k l : FlowKey) (machine : Ip4) (port : ℕ) → KeepsRules c
    → Serving c.vips k machine port → Serving c.vips l machine port → k.proto ≡ l.proto
    → (k.dst ≡ l.dst) × (k.dport ≡ l.dport)
service_is c k l machine port rules s t proto =
    let protos : t.endpoint.proto ≡ s.endpoint.proto = t.of_proto ∙ sym (s.of_proto ∙ proto) in
    let member = subst (λ (p : Proto). In (p, machine, port) (machine_ports t.endpoint)) protos t.is_member in
    let ports = λ (v : VipConf). flat_map machine_ports v.endpoints in
    let vip : s.vip ≡ t.vip =
    same_source ports c.vips s.vip t.vip (s.endpoint.proto, machine, port) rules.machine_ports s.is_vip t.is_vip
    (in_flat machine_ports s.vip.endpoints s.endpoint (s.endpoint.proto, machine, port) s.is_endpoint s.is_member)
    (in_flat machine_ports t.vip.endpoints t.endpoint (s.endpoint.proto, machine, port) t.is_endpoint member) in
    let endpoint : s.endpoint ≡ t.endpoint =
    same_source machine_ports s.vip.endpoints s.endpoint t.endpoint (s.endpoint.proto, machine, port)
    (once_part ports c.vips s.vip rules.machine_ports s.is_vip)
    s.is_endpoint (subst (λ (v : VipConf). In t.endpoint v.endpoints) (sym vip) t.is_endpoint) s.is_member member in (
      sym s.at_address ∙ ap (λ (v : VipConf). v.address) vip ∙ t.at_address,
      sym s.at_port ∙ ap (λ (e : Endpoint). e.port) endpoint ∙ t.at_port,
    )

-- A machine serves keys of one transport at one port: then they go to one VIP and one port.
pub one_service : (c : ConfigParts) (k l : FlowKey) (machine : Ip4) (port : ℕ) → KeepsRules c
    → served_port c.vips k machine ≡ Some port → served_port c.vips l machine ≡ Some port → k.proto ≡ l.proto
    → (k.dst ≡ l.dst) × (k.dport ≡ l.dport)
one_service c k l machine port rules s t proto =
    service_is c k l machine port rules (serving c.vips k machine port s) (serving c.vips l machine port t) proto
