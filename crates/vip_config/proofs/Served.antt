-- What a machine serves is found at once.
use Rattle.std.proofs.Common.{◌≡◌, inl, inr, Bool, true, false, cond, List, [], ◌∷◌, ◌++◌, map, find, Some}
use Rattle.std.proofs.Common.{None, refl, ap, sym, ◌∙◌, arith}
use Rattle.std.specs.Prelude.{◌&&◌, if◌then◌else◌}
use Rattle.std.specs.List.{flat_map}
use Rattle.std.specs.Map.{lookup}
use Rattle.std.specs.Option.{option_or}
use Rattle.std.proofs.lemmas.Bool.Decides.{nat_tests}
use Rattle.std.proofs.lemmas.List.{append-nil}
use Rattle.wire_core.specs.Members.{In, Each}
use Rattle.wire_core.specs.Same.{same_ip, same_proto}
use Rattle.wire_core.specs.declared.address.Ip4.{Ip4}
use Rattle.wire_core.specs.declared.flow.FlowKey.{FlowKey}
use Rattle.wire_core.specs.declared.flow.Proto.{Proto}
use Rattle.wire_core.specs.declared.flow.Proto.TheVariants.{Tcp, Udp}
use Rattle.wire_core.proofs.SameLaws.{ip_is, proto_is}
use Rattle.config_text.specs.declared.vips.Endpoint.{Endpoint}
use Rattle.config_text.specs.declared.vips.Member.{Member}
use Rattle.vip_config.specs.Rules.{Once, endpoint_port}
use Rattle.vip_config.specs.Serving.{endpoint_for, endpoints_at, member_at, member_in, serves, service_for}
use Rattle.vip_config.specs.Ways.{all_services, endpoint_services, same_service, service_by, services_of}
use Rattle.vip_config.specs.declared.parts.VipConf.{VipConf}
use Rattle.vip_config.specs.declared.services.Service.{Service}
use Rattle.vip_config.proofs.Lookups.{lookup_append, none_last}

-- ---- services are the same

pub service_is : (a b : Service) → same_service a b ≡ true → a ≡ b
service_is a b same = let proto : a.proto ≡ b.proto = proto_is a.proto b.proto (grind arith) in grind arith

proto_turned : (p q : Proto) → same_proto p q ≡ same_proto q p
proto_turned Tcp Tcp = refl
proto_turned Tcp Udp = refl
proto_turned Udp Tcp = refl
proto_turned Udp Udp = refl

-- ---- lists

mapped_found : {A K : Type 0} (t : K → Bool) (key : A → K) (p : A → Bool) → ((x : A) → t (key x) ≡ p x) → (xs : List A)
    → lookup t (map (λ x. (key x, x)) xs) ≡ find p xs
mapped_found t key p is [] = refl
mapped_found {A = A} t key p is (x ∷ xs) = by (p x) (is x) (mapped_found t key p is xs)
  where
    by : (b : Bool) → t (key x) ≡ b → lookup t (map (λ (y : A). (key y, y)) xs) ≡ find p xs
        → lookup t (map (λ (y : A). (key y, y)) (x ∷ xs)) ≡ cond b (Some x) (find p xs)
    by true here rest = rw here refl
    by false here rest = rw here rest

none_found : {A K : Type 0} (t : K → Bool) (key : A → K) → ((x : A) → t (key x) ≡ false) → (xs : List A)
    → lookup t (map (λ x. (key x, x)) xs) ≡ None
none_found t key is [] = refl
none_found t key is (x ∷ xs) = rw (is x) (none_found t key is xs)

-- ---- one key, and one machine

module _ (k : FlowKey) (machine : Ip4) where
  -- this is looked up
  abbrev wanted : Service → Bool
  wanted s = same_service (service_for k machine) s

  wanted_is : (a : Ip4) (e : Endpoint) (m : Member)
      → wanted (service_by a e m).0 ≡ (same_ip a k.dst && (serves k e && same_ip m.address machine))
  wanted_is a e m = let turned = proto_turned k.proto e.proto in grind (arith, nat_tests, turned)

  -- the endpoint's machines, where it is the one
  here : (a : Ip4) (e : Endpoint) → same_ip a k.dst ≡ true → serves k e ≡ true
      → lookup wanted (endpoint_services a e) ≡ member_in machine (Some e)
  here a e at is =
      mapped_found wanted (λ (m : Member). (service_by a e m).0) (λ (m : Member). same_ip m.address machine)
      (λ m. wanted_is a e m ∙ rw (at, is) refl) e.machines

  -- and where it isn't
  away : (a : Ip4) (e : Endpoint) → (same_ip a k.dst && serves k e) ≡ false
      → lookup wanted (endpoint_services a e) ≡ None
  away a e off =
      none_found wanted (λ (m : Member). (service_by a e m).0)
      (λ m. wanted_is a e m ∙ both (same_ip a k.dst) (serves k e) (same_ip m.address machine) off) e.machines
    where
      both : (x y z : Bool) → (x && y) ≡ false → (x && (y && z)) ≡ false
      both true true z is = absurd (cc)
      both true false z is = refl
      both false y z is = refl

  same_port : (d e : Endpoint) → serves k d ≡ true → serves k e ≡ true → endpoint_port d ≡ endpoint_port e
  same_port d e is too =
      let proto : d.proto ≡ k.proto = proto_is d.proto k.proto (grind arith) in
      let other : e.proto ≡ k.proto = proto_is e.proto k.proto (grind arith) in
      let port : d.port ≡ e.port = grind arith in
      λ t. ((proto ∙ sym other) t, port t)

  -- no later endpoint serves the same
  unserved : (a : Ip4) (e : Endpoint) (es : List Endpoint) → serves k e ≡ true
      → (In (endpoint_port e) (map endpoint_port es) → ⊥) → lookup wanted (flat_map (endpoint_services a) es) ≡ None
  unserved a e [] is apart = refl
  unserved a e (x ∷ xs) is apart =
      lookup_append wanted (endpoint_services a x) (flat_map (endpoint_services a) xs)
      ∙ (λ t. option_or (away a x (other (serves k x) refl) t) (unserved a e xs is (λ i. apart (inr i)) t))
    where
      other : (b : Bool) → serves k x ≡ b → (same_ip a k.dst && serves k x) ≡ false
      other true too = absurd (apart (inl (same_port x e too is)))
      other false off = rw off (last (same_ip a k.dst))
        where
          last : (b : Bool) → (b && false) ≡ false
          last true = refl
          last false = refl

  -- the endpoints of the VIP
  served_by : (a : Ip4) (es : List Endpoint) → same_ip a k.dst ≡ true → Once (map endpoint_port es)
      → lookup wanted (flat_map (endpoint_services a) es) ≡ member_in machine (find (serves k) es)
  served_by a [] at once = refl
  served_by a (e ∷ es) at once =
      lookup_append wanted (endpoint_services a e) (flat_map (endpoint_services a) es)
      ∙ by (serves k e) refl (served_by a es at once.1)
    where
      by : (b : Bool) → serves k e ≡ b
          → lookup wanted (flat_map (endpoint_services a) es) ≡ member_in machine (find (serves k) es)
          → option_or (lookup wanted (endpoint_services a e)) (lookup wanted (flat_map (endpoint_services a) es))
          ≡ member_in machine (cond b (Some e) (find (serves k) es))
      by true is rest =
          (λ t. option_or (here a e at is t) (unserved a e es is once.0 t)) ∙ sym (none_last (member_in machine (Some e)))
      by false is rest = (λ t. option_or (away a e (rw (at, is) refl) t) (rest t))

  -- the endpoints of another VIP
  none_by : (a : Ip4) (es : List Endpoint) → same_ip a k.dst ≡ false
      → lookup wanted (flat_map (endpoint_services a) es) ≡ None
  none_by a [] at = refl
  none_by a (e ∷ es) at =
      lookup_append wanted (endpoint_services a e) (flat_map (endpoint_services a) es)
      ∙ (λ t. option_or (away a e (rw at refl) t) (none_by a es at t))

  -- VIPs of which none has the address
  none_there : (vips : List VipConf) → (In k.dst (map (λ (v : VipConf). v.address) vips) → ⊥)
      → lookup wanted (all_services vips) ≡ None
  none_there [] apart = refl
  none_there (v ∷ vs) apart =
      lookup_append wanted (services_of v) (all_services vs)
      ∙ (λ t. option_or (none_by v.address v.endpoints (other (same_ip v.address k.dst) refl) t)
      (none_there vs (λ i. apart (inr i)) t))
    where
      other : (b : Bool) → same_ip v.address k.dst ≡ b → same_ip v.address k.dst ≡ false
      other true is = absurd (apart (inl (ip_is v.address k.dst is)))
      other false off = off

  no_endpoints : (vips : List VipConf) → (In k.dst (map (λ (v : VipConf). v.address) vips) → ⊥)
      → endpoints_at vips k.dst ≡ []
  no_endpoints [] apart = refl
  no_endpoints (v ∷ vs) apart = by (same_ip v.address k.dst) refl (no_endpoints vs (λ i. apart (inr i)))
    where
      by : (b : Bool) → same_ip v.address k.dst ≡ b → endpoints_at vs k.dst ≡ []
          → (if b then v.endpoints else []) ++ endpoints_at vs k.dst ≡ []
      by true is rest = absurd (apart (inl (ip_is v.address k.dst is)))
      by false is rest = rest

  found_at : (vips : List VipConf) → Once (map (λ (v : VipConf). v.address) vips)
      → Each (λ (v : VipConf). Once (map endpoint_port v.endpoints)) vips
      → lookup wanted (all_services vips) ≡ member_in machine (find (serves k) (endpoints_at vips k.dst))
  found_at [] once ports = refl
  found_at (v ∷ vs) once ports =
      lookup_append wanted (services_of v) (all_services vs)
      ∙ by (same_ip v.address k.dst) refl (found_at vs once.1 ports.1)
    where
      by : (b : Bool) → same_ip v.address k.dst ≡ b
          → lookup wanted (all_services vs) ≡ member_in machine (find (serves k) (endpoints_at vs k.dst))
          → option_or (lookup wanted (services_of v)) (lookup wanted (all_services vs))
          ≡ member_in machine (find (serves k) ((if b then v.endpoints else []) ++ endpoints_at vs k.dst))
      by true is rest =
          let apart : In k.dst (map (λ (v : VipConf). v.address) vs) → ⊥ = λ i. once.0 (rw (ip_is v.address k.dst is) i) in
          (λ t. option_or (served_by v.address v.endpoints is ports.0 t) (none_there vs apart t))
          ∙ sym (none_last (member_in machine (find (serves k) v.endpoints)))
          ∙ ap (λ l. member_in machine (find (serves k) l))
          (sym (append-nil v.endpoints) ∙ ap (λ l. v.endpoints ++ l) (sym (no_endpoints vs apart)))
      by false is rest = (λ t. option_or (none_by v.address v.endpoints is t) (rest t))

-- What the endpoints say of a machine is what is listed of it.
pub service_found : (vips : List VipConf) (k : FlowKey) (machine : Ip4) → Once (map (λ (v : VipConf). v.address) vips)
    → Each (λ (v : VipConf). Once (map endpoint_port v.endpoints)) vips
    → lookup (same_service (service_for k machine)) (all_services vips) ≡ member_at vips k machine
unfolding member_at endpoint_for
service_found vips k machine once ports = found_at k machine vips once ports
