-- What is read has lists of the lengths that they may have, and numbers within their bounds.
use Rattle.std.proofs.Common.{◌≡◌, ℕ, suc, ◌<◌, ◌≤◌, ◌^◌, nat_le, ◌&&◌, Bool, true, false, cond, List, [], ◌∷◌, length}
use Rattle.std.proofs.Common.{Option, Some, None, Result, Ok, Err, IfOk, refl, ap, subst, rules, arith, codes}
use Rattle.std.specs.Option.{option_and_then}
use Rattle.serde_json.specs.Data.{Data, Items, no_items, item}
use Rattle.serde_json.specs.Events.{items_len}
use Rattle.serde_json.specs.Find.{as_array, as_str, get}
use Rattle.wire_core.specs.Members.{Each}
use Rattle.wire_core.specs.declared.address.Socket.{Socket}
use Rattle.address_text.specs.Addresses.{socket_of}
use Rattle.address_text.proofs.AddressText.{socket_spelled}
use Rattle.config_text.specs.declared.fault.ConfigFault.{ConfigFault}
use Rattle.config_text.specs.declared.agents.AgentConf.{AgentConf}
use Rattle.config_text.specs.declared.agents.Attach.{Attach}
use Rattle.config_text.specs.declared.settings.Settings.{Settings}
use Rattle.config_text.specs.declared.settings.Timers.{Timers}
use Rattle.config_text.specs.declared.vips.Endpoint.{Endpoint}
use Rattle.config_text.specs.declared.vips.Member.{Member}
use Rattle.config_text.specs.declared.vips.VipText.{VipText}
use Rattle.config_text.specs.Bounds.{HasAgentPorts, HasEndpointPorts, HasPort, HasSpans, IsBounded, IsFrom, IsPort}
use Rattle.config_text.specs.Faults.{Fault, Gives, given, ◌>>=◌}
use Rattle.config_text.specs.Form.{agent_of, attach_of, endpoint_of, json_of, member_of, or_json, settings_of}
use Rattle.config_text.specs.Form.{timer_keys, timers_at, timers_of, vip_of, whole_keys, whole_of}
use Rattle.config_text.specs.Members.{At, address_in, child, each, is_of_length, item_path, key_path, list_at}
use Rattle.config_text.specs.Members.{list_of_length, member_at, nothing_but, number_in, object, port_in, proto_in}
use Rattle.config_text.specs.Members.{single, socket_in, whole_in, within}
use Rattle.config_text.specs.Sizes.{HasLength, IsSized, IsSizedAgent, IsSizedEndpoint, IsSizedVip}

-- ---- steps of a reading that succeeds

abbrev same : {A : Type 0} → Result A Fault → Result A Fault → Type 0
same x y = x ≡ y

-- what follows from each step of a reading that succeeded
then_ok : {A B P : Type 0} (r : Result A Fault) (f : A → Result B Fault) (y : B)
    → ((x : A) → r ≡ Ok x → f x ≡ Ok y → P) → (r >>= f) ≡ Ok y → P
then_ok (Ok x) f y more e = more x refl e
then_ok (Err d) f y more e = absurd cc

ok_is : {A : Type 0} (x y : A) → same (Ok x) (Ok y) → x ≡ y
ok_is x y e = cc

given_ok : {A : Type 0} (path : List ℕ) (o : Option A) (x : A) → given path o ≡ Ok x → o ≡ Some x
given_ok path None x e = absurd cc
given_ok path (Some y) x e = cc

between : (low high n : ℕ) → (nat_le low n && nat_le n high) ≡ true → (low ≤ n) × (n ≤ high)
between low high n e = search rules

-- ---- lists

each_ok : {A : Type 0} (P : A → Type 0) (read : At → Result A Fault) (path : List ℕ) (index : ℕ) (ds : Items)
    (xs : List A) → ((p : At) (x : A) → read p ≡ Ok x → P x)
    → each read path index ds ≡ Ok xs → (length xs ≡ items_len ds) × Each P xs
each_ok P read path index no_items [] holds e = (refl, tt)
each_ok P read path index no_items (x ∷ xs) holds e = absurd cc
each_ok P read path index (item d ds) ys holds e =
    then_ok (read (record { path = Some (item_path path index); value = d }))
    (λ x. each read path (suc index) ds >>= λ xs. Ok (x ∷ xs)) ys
    (λ x one. then_ok (each read path (suc index) ds) (λ xs. Ok (x ∷ xs)) ys
    (λ xs others last. subst (λ (l : List _). (length l ≡ suc (items_len ds)) × Each P l) (ok_is _ _ last)
    (let rest = each_ok P read path (suc index) ds xs holds others in
    (ap suc rest.0, (holds _ x one, rest.1))))) e

kept : (low high : ℕ) (found ds : Items) (b : Bool) → is_of_length low high found ≡ b
    → cond b (Some found) None ≡ Some ds → is_of_length low high ds ≡ true
kept low high found ds false is e = absurd cc
kept low high found ds true is e = cc

array_kept : (low high : ℕ) (r : Option Items) (ds : Items)
    → option_and_then (λ ds. cond (is_of_length low high ds) (Some ds) None) r ≡ Some ds
    → is_of_length low high ds ≡ true
array_kept low high None ds e = absurd cc
array_kept low high (Some found) ds e = kept low high found ds _ refl e

value_kept : (low high : ℕ) (r : Option Data) (ds : Items) → option_and_then (list_of_length low high) r ≡ Some ds
    → is_of_length low high ds ≡ true
value_kept low high None ds e = absurd cc
value_kept low high (Some d) ds e = array_kept low high (as_array d) ds e

list_ok : {A : Type 0} (P : A → Type 0) (read : At → Result A Fault) (low high : ℕ) (o : At) (key : List ℕ)
    (xs : List A) → ((p : At) (x : A) → read p ≡ Ok x → P x)
    → list_at read low high o key ≡ Ok xs → HasLength low high xs × Each P xs
list_ok P read low high o key xs holds =
    then_ok (member_at (list_of_length low high) o key) (each read (key_path o.path key) 0) xs
    (λ ds found all.
    let is = value_kept low high (get key o.value) ds (given_ok (key_path o.path key) _ ds found) in
    let size = between low high (items_len ds) is in
    let every = each_ok P read (key_path o.path key) 0 ds xs holds all in
    (rw every.0 size, every.1))

anything : {A : Type 0} (read : At → Result A Fault) (p : At) (x : A) → read p ≡ Ok x → Unit {0}
anything read p x e = tt

each_on : {A : Type 0} (P Q : A → Type 0) → ((x : A) → P x → Q x) → (xs : List A) → Each P xs → Each Q xs
each_on P Q f [] h = tt
each_on P Q f (x ∷ xs) h = (f x h.0, each_on P Q f xs h.1)

-- ---- numbers and sockets

within_ok : (low high m n : ℕ) (b : Bool) → (nat_le low m && nat_le m high) ≡ b → cond b (Some m) None ≡ Some n
    → IsFrom low high n
within_ok low high m n false is e = absurd cc
within_ok low high m n true is e = let same : m ≡ n = cc in subst (IsFrom low high) same (between low high m is)

whole_ok : (low high : ℕ) (r : Option ℕ) (n : ℕ) → option_and_then (within low high) r ≡ Some n → IsFrom low high n
whole_ok low high None n e = absurd cc
whole_ok low high (Some m) n e = within_ok low high m n _ refl e

found_number : (low high : ℕ) (r : Option Data) (n : ℕ) → option_and_then (number_in low high) r ≡ Some n
    → IsFrom low high n
found_number low high None n e = absurd cc
found_number low high (Some d) n e = whole_ok low high (whole_in d) n e

number_ok : (low high : ℕ) (o : At) (key : List ℕ) (n : ℕ) → member_at (number_in low high) o key ≡ Ok n
    → IsFrom low high n
number_ok low high o key n e = found_number low high (get key o.value) n (given_ok (key_path o.path key) _ n e)

text_port : (r : Option (List ℕ)) (s : Socket) → option_and_then socket_of r ≡ Some s → HasPort s
text_port None s e = absurd cc
text_port (Some text) s e =
    let is = (socket_spelled s text e).1 in
    (omega (arith, is.1), omega (arith, is.2))

found_socket : (r : Option Data) (s : Socket) → option_and_then socket_in r ≡ Some s → HasPort s
found_socket None s e = absurd cc
found_socket (Some d) s e = text_port (as_str d) s e

socket_ok : (o : At) (key : List ℕ) (s : Socket) → member_at socket_in o key ≡ Ok s → HasPort s
socket_ok o key s e = found_socket (get key o.value) s (given_ok (key_path o.path key) _ s e)

single_socket : (p : At) (s : Socket) → single socket_in p ≡ Ok s → HasPort s
single_socket p s e = text_port (as_str p.value) s (given_ok _ _ s e)

-- ---- objects

attach_bounded : (o : At) (a : Attach) → attach_of o ≡ Ok a → HasPort a.attach
unfolding attach_of
attach_bounded o a =
    then_ok (object o) _ a (λ is_object e0.
    then_ok (member_at address_in o (codes "address")) _ a (λ address e1.
    then_ok (member_at socket_in o (codes "attach")) _ a (λ attach e2.
    then_ok (nothing_but (codes "address" ∷ codes "attach" ∷ []) o) _ a (λ others e3 last.
    subst (λ (m : Attach). HasPort m.attach) (ok_is _ _ last) (socket_ok o (codes "attach") attach e2)))))

abbrev IsFormedAgent : AgentConf → Type 0
IsFormedAgent a = IsSizedAgent a × HasAgentPorts a

agent_formed : (o : At) (a : AgentConf) → agent_of o ≡ Ok a → IsFormedAgent a
unfolding agent_of
agent_formed o a =
    then_ok (object o) _ a (λ is_object e0.
    then_ok (member_at socket_in o (codes "socket")) _ a (λ socket e1.
    then_ok (list_at attach_of 1 64 o (codes "machines")) _ a (λ machines found.
    then_ok (nothing_but (codes "socket" ∷ codes "machines" ∷ []) o) _ a (λ others e2 last.
    let all = list_ok (λ m. HasPort m.attach) attach_of 1 64 o (codes "machines") machines attach_bounded found in
    let ports : HasAgentPorts _ = record { socket = socket_ok o (codes "socket") socket e1; machines = all.1 } in
    subst IsFormedAgent (ok_is _ _ last) (all.0, ports)))))

member_bounded : (o : At) (m : Member) → member_of o ≡ Ok m → IsPort m.port
unfolding member_of
member_bounded o m =
    then_ok (object o) _ m (λ is_object e0.
    then_ok (member_at address_in o (codes "address")) _ m (λ address e1.
    then_ok (member_at port_in o (codes "port")) _ m (λ port e2.
    then_ok (nothing_but (codes "address" ∷ codes "port" ∷ []) o) _ m (λ others e3 last.
    subst (λ (m : Member). IsPort m.port) (ok_is _ _ last) (number_ok 1 65535 o (codes "port") port e2)))))

abbrev IsFormedEndpoint : Endpoint → Type 0
IsFormedEndpoint e = IsSizedEndpoint e × HasEndpointPorts e

endpoint_formed : (o : At) (x : Endpoint) → endpoint_of o ≡ Ok x → IsFormedEndpoint x
unfolding endpoint_of
endpoint_formed o x =
    then_ok (object o) _ x (λ is_object e0.
    then_ok (member_at proto_in o (codes "proto")) _ x (λ proto e1.
    then_ok (member_at port_in o (codes "port")) _ x (λ port e2.
    then_ok (list_at member_of 1 64 o (codes "machines")) _ x (λ machines found.
    then_ok (nothing_but (codes "proto" ∷ codes "port" ∷ codes "machines" ∷ []) o) _ x (λ others e3 last.
    let all = list_ok (λ m. IsPort m.port) member_of 1 64 o (codes "machines") machines member_bounded found in
    let ports : HasEndpointPorts _ = record { port = number_ok 1 65535 o (codes "port") port e2; machines = all.1 } in
    subst IsFormedEndpoint (ok_is _ _ last) (all.0, ports))))))

abbrev HasEndpoints : VipText → Type 0
HasEndpoints v = Each HasEndpointPorts v.endpoints

abbrev IsFormedVip : VipText → Type 0
IsFormedVip v = IsSizedVip v × HasEndpoints v

abbrev vip_keys : List (List ℕ)
vip_keys = codes "address" ∷ codes "low" ∷ codes "high" ∷ codes "snat" ∷ codes "endpoints" ∷ []

vip_formed : (o : At) (v : VipText) → vip_of o ≡ Ok v → IsFormedVip v
unfolding vip_of
vip_formed o v =
    then_ok (object o) _ v (λ is_object e0.
    then_ok (member_at address_in o (codes "address")) _ v (λ address e1.
    then_ok (member_at whole_in o (codes "low")) _ v (λ low e2.
    then_ok (member_at whole_in o (codes "high")) _ v (λ high e3.
    then_ok (list_at (single address_in) 0 4096 o (codes "snat")) _ v (λ snat some.
    then_ok (list_at endpoint_of 0 1024 o (codes "endpoints")) _ v (λ endpoints found.
    then_ok (nothing_but vip_keys o) _ v (λ others e4 last.
    let in_snat = anything (single address_in) in
    let machines = list_ok (λ m. Unit {0}) (single address_in) 0 4096 o (codes "snat") snat in_snat some in
    let served = list_ok IsFormedEndpoint endpoint_of 0 1024 o (codes "endpoints") endpoints endpoint_formed found in
    let members = each_on IsFormedEndpoint IsSizedEndpoint (λ e h. h.0) endpoints served.1 in
    let ports = each_on IsFormedEndpoint HasEndpointPorts (λ e h. h.1) endpoints served.1 in
    let sized : IsSizedVip _ = record { snat = machines.0; endpoints = served.0; members = members } in
    subst IsFormedVip (ok_is _ _ last) (sized, ports))))))))

abbrev span_at : At → List ℕ → Result ℕ Fault
span_at o key = member_at (number_in 1 86400000) o key

timers_spanned : (o : At) (t : Timers) → timers_of o ≡ Ok t → HasSpans t
unfolding timers_of
timers_spanned o t =
    then_ok (object o) _ t (λ is_object e0.
    then_ok (span_at o (codes "lead_silent")) _ t (λ lead_silent e1.
    then_ok (span_at o (codes "mux_silent")) _ t (λ mux_silent e2.
    then_ok (span_at o (codes "ask_retry")) _ t (λ ask_retry e3.
    then_ok (span_at o (codes "flow_idle")) _ t (λ flow_idle e4.
    then_ok (span_at o (codes "range_idle")) _ t (λ range_idle e5.
    then_ok (nothing_but timer_keys o) _ t (λ others e6 last.
    subst HasSpans (ok_is _ _ last) (record {
      lead_silent = number_ok 1 86400000 o (codes "lead_silent") lead_silent e1;
      mux_silent = number_ok 1 86400000 o (codes "mux_silent") mux_silent e2;
      ask_retry = number_ok 1 86400000 o (codes "ask_retry") ask_retry e3;
      flow_idle = number_ok 1 86400000 o (codes "flow_idle") flow_idle e4;
      range_idle = number_ok 1 86400000 o (codes "range_idle") range_idle e5;
    }))))))))

abbrev IsFormed : Settings → Type 0
IsFormed s = IsSized s × IsBounded s

whole_formed : (o : At) (s : Settings) → whole_of o ≡ Ok s → IsFormed s
unfolding whole_of
whole_formed o s =
    then_ok (member_at (number_in 1 1) o (codes "version")) _ s (λ version e0.
    then_ok (member_at socket_in o (codes "router")) _ s (λ router e1.
    then_ok (list_at (single socket_in) 5 5 o (codes "replicas")) _ s (λ replicas five.
    then_ok (list_at (single socket_in) 1 16 o (codes "muxes")) _ s (λ muxes some.
    then_ok (list_at agent_of 1 256 o (codes "agents")) _ s (λ agents hosts.
    then_ok (list_at vip_of 1 64 o (codes "vips")) _ s (λ vips served.
    then_ok (member_at (number_in 1 1024) o (codes "limit")) _ s (λ limit e2.
    then_ok (timers_at o (codes "timers")) _ s (λ timers e3.
    then_ok (nothing_but whole_keys o) _ s (λ others e4 last.
    let r = list_ok HasPort (single socket_in) 5 5 o (codes "replicas") replicas single_socket five in
    let m = list_ok HasPort (single socket_in) 1 16 o (codes "muxes") muxes single_socket some in
    let a = list_ok IsFormedAgent agent_of 1 256 o (codes "agents") agents agent_formed hosts in
    let v = list_ok IsFormedVip vip_of 1 64 o (codes "vips") vips vip_formed served in
    let one = number_ok 1 1 o (codes "version") version e0 in
    let sized : IsSized _ = record {
      replicas = omega (arith, r.0);
      muxes = m.0;
      agents = a.0;
      vips = v.0;
      of_agents = each_on IsFormedAgent IsSizedAgent (λ x h. h.0) agents a.1;
      of_vips = each_on IsFormedVip IsSizedVip (λ x h. h.0) vips v.1;
    } in
    let bounded : IsBounded _ = record {
      version = omega (arith, one);
      router = socket_ok o (codes "router") router e1;
      replicas = r.1;
      muxes = m.1;
      agents = each_on IsFormedAgent HasAgentPorts (λ x h. h.1) agents a.1;
      endpoints = each_on IsFormedVip HasEndpoints (λ x h. h.1) vips v.1;
      limit = number_ok 1 1024 o (codes "limit") limit e2;
      timers = then_ok (child o (codes "timers")) timers_of timers (λ p e. timers_spanned p timers) e3;
    } in
    subst IsFormed (ok_is _ _ last) (sized, bounded))))))))))

settings_formed : (bytes : List ℕ) (s : Settings) → settings_of bytes ≡ Ok s → IsFormed s
unfolding settings_of
settings_formed bytes s =
    then_ok (or_json (json_of bytes)) (λ d. whole_of (record { path = None; value = d })) s
    (λ d e. whole_formed (record { path = None; value = d }) s)

pub sized_if_read : (bytes : List ℕ) (r : Result Settings ConfigFault) → Gives r (settings_of bytes) → IfOk r IsSized
sized_if_read bytes (Ok s) e = (settings_formed bytes s e).0
sized_if_read bytes (Err d) e = tt

pub bounded_if_read : (bytes : List ℕ) (r : Result Settings ConfigFault) → Gives r (settings_of bytes)
    → IfOk r IsBounded
bounded_if_read bytes (Ok s) e = (settings_formed bytes s e).1
bounded_if_read bytes (Err d) e = tt
