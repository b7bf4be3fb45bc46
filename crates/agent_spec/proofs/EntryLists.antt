-- Lists of inbound entries: each is of an endpoint, and so no two have one key.
use Rattle.std.proofs.Common.{◌≡◌, refl, ap, sym, subst, ◌∙◌, Bool, true, false, cond, not, List, [], ◌∷◌, ◌++◌, filter, find}
use Rattle.std.proofs.Common.{Some, None}
use Rattle.wire_core.specs.Members.{Each}
use Rattle.wire_core.specs.Same.{same_key}
use Rattle.wire_core.specs.declared.flow.FlowKey.{FlowKey}
use Rattle.wire_core.proofs.SameLaws.{key_is, key_itself}
use Rattle.vip_config.specs.Rules.{KeepsRules}
use Rattle.vip_config.specs.declared.parts.ConfigParts.{ConfigParts}
use Rattle.agent_spec.specs.declared.connection.Connection.{Connection}
use Rattle.agent_spec.specs.Connections.{by_private, by_public, changed, closed, has_private, has_public}
use Rattle.agent_spec.specs.Connections.{private_key, public_key}
use Rattle.agent_spec.specs.Keys.{EntriesApart, IsFree, IsServed, OwnKeys, outer_key, served_port}
use Rattle.agent_spec.proofs.KeyLists.{apart_append, apart_changed, apart_filter, by_if, each_filter, each_none}
use Rattle.agent_spec.proofs.KeyLists.{each_snoc}
use Rattle.agent_spec.proofs.Services.{one_service}

-- ---- two entries

-- with one private key they have one public key
public_is : (c : ConfigParts) (x y : Connection) → KeepsRules c → IsServed c.vips x → IsServed c.vips y
    → private_key x ≡ private_key y → public_key x ≡ public_key y
unfolding private_key public_key
public_is c x y rules hx hy e =
    let machine : x.machine ≡ y.machine = ap (λ (k : FlowKey). k.src) e in
    let remote : x.remote ≡ y.remote = ap (λ (k : FlowKey). k.dst) e in
    let sport : x.sport ≡ y.sport = ap (λ (k : FlowKey). k.sport) e in
    let rport : x.rport ≡ y.rport = ap (λ (k : FlowKey). k.dport) e in
    let proto : x.proto ≡ y.proto = ap (λ (k : FlowKey). k.proto) e in
    let there : served_port c.vips (outer_key y) x.machine ≡ Some x.sport =
    ap (served_port c.vips (outer_key y)) machine ∙ hy ∙ ap Some (sym sport) in
    let service = one_service c (outer_key x) (outer_key y) x.machine x.sport rules hx there proto in
    rw (service.0, service.1, remote, rport, proto) refl

private_differs : (c : ConfigParts) (x y : Connection) → KeepsRules c → IsServed c.vips x → IsServed c.vips y
    → same_key (public_key x) (public_key y) ≡ false → same_key (private_key x) (private_key y) ≡ false
private_differs c x y rules hx hy differ = by (same_key (private_key x) (private_key y)) refl
  where
    by : (b : Bool) → same_key (private_key x) (private_key y) ≡ b → b ≡ false
    by false e = refl
    by true e =
        let same = public_is c x y rules hx hy (key_is (private_key x) (private_key y) e) in
        let again = subst (λ k. same_key (public_key x) k ≡ true) same (key_itself (public_key x)) in
        absurd (cc)

-- ---- one entry more

pub free_private : (c : ConfigParts) (xs : List Connection) (x : Connection) → KeepsRules c
    → Each (IsServed c.vips) xs → IsServed c.vips x → IsFree public_key (public_key x) xs
    → IsFree private_key (private_key x) xs
free_private c [] x rules served own free = tt
free_private c (y ∷ ys) x rules served own free =
    (private_differs c y x rules served.0 own free.0, free_private c ys x rules served.1 own free.1)

pub entered_apart : (c : ConfigParts) (xs : List Connection) (x : Connection) → KeepsRules c → EntriesApart c xs
    → IsServed c.vips x → IsFree public_key (public_key x) xs → EntriesApart c (xs ++ x ∷ [])
entered_apart c xs x rules h own free = record {
  keys = apart_append xs x h.keys (free_private c xs x rules h.served own free) free;
  served = each_snoc (IsServed c.vips) xs x h.served own;
}

-- ---- one entry less

pub filtered_apart : (c : ConfigParts) (p : Connection → Bool) (xs : List Connection) → EntriesApart c xs
    → EntriesApart c (filter p xs)
filtered_apart c p xs h = record {
  keys = apart_filter p xs h.keys;
  served = each_filter (IsServed c.vips) p xs h.served;
}

key_differs : (a b : FlowKey) → same_key a b ≡ false → same_key b a ≡ false
key_differs a b differ = by (same_key b a) refl
  where
    by : (v : Bool) → same_key b a ≡ v → v ≡ false
    by false e = refl
    by true e =
        let again = subst (λ k. same_key a k ≡ true) (sym (key_is b a e)) (key_itself a) in
        absurd (cc)

-- the others have other keys than one whose public key this is
others_free : (k : FlowKey) (x : Connection) (xs : List Connection) → same_key (public_key x) k ≡ true
    → Each (λ y. same_key (public_key x) (public_key y) ≡ false) xs → IsFree public_key k xs
others_free k x [] is h = tt
others_free k x (y ∷ ys) is h = (
  subst (λ l. same_key (public_key y) l ≡ false) (key_is (public_key x) k is)
      (key_differs (public_key x) (public_key y) h.0),
  others_free k x ys is h.1,
)

closed_first : (k : FlowKey) (x y : Connection) (ys : List Connection) → y ≡ x → same_key (public_key x) k ≡ true
    → IsFree public_key k (closed (private_key x) ys) → IsFree public_key k (closed (private_key x) (y ∷ ys))
closed_first k x y ys is test rest =
    by (has_private (private_key x) y) (ap (λ z. same_key (private_key z) (private_key x)) is ∙ key_itself (private_key x))
  where
    by : (b : Bool) → b ≡ true
        → IsFree public_key k (cond (not b) (y ∷ closed (private_key x) ys) (closed (private_key x) ys))
    by true e = rest
    by false e = absurd (cc)

closed_later : (k : FlowKey) (x y : Connection) (ys : List Connection) → same_key (public_key y) k ≡ false
    → IsFree public_key k (closed (private_key x) ys) → IsFree public_key k (closed (private_key x) (y ∷ ys))
closed_later k x y ys differ rest = by (has_private (private_key x) y)
  where
    by : (b : Bool) → IsFree public_key k (cond (not b) (y ∷ closed (private_key x) ys) (closed (private_key x) ys))
    by true = rest
    by false = (differ, rest)

-- without the one that is found by its public key none has it
pub closed_free : (k : FlowKey) (xs : List Connection) (x : Connection) → OwnKeys public_key xs
    → by_public k xs ≡ Some x → IsFree public_key k (closed (private_key x) xs)
closed_free k [] x own found = tt
closed_free k (y ∷ ys) x own found =
    by (has_public k y) refl found (closed_free k ys x own.1)
  where
    by : (b : Bool) → has_public k y ≡ b → cond b (Some y) (by_public k ys) ≡ Some x
        → (by_public k ys ≡ Some x → IsFree public_key k (closed (private_key x) ys))
        → IsFree public_key k (closed (private_key x) (y ∷ ys))
    by true e found rest =
        let is : y ≡ x = cc in
        let test = subst (λ z. same_key (public_key z) k ≡ true) is e in
        closed_first k x y ys is test
        (each_filter (λ z. same_key (public_key z) k ≡ false) (λ z. not (has_private (private_key x) z)) ys
        (others_free k y ys e own.0))
    by false e found rest = closed_later k x y ys e (rest found)

-- ---- an entry is changed

each_changed : (P : Connection → Type 0) (x : Connection) (f : Connection → Connection)
    → ((y : Connection) → P y → P (f y)) → (xs : List Connection) → Each P xs → Each P (changed x f xs)
each_changed P x f k [] h = tt
each_changed P x f k (y ∷ ys) h =
    (by_if P (has_private (private_key x) y) (k y h.0) h.0, each_changed P x f k ys h.1)

pub changed_apart : (c : ConfigParts) (x : Connection) (f : Connection → Connection)
    → ((y : Connection) → private_key (f y) ≡ private_key y)
    → ((y : Connection) → public_key (f y) ≡ public_key y)
    → ((y : Connection) → IsServed c.vips y → IsServed c.vips (f y)) → (xs : List Connection) → EntriesApart c xs
    → EntriesApart c (changed x f xs)
changed_apart c x f inner outer k xs h = record {
  keys = apart_changed x f inner outer xs h.keys;
  served = each_changed (IsServed c.vips) x f k xs h.served;
}

-- ---- what is found

pub free_none : (p : Connection → Bool) (xs : List Connection) → Each (λ x. p x ≡ false) xs → find p xs ≡ None
free_none p [] h = refl
free_none p (x ∷ xs) h = by (p x) h.0 (free_none p xs h.1)
  where
    by : (b : Bool) → b ≡ false → find p xs ≡ None → cond b (Some x) (find p xs) ≡ None
    by false e rest = rest
    by true e rest = absurd (cc)

-- no entry has the private key of one that none has the public key of
pub entry_private_none : (c : ConfigParts) (xs : List Connection) (x : Connection) → KeepsRules c → EntriesApart c xs
    → IsServed c.vips x → by_public (public_key x) xs ≡ None → by_private (private_key x) xs ≡ None
entry_private_none c xs x rules h own none =
    free_none (has_private (private_key x)) xs
    (free_private c xs x rules h.served own (each_none (has_public (public_key x)) xs none))

-- the same, once the one that had it has left
pub closed_public_none : (c : ConfigParts) (k : FlowKey) (xs : List Connection) (y : Connection) → EntriesApart c xs
    → by_public k xs ≡ Some y → by_public k (closed (private_key y) xs) ≡ None
closed_public_none c k xs y h found =
    free_none (has_public k) (closed (private_key y) xs) (closed_free k xs y h.keys.public_keys found)

pub closed_private_none : (c : ConfigParts) (xs : List Connection) (x y : Connection) → KeepsRules c
    → EntriesApart c xs → IsServed c.vips x → by_public (public_key x) xs ≡ Some y
    → by_private (private_key x) (closed (private_key y) xs) ≡ None
closed_private_none c xs x y rules h own found =
    entry_private_none c (closed (private_key y) xs) x rules
    (filtered_apart c (λ z. not (has_private (private_key y) z)) xs h) own
    (closed_public_none c (public_key x) xs y h found)
