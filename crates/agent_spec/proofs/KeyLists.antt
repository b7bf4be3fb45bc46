-- Lists of connections whose keys are apart.
use Rattle.std.proofs.Common.{◌≡◌, refl, ap, sym, ◌∙◌, Bool, true, false, cond, List, [], ◌∷◌, ◌++◌, map, filter}
use Rattle.std.proofs.Common.{Some, None, if◌then◌else◌}
use Rattle.std.specs.Prelude.{find}
use Rattle.wire_core.specs.Members.{Each}
use Rattle.wire_core.specs.Same.{same_key}
use Rattle.wire_core.specs.declared.flow.FlowKey.{FlowKey}
use Rattle.agent_spec.specs.declared.connection.Connection.{Connection}
use Rattle.agent_spec.specs.Connections.{private_key, public_key, at_private, changed, has_private}
use Rattle.agent_spec.specs.Keys.{IsFree, KeysApart, OwnKeys}

-- one of two, by a test
pub by_if : {X : Type 0} (P : X → Type 0) (b : Bool) {x y : X} → P x → P y → P (if b then x else y)
by_if P true p q = p
by_if P false p q = q

-- ---- what is found, and what isn't

pub each_none : {X : Type 0} (p : X → Bool) (xs : List X) → find p xs ≡ None → Each (λ x. p x ≡ false) xs
each_none p [] h = tt
each_none p (x ∷ xs) h = by (p x) refl h (each_none p xs)
  where
    by : (b : Bool) → p x ≡ b → cond b (Some x) (find p xs) ≡ None → (find p xs ≡ None → Each (λ x. p x ≡ false) xs)
        → (p x ≡ false) × Each (λ x. p x ≡ false) xs
    by true e h rest = absurd (cc)
    by false e h rest = (e, rest h)

pub found_passes : {X : Type 0} (p : X → Bool) (xs : List X) (x : X) → find p xs ≡ Some x → p x ≡ true
found_passes p [] x h = absurd (cc)
found_passes p (y ∷ ys) x h = by (p y) refl h (found_passes p ys x)
  where
    by : (b : Bool) → p y ≡ b → cond b (Some y) (find p ys) ≡ Some x → (find p ys ≡ Some x → p x ≡ true) → p x ≡ true
    by true e h rest = let same : y ≡ x = cc in ap p (sym same) ∙ e
    by false e h rest = rest h

-- ---- lists

pub each_snoc : {X : Type 0} (P : X → Type 0) (xs : List X) (x : X) → Each P xs → P x → Each P (xs ++ x ∷ [])
each_snoc P [] x h p = (p, tt)
each_snoc P (y ∷ ys) x h p = (h.0, each_snoc P ys x h.1 p)

pub each_filter : {X : Type 0} (P : X → Type 0) (p : X → Bool) (xs : List X) → Each P xs → Each P (filter p xs)
each_filter P p [] h = tt
each_filter P p (x ∷ xs) h = by (p x) (each_filter P p xs h.1)
  where
    by : (b : Bool) → Each P (filter p xs) → Each P (cond b (x ∷ filter p xs) (filter p xs))
    by true rest = (h.0, rest)
    by false rest = rest

-- ---- one key

module _ (key : Connection → FlowKey) where
  own_append : (cs : List Connection) (d : Connection) → OwnKeys key cs → IsFree key (key d) cs
      → OwnKeys key (cs ++ d ∷ [])
  own_append [] d h free = (tt, tt)
  own_append (c ∷ cs) d h free =
      (each_snoc (λ x. same_key (key c) (key x) ≡ false) cs d h.0 free.0, own_append cs d h.1 free.1)

  pub own_filter : (p : Connection → Bool) (cs : List Connection) → OwnKeys key cs → OwnKeys key (filter p cs)
  own_filter p [] h = tt
  own_filter p (c ∷ cs) h = by (p c) (own_filter p cs h.1)
    where
      by : (b : Bool) → OwnKeys key (filter p cs) → OwnKeys key (cond b (c ∷ filter p cs) (filter p cs))
      by true rest = (each_filter (λ d. same_key (key c) (key d) ≡ false) p cs h.0, rest)
      by false rest = rest

  apart_map : (f : Connection → Connection) → ((c : Connection) → key (f c) ≡ key c)
      → (c : Connection) (cs : List Connection) → Each (λ d. same_key (key c) (key d) ≡ false) cs
      → Each (λ d. same_key (key (f c)) (key d) ≡ false) (map f cs)
  apart_map f same c [] h = tt
  apart_map f same c (d ∷ cs) h = (
    ap (λ k. same_key (key (f c)) k) (same d) ∙ ap (λ k. same_key k (key d)) (same c) ∙ h.0,
    apart_map f same c cs h.1,
  )

  own_map : (f : Connection → Connection) → ((c : Connection) → key (f c) ≡ key c) → (cs : List Connection)
      → OwnKeys key cs → OwnKeys key (map f cs)
  own_map f same [] h = tt
  own_map f same (c ∷ cs) h = (apart_map f same c cs h.0, own_map f same cs h.1)

-- ---- both keys

pub apart_append : (cs : List Connection) (d : Connection) → KeysApart cs → IsFree private_key (private_key d) cs
    → IsFree public_key (public_key d) cs → KeysApart (cs ++ d ∷ [])
apart_append cs d h inner outer = record {
  private_keys = own_append private_key cs d h.private_keys inner;
  public_keys = own_append public_key cs d h.public_keys outer;
}

pub apart_filter : (p : Connection → Bool) (cs : List Connection) → KeysApart cs → KeysApart (filter p cs)
apart_filter p cs h = record {
  private_keys = own_filter private_key p cs h.private_keys;
  public_keys = own_filter public_key p cs h.public_keys;
}

-- an edit of one connection that keeps its keys
pub apart_changed : (x : Connection) (f : Connection → Connection)
    → ((c : Connection) → private_key (f c) ≡ private_key c)
    → ((c : Connection) → public_key (f c) ≡ public_key c) → (cs : List Connection) → KeysApart cs
    → KeysApart (changed x f cs)
apart_changed x f inner outer cs h = record {
  private_keys = own_map private_key (at_private (private_key x) f)
      (λ c. by_if (λ d. private_key d ≡ private_key c) (has_private (private_key x) c) (inner c) refl)
      cs h.private_keys;
  public_keys = own_map public_key (at_private (private_key x) f)
      (λ c. by_if (λ d. public_key d ≡ public_key c) (has_private (private_key x) c) (outer c) refl) cs h.public_keys;
}
