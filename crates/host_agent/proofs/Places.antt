-- A machine at its place.
use Rattle.std.proofs.Common.{◌≡◌, ◌∙◌, ℕ, zero, suc, ◌+◌, ◌<◌, ◌==◌, Bool, true, false, not, cond, nat_lt, List, [], ◌∷◌, ◌++◌, map, length}
use Rattle.std.proofs.Common.{find, position, slice_get, Option, Some, None, ◌⊎◌, inl, inr, ◌≤◌, refl, sym, ap, subst, arith}
use Rattle.std.specs.Prelude.{set}
use Rattle.std.specs.List.{prefix_len, position_or_len}
use Rattle.std.proofs.lemmas.Bool.Decides.{nat_tests}
use Rattle.std.proofs.lemmas.Option.{slice_get_past}
use Rattle.wire_core.proofs.SameLaws.{ip_is, ip_itself}
use Rattle.std.proofs.lemmas.List.Folds.{find_at}
use Rattle.wire_core.specs.declared.address.Ip4.{Ip4}
use Rattle.wire_core.specs.Members.{In}
use Rattle.wire_core.specs.Same.{same_ip}
use Rattle.vip_config.specs.Rules.{Once}
use Rattle.agent_spec.specs.Agent.{Host, host_of, put_host}
use Rattle.host_agent.specs.Hosts.{IsKept, addresses, at_place, hosts_of}
use Rattle.config_text.specs.declared.agents.Attach.{Attach}
use Rattle.agent_spec.specs.Clock.{renewed}

-- ---- found by its place

place_is : {X : Type 0} (p : X → Bool) (xs : List X) (i : ℕ) → position p xs ≡ Some i → position_or_len p xs ≡ i
place_is p xs i e = by (nat_lt (position_or_len p xs) (length xs)) e
  where
    same : (a b : ℕ) → Some a ≡ Some b → a ≡ b
    same a b e = cc

    by : (b : Bool) → cond b (Some (position_or_len p xs)) None ≡ Some i → position_or_len p xs ≡ i
    by true e = same _ _ e
    by false e = absurd (cc)

pub found_at : {X : Type 0} (p : X → Bool) (xs : List X) (i : ℕ) → position p xs ≡ Some i → find p xs ≡ slice_get xs i
found_at p xs i e = find_at p xs ∙ ap (slice_get xs) (place_is p xs i e)

mapped_place : {X Y : Type 0} (p : Y → Bool) (f : X → Y) (xs : List X)
    → position_or_len p (map f xs) ≡ position_or_len (λ x. p (f x)) xs
mapped_place p f [] = refl
mapped_place p f (x ∷ xs) = ap (λ n. cond (not (p (f x))) (1 + n) 0) (mapped_place p f xs)

pub as_long : {X Y : Type 0} (f : X → Y) (xs : List X) → length (map f xs) ≡ length xs
as_long f [] = refl
as_long f (x ∷ xs) = ap suc (as_long f xs)

-- the place of an address is that of its machine
pub place_mapped : {X Y : Type 0} (p : Y → Bool) (f : X → Y) (xs : List X)
    → position p (map f xs) ≡ position (λ x. p (f x)) xs
place_mapped p f xs =
    ap (λ n. cond (nat_lt n (length (map f xs))) (Some n) None) (mapped_place p f xs)
    ∙ ap (λ n. cond (nat_lt (position_or_len (λ x. p (f x)) xs) n) (Some (position_or_len (λ x. p (f x)) xs)) None) (as_long f xs)

-- ---- no place

pub none_at : {X : Type 0} (p : X → Bool) (xs : List X) → position p xs ≡ None → find p xs ≡ None
none_at p xs e = find_at p xs ∙ slice_get_past xs (position_or_len p xs) (by (nat_lt (position_or_len p xs) (length xs)) refl e)
  where
    by : (b : Bool) → nat_lt (position_or_len p xs) (length xs) ≡ b → cond b (Some (position_or_len p xs)) None ≡ None
        → length xs ≤ position_or_len p xs
    by true is e = absurd (cc)
    by false is e = grind (arith, nat_tests)

-- ---- a machine's new state

others_stay : (m : Ip4) (h : Host) (hs : List Host) → ¬ (In m (addresses hs)) → m ≡ h.machine → put_host h hs ≡ hs
others_stay m h [] apart is = refl
others_stay m h (x ∷ xs) apart is =
    by (same_ip x.machine h.machine) refl (others_stay m h xs (λ i. apart (inr i)) is)
  where
    by : (b : Bool) → same_ip x.machine h.machine ≡ b → put_host h xs ≡ xs → cond b h x ∷ put_host h xs ≡ x ∷ xs
    by true e rest = absurd (apart (inl (ip_is x.machine h.machine e ∙ sym is)))
    by false e rest = ap (λ ys. x ∷ ys) rest

member_at : (hs : List Host) (i : ℕ) (h : Host) → slice_get hs i ≡ Some h → In h.machine (addresses hs)
member_at [] i h e = absurd (cc)
member_at (x ∷ xs) zero h e = inl (ap (λ (y : Host). y.machine) (same x h e))
  where
    same : (a b : Host) → Some a ≡ Some b → a ≡ b
    same a b e = cc
member_at (x ∷ xs) (suc i) h e = inr (member_at xs i h e)

-- written at its place
pub put_at : (hs : List Host) (i : ℕ) (old h : Host) → slice_get hs i ≡ Some old → old.machine ≡ h.machine
    → Once (addresses hs) → set hs i h ≡ put_host h hs
put_at [] i old h e is once = absurd (cc)
put_at (x ∷ xs) zero old h e is once =
    let first : x.machine ≡ h.machine = ap (λ (y : Host). y.machine) (same x old e) ∙ is in
    let own : same_ip x.machine h.machine ≡ true = ap (λ (m : Ip4). same_ip m h.machine) first ∙ ip_itself h.machine in
    ap (λ ys. h ∷ ys) (sym (others_stay x.machine h xs once.0 first))
    ∙ ap (λ (b : Bool). cond b h x ∷ put_host h xs) (sym own)
  where
    same : (a b : Host) → Some a ≡ Some b → a ≡ b
    same a b e = cc
put_at (x ∷ xs) (suc i) old h e is once =
    by (same_ip x.machine h.machine) refl (put_at xs i old h e is once.1)
  where
    by : (b : Bool) → same_ip x.machine h.machine ≡ b → set xs i h ≡ put_host h xs
        → x ∷ set xs i h ≡ cond b h x ∷ put_host h xs
    by true own rest =
        absurd (once.0 (subst (λ (m : Ip4). In m (addresses xs)) (is ∙ sym (ip_is x.machine h.machine own)) (member_at xs i old e)))
    by false own rest = ap (λ ys. x ∷ ys) rest

-- no address changes
put_same : (h : Host) (hs : List Host) → addresses (put_host h hs) ≡ addresses hs
put_same h [] = refl
put_same h (x ∷ xs) = by (same_ip x.machine h.machine) refl (put_same h xs)
  where
    by : (b : Bool) → same_ip x.machine h.machine ≡ b → addresses (put_host h xs) ≡ addresses xs
        → (cond b h x).machine ∷ addresses (put_host h xs) ≡ x.machine ∷ addresses xs
    by true e rest = ap (λ (m : Ip4). m ∷ addresses (put_host h xs)) (sym (ip_is x.machine h.machine e)) ∙ ap (λ ms. x.machine ∷ ms) rest
    by false e rest = ap (λ ms. x.machine ∷ ms) rest

-- ---- kept

-- with a machine's new state they are kept as they were
pub kept_at : (hs : List Host) (places : List Ip4) (i : ℕ) (old h : Host)
    → IsKept hs places → slice_get hs i ≡ Some old → old.machine ≡ h.machine → IsKept (set hs i h) places
kept_at hs places i old h kept e is =
    let same : addresses (set hs i h) ≡ addresses hs = ap addresses (put_at hs i old h e is kept.apart) ∙ put_same h hs in
    record {
      places_are = kept.places_are ∙ sym same;
      apart = subst (λ (ms : List Ip4). Once ms) (sym same) kept.apart;
    }

-- ---- either way

swapped : (a b : Ip4) → same_ip a b ≡ same_ip b a
swapped a b = by (same_ip a b) (same_ip b a) refl refl
  where
    no_false : false ≡ true → ⊥
    no_false e = cc

    by : (x y : Bool) → same_ip a b ≡ x → same_ip b a ≡ y → x ≡ y
    by true true e f = refl
    by false false e f = refl
    by true false e f =
        absurd (no_false (sym f ∙ ap (λ (z : Ip4). same_ip z a) (sym (ip_is a b e)) ∙ ip_itself a))
    by false true e f =
        absurd (no_false (sym e ∙ ap (λ (z : Ip4). same_ip z b) (sym (ip_is b a f)) ∙ ip_itself b))

swapped_place : (m : Ip4) (hs : List Host)
    → position_or_len (λ (h : Host). same_ip m h.machine) hs ≡ position_or_len (λ (h : Host). same_ip h.machine m) hs
swapped_place m [] = refl
swapped_place m (x ∷ xs) =
    ap (λ (b : Bool). cond (not b) (1 + position_or_len (λ (h : Host). same_ip m h.machine) xs) 0) (swapped m x.machine)
    ∙ ap (λ n. cond (not (same_ip x.machine m)) (1 + n) 0) (swapped_place m xs)

-- the place of an address is that of its machine
pub place_of_machine : (m : Ip4) (hs : List Host)
    → position (λ (a : Ip4). same_ip m a) (addresses hs) ≡ position (λ (h : Host). same_ip h.machine m) hs
place_of_machine m hs =
    place_mapped (λ (a : Ip4). same_ip m a) (λ (h : Host). h.machine) hs
    ∙ ap (λ n. cond (nat_lt n (length hs)) (Some n) None) (swapped_place m hs)

-- the machine at the place of its address
pub placed : (m : Ip4) (hs : List Host) (place : Option ℕ)
    → place ≡ position (λ (a : Ip4). same_ip m a) (addresses hs) → at_place hs place ≡ host_of hs m
placed m hs None e = sym (none_at (λ (h : Host). same_ip h.machine m) hs (sym (e ∙ place_of_machine m hs)))
placed m hs (Some i) e = sym (found_at (λ (h : Host). same_ip h.machine m) hs i (sym (e ∙ place_of_machine m hs)))

pub placed_within : (m : Ip4) (hs : List Host) → length (addresses hs) ≡ length hs
placed_within m hs = as_long (λ (h : Host). h.machine) hs

-- renewing an ask moves no machine
pub renewed_kept : (now retry : ℕ) (hs : List Host) (places : List Ip4)
    → IsKept hs places → IsKept (map (renewed now retry) hs) places
renewed_kept now retry hs places kept =
    let same : addresses (map (renewed now retry) hs) ≡ addresses hs = renewed_same hs in
    record {
      places_are = kept.places_are ∙ sym same;
      apart = subst (λ (ms : List Ip4). Once ms) (sym same) kept.apart;
    }
  where
    renewed_same : (xs : List Host) → addresses (map (renewed now retry) xs) ≡ addresses xs
    renewed_same [] = refl
    renewed_same (x ∷ xs) = ap (λ ms. x.machine ∷ ms) (renewed_same xs)

-- hosts as configured
pub configured : (machines : List Attach) → Once (map (λ (m : Attach). m.address) machines)
    → IsKept (hosts_of machines) (map (λ (m : Attach). m.address) machines)
configured machines once = record {
  places_are = sym (same machines);
  apart = subst (λ (ms : List Ip4). Once ms) (sym (same machines)) once;
}
  where
    same : (xs : List Attach) → addresses (hosts_of xs) ≡ map (λ (m : Attach). m.address) xs
    same [] = refl
    same (x ∷ xs) = ap (λ ms. x.address ∷ ms) (same xs)
