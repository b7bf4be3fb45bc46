-- Held ranges stay apart, and kept numbers never fall.
use Rattle.std.proofs.Common.{◌≡◌, ◌≤◌, refl, sym, subst, ℕ, zero, suc, Bool, true, false, not, List, [], ◌∷◌}
use Rattle.std.proofs.Common.{◌++◌, if◌then◌else◌, arith, unwrap_or, cond}
use Rattle.std.specs.Prelude.{map, filter, take, drop, nat_le, ◌==◌, ◌||◌}
use Rattle.std.specs.List.{list_any}
use Rattle.std.specs.Map.{lookup}
use Rattle.std.proofs.lemmas.Bool.Decides.{nat_tests}
use Rattle.indexmap.specs.IndexMap.{insert_entry}
use Rattle.wire_core.specs.Members.{Each}
use Rattle.wire_core.specs.Same.{same_range}
use Rattle.wire_core.specs.declared.address.Ip4.{Ip4}
use Rattle.wire_core.specs.declared.range.Range.{Range}
use Rattle.agent_spec.specs.declared.held.Held.{Held}
use Rattle.agent_spec.specs.declared.held.Granting.{Granting}
use Rattle.agent_spec.specs.declared.held.Granting.TheVariants as granting
use Rattle.agent_spec.specs.Footprints.{AreApart, HeldApart, IsOther, KeptRise, SameLeases, lease_of}
use Rattle.agent_spec.specs.Ranges.{Ranges, clashes, given_back, granted, inserted, is_old, kept_at, new_held}
use Rattle.agent_spec.specs.Ranges.{place_for}
use Rattle.agent_spec.specs.Ranges.{returned}

-- what a turn does to the leases: none falls, and they stay apart
pub record Holds (p q : Ranges) : Type 0 where
  pub rises : KeptRise p q
  pub apart : HeldApart p → HeldApart q

pub holds_same : (p q : Ranges) → SameLeases p q → Holds p q
holds_same p q s = record {
  rises = λ r. subst (λ kept. kept_at p.kept r ≤ kept_at kept r) (sym s.kept) (grind arith);
  apart = λ h. subst AreApart (sym s.held) h;
}

pub holds_refl : (p : Ranges) → Holds p p
holds_refl p = record { rises = λ r. grind arith; apart = λ h. h }

at_most : (a b c : ℕ) → a ≤ b → b ≤ c → a ≤ c
at_most a b c h k = omega arith

pub holds_trans : (p q r : Ranges) → Holds p q → Holds q r → Holds p r
holds_trans p q r a b = record {
  rises = λ x. at_most (kept_at p.kept x) (kept_at q.kept x) (kept_at r.kept x) (a.rises x) (b.rises x);
  apart = λ h. b.apart (a.apart h);
}

-- ---- a range is given back

each_given : (P : ℕ × (Range × Ip4) → Type 0) (p : Held → Bool) (hs : List Held) → Each P (map lease_of hs)
    → Each P (map lease_of (filter p hs))
each_given P p [] h = tt
each_given P p (x ∷ xs) h = by (p x) (each_given P p xs h.1)
  where
    by : (b : Bool) → Each P (map lease_of (filter p xs))
        → Each P (map lease_of (cond b (x ∷ filter p xs) (filter p xs)))
    by true rest = (h.0, rest)
    by false rest = rest

apart_given : (p : Held → Bool) (hs : List Held) → AreApart (map lease_of hs) → AreApart (map lease_of (filter p hs))
apart_given p [] h = tt
apart_given p (x ∷ xs) h = by (p x) (apart_given p xs h.1)
  where
    by : (b : Bool) → AreApart (map lease_of (filter p xs))
        → AreApart (map lease_of (cond b (x ∷ filter p xs) (filter p xs)))
    by true rest = (each_given (IsOther (lease_of x)) p xs h.0, rest)
    by false rest = rest

pub holds_given : (n : ℕ) (p : Ranges) → Holds p (given_back n p)
holds_given n p = record {
  rises = λ r. grind arith;
  apart = λ h. apart_given (λ x. not (x.n == n)) p.held h;
}

pub holds_returned : (n : ℕ) (p : Ranges) → Holds p (returned n p)
holds_returned n p = record { rises = λ r. grind arith; apart = λ h. h }

-- ---- a range is held

put_rises : (kept : List (Range × ℕ)) (r : Range) (n : ℕ) (q : Range)
    → unwrap_or (lookup (same_range r) kept) 0 ≤ n
    → unwrap_or (lookup (same_range q) kept) 0
    ≤ unwrap_or (lookup (same_range q) (insert_entry same_range kept r n)) 0
put_rises [] r n q h = grind arith
put_rises (e ∷ kept) r n q h = grind (arith, nat_tests, h, put_rises kept r n q)

-- the number and the range are no other lease's
abbrev IsNew : Held → Held → Type 0
IsNew x h = IsOther (lease_of x) (lease_of h) × IsOther (lease_of h) (lease_of x)

each_inserted : (P : ℕ × (Range × Ip4) → Type 0) (x : Held) (k : ℕ) (hs : List Held) → P (lease_of x)
    → Each P (map lease_of hs) → Each P (map lease_of (take k hs ++ x ∷ drop k hs))
each_inserted P x zero hs p h = (p, h)
each_inserted P x (suc k) [] p h = (p, tt)
each_inserted P x (suc k) (y ∷ ys) p h = (h.0, each_inserted P x k ys p h.1)

each_other : (x : Held) (hs : List Held) → Each (IsNew x) hs → Each (IsOther (lease_of x)) (map lease_of hs)
each_other x [] h = tt
each_other x (y ∷ ys) h = (h.0.0, each_other x ys h.1)

apart_inserted : (x : Held) (k : ℕ) (hs : List Held) → Each (IsNew x) hs → AreApart (map lease_of hs)
    → AreApart (map lease_of (take k hs ++ x ∷ drop k hs))
apart_inserted x zero hs new h = (each_other x hs new, h)
apart_inserted x (suc k) [] new h = (tt, tt)
apart_inserted x (suc k) (y ∷ ys) new h =
    (each_inserted (IsOther (lease_of y)) x k ys new.0.1 h.0, apart_inserted x k ys new.1 h.1)

neither : (a b : Bool) → (a || b) ≡ false → (a ≡ false) × (b ≡ false)
neither true b h = absurd (cc)
neither false b h = (refl, h)

other_way : (a b : ℕ) → (a == b) ≡ false → (b == a) ≡ false
other_way a b h = grind (arith, nat_tests, h)

other_range : (a b : Range) → same_range a b ≡ false → same_range b a ≡ false
other_range a b h = grind (arith, nat_tests, h)

one_new : (n : ℕ) (r : Range) (machine : Ip4) (now : ℕ) (y : Held) → ((y.n == n) || same_range y.range r) ≡ false
    → IsNew (new_held n r machine now) y
one_new n r machine now y h =
    let both = neither (y.n == n) (same_range y.range r) h in
    ((other_way y.n n both.0, other_range y.range r both.1), (both.0, both.1))

all_new : (n : ℕ) (r : Range) (machine : Ip4) (now : ℕ) (hs : List Held) → clashes hs n r ≡ false
    → Each (IsNew (new_held n r machine now)) hs
all_new n r machine now [] h = tt
all_new n r machine now (y ∷ ys) h =
    let both = neither ((y.n == n) || same_range y.range r) (clashes ys n r) h in
    (one_new n r machine now y both.0, all_new n r machine now ys both.1)

above : (a b : ℕ) → nat_le a b ≡ false → b ≤ a
above a b h = grind (arith, nat_tests, h)

-- what became of a Grant does it
abbrev HoldsAfter : Ranges → Ranges × Granting → Type 0
HoldsAfter p x = Holds p x.0

pub holds_granted : (p : Ranges) (n : ℕ) (r : Range) (machine : Ip4) (now : ℕ)
    → Holds p (granted p n r machine now).0
holds_granted p n r machine now = by (is_old p n r) refl
  where
    new : Ranges
    new = record p {
      held = inserted (new_held n r machine now) p.held;
      kept = insert_entry same_range p.kept r n;
    }

    by : (b : Bool) → is_old p n r ≡ b
        → HoldsAfter p (if b then (p, granting.Old (kept_at p.kept r)) else (new, granting.Held))
    by true e = holds_refl p
    by false e =
        let old = neither (clashes p.held n r || list_any (λ m. m == n) p.returning) (nat_le n (kept_at p.kept r)) e in
        let held = neither (clashes p.held n r) (list_any (λ m. m == n) p.returning) old.0 in record {
          rises = λ q. put_rises p.kept r n q (above n (kept_at p.kept r) old.1);
          apart = λ h. apart_inserted (new_held n r machine now) (place_for n p.held) p.held
              (all_new n r machine now p.held held.0) h;
        }
