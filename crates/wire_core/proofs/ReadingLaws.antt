-- What is read is spelled by the bytes in front of what is left.
use Rattle.std.proofs.Common.{◌≡◌, ◌⊎◌, ◌∙◌, ℕ, ◌^◌, ◌%◌, ◌≤◌, ◌<◌, Bool, true, false, cond, ltb, nat_lt, ◌||◌, ◌==◌, if◌then◌else◌, List, [], ◌∷◌, ◌++◌, length, drop, Result, Ok, Err, refl, sym, ap, subst, append_assoc, arith, inl, inr}
use Rattle.std.proofs.lemmas.Bool.{ltb-false}
use Rattle.std.proofs.lemmas.List.{take-append-drop}
use Rattle.std.proofs.lemmas.Bool.Decides.{nat_tests}
use Rattle.byteorder.specs.Endian.{big_number}
use Rattle.byteorder.specs.Numbers.{big_from-lt}
use Rattle.wire_core.specs.declared.reading.FieldFault.{FieldFault}
use Rattle.wire_core.specs.declared.reading.FieldFault.TheVariants.{Short, NotAllowed}
use Rattle.wire_core.specs.Numbers.{number_bytes, AreBytes}
use Rattle.wire_core.specs.Reading.{◌>>=◌, field, count_at}
use Rattle.wire_core.proofs.NumberLaws.{number_bytes-big_number, drop_bytes}

-- ---- steps that did not fail

abbrev pub done : {A : Type 0} → A → Result A FieldFault
done x = Ok x

pub done_is : {A : Type 0} (x y : A) → done x ≡ done y → x ≡ y
done_is x y e = cc

-- the value of a step that did not fail
pub bind_ok : {A B : Type 0} (r : Result A FieldFault) (f : A → Result B FieldFault) (y : B) → (r >>= f) ≡ Ok y
    → (x : A) × (r ≡ Ok x) × (f x ≡ Ok y)
bind_ok (Ok x) f y e = (x, refl, e)
bind_ok (Err d) f y e = absurd cc

-- a test that did not fail
pub guard_ok : {A : Type 0} (b : Bool) (d : FieldFault) (r : Result A FieldFault) (y : A) → cond b (Err d) r ≡ Ok y
    → (b ≡ false) × (r ≡ Ok y)
guard_ok true d r y e = absurd cc
guard_ok false d r y e = (refl, e)

-- which way a choice went
pub chosen : {A : Type 0} (b : Bool) (x y z : A) → cond b x y ≡ z → ((b ≡ true) × (x ≡ z)) ⊎ ((b ≡ false) × (y ≡ z))
chosen true x y z e = inl (refl, e)
chosen false x y z e = inr (refl, e)

-- ---- what was read, spelled

-- these bytes in front, then the rest
pub record Splits (whole front rest : List ℕ) : Type 0 where
  pub joined : whole ≡ front ++ rest
  pub bytes : AreBytes rest

pub splits_none : (bytes : List ℕ) → AreBytes bytes → Splits bytes [] bytes
splits_none bytes h = record { joined = refl; bytes = h }

pub splits_then : (a b : List ℕ) (x y z : List ℕ) → Splits x a y → Splits y b z → Splits x (a ++ b) z
splits_then a b x y z p q =
    record { joined = p.joined ∙ ap (λ (l : List ℕ). a ++ l) q.joined ∙ sym (append_assoc a b z); bytes = q.bytes }

pub record IsField (n : ℕ) (whole : List ℕ) (x : ℕ × List ℕ) : Type 0 where
  pub splits : Splits whole (number_bytes n x.0) x.1
  pub small : x.0 < 256 ^ n

pub field_is : (n : ℕ) (bytes : List ℕ) (x : ℕ × List ℕ) → AreBytes bytes → field n bytes ≡ Ok x → IsField n bytes x
field_is n bytes x h e =
    let g = guard_ok (ltb (length bytes) n) Short (done (big_number n bytes, drop n bytes)) x e in
    let long : n ≤ length bytes = ltb-false _ _ g.0 in
    let pair : ℕ × List ℕ = (big_number n bytes, drop n bytes) in
    let whole : bytes ≡ number_bytes n (big_number n bytes) ++ drop n bytes =
    sym (take-append-drop n bytes)
    ∙ ap (λ (l : List ℕ). l ++ drop n bytes) (sym (number_bytes-big_number n bytes long h)) in
    let made : IsField n bytes pair =
    record { splits = record { joined = whole; bytes = drop_bytes n bytes h }; small = big_from-lt 0 n bytes h } in
    subst (IsField n bytes) (done_is pair x g.1) made

-- one byte is spelled by itself
pub byte_bytes : (x : ℕ) → x < 256 → number_bytes 1 x ≡ x ∷ []
unfolding number_bytes
byte_bytes x lt = let same : x % 256 ≡ x = omega arith in rw same refl

pub record IsByte (whole : List ℕ) (x : ℕ × List ℕ) : Type 0 where
  pub splits : Splits whole (x.0 ∷ []) x.1
  pub small : x.0 < 256

pub byte_is : (bytes : List ℕ) (x : ℕ × List ℕ) → AreBytes bytes → field 1 bytes ≡ Ok x → IsByte bytes x
byte_is bytes x h e =
    let f = field_is 1 bytes x h e in
    record { splits = subst (λ (l : List ℕ). Splits bytes l x.1) (byte_bytes x.0 f.small) f.splits; small = f.small }

-- ---- counts

count_within : (n : ℕ) → ((n == 0) || nat_lt 16 n) ≡ false → (0 < n) × (n ≤ 16)
count_within n e = grind (arith, nat_tests)

pub record IsCount (whole : List ℕ) (x : ℕ × List ℕ) : Type 0 where
  pub splits : Splits whole (x.0 ∷ []) x.1
  pub some : 0 < x.0
  pub few : x.0 ≤ 16

pub count_is : (bytes : List ℕ) (x : ℕ × List ℕ) → AreBytes bytes → count_at bytes ≡ Ok x → IsCount bytes x
unfolding count_at
count_is bytes x h e =
    let a =
    bind_ok (field 1 bytes)
    (λ count. if (count.0 == 0) || nat_lt 16 count.0 then Err (NotAllowed (length bytes)) else Ok
    (count.0, count.1)) x e in
    let g = guard_ok ((a.0.0 == 0) || nat_lt 16 a.0.0) (NotAllowed (length bytes)) (done (a.0.0, a.0.1)) x a.2 in
    let f = byte_is bytes a.0 h a.1 in
    let within = count_within a.0.0 g.0 in
    let pair : ℕ × List ℕ = (a.0.0, a.0.1) in
    let made : IsCount bytes pair = record { splits = f.splits; some = within.0; few = within.1 } in
    subst (IsCount bytes) (done_is pair x g.1) made
