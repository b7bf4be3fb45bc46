-- Two lists that have the same numbers at some places, and what is left of it when both are edited.
use Rattle.std.proofs.Common.{◌≡◌, ◌≢◌, ℕ, zero, suc, ◌+◌, ◌-◌, ◌/◌, ◌%◌, ◌<◌, ◌≤◌, Bool, true, false, nat_lt}
use Rattle.std.proofs.Common.{if◌then◌else◌, List, [], ◌∷◌, length, take, drop, get_or, slice_set, Option, Some, None}
use Rattle.std.proofs.Common.{refl, sym, ap, ◌∙◌, arith}
use Rattle.std.proofs.Math.ListN.{length-set}
use Rattle.std.proofs.lemmas.List.{ext_get_or, get_or-take, get_or-drop, length-take, length-drop}
use Rattle.std.specs.List.{slice_range}
use Rattle.wire_core.specs.declared.address.Ip4.{Ip4}
use Rattle.packet_spec.specs.Words.{word_at, address_at, put_word, put_address}
use Rattle.packet_spec.specs.Edits.{lower_word, placed}

-- at each of these places both lists have a number, and it is the same
pub record Agree (here : ℕ → Type 0) (x y : List ℕ) : Type 0 where
  pub left : (i : ℕ) → here i → i < length x
  pub right : (i : ℕ) → here i → i < length y
  pub same : (i : ℕ) → here i → get_or x i 0 ≡ get_or y i 0

-- a number written at a place is there in both
set_same : (xs ys : List ℕ) (at v i : ℕ) → i < length xs → i < length ys → (i ≢ at → get_or xs i 0 ≡ get_or ys i 0)
    → get_or (slice_set xs at v) i 0 ≡ get_or (slice_set ys at v) i 0
set_same [] ys at v i a b h = absurd (omega arith)
set_same (x ∷ xs) [] at v i a b h = absurd (omega arith)
set_same (x ∷ xs) (y ∷ ys) zero v zero a b h = refl
set_same (x ∷ xs) (y ∷ ys) zero v (suc i) a b h = h (omega arith)
set_same (x ∷ xs) (y ∷ ys) (suc at) v zero a b h = h (omega arith)
set_same (x ∷ xs) (y ∷ ys) (suc at) v (suc i) a b h =
    set_same xs ys at v i (omega arith) (omega arith) (λ n. h (λ e. n (omega arith)))

-- so where they agreed but at that place, they agree there too
pub agree_set : (here there : ℕ → Type 0) (x y : List ℕ) (at v : ℕ) → Agree here x y
    → ((i : ℕ) → there i → i < length x) → ((i : ℕ) → there i → i < length y) → ((i : ℕ) → there i → i ≢ at → here i)
    → Agree there (slice_set x at v) (slice_set y at v)
agree_set here there x y at v a left right but = record {
  left = λ i h. let l = left i h in let n = length-set x at v in omega arith;
  right = λ i h. let l = right i h in let n = length-set y at v in omega arith;
  same = λ i h. set_same x y at v i (left i h) (right i h) (λ n. a.same i (but i h n));
}

pub agree_still : (here : ℕ → Type 0) (x y : List ℕ) (at v : ℕ) → Agree here x y
    → Agree here (slice_set x at v) (slice_set y at v)
agree_still here x y at v a = agree_set here here x y at v a a.left a.right (λ i h n. h)

pub agree_put : (here : ℕ → Type 0) (x y : List ℕ) (at w : ℕ) → Agree here x y
    → Agree here (put_word x at w) (put_word y at w)
agree_put here x y at w a =
    agree_still here (slice_set x at (w / 256)) (slice_set y at (w / 256)) (at + 1) (w % 256)
    (agree_still here x y at (w / 256) a)

pub agree_put_same : (here : ℕ → Type 0) (x y : List ℕ) (at v w : ℕ) → v ≡ w → Agree here x y
    → Agree here (put_word x at v) (put_word y at w)
agree_put_same here x y at v w e a = rw e (agree_put here x y at w a)

pub agree_address : (here : ℕ → Type 0) (x y : List ℕ) (at : ℕ) (ip : Ip4) → Agree here x y
    → Agree here (put_address x at ip) (put_address y at ip)
agree_address here x y at ip a =
    agree_put here (put_word x at (ip.0 / 65536)) (put_word y at (ip.0 / 65536)) (at + 2) (ip.0 % 65536)
    (agree_put here x y at (ip.0 / 65536) a)

-- words, addresses and parts that lie where they agree
pub agree_word : (here : ℕ → Type 0) (x y : List ℕ) (at : ℕ) → Agree here x y → here at → here (at + 1)
    → word_at x at ≡ word_at y at
agree_word here x y at a first second =
    let p = a.same at first in
    let q = a.same (at + 1) second in
    omega (arith, p, q)

pub agree_address_at : (here : ℕ → Type 0) (x y : List ℕ) (at : ℕ) → Agree here x y
    → ((i : ℕ) → at ≤ i → i < at + 4 → here i) → address_at x at ≡ address_at y at
agree_address_at here x y at a h =
    let p = a.same at (h at (omega arith) (omega arith)) in
    let q = a.same (at + 1) (h (at + 1) (omega arith) (omega arith)) in
    let r = a.same (at + 2) (h (at + 2) (omega arith) (omega arith)) in
    let s = a.same (at + 2 + 1) (h (at + 2 + 1) (omega arith) (omega arith)) in
    rw (p, q, r, s) refl

length-range : (x : List ℕ) (start end : ℕ) → end ≤ length x → length (slice_range x start end) ≡ end - start
length-range x start end within = simp (length-take, length-drop) (omega arith)

range_byte : (x : List ℕ) (start end i : ℕ) → i < end - start
    → get_or (slice_range x start end) i 0 ≡ get_or x (start + i) 0
range_byte x start end i lt = get_or-take (end - start) (drop start x) i 0 lt ∙ get_or-drop start x i 0

pub agree_range : (here : ℕ → Type 0) (x y : List ℕ) (start end : ℕ) → Agree here x y → end ≤ length x → end ≤ length y
    → ((i : ℕ) → start ≤ i → i < end → here i) → slice_range x start end ≡ slice_range y start end
agree_range here x y start end a left right h =
    let lx = length-range x start end left in
    let ly = length-range y start end right in
    ext_get_or 0 (slice_range x start end) (slice_range y start end) (lx ∙ sym ly) (λ i lt.
    let room : i < end - start = omega arith in
    range_byte x start end i room ∙ a.same (start + i) (h (start + i) (omega arith) (omega arith))
    ∙ sym (range_byte y start end i room))

pub agree_front : (here : ℕ → Type 0) (x y : List ℕ) (n : ℕ) → Agree here x y → n ≤ length x → n ≤ length y
    → ((i : ℕ) → i < n → here i) → take n x ≡ take n y
agree_front here x y n a left right h =
    let lx : length (take n x) ≡ n = length-take n x ∙ omega arith in
    let ly : length (take n y) ≡ n = length-take n y ∙ omega arith in
    ext_get_or 0 (take n x) (take n y) (lx ∙ sym ly) (λ i lt.
    let room : i < n = omega arith in
    get_or-take n x i 0 room ∙ a.same i (h i room) ∙ sym (get_or-take n y i 0 room))

-- lists of one length that agree everywhere are one
pub agree_all : (x y : List ℕ) → length x ≡ length y → Agree (λ i. i < length x) x y → x ≡ y
agree_all x y e a = ext_get_or 0 x y e (λ i lt. a.same i lt)

-- one of two, by the same test
pub agree_if : (here : ℕ → Type 0) (x1 x2 y1 y2 : List ℕ) (b c : Bool) → b ≡ c → Agree here x1 y1 → Agree here x2 y2
    → Agree here (if b then x1 else x2) (if c then y1 else y2)
agree_if here x1 x2 y1 y2 true true e f g = f
agree_if here x1 x2 y1 y2 false false e f g = g
agree_if here x1 x2 y1 y2 true false e f g = absurd (cc)
agree_if here x1 x2 y1 y2 false true e f g = absurd (cc)

-- a word lowered at a place where they agree
pub agree_lower : (here : ℕ → Type 0) (x y : List ℕ) (start : ℕ) (o : Option ℕ) → Agree here x y
    → ((v : ℕ) → o ≡ Some v → here (start + v) × here (start + v + 1))
    → Agree here (lower_word (placed start o) x) (lower_word (placed start o) y)
agree_lower here x y start None a h = a
agree_lower here x y start (Some v) a h =
    let there = h v refl in
    let w = agree_word here x y (start + v) a there.0 there.1 in
    agree_if here (put_word x (start + v) 1440) x (put_word y (start + v) 1440) y
    (nat_lt 1440 (word_at x (start + v))) (nat_lt 1440 (word_at y (start + v)))
    (ap (λ (n : ℕ). nat_lt 1440 n) w) (agree_put here x y (start + v) 1440 a) a
