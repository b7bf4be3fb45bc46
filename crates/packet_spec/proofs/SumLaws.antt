-- A checksum written in place of 0 makes the one's complement sum FFFF.
use Rattle.std.proofs.Common.{◌≡◌, ℕ, zero, suc, ◌+◌, ◌-◌, ◌*◌, ◌/◌, ◌%◌, ◌<◌, List, [], ◌∷◌, length, get_or}
use Rattle.std.proofs.Common.{slice_set, ap, ◌∙◌, arith, lit<, ◌==◌, if◌then◌else◌}
use Rattle.std.proofs.Math.Nat.{div-add-mod', mod-lt}
use Rattle.packet_spec.specs.Words.{word_at, put_word}
use Rattle.packet_spec.specs.Sums.{ones_sum, checksum}
use Rattle.packet_spec.specs.Edits.{sent_sum}
use Rattle.wire_core.specs.declared.flow.Proto.{Proto}
use Rattle.wire_core.specs.declared.flow.Proto.TheVariants.{Tcp, Udp}
use Rattle.packet_spec.specs.Folds.{folded, word_sum}
use Rattle.packet_spec.proofs.FoldLaws.{folded_zero, folded_suc, folded_above, folded_word, folded-lt}
use Rattle.packet_spec.proofs.FoldLaws.{ones_sum_is_folded}

abbrev pub IsBytes : List ℕ → Type 0
IsBytes xs = (i : ℕ) → get_or xs i 0 < 256

-- a byte in place of another
pub bytes_set : (xs : List ℕ) (i v : ℕ) → IsBytes xs → v < 256 → IsBytes (slice_set xs i v)
bytes_set [] i v h lt k = h k
bytes_set (x ∷ xs) zero v h lt zero = lt
bytes_set (x ∷ xs) zero v h lt (suc k) = h (suc k)
bytes_set (x ∷ xs) (suc i) v h lt zero = h 0
bytes_set (x ∷ xs) (suc i) v h lt (suc k) = bytes_set xs i v (λ j. h (suc j)) lt k

pub bytes_put : (xs : List ℕ) (at w : ℕ) → IsBytes xs → w < 65536 → IsBytes (put_word xs at w)
bytes_put xs at w h lt =
    let high : w / 256 < 256 = omega arith in
    bytes_set (slice_set xs at (w / 256)) (at + 1) (w % 256) (bytes_set xs at (w / 256) h high)
    (mod-lt w {m = 256} (lit< tt))

-- a word in place of 0 adds itself to the sum
pub word_sum-set : (xs : List ℕ) (i j high low : ℕ) → j ≡ suc i → i % 2 ≡ 0 → j < length xs → get_or xs i 0 ≡ 0
    → get_or xs j 0 ≡ 0
    → word_sum (slice_set (slice_set xs i high) j low) ≡ word_sum xs + (256 * high + low)
unfolding word_sum
word_sum-set [] i j high low e even lt x y = absurd (omega arith)
word_sum-set (a ∷ []) i j high low e even lt x y = absurd (omega arith)
word_sum-set (a ∷ b ∷ rest) zero zero high low e even lt x y = absurd (omega arith)
word_sum-set (a ∷ b ∷ rest) zero (suc zero) high low e even lt x y = omega arith
word_sum-set (a ∷ b ∷ rest) zero (suc (suc j)) high low e even lt x y = absurd (omega arith)
word_sum-set (a ∷ b ∷ rest) (suc zero) j high low e even lt x y = absurd (omega arith)
word_sum-set (a ∷ b ∷ rest) (suc (suc i)) zero high low e even lt x y = absurd (omega arith)
word_sum-set (a ∷ b ∷ rest) (suc (suc i)) (suc zero) high low e even lt x y = absurd (omega arith)
word_sum-set (a ∷ b ∷ rest) (suc (suc i)) (suc (suc j)) high low e even lt x y =
    let p : j ≡ suc i = omega arith in
    let q : i % 2 ≡ 0 = omega arith in
    let l : j < length rest = omega arith in
    let r = word_sum-set rest i j high low p q l x y in
    omega (arith, r)

pub word_sum-put : (xs : List ℕ) (at w : ℕ) → at % 2 ≡ 0 → at + 1 < length xs → word_at xs at ≡ 0
    → word_sum (put_word xs at w) ≡ word_sum xs + w
word_sum-put xs at w even lt z =
    let x : get_or xs at 0 ≡ 0 = omega arith in
    let y : get_or xs (at + 1) 0 ≡ 0 = omega arith in
    let next : at + 1 ≡ suc at = omega arith in
    let s = word_sum-set xs at (at + 1) (w / 256) (w % 256) next even lt x y in
    omega (arith, s)

-- a sum and its complement fold to FFFF
pub complement : (s : ℕ) → folded (s + (65535 - folded s)) ≡ 65535
complement zero = let e : 0 + (65535 - folded 0) ≡ 65535 = omega (arith, folded_zero) in ap folded e
    ∙ folded_word 65535 (lit< tt)
complement (suc m) =
    let split = div-add-mod' m 65535 in
    let low = mod-lt m {m = 65535} (lit< tt) in
    let f = folded_suc m in
    let e : suc m + (65535 - folded (suc m)) ≡ 65535 + 65535 * (m / 65535) = omega arith in
    ap folded e ∙ folded_above 65535 (m / 65535) (lit< tt) ∙ folded_word 65535 (lit< tt)

-- the checksum in place of 0
pub sum_right : (xs : List ℕ) (at : ℕ) → at % 2 ≡ 0 → at + 1 < length xs → IsBytes xs → word_at xs at ≡ 0
    → ones_sum (put_word xs at (checksum xs)) ≡ 65535
unfolding checksum
sum_right xs at even lt h z =
    let is = ones_sum_is_folded xs h in
    let f = folded-lt (word_sum xs) in
    let fits : 65535 - ones_sum xs < 65536 = omega arith in
    let put = word_sum-put xs at (65535 - ones_sum xs) even lt z in
    let order : word_sum xs + (65535 - ones_sum xs) ≡ word_sum xs + (65535 - folded (word_sum xs)) = omega arith in
    ones_sum_is_folded (put_word xs at (65535 - ones_sum xs)) (bytes_put xs at (65535 - ones_sum xs) h fits)
    ∙ ap folded (put ∙ order) ∙ complement (word_sum xs)

-- FFFF in place of a checksum of 0
pub full_sum_right : (xs : List ℕ) (at : ℕ) → at % 2 ≡ 0 → at + 1 < length xs → IsBytes xs → word_at xs at ≡ 0
    → checksum xs ≡ 0 → ones_sum (put_word xs at 65535) ≡ 65535
unfolding checksum
full_sum_right xs at even lt h z c =
    let is = ones_sum_is_folded xs h in
    let f = folded-lt (word_sum xs) in
    let full : folded (word_sum xs) ≡ 65535 = omega arith in
    let some : 0 < word_sum xs = above_zero (word_sum xs) full in
    let put = word_sum-put xs at 65535 even lt z in
    ones_sum_is_folded (put_word xs at 65535) (bytes_put xs at 65535 h (lit< tt)) ∙ ap folded put
    ∙ folded_above (word_sum xs) 1 some ∙ full
  where
    above_zero : (s : ℕ) → folded s ≡ 65535 → 0 < s
    above_zero zero e = absurd (omega (arith, folded_zero))
    above_zero (suc s) e = omega arith

-- the checksum as it is sent in place of 0
pub sent_sum_right : (proto : Proto) (xs : List ℕ) (at : ℕ) → at % 2 ≡ 0 → at + 1 < length xs → IsBytes xs
    → word_at xs at ≡ 0 → ones_sum (put_word xs at (sent_sum proto (checksum xs))) ≡ 65535
sent_sum_right Tcp xs at even lt h z = sum_right xs at even lt h z
sent_sum_right Udp xs at even lt h z = chosen (λ (w : ℕ). ones_sum (put_word xs at w) ≡ 65535) (checksum xs)
    (full_sum_right xs at even lt h z) (sum_right xs at even lt h z)
  where
    chosen : (P : ℕ → Type 0) (c : ℕ) → (c ≡ 0 → P 65535) → P c → P (if c == 0 then 65535 else c)
    chosen P c zero_case other = grind arith
