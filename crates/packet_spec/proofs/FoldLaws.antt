-- Folding a sum of words gives their one's complement sum, whatever multiples of 65535 are added or taken away.
use Rattle.std.proofs.Common.{◌≡◌, ℕ, zero, suc, ◌+◌, ◌-◌, ◌*◌, ◌/◌, ◌%◌, ◌<◌, ◌≤◌, List, [], ◌∷◌, ◌++◌, length, refl}
use Rattle.std.proofs.Common.{sym, ap, ◌∙◌, arith, lit<, get_or}
use Rattle.std.proofs.Math.Nat.{add-mul-mod_self_left, div-add-mod', mod-eq_of_lt, mod-lt}
use Rattle.packet_spec.specs.Sums.{ones_add, ones_sum}
use Rattle.packet_spec.specs.Folds.{folded, word_sum}

-- above zero, a multiple of 65535 makes no difference
pub folded_above : (n k : ℕ) → 0 < n → folded (n + 65535 * k) ≡ folded n
unfolding folded
folded_above n k h = let e : n + 65535 * k - 1 ≡ n - 1 + 65535 * k = omega arith in let m =
    add-mul-mod_self_left (n - 1) 65535 k in grind (arith, e, m)

-- what differs by a multiple of 65535 folds to the same, where only 0 is taken for 0
pub folded_same : (m n k : ℕ) → m ≡ n + 65535 * k → (n ≡ 0 → k ≡ 0) → folded m ≡ folded n
folded_same m zero k e h = let z : k ≡ 0 = h refl in let q : m ≡ 0 = omega arith in rw q refl
folded_same m (suc n) k e h = let f = folded_above (suc n) k (omega arith) in rw e f

pub folded_zero : folded 0 ≡ 0
unfolding folded
folded_zero = refl

-- the fold of a number above zero
pub folded_suc : (m : ℕ) → folded (suc m) ≡ m % 65535 + 1
unfolding folded
folded_suc m = grind arith

-- a sum may be folded before more is added
pub folded_add : (m n : ℕ) → folded (folded m + n) ≡ folded (m + n)
folded_add zero n = ap (λ (x : ℕ). folded (x + n)) folded_zero
folded_add (suc m) n =
    let split = div-add-mod' m 65535 in
    let e : suc m + n ≡ m % 65535 + 1 + n + 65535 * (m / 65535) = omega arith in
    let a = folded_above (m % 65535 + 1 + n) (m / 65535) (omega arith) in
    rw (folded_suc m, e) (sym a)

-- equal folds stay equal when the same is added
pub folded_plus : (m n k : ℕ) → folded m ≡ folded n → folded (m + k) ≡ folded (n + k)
folded_plus m n k e = sym (folded_add m k) ∙ ap (λ (x : ℕ). folded (x + k)) e ∙ folded_add n k

-- a fold is a word
pub folded-lt : (n : ℕ) → folded n < 65536
unfolding folded
folded-lt n = let h = mod-lt (n - 1) {m = 65535} (lit< tt) in grind (arith, h)

-- above zero it is above zero
pub folded-pos : (n : ℕ) → 0 < n → 0 < folded n
unfolding folded
folded-pos n h = grind arith

-- a word is its own fold
pub folded_word : (n : ℕ) → n < 65536 → folded n ≡ n
folded_word zero h = folded_zero
folded_word (suc n) h = let p : n < 65535 = omega arith in let e : n % 65535 ≡ n = mod-eq_of_lt p in folded_suc n
    ∙ ap (λ (x : ℕ). x + 1) e ∙ omega arith

-- one's complement addition of two words
pub ones_add_words : (x r : ℕ) → x < 65536 → 0 < r → r < 65536 → ones_add x r ≡ folded (x + r)
unfolding ones_add
ones_add_words x r h p q =
    let small : x + r < 65536 → folded (x + r) ≡ x + r = folded_word (x + r) in
    let large : 65536 ≤ x + r → folded (x + r) ≡ x + r - 65535 =
    λ k. folded_same (x + r) (x + r - 65535) 1 (omega arith) (λ z. omega arith)
    ∙ folded_word (x + r - 65535) (omega arith) in
    grind (arith, small, large)

-- one's complement addition of a word and 0
pub ones_add_zero : (x : ℕ) → x < 65536 → ones_add x 0 ≡ x
unfolding ones_add
ones_add_zero x h = grind arith

-- one's complement addition of a word to a folded sum
pub ones_add-folded : (x s : ℕ) → x < 65536 → ones_add x (folded s) ≡ folded (x + s)
ones_add-folded x zero h = let e : x + 0 ≡ x = omega arith in rw (folded_zero, e, folded_word x h) (ones_add_zero x h)
ones_add-folded x (suc s) h =
    let p = folded-pos (suc s) (omega arith) in
    let q = folded-lt (suc s) in
    let e : folded (folded (suc s) + x) ≡ folded (suc s + x) = folded_add (suc s) x in
    let c : folded (suc s) + x ≡ x + folded (suc s) = omega arith in
    let d : suc s + x ≡ x + suc s = omega arith in
    ones_add_words x (folded (suc s)) h p q ∙ ap folded (sym c) ∙ e ∙ ap folded d

-- the one's complement sum of bytes is the fold of their plain sum
pub ones_sum_is_folded : (xs : List ℕ) → ((i : ℕ) → get_or xs i 0 < 256) → ones_sum xs ≡ folded (word_sum xs)
unfolding ones_sum word_sum
ones_sum_is_folded [] h = sym (folded_word 0 (omega arith))
ones_sum_is_folded (a ∷ []) h = let k = h 0 in sym (folded_word (256 * a) (omega arith))
ones_sum_is_folded (a ∷ b ∷ rest) h =
    let ka = h 0 in
    let kb = h 1 in
    let r = ones_sum_is_folded rest (λ i. h (suc (suc i))) in
    rw r (ones_add-folded (256 * a + b) (word_sum rest) (omega arith))

-- behind an even number of bytes the words are those of the rest
pub word_sum-append : (xs ys : List ℕ) → length xs % 2 ≡ 0 → word_sum (xs ++ ys) ≡ word_sum xs + word_sum ys
unfolding word_sum
word_sum-append [] ys h = omega arith
word_sum-append (a ∷ []) ys h = absurd (omega arith)
word_sum-append (a ∷ b ∷ rest) ys h = let r = word_sum-append rest ys (omega arith) in omega (arith, r)

-- the bytes of two parts are bytes
pub bytes_append : (xs ys : List ℕ) → ((i : ℕ) → get_or xs i 0 < 256) → ((i : ℕ) → get_or ys i 0 < 256) → (i : ℕ)
    → get_or (xs ++ ys) i 0 < 256
bytes_append [] ys h k i = k i
bytes_append (x ∷ xs) ys h k zero = h 0
bytes_append (x ∷ xs) ys h k (suc i) = bytes_append xs ys (λ j. h (suc j)) k i

-- two parts, the first of an even number of bytes
pub ones_sum-append : (xs ys : List ℕ) → length xs % 2 ≡ 0 → ((i : ℕ) → get_or xs i 0 < 256)
    → ((i : ℕ) → get_or ys i 0 < 256) → folded (ones_sum xs + ones_sum ys) ≡ ones_sum (xs ++ ys)
ones_sum-append xs ys even h k =
    let x = ones_sum_is_folded xs h in
    let y = ones_sum_is_folded ys k in
    let all = ones_sum_is_folded (xs ++ ys) (bytes_append xs ys h k) in
    let parts = word_sum-append xs ys even in
    let swap : word_sum xs + folded (word_sum ys) ≡ folded (word_sum ys) + word_sum xs = omega arith in
    let back : word_sum ys + word_sum xs ≡ word_sum xs + word_sum ys = omega arith in
    rw (x, y, all, parts) (folded_add (word_sum xs) (folded (word_sum ys)) ∙ ap folded swap
    ∙ folded_add (word_sum ys) (word_sum xs) ∙ ap folded back)
