-- Sums of blocks of bytes read as little-endian numbers, and what they fold to.
use Rattle.std.proofs.Common.{◌≡◌, ℕ, zero, suc, ◌+◌, ◌*◌, ◌/◌, ◌%◌, ◌<◌, ◌≤◌, List, [], ◌∷◌, length, take, drop}
use Rattle.std.proofs.Common.{refl, sym, ap, ◌∙◌, arith, get_or}
use Rattle.std.proofs.lemmas.List.{drop-drop, length-drop, take-append-drop, length-take}
use Rattle.std.specs.Simd.{first_chunks}
use Rattle.std.specs.Int.{from_le_bytes, w16, w64}
use Rattle.packet_spec.specs.Sums.{ones_sum}
use Rattle.packet_spec.specs.Folds.{folded, word_sum}
use Rattle.packet_spec.proofs.FoldLaws.{folded_same, folded_add, folded_plus, ones_sum_is_folded, word_sum-append}

-- eight bytes read as one little-endian number
pub le_word : (a b c d e f g h : ℕ) → from_le_bytes w64 (a ∷ b ∷ c ∷ d ∷ e ∷ f ∷ g ∷ h ∷ [])
    ≡ a + 256 * b + 65536 * c + 16777216 * d + 4294967296 * (e + 256 * f + 65536 * g + 16777216 * h)
le_word a b c d e f g h = omega arith

-- a number in place of its bytes
pub word_for_bytes : (w k a b c d e f g h : ℕ)
    → w ≡ a + 256 * b + 65536 * c + 16777216 * d + 4294967296 * (e + 256 * f + 65536 * g + 16777216 * h)
    → folded (256 * w + k) ≡ folded (256 * a + b + (256 * c + d + (256 * e + f + (256 * g + h + k))))
word_for_bytes w k a b c d e f g h is =
    folded_same _ _ (1 * b + 256 * c + 65537 * d + 16777472 * e + 4295032833 * f + 1099528405248 * g + 281479271743489
    * h) (omega arith) (λ z. omega arith)

-- the two halves of a number in its place
pub halves_for_word : (w k : ℕ) → folded (256 * (w % 4294967296 + w / 4294967296) + k) ≡ folded (256 * w + k)
halves_for_word w k = sym (folded_same _ _ (16777472 * (w / 4294967296)) (omega arith) (λ z. omega arith))

-- the first eight bytes as one little-endian number, in place of their words
pub eight_bytes : (xs : List ℕ) (k : ℕ) → 8 ≤ length xs
    → folded (256 * from_le_bytes w64 (take 8 xs) + (word_sum (drop 8 xs) + k)) ≡ folded (word_sum xs + k)
unfolding word_sum
eight_bytes [] k h = absurd (omega arith)
eight_bytes (a ∷ []) k h = absurd (omega arith)
eight_bytes (a ∷ b ∷ []) k h = absurd (omega arith)
eight_bytes (a ∷ b ∷ c ∷ []) k h = absurd (omega arith)
eight_bytes (a ∷ b ∷ c ∷ d ∷ []) k h = absurd (omega arith)
eight_bytes (a ∷ b ∷ c ∷ d ∷ e ∷ []) k h = absurd (omega arith)
eight_bytes (a ∷ b ∷ c ∷ d ∷ e ∷ f ∷ []) k h = absurd (omega arith)
eight_bytes (a ∷ b ∷ c ∷ d ∷ e ∷ f ∷ g ∷ []) k h = absurd (omega arith)
eight_bytes (a ∷ b ∷ c ∷ d ∷ e ∷ f ∷ g ∷ i ∷ rest) k h =
    let w = word_for_bytes (from_le_bytes w64 (a ∷ b ∷ c ∷ d ∷ e ∷ f ∷ g ∷ i ∷ []))
    (word_sum rest + k) a b c d e f g i (le_word a b c d e f g i) in
    let order : 256 * a + b + (256 * c + d + (256 * e + f + (256 * g + i + (word_sum rest + k))))
    ≡ 256 * a + b + (256 * c + d + (256 * e + f + (256 * g + i + word_sum rest))) + k = omega arith in
    w ∙ ap folded order

-- a step of eight bytes: the halves of their number join the two sums
pub eight_bytes_more : (low high w : ℕ) (xs : List ℕ) (t : ℕ) → folded (256 * (low + high) + word_sum xs) ≡ t
    → 8 ≤ length xs → w ≡ from_le_bytes w64 (take 8 xs)
    → folded (256 * (low + w % 4294967296 + (high + w / 4294967296)) + word_sum (drop 8 xs)) ≡ t
eight_bytes_more low high w xs t was h is =
    let k : ℕ = word_sum (drop 8 xs) + 256 * (low + high) in
    let order : 256 * (low + w % 4294967296 + (high + w / 4294967296)) + word_sum (drop 8 xs)
    ≡ 256 * (w % 4294967296 + w / 4294967296) + (word_sum (drop 8 xs) + 256 * (low + high)) = omega arith in
    let bytes : folded (256 * w + (word_sum (drop 8 xs) + 256 * (low + high)))
    ≡ folded (word_sum xs + 256 * (low + high)) = rw is (eight_bytes xs (256 * (low + high)) h) in
    let back : word_sum xs + 256 * (low + high) ≡ 256 * (low + high) + word_sum xs = omega arith in
    ap folded order ∙ halves_for_word w (word_sum (drop 8 xs) + 256 * (low + high)) ∙ bytes ∙ ap folded back ∙ was

-- a step of two bytes
pub two_bytes : (xs : List ℕ) (k : ℕ) → 2 ≤ length xs
    → folded (256 * from_le_bytes w16 (take 2 xs) + (word_sum (drop 2 xs) + k)) ≡ folded (word_sum xs + k)
unfolding word_sum
two_bytes [] k h = absurd (omega arith)
two_bytes (a ∷ []) k h = absurd (omega arith)
two_bytes (a ∷ b ∷ rest) k h = folded_same _ _ b (omega arith) (λ z. omega arith)

pub two_bytes_more : (sum w : ℕ) (xs : List ℕ) (t : ℕ) → folded (256 * sum + word_sum xs) ≡ t → 2 ≤ length xs
    → w ≡ from_le_bytes w16 (take 2 xs) → folded (256 * (sum + w) + word_sum (drop 2 xs)) ≡ t
two_bytes_more sum w xs t was h is =
    let order : 256 * (sum + w) + word_sum (drop 2 xs) ≡ 256 * w + (word_sum (drop 2 xs) + 256 * sum) = omega arith in
    let bytes : folded (256 * w + (word_sum (drop 2 xs) + 256 * sum)) ≡ folded (word_sum xs + 256 * sum) =
    rw is (two_bytes xs (256 * sum) h) in
    let back : word_sum xs + 256 * sum ≡ 256 * sum + word_sum xs = omega arith in
    ap folded order ∙ bytes ∙ ap folded back ∙ was

-- the last byte, or none
pub last_byte : (sum : ℕ) (xs : List ℕ) (t : ℕ) → folded (256 * sum + word_sum xs) ≡ t → length xs ≡ 1
    → folded (256 * (sum + get_or xs 0 0)) ≡ t
unfolding word_sum
last_byte sum [] t was h = absurd (omega arith)
last_byte sum (a ∷ []) t was h = let e : 256 * (sum + a) ≡ 256 * sum + 256 * a = omega arith in rw e was
last_byte sum (a ∷ b ∷ rest) t was h = absurd (omega arith)

pub no_byte : (sum : ℕ) (xs : List ℕ) (t : ℕ) → folded (256 * sum + word_sum xs) ≡ t → length xs ≡ 0
    → folded (256 * sum) ≡ t
unfolding word_sum
no_byte sum [] t was h = let e : 256 * sum ≡ 256 * sum + 0 = omega arith in rw e was
no_byte sum (a ∷ rest) t was h = absurd (omega arith)

-- the sum of the bytes that are left joins the sum of those before
pub tail_added : (sum tail k t : ℕ) → folded (256 * sum + k) ≡ t → folded (256 * tail) ≡ folded k
    → folded (256 * (sum + tail)) ≡ t
tail_added sum tail k t was is =
    let order : 256 * (sum + tail) ≡ 256 * tail + 256 * sum = omega arith in
    let back : k + 256 * sum ≡ 256 * sum + k = omega arith in
    ap folded order ∙ folded_plus (256 * tail) k (256 * sum) is ∙ ap folded back ∙ was

-- a block's sum joins the sum of those before
pub block_more : (sum block n : ℕ) (xs : List ℕ) (t : ℕ) → folded (sum + word_sum xs) ≡ t → n % 2 ≡ 0 → n ≤ length xs
    → folded (256 * block) ≡ folded (word_sum (take n xs))
    → folded (folded (sum + 256 * block) + word_sum (drop n xs)) ≡ t
block_more sum block n xs t was even room is =
    let len : length (take n xs) % 2 ≡ 0 = rw (length-take n xs) (omega arith) in
    let parts : word_sum xs ≡ word_sum (take n xs) + word_sum (drop n xs) = ap word_sum (sym (take-append-drop n xs))
    ∙ word_sum-append (take n xs) (drop n xs) len in
    let order : sum + 256 * block + word_sum (drop n xs) ≡ 256 * block + (sum + word_sum (drop n xs)) = omega arith in
    let back : word_sum (take n xs) + (sum + word_sum (drop n xs)) ≡ sum + word_sum xs = omega (arith, parts) in
    folded_add (sum + 256 * block) (word_sum (drop n xs)) ∙ ap folded order
    ∙ folded_plus (256 * block) (word_sum (take n xs)) (sum + word_sum (drop n xs)) is ∙ ap folded back ∙ was

-- the last block makes the sum of all bytes
pub last_block : (sum block : ℕ) (xs bytes : List ℕ) → folded (sum + word_sum xs) ≡ folded (word_sum bytes)
    → ((i : ℕ) → get_or bytes i 0 < 256) → folded (256 * block) ≡ folded (word_sum xs)
    → folded (sum + 256 * block) ≡ ones_sum bytes
last_block sum block xs bytes was h is =
    let order : sum + 256 * block ≡ 256 * block + sum = omega arith in
    let back : word_sum xs + sum ≡ sum + word_sum xs = omega arith in
    ap folded order ∙ folded_plus (256 * block) (word_sum xs) sum is ∙ ap folded back ∙ was
    ∙ sym (ones_sum_is_folded bytes h)

-- the place of a chunk of eight bytes
pub chunk_at : (k i : ℕ) (xs d : List ℕ) → i < k → get_or (first_chunks 8 k xs) i d ≡ take 8 (drop (8 * i) xs)
chunk_at zero i xs d h = absurd (omega arith)
chunk_at (suc k) zero xs d h = refl
chunk_at (suc k) (suc i) xs d h =
    let ih = chunk_at k i (drop 8 xs) d (omega arith) in
    let place : 8 + 8 * i ≡ 8 * suc i = omega arith in
    ih ∙ ap (λ (x : List ℕ). take 8 x) (drop-drop (8 * i) 8 xs ∙ ap (λ (n : ℕ). drop n xs) place)

-- a step of one chunk: the halves of its number join the two sums
pub chunk_more : (low high w i : ℕ) (xs d : List ℕ) (chunks : List (List ℕ)) (t : ℕ)
    → chunks ≡ first_chunks 8 (length xs / 8) xs → i < length xs / 8 → w ≡ from_le_bytes w64 (get_or chunks i d)
    → folded (256 * (low + high) + word_sum (drop (8 * i) xs)) ≡ t
    → folded (256 * (low + w % 4294967296 + (high + w / 4294967296)) + word_sum (drop (8 * (i + 1)) xs)) ≡ t
chunk_more low high w i xs d chunks t front lt is was =
    let at = chunk_at (length xs / 8) i xs d lt in
    let word : w ≡ from_le_bytes w64 (take 8 (drop (8 * i) xs)) = is
    ∙ ap (λ (c : List (List ℕ)). from_le_bytes w64 (get_or c i d)) front ∙ ap (from_le_bytes w64) at in
    let room : 8 ≤ length (drop (8 * i) xs) = omega (arith, length-drop (8 * i) xs) in
    let more = eight_bytes_more low high w (drop (8 * i) xs) t was room word in
    let place : 8 * i + 8 ≡ 8 * (i + 1) = omega arith in
    ap (λ (x : List ℕ). folded (256 * (low + w % 4294967296 + (high + w / 4294967296)) + word_sum x))
    (sym (drop-drop 8 (8 * i) xs ∙ ap (λ (n : ℕ). drop n xs) place)) ∙ more
