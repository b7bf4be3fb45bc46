-- A number and its bytes: each is read off the other.
use Rattle.std.proofs.Common.{◌≡◌, ◌∙◌, ℕ, zero, suc, ◌+◌, ◌*◌, ◌^◌, ◌/◌, ◌%◌, ◌<◌, ◌≤◌, List, [], ◌∷◌, length, take, drop, slice_index, refl, sym, ap, append-nil, arith}
use Rattle.std.proofs.Math.Nat.{mod-lt}
use Rattle.std.proofs.lemmas.Nat.{div-mul-add, mod-mul-add}
use Rattle.std.proofs.lemmas.List.{length-take}
use Rattle.byteorder.specs.Endian.{big_number, big_from}
use Rattle.byteorder.specs.Numbers.{big_from-cons, big_from-lt, big_from-take, big_number-reads_back, length-bytes_high_first}
use Rattle.std.specs.Int.{byte_at, bytes_high_first}
use Rattle.wire_core.specs.Numbers.{number_bytes, AreBytes}

pub length-number_bytes : (n x : ℕ) → length (number_bytes n x) ≡ n
unfolding number_bytes
length-number_bytes n x = length-bytes_high_first n x

-- the bytes behind the first are bytes
rest_bytes : (b : ℕ) (bs : List ℕ) → AreBytes (b ∷ bs) → AreBytes bs
rest_bytes b bs h = λ k. h (suc k)

first_byte : (b : ℕ) (bs : List ℕ) → AreBytes (b ∷ bs) → b < 256
first_byte b bs h = h 0

-- two lists of n bytes with one number are one list
same_bytes : (n : ℕ) (xs ys : List ℕ) → length xs ≡ n → length ys ≡ n → AreBytes xs → AreBytes ys
    → big_from 0 n xs ≡ big_from 0 n ys → xs ≡ ys
same_bytes zero [] [] l m p q e = refl
same_bytes zero [] (y ∷ ys) l m p q e = absurd (omega arith)
same_bytes zero (x ∷ xs) ys l m p q e = absurd (omega arith)
same_bytes (suc n) [] ys l m p q e = absurd (omega arith)
same_bytes (suc n) (x ∷ xs) [] l m p q e = absurd (omega arith)
same_bytes (suc n) (x ∷ xs) (y ∷ ys) l m p q e =
    let low_x : big_from 0 n xs < 256 ^ n = big_from-lt 0 n xs (rest_bytes x xs p) in
    let low_y : big_from 0 n ys < 256 ^ n = big_from-lt 0 n ys (rest_bytes y ys q) in
    let is_x : big_from 0 (suc n) (x ∷ xs) ≡ x * 256 ^ n + big_from 0 n xs =
    ap (λ (r : ℕ). x * 256 ^ n + r) (big_from-cons 0 n x xs) in
    let is_y : big_from 0 (suc n) (y ∷ ys) ≡ y * 256 ^ n + big_from 0 n ys =
    ap (λ (r : ℕ). y * 256 ^ n + r) (big_from-cons 0 n y ys) in
    let whole : x * 256 ^ n + big_from 0 n xs ≡ y * 256 ^ n + big_from 0 n ys = sym is_x ∙ e ∙ is_y in
    let first : x ≡ y =
    sym (div-mul-add x (256 ^ n) (big_from 0 n xs) low_x) ∙ ap (λ (r : ℕ). r / 256 ^ n) whole
    ∙ div-mul-add y (256 ^ n) (big_from 0 n ys) low_y in
    let others : big_from 0 n xs ≡ big_from 0 n ys =
    sym (mod-mul-add x (256 ^ n) (big_from 0 n xs) low_x) ∙ ap (λ (r : ℕ). r % 256 ^ n) whole
    ∙ mod-mul-add y (256 ^ n) (big_from 0 n ys) low_y in
    let rest : xs ≡ ys =
    same_bytes n xs ys (omega arith) (omega arith) (rest_bytes x xs p) (rest_bytes y ys q) others in
    rw (first, rest) refl

byte_at-lt : (k x : ℕ) → byte_at k x < 256
byte_at-lt zero x = mod-lt x (omega arith)
byte_at-lt (suc k) x = mod-lt (x / 256 ^ suc k) (omega arith)

more_bytes : (b : ℕ) (bs : List ℕ) → b < 256 → AreBytes bs → (k : ℕ) → slice_index (b ∷ bs) k < 256
more_bytes b bs lt h zero = lt
more_bytes b bs lt h (suc k) = h k

bytes_of_number : (n x : ℕ) → AreBytes (bytes_high_first n x)
bytes_of_number zero x = λ k. omega arith
bytes_of_number (suc n) x = more_bytes (byte_at n x) (bytes_high_first n x) (byte_at-lt n x) (bytes_of_number n x)

pub take_bytes : (n : ℕ) (bytes : List ℕ) → AreBytes bytes → AreBytes (take n bytes)
take_bytes zero bytes h = λ k. omega arith
take_bytes (suc n) [] h = λ k. omega arith
take_bytes (suc n) (b ∷ bs) h = more_bytes b (take n bs) (h 0) (take_bytes n bs (rest_bytes b bs h))

pub drop_bytes : (n : ℕ) (bytes : List ℕ) → AreBytes bytes → AreBytes (drop n bytes)
drop_bytes zero bytes h = h
drop_bytes (suc n) [] h = h
drop_bytes (suc n) (b ∷ bs) h = drop_bytes n bs (rest_bytes b bs h)

-- the bytes of the number in some bytes are those bytes
pub number_bytes-big_number : (n : ℕ) (bytes : List ℕ) → n ≤ length bytes → AreBytes bytes
    → number_bytes n (big_number n bytes) ≡ take n bytes
unfolding number_bytes
number_bytes-big_number n bytes le h =
    let x : ℕ = big_from 0 n bytes in
    let small : big_from 0 n bytes < 256 ^ n = big_from-lt 0 n bytes h in
    let len : length (take n bytes) ≡ n = omega (arith, length-take n bytes) in
    let back = big_number-reads_back n (big_from 0 n bytes) [] small in
    let again : big_from 0 n (bytes_high_first n (big_from 0 n bytes)) ≡ big_from 0 n bytes = rw append-nil at back in
    let same : big_from 0 n (bytes_high_first n (big_from 0 n bytes)) ≡ big_from 0 n (take n bytes) =
    again ∙ sym (big_from-take 0 n n bytes (omega arith)) in
    same_bytes n (bytes_high_first n (big_from 0 n bytes)) (take n bytes)
    (length-bytes_high_first n (big_from 0 n bytes)) len (bytes_of_number n (big_from 0 n bytes))
    (take_bytes n bytes h) same
