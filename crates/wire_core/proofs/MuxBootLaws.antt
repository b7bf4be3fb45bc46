-- Muxes with their boots, ten bytes each.
use Rattle.std.proofs.Common.{◌≡◌, ◌∙◌, ℕ, zero, suc, ◌+◌, ◌*◌, ◌/◌, ◌%◌, ◌≤◌, List, ◌++◌, length, take, drop, refl, sym, ap, arith}
use Rattle.std.proofs.Math.Seq.{take-add}
use Rattle.std.proofs.lemmas.List.{length-drop, take_all}
use Rattle.std.proofs.lemmas.List.Concat.{flat_map-cons}
use Rattle.std.specs.List.{flat_map}
use Rattle.byteorder.specs.Endian.{big_number}
use Rattle.wire_core.specs.Numbers.{number_bytes, AreBytes}
use Rattle.wire_core.specs.Commands.{mux_boot_bytes}
use Rattle.wire_core.specs.Views.{mux_boots, pairs_of}
use Rattle.wire_core.proofs.NumberLaws.{number_bytes-big_number, drop_bytes}

pub length-mux_boots : (count : ℕ) (bytes : List ℕ) → length (mux_boots count bytes) ≡ count
unfolding mux_boots
length-mux_boots zero bytes = refl
length-mux_boots (suc count) bytes = ap suc (length-mux_boots count (drop 10 bytes))

-- ten bytes are a mux and its boot
pub mux_boot_bytes-first : (bytes : List ℕ) → 10 ≤ length bytes → AreBytes bytes
    → number_bytes 2 (big_number 2 bytes) ++ number_bytes 8 (big_number 8 (drop 2 bytes)) ≡ take 10 bytes
mux_boot_bytes-first bytes le h =
    let long : 8 ≤ length (drop 2 bytes) = omega (arith, length-drop 2 bytes) in
    let front = number_bytes-big_number 2 bytes (omega arith) h in
    let back = number_bytes-big_number 8 (drop 2 bytes) long (drop_bytes 2 bytes h) in
    rw (front, back) (sym (take-add 2 8 bytes))

-- the muxes and boots in some bytes are spelled by those bytes
pub flat_map-mux_boots : (count : ℕ) (bytes : List ℕ) → 10 * count ≤ length bytes → AreBytes bytes
    → flat_map mux_boot_bytes (mux_boots count bytes) ≡ take (10 * count) bytes
unfolding mux_boots
flat_map-mux_boots zero bytes le h = refl
flat_map-mux_boots (suc count) bytes le h =
    let long : 10 * count ≤ length (drop 10 bytes) = omega (arith, length-drop 10 bytes) in
    let first = mux_boot_bytes-first bytes (omega arith) h in
    let others = flat_map-mux_boots count (drop 10 bytes) long (drop_bytes 10 bytes h) in
    let all : 10 * suc count ≡ 10 + 10 * count = omega arith in
    rw (flat_map-cons, first, others, all) (sym (take-add 10 (10 * count) bytes))

pub flat_map-pairs_of : (bytes : List ℕ) → length bytes % 10 ≡ 0 → AreBytes bytes
    → flat_map mux_boot_bytes (pairs_of bytes) ≡ bytes
flat_map-pairs_of bytes whole h =
    let all : 10 * (length bytes / 10) ≡ length bytes = omega arith in
    let spelled = flat_map-mux_boots (length bytes / 10) bytes (omega arith) h in
    spelled ∙ ap (λ (n : ℕ). take n bytes) all ∙ take_all (length bytes) bytes (omega arith)

pub length-pairs_of : (bytes : List ℕ) → length (pairs_of bytes) ≡ length bytes / 10
length-pairs_of bytes = length-mux_boots (length bytes / 10) bytes

-- at most 16 whole pairs are at most 160 bytes
pub pairs_few : (bytes : List ℕ) → length (pairs_of bytes) ≤ 16 → length bytes % 10 ≡ 0 → length bytes ≤ 160
pairs_few bytes few whole = omega (arith, length-pairs_of bytes)
