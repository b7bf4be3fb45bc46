-- One after the other: what a loop over so many has left to read.
use Rattle.std.proofs.Common.{◌≡◌, ◌∙◌, ℕ, zero, suc, Bool, true, false, cond, nat_lt, ◌==◌, ◌||◌, ◌+◌, ◌*◌, ◌/◌, ◌-◌, ◌≤◌, ◌<◌, List, [], ◌∷◌, ◌++◌, length, take, drop, get_or, Ok, Err, refl, sym, ap, subst, append-nil, arith}
use Rattle.std.specs.Prelude.{IsOk}
use Rattle.std.specs.List.{flat_map}
use Rattle.std.proofs.lemmas.List.{length-append, take-append-le, take_all, take_rest}
use Rattle.wire_core.specs.declared.command.MuxBoot.{MuxBoot}
use Rattle.wire_core.specs.declared.reading.FieldFault.{FieldFault}
use Rattle.wire_core.specs.declared.reading.FieldFault.TheVariants.{NotAllowed}
use Rattle.wire_core.specs.Numbers.{AreBytes}
use Rattle.wire_core.specs.Commands.{LogCommand, mux_boot_bytes, value_bytes}
use Rattle.wire_core.specs.Reading.{Read, ◌>>=◌, count_at, mux_boot_at, mux_boots_at, command_at, commands_at, value_at, rest_of, commands_of, commands_in}
use Rattle.wire_core.specs.Views.{mux_boots, pairs_of}
use Rattle.wire_core.proofs.ReadingLaws.{done, done_is}
use Rattle.wire_core.proofs.CommandLaws.{mux_boots_are, value_is}
use Rattle.wire_core.proofs.AgainLaws.{byte_again, value_again, mux_boots-flat_map, length-flat_map-mux_boots}

rest_of-front : {A : Type 0} (first : A) (read : Read (List A))
    → rest_of (read >>= λ others. Ok (first ∷ others.0, others.1)) ≡ rest_of read
rest_of-front first (Ok x) = refl
rest_of-front first (Err e) = refl

-- ---- muxes with their boots

pub boots_step : (count i least : ℕ) (rest after : List ℕ) (first : MuxBoot) → i < count
    → mux_boot_at least rest ≡ Ok (first, after)
    → rest_of (mux_boots_at (count - i) least rest) ≡ rest_of (mux_boots_at (count - (i + 1)) (first.mux + 1) after)
unfolding mux_boots_at
boots_step count i least rest after first lt h =
    let k : count - i ≡ suc (count - (i + 1)) = omega arith in
    rw (k, h) (rest_of-front first (mux_boots_at (count - (i + 1)) (first.mux + 1) after))

pub boots_fail : (count i least : ℕ) (rest : List ℕ) (e : FieldFault) → i < count → mux_boot_at least rest ≡ Err e
    → rest_of (mux_boots_at (count - i) least rest) ≡ Err e
unfolding mux_boots_at
boots_fail count i least rest e lt h =
    let k : count - i ≡ suc (count - (i + 1)) = omega arith in
    rw (k, h) refl

pub boots_end : (count i least : ℕ) (rest : List ℕ) → count ≤ i
    → rest_of (mux_boots_at (count - i) least rest) ≡ Ok rest
unfolding mux_boots_at
boots_end count i least rest le =
    let k : count - i ≡ 0 = omega arith in
    rw k refl

-- ---- commands

pub commands_step : (count i : ℕ) (rest after : List ℕ) (first : LogCommand) → i < count
    → command_at rest ≡ Ok (first, after)
    → rest_of (commands_at (count - i) rest) ≡ rest_of (commands_at (count - (i + 1)) after)
unfolding commands_at
commands_step count i rest after first lt h =
    let k : count - i ≡ suc (count - (i + 1)) = omega arith in
    rw (k, h) (rest_of-front first (commands_at (count - (i + 1)) after))

pub commands_fail : (count i : ℕ) (rest : List ℕ) (e : FieldFault) → i < count → command_at rest ≡ Err e
    → rest_of (commands_at (count - i) rest) ≡ Err e
unfolding commands_at
commands_fail count i rest e lt h =
    let k : count - i ≡ suc (count - (i + 1)) = omega arith in
    rw (k, h) refl

pub commands_end : (count i : ℕ) (rest : List ℕ) → count ≤ i → rest_of (commands_at (count - i) rest) ≡ Ok rest
unfolding commands_at
commands_end count i rest le =
    let k : count - i ≡ 0 = omega arith in
    rw k refl

-- ---- what was read, cut from the bytes

known_rest : {A : Type 0} (read : Read A) (rest : List ℕ) → rest_of read ≡ Ok rest → (x : A) × (read ≡ Ok (x, rest))
known_rest (Ok x) rest e = (x.0, let same : x.1 ≡ rest = cc in rw (← same) refl)
known_rest (Err d) rest e = absurd cc

pub known_fault : {A : Type 0} (read : Read A) (e : FieldFault) → rest_of read ≡ Err e → read ≡ Err e
known_fault (Ok x) d e = absurd cc
known_fault (Err b) d e = let same : b ≡ d = cc in rw same refl

-- the bytes in front of what is left
front_is : (whole front rest : List ℕ) → whole ≡ front ++ rest
    → (length rest ≤ length whole) × (take (length whole - length rest) whole ≡ front)
front_is whole front rest e =
    let len : length whole ≡ length front + length rest = ap length e ∙ length-append front rest in
    let n : length whole - length rest ≡ length front = omega arith in (
      omega arith,
      rw (n, e, take-append-le (length front) front rest (omega arith)) (take_all (length front) front (omega arith)),
    )

-- the pairs of a Granted are the bytes between its count and what is left
pub record HasPairs (count : ℕ) (whole after : List ℕ) : Type 0 where
  pub shorter : length after ≤ length whole
  pub read : mux_boots_at count 0 whole ≡ Ok (pairs_of (take (length whole - length after) whole), after)

pub pairs_read : (count : ℕ) (whole after : List ℕ) → AreBytes whole
    → rest_of (mux_boots_at count 0 whole) ≡ Ok after → HasPairs count whole after
pairs_read count whole after h e =
    let known = known_rest (mux_boots_at count 0 whole) after e in
    let ms : List MuxBoot = known.0 in
    let has = mux_boots_are count 0 whole (known.0, after) h known.1 in
    let cut = front_is whole (flat_map mux_boot_bytes known.0) after has.splits.joined in
    let len : length (flat_map mux_boot_bytes known.0) ≡ 10 * length known.0 = length-flat_map-mux_boots known.0 in
    let ten : 10 * length known.0 / 10 ≡ length known.0 = omega arith in
    let back : mux_boots (length known.0) (flat_map mux_boot_bytes known.0) ≡ known.0 =
    rw append-nil at (mux_boots-flat_map known.0 [] has.fields) in
    let again : pairs_of (flat_map mux_boot_bytes known.0) ≡ known.0 = rw (len, ten) back in
    record { shorter = cut.0; read = rw (cut.1, again) known.1 }

-- a value is spelled by the bytes in front of what is left
pub record HasValue (whole rest : List ℕ) : Type 0 where
  pub shorter : length rest ≤ length whole
  pub read : value_at whole ≡ Ok (commands_in (take (length whole - length rest) whole), rest)
  pub again : value_at (take (length whole - length rest) whole) ≡ Ok
      (commands_in (take (length whole - length rest) whole), [])

pub value_read : (whole rest : List ℕ) → AreBytes whole → rest_of (value_at whole) ≡ Ok rest → HasValue whole rest
value_read whole rest h e =
    let known = known_rest (value_at whole) rest e in
    let has = value_is whole (known.0, rest) h known.1 in
    let cut = front_is whole (value_bytes known.0) rest has.splits.joined in
    let again : value_at (value_bytes known.0) ≡ Ok (known.0, []) =
    rw append-nil at (value_again known.0 [] has.value) in
    let commands : commands_in (value_bytes known.0) ≡ known.0 = ap commands_of again in
    record { shorter = cut.0; read = rw (cut.1, commands) known.1; again = rw (cut.1, commands) again }

-- what is read whole is its own spelling
pub value_whole : (bytes : List ℕ) → AreBytes bytes → value_at bytes ≡ Ok (commands_in bytes, [])
    → bytes ≡ value_bytes (commands_in bytes)
value_whole bytes h e =
    (value_is bytes (commands_in bytes, []) h e).splits.joined ∙ append-nil (value_bytes (commands_in bytes))

-- ---- the command at a place

-- commands that are read begin with one that is read
pub record Begins (count : ℕ) (bytes : List ℕ) (read : Read (List LogCommand)) : Type 0 where
  pub first : LogCommand
  pub after : List ℕ
  pub front : command_at bytes ≡ Ok (first, after)
  pub more : IsOk (commands_at count after)
  pub all : commands_of read ≡ first ∷ commands_of (commands_at count after)

abbrev joined : LogCommand → Read (List LogCommand) → Read (List LogCommand)
joined first read = read >>= λ others. Ok (first ∷ others.0, others.1)

more_of : (first : LogCommand) (read : Read (List LogCommand)) → IsOk (joined first read)
    → IsOk read × (commands_of (joined first read) ≡ first ∷ commands_of read)
more_of first (Ok x) ok = (refl, refl)
more_of first (Err e) ok = absurd cc

begins : (count : ℕ) (bytes : List ℕ) (front : Read LogCommand) → command_at bytes ≡ front
    → IsOk (front >>= λ first. joined first.0 (commands_at count first.1))
    → Begins count bytes (front >>= λ first. joined first.0 (commands_at count first.1))
begins count bytes (Ok x) e ok =
    let m = more_of x.0 (commands_at count x.1) ok in
    record { first = x.0; after = x.1; front = e; more = m.0; all = m.1 }
begins count bytes (Err d) e ok = absurd cc

first_of : (count : ℕ) (bytes : List ℕ) → IsOk (commands_at (suc count) bytes)
    → Begins count bytes (commands_at (suc count) bytes)
unfolding commands_at
first_of count bytes ok = begins count bytes (command_at bytes) refl ok

pub first_fails : (count : ℕ) (bytes : List ℕ) (e : FieldFault) → 0 < count → IsOk (commands_at count bytes)
    → command_at bytes ≡ Err e → ⊥
first_fails zero bytes e lt ok is = absurd (omega arith)
first_fails (suc count) bytes e lt ok is = let m = first_of count bytes ok in let both = sym m.front ∙ is in absurd cc

pub record BeginsWith (count : ℕ) (bytes : List ℕ) (first : LogCommand) (after : List ℕ) : Type 0 where
  pub more : IsOk (commands_at (count - 1) after)
  pub all : commands_of (commands_at count bytes) ≡ first ∷ commands_of (commands_at (count - 1) after)

pub first_is : (count : ℕ) (bytes : List ℕ) (first : LogCommand) (after : List ℕ) → 0 < count
    → IsOk (commands_at count bytes) → command_at bytes ≡ Ok (first, after) → BeginsWith count bytes first after
first_is zero bytes first after lt ok is = absurd (omega arith)
first_is (suc count) bytes first after lt ok is =
    let m = first_of count bytes ok in
    let same : suc count - 1 ≡ count = omega arith in
    let both : (m.first, m.after) ≡ (first, after) = done_is (m.first, m.after) (first, after) (sym m.front ∙ is) in
    let P : LogCommand × List ℕ → Type 0 =
    λ p. IsOk (commands_at count p.1)
    × (commands_of (commands_at (suc count) bytes) ≡ p.0 ∷ commands_of (commands_at count p.1)) in
    let q = subst P both (m.more, m.all) in
    record { more = rw same q.0; all = rw same q.1 }

-- ---- the count byte

pub value_some : (bytes : List ℕ) → IsOk (value_at bytes) → 0 < length bytes
unfolding value_at count_at
value_some [] ok = absurd cc
value_some (b ∷ bs) ok = omega arith

passed : (b : Bool) (d : FieldFault) (x : ℕ × List ℕ)
    → IsOk (cond b (Err d) (done x) >>= λ count. commands_at count.0 count.1)
    → (cond b (Err d) (done x) >>= λ count. commands_at count.0 count.1) ≡ commands_at x.0 x.1
passed true d x ok = absurd cc
passed false d x ok = refl

pub counted : (b : ℕ) (bs : List ℕ) → IsOk (value_at (b ∷ bs)) → value_at (b ∷ bs) ≡ commands_at b bs
unfolding value_at count_at
counted b bs ok =
    rw byte_again (passed ((b == 0) || nat_lt 16 b) (NotAllowed (length (b ∷ bs))) (b, bs) (rw byte_again at ok))

pub length-commands : (count : ℕ) (bytes : List ℕ) → IsOk (commands_at count bytes)
    → length (commands_of (commands_at count bytes)) ≡ count
unfolding commands_at
length-commands zero bytes ok = refl
length-commands (suc count) bytes ok =
    let m = begins count bytes (command_at bytes) refl ok in
    ap length m.all ∙ ap suc (length-commands count m.after m.more)

-- what stands behind the count byte, as a slice pattern sees it
pub record Counted (bytes : List ℕ) (count : ℕ) (rest : List ℕ) : Type 0 where
  pub ok : IsOk (commands_at count rest)
  pub read : commands_of (commands_at count rest) ≡ commands_in bytes
  pub len : count ≡ length (commands_in bytes)

counted_by : (b : ℕ) (bs : List ℕ) → IsOk (value_at (b ∷ bs)) → Counted (b ∷ bs) b bs
counted_by b bs ok =
    let e = counted b bs ok in
    let read : IsOk (commands_at b bs) = rw e at ok in
    record {
      ok = read;
      read = ap commands_of (sym e);
      len = sym (length-commands b bs read) ∙ ap (λ (r : Read (List LogCommand)). length (commands_of r)) (sym e);
    }

pub counted_at : (bytes : List ℕ) → IsOk (value_at bytes)
    → Counted bytes (get_or bytes 0 0) (take (length bytes - 1) (drop 1 bytes))
counted_at [] ok = absurd (let n = value_some [] ok in omega arith)
counted_at (b ∷ bs) ok = rw (take_rest (b ∷ bs) 1) (counted_by b bs ok)

-- a value has 1 to 16 commands
pub value_few : (bytes : List ℕ) → AreBytes bytes → IsOk (value_at bytes)
    → (0 < length (commands_in bytes)) × (length (commands_in bytes) ≤ 16)
value_few bytes h ok = by (value_at bytes) refl ok
  where
    by : (r : Read (List LogCommand)) → value_at bytes ≡ r → IsOk r
        → (0 < length (commands_in bytes)) × (length (commands_in bytes) ≤ 16)
    by (Ok x) e is =
        let value = (value_is bytes x h e).value in
        let here : commands_in bytes ≡ x.0 = ap commands_of e in
        subst (λ (cs : List LogCommand). (0 < length cs) × (length cs ≤ 16)) (sym here) (value.some, value.few)
    by (Err fault) e is = absurd cc
