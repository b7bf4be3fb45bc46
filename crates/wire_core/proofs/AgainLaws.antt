-- What was spelled is read again.
use Rattle.std.proofs.Common.{◌≡◌, ◌∙◌, ℕ, ◌+◌, ◌*◌, ◌^◌, ◌≤◌, ◌<◌, false, ltb, nat_lt, ◌==◌, List, [], ◌∷◌, ◌++◌, length, drop, Ok, refl, ap, append_assoc, arith}
use Rattle.std.specs.List.{flat_map}
use Rattle.std.proofs.lemmas.Bool.{le-ltb}
use Rattle.std.proofs.lemmas.List.{length-append, drop_at}
use Rattle.std.proofs.lemmas.List.Concat.{flat_map-cons}
use Rattle.std.proofs.lemmas.Bool.Decides.{nat_tests}
use Rattle.byteorder.specs.Endian.{big_number}
use Rattle.byteorder.specs.Numbers.{big_number-reads_back}
use Rattle.wire_core.specs.declared.address.Ip4.{Ip4}
use Rattle.wire_core.specs.declared.command.MuxBoot.{MuxBoot}
use Rattle.wire_core.specs.Members.{Each}
use Rattle.wire_core.specs.Numbers.{number_bytes}
use Rattle.wire_core.specs.Commands.{LogCommand, Reserve, Granted, Release, Freed, Up, mux_boot_bytes, command_bytes, value_bytes, AscendsFrom, IsMuxBoot, IsAllowed, IsValue}
use Rattle.wire_core.specs.Reading.{field, count_at, reserve_at, up_at, lease_at, mux_boot_at, mux_boots_at, granted_at, command_at, commands_at, value_at}
use Rattle.wire_core.specs.Views.{mux_boots}
use Rattle.wire_core.proofs.NumberLaws.{length-number_bytes}

pub big_number-number_bytes : (n x : ℕ) (rest : List ℕ) → x < 256 ^ n → big_number n (number_bytes n x ++ rest) ≡ x
unfolding number_bytes
big_number-number_bytes n x rest lt = big_number-reads_back n x rest lt

pub drop-number_bytes : (n x : ℕ) (rest : List ℕ) → drop n (number_bytes n x ++ rest) ≡ rest
drop-number_bytes n x rest = drop_at (number_bytes n x) rest n (length-number_bytes n x)

pub field_again : (n x : ℕ) (rest : List ℕ) → x < 256 ^ n → field n (number_bytes n x ++ rest) ≡ Ok (x, rest)
field_again n x rest lt =
    let long : ltb (length (number_bytes n x ++ rest)) n ≡ false =
    le-ltb _ _ (omega (arith, length-number_bytes n x, length-append (number_bytes n x) rest)) in
    rw (long, big_number-number_bytes n x rest lt, drop-number_bytes n x rest) refl

abbrev pair : ℕ → List ℕ → ℕ × List ℕ
pair k bytes = (k, bytes)

pub byte_again : (k : ℕ) (bytes : List ℕ) → field 1 (k ∷ bytes) ≡ Ok (k, bytes)
byte_again k bytes =
    let long : ltb (length (k ∷ bytes)) 1 ≡ false = le-ltb _ _ (omega arith) in
    let same : k * 1 + 0 ≡ k = omega arith in
    rw (long, same) refl

pub count_again : (k : ℕ) (bytes : List ℕ) → 0 < k → k ≤ 16 → count_at (k ∷ bytes) ≡ Ok (k, bytes)
unfolding count_at
count_again k bytes some few =
    let above : (k == 0) ≡ false = grind (arith, nat_tests) in
    let within : nat_lt 16 k ≡ false = le-ltb _ _ few in
    rw (byte_again, above, within) refl

regroup_4 : (a b c d rest : List ℕ) → a ++ b ++ c ++ d ++ rest ≡ a ++ (b ++ (c ++ (d ++ rest)))
regroup_4 a b c d rest = simp append_assoc

reserve_again : (agent boot : ℕ) (machine : Ip4) (seq : ℕ) (rest : List ℕ) → agent < 2 ^ 16 → boot < 2 ^ 64
    → machine.0 < 2 ^ 32 → seq < 2 ^ 64
    → reserve_at
    (number_bytes 2 agent
    ++ (number_bytes 8 boot ++ (number_bytes 4 machine.0 ++ (number_bytes 8 seq ++ rest)))) ≡ Ok
    (Reserve agent boot machine seq, rest)
unfolding reserve_at
reserve_again agent boot machine seq rest a b c d =
    rw (field_again 2 agent _ a, field_again 8 boot _ b, field_again 4 machine.0 _ c, field_again 8 seq _ d) refl

-- ---- muxes with their boots

mux_boot_again : (least : ℕ) (m : MuxBoot) (rest : List ℕ) → least ≤ m.mux → IsMuxBoot m
    → mux_boot_at least (mux_boot_bytes m ++ rest) ≡ Ok (m, rest)
unfolding mux_boot_at
mux_boot_again least m rest le h =
    let fields = append_assoc (number_bytes 2 m.mux) (number_bytes 8 m.boot) rest in
    let above : ltb m.mux least ≡ false = le-ltb _ _ le in
    rw (fields, field_again 2 m.mux _ h.0, above, field_again 8 m.boot _ h.1) refl

pub mux_boots_again : (least : ℕ) (ms : List MuxBoot) (rest : List ℕ) → AscendsFrom least ms → Each IsMuxBoot ms
    → mux_boots_at (length ms) least (flat_map mux_boot_bytes ms ++ rest) ≡ Ok (ms, rest)
unfolding mux_boots_at
mux_boots_again least [] rest p h = refl
mux_boots_again least (m ∷ ms) rest p h =
    rw (
      flat_map-cons,
      append_assoc (mux_boot_bytes m) (flat_map mux_boot_bytes ms) rest,
      mux_boot_again least m (flat_map mux_boot_bytes ms ++ rest) p.0 h.0,
      mux_boots_again (m.mux + 1) ms rest p.1 h.1,
    ) refl

pub length-mux_boot_bytes : (m : MuxBoot) → length (mux_boot_bytes m) ≡ 10
length-mux_boot_bytes m =
    omega (
      arith,
      length-append (number_bytes 2 m.mux) (number_bytes 8 m.boot),
      length-number_bytes 2 m.mux,
      length-number_bytes 8 m.boot,
    )

pub length-flat_map-mux_boots : (ms : List MuxBoot) → length (flat_map mux_boot_bytes ms) ≡ 10 * length ms
length-flat_map-mux_boots [] = refl
length-flat_map-mux_boots (m ∷ ms) =
    rw flat_map-cons
    (omega (
      arith,
      length-append (mux_boot_bytes m) (flat_map mux_boot_bytes ms),
      length-mux_boot_bytes m,
      length-flat_map-mux_boots ms,
    ))

-- so many pairs are read off their bytes
pub mux_boots-flat_map : (ms : List MuxBoot) (rest : List ℕ) → Each IsMuxBoot ms
    → mux_boots (length ms) (flat_map mux_boot_bytes ms ++ rest) ≡ ms
unfolding mux_boots
mux_boots-flat_map [] rest h = refl
mux_boots-flat_map (m ∷ ms) rest h =
    let others = flat_map mux_boot_bytes ms ++ rest in
    let fields : mux_boot_bytes m ++ (flat_map mux_boot_bytes ms ++ rest) ≡ number_bytes 2 m.mux
    ++ (number_bytes 8 m.boot ++ (flat_map mux_boot_bytes ms ++ rest)) =
    append_assoc (number_bytes 2 m.mux) (number_bytes 8 m.boot) (flat_map mux_boot_bytes ms ++ rest) in
    let mux = big_number-number_bytes 2 m.mux (number_bytes 8 m.boot ++ (flat_map mux_boot_bytes ms ++ rest)) h.0.0 in
    let back = drop-number_bytes 2 m.mux (number_bytes 8 m.boot ++ (flat_map mux_boot_bytes ms ++ rest)) in
    let boot = big_number-number_bytes 8 m.boot (flat_map mux_boot_bytes ms ++ rest) h.0.1 in
    let after : drop 10 (mux_boot_bytes m ++ (flat_map mux_boot_bytes ms ++ rest)) ≡ flat_map mux_boot_bytes ms
    ++ rest = drop_at (mux_boot_bytes m) (flat_map mux_boot_bytes ms ++ rest) 10 (length-mux_boot_bytes m) in
    rw (
      flat_map-cons,
      append_assoc (mux_boot_bytes m) (flat_map mux_boot_bytes ms) rest,
      after,
      fields,
      mux,
      back,
      boot,
      mux_boots-flat_map ms rest h.1,
    ) refl

granted_again : (n : ℕ) (ms : List MuxBoot) (rest : List ℕ) → IsAllowed (Granted n ms)
    → granted_at (number_bytes 8 n ++ (length ms ∷ (flat_map mux_boot_bytes ms ++ rest))) ≡ Ok (Granted n ms, rest)
unfolding granted_at
granted_again n ms rest h =
    rw (
      field_again 8 n _ h.0,
      count_again (length ms) (flat_map mux_boot_bytes ms ++ rest) h.1.some h.1.few,
      mux_boots_again 0 ms rest h.1.ascend h.1.fields,
    ) refl

granted_regroup : (a b rest : List ℕ) (k : ℕ) → a ++ k ∷ [] ++ b ++ rest ≡ a ++ (k ∷ (b ++ rest))
granted_regroup a b rest k = simp append_assoc

-- ---- commands and values

pub command_again : (c : LogCommand) (rest : List ℕ) → IsAllowed c → command_at (command_bytes c ++ rest) ≡ Ok (c, rest)
unfolding command_at lease_at up_at
command_again (Reserve agent boot machine seq) rest h =
    let fields =
    regroup_4 (number_bytes 2 agent) (number_bytes 8 boot) (number_bytes 4 machine.0) (number_bytes 8 seq) rest in
    ap (λ (l : List ℕ). command_at (1 ∷ l)) fields
    ∙ rw byte_again (reserve_again agent boot machine seq rest h.0 h.1 h.2 h.3)
command_again (Granted n ms) rest h =
    let fields = granted_regroup (number_bytes 8 n) (flat_map mux_boot_bytes ms) rest (length ms) in
    ap (λ (l : List ℕ). command_at (2 ∷ l)) fields ∙ rw byte_again (granted_again n ms rest h)
command_again (Release n) rest h = rw (byte_again, field_again 8 n rest h) refl
command_again (Freed n) rest h = rw (byte_again, field_again 8 n rest h) refl
command_again (Up agent boot) rest h =
    let fields = append_assoc (number_bytes 2 agent) (number_bytes 8 boot) rest in
    ap (λ (l : List ℕ). command_at (5 ∷ l)) fields
    ∙ rw (byte_again, field_again 2 agent _ h.0, field_again 8 boot _ h.1) refl

pub commands_again : (cs : List LogCommand) (rest : List ℕ) → Each IsAllowed cs
    → commands_at (length cs) (flat_map command_bytes cs ++ rest) ≡ Ok (cs, rest)
unfolding commands_at
commands_again [] rest h = refl
commands_again (c ∷ cs) rest h =
    rw (
      flat_map-cons,
      append_assoc (command_bytes c) (flat_map command_bytes cs) rest,
      command_again c (flat_map command_bytes cs ++ rest) h.0,
      commands_again cs rest h.1,
    ) refl

pub value_again : (cs : List LogCommand) (rest : List ℕ) → IsValue cs
    → value_at (value_bytes cs ++ rest) ≡ Ok (cs, rest)
unfolding value_at
value_again cs rest h =
    rw (count_again (length cs) (flat_map command_bytes cs ++ rest) h.some h.few) (commands_again cs rest h.fields)
