-- Commands written one after the other.
use Rattle.std.proofs.Common.{◌≡◌, ℕ, zero, suc, ◌+◌, ◌<◌, ◌≤◌, List, [], ◌∷◌, ◌++◌, length, map, take, get_or, Ok, refl, sym, ap, append_assoc, append-nil, arith}
use Rattle.std.specs.List.{flat_map}
use Rattle.std.proofs.lemmas.List.Concat.{flat_map-cons}
use Rattle.wire_core.specs.declared.command.Command.{Command}
use Rattle.wire_core.specs.Members.{Each}
use Rattle.wire_core.specs.Commands.{LogCommand, command_bytes, value_bytes, IsAllowed, IsValue}
use Rattle.wire_core.specs.Reading.{value_at, commands_in, commands_of}
use Rattle.wire_core.specs.Views.{command_of, IsWritable}
use Rattle.wire_core.proofs.AgainLaws.{value_again}

pub each_at : {X : Type 0} (P : X → Type 0) (xs : List X) (i : ℕ) (d : X) → Each P xs → i < length xs
    → P (get_or xs i d)
each_at P [] i d h lt = absurd (omega arith)
each_at P (x ∷ xs) zero d h lt = h.0
each_at P (x ∷ xs) (suc i) d h lt = each_at P xs i d h.1 (omega arith)

-- the spelling of one command more
pub spelled_more : (cs : List Command) (i : ℕ) (d : Command) → i < length cs
    → flat_map command_bytes (map command_of (take (i + 1) cs)) ≡ flat_map command_bytes (map command_of (take i cs))
    ++ command_bytes (command_of (get_or cs i d))
spelled_more [] i d lt = absurd (omega arith)
spelled_more (c ∷ cs) zero d lt = rw flat_map-cons (append-nil (command_bytes (command_of c)))
spelled_more (c ∷ cs) (suc i) d lt =
    let k : suc i + 1 ≡ suc (i + 1) = omega arith in
    rw (k, flat_map-cons, flat_map-cons, spelled_more cs i d (omega arith))
    (sym
    (append_assoc (command_bytes (command_of c)) (flat_map command_bytes (map command_of (take i cs)))
    (command_bytes (command_of (get_or cs i d)))))

allowed : (cs : List Command) → Each IsWritable cs → Each IsAllowed (map command_of cs)
allowed [] h = tt
allowed (c ∷ cs) h = (h.0.0, allowed cs h.1)

length-mapped : (cs : List Command) → length (map command_of cs) ≡ length cs
length-mapped [] = refl
length-mapped (c ∷ cs) = ap suc (length-mapped cs)

pub is_value : (cs : List Command) → 0 < length cs → length cs ≤ 16 → Each IsWritable cs → IsValue (map command_of cs)
is_value cs some few h =
    record { some = omega (arith, length-mapped cs); few = omega (arith, length-mapped cs); fields = allowed cs h }

pub spelled_whole : (value : List LogCommand) → IsValue value
    → value_at (value_bytes value) ≡ value_at (value_bytes value ++ [])
spelled_whole value h = ap value_at (sym (append-nil (value_bytes value)))

-- what is spelled is read back whole
pub read_back : (bytes : List ℕ) (value : List LogCommand) → bytes ≡ value_bytes value → IsValue value
    → (commands_in bytes ≡ value) × (value_at bytes ≡ Ok (commands_in bytes, []))
read_back bytes value e h =
    let again : value_at bytes ≡ Ok (value, []) = rw (e, spelled_whole value h) (value_again value [] h) in
    let same : commands_in bytes ≡ value = ap commands_of again in
    (same, rw same again)
