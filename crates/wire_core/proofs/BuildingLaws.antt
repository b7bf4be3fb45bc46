-- Values in the making.
use Rattle.std.proofs.Common.{◌≡◌, ◌∙◌, ℕ, ◌+◌, ◌<◌, ◌≤◌, List, [], ◌∷◌, ◌++◌, length, slice_set, slice_index, Ok, refl, sym, ap, append-nil, arith}
use Rattle.std.specs.List.{flat_map}
use Rattle.std.proofs.lemmas.List.{length-append}
use Rattle.std.proofs.lemmas.List.Concat.{flat_map-append}
use Rattle.wire_core.specs.Building.{IsBuilt, added}
use Rattle.wire_core.specs.Members.{Each}
use Rattle.wire_core.specs.Commands.{LogCommand, command_bytes, value_bytes, IsAllowed}
use Rattle.wire_core.specs.Reading.{commands_at, commands_in, commands_of, value_at}
use Rattle.wire_core.proofs.AgainLaws.{commands_again}
use Rattle.wire_core.proofs.OwnedLaws.{read_back}

-- what is spelled is what was added
pub added_again : (cs : List LogCommand) → Each IsAllowed cs → added (value_bytes cs) ≡ cs
added_again cs fields =
    ap (λ bytes. commands_of (commands_at (length cs) bytes)) (sym (append-nil (flat_map command_bytes cs)))
    ∙ ap commands_of (commands_again cs [] fields)

-- these bytes are those of these commands
pub record Builds (bytes : List ℕ) (cs : List LogCommand) : Type 0 where
  pub is : added bytes ≡ cs
  pub built : IsBuilt bytes

pub builds : (bytes : List ℕ) (cs : List LogCommand) → bytes ≡ value_bytes cs → length cs ≤ 16 → Each IsAllowed cs
    → Builds bytes cs
builds bytes cs spelled few fields =
    let is : added bytes ≡ cs = ap added spelled ∙ added_again cs fields in
    record {
      is = is;
      built = record { spelled = rw is spelled; few = rw is few; fields = rw is fields };
    }

each_more : {X : Type 0} (P : X → Type 0) (xs : List X) (x : X) → Each P xs → P x → Each P (xs ++ x ∷ [])
each_more P [] x h last = (last, tt)
each_more P (y ∷ ys) x h last = (h.0, each_more P ys x h.1 last)

-- one command more, counted
pub spelled_one_more : (cs : List LogCommand) (c : LogCommand) (n : ℕ) → n ≡ length cs
    → slice_set (value_bytes cs ++ command_bytes c) 0 (n + 1) ≡ value_bytes (cs ++ c ∷ [])
spelled_one_more cs c n is =
    let count : n + 1 ≡ length (cs ++ c ∷ []) = omega (arith, is, length-append cs (c ∷ [])) in
    let bytes : flat_map command_bytes cs ++ command_bytes c ≡ flat_map command_bytes (cs ++ c ∷ []) =
    ap (λ l. flat_map command_bytes cs ++ l) (sym (append-nil (command_bytes c)))
    ∙ sym (flat_map-append command_bytes cs (c ∷ [])) in
    rw (count, bytes) refl

-- what stands after one command more
pub builds_more : (bytes : List ℕ) (c : LogCommand) (front new : List ℕ) → IsBuilt bytes → length (added bytes) < 16
    → IsAllowed c
    → front ≡ bytes ++ command_bytes c → new ≡ slice_set front 0 (slice_index front 0 + 1)
    → Builds new (added bytes ++ c ∷ [])
builds_more bytes c front new built few allowed written set =
    let cs : List LogCommand = added bytes in
    let whole : front ≡ value_bytes cs ++ command_bytes c = written ∙ ap (λ l. l ++ command_bytes c) built.spelled in
    let first : slice_index front 0 ≡ length cs = ap (λ l. slice_index l 0) whole in
    let spelled : new ≡ value_bytes (cs ++ c ∷ []) =
    set ∙ ap (λ l. slice_set l 0 (slice_index front 0 + 1)) whole ∙ spelled_one_more cs c (slice_index front 0) first in
    builds new (cs ++ c ∷ []) spelled (omega (arith, few, length-append cs (c ∷ [])))
    (each_more IsAllowed cs c built.fields allowed)

-- it may be read as a value
pub finished : (bytes : List ℕ) → IsBuilt bytes → 0 < length (added bytes)
    → (commands_in bytes ≡ added bytes) × (value_at bytes ≡ Ok (commands_in bytes, []))
finished bytes built some =
    read_back bytes (added bytes) built.spelled (record { some = some; few = built.few; fields = built.fields })
