-- What a node makes durable, and the one spelling of each entry.
use Rattle.std.specs.Prelude.{ℕ, ◌-◌, ◌<◌, ◌^◌, List, [], ◌∷◌, ◌++◌, length, Result, Ok, Err, ◌==◌, if◌then◌else◌}
use Rattle.wire_core.specs.declared.entry.Entry.{Entry}
use Rattle.wire_core.specs.declared.entry.Entry.TheVariants.{Boot, Promise, Vote, Learn, Epoch}
use Rattle.wire_core.specs.declared.reading.FieldFault.TheVariants.{NotAllowed}
use Rattle.wire_core.specs.declared.value.ValueFault.{ValueFault}
use Rattle.wire_core.specs.declared.value.ValueFault.TheVariants.{Field}
use Rattle.wire_core.specs.Numbers.{number_bytes}
use Rattle.wire_core.specs.Commands.{LogCommand, value_bytes, IsValue}
use Rattle.wire_core.specs.Reading.{Read, ◌>>=◌, field, value_at, fault_at}

-- a kind byte and the fields
abbrev pub entry_bytes : Entry → List ℕ
entry_bytes (Boot version role index boot) = 1 ∷ version ∷ role ∷ [] ++ number_bytes 2 index ++ number_bytes 8 boot
entry_bytes (Promise ballot) = 2 ∷ [] ++ number_bytes 8 ballot
entry_bytes (Vote ballot value) = 3 ∷ [] ++ number_bytes 8 ballot ++ value_bytes value
entry_bytes (Learn ballot value) = 4 ∷ [] ++ number_bytes 8 ballot ++ value_bytes value
entry_bytes (Epoch epoch) = 5 ∷ [] ++ number_bytes 8 epoch

-- the fields are allowed, each within its width
abbrev pub IsEntry : Entry → Type 0
IsEntry (Boot version role index boot) = (version < 256) × (role < 256) × (index < 2 ^ 16) × (boot < 2 ^ 64)
IsEntry (Promise ballot) = ballot < 2 ^ 64
IsEntry (Vote ballot value) = (ballot < 2 ^ 64) × IsValue value
IsEntry (Learn ballot value) = (ballot < 2 ^ 64) × IsValue value
IsEntry (Epoch epoch) = epoch < 2 ^ 64

unfoldable pub boot_at : List ℕ → Read Entry
boot_at bytes = do
  version ← field 1 bytes
  role ← field 1 version.1
  index ← field 2 role.1
  boot ← field 8 index.1
  Ok (Boot version.0 role.0 index.0 boot.0, boot.1)

-- an entry whose one field is a number
abbrev pub number_entry_at : (ℕ → Entry) → List ℕ → Read Entry
number_entry_at make bytes = do
  number ← field 8 bytes
  Ok (make number.0, number.1)

-- an entry of a ballot and a value
abbrev pub value_entry_at : (ℕ → List LogCommand → Entry) → List ℕ → Read Entry
value_entry_at make bytes = do
  ballot ← field 8 bytes
  value ← value_at ballot.1
  Ok (make ballot.0 value.0, value.1)

-- the entry at the front
unfoldable pub entry_at : List ℕ → Read Entry
entry_at bytes = do
  kind ← field 1 bytes
  if kind.0 == 1 then boot_at kind.1
      else if kind.0 == 2 then number_entry_at Promise kind.1
      else if kind.0 == 3 then value_entry_at Vote kind.1
      else if kind.0 == 4 then value_entry_at Learn kind.1
      else if kind.0 == 5 then number_entry_at Epoch kind.1
      else Err (NotAllowed (length bytes))

-- nothing may be left over
abbrev pub whole_entry : ℕ → Read Entry → Result Entry ValueFault
whole_entry total (Ok x) = if length x.1 == 0 then Ok x.0 else Err (Field (total - length x.1))
whole_entry total (Err e) = Err (fault_at total e)

-- the entry that these bytes spell as a whole, or the first fault
abbrev pub read_entry : List ℕ → Result Entry ValueFault
read_entry bytes = whole_entry (length bytes) (entry_at bytes)
