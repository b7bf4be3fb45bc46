-- Reading from left to right, with the first fault that is met. What is read is a value and the bytes after it.
use Rattle.std.specs.Prelude.{◌≡◌, ℕ, zero, suc, ◌-◌, ◌+◌, List, [], ◌∷◌, length, drop, Result, Ok, Err, nat_lt, ◌==◌, ◌||◌, if◌then◌else◌}
use Rattle.byteorder.specs.Endian.{big_number}
use Rattle.wire_core.specs.declared.command.MuxBoot.{MuxBoot}
use Rattle.wire_core.specs.declared.reading.FieldFault.{FieldFault}
use Rattle.wire_core.specs.declared.reading.FieldFault.TheVariants.{Short, NotAllowed}
use Rattle.wire_core.specs.declared.value.ValueFault.{ValueFault}
use Rattle.wire_core.specs.declared.value.ValueFault.TheVariants as value_fault
use Rattle.wire_core.specs.Commands.{LogCommand, Reserve, Granted, Release, Freed, Up}

-- a value and the bytes after it, or what stops the reading
abbrev pub Read : Type 0 → Type 0
Read A = Result (A × List ℕ) FieldFault

infixl 10 ◌>>=◌
abbrev pub ◌>>=◌ : {A B : Type 0} → Result A FieldFault → (A → Result B FieldFault) → Result B FieldFault
(Ok x) >>= f = f x
(Err e) >>= f = Err e

-- What a function returned, seen by a view, is what the definition gives.
abbrev pub Gives : {X Y E : Type 0} → (X → Y) → Result X E → Result Y E → Type 0
Gives view (Ok x) read = read ≡ Ok (view x)
Gives view (Err e) read = read ≡ Err e

-- a number of n bytes
abbrev pub field : ℕ → List ℕ → Read ℕ
field n bytes = if nat_lt (length bytes) n then Err Short else Ok (big_number n bytes, drop n bytes)

-- a count byte from 1 to 16
unfoldable pub count_at : List ℕ → Read ℕ
count_at bytes = do
  count ← field 1 bytes
  if (count.0 == 0) || nat_lt 16 count.0 then Err (NotAllowed (length bytes)) else Ok (count.0, count.1)

unfoldable pub reserve_at : List ℕ → Read LogCommand
reserve_at bytes = do
  agent ← field 2 bytes
  boot ← field 8 agent.1
  machine ← field 4 boot.1
  seq ← field 8 machine.1
  Ok (Reserve agent.0 boot.0 (record { 0 = machine.0 }) seq.0, seq.1)

unfoldable pub up_at : List ℕ → Read LogCommand
up_at bytes = do
  agent ← field 2 bytes
  boot ← field 8 agent.1
  Ok (Up agent.0 boot.0, boot.1)

-- a command whose one field is the number of a lease
unfoldable pub lease_at : (ℕ → LogCommand) → List ℕ → Read LogCommand
lease_at make bytes = do
  n ← field 8 bytes
  Ok (make n.0, n.1)

-- a mux, at least this one, and its boot
unfoldable pub mux_boot_at : ℕ → List ℕ → Read MuxBoot
mux_boot_at least bytes = do
  mux ← field 2 bytes
  if nat_lt mux.0 least then Err (NotAllowed (length bytes)) else
      (field 8 mux.1 >>= λ boot. Ok (record { mux = mux.0; boot = boot.0 }, boot.1))

-- so many muxes with their boots, each above the one before
unfoldable pub mux_boots_at : ℕ → ℕ → List ℕ → Read (List MuxBoot)
mux_boots_at zero least bytes = Ok ([], bytes)
mux_boots_at (suc count) least bytes = do
  first ← mux_boot_at least bytes
  others ← mux_boots_at count (first.0.mux + 1) first.1
  Ok (first.0 ∷ others.0, others.1)

unfoldable pub granted_at : List ℕ → Read LogCommand
granted_at bytes = do
  n ← field 8 bytes
  count ← count_at n.1
  muxes ← mux_boots_at count.0 0 count.1
  Ok (Granted n.0 muxes.0, muxes.1)

-- the command at the front
unfoldable pub command_at : List ℕ → Read LogCommand
command_at bytes = do
  kind ← field 1 bytes
  if kind.0 == 1 then reserve_at kind.1
      else if kind.0 == 2 then granted_at kind.1
      else if kind.0 == 3 then lease_at Release kind.1
      else if kind.0 == 4 then lease_at Freed kind.1
      else if kind.0 == 5 then up_at kind.1
      else Err (NotAllowed (length bytes))

unfoldable pub commands_at : ℕ → List ℕ → Read (List LogCommand)
commands_at zero bytes = Ok ([], bytes)
commands_at (suc count) bytes = do
  first ← command_at bytes
  others ← commands_at count first.1
  Ok (first.0 ∷ others.0, others.1)

-- the value at the front
unfoldable pub value_at : List ℕ → Read (List LogCommand)
value_at bytes = do
  count ← count_at bytes
  commands_at count.0 count.1

-- the bytes after what was read
abbrev pub rest_of : {A : Type 0} → Read A → Result (List ℕ) FieldFault
rest_of (Ok x) = Ok x.1
rest_of (Err e) = Err e

-- the commands that were read
abbrev pub commands_of : Read (List LogCommand) → List LogCommand
commands_of (Ok x) = x.0
commands_of (Err e) = []

-- the commands of the value that these bytes begin with
abbrev pub commands_in : List ℕ → List LogCommand
commands_in bytes = commands_of (value_at bytes)

-- a fault among so many bytes, by its offset
abbrev pub fault_at : ℕ → FieldFault → ValueFault
fault_at total Short = value_fault.Short
fault_at total (NotAllowed left) = value_fault.Field (total - left)

abbrev pub value_read : ℕ → Read (List LogCommand) → Result (List LogCommand × ℕ) ValueFault
value_read total (Ok x) = Ok (x.0, total - length x.1)
value_read total (Err e) = Err (fault_at total e)

-- the value that these bytes begin with and its length, or the first fault
abbrev pub read_value : List ℕ → Result (List LogCommand × ℕ) ValueFault
read_value bytes = value_read (length bytes) (value_at bytes)
