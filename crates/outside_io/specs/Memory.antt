-- What the objects in memory hold.
use Rattle.std.specs.Prelude.{◌≡◌, ℕ, zero, suc, min, ◌+◌, ◌-◌, ◌^◌, ◌==◌, Bool, List, [], ◌∷◌, ◌++◌, length, drop, get_or, nat_lt, Option, None, Some, if◌then◌else◌}
use Rattle.std.specs.List.{list_any}
use Rattle.outside_io.specs.declared.clock.MemClock.{MemClock}
use Rattle.outside_io.specs.declared.memory.Failing.{Failing}
use Rattle.outside_io.specs.declared.memory.MemSource.{MemSource}
use Rattle.outside_io.specs.declared.memory.MemSink.{MemSink}
use Rattle.outside_io.specs.declared.sure.SureSource.{SureSource}

-- the bytes that are left
abbrev pub source_left : MemSource → List ℕ
source_left s = drop s.at s.bytes.items

abbrev pub sure_left : SureSource → List ℕ
sure_left s = drop s.at s.bytes.items

-- the bytes that were written, behind those that it began with
abbrev pub sink_bytes : MemSink → List ℕ
sink_bytes s = s.bytes.items

-- the number of the next call is among those that are to fail
abbrev pub fails_now : Failing → Bool
fails_now f = list_any (λ number. number == f.calls) f.numbers.items

-- one call more is counted, as far as the count goes
pub record CountsCall (old new : Failing) : Type 0 where
  pub calls : new.calls ≡ min (old.calls + 1) (2 ^ 64 - 1)
  pub numbers : new.numbers ≡ old.numbers

-- the answer of the call with this number: the times in order, then the last again; 0 where there is none
abbrev pub time_at : List ℕ → ℕ → ℕ
time_at times n = if nat_lt n (length times) then get_or times n 0 else get_or times (length times - 1) 0

-- the answers of the first n calls
abbrev pub first_times : List ℕ → ℕ → List ℕ
first_times times zero = []
first_times times (suc n) = first_times times n ++ time_at times n ∷ []

-- all answers so far, as long as the clock can count its calls
abbrev pub times_told : MemClock → Option (List ℕ)
times_told clock = if clock.calls == 2 ^ 64 - 1 then None else Some (first_times clock.times.items clock.calls)
