-- A fault has a cause: the count of the object rose, or stands at its greatest value.
use Rattle.std.specs.Prelude.{◌≡◌, ◌≢◌, ℕ, ◌+◌, ◌-◌, ◌^◌, ◌≤◌, ◌<◌, min, List, length, Result, OnErr, IfOk, IsErr}

-- the count rose, or stands at its greatest value
abbrev pub Rose : ℕ → ℕ → Type 0
Rose before now = min (before + 1) (2 ^ 64 - 1) ≤ now

-- a count that doesn't fall, and that rose where the call failed
pub record HasCause {T E : Type 0} (before now : ℕ) (result : Result T E) : Type 0 where
  pub later : before ≤ now
  pub failed : OnErr result (Rose before now)

-- the call failed, and its count rose
pub record HasFailed {T E : Type 0} (before now : ℕ) (result : Result T E) : Type 0 where
  pub failed : IsErr result
  pub rose : Rose before now
  pub later : before ≤ now

-- a write that takes none of some bytes counts as failed
abbrev pub TakesSome : {E : Type 0} → ℕ → ℕ → Result ℕ E → List ℕ → Type 0
TakesSome before now result bytes = IfOk result (λ n. n ≡ 0 → 0 < length bytes → Rose before now)

-- the count rises for an object with faults, and stays for one without
pub record CountsFaulty (before now faults : ℕ) : Type 0 where
  pub rose : faults ≢ 0 → Rose before now
  pub same : faults ≡ 0 → now ≡ before
