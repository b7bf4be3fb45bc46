-- One spelling each: reading is the inverse of writing.
use Rattle.std.specs.Prelude.{◌≡◌, ℕ, List, ◌++◌, Ok}
use Rattle.wire_core.specs.Numbers.{AreBytes}
use Rattle.wire_core.specs.Reading.{Read}

-- What is allowed and spelled is read again, whatever follows it.
abbrev pub ReadsAgain : {A : Type 0} → (A → Type 0) → (A → List ℕ) → (List ℕ → Read A) → Type 0
ReadsAgain {A = A} allowed spelling read =
    (x : A) (rest : List ℕ) → allowed x → read (spelling x ++ rest) ≡ Ok (x, rest)

-- What is read is allowed, and spelled by the bytes in front of what is left.
abbrev pub IsSpelled : {A : Type 0} → (A → Type 0) → (A → List ℕ) → (List ℕ → Read A) → Type 0
IsSpelled {A = A} allowed spelling read =
    (bytes : List ℕ) (x : A) (rest : List ℕ) → AreBytes bytes → read bytes ≡ Ok (x, rest)
    → (bytes ≡ spelling x ++ rest) × allowed x
