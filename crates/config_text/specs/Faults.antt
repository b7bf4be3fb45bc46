-- What is read of a configuration, or its first fault.
use Rattle.std.specs.Prelude.{◌≡◌, ℕ, List, Option, Some, None, Result, Ok, Err, string_bytes}
use Rattle.config_text.specs.declared.fault.ConfigFault.{ConfigFault}
use Rattle.config_text.specs.declared.fault.ConfigFault.TheVariants as config_fault

pub data Fault : Type 0 where
  -- the bytes are no JSON
  json : Fault
  -- the path of the first fault
  field : List ℕ → Fault

infixl 10 ◌>>=◌
abbrev pub ◌>>=◌ : {A B : Type 0} → Result A Fault → (A → Result B Fault) → Result B Fault
(Ok x) >>= f = f x
(Err e) >>= f = Err e

-- a value, or a fault at this path where there is none
abbrev pub given : {A : Type 0} → List ℕ → Option A → Result A Fault
given path (Some x) = Ok x
given path None = Err (field path)

-- the fault that a function answered is the one that is read, unless memory ran out
abbrev pub Fails : {A : Type 0} → ConfigFault → Result A Fault → Type 0
Fails config_fault.Json read = read ≡ Err json
Fails (config_fault.Field path) read = read ≡ Err (field (string_bytes path))
Fails config_fault.NoMemory read = Unit {0}

-- what a function answered is what is read, unless memory ran out
abbrev pub Gives : {A : Type 0} → Result A ConfigFault → Result A Fault → Type 0
Gives (Ok x) read = read ≡ Ok x
Gives (Err e) read = Fails e read

-- the same, of what is seen of the answer
abbrev pub GivesSeen : {A B : Type 0} → (A → B) → Result A ConfigFault → Result B Fault → Type 0
GivesSeen view (Ok x) read = read ≡ Ok (view x)
GivesSeen view (Err e) read = Fails e read
