-- What lasts while a view grows.
use Rattle.std.specs.Prelude.{ℕ, ◌<◌, ◌≤◌}
use Rattle.paxos_spec.specs.Votes.{Value}
use Rattle.paxos_spec.specs.Agreement.{View, IsChosen, Choosable, Seal}
use Rattle.paxos_laws.specs.Steps.{Grows}

-- each view grows into itself, and what grows on and on has grown
abbrev pub StaysAsItIs : Type 0
StaysAsItIs = (w : View) → Grows w w

abbrev pub GrowsOn : Type 0
GrowsOn = (w u v : View) → Grows w u → Grows u v → Grows w v

-- what was chosen stays chosen, and what may be chosen only gets less
abbrev pub ChosenLasts : Type 0
ChosenLasts = (w u : View) → Grows w u → (s b : ℕ) (v : Value) → IsChosen w s b v → IsChosen u s b v

abbrev pub ChoosableShrinks : Type 0
ChoosableShrinks = (w u : View) → Grows w u → (s b : ℕ) (v : Value) → Choosable u s b v → Choosable w s b v

-- a seal lasts, and holds where the length grows
abbrev pub SealLasts : Type 0
SealLasts = (w u : View) → Grows w u → (b l k : ℕ) → l ≤ k → Seal w b l → Seal u b k

-- what is chosen below the ballot of a seal stands below its length
abbrev pub SealBounds : Type 0
SealBounds = (w : View) (b l s c : ℕ) (v : Value) → Seal w b l → IsChosen w s c v → c < b → s < l
