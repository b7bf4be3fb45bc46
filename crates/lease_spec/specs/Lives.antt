-- The life of a lease: born by a Reserve, granted, dying, gone. What once happened is for ever.
use Rattle.std.specs.Prelude.{ℕ, ◌≡◌, ◌<◌, ◌⊎◌, List, ◌++◌}
use Rattle.wire_core.specs.declared.command.MuxBoot.{MuxBoot}
use Rattle.wire_core.specs.declared.rules.LeaseRules.{LeaseRules}
use Rattle.wire_core.specs.Members.{In, Each}
use Rattle.wire_core.specs.Commands.{LogCommand, Reserve, Granted, Release, Freed, Up}
use Rattle.lease_spec.specs.declared.row.Row.{Row}
use Rattle.lease_spec.specs.declared.effect.Effect.{Effect}
use Rattle.lease_spec.specs.declared.effect.Effect.TheVariants as effect
use Rattle.lease_spec.specs.Places.{Placed}
use Rattle.lease_spec.specs.Table.{story, history}

-- the row that a lease had when it was born
pub record Birth (es : List Effect) (n : ℕ) (row : Row) : Type 0 where
  pub number : row.n ≡ n
  pub done : In (effect.Reserved row) es

pub record IsGranted (es : List Effect) (n : ℕ) : Type 0 where
  pub row : Row
  pub number : row.n ≡ n
  pub done : In (effect.Granted row) es

-- its agent gave it back, or runs in a later boot
pub record IsDying (es : List Effect) (n : ℕ) : Type 0 where
  pub row : Row
  pub number : row.n ≡ n
  pub done : In (effect.Released row) es ⊎ In (effect.Cleared row) es

pub record IsGone (es : List Effect) (n : ℕ) : Type 0 where
  pub row : Row
  pub number : row.n ≡ n
  pub done : In (effect.Freed row) es

-- a command that raises an agent's boot above b
abbrev pub RaisesAbove : LogCommand → ℕ → ℕ → Type 0
RaisesAbove (Reserve agent boot machine seq) a b = (agent ≡ a) × (b < boot)
RaisesAbove (Up agent boot) a b = (agent ≡ a) × (b < boot)
RaisesAbove (Granted n muxes) a b = ⊥
RaisesAbove (Release n) a b = ⊥
RaisesAbove (Freed n) a b = ⊥

-- The command that an effect comes from.
abbrev pub Causes : Placed → Effect → Type 0
Causes c (effect.Reserved row) = (c.place ≡ row.n) × (c.command ≡ Reserve row.agent row.boot row.machine row.seq)
Causes c (effect.Exhausted machine boot seq place) =
    (agent : ℕ) × (c.place ≡ place) × (c.command ≡ Reserve agent boot machine seq)
Causes c (effect.AtLimit machine boot seq count) = (agent : ℕ) × (c.command ≡ Reserve agent boot machine seq)
Causes c (effect.Granted row) = (muxes : List MuxBoot) × (c.command ≡ Granted row.n muxes)
Causes c (effect.Released row) = c.command ≡ Release row.n
Causes c (effect.Freed row) = c.command ≡ Freed row.n
Causes c (effect.Known agent boot) = c.command ≡ Up agent boot
Causes c (effect.Cleared row) = RaisesAbove c.command row.agent row.boot

pub record HasCause (cs : List Placed) (e : Effect) : Type 0 where
  pub command : Placed
  pub there : In command cs
  pub causes : Causes command e

-- each effect has its command
abbrev pub AllCaused : LeaseRules → List Placed → Type 0
AllCaused rules cs = Each (HasCause cs) (history rules cs)

-- what was done stays done
abbrev pub Lasts : LeaseRules → List Placed → List Placed → Type 0
Lasts rules cs ds = (more : List Effect) × (history rules (cs ++ ds) ≡ history rules cs ++ more)

-- Of two leases on one range the earlier one is gone.
abbrev pub EarlierIsGone : LeaseRules → List Placed → Type 0
EarlierIsGone rules cs =
    (n m : ℕ) (a b : Row) → Birth (history rules cs) n a → Birth (history rules cs) m b → n < m → a.range ≡ b.range
    → IsGone (history rules cs) n

-- a row with its number and range stands in the table
pub record Standing (rows : List Row) (born : Row) : Type 0 where
  pub row : Row
  pub there : In row rows
  pub number : row.n ≡ born.n
  pub range : row.range ≡ born.range

-- Each lease that was born stands or is gone.
abbrev pub StandsOrGone : LeaseRules → List Placed → Type 0
StandsOrGone rules cs =
    (n : ℕ) (born : Row) → Birth (history rules cs) n born
    → Standing (story rules cs).leases.rows born ⊎ IsGone (history rules cs) n
