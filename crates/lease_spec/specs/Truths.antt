-- What the table says is true: of each row, of each machine's last outcome, and of each effect.
use Rattle.std.specs.Prelude.{ℕ, ◌≡◌, List, [], ◌∷◌, ◌++◌}
use Rattle.wire_core.specs.declared.range.Range.{Range}
use Rattle.wire_core.specs.declared.rules.LeaseRules.{LeaseRules}
use Rattle.wire_core.specs.Members.{In, Each}
use Rattle.lease_spec.specs.declared.row.Row.{Row}
use Rattle.lease_spec.specs.declared.row.Phase.{Phase}
use Rattle.lease_spec.specs.declared.row.Phase.TheVariants.{BeingLeased, Leased, Freeing}
use Rattle.lease_spec.specs.declared.row.Outcome.{Outcome}
use Rattle.lease_spec.specs.declared.row.Outcome.TheVariants as outcome
use Rattle.lease_spec.specs.declared.effect.Effect.{Effect}
use Rattle.lease_spec.specs.declared.effect.Effect.TheVariants as effect
use Rattle.lease_spec.specs.Places.{Placed}
use Rattle.lease_spec.specs.Table.{Last, story, history, at_phase}
use Rattle.lease_spec.specs.Lives.{Birth, IsGranted, IsDying}

-- The row of a lease that was born: all its fields but the phase are those of its birth.
pub record WasBorn (es : List Effect) (row : Row) : Type 0 where
  pub born : Row
  pub birth : Birth es row.n born
  pub fields : row ≡ at_phase row.phase born

-- a Leased row was granted, a Freeing one is dying
abbrev pub PhaseTold : List Effect → ℕ → Phase → Type 0
PhaseTold es n BeingLeased = Unit {0}
PhaseTold es n Leased = IsGranted es n
PhaseTold es n Freeing = IsDying es n

pub record RowTold (es : List Effect) (row : Row) : Type 0 where
  pub was : WasBorn es row
  pub phase : PhaseTold es row.n row.phase

-- each row of the table was born, and its phase was reached
abbrev pub RowsTold : LeaseRules → List Placed → Type 0
RowsTold rules cs = Each (RowTold (history rules cs)) (story rules cs).leases.rows

-- What must have been done before an effect: a lease is born before anything is done with it, and is dying before it
-- is gone.
abbrev pub Prepared : List Effect → Effect → Type 0
Prepared es (effect.Reserved row) = Unit {0}
Prepared es (effect.Exhausted machine boot seq place) = Unit {0}
Prepared es (effect.AtLimit machine boot seq count) = Unit {0}
Prepared es (effect.Granted row) = WasBorn es row
Prepared es (effect.Released row) = WasBorn es row
Prepared es (effect.Freed row) = WasBorn es row × IsDying es row.n
Prepared es (effect.Known agent boot) = Unit {0}
Prepared es (effect.Cleared row) = WasBorn es row

-- each effect comes after those that prepare it
abbrev pub InOrder : List Effect → List Effect → Type 0
InOrder done [] = Unit {0}
InOrder done (e ∷ es) = Prepared done e × InOrder (done ++ e ∷ []) es

abbrev pub LivesInOrder : LeaseRules → List Placed → Type 0
LivesInOrder rules cs = InOrder [] (history rules cs)

-- the lease that a machine's last request came to
pub record CameToLease (es : List Effect) (last : Last) (range : Range) (n : ℕ) : Type 0 where
  pub born : Row
  pub birth : Birth es n born
  pub range_is : born.range ≡ range
  pub machine : born.machine ≡ last.machine
  pub boot : born.boot ≡ last.boot
  pub seq : born.seq ≡ last.seq

abbrev pub CameTo : List Effect → Last → Outcome → Type 0
CameTo es last (outcome.Reserved range n) = CameToLease es last range n
CameTo es last (outcome.Exhausted place) = In (effect.Exhausted last.machine last.boot last.seq place) es
CameTo es last (outcome.AtLimit count) = In (effect.AtLimit last.machine last.boot last.seq count) es

-- the outcome that is kept of a machine's last request is what was done at it
abbrev pub OutcomesTold : LeaseRules → List Placed → Type 0
OutcomesTold rules cs = Each (λ last. CameTo (history rules cs) last last.outcome) (story rules cs).leases.lasts
