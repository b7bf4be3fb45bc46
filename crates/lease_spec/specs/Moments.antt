-- What an effect says of the table just before its command.
use Rattle.std.specs.Prelude.{ℕ, ◌≡◌, ◌≢◌, ◌<◌, ◌≤◌, true, List, ◌∷◌, ◌++◌, Some}
use Rattle.wire_core.specs.declared.address.Ip4.{Ip4}
use Rattle.wire_core.specs.declared.range.Range.{Range}
use Rattle.wire_core.specs.declared.rules.MachineRule.{MachineRule}
use Rattle.wire_core.specs.declared.rules.LeaseRules.{LeaseRules}
use Rattle.wire_core.specs.Members.{In, Each}
use Rattle.wire_core.specs.Ranges.{range_at, is_leasable}
use Rattle.lease_spec.specs.declared.row.Row.{Row}
use Rattle.lease_spec.specs.declared.row.Phase.TheVariants.{BeingLeased, Leased, Freeing}
use Rattle.lease_spec.specs.declared.effect.Effect.{Effect}
use Rattle.lease_spec.specs.declared.effect.Effect.TheVariants as effect
use Rattle.lease_spec.specs.Places.{Placed}
use Rattle.lease_spec.specs.Free.{IsLeast}
use Rattle.lease_spec.specs.Table.{Last, Leases, story, history, row_at, row_count, rule_of, known_boot, last_of, at_phase}
use Rattle.lease_spec.specs.Lives.{Causes}
use Rattle.lease_spec.specs.Rises.{IsBefore}

-- a request that has an effect: the machine has a rule, its agent isn't in a later boot, its pair is later than the
-- machine's last one
pub record IsAsked (rules : LeaseRules) (t : Leases) (machine : Ip4) (boot seq : ℕ) (rule : MachineRule) : Type 0 where
  pub rule_is : rule_of rules machine ≡ Some rule
  pub runs : known_boot t.known rule.agent ≤ boot
  pub later : (was : Last) → last_of t.lasts machine ≡ Some was → IsBefore was.boot was.seq boot seq

-- the row is its agent's and machine's, the machine has room for it, and its range was the least free one of the VIP
pub record IsBirth (rules : LeaseRules) (t : Leases) (row : Row) : Type 0 where
  pub rule : MachineRule
  pub asked : IsAsked rules t row.machine row.boot row.seq rule
  pub agent : row.agent ≡ rule.agent
  pub room : row_count t.rows row.machine < rules.limit
  pub least : IsLeast rules t.rows rule.vip row.range
  pub phase : row.phase ≡ BeingLeased

pub record HasRow (rows : List Row) (range : Range) : Type 0 where
  pub row : Row
  pub there : In row rows
  pub on : row.range ≡ range

-- each leasable range of the VIP has a row
abbrev pub AllTaken : LeaseRules → List Row → Ip4 → Type 0
AllTaken rules rows vip =
    (start : ℕ) → start < 65536 → is_leasable rules (range_at vip start) ≡ true → HasRow rows (range_at vip start)

-- the machine has room for a row, and each leasable range of its VIP has one
pub record IsExhausted (rules : LeaseRules) (t : Leases) (machine : Ip4) (boot seq : ℕ) : Type 0 where
  pub rule : MachineRule
  pub asked : IsAsked rules t machine boot seq rule
  pub room : row_count t.rows machine < rules.limit
  pub taken : AllTaken rules t.rows rule.vip

-- the machine has so many rows, as many as a machine may have
pub record IsAtLimit (rules : LeaseRules) (t : Leases) (machine : Ip4) (boot seq count : ℕ) : Type 0 where
  pub rule : MachineRule
  pub asked : IsAsked rules t machine boot seq rule
  pub counted : row_count t.rows machine ≡ count
  pub full : rules.limit ≤ count

-- the row was the first with its number, BeingLeased, and is now Leased
pub record IsGrant (t : Leases) (row : Row) : Type 0 where
  pub was : Row
  pub found : row_at t.rows row.n ≡ Some was
  pub phase : was.phase ≡ BeingLeased
  pub now : row ≡ at_phase Leased was

-- the row was the first with its number, not yet Freeing, and is now Freeing
pub record IsRelease (t : Leases) (row : Row) : Type 0 where
  pub was : Row
  pub found : row_at t.rows row.n ≡ Some was
  pub phase : was.phase ≢ Freeing
  pub now : row ≡ at_phase Freeing was

-- the row was Freeing
pub record IsEnd (t : Leases) (row : Row) : Type 0 where
  pub found : row_at t.rows row.n ≡ Some row
  pub phase : row.phase ≡ Freeing

-- the row stood, not yet Freeing, and is now Freeing
pub record IsClearing (t : Leases) (row : Row) : Type 0 where
  pub was : Row
  pub there : In was t.rows
  pub phase : was.phase ≢ Freeing
  pub now : row ≡ at_phase Freeing was

abbrev pub IsTrueOf : LeaseRules → Leases → Effect → Type 0
IsTrueOf rules t (effect.Reserved row) = IsBirth rules t row
IsTrueOf rules t (effect.Exhausted machine boot seq place) = IsExhausted rules t machine boot seq
IsTrueOf rules t (effect.AtLimit machine boot seq count) = IsAtLimit rules t machine boot seq count
IsTrueOf rules t (effect.Granted row) = IsGrant t row
IsTrueOf rules t (effect.Released row) = IsRelease t row
IsTrueOf rules t (effect.Freed row) = IsEnd t row
IsTrueOf rules t (effect.Known agent boot) = (agent < 256) × (known_boot t.known agent < boot)
IsTrueOf rules t (effect.Cleared row) = IsClearing t row

-- the command of an effect, and the effect true of the table of the commands before it
pub record Happened (rules : LeaseRules) (cs : List Placed) (e : Effect) : Type 0 where
  pub before : List Placed
  pub command : Placed
  pub after : List Placed
  pub split : cs ≡ before ++ command ∷ after
  pub causes : Causes command e
  pub true_of : IsTrueOf rules (story rules before).leases e

-- each effect is true of the table just before its command
abbrev pub AllTrue : LeaseRules → List Placed → Type 0
AllTrue rules cs = Each (Happened rules cs) (history rules cs)
