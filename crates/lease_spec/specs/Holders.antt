-- Who holds a range: no two leases are on one, each is on a leasable range, no machine has too many, and a lease that
-- stands is the one that it was.
use Rattle.std.specs.Prelude.{ℕ, ◌≡◌, ◌≢◌, ◌<◌, ◌≤◌, true, List, [], ◌∷◌, Some}
use Rattle.wire_core.specs.declared.address.Ip4.{Ip4}
use Rattle.wire_core.specs.declared.rules.LeaseRules.{LeaseRules}
use Rattle.wire_core.specs.Ranges.{is_leasable}
use Rattle.wire_core.specs.Members.{Each}
use Rattle.lease_spec.specs.declared.row.Row.{Row}
use Rattle.lease_spec.specs.Table.{row_at, row_count}

-- each row differs so from each that follows
abbrev pub Apart : (Row → Row → Type 0) → List Row → Type 0
Apart Differ [] = Unit {0}
Apart Differ (row ∷ rows) = Each (Differ row) rows × Apart Differ rows

-- no two rows are on one range
abbrev pub OwnRanges : List Row → Type 0
OwnRanges rows = Apart (λ row other. row.range ≢ other.range) rows

-- no two rows have one number
abbrev pub OwnNumbers : List Row → Type 0
OwnNumbers rows = Apart (λ row other. row.n ≢ other.n) rows

-- each row is on a leasable range
abbrev pub AllLeasable : LeaseRules → List Row → Type 0
AllLeasable rules rows = Each (λ row. is_leasable rules row.range ≡ true) rows

-- each row has a number below this one
abbrev pub AllBelow : ℕ → List Row → Type 0
AllBelow n rows = Each (λ row. row.n < n) rows

-- the two rows are one lease: one number, one range, one machine
pub record SameLease (a b : Row) : Type 0 where
  pub number : a.n ≡ b.n
  pub range : a.range ≡ b.range
  pub machine : a.machine ≡ b.machine

-- no machine has more rows than a machine may have
abbrev pub WithinLimit : LeaseRules → List Row → Type 0
WithinLimit rules rows = (machine : Ip4) → row_count rows machine ≤ rules.limit

-- the lease stood before
pub record Stood (before : List Row) (row : Row) : Type 0 where
  pub was : Row
  pub there : row_at before row.n ≡ Some was
  pub same : SameLease was row

-- Rows that go on: what holds of ranges and numbers is kept, and a lease of an old number stood before. Numbers were
-- below `low`, and are below `high`.
pub record GoesOn (rules : LeaseRules) (low high : ℕ) (before after : List Row) : Type 0 where
  pub rises : low ≤ high
  pub ranges : OwnRanges before → OwnRanges after
  pub leasable : AllLeasable rules before → AllLeasable rules after
  pub numbers : AllBelow low before → OwnNumbers before → OwnNumbers after
  pub below : AllBelow low before → AllBelow high after
  pub stood : (n : ℕ) (row : Row) → n < low → row_at after n ≡ Some row → Stood before row
