-- The lives of leases along the log of a world: what once happened to a number is for ever.
use Rattle.std.specs.Prelude.{◌≡◌, ℕ, List, ◌++◌}
use Rattle.vip_config.specs.Leases.{lease_rules_of}
use Rattle.vip_config.specs.declared.parts.ConfigParts.{ConfigParts}
use Rattle.lease_spec.specs.Holders.{AllLeasable, OwnNumbers, OwnRanges}
use Rattle.lease_spec.specs.Lives.{AllCaused, Birth, EarlierIsGone, IsDying, IsGone, IsGranted, StandsOrGone}
use Rattle.lease_spec.specs.Once.{NothingTwice}
use Rattle.lease_spec.specs.Places.{Ascends, commands}
use Rattle.lease_spec.specs.Rises.{AllCurrent}
use Rattle.lease_spec.specs.Table.{history, story}
use Rattle.lease_spec.specs.Truths.{LivesInOrder, RowsTold}
use Rattle.lease_spec.specs.declared.effect.Effect.{Effect}
use Rattle.lease_spec.specs.declared.row.Row.{Row}
use Rattle.world_spec.specs.World.{World}
use Rattle.world_laws.specs.Log.{log}

-- all that the log's commands did, in order
abbrev pub done : ConfigParts → World → List Effect
done cfg w = history (lease_rules_of cfg) (commands (log w))

-- ---- of a number

-- it was born with this row
abbrev pub IsBorn : ConfigParts → World → ℕ → Row → Type 0
IsBorn cfg w n row = Birth (done cfg w) n row

abbrev pub WasGranted : ConfigParts → World → ℕ → Type 0
WasGranted cfg w n = IsGranted (done cfg w) n

-- its agent gave it back, or runs in a later boot
abbrev pub Dies : ConfigParts → World → ℕ → Type 0
Dies cfg w n = IsDying (done cfg w) n

abbrev pub HasEnded : ConfigParts → World → ℕ → Type 0
HasEnded cfg w n = IsGone (done cfg w) n

-- ---- of the log

-- What the lease table promises of every list of commands whose places rise, of the world's log.
pub record LivesAreInOrder (cfg : ConfigParts) (w : World) : Type 0 where
  pub places : Ascends (commands (log w))
  pub caused : AllCaused (lease_rules_of cfg) (commands (log w))
  pub told : RowsTold (lease_rules_of cfg) (commands (log w))
  pub order : LivesInOrder (lease_rules_of cfg) (commands (log w))
  pub once : NothingTwice (lease_rules_of cfg) (commands (log w))
  pub stands : StandsOrGone (lease_rules_of cfg) (commands (log w))
  pub ends : EarlierIsGone (lease_rules_of cfg) (commands (log w))
  pub numbers : OwnNumbers (story (lease_rules_of cfg) (commands (log w))).leases.rows
  pub ranges : OwnRanges (story (lease_rules_of cfg) (commands (log w))).leases.rows
  pub leasable : AllLeasable (lease_rules_of cfg) (story (lease_rules_of cfg) (commands (log w))).leases.rows
  pub current : AllCurrent (lease_rules_of cfg) (commands (log w))

-- ---- from one world to a later one

-- what was done stays done: a number that was born, granted, dying or gone is so for ever
pub record LivesGoOn (cfg : ConfigParts) (w u : World) : Type 0 where
  pub more : List Effect
  pub is : done cfg u ≡ done cfg w ++ more
  pub born : (n : ℕ) (row : Row) → IsBorn cfg w n row → IsBorn cfg u n row
  pub granted : (n : ℕ) → WasGranted cfg w n → WasGranted cfg u n
  pub dies : (n : ℕ) → Dies cfg w n → Dies cfg u n
  pub ended : (n : ℕ) → HasEnded cfg w n → HasEnded cfg u n
