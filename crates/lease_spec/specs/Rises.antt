-- What only rises: the boot that is known of an agent, and the pair of a machine's last request.
use Rattle.std.specs.Prelude.{ℕ, ◌≡◌, ◌⊎◌, ◌<◌, ◌≤◌, List, ◌++◌, Option, Some}
use Rattle.wire_core.specs.declared.address.Ip4.{Ip4}
use Rattle.wire_core.specs.declared.rules.LeaseRules.{LeaseRules}
use Rattle.wire_core.specs.Members.{Each}
use Rattle.lease_spec.specs.declared.row.Row.{Row}
use Rattle.lease_spec.specs.declared.row.Phase.TheVariants.{Freeing}
use Rattle.lease_spec.specs.declared.effect.Effect.{Effect}
use Rattle.lease_spec.specs.declared.effect.Effect.TheVariants as effect
use Rattle.lease_spec.specs.Places.{Placed}
use Rattle.lease_spec.specs.Table.{Last, Leases, story, history, known_boot, last_of}

-- a pair of boot and number is before another one
abbrev pub IsBefore : ℕ → ℕ → ℕ → ℕ → Type 0
IsBefore boot seq boot2 seq2 = (boot < boot2) ⊎ ((boot ≡ boot2) × (seq < seq2))

-- a machine's last request is the same one, or one with a later pair
pub record LastRises (after : Leases) (machine : Ip4) (was : Last) : Type 0 where
  pub now : Last
  pub there : last_of after.lasts machine ≡ Some now
  pub later : (now ≡ was) ⊎ IsBefore was.boot was.seq now.boot now.seq

-- From one table to a later one each known boot rises or stays, and each machine's last request does.
pub record Rises (before after : Leases) : Type 0 where
  pub boots : (agent : ℕ) → known_boot before.known agent ≤ known_boot after.known agent
  pub lasts : (machine : Ip4) (was : Last) → last_of before.lasts machine ≡ Some was → LastRises after machine was

-- so it is with each list of commands and a longer one
abbrev pub AlwaysRises : LeaseRules → List Placed → List Placed → Type 0
AlwaysRises rules cs ds = Rises (story rules cs).leases (story rules (cs ++ ds)).leases

-- the pair isn't later than that of the machine's last request
pub record IsKept (t : Leases) (machine : Ip4) (boot seq : ℕ) : Type 0 where
  pub last : Last
  pub there : last_of t.lasts machine ≡ Some last
  pub late : ((last.boot ≡ boot) × (last.seq ≡ seq)) ⊎ IsBefore boot seq last.boot last.seq

-- What the table keeps of an effect: of a request its pair, or a later one; of a boot the boot, or a higher one.
abbrev pub Keeps : Leases → Effect → Type 0
Keeps t (effect.Reserved row) = IsKept t row.machine row.boot row.seq × (row.boot ≤ known_boot t.known row.agent)
Keeps t (effect.Exhausted machine boot seq place) = IsKept t machine boot seq
Keeps t (effect.AtLimit machine boot seq count) = IsKept t machine boot seq
Keeps t (effect.Granted row) = Unit {0}
Keeps t (effect.Released row) = Unit {0}
Keeps t (effect.Freed row) = Unit {0}
Keeps t (effect.Known agent boot) = boot ≤ known_boot t.known agent
Keeps t (effect.Cleared row) = row.boot < known_boot t.known row.agent

abbrev pub AllKept : LeaseRules → List Placed → Type 0
AllKept rules cs = Each (Keeps (story rules cs).leases) (history rules cs)

-- a lease that isn't Freeing is of the boot that is known of its agent
abbrev pub IsCurrent : Leases → Row → Type 0
IsCurrent t row = (row.phase ≡ Freeing) ⊎ (row.boot ≡ known_boot t.known row.agent)

abbrev pub AllCurrent : LeaseRules → List Placed → Type 0
AllCurrent rules cs = Each (IsCurrent (story rules cs).leases) (story rules cs).leases.rows
