-- Flags, one for each start of a VIP, and a summary of them by blocks.
use Rattle.std.specs.Prelude.{◌≡◌, ◌<◌, ◌≤◌, ℕ, ◌+◌, ◌*◌, Bool, List, [], ◌∷◌, length, take, drop, Option, Some, None, if◌then◌else◌}
use Rattle.std.specs.List.{list_any}

-- where the first flag is that is set, the first at this place and each so much further than the one before
abbrev pub first_flag : ℕ → ℕ → List Bool → Option ℕ
first_flag step place [] = None
first_flag step place (flag ∷ flags) = if flag then Some place else first_flag step (place + step) flags

-- some flag is set
abbrev pub any_set : List Bool → Bool
any_set flags = list_any (λ flag. flag) flags

-- the flags in blocks of one size, and of each block whether some flag in it is set
abbrev pub Summarizes : ℕ → List Bool → List Bool → Type 0
Summarizes size [] flags = flags ≡ []
Summarizes size (block ∷ blocks) flags = (block ≡ any_set (take size flags)) × Summarizes size blocks (drop size flags)

-- blocks of 64 flags
pub record IsSummary (blocks flags : List Bool) : Type 0 where
  pub sums : Summarizes 64 blocks flags
  pub few : length blocks ≤ 128

-- The search of the blocks ends at the place t, where the search of the flags goes on.
pub record IsFound (flags : List Bool) (place t : ℕ) : Type 0 where
  pub index : ℕ
  pub at : t ≡ place + 8 * index
  pub within : index < length flags
  pub same : first_flag 8 place flags ≡ first_flag 8 t (drop index flags)
