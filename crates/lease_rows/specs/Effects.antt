-- The effects that were told so far.
use Rattle.std.specs.Prelude.{◌≡◌, ℕ, ◌+◌, ◌≤◌, ◌&&◌, List, [], ◌∷◌, ◌++◌, length, map, filter, if◌then◌else◌}
use Rattle.lease_spec.specs.declared.row.Row.{Row}
use Rattle.lease_spec.specs.declared.row.Phase.TheVariants.{Freeing}
use Rattle.lease_spec.specs.declared.effect.Effect.{Effect}
use Rattle.lease_spec.specs.declared.effect.Effect.TheVariants as effect
use Rattle.lease_spec.specs.Table.{at_phase, is_stale}
use Rattle.lease_rows.specs.declared.entries.Entry.{Entry}

-- effects in order, and how many more fit without memory
pub record Told : Type 0 where
  pub effects : List Effect
  pub room : ℕ

-- so many more were told, in the room that was kept for them
pub record Adds (old new : Told) (more : List Effect) : Type 0 where
  pub effects : new.effects ≡ old.effects ++ more
  pub room : old.room ≤ new.room + length more

-- what a raised boot does to one entry
abbrev pub cleared_row_effects : ℕ → ℕ → Entry → List Effect
cleared_row_effects agent boot e =
    if e.live && is_stale agent boot e.row
    then effect.Cleared (at_phase Freeing e.row) ∷ []
    else []

-- and to all of them, in order
abbrev pub cleared_effects : ℕ → ℕ → List Entry → List Effect
cleared_effects agent boot [] = []
cleared_effects agent boot (e ∷ es) = cleared_row_effects agent boot e ++ cleared_effects agent boot es

-- what a raised boot does to the agent's rows
abbrev pub boot_effects : ℕ → ℕ → List Row → List Effect
boot_effects agent boot rows = map (λ row. effect.Cleared (at_phase Freeing row)) (filter (is_stale agent boot) rows)
