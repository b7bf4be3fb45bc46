-- Nothing comes back: a number is born once, granted once, given back or cleared once, and gone once, in this order.
use Rattle.std.specs.Prelude.{ℕ, ◌<◌, List, [], ◌∷◌, ◌++◌}
use Rattle.wire_core.specs.declared.rules.LeaseRules.{LeaseRules}
use Rattle.wire_core.specs.Members.{Each}
use Rattle.lease_spec.specs.declared.effect.Effect.{Effect}
use Rattle.lease_spec.specs.declared.effect.Effect.TheVariants as effect
use Rattle.lease_spec.specs.Places.{Placed}
use Rattle.lease_spec.specs.Table.{history}
use Rattle.lease_spec.specs.Lives.{IsGranted, IsDying, IsGone}

-- an effect on a lease is on one with a number below this one
abbrev pub IsOnBelow : ℕ → Effect → Type 0
IsOnBelow n (effect.Reserved row) = row.n < n
IsOnBelow n (effect.Exhausted machine boot seq place) = Unit {0}
IsOnBelow n (effect.AtLimit machine boot seq count) = Unit {0}
IsOnBelow n (effect.Granted row) = row.n < n
IsOnBelow n (effect.Released row) = row.n < n
IsOnBelow n (effect.Freed row) = row.n < n
IsOnBelow n (effect.Known agent boot) = Unit {0}
IsOnBelow n (effect.Cleared row) = row.n < n

-- What must not have been done before an effect: before a birth nothing on its number or a greater one; a lease isn't
-- granted that was granted or is dying, isn't given back or cleared that is dying, and isn't gone that is gone.
abbrev pub NotYet : List Effect → Effect → Type 0
NotYet es (effect.Reserved row) = Each (IsOnBelow row.n) es
NotYet es (effect.Exhausted machine boot seq place) = Unit {0}
NotYet es (effect.AtLimit machine boot seq count) = Unit {0}
NotYet es (effect.Granted row) = (IsGranted es row.n → ⊥) × (IsDying es row.n → ⊥)
NotYet es (effect.Released row) = IsDying es row.n → ⊥
NotYet es (effect.Freed row) = IsGone es row.n → ⊥
NotYet es (effect.Known agent boot) = Unit {0}
NotYet es (effect.Cleared row) = IsDying es row.n → ⊥

-- each effect is new after those before it
abbrev pub AllNew : List Effect → List Effect → Type 0
AllNew done [] = Unit {0}
AllNew done (e ∷ es) = NotYet done e × AllNew (done ++ e ∷ []) es

abbrev pub NothingTwice : LeaseRules → List Placed → Type 0
NothingTwice rules cs = AllNew [] (history rules cs)
