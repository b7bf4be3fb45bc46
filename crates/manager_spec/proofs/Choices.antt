-- Facts of what a test chooses.
use Rattle.std.proofs.Common.{◌≡◌, refl, true, false, Bool}
use Rattle.std.specs.Prelude.{if◌then◌else◌}

pub by_if : {X : Type 0} (P : X → Type 0) (b : Bool) {x y : X}
    → (b ≡ true → P x) → (b ≡ false → P y) → P (if b then x else y)
by_if P true f g = f refl
by_if P false f g = g refl

-- two choices by one test
pub by_both : {X Y : Type 0} (P : X → Y → Type 0) (b : Bool) {x y : X} {u v : Y}
    → (b ≡ true → P x u) → (b ≡ false → P y v) → P (if b then x else y) (if b then u else v)
by_both P true f g = f refl
by_both P false f g = g refl
