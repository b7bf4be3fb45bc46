-- Bytes of a pick laid over others.
use Rattle.std.specs.Prelude.{◌≡◌, ◌<◌, ℕ, Bool, ◌&&◌, List, length, get_or, nat_le, nat_lt, if◌then◌else◌}
use Rattle.std.specs.List.{list_any}
use Rattle.outside_io.specs.Disk.{is_in}
use Rattle.outside_io.specs.declared.disk.Span.{Span}

-- new is old with the pick's bytes at the places that pass, 0 past the pick's end
pub record IsLaid (passes : ℕ → Bool) (pick old new : List ℕ) : Type 0 where
  pub room : length new ≡ length old
  pub byte : (i : ℕ) → i < length old → get_or new i 0 ≡ (if passes i then get_or pick i 0 else get_or old i 0)

-- at the places from the first number to before the second
abbrev pub IsOverlaid : ℕ → ℕ → List ℕ → List ℕ → List ℕ → Type 0
IsOverlaid from to pick old new = IsLaid (λ i. nat_le from i && nat_lt i to) pick old new

-- at the places of the ranges
abbrev pub AreOverlaid : List Span → List ℕ → List ℕ → List ℕ → Type 0
AreOverlaid ranges pick old new = IsLaid (λ i. list_any (is_in i) ranges) pick old new
