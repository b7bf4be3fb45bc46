-- An edit of a row leaves which ranges have an entry.
use Rattle.std.proofs.Common.{◌≡◌, ℕ, Bool, true, false, List, [], ◌∷◌, is_some, refl, arith, if◌then◌else◌}
use Rattle.std.specs.Map.{lookup, set_value}
use Rattle.wire_core.specs.declared.range.Range.{Range}
use Rattle.wire_core.specs.Same.{same_range}
use Rattle.mux_spec.specs.declared.row.Kept.{Kept}
use Rattle.mux_spec.specs.Rows.{Rows, row_at, set_row}

shown : (s r : Range) (k : Kept) (rows : Rows)
    → is_some (lookup (same_range r) (set_value (same_range s) rows k)) ≡ is_some (lookup (same_range r) rows)
shown s r k [] = refl
shown s r k (e ∷ rows) = grind (arith, shown s r k rows)

set_shows : (s r : Range) (k : Kept) (rows : Rows) → is_some (row_at (set_row rows s k) r) ≡ is_some (row_at rows r)
unfolding row_at set_row
set_shows s r k rows = shown s r k rows

-- whether the row is set or not
pub either_shows : (b : Bool) (s r : Range) (k : Kept) (rows : Rows)
    → is_some (row_at (if b then set_row rows s k else rows) r) ≡ is_some (row_at rows r)
either_shows true s r k rows = set_shows s r k rows
either_shows false s r k rows = refl
