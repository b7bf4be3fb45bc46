-- A machine's rows, and the rows in a phase, one after the other by number.
use Rattle.std.proofs.Common.{◌≡◌, ℕ, ◌==◌, ◌&&◌, List, [], ◌∷◌, Option, Some, None, nat_lt, refl, ap, sym, ◌∙◌, arith}
use Rattle.wire_core.specs.declared.address.Ip4.{Ip4}
use Rattle.lease_spec.specs.declared.row.Phase.{Phase}
use Rattle.lease_spec.specs.declared.row.Row.{Row}
use Rattle.lease_spec.specs.Table.{row_at}
use Rattle.lease_rows.specs.Entries.{RowsAscend}
use Rattle.lease_rows.specs.Links.{number_after, numbers_of}
use Rattle.lease_rows.specs.Rows.{number_of}
use Rattle.lease_rows.specs.Walks.{in_phase, onward, onward_in, rows_in, rows_of}
use Rattle.lease_rows.proofs.Indexed.{found_at}
use Rattle.lease_rows.proofs.Walks.{next_passing, onward_is, onward_passing}

-- ---- a machine

abbrev pub next_of : List Row → Ip4 → ℕ → Option Row
next_of rows m n = next_passing (λ row. row.machine.0 == m.0) rows n

onward_machine : (rows : List Row) (m : Ip4) (o : Option Row) → onward rows m o ≡ onward_passing (λ row. row.machine.0 == m.0) rows o
onward_machine rows m None = refl
onward_machine rows m (Some row) = refl

pub onward_of : (rows : List Row) → RowsAscend rows → (m : Ip4) (n : ℕ) → rows_of rows m n ≡ onward rows m (next_of rows m n)
onward_of rows h m n = onward_is (λ row. row.machine.0 == m.0) rows h n ∙ sym (onward_machine rows m (next_of rows m n))

-- ---- a phase

abbrev pub next_phased : List Row → Phase → ℕ → Option Row
next_phased rows phase n = next_passing (in_phase phase) rows n

onward_phase : (rows : List Row) (phase : Phase) (o : Option Row) → onward_in rows phase o ≡ onward_passing (in_phase phase) rows o
onward_phase rows phase None = refl
onward_phase rows phase (Some row) = refl

pub onward_phased : (rows : List Row) → RowsAscend rows → (phase : Phase) (n : ℕ) → rows_in rows phase n ≡ onward_in rows phase (next_phased rows phase n)
onward_phased rows h phase n = onward_is (in_phase phase) rows h n ∙ sym (onward_phase rows phase (next_phased rows phase n))

-- ---- a machine's next row, by its number

number-next : (rows : List Row) (m : Ip4) (n : ℕ) → number_after (numbers_of rows m) n ≡ number_of (next_of rows m n)
number-next [] m n = refl
number-next (row ∷ rows) m n = grind (arith, number-next rows m n)

pub onward_none : (rows : List Row) (m : Ip4) (n : ℕ) → None ≡ number_after (numbers_of rows m) n → rows_of rows m n ≡ []
onward_none [] m n h = refl
onward_none (row ∷ rows) m n h = grind (arith, onward_none rows m n, h)

pub onward_some : (rows : List Row) (m : Ip4) (n k : ℕ) → RowsAscend rows → Some k ≡ number_after (numbers_of rows m) n
    → rows_of rows m n ≡ onward rows m (row_at rows k)
onward_some rows m n k ascend h =
    onward_of rows ascend m n ∙ ap (onward rows m) (by (next_of rows m n) refl)
  where
    by : (o : Option Row) → next_of rows m n ≡ o → next_of rows m n ≡ row_at rows k
    by None e = let none = ap number_of (sym e) ∙ sym (number-next rows m n) ∙ sym h in absurd (cc)
    by (Some found) e =
        let number : found.n ≡ k = let some = ap number_of (sym e) ∙ sym (number-next rows m n) ∙ sym h in cc in
        e ∙ sym (found_at (λ row. nat_lt n row.n && (row.machine.0 == m.0)) rows found ascend e) ∙ ap (row_at rows) number
