-- Rows that pass a test, one after the other by number.
use Rattle.std.proofs.Common.{◌≡◌, ℕ, zero, suc, ◌+◌, ◌<◌, ◌≤◌, Bool, true, false, ◌&&◌, cond, List, [], ◌∷◌, filter, find, length, get_or, drop, Option, Some, None, IfSome, nat_lt, refl, ap, sym, ◌∙◌, arith}
use Rattle.std.proofs.lemmas.Bool.Decides.{nat_tests}
use Rattle.lease_spec.specs.declared.row.Row.{Row}
use Rattle.lease_rows.specs.declared.entries.Entry.{Entry}
use Rattle.lease_rows.specs.Entries.{RowsAbove, RowsAscend, SplitsAt, live_rows, row_of}
use Rattle.lease_rows.specs.Walks.{onward_all, row_above, rows_above}

-- what is found is one of the rows
found_above : (k : ℕ) (p : Row → Bool) (rows : List Row) → RowsAbove k rows → IfSome (find p rows) (λ r. k < r.n)
found_above k p [] h = tt
found_above k p (row ∷ rows) h =
    let rest : IfSome (find p rows) (λ r. k < r.n) = found_above k p rows h.1 in
    elim (p row) as (λ (b : Bool). IfSome (cond b (Some row) (find p rows)) (λ r. k < r.n)) [ true ↦ h.0 | false ↦ rest ]

module _ (q : Row → Bool) where
  -- the first that passes above a number
  abbrev pub next_passing : List Row → ℕ → Option Row
  next_passing rows n = find (λ row. nat_lt n row.n && q row) rows

  -- those that pass above a number
  abbrev pub passing : List Row → ℕ → List Row
  passing rows n = filter (λ row. nat_lt n row.n && q row) rows

  abbrev pub onward_passing : List Row → Option Row → List Row
  onward_passing rows None = []
  onward_passing rows (Some row) = row ∷ passing rows row.n

  -- ---- the next one, among the entries

  live_found : (n : ℕ) (es : List Entry) → ((k : ℕ) (d : Entry) → k < length es → n < (get_or es k d).row.n)
      → next_passing (live_rows es) n ≡ row_of (find (λ e. e.live && q e.row) es)
  live_found n [] h = refl
  live_found n (e ∷ es) h =
      let rest : next_passing (live_rows es) n ≡ row_of (find (λ e. e.live && q e.row) es) = live_found n es (λ k d within. h (suc k) d (omega arith)) in
      let above : n < e.row.n = h zero e (omega arith) in
      grind (arith, nat_tests, rest, above)

  -- the first live entry that passes past those up to n
  pub next_passing-split : (n : ℕ) (es : List Entry) (i : ℕ) → SplitsAt (n + 1) es i
      → next_passing (live_rows es) n ≡ row_of (find (λ e. e.live && q e.row) (drop i es))
  next_passing-split n es zero split =
      live_found n es (λ k d within. let p : n + 1 ≤ (get_or es k d).row.n = split.back k d (omega arith) within in omega arith)
  next_passing-split n [] (suc i) split = absurd (let w : suc i ≤ 0 = split.within in omega arith)
  next_passing-split n (e ∷ es) (suc i) split =
      let w : suc i ≤ length (e ∷ es) = split.within in
      let rest : next_passing (live_rows es) n ≡ row_of (find (λ e. e.live && q e.row) (drop i es)) = next_passing-split n es i (record {
        within = omega arith;
        front = λ k d less. split.front (suc k) d (omega arith);
        back = λ k d from to. split.back (suc k) d (omega arith) (omega arith);
      }) in
      let here : e.row.n < n + 1 = split.front zero e (omega arith) in
      grind (arith, nat_tests, rest, here)

  -- ---- the next one and those after it

  abbrev all_passing : List Row → List Row
  all_passing rows = filter q rows

  -- where all numbers are above n, the test alone tells
  all_of : (k n : ℕ) (rows : List Row) → n ≤ k → RowsAbove k rows → passing rows n ≡ all_passing rows
  all_of k n [] le h = refl
  all_of k n (row ∷ rows) le h = grind (arith, nat_tests, all_of k n rows le h.1, h.0, le)

  -- rows up to the one found don't follow it
  onward_past : (row : Row) (rows : List Row) (found : Option Row) → IfSome found (λ r. row.n < r.n)
      → onward_passing (row ∷ rows) found ≡ onward_passing rows found
  onward_past row rows None h = refl
  onward_past row rows (Some r) h = let later : row.n < r.n = h in grind (arith, nat_tests, later)

  onward_step : (row : Row) (rows : List Row) (n : ℕ) → RowsAbove row.n rows → passing rows n ≡ onward_passing rows (next_passing rows n)
      → passing (row ∷ rows) n ≡ onward_passing (row ∷ rows) (next_passing (row ∷ rows) n)
  onward_step row rows n h rest = by (nat_lt n row.n && q row) refl
    where
      by : (b : Bool) → (nat_lt n row.n && q row) ≡ b → passing (row ∷ rows) n ≡ onward_passing (row ∷ rows) (next_passing (row ∷ rows) n)
      by true e =
          let above : n < row.n = grind (arith, nat_tests, e) in
          let here : passing rows n ≡ all_passing rows = all_of row.n n rows (omega arith) h in
          let after : passing rows row.n ≡ all_passing rows = all_of row.n row.n rows (omega arith) h in
          grind (arith, nat_tests, e, here, after)
      by false e =
          let past = onward_past row rows (next_passing rows n) (found_above row.n (λ r. nat_lt n r.n && q r) rows h) in
          rw e (rest ∙ sym past)

  pub onward_is : (rows : List Row) → RowsAscend rows → (n : ℕ) → passing rows n ≡ onward_passing rows (next_passing rows n)
  onward_is [] h n = refl
  onward_is (row ∷ rows) h n = onward_step row rows n h.0 (onward_is rows h.1 n)

-- ---- all rows

passing_all : (rows : List Row) (n : ℕ) → rows_above rows n ≡ passing (λ row. true) rows n
passing_all [] n = refl
passing_all (row ∷ rows) n = grind (arith, passing_all rows n)

next_all : (rows : List Row) (n : ℕ) → row_above rows n ≡ next_passing (λ row. true) rows n
next_all [] n = refl
next_all (row ∷ rows) n = grind (arith, next_all rows n)

onward_every : (rows : List Row) (o : Option Row) → onward_all rows o ≡ onward_passing (λ row. true) rows o
onward_every rows None = refl
onward_every rows (Some row) = ap (λ more. row ∷ more) (passing_all rows row.n)

pub onward_above : (rows : List Row) → RowsAscend rows → (n : ℕ) → rows_above rows n ≡ onward_all rows (row_above rows n)
onward_above rows h n =
    passing_all rows n ∙ onward_is (λ row. true) rows h n ∙ sym (ap (onward_all rows) (next_all rows n) ∙ onward_every rows (next_passing (λ row. true) rows n))
