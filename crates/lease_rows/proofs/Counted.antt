-- Ascending numbers, the least number above them, and the count of live entries, after each edit.
use Rattle.std.proofs.Common.{◌≡◌, ℕ, ◌+◌, ◌-◌, ◌^◌, ◌<◌, ◌≤◌, ◌==◌, Bool, true, false, not, cond, max, List, [], ◌∷◌, ◌++◌, map, filter, length, IsSome, if◌then◌else◌, refl, ap, sym, ◌∙◌, subst, arith, true≢false, length-append}
use Rattle.std.proofs.lemmas.Bool.Decides.{nat_tests}
use Rattle.std.proofs.lemmas.List.{length-map}
use Rattle.lease_spec.specs.declared.row.Row.{Row}
use Rattle.lease_spec.specs.declared.row.Phase.{Phase}
use Rattle.lease_spec.specs.Table.{at_phase, cleared, row_at}
use Rattle.lease_rows.specs.declared.entries.Entry.{Entry}
use Rattle.lease_rows.specs.Entries.{AllAbove, Ascend, InOrder, IsCounted, RowsAbove, RowsAscend, RowsBelow, at_number, dead, live_rows, next_number, with_row}
use Rattle.lease_rows.proofs.LiveRows.{live_rows-bury, live_rows-filter, live_rows-move, live_rows-push, live_rows-with}

-- ---- the rows of ascending entries ascend

above_weaken : (m n : ℕ) (es : List Entry) → m ≤ n → AllAbove n es → AllAbove m es
above_weaken m n [] le h = tt
above_weaken m n (e ∷ es) le h = (let p : n < e.row.n = h.0 in omega arith, above_weaken m n es le h.1)

rows_above : (n : ℕ) (es : List Entry) → AllAbove n es → RowsAbove n (live_rows es)
rows_above n [] h = tt
rows_above n (e ∷ es) h =
    let rest : RowsAbove n (live_rows es) = rows_above n es h.1 in
    elim e.live as (λ (b : Bool). RowsAbove n (if b then e.row ∷ live_rows es else live_rows es)) [ true ↦ (h.0, rest) | false ↦ rest ]

pub rows_ascend : (es : List Entry) → Ascend es → RowsAscend (live_rows es)
rows_ascend [] h = tt
rows_ascend (e ∷ es) h =
    let rest : RowsAscend (live_rows es) = rows_ascend es h.1 in
    elim e.live as (λ (b : Bool). RowsAscend (if b then e.row ∷ live_rows es else live_rows es)) [ true ↦ (rows_above e.row.n es h.0, rest) | false ↦ rest ]

-- ---- edits that keep numbers

module _ (f : Entry → Entry) (keeps : (e : Entry) → (f e).row.n ≡ e.row.n) where
  above_map : (n : ℕ) (es : List Entry) → AllAbove n es → AllAbove n (map f es)
  above_map n [] h = tt
  above_map n (e ∷ es) h = (subst (λ (k : ℕ). n < k) (sym (keeps e)) h.0, above_map n es h.1)

  pub ascend_map : (es : List Entry) → Ascend es → Ascend (map f es)
  ascend_map [] h = tt
  ascend_map (e ∷ es) h = (subst (λ (k : ℕ). AllAbove k (map f es)) (sym (keeps e)) (above_map e.row.n es h.0), ascend_map es h.1)

  pub next_map : (es : List Entry) → next_number (map f es) ≡ next_number es
  next_map [] = refl
  next_map (e ∷ es) = rw (keeps e, next_map es) refl

keeps_at : (n : ℕ) (f : Entry → Entry) → ((e : Entry) → (f e).row.n ≡ e.row.n) → (e : Entry) → (at_number n f e).row.n ≡ e.row.n
keeps_at n f keeps e = grind (arith, keeps e)

-- ---- a phase

pub ascend-phase : (n : ℕ) (phase : Phase) (es : List Entry) → Ascend es → Ascend (map (at_number n (with_row (at_phase phase))) es)
ascend-phase n phase es h = ascend_map (at_number n (with_row (at_phase phase))) (keeps_at n (with_row (at_phase phase)) (λ e. refl)) es h

pub next-phase : (n : ℕ) (phase : Phase) (es : List Entry) → next_number (map (at_number n (with_row (at_phase phase))) es) ≡ next_number es
next-phase n phase es = next_map (at_number n (with_row (at_phase phase))) (keeps_at n (with_row (at_phase phase)) (λ e. refl)) es

pub counted-phase : (n : ℕ) (phase : Phase) (es : List Entry) (live : ℕ) → IsCounted es live → IsCounted (map (at_number n (with_row (at_phase phase))) es) live
counted-phase n phase es live h = record {
  ascend = ascend-phase n phase es h.ascend;
  count = h.count ∙ sym (ap length (live_rows-move n phase es) ∙ length-map (live_rows es) _);
  small = rw (length-map es (at_number n (with_row (at_phase phase)))) h.small;
}

-- ---- a raised boot

keeps_cleared : (agent boot : ℕ) (e : Entry) → (with_row (cleared agent boot) e).row.n ≡ e.row.n
keeps_cleared agent boot e = grind arith

pub next-cleared : (agent boot : ℕ) (es : List Entry) → next_number (map (with_row (cleared agent boot)) es) ≡ next_number es
next-cleared agent boot es = next_map (with_row (cleared agent boot)) (keeps_cleared agent boot) es

pub counted-cleared : (agent boot : ℕ) (es : List Entry) (live : ℕ) → IsCounted es live → IsCounted (map (with_row (cleared agent boot)) es) live
counted-cleared agent boot es live h = record {
  ascend = ascend_map (with_row (cleared agent boot)) (keeps_cleared agent boot) es h.ascend;
  count = h.count ∙ sym (ap length (live_rows-with (cleared agent boot) es) ∙ length-map (live_rows es) _);
  small = rw (length-map es (with_row (cleared agent boot))) h.small;
}

-- ---- one more

above_push : (m : ℕ) (es : List Entry) (e : Entry) → AllAbove m es → m < e.row.n → AllAbove m (es ++ e ∷ [])
above_push m [] e h more = (more, tt)
above_push m (x ∷ es) e h more = (h.0, above_push m es e h.1 more)

pub ascend-push : (es : List Entry) (e : Entry) → Ascend es → next_number es ≤ e.row.n → Ascend (es ++ e ∷ [])
ascend-push [] e h next = (tt, tt)
ascend-push (x ∷ es) e h next = (above_push x.row.n es e h.0 (omega arith), ascend-push es e h.1 (omega arith))

pub next-push : (es : List Entry) (e : Entry) → next_number es ≤ e.row.n → next_number (es ++ e ∷ []) ≡ e.row.n + 1
next-push [] e next = omega arith
next-push (x ∷ es) e next = let rest : next_number (es ++ e ∷ []) ≡ e.row.n + 1 = next-push es e (omega arith) in rw rest (omega arith)

pub counted-push : (es : List Entry) (row : Row) (live : ℕ) → IsCounted es live → next_number es ≤ row.n
    → length (es ++ record { row = row; live = true } ∷ []) < 2 ^ 63
    → IsCounted (es ++ record { row = row; live = true } ∷ []) (live + 1)
counted-push es row live h next small = record {
  ascend = ascend-push es (record { row = row; live = true }) h.ascend next;
  count = ap (λ (k : ℕ). k + 1) h.count ∙ sym (ap length (live_rows-push es row) ∙ length-append (live_rows es) (row ∷ []));
  small = small;
}

pub live-le-length : (es : List Entry) → length (live_rows es) ≤ length es
live-le-length [] = omega arith
live-le-length (e ∷ es) = grind (arith, live-le-length es)

-- ---- one less

all_other : (n m : ℕ) (rows : List Row) → n ≤ m → RowsAbove m rows → filter (λ row. not (row.n == n)) rows ≡ rows
all_other n m [] le h = refl
all_other n m (row ∷ rows) le h = grind (arith, nat_tests, all_other n m rows le h.1, h.0)

without_more : (n : ℕ) (row : Row) (rows : List Row) → RowsAscend (row ∷ rows) → IsSome (row_at (row ∷ rows) n)
    → (IsSome (row_at rows n) → length (filter (λ row. not (row.n == n)) rows) + 1 ≡ length rows)
    → length (filter (λ row. not (row.n == n)) (row ∷ rows)) + 1 ≡ length (row ∷ rows)
without_more n row rows h there more = by (row.n == n) refl
  where
    by : (b : Bool) → (row.n == n) ≡ b → length (filter (λ row. not (row.n == n)) (row ∷ rows)) + 1 ≡ length (row ∷ rows)
    by true e =
        let same : row.n ≡ n = grind (arith, nat_tests, e) in
        let rest : filter (λ row. not (row.n == n)) rows ≡ rows = all_other n row.n rows (omega arith) h.0 in
        grind (arith, nat_tests, rest, e)
    by false e =
        let in_rest : IsSome (row_at rows n) = rw e at there in
        let rest : length (filter (λ row. not (row.n == n)) rows) + 1 ≡ length rows = more in_rest in
        grind (arith, rest, e)

pub length-without : (n : ℕ) (rows : List Row) → RowsAscend rows → IsSome (row_at rows n) → length (filter (λ row. not (row.n == n)) rows) + 1 ≡ length rows
length-without n [] h there = absurd (true≢false (sym there))
length-without n (row ∷ rows) h there = without_more n row rows h there (length-without n rows h.1)

pub counted-bury : (n : ℕ) (es : List Entry) (live : ℕ) → IsCounted es live → IsSome (row_at (live_rows es) n) → IsCounted (map (at_number n dead) es) (live - 1)
counted-bury n es live h there = record {
  ascend = ascend_map (at_number n dead) (keeps_at n dead (λ e. refl)) es h.ascend;
  count =
      let fewer : length (filter (λ row. not (row.n == n)) (live_rows es)) + 1 ≡ length (live_rows es) = length-without n (live_rows es) (rows_ascend es h.ascend) there in
      let left : length (live_rows (map (at_number n dead) es)) ≡ length (filter (λ row. not (row.n == n)) (live_rows es)) = ap length (live_rows-bury n es) in
      let was : live ≡ length (live_rows es) = h.count in
      omega arith;
  small = rw (length-map es (at_number n dead)) h.small;
}

pub next-bury : (n : ℕ) (es : List Entry) → next_number (map (at_number n dead) es) ≡ next_number es
next-bury n es = next_map (at_number n dead) (keeps_at n dead (λ e. refl)) es

-- ---- entries without a row leave

above_filter : (n : ℕ) (es : List Entry) → AllAbove n es → AllAbove n (filter (λ e. e.live) es)
above_filter n [] h = tt
above_filter n (e ∷ es) h =
    let rest : AllAbove n (filter (λ e. e.live) es) = above_filter n es h.1 in
    elim e.live as (λ (b : Bool). AllAbove n (cond b (e ∷ filter (λ e. e.live) es) (filter (λ e. e.live) es))) [ true ↦ (h.0, rest) | false ↦ rest ]

ascend_filter : (es : List Entry) → Ascend es → Ascend (filter (λ e. e.live) es)
ascend_filter [] h = tt
ascend_filter (e ∷ es) h =
    let rest : Ascend (filter (λ e. e.live) es) = ascend_filter es h.1 in
    elim e.live as (λ (b : Bool). Ascend (cond b (e ∷ filter (λ e. e.live) es) (filter (λ e. e.live) es))) [ true ↦ (above_filter e.row.n es h.0, rest) | false ↦ rest ]

pub next-compact : (es : List Entry) → next_number (filter (λ e. e.live) es) ≤ next_number es
next-compact [] = omega arith
next-compact (e ∷ es) =
    let rest : next_number (filter (λ e. e.live) es) ≤ next_number es = next-compact es in
    elim e.live as (λ (b : Bool). next_number (cond b (e ∷ filter (λ e. e.live) es) (filter (λ e. e.live) es)) ≤ max (e.row.n + 1) (next_number es)) [ true ↦ omega arith | false ↦ omega arith ]

fewer_live : (es : List Entry) → length (filter (λ e. e.live) es) ≤ length es
fewer_live [] = omega arith
fewer_live (e ∷ es) = grind (arith, fewer_live es)

pub counted-compact : (es : List Entry) (live : ℕ) → IsCounted es live → IsCounted (filter (λ e. e.live) es) live
counted-compact es live h = record {
  ascend = ascend_filter es h.ascend;
  count = h.count ∙ sym (ap length (live_rows-filter es));
  small = let fewer = fewer_live es in let small = h.small in omega (arith, fewer, small);
}

-- ---- the rows are in order

pub below_weaken : (m n : ℕ) (rows : List Row) → m ≤ n → RowsBelow m rows → RowsBelow n rows
below_weaken m n [] le h = tt
below_weaken m n (row ∷ rows) le h = (let p : row.n < m = h.0 in omega arith, below_weaken m n rows le h.1)

rows_below : (es : List Entry) → RowsBelow (next_number es) (live_rows es)
rows_below [] = tt
rows_below (e ∷ es) =
    let rest : RowsBelow (next_number (e ∷ es)) (live_rows es) = below_weaken (next_number es) (next_number (e ∷ es)) (live_rows es) (omega arith) (rows_below es) in
    elim e.live as (λ (b : Bool). RowsBelow (next_number (e ∷ es)) (if b then e.row ∷ live_rows es else live_rows es)) [ true ↦ (omega arith, rest) | false ↦ rest ]

pub rows_in_order : (es : List Entry) → Ascend es → InOrder (live_rows es) (next_number es)
rows_in_order es h = record { ascend = rows_ascend es h; below = rows_below es }
