-- The rows of the live entries, after an edit of the entries, and what is found among them.
use Rattle.std.proofs.Common.{◌≡◌, ◌≢◌, ℕ, zero, suc, ◌+◌, ◌<◌, ◌≤◌, ◌==◌, true, not, List, [], ◌∷◌, ◌++◌, map, filter, find, length, get_or, drop, Option, Some, None, if◌then◌else◌, refl, arith}
use Rattle.std.proofs.lemmas.Bool.Decides.{nat_tests}
use Rattle.lease_spec.specs.declared.row.Row.{Row}
use Rattle.lease_spec.specs.declared.row.Phase.{Phase}
use Rattle.lease_spec.specs.Table.{at_phase, move, row_at}
use Rattle.lease_rows.specs.declared.entries.Entry.{Entry}
use Rattle.lease_rows.specs.Entries.{AllAbove, Ascend, SplitsAt, HasAt, Lacks, at_number, dead, live_rows, row_of, with_row}
use Rattle.lease_rows.specs.Effects.{boot_effects, cleared_effects}
use Rattle.lease_rows.specs.Walks.{row_above}
use Rattle.lease_rows.proofs.Places.{above_at}

-- ---- what is found

none_above : (n m : ℕ) (es : List Entry) → n ≤ m → AllAbove m es → row_at (live_rows es) n ≡ None
none_above n m [] le h = refl
none_above n m (e ∷ es) le h = grind (arith, nat_tests, none_above n m es le h.1, h.0)

pub row_at-lacks : (n : ℕ) (es : List Entry) → Lacks n es → row_at (live_rows es) n ≡ None
row_at-lacks n [] h = refl
row_at-lacks n (e ∷ es) h =
    let rest : row_at (live_rows es) n ≡ None = row_at-lacks n es (λ k d within. h (suc k) d (omega arith)) in
    let other : e.row.n ≢ n = h zero e (omega arith) in
    grind (arith, nat_tests, rest, other)

abbrev pub live_row : Entry → Option Row
live_row e = if e.live then Some e.row else None

pub row_at-has : (n : ℕ) (es : List Entry) (i : ℕ) (d : Entry) → Ascend es → HasAt n es i → row_at (live_rows es) n ≡ live_row (get_or es i d)
row_at-has n [] i d h at = absurd (let w : i < 0 = at.within in omega arith)
row_at-has n (e ∷ es) zero d h at =
    let same : e.row.n ≡ n = at.number d in
    let rest : row_at (live_rows es) n ≡ None = none_above n e.row.n es (omega arith) h.0 in
    grind (arith, nat_tests, same, rest)
row_at-has n (e ∷ es) (suc i) d h at =
    let w : suc i < length (e ∷ es) = at.within in
    let rest : row_at (live_rows es) n ≡ live_row (get_or es i d) = row_at-has n es i d h.1 (record { within = omega arith; number = at.number }) in
    let above : e.row.n < (get_or es i d).row.n = above_at e.row.n es i d h.0 (omega arith) in
    let same : (get_or es i d).row.n ≡ n = at.number d in
    let other : e.row.n ≢ n = λ p. omega arith in
    grind (arith, nat_tests, rest, other)

live_found : (n : ℕ) (es : List Entry) → ((k : ℕ) (d : Entry) → k < length es → n < (get_or es k d).row.n) → row_above (live_rows es) n ≡ row_of (find (λ e. e.live) es)
live_found n [] h = refl
live_found n (e ∷ es) h =
    let rest : row_above (live_rows es) n ≡ row_of (find (λ e. e.live) es) = live_found n es (λ k d within. h (suc k) d (omega arith)) in
    let above : n < e.row.n = h zero e (omega arith) in
    grind (arith, nat_tests, rest, above)

-- the first live entry past those up to n
pub row_above-split : (n : ℕ) (es : List Entry) (i : ℕ) → SplitsAt (n + 1) es i → row_above (live_rows es) n ≡ row_of (find (λ e. e.live) (drop i es))
row_above-split n es zero split = live_found n es (λ k d within. let p : n + 1 ≤ (get_or es k d).row.n = split.back k d (omega arith) within in omega arith)
row_above-split n [] (suc i) split = absurd (let w : suc i ≤ 0 = split.within in omega arith)
row_above-split n (e ∷ es) (suc i) split =
    let w : suc i ≤ length (e ∷ es) = split.within in
    let rest : row_above (live_rows es) n ≡ row_of (find (λ e. e.live) (drop i es)) = row_above-split n es i (record {
      within = omega arith;
      front = λ k d less. split.front (suc k) d (omega arith);
      back = λ k d from to. split.back (suc k) d (omega arith) (omega arith);
    }) in
    let here : e.row.n < n + 1 = split.front zero e (omega arith) in
    grind (arith, nat_tests, rest, here)

-- ---- what an edit leaves

pub live_rows-move : (n : ℕ) (phase : Phase) (es : List Entry) → live_rows (map (at_number n (with_row (at_phase phase))) es) ≡ move n phase (live_rows es)
live_rows-move n phase [] = refl
live_rows-move n phase (e ∷ es) = grind (arith, nat_tests, live_rows-move n phase es)

pub live_rows-bury : (n : ℕ) (es : List Entry) → live_rows (map (at_number n dead) es) ≡ filter (λ row. not (row.n == n)) (live_rows es)
live_rows-bury n [] = refl
live_rows-bury n (e ∷ es) = grind (arith, nat_tests, live_rows-bury n es)

pub live_rows-with : (f : Row → Row) (es : List Entry) → live_rows (map (with_row f) es) ≡ map f (live_rows es)
live_rows-with f [] = refl
live_rows-with f (e ∷ es) = grind (arith, live_rows-with f es)

pub live_rows-push : (es : List Entry) (row : Row) → live_rows (es ++ record { row = row; live = true } ∷ []) ≡ live_rows es ++ row ∷ []
live_rows-push [] row = refl
live_rows-push (e ∷ es) row = grind (arith, live_rows-push es row)

pub live_rows-filter : (es : List Entry) → live_rows (filter (λ e. e.live) es) ≡ live_rows es
live_rows-filter [] = refl
live_rows-filter (e ∷ es) = grind (arith, live_rows-filter es)

-- what a raised boot does to the entries is what it does to their rows
pub cleared_effects-live : (agent boot : ℕ) (es : List Entry) → cleared_effects agent boot es ≡ boot_effects agent boot (live_rows es)
cleared_effects-live agent boot [] = refl
cleared_effects-live agent boot (e ∷ es) = grind (arith, cleared_effects-live agent boot es)
