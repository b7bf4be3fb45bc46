-- The indexes of the rows, after each edit of the rows.
use Rattle.std.proofs.Common.{◌≡◌, ℕ, ◌+◌, ◌-◌, ◌<◌, ◌≤◌, ◌==◌, Bool, true, false, not, ◌||◌, cond, List, [], ◌∷◌, ◌++◌, map, filter, find, count_by, Option, Some, None, is_some, unwrap_or, if◌then◌else◌, refl, ap, sym, ◌∙◌, subst, arith, ◌⊎◌, inl, inr, ⊎_elim}
use Rattle.std.specs.List.{list_any}
use Rattle.std.proofs.lemmas.List.Sums.{sum_by-cons, sum_by_push}
use Rattle.std.proofs.lemmas.Bool.{eq-eqb, eqb-true}
use Rattle.std.proofs.lemmas.Bool.Decides.{nat_tests}
use Rattle.wire_core.specs.declared.address.Ip4.{Ip4}
use Rattle.wire_core.specs.declared.range.Range.{Range}
use Rattle.lease_spec.specs.declared.row.Row.{Row}
use Rattle.lease_spec.specs.Free.{has_no_row, same_range}
use Rattle.lease_spec.specs.Table.{row_at, row_count}
use Rattle.lease_rows.specs.Entries.{RowsAbove, RowsAscend}
use Rattle.lease_rows.specs.Rows.{IsIndexed, number_of, same_address}
use Rattle.lease_rows.specs.Walks.{row_on}

-- ---- any test of rows

module _ (p : Row → Bool) where
  count-cons : (row : Row) (rows : List Row) → count_by p (row ∷ rows) ≡ cond (p row) 1 0 + count_by p rows
  count-cons row rows = sum_by-cons (λ x. cond (p x) 1 0) row rows

  pub count-push : (rows : List Row) (row : Row) → count_by p (rows ++ row ∷ []) ≡ count_by p rows + cond (p row) 1 0
  count-push rows row = sum_by_push (λ x. cond (p x) 1 0) rows row

  pub none_found : (rows : List Row) → not (list_any p rows) ≡ true → find p rows ≡ None
  none_found [] h = refl
  none_found (row ∷ rows) h = grind (arith, none_found rows, h)

  pub found_any : (rows : List Row) → is_some (number_of (find p rows)) ≡ list_any p rows
  found_any [] = refl
  found_any (row ∷ rows) = grind (arith, found_any rows)

  pub none_counted : (rows : List Row) → not (list_any p rows) ≡ true → count_by p rows ≡ 0
  none_counted [] h = refl
  none_counted (row ∷ rows) h = let step = count-cons row rows in grind (arith, step, none_counted rows, h)

  pub none_from_count : (rows : List Row) → count_by p rows ≡ 0 → not (list_any p rows) ≡ true
  none_from_count [] h = refl
  none_from_count (row ∷ rows) h = let step = count-cons row rows in grind (arith, step, none_from_count rows, h)

  pub any-push : (rows : List Row) (row : Row) → list_any p (rows ++ row ∷ []) ≡ (list_any p rows || p row)
  any-push [] row = grind arith
  any-push (x ∷ rows) row = grind (arith, any-push rows row)

  pub counted_one : (rows : List Row) (row : Row) → find p rows ≡ Some row → 1 ≤ count_by p rows
  counted_one [] row h = absurd (cc)
  counted_one (x ∷ rows) row h = let step = count-cons x rows in grind (arith, step, counted_one rows row, h)

  pub push_other : (rows : List Row) (row : Row) → p row ≡ false → find p (rows ++ row ∷ []) ≡ find p rows
  push_other [] row h = grind (arith, h)
  push_other (x ∷ rows) row h = grind (arith, push_other rows row h)

  pub push_here : (rows : List Row) (row : Row) → not (list_any p rows) ≡ true → p row ≡ true → find p (rows ++ row ∷ []) ≡ Some row
  push_here [] row free h = grind (arith, h)
  push_here (x ∷ rows) row free h = grind (arith, push_here rows row, free, h)

-- ---- an edit of each row that a test doesn't see

module _ (p : Row → Bool) (f : Row → Row) (blind : (row : Row) → p (f row) ≡ p row) where
  pub count-map : (rows : List Row) → count_by p (map f rows) ≡ count_by p rows
  count-map [] = refl
  count-map (row ∷ rows) =
      let was = count-cons p row rows in
      let now = count-cons p (f row) (map f rows) in
      grind (arith, was, now, count-map rows, blind row)

  pub any-map : (rows : List Row) → list_any p (map f rows) ≡ list_any p rows
  any-map [] = refl
  any-map (row ∷ rows) = grind (arith, any-map rows, blind row)

  pub number-map : ((row : Row) → (f row).n ≡ row.n) → (rows : List Row) → number_of (find p (map f rows)) ≡ number_of (find p rows)
  number-map keeps [] = refl
  number-map keeps (row ∷ rows) = grind (arith, number-map keeps rows, blind row, keeps row)

-- ---- one row less

all_other : (n m : ℕ) (rows : List Row) → n ≤ m → RowsAbove m rows → filter (λ row. not (row.n == n)) rows ≡ rows
all_other n m [] le h = refl
all_other n m (row ∷ rows) le h = grind (arith, nat_tests, all_other n m rows le h.1, h.0)

abbrev pub without : ℕ → List Row → List Row
without n rows = filter (λ row. not (row.n == n)) rows

abbrev pub Head : Row → Row → List Row → Type 0
Head gone row rows = (row ≡ gone) × (without gone.n (row ∷ rows) ≡ rows)

abbrev pub Tail : Row → Row → List Row → Type 0
Tail gone row rows = (row_at rows gone.n ≡ Some gone) × (without gone.n (row ∷ rows) ≡ row ∷ without gone.n rows)

pub head_or_tail : (gone row : Row) (rows : List Row) → RowsAscend (row ∷ rows) → row_at (row ∷ rows) gone.n ≡ Some gone → Head gone row rows ⊎ Tail gone row rows
head_or_tail gone row rows h there = by (row.n == gone.n) refl
  where
    by : (b : Bool) → (row.n == gone.n) ≡ b → Head gone row rows ⊎ Tail gone row rows
    by true e =
        let is = rw e at there in
        let same : row ≡ gone = cc in
        let number : row.n ≡ gone.n = ap (λ x. x.n) same in
        let rest : without gone.n rows ≡ rows = all_other gone.n row.n rows (omega arith) h.0 in
        let all : without gone.n (row ∷ rows) ≡ rows = rw e rest in
        inl (same, all)
    by false e =
        let is = rw e at there in
        let all : without gone.n (row ∷ rows) ≡ row ∷ without gone.n rows = rw e refl in
        inr (is, all)

module _ (p : Row → Bool) (gone : Row) where
  pub count-without : (rows : List Row) → RowsAscend rows → row_at rows gone.n ≡ Some gone → count_by p (without gone.n rows) + cond (p gone) 1 0 ≡ count_by p rows
  count-without [] h there = absurd (cc)
  count-without (row ∷ rows) h there =
      ⊎_elim
      (λ here. let left = ap (count_by p) here.1 in let step = count-cons p row rows in let same : cond (p row) 1 0 ≡ cond (p gone) 1 0 = ap {B = ℕ} (λ x. cond (p x) 1 0) here.0 in omega (arith, left, step, same))
      (λ later.
      let left = ap (count_by p) later.1 in
      let step = count-cons p row rows in
      let kept = count-cons p row (without gone.n rows) in
      let rest = count-without rows h.1 later.0 in
      omega (arith, left, step, kept, rest))
      (head_or_tail gone row rows h there)

  pub any-without : (rows : List Row) → RowsAscend rows → row_at rows gone.n ≡ Some gone → p gone ≡ false → list_any p (without gone.n rows) ≡ list_any p rows
  any-without [] h there other = absurd (cc)
  any-without (row ∷ rows) h there other =
      ⊎_elim
      (λ here. let left = ap (list_any p) here.1 in let same = ap p here.0 ∙ other in left ∙ sym (ap (λ b. b || list_any p rows) same))
      (λ later. ap (list_any p) later.1 ∙ ap (λ b. p row || b) (any-without rows h.1 later.0 other))
      (head_or_tail gone row rows h there)

  pub find-without : (rows : List Row) → RowsAscend rows → row_at rows gone.n ≡ Some gone → p gone ≡ false → find p (without gone.n rows) ≡ find p rows
  find-without [] h there other = absurd (cc)
  find-without (row ∷ rows) h there other =
      ⊎_elim
      (λ here. let left = ap (find p) here.1 in let same = ap p here.0 ∙ other in left ∙ sym (ap (λ b. cond b (Some row) (find p rows)) same))
      (λ later. ap (find p) later.1 ∙ ap (λ o. cond (p row) (Some row) o) (find-without rows h.1 later.0 other))
      (head_or_tail gone row rows h there)

-- ---- the indexes

found_above : (p : Row → Bool) (m : ℕ) (rows : List Row) (found : Row) → RowsAbove m rows → find p rows ≡ Some found → m < found.n
found_above p m [] found h is = absurd (cc)
found_above p m (row ∷ rows) found h is = by (p row) refl (found_above p m rows found h.1)
  where
    by : (b : Bool) → p row ≡ b → (find p rows ≡ Some found → m < found.n) → m < found.n
    by true e more = let here = rw e at is in let same : row ≡ found = cc in subst (λ (x : Row). m < x.n) same h.0
    by false e more = more (rw e at is)

-- a row that is found by a test is found by its number
pub found_at : (p : Row → Bool) (rows : List Row) (found : Row) → RowsAscend rows → find p rows ≡ Some found → row_at rows found.n ≡ Some found
found_at p [] found h is = absurd (cc)
found_at p (row ∷ rows) found h is = by (p row) refl (found_at p rows found h.1)
  where
    by : (b : Bool) → p row ≡ b → (find p rows ≡ Some found → row_at rows found.n ≡ Some found) → row_at (row ∷ rows) found.n ≡ Some found
    by true e more = let here = rw e at is in let same : row ≡ found = cc in subst (λ (x : Row). row_at (row ∷ rows) x.n ≡ Some x) same (grind (arith, nat_tests))
    by false e more =
        let later = rw e at is in
        let above : row.n < found.n = found_above p row.n rows found h.0 later in
        let rest = more later in
        grind (arith, nat_tests, above, rest)

pub on_at : (r : Range) (rows : List Row) (n : ℕ) → RowsAscend rows → number_of (row_on rows r) ≡ Some n → row_at rows n ≡ row_on rows r
on_at r rows n h is = by (row_on rows r) refl
  where
    by : (o : Option Row) → row_on rows r ≡ o → row_at rows n ≡ row_on rows r
    by None e = let none = ap number_of (sym e) ∙ is in absurd (cc)
    by (Some found) e =
        let number : found.n ≡ n = let some = ap number_of (sym e) ∙ is in cc in
        subst (λ (k : ℕ). row_at rows k ≡ row_on rows r) number (found_at (λ row. same_range row.range r) rows found h e ∙ sym e)

-- edits that keep number, range and machine
module _ (f : Row → Row) (number : (row : Row) → (f row).n ≡ row.n) (range : (row : Row) → (f row).range ≡ row.range) (machine : (row : Row) → (f row).machine ≡ row.machine) where
  pub indexed-map : (rows : List Row) (numbers : Range → Option ℕ) (counts : Ip4 → Option ℕ) → IsIndexed rows numbers counts → IsIndexed (map f rows) numbers counts
  indexed-map rows numbers counts h = record {
    numbers = λ r. h.numbers r ∙ sym (number-map (λ row. same_range row.range r) f (λ row. ap (λ x. same_range x r) (range row)) number rows);
    single = λ r. rw (count-map (λ row. same_range row.range r) f (λ row. ap (λ x. same_range x r) (range row)) rows) (h.single r);
    counts = λ m. h.counts m ∙ sym (count-map (λ row. row.machine.0 == m.0) f (λ row. ap (λ x. x.0 == m.0) (machine row)) rows);
  }

pub range_is : (a b : Range) → same_range a b ≡ true → a ≡ b
range_is a b h =
    let vip : a.vip.0 ≡ b.vip.0 = grind (arith, nat_tests, h) in
    let start : a.start ≡ b.start = grind (arith, nat_tests, h) in
    λ i. record { vip = record { 0 = vip i }; start = start i }

pub address_is : (a b : Ip4) → same_address a b ≡ true → a ≡ b
address_is a b h = let same : a.0 ≡ b.0 = grind (arith, nat_tests, h) in λ i. record { 0 = same i }

pub one_at : (b : Bool) → b ≡ true → ◌≡◌ {A = ℕ} (cond b 1 0) 1
one_at b h = rw h refl

none_at : (b : Bool) → b ≡ false → ◌≡◌ {A = ℕ} (cond b 1 0) 0
none_at b h = rw h refl

pub by_test : {X : Type 0} (b : Bool) → (b ≡ true → X) → (b ≡ false → X) → X
by_test true hit miss = hit refl
by_test false hit miss = miss refl

pub indexed-push : (rows : List Row) (row : Row) (numbers numbers2 : Range → Option ℕ) (counts counts2 : Ip4 → Option ℕ) → IsIndexed rows numbers counts
    → has_no_row rows row.range ≡ true
    → ((r : Range) → numbers2 r ≡ (if same_range row.range r then Some row.n else numbers r))
    → ((m : Ip4) → counts2 m ≡ (if same_address row.machine m then Some (unwrap_or (counts row.machine) 0 + 1) else counts m))
    → IsIndexed (rows ++ row ∷ []) numbers2 counts2
indexed-push rows row numbers numbers2 counts counts2 h free number count = record {
  numbers = λ r. by_test (same_range row.range r)
      (λ hit.
      let none = subst (λ (x : Range). has_no_row rows x ≡ true) (range_is row.range r hit) free in
      (rw hit at (number r)) ∙ sym (ap number_of (push_here (λ row. same_range row.range r) rows row none hit)))
      (λ miss. (rw miss at (number r)) ∙ h.numbers r ∙ sym (ap number_of (push_other (λ row. same_range row.range r) rows row miss)));
  single = λ r. by_test (same_range row.range r)
      (λ hit.
      let none = subst (λ (x : Range). has_no_row rows x ≡ true) (range_is row.range r hit) free in
      let before = none_counted (λ row. same_range row.range r) rows none in
      let after = count-push (λ row. same_range row.range r) rows row in
      let one = one_at (same_range row.range r) hit in
      omega (arith, before, after, one))
      (λ miss.
      let before = h.single r in
      let after = count-push (λ row. same_range row.range r) rows row in
      let one = none_at (same_range row.range r) miss in
      omega (arith, before, after, one));
  counts = λ m. by_test (same_address row.machine m)
      (λ hit.
      let now = rw hit at (count m) in
      let before = subst (λ (x : Ip4). unwrap_or (counts row.machine) 0 ≡ row_count rows x) (address_is row.machine m hit) (h.counts row.machine) in
      let after = count-push (λ row. row.machine.0 == m.0) rows row in
      let one = one_at (row.machine.0 == m.0) hit in
      rw now (omega (arith, before, after, one)))
      (λ miss.
      let now = rw miss at (count m) in
      let before = h.counts m in
      let after = count-push (λ row. row.machine.0 == m.0) rows row in
      let one = none_at (row.machine.0 == m.0) miss in
      rw now (omega (arith, before, after, one)));
}

-- where the row that leaves was the only one that passes
only : (p : Row → Bool) (rows : List Row) (gone : Row) → RowsAscend rows → row_at rows gone.n ≡ Some gone → count_by p rows ≤ 1 → p gone ≡ true → not (list_any p (without gone.n rows)) ≡ true
only p rows gone ascend there single hit =
    let counted = count-without p gone rows ascend there in
    let one = one_at (p gone) hit in
    none_from_count p (without gone.n rows) (omega (arith, counted, one, single))

pub indexed-without : (rows : List Row) (gone : Row) (numbers numbers2 : Range → Option ℕ) (counts counts2 : Ip4 → Option ℕ) → IsIndexed rows numbers counts
    → RowsAscend rows → row_at rows gone.n ≡ Some gone
    → ((r : Range) → numbers2 r ≡ (if same_range gone.range r then None else numbers r))
    → ((m : Ip4) → counts2 m ≡ (if same_address gone.machine m then Some (unwrap_or (counts gone.machine) 0 - 1) else counts m))
    → IsIndexed (without gone.n rows) numbers2 counts2
indexed-without rows gone numbers numbers2 counts counts2 h ascend there number count = record {
  numbers = λ r. by_test (same_range gone.range r)
      (λ hit.
      let none = only (λ row. same_range row.range r) rows gone ascend there (h.single r) hit in
      (rw hit at (number r)) ∙ sym (ap number_of (none_found (λ row. same_range row.range r) (without gone.n rows) none)))
      (λ miss. (rw miss at (number r)) ∙ h.numbers r ∙ sym (ap number_of (find-without (λ row. same_range row.range r) gone rows ascend there miss)));
  single = λ r. let counted = count-without (λ row. same_range row.range r) gone rows ascend there in let before = h.single r in omega (arith, counted, before);
  counts = λ m. by_test (same_address gone.machine m)
      (λ hit.
      let now = rw hit at (count m) in
      let before = subst (λ (x : Ip4). unwrap_or (counts gone.machine) 0 ≡ row_count rows x) (address_is gone.machine m hit) (h.counts gone.machine) in
      let after = count-without (λ row. row.machine.0 == m.0) gone rows ascend there in
      let one = one_at (gone.machine.0 == m.0) hit in
      rw now (omega (arith, before, after, one)))
      (λ miss.
      let now = rw miss at (count m) in
      let before = h.counts m in
      let after = count-without (λ row. row.machine.0 == m.0) gone rows ascend there in
      let one = none_at (gone.machine.0 == m.0) miss in
      rw now (omega (arith, before, after, one)));
}

pub free-without : (rows : List Row) (gone : Row) → RowsAscend rows → row_at rows gone.n ≡ Some gone → ((r : Range) → count_by (λ row. same_range row.range r) rows ≤ 1)
    → (r : Range) → has_no_row (without gone.n rows) r ≡ (same_range gone.range r || has_no_row rows r)
free-without rows gone ascend there single r =
    by_test (same_range gone.range r)
    (λ hit. only (λ row. same_range row.range r) rows gone ascend there (single r) hit ∙ sym (ap (λ b. b || has_no_row rows r) hit))
    (λ miss. ap not (any-without (λ row. same_range row.range r) gone rows ascend there miss) ∙ sym (ap (λ b. b || has_no_row rows r) miss))

-- a row counts among its machine's
pub counted_machine : (rows : List Row) (row : Row) → row_at rows row.n ≡ Some row → 0 < row_count rows row.machine
counted_machine [] row there = absurd (cc)
counted_machine (x ∷ rows) row there = by (x.n == row.n) refl (counted_machine rows row)
  where
    by : (b : Bool) → (x.n == row.n) ≡ b → (row_at rows row.n ≡ Some row → 0 < row_count rows row.machine) → 0 < row_count (x ∷ rows) row.machine
    by true e more =
        let here = rw e at there in
        let is : x ≡ row = cc in
        let machine : x.machine.0 ≡ row.machine.0 = ap (λ y. y.machine.0) is in
        let step = count-cons (λ y. y.machine.0 == row.machine.0) x rows in
        let one = one_at (x.machine.0 == row.machine.0) (eq-eqb x.machine.0 row.machine.0 machine) in
        omega (arith, step, one)
    by false e more =
        let rest = more (rw e at there) in
        let step = count-cons (λ y. y.machine.0 == row.machine.0) x rows in
        omega (arith, step, rest)

pub indexed-same : (rows rows2 : List Row) (numbers numbers2 : Range → Option ℕ) (counts counts2 : Ip4 → Option ℕ) → IsIndexed rows numbers counts
    → rows2 ≡ rows → ((r : Range) → numbers2 r ≡ numbers r) → ((m : Ip4) → counts2 m ≡ counts m) → IsIndexed rows2 numbers2 counts2
indexed-same rows rows2 numbers numbers2 counts counts2 h is number count = record {
  numbers = λ r. number r ∙ h.numbers r ∙ sym (ap (λ xs. number_of (row_on xs r)) is);
  single = λ r. subst (λ (xs : List Row). count_by (λ row. same_range row.range r) xs ≤ 1) (sym is) (h.single r);
  counts = λ m. ap (λ o. unwrap_or o 0) (count m) ∙ h.counts m ∙ sym (ap (λ xs. row_count xs m) is);
}

-- the row that is found by a number has it
pub number_found : (rows : List Row) (n : ℕ) (row : Row) → row_at rows n ≡ Some row → row.n ≡ n
number_found [] n row is = absurd (cc)
number_found (x ∷ rows) n row is = by (x.n == n) refl (number_found rows n row)
  where
    by : (b : Bool) → (x.n == n) ≡ b → (row_at rows n ≡ Some row → row.n ≡ n) → row.n ≡ n
    by true e more = let here = rw e at is in let same : x ≡ row = cc in ap (λ y. y.n) (sym same) ∙ eqb-true x.n n e
    by false e more = more (rw e at is)
