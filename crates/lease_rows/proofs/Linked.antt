-- The chains of the machines' rows, after each edit of the rows.
use Rattle.std.proofs.Common.{◌≡◌, ℕ, ◌<◌, ◌==◌, Bool, true, false, cond, List, [], ◌∷◌, ◌++◌, map, Option, Some, None, nat_lt, option_map, unwrap_or, if◌then◌else◌, refl, ap, sym, ◌∙◌, subst, arith, ⊎_elim, append-nil, append_assoc}
use Rattle.std.specs.Option.{is_none, option_or}
use Rattle.std.proofs.lemmas.Bool.{eq-eqb, eqb-true}
use Rattle.std.proofs.lemmas.Bool.Decides.{nat_tests}
use Rattle.std.proofs.lemmas.List.Folds.{find-append}
use Rattle.wire_core.specs.declared.address.Ip4.{Ip4}
use Rattle.lease_spec.specs.declared.row.Row.{Row}
use Rattle.lease_spec.specs.Table.{row_at}
use Rattle.lease_rows.specs.declared.links.Ends.{Ends}
use Rattle.lease_rows.specs.declared.links.Link.{Link}
use Rattle.lease_rows.specs.Entries.{RowsAbove, RowsAscend, RowsBelow}
use Rattle.lease_rows.specs.Links.{IsLinked, ends_of, first_number, is_number, last_number, link_of, no_ends, number_after, number_before, numbers_of, with_next, with_previous, without_link}
use Rattle.lease_rows.specs.Rows.{same_address}
use Rattle.lease_rows.proofs.Indexed.{address_is, by_test, head_or_tail, number_found, without}
use Rattle.lease_rows.proofs.Numbers.{AllOver, AllUnder, Rise, after_back, after_front, after_over, before_back, before_front, before_over, first_end, has, last_end, miss_first, miss_last, or_none, over_miss, under_miss}

-- ---- the numbers of a machine's rows

pub numbers-append : (rows more : List Row) (m : Ip4) → numbers_of (rows ++ more) m ≡ numbers_of rows m ++ numbers_of more m
numbers-append [] more m = refl
numbers-append (row ∷ rows) more m = grind (arith, numbers-append rows more m)

pub numbers-under : (k : ℕ) (rows : List Row) (m : Ip4) → RowsBelow k rows → AllUnder k (numbers_of rows m)
numbers-under k [] m h = tt
numbers-under k (row ∷ rows) m h =
    let rest = numbers-under k rows m h.1 in
    elim (row.machine.0 == m.0) as (λ (b : Bool). AllUnder k (cond b (row.n ∷ numbers_of rows m) (numbers_of rows m)))
    [ true ↦ (h.0, rest) | false ↦ rest ]

pub numbers-over : (k : ℕ) (rows : List Row) (m : Ip4) → RowsAbove k rows → AllOver k (numbers_of rows m)
numbers-over k [] m h = tt
numbers-over k (row ∷ rows) m h =
    let rest = numbers-over k rows m h.1 in
    elim (row.machine.0 == m.0) as (λ (b : Bool). AllOver k (cond b (row.n ∷ numbers_of rows m) (numbers_of rows m)))
    [ true ↦ (h.0, rest) | false ↦ rest ]

pub numbers-rise : (rows : List Row) (m : Ip4) → RowsAscend rows → Rise (numbers_of rows m)
numbers-rise [] m h = tt
numbers-rise (row ∷ rows) m h =
    let rest = numbers-rise rows m h.1 in
    elim (row.machine.0 == m.0) as (λ (b : Bool). Rise (cond b (row.n ∷ numbers_of rows m) (numbers_of rows m)))
    [ true ↦ (numbers-over row.n rows m h.0, rest) | false ↦ rest ]

-- the row is there and of the machine
abbrev is_of : Ip4 → Option Row → Bool
is_of m None = false
is_of m (Some row) = row.machine.0 == m.0

has-numbers : (k : ℕ) (rows : List Row) (m : Ip4) → RowsAscend rows → has k (numbers_of rows m) ≡ is_of m (row_at rows k)
has-numbers k [] m h = refl
has-numbers k (row ∷ rows) m h = by (row.n == k) refl (has-numbers k rows m h.1)
  where
    by : (b : Bool) → (row.n == k) ≡ b → has k (numbers_of rows m) ≡ is_of m (row_at rows k)
        → has k (numbers_of (row ∷ rows) m) ≡ is_of m (row_at (row ∷ rows) k)
    by true e rest =
        let same : row.n ≡ k = grind (arith, nat_tests, e) in
        let none : has k (numbers_of rows m) ≡ false =
        over_miss k (numbers_of rows m) (numbers-over k rows m (subst (λ (y : ℕ). RowsAbove y rows) same h.0)) in
        grind (arith, e, none)
    by false e rest = grind (arith, e, rest)

above_none : (k : ℕ) (rows : List Row) → RowsAbove k rows → row_at rows k ≡ None
above_none k [] h = refl
above_none k (row ∷ rows) h = grind (arith, nat_tests, above_none k rows h.1, h.0)

below_none : (k : ℕ) (rows : List Row) → RowsBelow k rows → row_at rows k ≡ None
below_none k [] h = refl
below_none k (row ∷ rows) h = grind (arith, nat_tests, below_none k rows h.1, h.0)

found_below : (n k : ℕ) (rows : List Row) (row : Row) → RowsBelow n rows → row_at rows k ≡ Some row → row.n < n
found_below n k [] row h is = absurd (cc)
found_below n k (x ∷ rows) row h is = by (x.n == k) refl (found_below n k rows row h.1)
  where
    by : (b : Bool) → (x.n == k) ≡ b → (row_at rows k ≡ Some row → row.n < n) → row.n < n
    by true e more = let here = rw e at is in let same : x ≡ row = cc in subst (λ (y : Row). y.n < n) same h.0
    by false e more = more (rw e at is)

found_above : (n k : ℕ) (rows : List Row) (row : Row) → RowsAbove n rows → row_at rows k ≡ Some row → n < row.n
found_above n k [] row h is = absurd (cc)
found_above n k (x ∷ rows) row h is = by (x.n == k) refl (found_above n k rows row h.1)
  where
    by : (b : Bool) → (x.n == k) ≡ b → (row_at rows k ≡ Some row → n < row.n) → n < row.n
    by true e more = let here = rw e at is in let same : x ≡ row = cc in subst (λ (y : Row). n < y.n) same h.0
    by false e more = more (rw e at is)

over_weaken : (m n : ℕ) (ns : List ℕ) → m < n → AllOver n ns → AllOver m ns
over_weaken m n [] less h = tt
over_weaken m n (x ∷ ns) less h = (let p : n < x = h.0 in omega arith, over_weaken m n ns less h.1)

under_weaken : (m n : ℕ) (ns : List ℕ) → m < n → AllUnder m ns → AllUnder n ns
under_weaken m n [] less h = tt
under_weaken m n (x ∷ ns) less h = (let p : x < m = h.0 in omega arith, under_weaken m n ns less h.1)

-- ---- a row of the front part gets another next one, a row of the back part another previous one

-- a row's place among numbers
abbrev place_in : List ℕ → Row → Link
place_in ns row = record {
  machine = row.machine;
  previous = number_before ns row.n;
  next = number_after ns row.n;
}

no_link : (b : Bool) (f : Link → Link) → (if b then option_map f None else None) ≡ None
no_link true f = refl
no_link false f = refl

module _ (row : Row) (front : List ℕ) (rise : Rise front) (there : has row.n front ≡ true) where
  front_place : (old new : List ℕ) → AllOver row.n old → AllOver row.n new
      → (if is_number row.n (last_number front) then Some (with_next (first_number new) (place_in (front ++ old) row)) else Some (place_in (front ++ old) row))
      ≡ Some (place_in (front ++ new) row)
  front_place old new low high =
      let previous = before_front front old row.n low ∙ sym (before_front front new row.n high) in
      let was = after_front front old row.n low in
      let is = after_front front new row.n high in
      let last = last_end front row.n rise there in
      by (number_after front row.n) refl previous was is last
    where
      by : (o : Option ℕ) → number_after front row.n ≡ o
          → number_before (front ++ old) row.n ≡ number_before (front ++ new) row.n
          → number_after (front ++ old) row.n ≡ option_or (number_after front row.n) (first_number old)
          → number_after (front ++ new) row.n ≡ option_or (number_after front row.n) (first_number new)
          → is_number row.n (last_number front) ≡ is_none (number_after front row.n)
          → (if is_number row.n (last_number front) then Some (with_next (first_number new) (place_in (front ++ old) row)) else Some (place_in (front ++ old) row))
          ≡ Some (place_in (front ++ new) row)
      by None e previous was is last = rw (last, e, previous, is) (rw e refl)
      by (Some x) e previous was is last = rw (last, e, previous, was, is) (rw e refl)

module _ (row : Row) (back : List ℕ) (rise : Rise back) (there : has row.n back ≡ true) where
  back_place : (old new : List ℕ) → AllUnder row.n old → AllUnder row.n new
      → (if is_number row.n (first_number back) then Some (with_previous (last_number new) (place_in (old ++ back) row)) else Some (place_in (old ++ back) row))
      ≡ Some (place_in (new ++ back) row)
  back_place old new low high =
      let next = after_back old back row.n low ∙ sym (after_back new back row.n high) in
      let was = before_back old back row.n low in
      let is = before_back new back row.n high in
      let first = first_end back row.n rise there in
      by (number_before back row.n) refl next was is first
    where
      by : (o : Option ℕ) → number_before back row.n ≡ o
          → number_after (old ++ back) row.n ≡ number_after (new ++ back) row.n
          → number_before (old ++ back) row.n ≡ option_or (number_before back row.n) (last_number old)
          → number_before (new ++ back) row.n ≡ option_or (number_before back row.n) (last_number new)
          → is_number row.n (first_number back) ≡ is_none (number_before back row.n)
          → (if is_number row.n (first_number back) then Some (with_previous (last_number new) (place_in (old ++ back) row)) else Some (place_in (old ++ back) row))
          ≡ Some (place_in (new ++ back) row)
      by None e next was is first = rw (first, e, next, is) (rw e refl)
      by (Some x) e next was is first = rw (first, e, next, was, is) (rw e refl)

module _ (front old new : List Row) (m : Ip4) (k : ℕ) (row : Row) (ascend : RowsAscend front) (there : row_at front k ≡ Some row)
    (low : RowsAbove row.n old) (high : RowsAbove row.n new)
    (others : same_address row.machine m ≡ false → numbers_of old row.machine ≡ numbers_of new row.machine) where
  abbrev FrontKept : Ip4 → Type 0
  FrontKept x = (if is_number row.n (last_number (numbers_of front x))
      then option_map (with_next (first_number (numbers_of new x))) (link_of (front ++ old) (Some row))
      else link_of (front ++ old) (Some row)) ≡ link_of (front ++ new) (Some row)

  front_has : (x : Ip4) → has row.n (numbers_of front x) ≡ (row.machine.0 == x.0)
  front_has x = let at = subst (λ (y : ℕ). row_at front y ≡ Some row) (sym (number_found front k row there)) there in has-numbers row.n front x ascend ∙ ap (is_of x) at

  pub front_kept : FrontKept m
  front_kept = by_test (same_address row.machine m)
      (λ hit. subst FrontKept (address_is row.machine m hit)
      (rw (numbers-append front old row.machine, numbers-append front new row.machine)
      (front_place row (numbers_of front row.machine) (numbers-rise front row.machine ascend) (front_has row.machine ∙ eq-eqb row.machine.0 row.machine.0 refl)
      (numbers_of old row.machine) (numbers_of new row.machine) (numbers-over row.n old row.machine low) (numbers-over row.n new row.machine high))))
      (λ miss.
      let none = miss_last row.n (numbers_of front m) (front_has m ∙ miss) in
      let numbers : numbers_of (front ++ old) row.machine ≡ numbers_of (front ++ new) row.machine =
      numbers-append front old row.machine ∙ ap (λ ns. numbers_of front row.machine ++ ns) (others miss) ∙ sym (numbers-append front new row.machine) in
      rw (none, numbers) refl)

module _ (back old new : List Row) (m : Ip4) (k : ℕ) (row : Row) (ascend : RowsAscend back) (there : row_at back k ≡ Some row)
    (low : RowsBelow row.n old) (high : RowsBelow row.n new)
    (others : same_address row.machine m ≡ false → numbers_of old row.machine ≡ numbers_of new row.machine) where
  abbrev BackKept : Ip4 → Type 0
  BackKept x = (if is_number row.n (first_number (numbers_of back x))
      then option_map (with_previous (last_number (numbers_of new x))) (link_of (old ++ back) (Some row))
      else link_of (old ++ back) (Some row)) ≡ link_of (new ++ back) (Some row)

  back_has : (x : Ip4) → has row.n (numbers_of back x) ≡ (row.machine.0 == x.0)
  back_has x = let at = subst (λ (y : ℕ). row_at back y ≡ Some row) (sym (number_found back k row there)) there in has-numbers row.n back x ascend ∙ ap (is_of x) at

  pub back_kept : BackKept m
  back_kept = by_test (same_address row.machine m)
      (λ hit. subst BackKept (address_is row.machine m hit)
      (rw (numbers-append old back row.machine, numbers-append new back row.machine)
      (back_place row (numbers_of back row.machine) (numbers-rise back row.machine ascend) (back_has row.machine ∙ eq-eqb row.machine.0 row.machine.0 refl)
      (numbers_of old row.machine) (numbers_of new row.machine) (numbers-under row.n old row.machine low) (numbers-under row.n new row.machine high))))
      (λ miss.
      let none = miss_first row.n (numbers_of back m) (back_has m ∙ miss) in
      let numbers : numbers_of (old ++ back) row.machine ≡ numbers_of (new ++ back) row.machine =
      numbers-append old back row.machine ∙ ap (λ ns. ns ++ numbers_of back row.machine) (others miss) ∙ sym (numbers-append new back row.machine) in
      rw (none, numbers) refl)

-- ---- one more row

first-push : (ns : List ℕ) (n : ℕ) → first_number (ns ++ n ∷ []) ≡ option_or (first_number ns) (Some n)
first-push [] n = refl
first-push (x ∷ ns) n = refl

last-push : (ns : List ℕ) (n : ℕ) → last_number (ns ++ n ∷ []) ≡ Some n
last-push [] n = refl
last-push (x ∷ ns) n = ap (λ o. option_or o (Some x)) (last-push ns n)

numbers-here : (row : Row) → numbers_of (row ∷ []) row.machine ≡ row.n ∷ []
numbers-here row = rw (eq-eqb row.machine.0 row.machine.0 refl) refl

numbers-apart : (row : Row) (rows : List Row) (m : Ip4) → same_address row.machine m ≡ false → numbers_of (row ∷ rows) m ≡ numbers_of rows m
numbers-apart row rows m other = rw other refl

same_sym : (a b : Ip4) → same_address a b ≡ false → same_address b a ≡ false
same_sym a b h = grind (arith, nat_tests, h)

module _ (rows : List Row) (row : Row) (ascend : RowsAscend rows) (below : RowsBelow row.n rows) where
  push_at : (k : ℕ) → (row.n == k) ≡ false → row_at (rows ++ row ∷ []) k ≡ row_at rows k
  push_at k other =
      find-append (λ r. r.n == k) rows (row ∷ []) ∙ ap (λ b. option_or (row_at rows k) (cond b (Some row) None)) other ∙ or_none (row_at rows k)

  push_here : row_at (rows ++ row ∷ []) row.n ≡ Some row
  push_here =
      find-append (λ r. r.n == row.n) rows (row ∷ []) ∙ ap (λ o. option_or o (cond (row.n == row.n) (Some row) None)) (below_none row.n rows below)
      ∙ ap (λ b. cond b (Some row) None) (eq-eqb row.n row.n refl)

  new_link : link_of (rows ++ row ∷ []) (Some row)
      ≡ Some (record { machine = row.machine; previous = last_number (numbers_of rows row.machine); next = None })
  new_link =
      let numbers = numbers-append rows (row ∷ []) row.machine ∙ ap (λ ns. numbers_of rows row.machine ++ ns) (numbers-here row) in
      let under = numbers-under row.n rows row.machine below in
      let same : (nat_lt row.n row.n) ≡ false = grind (arith, nat_tests) in
      let before : number_before (numbers_of rows row.machine ++ row.n ∷ []) row.n ≡ last_number (numbers_of rows row.machine) =
      before_back (numbers_of rows row.machine) (row.n ∷ []) row.n under ∙ ap (λ b. option_or (cond b (Some row.n) None) (last_number (numbers_of rows row.machine))) same in
      let after : number_after (numbers_of rows row.machine ++ row.n ∷ []) row.n ≡ None =
      after_back (numbers_of rows row.machine) (row.n ∷ []) row.n under ∙ ap (λ b. cond b (Some row.n) None) same in
      rw numbers (rw (before, after) refl)

  old_link : (k : ℕ) (o : Option Row) → row_at rows k ≡ o
      → (if is_number k (last_number (numbers_of rows row.machine)) then option_map (with_next (Some row.n)) (link_of rows o) else link_of rows o)
      ≡ link_of (rows ++ row ∷ []) o
  old_link k None is = no_link (is_number k (last_number (numbers_of rows row.machine))) (with_next (Some row.n))
  old_link k (Some x) is =
      let at = number_found rows k x is in
      let kept = front_kept rows [] (row ∷ []) row.machine k x ascend is tt (found_below row.n k rows x below is, tt)
      (λ miss. sym (numbers-apart row [] x.machine (same_sym x.machine row.machine miss))) in
      subst (λ (y : ℕ). (if is_number y (last_number (numbers_of rows row.machine)) then option_map (with_next (Some row.n)) (link_of rows (Some x)) else link_of rows (Some x)) ≡ link_of (rows ++ row ∷ []) (Some x)) at
      (subst (λ (all : List Row). (if is_number x.n (last_number (numbers_of rows row.machine)) then option_map (with_next (Some row.n)) (link_of all (Some x)) else link_of all (Some x)) ≡ link_of (rows ++ row ∷ []) (Some x)) (append-nil rows)
      (subst (λ (o : Option ℕ). (if is_number x.n (last_number (numbers_of rows row.machine)) then option_map (with_next o) (link_of (rows ++ []) (Some x)) else link_of (rows ++ []) (Some x)) ≡ link_of (rows ++ row ∷ []) (Some x)) (ap first_number (numbers-here row)) kept))

abbrev pub ends_to : Option ℕ → Option ℕ → Ends
ends_to first last = record { first = first; last = last }

-- what the code does where a row comes
pub record Enlinks (n : ℕ) (machine : Ip4) (links links1 links2 : ℕ → Option Link) (ends ends2 : Ip4 → Option Ends) (before after : Ends) : Type 0 where
  pub was : before ≡ unwrap_or (ends machine) no_ends
  pub next : (k : ℕ) → links1 k ≡ (if is_number k before.last then option_map (with_next (Some n)) (links k) else links k)
  pub put : (k : ℕ) → links2 k ≡ (if n == k then Some (record { machine = machine; previous = before.last; next = None }) else links1 k)
  pub first : after.first ≡ option_or before.first (Some n)
  pub last : after.last ≡ Some n
  pub ended : (m : Ip4) → ends2 m ≡ (if same_address machine m then Some after else ends m)

module _ (rows : List Row) (row : Row) (ascend : RowsAscend rows) (below : RowsBelow row.n rows)
    (links links1 links2 : ℕ → Option Link) (ends ends2 : Ip4 → Option Ends) (before after : Ends) (h : IsLinked rows links ends) where
  linked-one : Enlinks row.n row.machine links links1 links2 ends ends2 before after → IsLinked (rows ++ row ∷ []) links2 ends2
  linked-one p = record {
    links = λ k.
        let last = ap (λ (e : Ends). e.last) (p.was ∙ h.ends row.machine) in
        by_test (row.n == k)
        (λ hit.
        let same = eqb-true row.n k hit in
        (rw hit at (p.put k)) ∙ ap (λ o. Some (record { machine = row.machine; previous = o; next = None })) last ∙ sym (new_link rows row ascend below)
        ∙ sym (ap (link_of (rows ++ row ∷ [])) (subst (λ (y : ℕ). row_at (rows ++ row ∷ []) y ≡ Some row) same (push_here rows row ascend below))))
        (λ miss.
        (rw miss at (p.put k)) ∙ p.next k ∙ rw (last, h.links k) (old_link rows row ascend below k (row_at rows k) refl)
        ∙ sym (ap (link_of (rows ++ row ∷ [])) (push_at rows row ascend below k miss)));
    ends = λ m. by_test (same_address row.machine m)
        (λ hit.
        let is = p.was ∙ h.ends row.machine in
        let all = numbers-append rows (row ∷ []) row.machine ∙ ap (λ ns. numbers_of rows row.machine ++ ns) (numbers-here row) in
        let first = p.first ∙ ap (λ (e : Ends). option_or e.first (Some row.n)) is ∙ sym (ap first_number all ∙ first-push (numbers_of rows row.machine) row.n) in
        let last = p.last ∙ sym (ap last_number all ∙ last-push (numbers_of rows row.machine) row.n) in
        let here : after ≡ ends_of (numbers_of (rows ++ row ∷ []) row.machine) = λ i. record { first = first i; last = last i } in
        ap (λ o. unwrap_or o no_ends) (rw hit at (p.ended m)) ∙ subst (λ (x : Ip4). after ≡ ends_of (numbers_of (rows ++ row ∷ []) x)) (address_is row.machine m hit) here)
        (λ miss.
        ap (λ o. unwrap_or o no_ends) (rw miss at (p.ended m)) ∙ h.ends m
        ∙ sym (ap ends_of (numbers-append rows (row ∷ []) m ∙ ap (λ ns. numbers_of rows m ++ ns) (numbers-apart row [] m miss) ∙ append-nil (numbers_of rows m))));
  }

  pub linked-push : (n : ℕ) (machine : Ip4) → row.n ≡ n → row.machine ≡ machine
      → Enlinks n machine links links1 links2 ends ends2 before after → IsLinked (rows ++ row ∷ []) links2 ends2
  linked-push n machine number address p =
      linked-one (subst (λ (k : ℕ). Enlinks k row.machine links links1 links2 ends ends2 before after) (sym number)
      (subst (λ (m : Ip4). Enlinks n m links links1 links2 ends ends2 before after) (sym address) p))

-- ---- one row less

-- the rows before one and those after it
record Around (rows : List Row) (gone : Row) : Type 0 where
  front : List Row
  back : List Row
  all : rows ≡ front ++ gone ∷ back
  left : without gone.n rows ≡ front ++ back
  below : RowsBelow gone.n front
  above : RowsAbove gone.n back
  front_ascend : RowsAscend front
  back_ascend : RowsAscend back

around : (rows : List Row) (gone : Row) → RowsAscend rows → row_at rows gone.n ≡ Some gone → Around rows gone
around [] gone h there = absurd (cc)
around (row ∷ rows) gone h there =
    ⊎_elim
    (λ here. record {
      front = [];
      back = rows;
      all = ap (λ x. x ∷ rows) here.0;
      left = here.1;
      below = tt;
      above = subst (λ (x : Row). RowsAbove x.n rows) here.0 h.0;
      front_ascend = tt;
      back_ascend = h.1;
    })
    (λ later.
    let rest = around rows gone h.1 later.0 in
    let less : row.n < gone.n = found_above row.n gone.n rows gone h.0 later.0 in
    record {
      front = row ∷ rest.front;
      back = rest.back;
      all = ap (λ xs. row ∷ xs) rest.all;
      left = later.1 ∙ ap (λ xs. row ∷ xs) rest.left;
      below = (less, rest.below);
      above = rest.above;
      front_ascend = (above_front row.n rest.front (gone ∷ rest.back) (subst (λ (xs : List Row). RowsAbove row.n xs) rest.all h.0), rest.front_ascend);
      back_ascend = rest.back_ascend;
    })
    (head_or_tail gone row rows h there)
  where
    above_front : (n : ℕ) (xs ys : List Row) → RowsAbove n (xs ++ ys) → RowsAbove n xs
    above_front n [] ys a = tt
    above_front n (x ∷ xs) ys a = (a.0, above_front n xs ys a.1)

or_same : {X : Type 0} (a : Option X) (x y : X) → option_or (option_or a (Some x)) (Some y) ≡ option_or a (Some x)
or_same None x y = refl
or_same (Some z) x y = refl

last-append : (front back : List ℕ) → last_number (front ++ back) ≡ option_or (last_number back) (last_number front)
last-append [] back = sym (or_none (last_number back))
last-append (x ∷ front) back = ap (λ o. option_or o (Some x)) (last-append front back) ∙ regroup (last_number back) (last_number front) (Some x)
  where
    regroup : (a b c : Option ℕ) → option_or (option_or a b) c ≡ option_or a (option_or b c)
    regroup None b c = refl
    regroup (Some y) b c = refl

-- the ends of numbers of which one leaves
module _ (n : ℕ) where
  first_left : (front back : List ℕ) → (if is_none (last_number front) then first_number back else first_number (front ++ n ∷ back)) ≡ first_number (front ++ back)
  first_left [] back = refl
  first_left (x ∷ front) back = rw (some_or (last_number front) x) refl
    where
      some_or : (o : Option ℕ) (y : ℕ) → is_none (option_or o (Some y)) ≡ false
      some_or None y = refl
      some_or (Some z) y = refl

  last_left : (front back : List ℕ) → (if is_none (first_number back) then last_number front else last_number (front ++ n ∷ back)) ≡ last_number (front ++ back)
  last_left front [] = sym (last-append front [])
  last_left front (x ∷ back) = last-append front (n ∷ x ∷ back) ∙ ap (λ o. option_or o (last_number front)) (or_same (last_number back) x n) ∙ sym (last-append front (x ∷ back))

module _ (gone : Row) (front back : List Row) (below : RowsBelow gone.n front) (above : RowsAbove gone.n back) (front_ascend : RowsAscend front) (back_ascend : RowsAscend back) where
  place_gone : link_of (front ++ gone ∷ back) (Some gone)
      ≡ Some (record { machine = gone.machine; previous = last_number (numbers_of front gone.machine); next = first_number (numbers_of back gone.machine) })
  place_gone =
      let here : numbers_of (gone ∷ back) gone.machine ≡ gone.n ∷ numbers_of back gone.machine = rw (eq-eqb gone.machine.0 gone.machine.0 refl) refl in
      let numbers = numbers-append front (gone ∷ back) gone.machine ∙ ap (λ ns. numbers_of front gone.machine ++ ns) here in
      let under = numbers-under gone.n front gone.machine below in
      let over = numbers-over gone.n back gone.machine above in
      let same : (nat_lt gone.n gone.n) ≡ false = grind (arith, nat_tests) in
      let before : number_before (numbers_of front gone.machine ++ gone.n ∷ numbers_of back gone.machine) gone.n ≡ last_number (numbers_of front gone.machine) =
      before_back (numbers_of front gone.machine) (gone.n ∷ numbers_of back gone.machine) gone.n under
      ∙ ap (λ b. option_or (cond b (option_or (number_before (numbers_of back gone.machine) gone.n) (Some gone.n)) (number_before (numbers_of back gone.machine) gone.n)) (last_number (numbers_of front gone.machine))) same
      ∙ ap (λ o. option_or o (last_number (numbers_of front gone.machine))) (before_over (numbers_of back gone.machine) gone.n over) in
      let after : number_after (numbers_of front gone.machine ++ gone.n ∷ numbers_of back gone.machine) gone.n ≡ first_number (numbers_of back gone.machine) =
      after_back (numbers_of front gone.machine) (gone.n ∷ numbers_of back gone.machine) gone.n under
      ∙ ap (λ b. cond b (Some gone.n) (number_after (numbers_of back gone.machine) gone.n)) same
      ∙ after_over (numbers_of back gone.machine) gone.n over in
      rw numbers (rw (before, after) refl)

  ends_left : record {
    first = if is_none (last_number (numbers_of front gone.machine)) then first_number (numbers_of back gone.machine) else first_number (numbers_of (front ++ gone ∷ back) gone.machine);
    last = if is_none (first_number (numbers_of back gone.machine)) then last_number (numbers_of front gone.machine) else last_number (numbers_of (front ++ gone ∷ back) gone.machine);
  } ≡ ends_of (numbers_of (front ++ back) gone.machine)
  ends_left =
      let here : numbers_of (gone ∷ back) gone.machine ≡ gone.n ∷ numbers_of back gone.machine = rw (eq-eqb gone.machine.0 gone.machine.0 refl) refl in
      let was = numbers-append front (gone ∷ back) gone.machine ∙ ap (λ ns. numbers_of front gone.machine ++ ns) here in
      let is = numbers-append front back gone.machine in
      rw (was, is) (let first = first_left gone.n (numbers_of front gone.machine) (numbers_of back gone.machine) in let last = last_left gone.n (numbers_of front gone.machine) (numbers_of back gone.machine) in λ i. record { first = first i; last = last i })

  none_there : row_at (front ++ back) gone.n ≡ None
  none_there = find-append (λ r. r.n == gone.n) front back ∙ rw (below_none gone.n front below, above_none gone.n back above) refl

  other_there : (k : ℕ) → (gone.n == k) ≡ false → row_at (front ++ gone ∷ back) k ≡ row_at (front ++ back) k
  other_there k other =
      find-append (λ r. r.n == k) front (gone ∷ back) ∙ ap (λ b. option_or (row_at front k) (cond b (Some gone) (row_at back k))) other ∙ sym (find-append (λ r. r.n == k) front back)

  abbrev passed : ℕ → Option Link → Option Link
  passed k o =
      if is_number k (last_number (numbers_of front gone.machine))
      then option_map (with_next (first_number (numbers_of back gone.machine))) o
      else o

  abbrev mended : ℕ → Option Link → Option Link
  mended k o =
      if is_number k (first_number (numbers_of back gone.machine))
      then option_map (with_previous (last_number (numbers_of front gone.machine))) o
      else o

  others_front : (x : Row) → same_address x.machine gone.machine ≡ false → numbers_of (gone ∷ back) x.machine ≡ numbers_of back x.machine
  others_front x miss = numbers-apart gone back x.machine (same_sym x.machine gone.machine miss)

  others_back : (x : Row) → same_address x.machine gone.machine ≡ false → numbers_of (front ++ gone ∷ []) x.machine ≡ numbers_of front x.machine
  others_back x miss =
      numbers-append front (gone ∷ []) x.machine ∙ ap (λ ns. numbers_of front x.machine ++ ns) (numbers-apart gone [] x.machine (same_sym x.machine gone.machine miss))
      ∙ append-nil (numbers_of front x.machine)

  below_gone : (x : Row) → gone.n < x.n → (rows : List Row) → RowsBelow gone.n rows → RowsBelow x.n (rows ++ gone ∷ [])
  below_gone x less [] h = (less, tt)
  below_gone x less (row ∷ rows) h = (let p : row.n < gone.n = h.0 in omega arith, below_gone x less rows h.1)

  below_more : (x : Row) → gone.n < x.n → (rows : List Row) → RowsBelow gone.n rows → RowsBelow x.n rows
  below_more x less [] h = tt
  below_more x less (row ∷ rows) h = (let p : row.n < gone.n = h.0 in omega arith, below_more x less rows h.1)

  above_more : (x : Row) → x.n < gone.n → (rows : List Row) → RowsAbove gone.n rows → RowsAbove x.n rows
  above_more x less [] h = tt
  above_more x less (row ∷ rows) h = (let p : gone.n < row.n = h.0 in omega arith, above_more x less rows h.1)

  front_mended : (x : Row) → row_at front x.n ≡ Some x → mended x.n (passed x.n (link_of (front ++ gone ∷ back) (Some x))) ≡ link_of (front ++ back) (Some x)
  front_mended x there =
      let less : x.n < gone.n = found_below gone.n x.n front x below there in
      let over = above_more x less back above in
      let kept = front_kept front (gone ∷ back) back gone.machine x.n x front_ascend there (less, over) over (others_front x) in
      let none = miss_first x.n (numbers_of back gone.machine) (over_miss x.n (numbers_of back gone.machine) (numbers-over x.n back gone.machine over)) in
      ap (λ b. if b then option_map (with_previous (last_number (numbers_of front gone.machine))) (passed x.n (link_of (front ++ gone ∷ back) (Some x))) else passed x.n (link_of (front ++ gone ∷ back) (Some x))) none ∙ kept

  back_mended : (x : Row) → row_at back x.n ≡ Some x → mended x.n (passed x.n (link_of (front ++ gone ∷ back) (Some x))) ≡ link_of (front ++ back) (Some x)
  back_mended x there =
      let less : gone.n < x.n = found_above gone.n x.n back x above there in
      let under = below_more x less front below in
      let kept = back_kept back (front ++ gone ∷ []) front gone.machine x.n x back_ascend there (below_gone x less front below) under (others_back x) in
      let none = miss_last x.n (numbers_of front gone.machine) (under_miss x.n (numbers_of front gone.machine) (numbers-under x.n front gone.machine under)) in
      let same : passed x.n (link_of (front ++ gone ∷ back) (Some x)) ≡ link_of (front ++ gone ∷ back) (Some x) =
      ap (λ b. if b then option_map (with_next (first_number (numbers_of back gone.machine))) (link_of (front ++ gone ∷ back) (Some x)) else link_of (front ++ gone ∷ back) (Some x)) none in
      ap (mended x.n) same ∙ subst (λ (all : List Row). mended x.n (link_of all (Some x)) ≡ link_of (front ++ back) (Some x)) (append_assoc front (gone ∷ []) back) kept

  mended-none : (k : ℕ) → mended k (passed k None) ≡ None
  mended-none k = grind arith

  mended_all : (k : ℕ) (o p : Option Row) → row_at front k ≡ o → row_at back k ≡ p
      → mended k (passed k (link_of (front ++ gone ∷ back) (option_or o p))) ≡ link_of (front ++ back) (option_or o p)
  mended_all k None None is also = mended-none k
  mended_all k (Some x) p is also =
      let at = number_found front k x is in
      subst (λ (y : ℕ). mended y (passed y (link_of (front ++ gone ∷ back) (Some x))) ≡ link_of (front ++ back) (Some x)) at
      (front_mended x (subst (λ (y : ℕ). row_at front y ≡ Some x) (sym at) is))
  mended_all k None (Some x) is also =
      let at = number_found back k x also in
      subst (λ (y : ℕ). mended y (passed y (link_of (front ++ gone ∷ back) (Some x))) ≡ link_of (front ++ back) (Some x)) at
      (back_mended x (subst (λ (y : ℕ). row_at back y ≡ Some x) (sym at) also))

  left_links : (k : ℕ) → (gone.n == k) ≡ false
      → mended k (passed k (link_of (front ++ gone ∷ back) (row_at (front ++ gone ∷ back) k))) ≡ link_of (front ++ back) (row_at (front ++ back) k)
  left_links k other =
      let there = find-append (λ r. r.n == k) front back in
      ap (λ o. mended k (passed k (link_of (front ++ gone ∷ back) o))) (other_there k other ∙ there)
      ∙ mended_all k (row_at front k) (row_at back k) refl refl ∙ sym (ap (link_of (front ++ back)) there)

  other_numbers : (m : Ip4) → same_address gone.machine m ≡ false → numbers_of (front ++ gone ∷ back) m ≡ numbers_of (front ++ back) m
  other_numbers m miss =
      numbers-append front (gone ∷ back) m ∙ ap (λ ns. numbers_of front m ++ ns) (numbers-apart gone back m miss) ∙ sym (numbers-append front back m)

  abbrev place : Link
  place = record { machine = gone.machine; previous = last_number (numbers_of front gone.machine); next = first_number (numbers_of back gone.machine) }

  left_ends : (ends ends2 : Ip4 → Option Ends) (after : Ends) (m : Ip4)
      → ((x : Ip4) → unwrap_or (ends x) no_ends ≡ ends_of (numbers_of (front ++ gone ∷ back) x))
      → after ≡ ends_of (numbers_of (front ++ back) gone.machine)
      → ends2 m ≡ (if same_address gone.machine m then option_map (λ _. after) (ends gone.machine) else ends m)
      → unwrap_or (ends2 m) no_ends ≡ ends_of (numbers_of (front ++ back) m)
  left_ends ends ends2 after m all is ended = by_test (same_address gone.machine m)
      (λ hit.
      let some = present (ends gone.machine) (ap (λ (e : Ends). e.last) (all gone.machine) ∙ last_there) in
      let here = ap (λ o. unwrap_or o no_ends) (rw hit at ended) ∙ some ∙ is in
      subst (λ (x : Ip4). unwrap_or (ends2 m) no_ends ≡ ends_of (numbers_of (front ++ back) x)) (address_is gone.machine m hit) here)
      (λ miss. ap (λ o. unwrap_or o no_ends) (rw miss at ended) ∙ all m ∙ ap ends_of (other_numbers m miss))
    where
      last_there : last_number (numbers_of (front ++ gone ∷ back) gone.machine) ≡ option_or (option_or (last_number (numbers_of back gone.machine)) (Some gone.n)) (last_number (numbers_of front gone.machine))
      last_there =
          ap last_number (numbers-append front (gone ∷ back) gone.machine)
          ∙ last-append (numbers_of front gone.machine) (numbers_of (gone ∷ back) gone.machine)
          ∙ ap (λ b. option_or (last_number (cond b (gone.n ∷ numbers_of back gone.machine) (numbers_of back gone.machine))) (last_number (numbers_of front gone.machine))) (eq-eqb gone.machine.0 gone.machine.0 refl)

      present : (o : Option Ends) → (unwrap_or o no_ends).last ≡ option_or (option_or (last_number (numbers_of back gone.machine)) (Some gone.n)) (last_number (numbers_of front gone.machine))
          → unwrap_or (option_map (λ (_ : Ends). after) o) no_ends ≡ after
      present None h = absurd (none_some (last_number (numbers_of back gone.machine)) h)
        where
          none_some : (b : Option ℕ) → None ≡ option_or (option_or b (Some gone.n)) (last_number (numbers_of front gone.machine)) → ⊥
          none_some None e = cc
          none_some (Some y) e = cc
      present (Some x) h = refl

-- what the code does where a row leaves
pub record Unlinks (n : ℕ) (link : Link) (links links1 links2 links3 : ℕ → Option Link) (ends ends2 : Ip4 → Option Ends) (before after : Ends) : Type 0 where
  pub dropped : (k : ℕ) → links1 k ≡ (if n == k then None else links k)
  pub next : (k : ℕ) → links2 k ≡ (if is_number k link.previous then option_map (with_next link.next) (links1 k) else links1 k)
  pub previous : (k : ℕ) → links3 k ≡ (if is_number k link.next then option_map (with_previous link.previous) (links2 k) else links2 k)
  pub was : before ≡ unwrap_or (ends link.machine) no_ends
  pub first : after.first ≡ (if is_none link.previous then link.next else before.first)
  pub last : after.last ≡ (if is_none link.next then link.previous else before.last)
  pub ended : (m : Ip4) → ends2 m ≡ (if same_address link.machine m then option_map (λ _. after) (ends link.machine) else ends m)

module _ (gone : Row) (front back : List Row) (below : RowsBelow gone.n front) (above : RowsAbove gone.n back) (front_ascend : RowsAscend front) (back_ascend : RowsAscend back)
    (links links1 links2 links3 : ℕ → Option Link) (ends ends2 : Ip4 → Option Ends) (before after : Ends) (h : IsLinked (front ++ gone ∷ back) links ends) where
  linked-left : Unlinks gone.n (place gone front back below above front_ascend back_ascend) links links1 links2 links3 ends ends2 before after → IsLinked (front ++ back) links3 ends2
  linked-left u = record {
    links = λ k. by_test (gone.n == k)
        (λ hit.
        let at = eqb-true gone.n k hit in
        let none1 : links1 k ≡ None = rw hit at (u.dropped k) in
        let none2 : links2 k ≡ None = u.next k ∙ rw none1 (no_link _ (with_next (first_number (numbers_of back gone.machine)))) in
        let none3 : links3 k ≡ None = u.previous k ∙ rw none2 (no_link _ (with_previous (last_number (numbers_of front gone.machine)))) in
        none3 ∙ sym (ap (link_of (front ++ back)) (subst (λ (y : ℕ). row_at (front ++ back) y ≡ None) at (none_there gone front back below above front_ascend back_ascend))))
        (λ miss.
        let kept = (rw miss at (u.dropped k)) ∙ h.links k in
        u.previous k ∙ ap (mended gone front back below above front_ascend back_ascend k) (u.next k ∙ ap (passed gone front back below above front_ascend back_ascend k) kept)
        ∙ left_links gone front back below above front_ascend back_ascend k miss);
    ends = λ m.
        let was = u.was ∙ h.ends gone.machine in
        let first = u.first ∙ ap (λ (e : Ends). if is_none (last_number (numbers_of front gone.machine)) then first_number (numbers_of back gone.machine) else e.first) was in
        let last = u.last ∙ ap (λ (e : Ends). if is_none (first_number (numbers_of back gone.machine)) then last_number (numbers_of front gone.machine) else e.last) was in
        let is : after ≡ ends_of (numbers_of (front ++ back) gone.machine) =
        (λ i. record { first = first i; last = last i }) ∙ ends_left gone front back below above front_ascend back_ascend in
        left_ends gone front back below above front_ascend back_ascend ends ends2 after m h.ends is (u.ended m);
  }

  gone_there : row_at (front ++ gone ∷ back) gone.n ≡ Some gone
  gone_there =
      find-append (λ r. r.n == gone.n) front (gone ∷ back) ∙ ap (λ o. option_or o (cond (gone.n == gone.n) (Some gone) (row_at back gone.n))) (below_none gone.n front below)
      ∙ ap (λ b. cond b (Some gone) (row_at back gone.n)) (eq-eqb gone.n gone.n refl)

  pub linked-around : (link : Link) → links gone.n ≡ Some link → Unlinks gone.n link links links1 links2 links3 ends ends2 before after → IsLinked (front ++ back) links3 ends2
  linked-around link is u =
      let there = sym is ∙ h.links gone.n ∙ ap (link_of (front ++ gone ∷ back)) gone_there ∙ place_gone gone front back below above front_ascend back_ascend in
      let same : link ≡ place gone front back below above front_ascend back_ascend = cc in
      linked-left (subst (λ (l : Link). Unlinks gone.n l links links1 links2 links3 ends ends2 before after) same u)

module _ (rows : List Row) (links links1 links2 links3 : ℕ → Option Link) (ends ends2 : Ip4 → Option Ends) (before after : Ends) (link : Link)
    (ascend : RowsAscend rows) (h : IsLinked rows links ends) where
  without_gone : (gone : Row) → row_at rows gone.n ≡ Some gone → links gone.n ≡ Some link
      → Unlinks gone.n link links links1 links2 links3 ends ends2 before after → IsLinked (without gone.n rows) links3 ends2
  without_gone gone there is u =
      let a = around rows gone ascend there in
      let cut = subst (λ (all : List Row). IsLinked all links ends) a.all h in
      subst (λ (all : List Row). IsLinked all links3 ends2) (sym a.left)
      (linked-around gone a.front a.back a.below a.above a.front_ascend a.back_ascend links links1 links2 links3 ends ends2 before after cut link is u)

  pub linked-without : (n : ℕ) (gone : Row) → row_at rows n ≡ Some gone → links n ≡ Some link
      → Unlinks n link links links1 links2 links3 ends ends2 before after → IsLinked (without n rows) links3 ends2
  linked-without n gone there is u =
      let number = sym (number_found rows n gone there) in
      subst (λ (k : ℕ). IsLinked (without k rows) links3 ends2) (sym number)
      (without_gone gone (subst (λ (k : ℕ). row_at rows k ≡ Some gone) number there) (subst (λ (k : ℕ). links k ≡ Some link) number is)
      (subst (λ (k : ℕ). Unlinks k link links links1 links2 links3 ends ends2 before after) number u))

-- the ends that were, if any, without a link
pub without_link-same : (link : Link) (ends ends2 : Ip4 → Option Ends)
    → ((m : Ip4) → ends2 m ≡ (if same_address link.machine m then option_map (without_link link) (ends link.machine) else ends m))
    → (m : Ip4) → ends2 m
    ≡ (if same_address link.machine m
    then option_map (λ _. without_link link (unwrap_or (ends link.machine) no_ends)) (ends link.machine)
    else ends m)
without_link-same link ends ends2 is m =
    is m ∙ ap (λ (o : Option Ends). if same_address link.machine m then o else ends m) (by (ends link.machine))
  where
    by : (o : Option Ends) → option_map (without_link link) o ≡ option_map (λ _. without_link link (unwrap_or o no_ends)) o
    by None = refl
    by (Some e) = refl

-- ---- the next number, from a link or from the ends

pub next_first : (ns : List ℕ) (first above : ℕ) → first_number ns ≡ Some first → above < first → Some first ≡ number_after ns above
next_first [] first above is less = absurd (cc)
next_first (n ∷ ns) first above is less = let same : n ≡ first = cc in grind (arith, nat_tests, same, less)

pub next_none : (ns : List ℕ) (above : ℕ) → first_number ns ≡ None → None ≡ number_after ns above
next_none [] above is = refl
next_none (n ∷ ns) above is = absurd (cc)

pub next_link : (rows : List Row) (m : Ip4) (above : ℕ) (link : Link) → link_of rows (row_at rows above) ≡ Some link → same_address link.machine m ≡ true → link.next ≡ number_after (numbers_of rows m) above
next_link rows m above link is same = by (row_at rows above) refl is
  where
    by : (o : Option Row) → row_at rows above ≡ o → link_of rows o ≡ Some link → link.next ≡ number_after (numbers_of rows m) above
    by None there e = absurd (cc)
    by (Some row) there e =
        let is_link : place_in (numbers_of rows row.machine) row ≡ link = cc in
        let at = number_found rows above row there in
        let machine : row.machine ≡ m = ap (λ (l : Link). l.machine) is_link ∙ address_is link.machine m same in
        sym (ap (λ (l : Link). l.next) is_link) ∙ subst (λ (x : Ip4). number_after (numbers_of rows row.machine) row.n ≡ number_after (numbers_of rows x) row.n) machine refl ∙ ap (number_after (numbers_of rows m)) at

-- ---- edits that keep number and machine

module _ (f : Row → Row) (number : (row : Row) → (f row).n ≡ row.n) (machine : (row : Row) → (f row).machine ≡ row.machine) where
  numbers-map : (rows : List Row) (m : Ip4) → numbers_of (map f rows) m ≡ numbers_of rows m
  numbers-map [] m = refl
  numbers-map (row ∷ rows) m = rw (machine row, number row, numbers-map rows m) refl

  row_at-map : (rows : List Row) (k : ℕ) → row_at (map f rows) k ≡ option_map f (row_at rows k)
  row_at-map [] k = refl
  row_at-map (row ∷ rows) k = by (row.n == k) refl (row_at-map rows k)
    where
      by : (b : Bool) → (row.n == k) ≡ b → row_at (map f rows) k ≡ option_map f (row_at rows k)
          → row_at (map f (row ∷ rows)) k ≡ option_map f (row_at (row ∷ rows) k)
      by true e rest =
          ap (λ n. cond (n == k) (Some (f row)) (row_at (map f rows) k)) (number row)
          ∙ ap (λ b. cond b (Some (f row)) (row_at (map f rows) k)) e
          ∙ sym (ap (λ b. option_map f (cond b (Some row) (row_at rows k))) e)
      by false e rest =
          ap (λ n. cond (n == k) (Some (f row)) (row_at (map f rows) k)) (number row)
          ∙ ap (λ b. cond b (Some (f row)) (row_at (map f rows) k)) e
          ∙ rest
          ∙ sym (ap (λ b. option_map f (cond b (Some row) (row_at rows k))) e)

  link_of-map : (rows : List Row) (o : Option Row) → link_of (map f rows) (option_map f o) ≡ link_of rows o
  link_of-map rows None = refl
  link_of-map rows (Some row) = rw (machine row, number row, numbers-map rows row.machine) refl

  pub linked-map : (rows : List Row) (links : ℕ → Option Link) (ends : Ip4 → Option Ends) → IsLinked rows links ends → IsLinked (map f rows) links ends
  linked-map rows links ends h = record {
    links = λ k. h.links k ∙ sym (ap (link_of (map f rows)) (row_at-map rows k) ∙ link_of-map rows (row_at rows k));
    ends = λ m. h.ends m ∙ sym (ap ends_of (numbers-map rows m));
  }

pub linked-same : (rows rows2 : List Row) (links links2 : ℕ → Option Link) (ends ends2 : Ip4 → Option Ends) → IsLinked rows links ends
    → rows2 ≡ rows → ((k : ℕ) → links2 k ≡ links k) → ((m : Ip4) → ends2 m ≡ ends m) → IsLinked rows2 links2 ends2
linked-same rows rows2 links links2 ends ends2 h is link end = record {
  links = λ k. link k ∙ h.links k ∙ sym (ap (λ xs. link_of xs (row_at xs k)) is);
  ends = λ m. ap (λ o. unwrap_or o no_ends) (end m) ∙ h.ends m ∙ sym (ap (λ xs. ends_of (numbers_of xs m)) is);
}
