-- Full leases: they have no free port, a lease without one is full, and they stay full.
use Rattle.std.proofs.Common.{◌≡◌, ◌≢◌, ◌∙◌, inl, inr, ℕ, ◌+◌, ◌<◌, ◌≤◌, ◌%◌, Bool, true, false, ◌==◌, nat_lt, List, [], ◌∷◌, ◌++◌, find, map, Option, Some, None, refl, sym, ap, subst, arith}
use Rattle.std.specs.Prelude.{◌&&◌, ◌||◌, min, cond, is_some, is_none}
use Rattle.std.specs.List.{flat_map, list_any}
use Rattle.std.proofs.lemmas.Bool.Decides.{nat_tests}
use Rattle.std.proofs.lemmas.List.Concat.{flat_map-cons}
use Rattle.std.proofs.lemmas.List.Folds.{find-append}
use Rattle.wire_core.specs.declared.address.Ip4.{Ip4}
use Rattle.wire_core.specs.declared.flow.FlowKey.{FlowKey}
use Rattle.wire_core.specs.declared.range.Range.{Range}
use Rattle.wire_core.specs.declared.rules.VipRule.{VipRule}
use Rattle.wire_core.specs.Ranges.{allows, is_leasable}
use Rattle.wire_core.specs.Members.{In, Each}
use Rattle.lease_spec.specs.declared.row.Row.{Row}
use Rattle.lease_spec.specs.Table.{row_at}
use Rattle.lease_spec.specs.Holders.{OwnRanges, GoesOn, SameLease}
use Rattle.lease_spec.proofs.CauseLaws.{row_number}
use Rattle.lease_spec.proofs.MemberLaws.{each_in, each_on, found_in, in_filter}
use Rattle.port_leases.specs.TableState.{onward, rows_of}
use Rattle.wire_core.proofs.SameLaws.{key_is}
use Rattle.wire_core.specs.Same.{same_key}
use Rattle.plain_schedule.specs.declared.connections.Connection.{Connection}
use Rattle.plain_schedule.specs.declared.full_leases.RemoteEnd.{RemoteEnd}
use Rattle.plain_schedule.specs.Connections.{has_public, newest, standing}
use Rattle.plain_schedule.specs.Packets.{with_public, through, places, eight, is_free, first_free}
use Rattle.plain_schedule.specs.Schedule.{Plain}
use Rattle.plain_schedule.specs.Safety.{IsThrough}
use Rattle.plain_schedule.specs.FullLeases.{AreFull, IsFull, bound, end_of, lease_of, public_at}
use Rattle.plain_schedule.specs.Kept.{Sound, Stands}
use Rattle.plain_schedule.proofs.FreePorts.{found_later}
use Rattle.plain_schedule.proofs.KeyLaws.{number_is, address_is}
use Rattle.plain_schedule.proofs.ListLaws.{newest-more, newest_in, none_some, own_row, in_filter_back}
use Rattle.plain_schedule.proofs.Kept.{rows, is_found, some_is, stood_at}
use Rattle.plain_schedule.proofs.Openings.{IsNew, places_small, row_fits, with_one}

-- ---- a search that finds nothing

pub all_fail : {X Y : Type 0} (p : X → Bool) (f : Y → X) (ys : List Y) → Each (λ y. p (f y) ≡ false) ys
    → find p (map f ys) ≡ None
all_fail p f [] h = refl
all_fail p f (y ∷ ys) h = rw h.0 (all_fail p f ys h.1)

pub each_fails : {X Y : Type 0} (p : X → Bool) (f : Y → X) (ys : List Y) → find p (map f ys) ≡ None
    → Each (λ y. p (f y) ≡ false) ys
each_fails p f [] e = tt
each_fails p f (y ∷ ys) e = by (p (f y)) refl e (each_fails p f ys)
  where
    by : (b : Bool) → p (f y) ≡ b → cond b (Some (f y)) (find p (map f ys)) ≡ None
        → (find p (map f ys) ≡ None → Each (λ y. p (f y) ≡ false) ys)
        → (p (f y) ≡ false) × Each (λ y. p (f y) ≡ false) ys
    by true is e rest = absurd (cc)
    by false is e rest = (is, rest e)

-- ---- a full lease has no free port

lease_stands : (rs : List Row) (o : Option Connection) (n : ℕ) → lease_of o ≡ Some n → is_some (row_at rs n) ≡ true
    → is_none (standing rs o) ≡ false
lease_stands rs None n e st = none_some e
lease_stands rs (Some c) n e st = rw (some_is c.n n e, st) refl

pub full_none : (s : Plain) (key : FlowKey) (row : Row) → IsFull s.opened (end_of key) row
    → is_some (row_at (rows s) row.n) ≡ true → find (is_free s.table s.opened) (eight key row) ≡ None
full_none s key row full st =
    all_fail (is_free s.table s.opened) (through row key) places
    (each_on (λ i. lease_of (newest (has_public (public_at (end_of key) row i)) s.opened) ≡ Some row.n) _
    (λ i e. lease_stands (rows s) (newest (has_public (public_at (end_of key) row i)) s.opened) row.n e st) places full)

-- ---- rows that are passed

-- rows with nothing to find may be left out
pub past : {X : Type 0} (p : X → Bool) (f : Row → List X) (m : Ip4) (above : ℕ) (rs : List Row)
    → ((row : Row) → In row rs → (row.machine.0 == m.0) ≡ true → row.n ≤ above → find p (f row) ≡ None)
    → find p (flat_map f (rows_of rs m 0)) ≡ find p (flat_map f (rows_of rs m above))
past p f m above [] none = refl
past {X = X} p f m above (row ∷ rs) none =
    by (nat_lt 0 row.n) (nat_lt above row.n) (row.machine.0 == m.0) refl refl refl
    (past p f m above rs (λ r i. none r (inr i)))
  where
    with : List Row → Option X
    with xs = find p (flat_map f xs)

    by : (low high mine : Bool) → nat_lt 0 row.n ≡ low → nat_lt above row.n ≡ high → (row.machine.0 == m.0) ≡ mine
        → with (rows_of rs m 0) ≡ with (rows_of rs m above)
        → with (cond (low && mine) (row ∷ rows_of rs m 0) (rows_of rs m 0))
        ≡ with (cond (high && mine) (row ∷ rows_of rs m above) (rows_of rs m above))
    by true true true l h is rest = rw (flat_map-cons, flat_map-cons, find-append, find-append, rest) refl
    by true true false l h is rest = rest
    by true false true l h is rest =
        let low : row.n ≤ above = grind (arith, nat_tests) in
        found_later p f row (rows_of rs m 0) (none row (inl refl) is low) ∙ rest
    by true false false l h is rest = rest
    by false true mine l h is rest =
        let none : row.n ≤ 0 = grind (arith, nat_tests) in
        let some : above < row.n = grind (arith, nat_tests) in
        absurd (omega arith)
    by false false mine l h is rest = rest

pub past_full : (s : Plain) (key : FlowKey) (n : ℕ) → Sound s → AreFull s (end_of key) n
    → find (is_free s.table s.opened) (flat_map (eight key) (rows_of (rows s) key.src n))
    ≡ first_free s.table s.opened key
past_full s key n h full =
    sym (past (is_free s.table s.opened) (eight key) key.src n (rows s) (λ row i mine low.
    full_none s key row (full.full row i (address_is row.machine key.src (number_is _ _ mine)) low)
    (is_found (rows s) row.n row (own_row (rows s) row h.numbers i))))

-- ---- a lease without a free port is full

aligned : (vips : List VipRule) (vip : Ip4) (first : ℕ)
    → list_any (λ rule. (rule.vip.0 == vip.0) && allows rule first) vips ≡ true → first % 8 ≡ 0
aligned [] vip first e = absurd (cc)
aligned (rule ∷ rules) vip first e = by ((rule.vip.0 == vip.0) && allows rule first) refl e (aligned rules vip first)
  where
    by : (b : Bool) → ((rule.vip.0 == vip.0) && allows rule first) ≡ b
        → (b || list_any (λ rule. (rule.vip.0 == vip.0) && allows rule first) rules) ≡ true
        → (list_any (λ rule. (rule.vip.0 == vip.0) && allows rule first) rules ≡ true → first % 8 ≡ 0) → first % 8 ≡ 0
    by true is e rest =
        let within : (first % 8 == 0) ≡ true = grind arith in
        number_is _ _ within
    by false is e rest = rest e

row_aligned : (s : Plain) (row : Row) → Sound s → In row (rows s) → row.range.start % 8 ≡ 0
row_aligned s row h there =
    aligned s.table.rules.vips row.range.vip row.range.start
    (each_in (λ (r : Row). is_leasable s.table.rules r.range ≡ true) (rows s) row h.leasable there)

-- rows with ranges of their own: those on one range are one
one_row : (rs : List Row) (a b : Row) → OwnRanges rs → In a rs → In b rs → a.range ≡ b.range → a ≡ b
one_row [] a b own i j e = absurd i
one_row (r ∷ rs) a b own i j e = elim i [
  | inl p ↦ elim j [
    | inl q ↦ sym p ∙ q
    | inr y ↦ absurd (apart b y (ap (λ (x : Row). x.range) p ∙ e))
  ]
  | inr x ↦ elim j [
    | inl q ↦ absurd (apart a x (ap (λ (x : Row). x.range) q ∙ sym e))
    | inr y ↦ one_row rs a b own.1 x y e
  ]
]
  where
    apart : (x : Row) → In x rs → r.range ≢ x.range
    apart x i = each_in (λ (x : Row). r.range ≢ x.range) rs x own.0 i

range_is : (a b : Range) → a.vip ≡ b.vip → a.start ≡ b.start → a ≡ b
range_is a b vip start =
    ap (λ (v : Ip4). let r : Range = record { vip = v; start = a.start } in r) vip
    ∙ ap (λ (n : ℕ). let r : Range = record { vip = b.vip; start = n } in r) start

-- two ranges that start at multiples of eight and have one port are one
same_start : (a b i : ℕ) → a % 8 ≡ 0 → b % 8 ≡ 0 → i ≤ 7 → a ≤ b + i → b + i ≤ a + 7 → a ≡ b
same_start a b i p q small low high = omega arith

within : (start i : ℕ) → i ≤ 7 → start + 7 ≤ 65535 → min (start + i) 65535 ≡ start + i
within start i small fits = omega arith

-- a connection that stands on a port of a lease is that lease's
of_lease : (s : Plain) (e : RemoteEnd) (row : Row) (i : ℕ) (c : Connection) → Sound s → In row (rows s) → i ≤ 7
    → In c s.opened → Stands (rows s) c → c.public ≡ public_at e row i → c.n ≡ row.n
of_lease s e row i c h there small opened st at =
    let t : IsThrough s c = h.holders c opened st in
    let held : In t.row (rows s) = found_in (λ (r : Row). r.n == c.n) (rows s) t.row t.there in
    let fits : row.range.start + 7 ≤ 65535 = row_fits s row h there in
    let port : c.public.sport ≡ row.range.start + i
    = ap (λ (k : FlowKey). k.sport) at ∙ within row.range.start i small fits in
    let first = t.first in
    let last = t.last in
    let start : t.row.range.start ≡ row.range.start
    = same_start t.row.range.start row.range.start i (row_aligned s t.row h held) (row_aligned s row h there) small
    (omega arith) (omega arith) in
    let range : t.row.range ≡ row.range
    = range_is t.row.range row.range (t.vip ∙ ap (λ (k : FlowKey). k.src) at) start in
    let one : t.row ≡ row = one_row (rows s) t.row row h.ranges held there range in
    sym (row_number (rows s) c.n t.row t.there) ∙ ap (λ (r : Row). r.n) one

taken_by : (s : Plain) (e : RemoteEnd) (row : Row) (i : ℕ) (o : Option Connection) → Sound s → In row (rows s) → i ≤ 7
    → newest (has_public (public_at e row i)) s.opened ≡ o → is_none (standing (rows s) o) ≡ false
    → lease_of o ≡ Some row.n
taken_by s e row i None h there small is taken = absurd (cc)
taken_by s e row i (Some c) h there small is taken =
    let there_c : In c s.opened × (has_public (public_at e row i) c ≡ true)
    = newest_in (has_public (public_at e row i)) s.opened c is in
    ap (λ (n : ℕ). some n)
    (of_lease s e row i c h there small there_c.0 (stands (is_some (row_at (rows s) c.n)) refl taken)
    (key_is c.public (public_at e row i) there_c.1))
  where
    some : ℕ → Option ℕ
    some n = Some n

    stands : (b : Bool) → is_some (row_at (rows s) c.n) ≡ b → is_none (cond b (Some c) None) ≡ false
        → is_some (row_at (rows s) c.n) ≡ true
    stands true st e = st
    stands false st e = absurd (cc)

pub none_full : (s : Plain) (key : FlowKey) (row : Row) → Sound s → In row (rows s)
    → find (is_free s.table s.opened) (eight key row) ≡ None → IsFull s.opened (end_of key) row
none_full s key row h there none =
    each_both places places_small (each_fails (is_free s.table s.opened) (through row key) places none)
  where
    each_both : (is : List ℕ) → Each (λ i. i ≤ 7) is
        → Each (λ i. is_free s.table s.opened (through row key i) ≡ false) is
        → Each (λ i. lease_of (newest (has_public (public_at (end_of key) row i)) s.opened) ≡ Some row.n) is
    each_both [] small taken = tt
    each_both (i ∷ is) small taken = (
      taken_by s (end_of key) row i (newest (has_public (public_at (end_of key) row i)) s.opened) h there small.0 refl
          taken.0,
      each_both is small.1 taken.1,
    )

-- one lease more is full
pub one_more_full : (s : Plain) (key : FlowKey) (n : ℕ) (row : Row) → Sound s → AreFull s (end_of key) n
    → rows_of (rows s) key.src n ≡ onward (rows s) key.src (Some row)
    → find (is_free s.table s.opened) (eight key row) ≡ None → AreFull s (end_of key) row.n
one_more_full s key n row h full next none = record {
  full = λ r i mine low. by r i mine low (nat_lt n r.n) refl;
  old = each_in (λ (r : Row). r.n < bound s.table) (rows s) row h.below here;
}
  where
    here : In row (rows s)
    here =
        let i : In row (rows_of (rows s) key.src n) = subst (In row) (sym next) (inl refl) in
        (in_filter_back _ (rows s) row i).0

    at : (r : Row) → In r (rows s) → r.machine ≡ key.src → n < r.n → r.n ≤ row.n → IsFull s.opened (end_of key) r
    at r i mine above low =
        let passes : (nat_lt n r.n && (r.machine.0 == key.src.0)) ≡ true = grind (arith, nat_tests) in
        elim (subst (In r) next (in_filter (λ x. nat_lt n x.n && (x.machine.0 == key.src.0)) (rows s) r i passes)) [
          | inl same ↦ subst (IsFull s.opened (end_of key)) same (none_full s key row h here none)
          | inr later ↦ absurd (
              let passes : (nat_lt row.n r.n && (r.machine.0 == key.src.0)) ≡ true
              = (in_filter_back _ (rows s) r later).1 in
              let more : row.n < r.n = grind (arith, nat_tests) in omega arith)
        ]

    by : (r : Row) → In r (rows s) → r.machine ≡ key.src → r.n ≤ row.n → (b : Bool) → nat_lt n r.n ≡ b
        → IsFull s.opened (end_of key) r
    by r i mine low true above = at r i mine (grind (arith, nat_tests)) low
    by r i mine low false above = full.full r i mine (grind (arith, nat_tests))

-- ---- full leases stay full

-- while the table goes on
pub full_table : (s u : Plain) (e : RemoteEnd) (n : ℕ) → u.opened ≡ s.opened
    → GoesOn s.table.rules (bound s.table) (bound u.table) (rows s) (rows u) → Sound s → Sound u
    → AreFull s e n → AreFull u e n
full_table s u e n same g h k full = record {
  full = λ row i mine low. before row mine low (own_row (rows u) row k.numbers i);
  old = (let old = full.old in let up = g.rises in omega arith);
}
  where
    before : (row : Row) → row.machine ≡ e.machine → row.n ≤ n → row_at (rows u) row.n ≡ Some row
        → IsFull u.opened e row
    before row mine low there =
        let old = full.old in
        let b : (was : Row) × (row_at (rows s) row.n ≡ Some was) × SameLease was row
        = stood_at (bound s.table) (bound u.table) s.table.rules (rows s) (rows u) row.n row g (omega arith) there in
        let was : Row = b.0 in
        let number : was.n ≡ row.n = b.2.number in
        let is : IsFull s.opened e was
        = full.full was (found_in (λ (r : Row). r.n == row.n) (rows s) was b.1) (b.2.machine ∙ mine) (omega arith) in
        subst (λ (os : List Connection). IsFull os e row) (sym same)
        (subst (λ (r : Range). IsFull s.opened e (record row { range = r })) b.2.range
        (subst (λ (m : ℕ). Each (λ i. lease_of (newest (has_public (public_at e was i)) s.opened) ≡ Some m) places)
        number is))

-- while a connection opens
pub full_opens : (s : Plain) (c : Connection) (e : RemoteEnd) (n : ℕ) → Sound s → IsNew s c → AreFull s e n
    → AreFull (with_one s c) e n
full_opens s c e n h new full = record {
  full = λ row i mine low.
      let st = is_found (rows s) row.n row (own_row (rows s) row h.numbers i) in
      each_on (λ i. lease_of (newest (has_public (public_at e row i)) s.opened) ≡ Some row.n) _
      (λ i is. more row i st is) places (full.full row i mine low);
  old = full.old;
}
  where
    more : (row : Row) (i : ℕ) → is_some (row_at (rows s) row.n) ≡ true
        → lease_of (newest (has_public (public_at e row i)) s.opened) ≡ Some row.n
        → lease_of (newest (has_public (public_at e row i)) (s.opened ++ c ∷ [])) ≡ Some row.n
    more row i st is = rw newest-more (by (same_key c.public (public_at e row i)) refl)
      where
        by : (b : Bool) → same_key c.public (public_at e row i) ≡ b
            → lease_of (cond b (Some c) (newest (has_public (public_at e row i)) s.opened)) ≡ Some row.n
        by true same =
            let here : with_public s.table s.opened (public_at e row i) ≡ None
            = subst (λ (k : FlowKey). with_public s.table s.opened k ≡ None) (key_is c.public (public_at e row i) same)
            new.public in
            let taken : is_none (with_public s.table s.opened (public_at e row i)) ≡ false
            = lease_stands (rows s) (newest (has_public (public_at e row i)) s.opened) row.n is st in
            absurd (let free : true ≡ false = sym (ap is_none here) ∙ taken in cc)
        by false same = is
