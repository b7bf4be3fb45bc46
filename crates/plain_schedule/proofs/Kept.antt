-- A state stays sound while its table goes on.
use Rattle.std.proofs.Common.{◌≡◌, ℕ, ◌<◌, ◌≤◌, true, List, Option, Some, None, refl, sym, ap, ◌∙◌, subst, arith}
use Rattle.std.specs.Prelude.{is_some}
use Rattle.wire_core.specs.declared.address.Ip4.{Ip4}
use Rattle.wire_core.specs.declared.rules.LeaseRules.{LeaseRules}
use Rattle.wire_core.specs.Members.{In, Each}
use Rattle.lease_spec.specs.declared.row.Row.{Row}
use Rattle.lease_spec.specs.Table.{row_at, rule_of}
use Rattle.lease_spec.specs.Holders.{AllLeasable, SameLease, Stood, GoesOn}
use Rattle.lease_spec.proofs.CauseLaws.{row_number}
use Rattle.lease_spec.proofs.MemberLaws.{each_in, each_on}
use Rattle.plain_schedule.specs.declared.connections.Connection.{Connection}
use Rattle.plain_schedule.specs.FullLeases.{bound}
use Rattle.plain_schedule.specs.Kept.{Sound, Stands}
use Rattle.plain_schedule.specs.Schedule.{Plain}
use Rattle.plain_schedule.specs.Safety.{IsThrough}

abbrev pub rows : Plain → List Row
rows s = s.table.leases.rows

pub some_is : {X : Type 0} (x y : X) → Some x ≡ Some y → x ≡ y
some_is x y e = cc

-- what stands is found
pub found_row : (rs : List Row) (n : ℕ) → is_some (row_at rs n) ≡ true → (row : Row) × (row_at rs n ≡ Some row)
found_row rs n e = by (row_at rs n) refl e
  where
    by : (o : Option Row) → row_at rs n ≡ o → is_some o ≡ true → (row : Row) × (row_at rs n ≡ Some row)
    by (Some row) is e = (row, is)
    by None is e = absurd (cc)

pub is_found : (rs : List Row) (n : ℕ) (row : Row) → row_at rs n ≡ Some row → is_some (row_at rs n) ≡ true
is_found rs n row e = rw e refl

-- a lease that stands after it stood before, with its number
pub stood_at : (low high : ℕ) (rules : LeaseRules) (before after : List Row) (n : ℕ) (row : Row)
    → GoesOn rules low high before after → n < low → row_at after n ≡ Some row
    → (was : Row) × (row_at before n ≡ Some was) × SameLease was row
stood_at low high rules before after n row g lt e =
    let s : Stood before row = g.stood n row lt e in
    (s.was, subst (λ (k : ℕ). row_at before k ≡ Some s.was) (row_number after n row e) s.there, s.same)

pub still_through : (s u : Plain) (c : Connection) (was row : Row) → row_at (rows s) c.n ≡ Some was
    → row_at (rows u) c.n ≡ Some row → SameLease was row → IsThrough s c → IsThrough u c
still_through s u c was row before after same t =
    let one : t.row ≡ was = some_is t.row was (sym t.there ∙ before) in
    let range : t.row.range ≡ row.range = ap (λ (r : Row). r.range) one ∙ same.range in
    record {
      row = row;
      there = after;
      machine = sym same.machine ∙ sym (ap (λ (r : Row). r.machine) one) ∙ t.machine;
      vip = sym (ap (λ (r : _). r.vip) range) ∙ t.vip;
      first = (let first = t.first in let e = ap (λ (r : _). r.start) range in omega arith);
      last = (let last = t.last in let e = ap (λ (r : _). r.start) range in omega arith);
    }

-- the table goes on, and no connection is opened
pub sound_table : (s u : Plain) → u.opened ≡ s.opened → u.table.rules ≡ s.table.rules
    → GoesOn s.table.rules (bound s.table) (bound u.table) (rows s) (rows u) → Sound s → Sound u
sound_table s u same rules g h = record {
  ranges = g.ranges h.ranges;
  leasable = rw rules (g.leasable h.leasable);
  bounds = rw rules h.bounds;
  numbers = g.numbers h.below h.numbers;
  below = g.below h.below;
  old = rw same (each_on _ _ (λ c lt. let up = g.rises in omega arith) s.opened h.old);
  known = rw (same, rules) h.known;
  public = λ c i st.
      let back = stood c (there c i) st in
      rw same (h.public c (there c i) (is_found (rows s) c.n back.0 back.1));
  private = λ c i st.
      let back = stood c (there c i) st in
      rw same (h.private c (there c i) (is_found (rows s) c.n back.0 back.1));
  holders = λ c i st.
      let back = stood c (there c i) st in
      let now = found_row (rows u) c.n st in
      still_through s u c back.0 now.0 back.1 now.1 back.2
      (h.holders c (there c i) (is_found (rows s) c.n back.0 back.1));
}
  where
    there : (c : Connection) → In c u.opened → In c s.opened
    there c i = subst (In c) same i

    stood : (c : Connection) → In c s.opened → (st : Stands (rows u) c)
        → (was : Row) × (row_at (rows s) c.n ≡ Some was) × SameLease was (found_row (rows u) c.n st).0
    stood c i st =
        let now = found_row (rows u) c.n st in
        let low : c.n < bound s.table = each_in (λ (d : Connection). d.n < bound s.table) s.opened c h.old i in
        stood_at (bound s.table) (bound u.table) s.table.rules (rows s) (rows u) c.n now.0 g low now.1

-- the rules get more VIPs or machines
pub sound_rules : (s : Plain) (rules : LeaseRules) → AllLeasable rules (rows s)
    → Each (λ rule. rule.high ≤ 65535) rules.vips
    → ((m : Ip4) → is_some (rule_of s.table.rules m) ≡ true → is_some (rule_of rules m) ≡ true)
    → Sound s → Sound (record s { table = record s.table { rules = rules } })
sound_rules s rules leasable bounds known h = record {
  ranges = h.ranges;
  leasable = leasable;
  bounds = bounds;
  numbers = h.numbers;
  below = h.below;
  old = h.old;
  known = each_on _ _ (λ c is. known c.private.src is) s.opened h.known;
  public = h.public;
  private = h.private;
  holders = λ c i st.
      let t : IsThrough s c = h.holders c i st in
      record { row = t.row; there = t.there; machine = t.machine; vip = t.vip; first = t.first; last = t.last };
}
