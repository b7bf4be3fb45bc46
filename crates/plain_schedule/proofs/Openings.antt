-- A connection opens: through a port of its machine, with keys that no other that stands has.
use Rattle.std.proofs.Common.{◌≡◌, inl, inr, ℕ, ◌+◌, ◌<◌, ◌≤◌, Bool, true, false, ◌==◌, nat_lt, nat_le, List, [], ◌∷◌, ◌++◌, Option, Some, None, refl, sym, ap, ◌∙◌, subst, arith}
use Rattle.std.specs.Prelude.{◌&&◌, ◌||◌, cond, is_some, is_none}
use Rattle.std.specs.List.{flat_map, list_any}
use Rattle.std.proofs.lemmas.Bool.Decides.{nat_tests}
use Rattle.wire_core.specs.declared.address.Ip4.{Ip4}
use Rattle.wire_core.specs.declared.flow.FlowKey.{FlowKey}
use Rattle.wire_core.specs.declared.rules.VipRule.{VipRule}
use Rattle.wire_core.specs.Ranges.{allows, is_leasable}
use Rattle.wire_core.specs.Members.{In, Each}
use Rattle.lease_spec.specs.declared.row.Row.{Row}
use Rattle.lease_spec.specs.Table.{row_at, rule_of}
use Rattle.lease_spec.proofs.MemberLaws.{each_append, each_in, in_cases, found_passes, found_in}
use Rattle.port_leases.specs.TableState.{rows_of}
use Rattle.wire_core.proofs.SameLaws.{key_is, key_itself}
use Rattle.wire_core.specs.Same.{same_key}
use Rattle.plain_schedule.specs.declared.connections.Connection.{Connection}
use Rattle.plain_schedule.specs.Connections.{newest, standing}
use Rattle.plain_schedule.specs.Packets.{with_private, with_public, through, places, eight, is_free, first_free}
use Rattle.plain_schedule.specs.Schedule.{Plain}
use Rattle.plain_schedule.specs.Safety.{IsThrough}
use Rattle.plain_schedule.proofs.KeyLaws.{both, number_is, address_is}
use Rattle.plain_schedule.proofs.ListLaws.{newest-more, none_some, in_filter_back, in_map_back, in_flat_map, own_row}
use Rattle.plain_schedule.specs.FullLeases.{bound}
use Rattle.plain_schedule.specs.Kept.{Sound, Stands}
use Rattle.plain_schedule.proofs.Kept.{rows, some_is}

pub standing_is : (rs : List Row) (c : Connection) → Stands rs c → standing rs (Some c) ≡ Some c
standing_is rs c st = rw st refl

pub standing_some : (rs : List Row) (o : Option Connection) (c : Connection) → standing rs o ≡ Some c
    → (o ≡ Some c) × Stands rs c
standing_some rs None c e = absurd (cc)
standing_some rs (Some d) c e = by (is_some (row_at rs d.n)) refl e
  where
    by : (b : Bool) → is_some (row_at rs d.n) ≡ b → cond b (Some d) None ≡ Some c → (Some d ≡ Some c) × Stands rs c
    by true is e = (e, subst (λ (x : Connection). is_some (row_at rs x.n) ≡ true) (some_is d c e) is)
    by false is e = absurd (cc)

-- what a new connection is: through a port of its machine's lease, and no other has either of its keys
pub record IsNew (s : Plain) (c : Connection) : Type 0 where
  pub row : Row
  pub there : In row (rows s)
  pub machine : row.machine ≡ c.private.src
  pub known : is_some (rule_of s.table.rules c.private.src) ≡ true
  pub number : c.n ≡ row.n
  pub vip : row.range.vip ≡ c.public.src
  pub first : row.range.start ≤ c.public.sport
  pub last : c.public.sport ≤ row.range.start + 7
  pub public : with_public s.table s.opened c.public ≡ None
  pub private : with_private s.table s.opened c.private ≡ None

pub places_small : Each (λ i. i ≤ 7) places
places_small = (
  omega arith,
  (omega arith, (omega arith, (omega arith, (omega arith, (omega arith, (omega arith, (omega arith, tt))))))),
)

pub none_is : (o : Option Connection) → is_none o ≡ true → o ≡ None
none_is None e = refl
none_is (Some c) e = absurd (cc)

-- a leasable range has room for eight ports
pub leasable_fits : (vips : List VipRule) (vip : Ip4) (first : ℕ) → Each (λ rule. rule.high ≤ 65535) vips
    → list_any (λ rule. (rule.vip.0 == vip.0) && allows rule first) vips ≡ true → first + 7 ≤ 65535
leasable_fits [] vip first high e = absurd (cc)
leasable_fits (rule ∷ rules) vip first high e =
    by ((rule.vip.0 == vip.0) && allows rule first) refl e (leasable_fits rules vip first high.1)
  where
    by : (b : Bool) → ((rule.vip.0 == vip.0) && allows rule first) ≡ b
        → (b || list_any (λ rule. (rule.vip.0 == vip.0) && allows rule first) rules) ≡ true
        → (list_any (λ rule. (rule.vip.0 == vip.0) && allows rule first) rules ≡ true → first + 7 ≤ 65535)
        → first + 7 ≤ 65535
    by true is e rest =
        let within : nat_le (first + 7) rule.high ≡ true = grind arith in
        let top : rule.high ≤ 65535 = high.0 in grind (arith, nat_tests)
    by false is e rest = rest e

pub through_new : (s : Plain) (key : FlowKey) (row : Row) (i : ℕ) → is_some (rule_of s.table.rules key.src) ≡ true
    → In row (rows s) → (row.machine.0 == key.src.0) ≡ true → i ≤ 7 → row.range.start + 7 ≤ 65535
    → with_public s.table s.opened (through row key i).public ≡ None → with_private s.table s.opened key ≡ None
    → IsNew s (through row key i)
through_new s key row i known there machine small fits public private = record {
  row = row;
  there = there;
  machine = address_is row.machine key.src (number_is _ _ machine);
  known = known;
  number = refl;
  vip = refl;
  first = omega arith;
  last = omega arith;
  public = public;
  private = private;
}

-- a lease's range has room for its eight ports
pub row_fits : (s : Plain) (row : Row) → Sound s → In row (rows s) → row.range.start + 7 ≤ 65535
row_fits s row h there =
    leasable_fits s.table.rules.vips row.range.vip row.range.start h.bounds
    (each_in (λ (r : Row). is_leasable s.table.rules r.range ≡ true) (rows s) row h.leasable there)

-- what the search for a free port finds
pub found_new : (s : Plain) (key : FlowKey) (c : Connection) → Sound s → is_some (rule_of s.table.rules key.src) ≡ true
    → with_private s.table s.opened key ≡ None → first_free s.table s.opened key ≡ Some c → IsNew s c
found_new s key c h known private e =
    let ports : List Connection = flat_map (eight key) (rows_of (rows s) key.src 0) in
    let listed : (row : Row) × In row (rows_of (rows s) key.src 0) × In c (eight key row)
    = in_flat_map (eight key) (rows_of (rows s) key.src 0) c (found_in (is_free s.table s.opened) ports c e) in
    let row : Row = listed.0 in
    let mine : In row (rows s) × ((nat_lt 0 row.n && (row.machine.0 == key.src.0)) ≡ true)
    = in_filter_back _ (rows s) row listed.1 in
    let at : (i : ℕ) × In i places × (through row key i ≡ c) = in_map_back (through row key) places c listed.2 in
    let free : with_public s.table s.opened c.public ≡ None
    = none_is _ (found_passes (is_free s.table s.opened) ports c e) in
    let small : at.0 ≤ 7 = each_in (λ (i : ℕ). i ≤ 7) places at.0 places_small at.1 in
    subst (IsNew s) at.2
    (through_new s key row at.0 known mine.0 (both _ _ mine.1).1 small (row_fits s row h mine.0)
    (subst (λ (d : Connection). with_public s.table s.opened d.public ≡ None) (sym at.2) free) private)

abbrev pub with_one : Plain → Connection → Plain
with_one s c = record s { opened = s.opened ++ c ∷ [] }

-- of the connections with one key only the newest may stand, also with one more, whose key none that stands has
pub newest_one : (s : Plain) (key : Connection → FlowKey) (c : Connection)
    → ((d : Connection) → In d s.opened → Stands (rows s) d → newest (λ x. same_key (key x) (key d)) s.opened ≡ Some d)
    → standing (rows s) (newest (λ x. same_key (key x) (key c)) s.opened) ≡ None
    → (d : Connection) → In d (s.opened ++ c ∷ []) → Stands (rows s) d
    → newest (λ x. same_key (key x) (key d)) (s.opened ++ c ∷ []) ≡ Some d
newest_one s key c old free d i st = elim (in_cases s.opened (c ∷ []) d i) [
  | inl there ↦
      newest-more (λ x. same_key (key x) (key d)) s.opened c ∙ by (same_key (key c) (key d)) refl (old d there st)
  | inr here ↦ elim here [ inl e ↦ newest-more (λ x. same_key (key x) (key d)) s.opened c ∙ mine e | inr j ↦ absurd j ]
]
  where
    by : (b : Bool) → same_key (key c) (key d) ≡ b → newest (λ x. same_key (key x) (key d)) s.opened ≡ Some d
        → cond b (Some c) (newest (λ x. same_key (key x) (key d)) s.opened) ≡ Some d
    by true is was = absurd (clash (key_is (key c) (key d) is) was)
      where
        clash : key c ≡ key d → newest (λ x. same_key (key x) (key d)) s.opened ≡ Some d → ⊥
        clash e was =
            none_some
            (sym (subst (λ (k : FlowKey). standing (rows s) (newest (λ x. same_key (key x) k) s.opened) ≡ None) e free)
            ∙ ap (standing (rows s)) was ∙ standing_is (rows s) d st)
    by false is was = was

    mine : c ≡ d → cond (same_key (key c) (key d)) (Some c) (newest (λ x. same_key (key x) (key d)) s.opened) ≡ Some d
    mine e =
        let same : same_key (key c) (key d) ≡ true
        = subst (λ (x : Connection). same_key (key c) (key x) ≡ true) e (key_itself (key c)) in
        rw (same, e) refl

pub sound_opens : (s : Plain) (c : Connection) → Sound s → IsNew s c → Sound (with_one s c)
sound_opens s c h new = record {
  ranges = h.ranges;
  leasable = h.leasable;
  bounds = h.bounds;
  numbers = h.numbers;
  below = h.below;
  old = each_append _ s.opened (c ∷ []) h.old (
    (
        let low : new.row.n < bound s.table
        = each_in (λ (r : Row). r.n < bound s.table) (rows s) new.row h.below new.there in
        let number = new.number in omega arith),
    tt,
  );
  known = each_append _ s.opened (c ∷ []) h.known (new.known, tt);
  public = newest_one s (λ x. x.public) c h.public new.public;
  private = newest_one s (λ x. x.private) c h.private new.private;
  holders = λ d i st. elim (in_cases s.opened (c ∷ []) d i) [
    | inl there ↦
        let t : IsThrough s d = h.holders d there st in
        record { row = t.row; there = t.there; machine = t.machine; vip = t.vip; first = t.first; last = t.last }
    | inr here ↦ elim here [ inl e ↦ subst (IsThrough (with_one s c)) e mine | inr j ↦ absurd j ]
  ];
}
  where
    mine : IsThrough (with_one s c) c
    mine = record {
      row = new.row;
      there =
          subst (λ (n : ℕ). row_at (rows s) n ≡ Some new.row) (sym new.number)
          (own_row (rows s) new.row h.numbers new.there);
      machine = new.machine;
      vip = new.vip;
      first = new.first;
      last = new.last;
    }
