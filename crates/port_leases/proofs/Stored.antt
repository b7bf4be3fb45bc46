-- Machines and free starts, after each edit of the rows.
use Rattle.std.proofs.Common.{◌≡◌, ◌≢◌, ℕ, zero, suc, ◌+◌, ◌*◌, ◌/◌, ◌%◌, ◌<◌, ◌==◌, Bool, true, false, not, ◌&&◌, ◌||◌, cond, find, List, [], ◌∷◌, ◌++◌, map, length, take, get_or, set, Option, Some, None, is_some, option_map, if◌then◌else◌, refl, ap, sym, ◌∙◌, subst, arith, true≢false}
use Rattle.std.specs.List.{list_any}
use Rattle.std.specs.Option.{option_or}
use Rattle.std.proofs.lemmas.List.Folds.{find-append, list_any-append}
use Rattle.lease_spec.specs.Table.{rule_of}
use Rattle.std.proofs.lemmas.List.{take_more, length-set, get_or-set_same, get_or-set_other}
use Rattle.std.proofs.Math.Bool.{and-false, and-true, or-false, or-true}
use Rattle.std.proofs.lemmas.Bool.{eqb-true, eq-eqb}
use Rattle.std.proofs.lemmas.Bool.Decides.{nat_tests}
use Rattle.wire_core.specs.declared.address.Ip4.{Ip4}
use Rattle.wire_core.specs.declared.range.Range.{Range}
use Rattle.wire_core.specs.declared.rules.LeaseRules.{LeaseRules}
use Rattle.wire_core.specs.declared.rules.MachineRule.{MachineRule}
use Rattle.wire_core.specs.declared.rules.VipRule.{VipRule}
use Rattle.wire_core.specs.Ranges.{allows, range_at, is_leasable}
use Rattle.lease_spec.specs.declared.row.Row.{Row}
use Rattle.lease_spec.specs.Free.{first_start, has_no_row, is_free, least_free, range_of_start, same_range}
use Rattle.lease_rows.specs.Rows.{same_address}
use Rattle.lease_rows.specs.Starts.{first_flag}
use Rattle.port_leases.specs.Store.{AreFree, IsFreeOf, IsStored, first_of}
use Rattle.port_leases.specs.TableState.{has_vip}
use Rattle.lease_rows.proofs.Indexed.{address_is, any-map, any-push, by_test, range_is}

-- ---- the rows change, and no range becomes free or taken

same_free : (rules : LeaseRules) (rows rows2 : List Row) (vip : Ip4) (o : Option (List Bool)) → ((r : Range) → is_free rules rows2 r ≡ is_free rules rows r) → IsFreeOf rules rows vip o → IsFreeOf rules rows2 vip o
same_free rules rows rows2 vip None same h = h
same_free rules rows rows2 vip (Some flags) same h = record {
  named = h.named;
  count = h.count;
  each = λ k within. h.each k within ∙ sym (same (range_at vip (8 * k)));
}

pub stored-same : (rules : LeaseRules) (rows rows2 : List Row) (rule : Ip4 → Option MachineRule) (free : Ip4 → Option (List Bool)) → ((r : Range) → is_free rules rows2 r ≡ is_free rules rows r)
    → IsStored rules rows rule free → IsStored rules rows2 rule free
stored-same rules rows rows2 rule free same h = record {
  machines = h.machines;
  vips = λ vip. same_free rules rows rows2 vip (free vip) same (h.vips vip);
}

pub free-map : (f : Row → Row) → ((row : Row) → (f row).range ≡ row.range) → (rules : LeaseRules) (rows : List Row) (r : Range) → is_free rules (map f rows) r ≡ is_free rules rows r
free-map f range rules rows r = ap (λ b. is_leasable rules r && not b) (any-map (λ row. same_range row.range r) f (λ row. ap (λ x. same_range x r) (range row)) rows)

-- ---- one range becomes free or taken

module _ (rules : LeaseRules) (rows rows2 : List Row) (x : Range) (b : Bool) (j : ℕ) (at : x.start ≡ 8 * j)
    (others : (r : Range) → same_range x r ≡ false → is_free rules rows2 r ≡ is_free rules rows r) (here : is_free rules rows2 x ≡ b) where
  set_free : (vip : Ip4) (o : Option (List Bool)) → vip ≡ x.vip → IsFreeOf rules rows vip o → IsFreeOf rules rows2 vip (option_map (λ flags. set flags j b) o)
  set_free vip None is h = h
  set_free vip (Some flags) is h = record {
    named = h.named;
    count = length-set flags j b ∙ h.count;
    each = λ k within. by_test (k == j)
        (λ hit.
        let same = eqb-true k j hit in
        let inside : j < length flags = subst (λ (i : ℕ). i < length flags) same (rw (length-set flags j b) at within) in
        let start : x.start ≡ 8 * k = at ∙ ap (λ i. 8 * i) (sym same) in
        let range : x ≡ range_at vip (8 * k) = λ i. record { vip = sym is i; start = start i } in
        ap (λ i. get_or (set flags j b) i false) same ∙ get_or-set_same flags j b false inside ∙ sym here ∙ ap (is_free rules rows2) range)
        (λ miss.
        let other : k ≢ j = λ same. true≢false (sym (eq-eqb k j same) ∙ miss) in
        let inside : k < length flags = rw (length-set flags j b) at within in
        let start : (x.start == 8 * k) ≡ false = by_test (x.start == 8 * k) (λ equal. let is = eqb-true x.start (8 * k) equal in absurd (other (omega (arith, is, at)))) (λ apart. apart) in
        let apart : same_range x (range_at vip (8 * k)) ≡ false = ap (λ c. (x.vip.0 == vip.0) && c) start ∙ and-false (x.vip.0 == vip.0) in
        get_or-set_other flags j k b false other ∙ h.each k inside ∙ sym (others (range_at vip (8 * k)) apart));
  }

  other_free : (vip : Ip4) (o : Option (List Bool)) → same_address x.vip vip ≡ false → IsFreeOf rules rows vip o → IsFreeOf rules rows2 vip o
  other_free vip None other h = h
  other_free vip (Some flags) other h = record {
    named = h.named;
    count = h.count;
    each = λ k within. h.each k within ∙ sym (others (range_at vip (8 * k)) (ap (λ c. c && (x.start == 8 * k)) other));
  }

  pub stored-set : (rule : Ip4 → Option MachineRule) (free free2 : Ip4 → Option (List Bool)) → IsStored rules rows rule free
      → ((v : Ip4) → free2 v ≡ (if same_address x.vip v then option_map (λ flags. set flags j b) (free x.vip) else free v))
      → IsStored rules rows2 rule free2
  stored-set rule free free2 h is = record {
    machines = h.machines;
    vips = λ vip. by_test (same_address x.vip vip)
        (λ hit.
        let now = rw hit at (is vip) in
        let same = sym (address_is x.vip vip hit) in
        rw now (set_free vip (free x.vip) same (subst (λ v. IsFreeOf rules rows vip (free v)) same (h.vips vip))))
        (λ miss. let now = rw miss at (is vip) in rw now (other_free vip (free vip) miss (h.vips vip)));
  }

-- ---- the least free start

pub first_flag-at : (place t : ℕ) (flags : List Bool) → first_flag 8 place flags ≡ Some t → (k : ℕ) × (t ≡ place + 8 * k) × (k < length flags) × (get_or flags k false ≡ true)
first_flag-at place t [] some = absurd (cc)
first_flag-at place t (flag ∷ flags) some = by flag refl (first_flag-at (place + 8) t flags)
  where
    by : (b : Bool) → flag ≡ b → (first_flag 8 (place + 8) flags ≡ Some t → (k : ℕ) × (t ≡ place + 8 + 8 * k) × (k < length flags) × (get_or flags k false ≡ true))
        → (k : ℕ) × (t ≡ place + 8 * k) × (k < length (flag ∷ flags)) × (get_or (flag ∷ flags) k false ≡ true)
    by true e more = let here = rw e at some in let is : place ≡ t = cc in (0, omega arith, omega arith, e)
    by false e more =
        let rest = more (rw e at some) in
        let is : t ≡ place + 8 + 8 * rest.0 = rest.1 in
        let within : rest.0 < length flags = rest.2 in
        (suc rest.0, omega arith, omega arith, rest.3)

first_start-flags : (passes : ℕ → Bool) (flags : List Bool) (place n : ℕ) → n ≡ length flags → ((k : ℕ) → k < length flags → get_or flags k false ≡ passes (place + 8 * k)) → first_start passes n place ≡ first_flag 8 place flags
unfolding first_start
first_start-flags passes [] place zero is each = refl
first_start-flags passes [] place (suc n) is each = absurd (omega arith)
first_start-flags passes (flag ∷ flags) place zero is each = absurd (omega arith)
first_start-flags passes (flag ∷ flags) place (suc n) is each =
    let first : flag ≡ passes place = each zero (omega arith) ∙ ap passes (omega arith) in
    let rest = first_start-flags passes flags (place + 8) n (omega arith) (λ k within. each (suc k) (omega arith) ∙ ap passes (omega arith)) in
    rw (sym first, rest) refl

first_start-none : (passes : ℕ → Bool) (place n : ℕ) → ((k : ℕ) → passes k ≡ false) → first_start passes n place ≡ None
unfolding first_start
first_start-none passes place zero none = refl
first_start-none passes place (suc n) none = rw (none place) (first_start-none passes (place + 8) n none)

none_named : (p : VipRule → Bool) (a : ℕ) (vips : List VipRule) → list_any (λ rule. rule.vip.0 == a) vips ≡ false → list_any (λ rule. (rule.vip.0 == a) && p rule) vips ≡ false
none_named p a [] none = refl
none_named p a (rule ∷ vips) none = grind (arith, none_named p a vips, none)

not_leasable : (rules : LeaseRules) (vip : Ip4) (start : ℕ) → has_vip rules vip ≡ false → is_leasable rules (range_at vip start) ≡ false
not_leasable rules vip start none = none_named (λ rule. allows rule start) vip.0 rules.vips none

pub least-first : (rules : LeaseRules) (rows : List Row) (vip : Ip4) (o : Option (List Bool)) → IsFreeOf rules rows vip o → range_of_start vip (first_of o) ≡ least_free rules rows vip
unfolding least_free
least-first rules rows vip None h =
    sym (ap (range_of_start vip) (first_start-none (λ start. is_free rules rows (range_at vip start)) 0 8192 (λ start. ap (λ b. b && has_no_row rows (range_at vip start)) (not_leasable rules vip start h))))
least-first rules rows vip (Some flags) h =
    sym (ap (range_of_start vip) (first_start-flags (λ start. is_free rules rows (range_at vip start)) flags 0 8192 (sym h.count) (λ k within. h.each k within ∙ ap (λ s. is_free rules rows (range_at vip s)) (omega arith))))

pub first-free : (rules : LeaseRules) (rows : List Row) (vip : Ip4) (o : Option (List Bool)) (start : ℕ) → IsFreeOf rules rows vip o → first_of o ≡ Some start → is_free rules rows (range_at vip start) ≡ true
first-free rules rows vip None start h some = absurd (cc)
first-free rules rows vip (Some flags) start h some =
    let found = first_flag-at 0 start flags some in
    let at : start ≡ 8 * found.0 = omega (arith, found.1) in
    ap (λ s. is_free rules rows (range_at vip s)) at ∙ sym (h.each found.0 found.2) ∙ found.3

pub named-free : (rules : LeaseRules) (rows : List Row) (vip : Ip4) (o : Option (List Bool)) → IsFreeOf rules rows vip o → is_some o ≡ has_vip rules vip
named-free rules rows vip None h = sym h
named-free rules rows vip (Some flags) h = sym h.named

-- ---- the start of a free range is a multiple of 8

and_left : (a b : Bool) → (a && b) ≡ true → a ≡ true
and_left true b h = refl
and_left false b h = h

and_right : (a b : Bool) → (a && b) ≡ true → b ≡ true
and_right true b h = h
and_right false b h = absurd (true≢false (sym h))

pub same_refl : (r : Range) → same_range r r ≡ true
same_refl r = grind (arith, nat_tests)

starts_at_8 : (start : ℕ) (a : ℕ) (vips : List VipRule) → list_any (λ rule. (rule.vip.0 == a) && allows rule start) vips ≡ true → start % 8 ≡ 0
starts_at_8 start a [] some = absurd (true≢false (sym some))
starts_at_8 start a (rule ∷ vips) some =
    by_test ((rule.vip.0 == a) && allows rule start)
    (λ hit. eqb-true (start % 8) 0 (and_left _ _ (and_left _ _ (and_left _ _ (and_right _ _ hit)))))
    (λ miss. starts_at_8 start a vips (rw miss at some))

pub leasable-start : (rules : LeaseRules) (x : Range) → is_leasable rules x ≡ true → x.start ≡ 8 * (x.start / 8)
leasable-start rules x some = let rest : x.start % 8 ≡ 0 = starts_at_8 x.start x.vip.0 rules.vips some in omega arith

-- ---- rows come and go

pub stored-take : (rules : LeaseRules) (rows : List Row) (row : Row) (rule : Ip4 → Option MachineRule) (free free2 : Ip4 → Option (List Bool)) → IsStored rules rows rule free
    → is_free rules rows row.range ≡ true
    → ((v : Ip4) → free2 v ≡ (if same_address row.range.vip v then option_map (λ flags. set flags (row.range.start / 8) false) (free row.range.vip) else free v))
    → IsStored rules (rows ++ row ∷ []) rule free2
stored-take rules rows row rule free free2 h some is =
    stored-set rules rows (rows ++ row ∷ []) row.range false (row.range.start / 8) (leasable-start rules row.range (and_left _ _ some))
    (λ r other. ap (λ b. is_leasable rules r && not b) (any-push (λ row. same_range row.range r) rows row ∙ ap (λ c. list_any (λ row. same_range row.range r) rows || c) other ∙ or-false _))
    (ap (λ b. is_leasable rules row.range && not b)
    (any-push (λ other. same_range other.range row.range) rows row ∙ ap (λ c. list_any (λ other. same_range other.range row.range) rows || c) (same_refl row.range) ∙ or-true _)
    ∙ and-false (is_leasable rules row.range))
    rule free free2 h is

pub stored-leave : (rules : LeaseRules) (rows rows2 : List Row) (x : Range) (rule : Ip4 → Option MachineRule) (free free2 : Ip4 → Option (List Bool)) → IsStored rules rows rule free
    → is_leasable rules x ≡ true
    → ((r : Range) → has_no_row rows2 r ≡ (same_range x r || has_no_row rows r))
    → ((v : Ip4) → free2 v ≡ (if same_address x.vip v then option_map (λ flags. set flags (x.start / 8) true) (free x.vip) else free v))
    → IsStored rules rows2 rule free2
stored-leave rules rows rows2 x rule free free2 h some gone is =
    stored-set rules rows rows2 x true (x.start / 8) (leasable-start rules x some)
    (λ r other. ap (λ b. is_leasable rules r && b) (gone r ∙ ap (λ b. b || has_no_row rows r) other))
    (ap (λ b. is_leasable rules x && b) (gone x ∙ ap (λ b. b || has_no_row rows x) (same_refl x)) ∙ and-true (is_leasable rules x) ∙ some)
    rule free free2 h is

-- a row on a range that isn't leasable leaves
pub stored-stay : (rules : LeaseRules) (rows rows2 : List Row) (x : Range) (rule : Ip4 → Option MachineRule) (free : Ip4 → Option (List Bool)) → IsStored rules rows rule free
    → is_leasable rules x ≡ false
    → ((r : Range) → has_no_row rows2 r ≡ (same_range x r || has_no_row rows r))
    → IsStored rules rows2 rule free
stored-stay rules rows rows2 x rule free h none gone =
    stored-same rules rows rows2 rule free
    (λ r. by_test (same_range x r)
    (λ hit. let here : is_leasable rules r ≡ false = subst (λ (y : Range). is_leasable rules y ≡ false) (range_is x r hit) none in rw here refl)
    (λ miss. ap (λ b. is_leasable rules r && b) (gone r ∙ ap (λ b. b || has_no_row rows r) miss)))
    h

-- ---- the rules grow

or_none : {X : Type 0} (o : Option X) → option_or o None ≡ o
or_none None = refl
or_none (Some x) = refl

more_machines : (rules : LeaseRules) (machines : List MachineRule) (rows : List Row) (vip : Ip4) (o : Option (List Bool)) → IsFreeOf rules rows vip o → IsFreeOf (record rules { machines = machines }) rows vip o
more_machines rules machines rows vip None h = h
more_machines rules machines rows vip (Some flags) h = record { named = h.named; count = h.count; each = h.each }

pub stored-machine : (rules : LeaseRules) (rule : MachineRule) (machines : List MachineRule) (rows : List Row) (ruled ruled2 : Ip4 → Option MachineRule) (free : Ip4 → Option (List Bool))
    → IsStored rules rows ruled free → rule_of rules rule.machine ≡ None → machines ≡ rules.machines ++ rule ∷ []
    → ((m : Ip4) → ruled2 m ≡ (if same_address rule.machine m then Some rule else ruled m))
    → IsStored (record rules { machines = machines }) rows ruled2 free
stored-machine rules rule machines rows ruled ruled2 free h new is each = record {
  machines = λ m.
      let all = ap (find (λ r. r.machine.0 == m.0)) is ∙ find-append (λ r. r.machine.0 == m.0) rules.machines (rule ∷ []) in
      by_test (same_address rule.machine m)
      (λ hit.
      let none = subst (λ (x : Ip4). rule_of rules x ≡ None) (address_is rule.machine m hit) new in
      (rw hit at (each m)) ∙ sym (all ∙ ap (λ o. option_or o (cond (rule.machine.0 == m.0) (Some rule) None)) none ∙ ap (λ b. cond b (Some rule) None) hit))
      (λ miss.
      (rw miss at (each m)) ∙ h.machines m ∙ sym (all ∙ ap (λ b. option_or (rule_of rules m) (cond b (Some rule) None)) miss ∙ or_none (rule_of rules m)));
  vips = λ vip. more_machines rules machines rows vip (free vip) (h.vips vip);
}

more_vips : (rules : LeaseRules) (rule : VipRule) (vips : List VipRule) (rows : List Row) (vip : Ip4) (o : Option (List Bool)) → vips ≡ rules.vips ++ rule ∷ []
    → same_address rule.vip vip ≡ false → IsFreeOf rules rows vip o → IsFreeOf (record rules { vips = vips }) rows vip o
more_vips rules rule vips rows vip None is other h =
    ap (list_any (λ r. r.vip.0 == vip.0)) is ∙ list_any-append (λ r. r.vip.0 == vip.0) rules.vips (rule ∷ []) ∙ rw (h, other) refl
more_vips rules rule vips rows vip (Some flags) is other h = record {
  named = ap (list_any (λ r. r.vip.0 == vip.0)) is ∙ list_any-append (λ r. r.vip.0 == vip.0) rules.vips (rule ∷ []) ∙ rw (h.named) refl;
  count = h.count;
  each = λ k within.
      let p = λ (r : VipRule). (r.vip.0 == vip.0) && allows r (8 * k) in
      let last : list_any p (rule ∷ []) ≡ false = rw other refl in
      let leasable : list_any p vips ≡ list_any p rules.vips = ap (list_any p) is ∙ list_any-append p rules.vips (rule ∷ []) ∙ ap (λ b. list_any p rules.vips || b) last ∙ or-false (list_any p rules.vips) in
      h.each k within ∙ sym (ap (λ b. b && has_no_row rows (range_at vip (8 * k))) leasable);
}

pub stored-vip : (rules : LeaseRules) (rule : VipRule) (vips : List VipRule) (flags : List Bool) (rows : List Row) (ruled : Ip4 → Option MachineRule) (free free2 : Ip4 → Option (List Bool))
    → IsStored rules rows ruled free → vips ≡ rules.vips ++ rule ∷ [] → AreFree (record rules { vips = vips }) rows rule.vip flags
    → ((v : Ip4) → free2 v ≡ (if same_address rule.vip v then Some flags else free v))
    → IsStored (record rules { vips = vips }) rows ruled free2
stored-vip rules rule vips flags rows ruled free free2 h is new each = record {
  machines = h.machines;
  vips = λ vip. by_test (same_address rule.vip vip)
      (λ hit. let now = rw hit at (each vip) in rw now (subst (λ (v : Ip4). AreFree (record rules { vips = vips }) rows v flags) (address_is rule.vip vip hit) new))
      (λ miss. let now = rw miss at (each vip) in rw now (more_vips rules rule vips rows vip (free vip) is miss (h.vips vip)));
}

-- the rules that are indexed so far, and one more
pub found_more : (rules : List MachineRule) (i : ℕ) (d : MachineRule) (m : Ip4) (was now : Option MachineRule) → i < length rules
    → now ≡ option_or was (if same_address (get_or rules i d).machine m then Some (get_or rules i d) else None)
    → was ≡ find (λ r. r.machine.0 == m.0) (take i rules)
    → now ≡ find (λ r. r.machine.0 == m.0) (take (i + 1) rules)
found_more rules i d m was now within is so_far =
    is ∙ ap (λ o. option_or o (if same_address (get_or rules i d).machine m then Some (get_or rules i d) else None)) so_far
    ∙ sym (ap (find (λ r. r.machine.0 == m.0)) (take_more rules i d within) ∙ find-append (λ r. r.machine.0 == m.0) (take i rules) (get_or rules i d ∷ []))
