-- The rows after an edit.
use Rattle.std.proofs.Common.{◌≡◌, ℕ, zero, suc, append_assoc, ◌++◌, map, filter, inl, inr, subst, Bool, true, false, cond, List, [], ◌∷◌, Option, Some, None, is_some, ◌||◌, ◌&&◌, ◌==◌, ◌*◌, ◌+◌, ◌<◌, ◌≤◌, nat_lt, length, take, get_or, if◌then◌else◌, refl, ap, sym, ◌∙◌, arith}
use Rattle.std.specs.Map.{lookup, set_value}
use Rattle.wire_core.specs.declared.range.Range.{Range}
use Rattle.mux_spec.specs.declared.row.Kept.{Kept}
use Rattle.std.specs.List.{flat_map, list_any}
use Rattle.std.proofs.lemmas.List.{append-nil, map-append, take_more}
use Rattle.std.proofs.lemmas.List.Elements.{filter-append}
use Rattle.std.proofs.lemmas.Grind.{flat_map-append}
use Rattle.std.proofs.lemmas.Bool.Decides.{nat_tests}
use Rattle.indexmap.specs.IndexMap.{insert_entry}
use Rattle.wire_core.specs.declared.rules.VipRule.{VipRule}
use Rattle.wire_core.specs.declared.address.Ip4.{Ip4}
use Rattle.wire_core.specs.Members.{In}
use Rattle.wire_core.specs.Ranges.{allows, range_at}
use Rattle.wire_core.proofs.SameLaws.{ip_is}
use Rattle.vip_config.specs.Rules.{Once}
use Rattle.mux_maps.specs.Entries.{is_in, is_among, first_ranges, without_row}
use Rattle.mux_spec.specs.Rows.{Rows, no_row, ranges_by, row_at, starts}
use Rattle.wire_core.specs.Same.{same_ip, same_range}

pub set_none : (rows : Rows) (r : Range) (k : Kept) → lookup (same_range r) rows ≡ None → set_value (same_range r) rows k ≡ rows
set_none [] r k h = refl
set_none (e ∷ rows) r k h = grind (arith, set_none rows r k, h)

same-right : (r t s : Range) → same_range r t ≡ true → same_range s t ≡ same_range s r
same-right r t s h = grind (arith, nat_tests, h)

module _ (eq : Range → Range → Bool) (is : (a b : Range) → eq a b ≡ same_range a b) (r : Range) (k : Kept) (s : Range) where
  pub insert_shows : (rows : Rows) → is_some (lookup (same_range s) (insert_entry eq rows r k)) ≡ (is_some (lookup (same_range s) rows) || same_range s r)
  insert_shows [] = grind arith
  insert_shows (e ∷ rows) = by (insert_shows rows) (same_range r e.0) refl
    where
      by : is_some (lookup (same_range s) (insert_entry eq rows r k)) ≡ (is_some (lookup (same_range s) rows) || same_range s r) → (b : Bool) → same_range r e.0 ≡ b → is_some (lookup (same_range s) (insert_entry eq (e ∷ rows) r k)) ≡ (is_some (lookup (same_range s) (e ∷ rows)) || same_range s r)
      by rest true same = let here = is r e.0 ∙ same in let right = same-right r e.0 s same in grind (arith, here, right)
      by rest false other = let here = is r e.0 ∙ other in grind (arith, here, rest)

-- one more start
pub more_starts : (rule : VipRule) (i : ℕ) (r : Range) → is_among (i + 1) rule r ≡ (is_among i rule r || (allows rule (8 * i) && same_range r (range_at rule.vip (8 * i))))
more_starts rule i r = grind (arith, nat_tests)

pub all_starts : (rule : VipRule) (i : ℕ) (r : Range) → i ≡ 8192 → rule.high ≤ 65535 → is_among i rule r ≡ is_in rule r
all_starts rule i r all below = grind (arith, nat_tests, all, below)

pub none_yet : (rows : Rows) (r : Range) → rows ≡ [] → is_some (row_at rows r) ≡ false
unfolding row_at
none_yet rows r e = rw e refl

module _ (eq : Range → Range → Bool) (is : (a b : Range) → eq a b ≡ same_range a b) (r : Range) (k : Kept) where
  -- a range without an entry gets one behind all others
  pub insert_last : (rows : Rows) → is_some (lookup (same_range r) rows) ≡ false → insert_entry eq rows r k ≡ rows ++ (r, k) ∷ []
  insert_last [] h = refl
  insert_last (e ∷ rows) h = by (insert_last rows) (same_range r e.0) refl
    where
      by : (is_some (lookup (same_range r) rows) ≡ false → insert_entry eq rows r k ≡ rows ++ (r, k) ∷ []) → (b : Bool) → same_range r e.0 ≡ b → insert_entry eq (e ∷ rows) r k ≡ (e ∷ rows) ++ (r, k) ∷ []
      by rest true same = let here = rw same at h in absurd (cc)
      by rest false other = let later = rest (rw other at h) in let here = is r e.0 ∙ other in rw here (ap (λ l. e ∷ l) later)

-- ---- the starts

start_more : (s n : ℕ) → starts s (suc n) ≡ starts s n ++ (s + 8 * n) ∷ []
unfolding starts
start_more s zero = ap (λ (x : ℕ). x ∷ []) (omega arith)
start_more s (suc n) = ap (λ l. s ∷ l) (start_more (s + 8) n) ∙ ap (λ (x : ℕ). s ∷ (starts (s + 8) n ++ x ∷ [])) (omega arith)

starts_from_0 : (n : ℕ) → starts 0 (n + 1) ≡ starts 0 n ++ (8 * n) ∷ []
starts_from_0 n =
    let one : n + 1 ≡ suc n = omega arith in
    ap (starts 0) one ∙ start_more 0 n ∙ ap (λ (x : ℕ). starts 0 n ++ x ∷ []) (omega arith)

-- one start more: its range, if the rule allows it
ranges_more : (rule : VipRule) (n : ℕ) → first_ranges (n + 1) rule ≡ first_ranges n rule ++ map (range_at rule.vip) (filter (allows rule) (8 * n ∷ []))
ranges_more rule n =
    ap (λ l. map (range_at rule.vip) (filter (allows rule) l)) (starts_from_0 n)
    ∙ ap (map (range_at rule.vip)) (filter-append (allows rule) (starts 0 n) (8 * n ∷ []))
    ∙ map-append (range_at rule.vip) (filter (allows rule) (starts 0 n)) (filter (allows rule) (8 * n ∷ []))

pub list_more : (rule : VipRule) (n : ℕ) (before was now : Rows) → allows rule (8 * n) ≡ true
    → now ≡ was ++ without_row (range_at rule.vip (8 * n) ∷ []) → was ≡ before ++ without_row (first_ranges n rule)
    → now ≡ before ++ without_row (first_ranges (n + 1) rule)
list_more rule n before was now allowed step so_far =
    let one : first_ranges (n + 1) rule ≡ first_ranges n rule ++ range_at rule.vip (8 * n) ∷ [] =
    ranges_more rule n ∙ (rw allowed refl) in
    step ∙ ap (λ l. l ++ without_row (range_at rule.vip (8 * n) ∷ [])) so_far
    ∙ append_assoc before (without_row (first_ranges n rule)) (without_row (range_at rule.vip (8 * n) ∷ []))
    ∙ ap (λ l. before ++ l) (sym (map-append (λ r. (r, no_row)) (first_ranges n rule) (range_at rule.vip (8 * n) ∷ [])))
    ∙ ap (λ rs. before ++ without_row rs) (sym one)

pub list_stays : (rule : VipRule) (n : ℕ) (before was : Rows) → allows rule (8 * n) ≡ false
    → was ≡ before ++ without_row (first_ranges n rule) → was ≡ before ++ without_row (first_ranges (n + 1) rule)
list_stays rule n before was refused so_far =
    let none : first_ranges (n + 1) rule ≡ first_ranges n rule = ranges_more rule n ∙ (rw refused (append-nil (first_ranges n rule))) in
    so_far ∙ ap (λ rs. before ++ without_row rs) (sym none)

-- ---- the VIPs

vip_in : (rules : List VipRule) (i : ℕ) (d : VipRule) → i < length rules → In (get_or rules i d).vip (map (λ rule. rule.vip) rules)
vip_in [] i d h = absurd (omega arith)
vip_in (rule ∷ rules) zero d h = inl refl
vip_in (rule ∷ rules) (suc i) d h = inr (vip_in rules i d (omega arith))

-- no rule before it is of its VIP
pub apart : (rules : List VipRule) (i : ℕ) (d : VipRule) (start : ℕ) → Once (map (λ rule. rule.vip) rules) → i < length rules
    → list_any (λ rule. is_in rule (range_at (get_or rules i d).vip start)) (take i rules) ≡ false
apart [] i d start once h = absurd (omega arith)
apart (rule ∷ rules) zero d start once h = refl
apart (rule ∷ rules) (suc i) d start once h =
    let there = vip_in rules i d (omega arith) in
    let v : Ip4 = (get_or rules i d).vip in
    by v there (apart rules i d start once.1 (omega arith)) (same_ip rule.vip v) refl
  where
    by : (v : Ip4) → In v (map (λ rule. rule.vip) rules) → list_any (λ rule. is_in rule (range_at v start)) (take i rules) ≡ false
        → (b : Bool) → same_ip rule.vip v ≡ b → (is_in rule (range_at v start) || list_any (λ rule. is_in rule (range_at v start)) (take i rules)) ≡ false
    by v there rest true same = absurd (once.0 (subst (λ x. In x (map (λ rule. rule.vip) rules)) (sym (ip_is rule.vip v same)) there))
    by v there rest false other = rw (other, rest) refl

pub rows_more : (rules : List VipRule) (i : ℕ) (d : VipRule) (was now : Rows) → i < length rules
    → now ≡ was ++ without_row (ranges_by (get_or rules i d)) → was ≡ without_row (flat_map ranges_by (take i rules))
    → now ≡ without_row (flat_map ranges_by (take (i + 1) rules))
rows_more rules i d was now within step so_far =
    let rule : VipRule = get_or rules i d in
    let one : flat_map ranges_by (take (i + 1) rules) ≡ flat_map ranges_by (take i rules) ++ ranges_by rule =
    ap (flat_map ranges_by) (take_more rules i d within) ∙ flat_map-append ranges_by (take i rules) (rule ∷ [])
    ∙ ap (λ l. flat_map ranges_by (take i rules) ++ l) (append-nil (ranges_by rule)) in
    step ∙ ap (λ l. l ++ without_row (ranges_by rule)) so_far
    ∙ sym (map-append (λ r. (r, no_row)) (flat_map ranges_by (take i rules)) (ranges_by rule))
    ∙ ap without_row (sym one)

-- ---- before the first start

pub none_first : (rule : VipRule) (rows : Rows) → rows ≡ rows ++ without_row (first_ranges 0 rule)
unfolding starts
none_first rule rows = sym (append-nil rows)

pub none_among : (b : Bool) (rule : VipRule) (s : Range) → b ≡ (b || is_among 0 rule s)
none_among b rule s = grind (arith, nat_tests)

-- ---- one start more

or_assoc : (a b c : Bool) → ((a || b) || c) ≡ (a || (b || c))
or_assoc true b c = refl
or_assoc false b c = refl

pub not_among : (rule : VipRule) (i : ℕ) → is_among i rule (range_at rule.vip (8 * i)) ≡ false
not_among rule i = grind (arith, nat_tests)

pub shown_more : (rule : VipRule) (i : ℕ) (s : Range) (before was now : Bool)
    → now ≡ (was || (allows rule (8 * i) && same_range s (range_at rule.vip (8 * i))))
    → was ≡ (before || is_among i rule s) → now ≡ (before || is_among (i + 1) rule s)
shown_more rule i s before was now step so_far =
    step ∙ ap (λ (b : Bool). b || (allows rule (8 * i) && same_range s (range_at rule.vip (8 * i)))) so_far
    ∙ or_assoc before (is_among i rule s) (allows rule (8 * i) && same_range s (range_at rule.vip (8 * i)))
    ∙ ap (λ (b : Bool). before || b) (sym (more_starts rule i s))

pub list_next : (rule : VipRule) (i : ℕ) (before was now : Rows)
    → now ≡ (if allows rule (8 * i) then was ++ without_row (range_at rule.vip (8 * i) ∷ []) else was)
    → was ≡ before ++ without_row (first_ranges i rule) → now ≡ before ++ without_row (first_ranges (i + 1) rule)
list_next rule i before was now step so_far = by (allows rule (8 * i)) refl step
  where
    by : (b : Bool) → allows rule (8 * i) ≡ b
        → now ≡ (if b then was ++ without_row (range_at rule.vip (8 * i) ∷ []) else was)
        → now ≡ before ++ without_row (first_ranges (i + 1) rule)
    by true allowed e = list_more rule i before was now allowed e so_far
    by false refused e = list_stays rule i before now refused (e ∙ so_far)
