-- Commands one after the other, and how many effects they can have.
use Rattle.std.proofs.Common.{◌≡◌, ℕ, zero, suc, ◌+◌, ◌*◌, ◌<◌, ◌≤◌, ◌==◌, Bool, true, false, not, ◌&&◌, ◌||◌, cond, nat_lt, nat_le, filter, List, [], ◌∷◌, ◌++◌, map, length, count_by, drop, take, slice_get, Option, Some, None, if◌then◌else◌, refl, ap, sym, ◌∙◌, subst, arith, true≢false, append_assoc, append-nil, length-append}
use Rattle.std.specs.List.{fold, list_any}
use Rattle.wire_core.specs.declared.rules.LeaseRules.{LeaseRules}
use Rattle.wire_core.specs.declared.rules.MachineRule.{MachineRule}
use Rattle.wire_core.specs.Commands.{LogCommand, Reserve, Granted, Release, Freed, Up}
use Rattle.lease_spec.specs.declared.row.Row.{Row}
use Rattle.lease_spec.specs.declared.effect.Effect.{Effect}
use Rattle.lease_spec.specs.Places.{Placed, placed}
use Rattle.lease_spec.specs.declared.row.Phase.{Phase}
use Rattle.lease_spec.specs.Table.{Done, Leases, apply, at_phase, cleared, command, decide, free, grant, is_being, is_freeing, is_later, known_boot, last_of, move, new_row, next as nexts, nothing, noted, raise_known, release, reserve, row_at, row_count, rule_of, take_range, tell, up, with_known}
use Rattle.lease_spec.specs.Free.{least_free}
use Rattle.lease_spec.specs.declared.row.Phase.TheVariants.{BeingLeased, Leased, Freeing}
use Rattle.lease_spec.specs.declared.row.Outcome.TheVariants as outcome
use Rattle.lease_spec.specs.declared.effect.Effect.TheVariants as effect
use Rattle.lease_spec.proofs.CauseLaws.{row_number}
use Rattle.wire_core.specs.declared.address.Ip4.{Ip4}
use Rattle.wire_core.specs.declared.range.Range.{Range}
use Rattle.std.proofs.lemmas.List.Sums.{count_by-le-length, sum_by-cons, sum_by_push}
use Rattle.std.proofs.lemmas.Bool.{eqb-true}
use Rattle.std.proofs.lemmas.Bool.Decides.{nat_tests}
use Rattle.std.proofs.Math.Bool.{and-false, or-true}
use Rattle.lease_rows.specs.Effects.{Adds, Told, boot_effects}
use Rattle.port_leases.specs.Store.{may_raise}
use Rattle.lease_rows.specs.Entries.{InOrder, RowsAbove, RowsAscend, RowsBelow}
use Rattle.lease_rows.proofs.Indexed.{one_at}

-- ---- one command first

fold_tell : (rules : LeaseRules) (cs : List Placed) (d : Done)
    → fold (tell rules) d cs ≡ record { leases = (fold (tell rules) (nothing d.leases) cs).leases; effects = d.effects ++ (fold (tell rules) (nothing d.leases) cs).effects }
fold_tell rules [] d = ap (λ es. record { leases = d.leases; effects = es }) (sym (append-nil d.effects))
fold_tell rules (c ∷ cs) d =
    let a = fold_tell rules cs (tell rules d c) in
    let b = fold_tell rules cs (tell rules (nothing d.leases) c) in
    let did : List Effect = (command rules c.place c.command d.leases).effects in
    let rest : List Effect = (fold (tell rules) (nothing (command rules c.place c.command d.leases).leases) cs).effects in
    let leases = ap (λ (e : Done). e.leases) (sym b) in
    let effects = append_assoc d.effects did rest ∙ ap (λ es. d.effects ++ es) (ap (λ (e : Done). e.effects) (sym b)) in
    a ∙ (λ i. record { leases = leases i; effects = effects i })

pub apply-first : (rules : LeaseRules) (c : Placed) (cs : List Placed) (t : Leases)
    → apply rules (c ∷ cs) t ≡ nexts (command rules c.place c.command t) (apply rules cs)
unfolding apply
apply-first rules c cs t = fold_tell rules cs (tell rules (nothing t) c)

-- ---- rows in order

pub below_more : (m n : ℕ) (rows : List Row) → m ≤ n → RowsBelow m rows → RowsBelow n rows
below_more m n [] le h = tt
below_more m n (row ∷ rows) le h = (let p : row.n < m = h.0 in omega arith, below_more m n rows le h.1)

pub order_more : (m n : ℕ) (rows : List Row) → m ≤ n → InOrder rows m → InOrder rows n
order_more m n rows le h = record { ascend = h.ascend; below = below_more m n rows le h.below }

module _ (f : Row → Row) (keeps : (row : Row) → (f row).n ≡ row.n) where
  above_map : (n : ℕ) (rows : List Row) → RowsAbove n rows → RowsAbove n (map f rows)
  above_map n [] h = tt
  above_map n (row ∷ rows) h = (subst (λ (k : ℕ). n < k) (sym (keeps row)) h.0, above_map n rows h.1)

  ascend_map : (rows : List Row) → RowsAscend rows → RowsAscend (map f rows)
  ascend_map [] h = tt
  ascend_map (row ∷ rows) h = (subst (λ (k : ℕ). RowsAbove k (map f rows)) (sym (keeps row)) (above_map row.n rows h.0), ascend_map rows h.1)

  below_map : (n : ℕ) (rows : List Row) → RowsBelow n rows → RowsBelow n (map f rows)
  below_map n [] h = tt
  below_map n (row ∷ rows) h = (subst (λ (k : ℕ). k < n) (sym (keeps row)) h.0, below_map n rows h.1)

  order-map : (rows : List Row) (next : ℕ) → InOrder rows next → InOrder (map f rows) next
  order-map rows next h = record { ascend = ascend_map rows h.ascend; below = below_map next rows h.below }

module _ (p : Row → Bool) where
  above_filter : (n : ℕ) (rows : List Row) → RowsAbove n rows → RowsAbove n (filter p rows)
  above_filter n [] h = tt
  above_filter n (row ∷ rows) h =
      let rest : RowsAbove n (filter p rows) = above_filter n rows h.1 in
      elim (p row) as (λ (b : Bool). RowsAbove n (cond b (row ∷ filter p rows) (filter p rows))) [ true ↦ (h.0, rest) | false ↦ rest ]

  ascend_filter : (rows : List Row) → RowsAscend rows → RowsAscend (filter p rows)
  ascend_filter [] h = tt
  ascend_filter (row ∷ rows) h =
      let rest : RowsAscend (filter p rows) = ascend_filter rows h.1 in
      elim (p row) as (λ (b : Bool). RowsAscend (cond b (row ∷ filter p rows) (filter p rows))) [ true ↦ (above_filter row.n rows h.0, rest) | false ↦ rest ]

  below_filter : (n : ℕ) (rows : List Row) → RowsBelow n rows → RowsBelow n (filter p rows)
  below_filter n [] h = tt
  below_filter n (row ∷ rows) h =
      let rest : RowsBelow n (filter p rows) = below_filter n rows h.1 in
      elim (p row) as (λ (b : Bool). RowsBelow n (cond b (row ∷ filter p rows) (filter p rows))) [ true ↦ (h.0, rest) | false ↦ rest ]

  order-filter : (rows : List Row) (next : ℕ) → InOrder rows next → InOrder (filter p rows) next
  order-filter rows next h = record { ascend = ascend_filter rows h.ascend; below = below_filter next rows h.below }

above_push : (m : ℕ) (rows : List Row) (row : Row) → RowsAbove m rows → m < row.n → RowsAbove m (rows ++ row ∷ [])
above_push m [] row h more = (more, tt)
above_push m (x ∷ rows) row h more = (h.0, above_push m rows row h.1 more)

ascend_push : (rows : List Row) (row : Row) → RowsAscend rows → RowsBelow row.n rows → RowsAscend (rows ++ row ∷ [])
ascend_push [] row h below = (tt, tt)
ascend_push (x ∷ rows) row h below = (above_push x.n rows row h.0 below.0, ascend_push rows row h.1 below.1)

below_push : (n : ℕ) (rows : List Row) (row : Row) → RowsBelow n rows → row.n < n → RowsBelow n (rows ++ row ∷ [])
below_push n [] row h less = (less, tt)
below_push n (x ∷ rows) row h less = (h.0, below_push n rows row h.1 less)

order-push : (rows : List Row) (row : Row) (next : ℕ) → InOrder rows next → next ≤ row.n → InOrder (rows ++ row ∷ []) (row.n + 1)
order-push rows row next h le = record {
  ascend = ascend_push rows row h.ascend (below_more next row.n rows le h.below);
  below = below_push (row.n + 1) rows row (below_more next (row.n + 1) rows (omega arith) h.below) (omega arith);
}

-- ---- rows that a raised boot may end

abbrev is_alive : Row → Bool
is_alive row = not (is_freeing row.phase)

abbrev pub alive : List Row → ℕ
alive rows = count_by is_alive rows

alive-cons : (row : Row) (rows : List Row) → alive (row ∷ rows) ≡ cond (is_alive row) 1 0 + alive rows
alive-cons row rows = sum_by-cons (λ x. cond (is_alive x) 1 0) row rows

alive-push : (rows : List Row) (row : Row) → alive (rows ++ row ∷ []) ≡ alive rows + cond (is_alive row) 1 0
alive-push rows row = sum_by_push (λ x. cond (is_alive x) 1 0) rows row

pub alive-le-length : (rows : List Row) → alive rows ≤ length rows
alive-le-length rows = count_by-le-length is_alive rows

cleared_alive : (agent boot : ℕ) (rows : List Row) → length (boot_effects agent boot rows) + alive (map (cleared agent boot) rows) ≡ alive rows
cleared_alive agent boot [] = refl
cleared_alive agent boot (row ∷ rows) =
    let was = alive-cons row rows in
    let now = alive-cons (cleared agent boot row) (map (cleared agent boot) rows) in
    let rest = cleared_alive agent boot rows in
    grind (arith, was, now, rest)

move_above : (n m : ℕ) (phase : Phase) (rows : List Row) → n ≤ m → RowsAbove m rows → move n phase rows ≡ rows
move_above n m phase [] le h = refl
move_above n m phase (row ∷ rows) le h = grind (arith, nat_tests, move_above n m phase rows le h.1, h.0)

le_one : (b : Bool) → cond b 1 0 ≤ 1
le_one true = omega arith
le_one false = omega arith

move_alive : (n : ℕ) (phase : Phase) (rows : List Row) (row : Row) → RowsAscend rows → row_at rows n ≡ Some row → is_freeing row.phase ≡ false → alive (move n phase rows) ≤ alive rows
move_alive n phase [] row h there is = absurd (cc)
move_alive n phase (x ∷ rows) row h there is = by (x.n == n) refl (move_alive n phase rows row h.1)
  where
    by : (b : Bool) → (x.n == n) ≡ b → (row_at rows n ≡ Some row → is_freeing row.phase ≡ false → alive (move n phase rows) ≤ alive rows) → alive (move n phase (x ∷ rows)) ≤ alive (x ∷ rows)
    by true e more =
        let here = rw e at there in
        let same : x ≡ row = cc in
        let number : x.n ≡ n = eqb-true x.n n e in
        let living : is_alive x ≡ true = ap (λ (y : Row). not (is_freeing y.phase)) same ∙ ap not is in
        let rest = move_above n x.n phase rows (omega arith) h.0 in
        let moved : move n phase (x ∷ rows) ≡ at_phase phase x ∷ rows = rw (e, rest) refl in
        let was = alive-cons x rows in
        let now = alive-cons (at_phase phase x) rows in
        let one = one_at (is_alive x) living in
        let few = le_one (is_alive (at_phase phase x)) in
        rw moved (omega (arith, was, now, one, few))
    by false e more =
        let moved : move n phase (x ∷ rows) ≡ x ∷ move n phase rows = rw e refl in
        let rest = more (rw e at there) is in
        let was = alive-cons x rows in
        let now = alive-cons x (move n phase rows) in
        rw moved (omega (arith, was, now, rest))

filter_alive : (p : Row → Bool) (rows : List Row) → alive (filter p rows) ≤ alive rows
filter_alive p [] = omega arith
filter_alive p (row ∷ rows) =
    let rest = filter_alive p rows in
    let was = alive-cons row rows in
    let now = alive-cons row (filter p rows) in
    elim (p row) as (λ (b : Bool). alive (cond b (row ∷ filter p rows) (filter p rows)) ≤ alive (row ∷ rows)) [ true ↦ omega (arith, rest, was, now) | false ↦ omega (arith, rest, was) ]

-- ---- how much one command does

-- the effects and the rows that live on, and the rows in order
pub record Bounded (place : ℕ) (before : List Row) (d : Done) : Type 0 where
  pub few : length d.effects + alive d.leases.rows ≤ alive before + 2
  pub order : InOrder d.leases.rows (place + 1)

pub record Raised (before : List Row) (d : Done) : Type 0 where
  pub few : length d.effects + alive d.leases.rows ≤ alive before
  pub order : (next : ℕ) → InOrder before next → InOrder d.leases.rows next

raised_none : (t : Leases) → Raised t.rows (nothing t)
raised_none t = record { few = omega arith; order = λ next h. h }

raised : (agent boot : ℕ) (t : Leases) → Raised t.rows (raise_known agent boot t)
unfolding raise_known
raised agent boot t =
    elim (nat_lt (known_boot t.known agent) boot) as
    (λ (b : Bool). Raised t.rows (if b
    then record { leases = record t { rows = map (cleared agent boot) t.rows; known = with_known agent boot t.known }; effects = boot_effects agent boot t.rows }
    else nothing t)) [
      | true ↦ record {
        few = let all = cleared_alive agent boot t.rows in omega (arith, all);
        order = λ next h. order-map (cleared agent boot) (λ row. grind arith) t.rows next h;
      }
      | false ↦ raised_none t
    ]

bounded_none : (place next : ℕ) (t : Leases) → InOrder t.rows next → next ≤ place → Bounded place t.rows (nothing t)
bounded_none place next t h le = record { few = omega arith; order = order_more next (place + 1) t.rows (omega arith) h }

taken : (place agent boot : ℕ) (machine : Ip4) (seq next : ℕ) (t : Leases) (r : Option Range) → InOrder t.rows next → next ≤ place → Bounded place t.rows (take_range place agent boot machine seq t r)
taken place agent boot machine seq next t None h le = record { few = omega arith; order = order_more next (place + 1) t.rows (omega arith) h }
taken place agent boot machine seq next t (Some r) h le = record {
  few = let all = alive-push t.rows (new_row place r machine agent boot seq) in omega (arith, all);
  order = order-push t.rows (new_row place r machine agent boot seq) next h le;
}

decided : (rules : LeaseRules) (place boot : ℕ) (rule : MachineRule) (seq next : ℕ) (t : Leases) → InOrder t.rows next → next ≤ place → Bounded place t.rows (decide rules place boot rule seq t)
unfolding decide
decided rules place boot rule seq next t h le =
    elim (nat_le rules.limit (row_count t.rows rule.machine)) as
    (λ (b : Bool). Bounded place t.rows (if b
    then record { leases = noted rule.machine boot seq (outcome.AtLimit (row_count t.rows rule.machine)) t; effects = effect.AtLimit rule.machine boot seq (row_count t.rows rule.machine) ∷ [] }
    else take_range place rule.agent boot rule.machine seq t (least_free rules t.rows rule.vip))) [
      | true ↦ record { few = omega arith; order = order_more next (place + 1) t.rows (omega arith) h }
      | false ↦ taken place rule.agent boot rule.machine seq next t (least_free rules t.rows rule.vip) h le
    ]

bounded_next : (place : ℕ) (before : List Row) (d : Done) (f : Leases → Done) → Raised before d → Bounded place d.leases.rows (f d.leases) → Bounded place before (nexts d f)
bounded_next place before d f raised bounded = record {
  few =
      let both = length-append d.effects (f d.leases).effects in
      let first = raised.few in
      let second = bounded.few in
      omega (arith, both, first, second);
  order = bounded.order;
}

reserved : (rules : LeaseRules) (place agent boot seq next : ℕ) (o : Option MachineRule) (t : Leases) → InOrder t.rows next → next ≤ place → Bounded place t.rows (reserve rules place agent boot seq o t)
unfolding reserve
reserved rules place agent boot seq next None t h le = bounded_none place next t h le
reserved rules place agent boot seq next (Some rule) t h le =
    elim ((rule.agent == agent) && nat_le (known_boot t.known agent) boot && is_later boot seq (last_of t.lasts rule.machine)) as
    (λ (b : Bool). Bounded place t.rows (if b then nexts (raise_known agent boot t) (decide rules place boot rule seq) else nothing t)) [
      | true ↦ bounded_next place t.rows (raise_known agent boot t) (decide rules place boot rule seq) (raised agent boot t)
          (decided rules place boot rule seq next (raise_known agent boot t).leases ((raised agent boot t).order next h) le)
      | false ↦ bounded_none place next t h le
    ]

moved : (place next n : ℕ) (phase : Phase) (t : Leases) (row : Row) (e : Effect) → InOrder t.rows next → next ≤ place → row_at t.rows n ≡ Some row → is_freeing row.phase ≡ false
    → Bounded place t.rows (record { leases = record t { rows = move row.n phase t.rows }; effects = e ∷ [] })
moved place next n phase t row e h le there is =
    let number = row_number t.rows n row there in
    let at = subst (λ (k : ℕ). row_at t.rows k ≡ Some row) (sym number) there in
    record {
      few = let all = move_alive row.n phase t.rows row h.ascend at is in omega (arith, all);
      order = order_more next (place + 1) _ (omega arith) (order-map (λ x. if x.n == row.n then at_phase phase x else x) (λ x. grind arith) t.rows next h);
    }

not_freeing : (phase : Phase) → is_being phase ≡ true → is_freeing phase ≡ false
not_freeing BeingLeased h = refl
not_freeing Leased h = refl
not_freeing Freeing h = absurd (true≢false (sym h))

granted : (place next n : ℕ) (o : Option Row) (t : Leases) → InOrder t.rows next → next ≤ place → row_at t.rows n ≡ o → Bounded place t.rows (grant t o)
unfolding grant
granted place next n None t h le there = bounded_none place next t h le
granted place next n (Some row) t h le there = by (is_being row.phase) refl
  where
    by : (b : Bool) → is_being row.phase ≡ b → Bounded place t.rows (if b then record { leases = record t { rows = move row.n Leased t.rows }; effects = effect.Granted (at_phase Leased row) ∷ [] } else nothing t)
    by true e = moved place next n Leased t row _ h le there (not_freeing row.phase e)
    by false e = bounded_none place next t h le

released : (place next n : ℕ) (o : Option Row) (t : Leases) → InOrder t.rows next → next ≤ place → row_at t.rows n ≡ o → Bounded place t.rows (release t o)
unfolding release
released place next n None t h le there = bounded_none place next t h le
released place next n (Some row) t h le there = by (is_freeing row.phase) refl
  where
    by : (b : Bool) → is_freeing row.phase ≡ b → Bounded place t.rows (if not b then record { leases = record t { rows = move row.n Freeing t.rows }; effects = effect.Released (at_phase Freeing row) ∷ [] } else nothing t)
    by true e = bounded_none place next t h le
    by false e = moved place next n Freeing t row _ h le there e

freed : (place next n : ℕ) (o : Option Row) (t : Leases) → InOrder t.rows next → next ≤ place → Bounded place t.rows (free t o)
unfolding free
freed place next n None t h le = bounded_none place next t h le
freed place next n (Some row) t h le =
    elim (is_freeing row.phase) as
    (λ (b : Bool). Bounded place t.rows (if b then record { leases = record t { rows = filter (λ other. not (other.n == row.n)) t.rows }; effects = effect.Freed row ∷ [] } else nothing t)) [
      | true ↦ record {
        few = let all = filter_alive (λ other. not (other.n == row.n)) t.rows in omega (arith, all);
        order = order_more next (place + 1) _ (omega arith) (order-filter (λ other. not (other.n == row.n)) t.rows next h);
      }
      | false ↦ bounded_none place next t h le
    ]

upped : (place next agent boot : ℕ) (t : Leases) → InOrder t.rows next → next ≤ place → Bounded place t.rows (up agent boot t)
unfolding up
upped place next agent boot t h le =
    let lifted = raised agent boot t in
    elim (nat_lt agent 256 && nat_lt (known_boot t.known agent) boot) as
    (λ (b : Bool). Bounded place t.rows (if b then record { leases = (raise_known agent boot t).leases; effects = effect.Known agent boot ∷ (raise_known agent boot t).effects } else nothing t)) [
      | true ↦ record {
        few = let all = lifted.few in omega (arith, all);
        order = order_more next (place + 1) _ (omega arith) (lifted.order next h);
      }
      | false ↦ bounded_none place next t h le
    ]

pub bounded_command : (rules : LeaseRules) (place next : ℕ) (c : LogCommand) (t : Leases) → InOrder t.rows next → next ≤ place → Bounded place t.rows (command rules place c t)
bounded_command rules place next (Reserve agent boot machine seq) t h le = reserved rules place agent boot seq next (rule_of rules machine) t h le
bounded_command rules place next (Granted n muxes) t h le = granted place next n (row_at t.rows n) t h le refl
bounded_command rules place next (Release n) t h le = released place next n (row_at t.rows n) t h le refl
bounded_command rules place next (Freed n) t h le = freed place next n (row_at t.rows n) t h le
bounded_command rules place next (Up agent boot) t h le = upped place next agent boot t h le

-- ---- a list of commands

pub effects-bound : (rules : LeaseRules) (place next : ℕ) (cs : List LogCommand) (t : Leases) → InOrder t.rows next → next ≤ place
    → length (apply rules (placed place cs) t).effects ≤ alive t.rows + 2 * length cs
unfolding apply
effects-bound rules place next [] t h le = omega arith
effects-bound rules place next (c ∷ cs) t h le =
    let one = bounded_command rules place next c t h le in
    let rest = effects-bound rules (place + 1) (place + 1) cs (command rules place c t).leases one.order (omega arith) in
    let first = ap (λ (d : Done). length d.effects) (apply-first rules (record { place = place; command = c }) (placed (place + 1) cs) t) in
    let both = length-append (command rules place c t).effects (apply rules (placed (place + 1) cs) (command rules place c t).leases).effects in
    let few = one.few in
    omega (arith, first, both, few, rest)

-- ---- commands that raise no boot

pub record Quiet (before : Leases) (d : Done) : Type 0 where
  pub few : length d.effects ≤ 2
  pub known : d.leases.known ≡ before.known

quiet_none : (t : Leases) → Quiet t (nothing t)
quiet_none t = record { few = omega arith; known = refl }

raise_quiet : (agent boot : ℕ) (t : Leases) → nat_lt (known_boot t.known agent) boot ≡ false → raise_known agent boot t ≡ nothing t
unfolding raise_known
raise_quiet agent boot t quiet = rw quiet refl

take_quiet : (place agent boot : ℕ) (machine : Ip4) (seq : ℕ) (t : Leases) (r : Option Range) → Quiet t (take_range place agent boot machine seq t r)
take_quiet place agent boot machine seq t None = record { few = omega arith; known = refl }
take_quiet place agent boot machine seq t (Some r) = record { few = omega arith; known = refl }

decide_quiet : (rules : LeaseRules) (place boot : ℕ) (rule : MachineRule) (seq : ℕ) (t : Leases) → Quiet t (decide rules place boot rule seq t)
unfolding decide
decide_quiet rules place boot rule seq t =
    elim (nat_le rules.limit (row_count t.rows rule.machine)) as
    (λ (b : Bool). Quiet t (if b
    then record { leases = noted rule.machine boot seq (outcome.AtLimit (row_count t.rows rule.machine)) t; effects = effect.AtLimit rule.machine boot seq (row_count t.rows rule.machine) ∷ [] }
    else take_range place rule.agent boot rule.machine seq t (least_free rules t.rows rule.vip))) [
      | true ↦ record { few = omega arith; known = refl }
      | false ↦ take_quiet place rule.agent boot rule.machine seq t (least_free rules t.rows rule.vip)
    ]

reserve_quiet : (rules : LeaseRules) (place agent boot seq : ℕ) (o : Option MachineRule) (t : Leases) → nat_lt (known_boot t.known agent) boot ≡ false → Quiet t (reserve rules place agent boot seq o t)
unfolding reserve
reserve_quiet rules place agent boot seq None t quiet = quiet_none t
reserve_quiet rules place agent boot seq (Some rule) t quiet =
    let same : nexts (nothing t) (decide rules place boot rule seq) ≡ nexts (raise_known agent boot t) (decide rules place boot rule seq) =
    ap (λ d. nexts d (decide rules place boot rule seq)) (sym (raise_quiet agent boot t quiet)) in
    let did = decide_quiet rules place boot rule seq t in
    let raised : Quiet t (nexts (nothing t) (decide rules place boot rule seq)) = record { few = did.few; known = did.known } in
    elim ((rule.agent == agent) && nat_le (known_boot t.known agent) boot && is_later boot seq (last_of t.lasts rule.machine)) as
    (λ (b : Bool). Quiet t (if b then nexts (raise_known agent boot t) (decide rules place boot rule seq) else nothing t)) [
      | true ↦ subst (Quiet t) same raised
      | false ↦ quiet_none t
    ]

grant_quiet : (t : Leases) (o : Option Row) → Quiet t (grant t o)
unfolding grant
grant_quiet t None = quiet_none t
grant_quiet t (Some row) =
    elim (is_being row.phase) as (λ (b : Bool). Quiet t (if b then record { leases = record t { rows = move row.n Leased t.rows }; effects = effect.Granted (at_phase Leased row) ∷ [] } else nothing t)) [
      | true ↦ record { few = omega arith; known = refl }
      | false ↦ quiet_none t
    ]

release_quiet : (t : Leases) (o : Option Row) → Quiet t (release t o)
unfolding release
release_quiet t None = quiet_none t
release_quiet t (Some row) =
    elim (not (is_freeing row.phase)) as (λ (b : Bool). Quiet t (if b then record { leases = record t { rows = move row.n Freeing t.rows }; effects = effect.Released (at_phase Freeing row) ∷ [] } else nothing t)) [
      | true ↦ record { few = omega arith; known = refl }
      | false ↦ quiet_none t
    ]

free_quiet : (t : Leases) (o : Option Row) → Quiet t (free t o)
unfolding free
free_quiet t None = quiet_none t
free_quiet t (Some row) =
    elim (is_freeing row.phase) as (λ (b : Bool). Quiet t (if b then record { leases = record t { rows = filter (λ other. not (other.n == row.n)) t.rows }; effects = effect.Freed row ∷ [] } else nothing t)) [
      | true ↦ record { few = omega arith; known = refl }
      | false ↦ quiet_none t
    ]

up_quiet : (agent boot : ℕ) (t : Leases) → nat_lt (known_boot t.known agent) boot ≡ false → Quiet t (up agent boot t)
unfolding up
up_quiet agent boot t quiet =
    let never : (nat_lt agent 256 && nat_lt (known_boot t.known agent) boot) ≡ false = ap (λ b. nat_lt agent 256 && b) quiet ∙ and-false (nat_lt agent 256) in
    rw never (quiet_none t)

quiet_command : (rules : LeaseRules) (place : ℕ) (c : LogCommand) (t : Leases) → may_raise t.known c ≡ false → Quiet t (command rules place c t)
quiet_command rules place (Reserve agent boot machine seq) t quiet = reserve_quiet rules place agent boot seq (rule_of rules machine) t quiet
quiet_command rules place (Granted n muxes) t quiet = grant_quiet t (row_at t.rows n)
quiet_command rules place (Release n) t quiet = release_quiet t (row_at t.rows n)
quiet_command rules place (Freed n) t quiet = free_quiet t (row_at t.rows n)
quiet_command rules place (Up agent boot) t quiet = up_quiet agent boot t quiet

or_first : (a b : Bool) → (a || b) ≡ false → a ≡ false
or_first true b h = h
or_first false b h = refl

or_second : (a b : Bool) → (a || b) ≡ false → b ≡ false
or_second true b h = absurd (true≢false h)
or_second false b h = h

pub effects-quiet : (rules : LeaseRules) (place : ℕ) (cs : List LogCommand) (t : Leases) → list_any (may_raise t.known) cs ≡ false → length (apply rules (placed place cs) t).effects ≤ 2 * length cs
unfolding apply
effects-quiet rules place [] t quiet = omega arith
effects-quiet rules place (c ∷ cs) t quiet =
    let one = quiet_command rules place c t (or_first (may_raise t.known c) (list_any (may_raise t.known) cs) quiet) in
    let others = or_second (may_raise t.known c) (list_any (may_raise t.known) cs) quiet in
    let still = subst (λ k. list_any (may_raise k) cs ≡ false) (sym one.known) others in
    let rest = effects-quiet rules (place + 1) cs (command rules place c t).leases still in
    let first = ap (λ (d : Done). length d.effects) (apply-first rules (record { place = place; command = c }) (placed (place + 1) cs) t) in
    let both = length-append (command rules place c t).effects (apply rules (placed (place + 1) cs) (command rules place c t).leases).effects in
    let few = one.few in
    omega (arith, first, both, few, rest)

-- ---- one command more of a list

pub drop_first : (cs : List LogCommand) (i : ℕ) (c : LogCommand) → slice_get cs i ≡ Some c → drop i cs ≡ c ∷ drop (i + 1) cs
drop_first [] zero c is = absurd (cc)
drop_first [] (suc i) c is = absurd (cc)
drop_first (x ∷ cs) zero c is = let same : x ≡ c = cc in ap (λ y. y ∷ cs) same
drop_first (x ∷ cs) (suc i) c is = let more : suc i + 1 ≡ suc (i + 1) = omega arith in drop_first cs i c is ∙ sym (ap (λ k. c ∷ drop k (x ∷ cs)) more)

-- what is done and what is left are the whole
pub record Going (all : Done) (rules : LeaseRules) (place : ℕ) (cs : List LogCommand) (t : Leases) (told : List Effect) (room : ℕ) : Type 0 where
  pub leases : (apply rules (placed place cs) t).leases ≡ all.leases
  pub effects : told ++ (apply rules (placed place cs) t).effects ≡ all.effects
  pub fits : length (apply rules (placed place cs) t).effects ≤ room

going_room : (all : Done) (rules : LeaseRules) (place : ℕ) (c : LogCommand) (cs : List LogCommand) (t : Leases) (effects : List Effect) (room : ℕ)
    → Going all rules place (c ∷ cs) t effects room → length (command rules place c t).effects ≤ room
going_room all rules place c cs t effects room h =
    let first = ap (λ (d : Done). length d.effects) (apply-first rules (record { place = place; command = c }) (placed (place + 1) cs) t) in
    let both = length-append (command rules place c t).effects (apply rules (placed (place + 1) cs) (command rules place c t).leases).effects in
    let told = h.fits in
    omega (arith, first, both, told)

going_on : (all : Done) (rules : LeaseRules) (place : ℕ) (c : LogCommand) (cs : List LogCommand) (t t2 : Leases) (before after : Told)
    → Going all rules place (c ∷ cs) t before.effects before.room → t2 ≡ (command rules place c t).leases → Adds before after (command rules place c t).effects
    → Going all rules (place + 1) cs t2 after.effects after.room
going_on all rules place c cs t t2 before after h is adds =
    let first = apply-first rules (record { place = place; command = c }) (placed (place + 1) cs) t in
    let did : List Effect = (command rules place c t).effects in
    let rest : Done = apply rules (placed (place + 1) cs) (command rules place c t).leases in
    record {
      leases = ap (λ x. (apply rules (placed (place + 1) cs) x).leases) is ∙ sym (ap (λ (d : Done). d.leases) first) ∙ h.leases;
      effects =
          ap (λ x. after.effects ++ (apply rules (placed (place + 1) cs) x).effects) is
          ∙ ap (λ es. es ++ rest.effects) adds.effects
          ∙ append_assoc before.effects did rest.effects
          ∙ sym (ap (λ (d : Done). before.effects ++ d.effects) first)
          ∙ h.effects;
      fits =
          let all2 = ap (λ (d : Done). length d.effects) first in
          let both = length-append did rest.effects in
          let told = h.fits in
          let left = adds.room in
          let same = ap (λ x. length (apply rules (placed (place + 1) cs) x).effects) is in
          omega (arith, all2, both, told, left, same);
    }

pub any_here : (p : LogCommand → Bool) (cs : List LogCommand) (i : ℕ) (c : LogCommand) → slice_get cs i ≡ Some c → p c ≡ true → list_any p cs ≡ true
any_here p [] zero c is hit = absurd (cc)
any_here p [] (suc i) c is hit = absurd (cc)
any_here p (x ∷ cs) zero c is hit = let same : x ≡ c = cc in ap (λ b. b || list_any p cs) (ap p same ∙ hit)
any_here p (x ∷ cs) (suc i) c is hit = ap (λ b. p x || b) (any_here p cs i c is hit) ∙ or-true (p x)

pub any_more : (p : LogCommand → Bool) (cs : List LogCommand) (i : ℕ) (c : LogCommand) → slice_get cs i ≡ Some c → list_any p (take i cs) ≡ false → p c ≡ false → list_any p (take (i + 1) cs) ≡ false
any_more p [] zero c is none miss = absurd (cc)
any_more p [] (suc i) c is none miss = absurd (cc)
any_more p (x ∷ cs) zero c is none miss = let same : x ≡ c = cc in ap (λ b. b || false) (ap p same ∙ miss)
any_more p (x ∷ cs) (suc i) c is none miss =
    let more : suc i + 1 ≡ suc (i + 1) = omega arith in
    let first = or_first (p x) (list_any p (take i cs)) none in
    let rest = any_more p cs i c is (or_second (p x) (list_any p (take i cs)) none) miss in
    ap (λ k. list_any p (take k (x ∷ cs))) more ∙ ap (λ b. b || list_any p (take (i + 1) cs)) first ∙ rest

apply-none : (rules : LeaseRules) (t : Leases) → apply rules [] t ≡ nothing t
unfolding apply
apply-none rules t = refl

pub going_end : (all : Done) (rules : LeaseRules) (place : ℕ) (cs : List LogCommand) (t : Leases) (told : List Effect) (room : ℕ) → Going all rules place cs t told room → cs ≡ []
    → (t ≡ all.leases) × (told ≡ all.effects)
going_end all rules place cs t told room h none =
    let last = ap (λ xs. apply rules (placed place xs) t) none ∙ apply-none rules t in
    (sym (ap (λ (d : Done). d.leases) last) ∙ h.leases, sym (append-nil told) ∙ sym (ap (λ (d : Done). told ++ d.effects) last) ∙ h.effects)

pub going_start : (all : Done) (rules : LeaseRules) (place place2 : ℕ) (cs : List LogCommand) (t : Leases) (told : List Effect) (room : ℕ) → place2 ≡ place
    → (apply rules (placed place cs) t).leases ≡ all.leases → told ++ (apply rules (placed place cs) t).effects ≡ all.effects → length (apply rules (placed place cs) t).effects ≤ room
    → Going all rules place2 cs t told room
going_start all rules place place2 cs t told room same leases effects fits =
    subst (λ p. Going all rules p cs t told room) (sym same) (record { leases = leases; effects = effects; fits = fits })

pub going_fits : (all : Done) (rules rules2 : LeaseRules) (place : ℕ) (whole : List LogCommand) (c : LogCommand) (cs : List LogCommand) (t : Leases) (told : List Effect) (room : ℕ)
    → Going all rules place whole t told room → whole ≡ c ∷ cs → rules2 ≡ rules → length (command rules2 place c t).effects ≤ room
going_fits all rules rules2 place whole c cs t told room h first same =
    let going = subst (λ xs. Going all rules place xs t told room) first h in
    subst (λ r. length (command r place c t).effects ≤ room) (sym same) (going_room all rules place c cs t told room going)

pub going_more : (all : Done) (rules rules2 : LeaseRules) (place place2 : ℕ) (whole : List LogCommand) (c : LogCommand) (cs : List LogCommand) (t t2 : Leases) (before after : Told)
    → Going all rules place whole t before.effects before.room → whole ≡ c ∷ cs → rules2 ≡ rules → place2 ≡ place + 1
    → t2 ≡ (command rules2 place c t).leases → Adds before after (command rules2 place c t).effects
    → Going all rules place2 cs t2 after.effects after.room
going_more all rules rules2 place place2 whole c cs t t2 before after h first same next is adds =
    let going = subst (λ xs. Going all rules place xs t before.effects before.room) first h in
    let leases = is ∙ ap (λ r. (command r place c t).leases) same in
    let added = subst (λ r. Adds before after (command r place c t).effects) same adds in
    subst (λ p. Going all rules p cs t2 after.effects after.room) (sym next) (going_on all rules place c cs t t2 before after going leases added)
