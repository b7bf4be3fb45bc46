-- How many rows a machine has, and the least free range, after each edit of the rows.
use Rattle.std.proofs.Common.{◌≡◌, ℕ, zero, suc, ◌+◌, ◌<◌, ◌≤◌, Bool, true, false, not, ◌&&◌, ◌==◌, cond, List, [], ◌∷◌}
use Rattle.std.proofs.Common.{◌++◌, map, filter, count_by, Option, Some, None, refl, ap, arith, nat_lt, nat_le}
use Rattle.std.specs.Prelude.{if◌then◌else◌}
use Rattle.std.specs.List.{list_any}
use Rattle.std.proofs.lemmas.List.Sums.{sum_by-cons, sum_by_push}
use Rattle.std.proofs.lemmas.Bool.Decides.{nat_tests}
use Rattle.wire_core.specs.declared.address.Ip4.{Ip4}
use Rattle.wire_core.specs.declared.range.Range.{Range}
use Rattle.wire_core.specs.declared.rules.MachineRule.{MachineRule}
use Rattle.wire_core.specs.declared.rules.LeaseRules.{LeaseRules}
use Rattle.wire_core.specs.Commands.{LogCommand, Reserve, Granted, Release, Freed, Up}
use Rattle.wire_core.specs.Ranges.{range_at, is_leasable}
use Rattle.lease_spec.specs.declared.row.Row.{Row}
use Rattle.lease_spec.specs.declared.row.Phase.{Phase}
use Rattle.lease_spec.specs.declared.row.Phase.TheVariants.{Leased, Freeing}
use Rattle.lease_spec.specs.Places.{Placed}
use Rattle.lease_spec.specs.Free.{same_range, has_no_row, first_start, range_of_start, least_free}
use Rattle.lease_spec.specs.Holders.{WithinLimit}
use Rattle.lease_spec.specs.Table.{Leases, Done, command, story, rule_of, reserve, decide, raise_known, grant, release}
use Rattle.lease_spec.specs.Table.{free, up, row_at, is_stale, is_freeing, is_being, at_phase, take_range, known_boot}
use Rattle.lease_spec.specs.Table.{last_of, is_later, new_row, move, cleared, row_count}
use Rattle.lease_spec.proofs.MemberLaws.{by_if}
use Rattle.lease_spec.proofs.CauseLaws.{story_of}

-- ---- any test of rows

module _ (p : Row → Bool) where
  count-cons : (row : Row) (rows : List Row) → count_by p (row ∷ rows) ≡ cond (p row) 1 0 + count_by p rows
  count-cons row rows = sum_by-cons (λ x. cond (p x) 1 0) row rows

  count-push : (rows : List Row) (row : Row) → count_by p (rows ++ row ∷ []) ≡ count_by p rows + cond (p row) 1 0
  count-push rows row = sum_by_push (λ x. cond (p x) 1 0) rows row

  count-filter : (q : Row → Bool) (rows : List Row) → count_by p (filter q rows) ≤ count_by p rows
  count-filter q [] = omega arith
  count-filter q (row ∷ rows) =
      let was = count-cons row rows in
      let now = count-cons row (filter q rows) in
      grind (arith, was, now, count-filter q rows)

-- an edit of each row that the test doesn't see
module _ (p : Row → Bool) (f : Row → Row) (blind : (row : Row) → p (f row) ≡ p row) where
  count-map : (rows : List Row) → count_by p (map f rows) ≡ count_by p rows
  count-map [] = refl
  count-map (row ∷ rows) =
      let was = count-cons p row rows in
      let now = count-cons p (f row) (map f rows) in
      grind (arith, was, now, count-map rows, blind row)

  any-map : (rows : List Row) → list_any p (map f rows) ≡ list_any p rows
  any-map [] = refl
  any-map (row ∷ rows) = grind (arith, any-map rows, blind row)

-- ---- rows that only change their phase

cleared_machine : (agent boot : ℕ) (row : Row) → (cleared agent boot row).machine ≡ row.machine
cleared_machine agent boot row =
    by_if (λ (x : Row). x.machine ≡ row.machine) (is_stale agent boot row) (λ _. refl) (λ _. refl)

cleared_range : (agent boot : ℕ) (row : Row) → (cleared agent boot row).range ≡ row.range
cleared_range agent boot row =
    by_if (λ (x : Row). x.range ≡ row.range) (is_stale agent boot row) (λ _. refl) (λ _. refl)

pub count-raised : (agent boot : ℕ) (t : Leases) (machine : Ip4)
    → row_count (raise_known agent boot t).leases.rows machine ≡ row_count t.rows machine
unfolding raise_known
count-raised agent boot t machine =
    by_if (λ (d : Done). row_count d.leases.rows machine ≡ row_count t.rows machine)
    (nat_lt (known_boot t.known agent) boot)
    (λ _. count-map (λ row. row.machine.0 == machine.0) (cleared agent boot)
    (λ row. ap (λ (m : Ip4). m.0 == machine.0) (cleared_machine agent boot row)) t.rows)
    (λ _. refl)

count-moved : (n : ℕ) (phase : Phase) (rows : List Row) (machine : Ip4)
    → row_count (move n phase rows) machine ≡ row_count rows machine
count-moved n phase rows machine =
    count-map (λ row. row.machine.0 == machine.0) (λ row. if row.n == n then at_phase phase row else row)
    (λ row. by_if (λ (x : Row). (x.machine.0 == machine.0) ≡ (row.machine.0 == machine.0)) (row.n == n) (λ _. refl)
    (λ _. refl)) rows

-- ---- the limit

abbrev Limited : LeaseRules → Done → Type 0
Limited rules d = WithinLimit rules d.leases.rows

raise_limited : (rules : LeaseRules) (agent boot : ℕ) (t : Leases) → WithinLimit rules t.rows
    → Limited rules (raise_known agent boot t)
raise_limited rules agent boot t h machine = rw (count-raised agent boot t machine) (h machine)

grant_limited : (rules : LeaseRules) (t : Leases) (o : Option Row) → WithinLimit rules t.rows
    → Limited rules (grant t o)
unfolding grant
grant_limited rules t None h = h
grant_limited rules t (Some row) h =
    by_if (Limited rules) (is_being row.phase) (λ _ machine. rw (count-moved row.n Leased t.rows machine) (h machine))
    (λ _. h)

release_limited : (rules : LeaseRules) (t : Leases) (o : Option Row) → WithinLimit rules t.rows
    → Limited rules (release t o)
unfolding release
release_limited rules t None h = h
release_limited rules t (Some row) h =
    by_if (Limited rules) (not (is_freeing row.phase))
    (λ _ machine. rw (count-moved row.n Freeing t.rows machine) (h machine)) (λ _. h)

free_limited : (rules : LeaseRules) (t : Leases) (o : Option Row) → WithinLimit rules t.rows → Limited rules (free t o)
unfolding free
free_limited rules t None h = h
free_limited rules t (Some row) h = by_if (Limited rules) (is_freeing row.phase)
    (λ _ machine. let less = count-filter (λ x. x.machine.0 == machine.0) (λ other. not (other.n == row.n)) t.rows in
    let most = h machine in omega (arith, less, most))
    (λ _. h)

new_limited : (rules : LeaseRules) (rows : List Row) (row : Row) → WithinLimit rules rows
    → row_count rows row.machine < rules.limit → WithinLimit rules (rows ++ row ∷ [])
new_limited rules rows row h room machine =
    let more = count-push (λ x. x.machine.0 == machine.0) rows row in
    let most = h machine in
    by (row.machine.0 == machine.0) refl more most
  where
    by : (b : Bool) → (row.machine.0 == machine.0) ≡ b
        → row_count (rows ++ row ∷ []) machine ≡ row_count rows machine + cond b 1 0
        → row_count rows machine ≤ rules.limit → row_count (rows ++ row ∷ []) machine ≤ rules.limit
    by true hit more most =
        let same : row.machine.0 ≡ machine.0 = grind (arith, nat_tests) in
        let counts : row_count rows row.machine ≡ row_count rows machine =
        ap (λ (a : ℕ). count_by (λ (x : Row). x.machine.0 == a) rows) same in
        omega (arith, more, counts, room)
    by false miss more most = omega (arith, more, most)

decide_limited : (rules : LeaseRules) (place boot : ℕ) (rule : MachineRule) (seq : ℕ) (t : Leases)
    → WithinLimit rules t.rows → Limited rules (decide rules place boot rule seq t)
unfolding decide
decide_limited rules place boot rule seq t h =
    by_if (Limited rules) (nat_le rules.limit (row_count t.rows rule.machine))
    (λ _. h)
    (λ room. take (least_free rules t.rows rule.vip)
    (let lt : row_count t.rows rule.machine < rules.limit = grind (arith, nat_tests) in lt))
  where
    take : (o : Option Range) → row_count t.rows rule.machine < rules.limit
        → Limited rules (take_range place rule.agent boot rule.machine seq t o)
    take None lt = h
    take (Some range) lt = new_limited rules t.rows (new_row place range rule.machine rule.agent boot seq) h lt

reserve_limited : (rules : LeaseRules) (place agent boot seq : ℕ) (o : Option MachineRule) (t : Leases)
    → WithinLimit rules t.rows → Limited rules (reserve rules place agent boot seq o t)
unfolding reserve
reserve_limited rules place agent boot seq None t h = h
reserve_limited rules place agent boot seq (Some rule) t h =
    by_if (Limited rules) ((rule.agent == agent) && nat_le (known_boot t.known agent) boot
    && is_later boot seq (last_of t.lasts rule.machine))
    (λ _. decide_limited rules place boot rule seq (raise_known agent boot t).leases
    (raise_limited rules agent boot t h))
    (λ _. h)

up_limited : (rules : LeaseRules) (agent boot : ℕ) (t : Leases) → WithinLimit rules t.rows
    → Limited rules (up agent boot t)
unfolding up
up_limited rules agent boot t h =
    by_if (Limited rules) (nat_lt agent 256 && nat_lt (known_boot t.known agent) boot)
    (λ _. raise_limited rules agent boot t h) (λ _. h)

command_limited : (rules : LeaseRules) (place : ℕ) (c : LogCommand) (t : Leases) → WithinLimit rules t.rows
    → Limited rules (command rules place c t)
command_limited rules place (Reserve agent boot machine seq) t h =
    reserve_limited rules place agent boot seq (rule_of rules machine) t h
command_limited rules place (Granted n muxes) t h = grant_limited rules t (row_at t.rows n) h
command_limited rules place (Release n) t h = release_limited rules t (row_at t.rows n) h
command_limited rules place (Freed n) t h = free_limited rules t (row_at t.rows n) h
command_limited rules place (Up agent boot) t h = up_limited rules agent boot t h

pub within_limit : (rules : LeaseRules) (cs : List Placed) → WithinLimit rules (story rules cs).leases.rows
within_limit rules cs = story_of rules (λ _ d. Limited rules d) (λ machine. omega arith)
    (λ cs c d h. command_limited rules c.place c.command d.leases h) cs

-- ---- the least free range, where only phases changed

first_start_same : (p q : ℕ → Bool) → ((s : ℕ) → p s ≡ q s) → (count start : ℕ)
    → first_start p count start ≡ first_start q count start
unfolding first_start
first_start_same p q same zero start = refl
first_start_same p q same (suc count) start = rw (same start, first_start_same p q same count (start + 8)) refl

none-raised : (agent boot : ℕ) (t : Leases) (r : Range)
    → has_no_row (raise_known agent boot t).leases.rows r ≡ has_no_row t.rows r
unfolding raise_known
none-raised agent boot t r =
    by_if (λ (d : Done). has_no_row d.leases.rows r ≡ has_no_row t.rows r) (nat_lt (known_boot t.known agent) boot)
    (λ _. ap not (any-map (λ row. same_range row.range r) (cleared agent boot)
    (λ row. ap (λ (x : Range). same_range x r) (cleared_range agent boot row)) t.rows))
    (λ _. refl)

pub least_free-raised : (rules : LeaseRules) (agent boot : ℕ) (t : Leases) (vip : Ip4)
    → least_free rules (raise_known agent boot t).leases.rows vip ≡ least_free rules t.rows vip
unfolding least_free
least_free-raised rules agent boot t vip = ap (range_of_start vip) (first_start_same _ _
    (λ start. ap (λ b. is_leasable rules (range_at vip start) && b) (none-raised agent boot t (range_at vip start)))
    8192 0)
