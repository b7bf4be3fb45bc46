-- No row has number 0, so walks from 0 meet each row; and what is due of rows in a phase is due of all rows.
use Rattle.std.proofs.Common.{◌≡◌, ◌<◌, refl, sym, ap, ◌∙◌, ℕ, zero, suc, ◌+◌, ◌*◌, Bool, true, false, ◌&&◌, nat_lt, List, [], ◌∷◌, ◌++◌, map, filter, find, Option, Some, None, arith}
use Rattle.std.specs.Prelude.{◌==◌, if◌then◌else◌}
use Rattle.std.specs.List.{flat_map}
use Rattle.std.proofs.lemmas.Bool.Decides.{nat_tests}
use Rattle.wire_core.specs.Members.{Each}
use Rattle.wire_core.specs.Commands.{LogCommand}
use Rattle.wire_core.specs.declared.rules.LeaseRules.{LeaseRules}
use Rattle.lease_spec.specs.declared.row.Row.{Row}
use Rattle.lease_spec.specs.declared.row.Phase.{Phase}
use Rattle.lease_spec.specs.Places.{Placed, placed, commands_from, commands}
use Rattle.lease_spec.specs.Holders.{Stood}
use Rattle.lease_spec.specs.Table.{Done, row_at, command, tell, table, story}
use Rattle.lease_spec.proofs.CauseLaws.{story_of, row_number}
use Rattle.lease_spec.proofs.HolderLaws.{command_goes}
use Rattle.paxos_spec.specs.Acceptor.{AcceptorState}
use Rattle.port_leases.specs.TableState.{in_phase, rows_above, rows_in}
use Rattle.manager_spec.specs.Manager.{leases_of, values_of}

-- ---- no row has number 0

abbrev HasNoZero : List Row → Type 0
HasNoZero rows = (row : Row) → row_at rows 0 ≡ Some row → ⊥

-- the places are above 0
abbrev Starts : List Placed → Type 0
Starts [] = Unit {0}
Starts (c ∷ cs) = (0 < c.place) × Starts cs

starts_front : (cs : List Placed) (c : Placed) → Starts (cs ++ c ∷ []) → Starts cs × (0 < c.place)
starts_front [] c h = (tt, h.0)
starts_front (x ∷ xs) c h = let rest = starts_front xs c h.1 in ((h.0, rest.0), rest.1)

starts_append : (cs ds : List Placed) → Starts cs → Starts ds → Starts (cs ++ ds)
starts_append [] ds f g = g
starts_append (c ∷ cs) ds f g = (f.0, starts_append cs ds f.1 g)

starts_placed : (p : ℕ) (cs : List LogCommand) → 0 < p → Starts (placed p cs)
starts_placed p [] lt = tt
starts_placed p (c ∷ cs) lt = (lt, starts_placed (p + 1) cs (omega arith))

starts_from : (slot : ℕ) (values : List (List LogCommand)) → Starts (commands_from slot values)
starts_from slot [] = tt
starts_from slot (value ∷ values) = starts_append (placed (16 * slot + 1) value) _
    (starts_placed (16 * slot + 1) value (omega arith)) (starts_from (slot + 1) values)

story_zero : (rules : LeaseRules) (cs : List Placed) → Starts cs → HasNoZero (story rules cs).leases.rows
story_zero rules cs = story_of rules (λ ds d. Starts ds → HasNoZero d.leases.rows) (λ h row e. absurd (cc))
    (λ ds c d before h row e.
    let front = starts_front ds c h in
    let zero_row : row.n ≡ 0 = row_number (tell rules d c).leases.rows 0 row e in
    let stood : Stood d.leases.rows row = (command_goes rules c.place c.command d.leases).stood 0 row front.1 e in
    before front.0 stood.was (ap (row_at d.leases.rows) (sym zero_row) ∙ stood.there)) cs

none_by : (x : Option Row) → ((row : Row) → x ≡ Some row → ⊥) → x ≡ None
none_by None h = refl
none_by (Some row) h = absurd (h row refl)

pub no_zero : (rules : LeaseRules) (a : AcceptorState) → row_at (leases_of rules a).rows 0 ≡ None
unfolding leases_of
no_zero rules a = none_by _ (story_zero rules (commands (values_of a)) (starts_from 0 (values_of a)))

-- ---- walks from 0

find_first : (b : Bool) (row : Row) (rest : Option Row) → (if b then Some row else rest) ≡ None
    → (b ≡ false) × (rest ≡ None)
find_first true row rest e = absurd (cc)
find_first false row rest e = (refl, e)

above_zero : (row : Row) → (row.n == 0) ≡ false → nat_lt 0 row.n ≡ true
above_zero row e = grind (arith, nat_tests)

pub all_above : (rows : List Row) → row_at rows 0 ≡ None → rows_above rows 0 ≡ rows
all_above [] e = refl
all_above (row ∷ rows) e =
    let first = find_first (row.n == 0) row (row_at rows 0) e in
    rw (above_zero row first.0) (ap (λ (xs : List Row). row ∷ xs) (all_above rows first.1))

due_by : {X : Type 0} (g : Row → List X) (phase : Phase) (row : Row) (rows : List Row) (b : Bool)
    → in_phase phase row ≡ b → nat_lt 0 row.n ≡ true → (in_phase phase row ≡ false → g row ≡ [])
    → flat_map g (rows_in rows phase 0) ≡ flat_map g rows
    → flat_map g (rows_in (row ∷ rows) phase 0) ≡ flat_map g (row ∷ rows)
due_by g phase row rows true is above other rest = rw (above, is) (ap (λ xs. g row ++ xs) rest)
due_by g phase row rows false is above other rest = rw (above, is) (rw (other is) rest)

pub due_in : {X : Type 0} (g : Row → List X) (phase : Phase) (rows : List Row)
    → ((row : Row) → in_phase phase row ≡ false → g row ≡ []) → row_at rows 0 ≡ None
    → flat_map g (rows_in rows phase 0) ≡ flat_map g rows
due_in g phase [] others e = refl
due_in g phase (row ∷ rows) others e =
    let first = find_first (row.n == 0) row (row_at rows 0) e in
    due_by g phase row rows _ refl (above_zero row first.0) (others row) (due_in g phase rows others first.1)
