-- No two leases are on one range, whatever commands come, and a lease that stands is the one that it was.
use Rattle.std.proofs.Common.{◌≡◌, ◌≢◌, ℕ, ◌+◌, ◌*◌, ◌<◌, ◌≤◌, Bool, true, false, ◌==◌, nat_lt, nat_le, List, [], ◌∷◌}
use Rattle.std.proofs.Common.{◌++◌, map, filter, length, Option, Some, None, refl, sym, ap, ◌∙◌, subst, arith}
use Rattle.std.specs.Prelude.{if◌then◌else◌, not, ◌&&◌, fold, cond}
use Rattle.std.specs.Option.{option_or}
use Rattle.std.proofs.lemmas.Bool.Decides.{nat_tests}
use Rattle.std.proofs.lemmas.List.Folds.{find-append}
use Rattle.wire_core.specs.declared.address.Ip4.{Ip4}
use Rattle.wire_core.specs.declared.range.Range.{Range}
use Rattle.wire_core.specs.declared.rules.MachineRule.{MachineRule}
use Rattle.wire_core.specs.declared.rules.LeaseRules.{LeaseRules}
use Rattle.wire_core.specs.Ranges.{is_leasable}
use Rattle.wire_core.specs.Members.{Each}
use Rattle.wire_core.specs.Commands.{LogCommand, Reserve, Granted, Release, Freed, Up}
use Rattle.lease_spec.specs.declared.row.Row.{Row}
use Rattle.lease_spec.specs.declared.row.Phase.{Phase}
use Rattle.lease_spec.specs.declared.row.Phase.TheVariants.{Leased, Freeing}
use Rattle.lease_spec.specs.Places.{Placed, placed, slot_commands}
use Rattle.lease_spec.specs.Free.{has_no_row, least_free}
use Rattle.lease_spec.specs.Table.{Leases, Done, nothing, tell, command, story, apply, rule_of, reserve, decide}
use Rattle.lease_spec.specs.Table.{raise_known, grant, release, free, up, row_at, is_stale, is_freeing, is_being}
use Rattle.lease_spec.specs.Table.{at_phase, take_range, known_boot, last_of, is_later, new_row, move, cleared}
use Rattle.lease_spec.specs.Table.{row_count}
use Rattle.lease_spec.specs.Holders.{Apart, OwnRanges, OwnNumbers, AllLeasable, AllBelow, SameLease, Stood, GoesOn}
use Rattle.lease_spec.proofs.MemberLaws.{each_append, each_from, each_on, each_map, by_if}
use Rattle.lease_spec.proofs.CauseLaws.{row_number, story_of}
use Rattle.lease_spec.proofs.FreeLaws.{no_row, found_free, found_leasable}

-- ---- rows that go on

same_lease : (row : Row) → SameLease row row
same_lease row = record { number = refl; range = refl; machine = refl }

stood_here : (rows : List Row) (n : ℕ) (row : Row) → row_at rows n ≡ Some row → Stood rows row
stood_here rows n row e =
    record {
      was = row;
      there = subst (λ (k : ℕ). row_at rows k ≡ Some row) (sym (row_number rows n row e)) e;
      same =
          same_lease row;
    }

pub stays : (rules : LeaseRules) (n : ℕ) (rows : List Row) → GoesOn rules n n rows rows
stays rules n rows =
    record {
      rises = omega arith;
      ranges = λ h. h;
      leasable = λ h. h;
      numbers = λ l h. h;
      below = λ h. h;
      stood =
          λ k row lt e. stood_here rows k row e;
    }

pub goes_on_on : (rules : LeaseRules) (a b c : ℕ) (xs ys zs : List Row) → GoesOn rules a b xs ys
    → GoesOn rules b c ys zs → GoesOn rules a c xs zs
goes_on_on rules a b c xs ys zs g h = record {
  rises = (let x = g.rises in let y = h.rises in omega arith);
  ranges = λ r. h.ranges (g.ranges r);
  leasable = λ l. h.leasable (g.leasable l);
  numbers = λ l n. h.numbers (g.below l) (g.numbers l n);
  below = λ l. h.below (g.below l);
  stood = λ n row lt e.
      let s : Stood ys row = h.stood n row (let x = g.rises in omega arith) e in
      let number : row.n ≡ n = row_number zs n row e in
      let t : Stood xs s.was = g.stood row.n s.was (omega arith) s.there in
      record {
        was = t.was;
        there = subst (λ (k : ℕ). row_at xs k ≡ Some t.was) s.same.number t.there;
        same =
            record {
              number = t.same.number ∙ s.same.number;
              range = t.same.range ∙ s.same.range;
              machine =
                  t.same.machine ∙ s.same.machine;
            };
      };
}

-- ---- rows that only change their phase

abbrev Keeps : (Row → Row) → Type 0
Keeps f = (row : Row) → SameLease row (f row)

apart_map : (Differ : Row → Row → Type 0) (f : Row → Row) → ((a b : Row) → Differ a b → Differ (f a) (f b))
    → (rows : List Row) → Apart Differ rows → Apart Differ (map f rows)
apart_map Differ f k [] h = tt
apart_map Differ f k (row ∷ rows) h =
    (each_map _ f rows (each_on _ _ (λ other apart. k row other apart) rows h.0), apart_map Differ f k rows h.1)

ranges_map : (f : Row → Row) → Keeps f → (rows : List Row) → OwnRanges rows → OwnRanges (map f rows)
ranges_map f k = apart_map _ f (λ a b apart same. apart ((k a).range ∙ same ∙ sym (k b).range))

numbers_map : (f : Row → Row) → Keeps f → (rows : List Row) → OwnNumbers rows → OwnNumbers (map f rows)
numbers_map f k = apart_map _ f (λ a b apart same. apart ((k a).number ∙ same ∙ sym (k b).number))

leasable_map : (rules : LeaseRules) (f : Row → Row) → Keeps f → (rows : List Row) → AllLeasable rules rows
    → AllLeasable rules (map f rows)
leasable_map rules f k rows h =
    each_map _ f rows (each_on _ _
    (λ row is. subst (λ (r : Range). is_leasable rules r ≡ true) (k row).range is) rows h)

below_map : (n : ℕ) (f : Row → Row) → Keeps f → (rows : List Row) → AllBelow n rows → AllBelow n (map f rows)
below_map n f k rows h = each_map _ f rows (each_on _ _ (λ row lt. let e = (k row).number in omega arith) rows h)

-- what is found behind a change of phases was found before it
back : (f : Row → Row) → Keeps f → (rows : List Row) (n : ℕ) (row : Row) → row_at (map f rows) n ≡ Some row
    → (was : Row) × (row_at rows n ≡ Some was) × (f was ≡ row)
back f k [] n row e = absurd (cc)
back f k (x ∷ xs) n row e =
    let same : x.n ≡ (f x).n = (k x).number in
    let tests : ((f x).n == n) ≡ (x.n == n) = ap (λ (m : ℕ). m == n) (sym same) in
    by (x.n == n) (subst (λ (b : Bool). cond b (Some (f x)) (row_at (map f xs) n) ≡ Some row) tests e)
    (back f k xs n row)
  where
    by : (b : Bool) → cond b (Some (f x)) (row_at (map f xs) n) ≡ Some row
        → (row_at (map f xs) n ≡ Some row → (was : Row) × (row_at xs n ≡ Some was) × (f was ≡ row))
        → (was : Row) × (cond b (Some x) (row_at xs n) ≡ Some was) × (f was ≡ row)
    by true e rest = (x, refl, cc)
    by false e rest = rest e

stood_map : (f : Row → Row) → Keeps f → (rows : List Row) (n : ℕ) (row : Row) → row_at (map f rows) n ≡ Some row
    → Stood rows row
stood_map f k rows n row e =
    let s : (was : Row) × (row_at rows n ≡ Some was) × (f was ≡ row) = back f k rows n row e in
    record {
      was = s.0;
      there = subst (λ (m : ℕ). row_at rows m ≡ Some s.0) (sym (row_number (map f rows) n row e)) s.1;
      same = subst (SameLease s.0) s.2 (k s.0);
    }

phased : (rules : LeaseRules) (n : ℕ) (f : Row → Row) → Keeps f → (rows : List Row) → GoesOn rules n n rows (map f rows)
phased rules n f k rows =
    record {
      rises = omega arith;
      ranges = ranges_map f k rows;
      leasable = leasable_map rules f k rows;
      numbers =
          λ l. numbers_map f k rows;
      below = below_map n f k rows;
      stood = λ m row lt e. stood_map f k rows m row e;
    }

moved : (rules : LeaseRules) (p n : ℕ) (phase : Phase) (rows : List Row) → GoesOn rules p p rows (move n phase rows)
moved rules p n phase rows =
    phased rules p (λ row. if row.n == n then at_phase phase row else row)
    (λ row. by_if (SameLease row) (row.n == n) (λ _. record { number = refl; range = refl; machine = refl })
    (λ _. same_lease row)) rows

-- ---- a row that leaves

each_filter : (P : Row → Type 0) (p : Row → Bool) (rows : List Row) → Each P rows → Each P (filter p rows)
each_filter P p [] h = tt
each_filter P p (row ∷ rows) h = by (p row) (each_filter P p rows h.1)
  where
    by : (b : Bool) → Each P (filter p rows) → Each P (cond b (row ∷ filter p rows) (filter p rows))
    by true rest = (h.0, rest)
    by false rest = rest

pub apart_filter : (Differ : Row → Row → Type 0) (p : Row → Bool) (rows : List Row) → Apart Differ rows
    → Apart Differ (filter p rows)
apart_filter Differ p [] h = tt
apart_filter Differ p (row ∷ rows) h = by (p row) (apart_filter Differ p rows h.1)
  where
    by : (b : Bool) → Apart Differ (filter p rows) → Apart Differ (cond b (row ∷ filter p rows) (filter p rows))
    by true rest = (each_filter _ p rows h.0, rest)
    by false rest = rest

abbrev others : ℕ → List Row → List Row
others gone rows = filter (λ row. not (row.n == gone)) rows

abbrev none_row : Option Row
none_row = None

-- without the rows of a number all others are found as before
row_at-others : (gone : ℕ) (rows : List Row) (n : ℕ)
    → row_at (others gone rows) n ≡ cond (n == gone) none_row (row_at rows n)
row_at-others gone [] n = by (n == gone)
  where
    by : (b : Bool) → none_row ≡ cond b none_row none_row
    by true = refl
    by false = refl
row_at-others gone (x ∷ xs) n = by (x.n == gone) refl (row_at-others gone xs n)
  where
    rest : Option Row
    rest = row_at xs n

    by : (a : Bool) → (x.n == gone) ≡ a → row_at (others gone xs) n ≡ cond (n == gone) none_row rest
        → row_at (cond (not a) (x ∷ others gone xs) (others gone xs)) n
        ≡ cond (n == gone) none_row (cond (x.n == n) (Some x) rest)
    by true is h = h ∙ at (n == gone) refl
      where
        at : (c : Bool) → (n == gone) ≡ c → cond c none_row rest ≡ cond c none_row (cond (x.n == n) (Some x) rest)
        at true same = refl
        at false other = let e : (x.n == n) ≡ false = grind (arith, nat_tests) in rw e refl
    by false is h = at (x.n == n) refl
      where
        at : (c : Bool) → (x.n == n) ≡ c
            → cond c (Some x) (row_at (others gone xs) n) ≡ cond (n == gone) none_row (cond c (Some x) rest)
        at true same = let e : (n == gone) ≡ false = grind (arith, nat_tests) in rw e refl
        at false other = h

some_none : {row : Row} {G : Type 0} → none_row ≡ Some row → G
some_none e = absurd (cc)

stood_others : (gone : ℕ) (rows : List Row) (n : ℕ) (row : Row) → row_at (others gone rows) n ≡ Some row
    → row_at rows n ≡ Some row
stood_others gone rows n row e = by (n == gone) (sym (row_at-others gone rows n) ∙ e)
  where
    by : (b : Bool) → cond b none_row (row_at rows n) ≡ Some row → row_at rows n ≡ Some row
    by true h = some_none h
    by false h = h

left_out : (rules : LeaseRules) (p : ℕ) (row : Row) (rows : List Row)
    → GoesOn rules p p rows (filter (λ other. not (other.n == row.n)) rows)
left_out rules p row rows = record {
  rises = omega arith;
  ranges = apart_filter _ (λ other. not (other.n == row.n)) rows;
  leasable = each_filter _ (λ other. not (other.n == row.n)) rows;
  numbers = λ l. apart_filter _ (λ other. not (other.n == row.n)) rows;
  below = each_filter _ (λ other. not (other.n == row.n)) rows;
  stood = λ n found lt e. stood_here rows n found (stood_others row.n rows n found e);
}

-- ---- a new row

apart_more : (Differ : Row → Row → Type 0) (rows : List Row) (row : Row) → Each (λ other. Differ other row) rows
    → Apart Differ rows → Apart Differ (rows ++ row ∷ [])
apart_more Differ [] row apart h = (tt, tt)
apart_more Differ (x ∷ xs) row apart h =
    (each_append _ xs (row ∷ []) h.0 (apart.0, tt), apart_more Differ xs row apart.1 h.1)

stood_more : (rows : List Row) (row : Row) (n : ℕ) (found : Row) → n < row.n → row_at (rows ++ row ∷ []) n ≡ Some found
    → row_at rows n ≡ Some found
stood_more rows row n found lt e = by (row_at rows n) (sym (find-append (λ x. x.n == n) rows (row ∷ [])) ∙ e)
  where
    by : (o : Option Row) → option_or o (cond (row.n == n) (Some row) None) ≡ Some found → o ≡ Some found
    by (Some x) h = h
    by None h = let off : (row.n == n) ≡ false =
        grind (arith, nat_tests) in absurd (let g : cond false (Some row) none_row
        ≡ Some found = subst (λ (b : Bool). cond b (Some row) none_row ≡ Some found) off h in cc)

apart_from : (rows : List Row) (range : Range) → has_no_row rows range ≡ true → Each (λ other. other.range ≢ range) rows
apart_from rows range free = each_from _ rows (λ row i same. no_row rows range free row i same)

one_more_row : (rules : LeaseRules) (p : ℕ) (rows : List Row) (row : Row) → row.n ≡ p
    → is_leasable rules row.range ≡ true → has_no_row rows row.range ≡ true
    → GoesOn rules p (p + 1) rows (rows ++ row ∷ [])
one_more_row rules p rows row number leasable free = record {
  rises = omega arith;
  ranges = apart_more _ rows row (apart_from rows row.range free);
  leasable = λ h. each_append _ rows (row ∷ []) h (leasable, tt);
  numbers = λ l. apart_more _ rows row (each_on _ _ (λ x lt same. let low : x.n < p = lt in omega arith) rows l);
  below = λ h. each_append _ rows (row ∷ []) (each_on _ _ (λ x lt. omega arith) rows h) (omega arith, tt);
  stood = λ n found lt e. stood_here rows n found (stood_more rows row n found (omega arith) e);
}

-- ---- the commands

abbrev Goes : LeaseRules → ℕ → ℕ → Leases → Leases → Type 0
Goes rules low high t u = GoesOn rules low high t.rows u.rows

at_next : (rules : LeaseRules) (p : ℕ) (rows more : List Row) → GoesOn rules p p rows more
    → GoesOn rules p (p + 1) rows more
at_next rules p rows more g =
    record {
      rises = omega arith;
      ranges = g.ranges;
      leasable = g.leasable;
      numbers = g.numbers;
      below =
          λ h. each_on _ _ (λ x lt. omega arith) more (g.below h);
      stood = g.stood;
    }

raise_goes : (rules : LeaseRules) (p agent boot : ℕ) (t : Leases) → Goes rules p p t (raise_known agent boot t).leases
unfolding raise_known
raise_goes rules p agent boot t =
    by_if (λ (d : Done). Goes rules p p t d.leases) (nat_lt (known_boot t.known agent) boot)
    (λ _. phased rules p (cleared agent boot)
    (λ row. by_if (SameLease row) (is_stale agent boot row)
    (λ _. record { number = refl; range = refl; machine = refl }) (λ _. same_lease row)) t.rows)
    (λ _. stays rules p t.rows)

grant_goes : (rules : LeaseRules) (p : ℕ) (t : Leases) (o : Option Row) → Goes rules p p t (grant t o).leases
unfolding grant
grant_goes rules p t None = stays rules p t.rows
grant_goes rules p t (Some row) =
    by_if (λ (d : Done). Goes rules p p t d.leases) (is_being row.phase) (λ _. moved rules p row.n Leased t.rows)
    (λ _. stays rules p t.rows)

release_goes : (rules : LeaseRules) (p : ℕ) (t : Leases) (o : Option Row) → Goes rules p p t (release t o).leases
unfolding release
release_goes rules p t None = stays rules p t.rows
release_goes rules p t (Some row) =
    by_if (λ (d : Done). Goes rules p p t d.leases) (not (is_freeing row.phase))
    (λ _. moved rules p row.n Freeing t.rows) (λ _. stays rules p t.rows)

free_goes : (rules : LeaseRules) (p : ℕ) (t : Leases) (o : Option Row) → Goes rules p p t (free t o).leases
unfolding free
free_goes rules p t None = stays rules p t.rows
free_goes rules p t (Some row) =
    by_if (λ (d : Done). Goes rules p p t d.leases) (is_freeing row.phase) (λ _. left_out rules p row t.rows)
    (λ _. stays rules p t.rows)

up_goes : (rules : LeaseRules) (p agent boot : ℕ) (t : Leases) → Goes rules p p t (up agent boot t).leases
unfolding up
up_goes rules p agent boot t =
    by_if (λ (d : Done). Goes rules p p t d.leases) (nat_lt agent 256 && nat_lt (known_boot t.known agent) boot)
    (λ _. raise_goes rules p agent boot t) (λ _. stays rules p t.rows)

take_goes : (rules : LeaseRules) (p agent boot : ℕ) (machine : Ip4) (seq : ℕ) (t : Leases) (o : Option Range)
    → ((r : Range) → o ≡ Some r → (is_leasable rules r ≡ true) × (has_no_row t.rows r ≡ true))
    → Goes rules p (p + 1) t (take_range p agent boot machine seq t o).leases
take_goes rules p agent boot machine seq t None free = at_next rules p t.rows t.rows (stays rules p t.rows)
take_goes rules p agent boot machine seq t (Some r) free =
    one_more_row rules p t.rows (new_row p r machine agent boot seq) refl (free r refl).0 (free r refl).1

decide_goes : (rules : LeaseRules) (p boot : ℕ) (rule : MachineRule) (seq : ℕ) (t : Leases)
    → Goes rules p (p + 1) t (decide rules p boot rule seq t).leases
unfolding decide
decide_goes rules p boot rule seq t =
    by_if (λ (d : Done). Goes rules p (p + 1) t d.leases) (nat_le rules.limit (row_count t.rows rule.machine))
    (λ _. at_next rules p t.rows t.rows (stays rules p t.rows))
    (λ _. take_goes rules p rule.agent boot rule.machine seq t (least_free rules t.rows rule.vip)
    (λ r e. (found_leasable rules t.rows rule.vip r e, found_free rules t.rows rule.vip r e)))

reserve_goes : (rules : LeaseRules) (p agent boot seq : ℕ) (o : Option MachineRule) (t : Leases)
    → Goes rules p (p + 1) t (reserve rules p agent boot seq o t).leases
unfolding reserve
reserve_goes rules p agent boot seq None t = at_next rules p t.rows t.rows (stays rules p t.rows)
reserve_goes rules p agent boot seq (Some rule) t =
    by_if (λ (d : Done). Goes rules p (p + 1) t d.leases)
    ((rule.agent == agent) && nat_le (known_boot t.known agent) boot
    && is_later boot seq (last_of t.lasts rule.machine))
    (λ _. let one : Leases = (raise_known agent boot t).leases in
    goes_on_on rules p p (p + 1) t.rows one.rows (decide rules p boot rule seq one).leases.rows
    (raise_goes rules p agent boot t) (decide_goes rules p boot rule seq one))
    (λ _. at_next rules p t.rows t.rows (stays rules p t.rows))

-- A command at its place.
pub command_goes : (rules : LeaseRules) (p : ℕ) (c : LogCommand) (t : Leases)
    → GoesOn rules p (p + 1) t.rows (command rules p c t).leases.rows
command_goes rules p (Reserve agent boot machine seq) t = reserve_goes rules p agent boot seq (rule_of rules machine) t
command_goes rules p (Granted n muxes) t = at_next rules p t.rows _ (grant_goes rules p t (row_at t.rows n))
command_goes rules p (Release n) t = at_next rules p t.rows _ (release_goes rules p t (row_at t.rows n))
command_goes rules p (Freed n) t = at_next rules p t.rows _ (free_goes rules p t (row_at t.rows n))
command_goes rules p (Up agent boot) t = at_next rules p t.rows _ (up_goes rules p agent boot t)

-- The commands of a value, from a place on.
placed_goes : (rules : LeaseRules) (p : ℕ) (cs : List LogCommand) (d : Done)
    → GoesOn rules p (p + length cs) d.leases.rows (fold (tell rules) d (placed p cs)).leases.rows
placed_goes rules p [] d =
    subst (λ (q : ℕ). GoesOn rules p q d.leases.rows d.leases.rows) (omega arith) (stays rules p d.leases.rows)
placed_goes rules p (c ∷ cs) d =
    let one : Done = tell rules d (record { place = p; command = c }) in
    let all : Done = fold (tell rules) one (placed (p + 1) cs) in
    subst (λ (q : ℕ). GoesOn rules p q d.leases.rows all.leases.rows) (omega arith)
    (goes_on_on rules p (p + 1) (p + 1 + length cs) d.leases.rows one.leases.rows all.leases.rows
    (command_goes rules p c d.leases) (placed_goes rules (p + 1) cs one))

-- A slot of at most 16 commands.
pub slot_goes : (rules : LeaseRules) (slot : ℕ) (value : List LogCommand) (t : Leases) → length value ≤ 16
    → GoesOn rules (16 * slot + 1) (16 * (slot + 1) + 1) t.rows (apply rules (slot_commands slot value) t).leases.rows
unfolding apply
slot_goes rules slot value t few =
    let all : Done = fold (tell rules) (nothing t) (slot_commands slot value) in
    let g : GoesOn rules (16 * slot + 1) (16 * slot + 1 + length value) t.rows all.leases.rows =
    placed_goes rules (16 * slot + 1) value (nothing t) in
    record {
      rises = omega arith;
      ranges = g.ranges;
      leasable = g.leasable;
      numbers = g.numbers;
      below =
          λ h. each_on _ _ (λ x lt. omega arith) all.leases.rows (g.below h);
      stood = g.stood;
    }

-- ---- every list of commands

pub own_ranges : (rules : LeaseRules) (cs : List Placed) → OwnRanges (story rules cs).leases.rows
own_ranges rules cs =
    story_of rules (λ _ d. OwnRanges d.leases.rows) tt
    (λ done c d h. (command_goes rules c.place c.command d.leases).ranges h) cs

pub all_leasable : (rules : LeaseRules) (cs : List Placed) → AllLeasable rules (story rules cs).leases.rows
all_leasable rules cs =
    story_of rules (λ _ d. AllLeasable rules d.leases.rows) tt
    (λ done c d h. (command_goes rules c.place c.command d.leases).leasable h) cs
