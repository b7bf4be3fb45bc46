-- Each effect is true of the table just before its command.
use Rattle.std.proofs.Common.{◌≡◌, ◌≢◌, inl, inr, ℕ, ◌<◌, ◌≤◌, Bool, true, false, not, ◌&&◌, ◌==◌, List, [], ◌∷◌, ◌++◌}
use Rattle.std.proofs.Common.{filter, Option, Some, None, refl, sym, ap, ◌∙◌, subst, arith, nat_lt, nat_le}
use Rattle.std.proofs.lemmas.Grind.{fold-append}
use Rattle.std.proofs.lemmas.Bool.Decides.{nat_tests}
use Rattle.std.proofs.lemmas.List.{append_assoc}
use Rattle.wire_core.specs.declared.address.Ip4.{Ip4}
use Rattle.wire_core.specs.declared.range.Range.{Range}
use Rattle.wire_core.specs.declared.rules.MachineRule.{MachineRule}
use Rattle.wire_core.specs.declared.rules.LeaseRules.{LeaseRules}
use Rattle.wire_core.specs.Commands.{LogCommand, Reserve, Granted, Release, Freed, Up}
use Rattle.wire_core.specs.Members.{In, Each}
use Rattle.wire_core.specs.Ranges.{range_at}
use Rattle.lease_spec.specs.declared.row.Row.{Row}
use Rattle.lease_spec.specs.declared.row.Phase.{Phase}
use Rattle.lease_spec.specs.declared.row.Phase.TheVariants.{BeingLeased, Leased, Freeing}
use Rattle.lease_spec.specs.declared.effect.Effect.{Effect}
use Rattle.lease_spec.specs.declared.effect.Effect.TheVariants as effect
use Rattle.lease_spec.specs.Places.{Placed}
use Rattle.lease_spec.specs.Free.{same_range, has_no_row, is_free, least_free, IsLeastFree, NoneFree}
use Rattle.lease_spec.specs.Lives.{Causes}
use Rattle.lease_spec.specs.Moments.{IsAsked, HasRow, AllTaken, IsClearing, IsTrueOf, Happened, AllTrue}
use Rattle.lease_spec.specs.Table.{Leases, Done, none_done, tell, command, story, rule_of, reserve, decide, raise_known}
use Rattle.lease_spec.specs.Table.{grant, release, free, up, row_at, is_stale, is_freeing, is_being, at_phase}
use Rattle.lease_spec.specs.Table.{take_range, known_boot, last_of, is_later, row_count}
use Rattle.lease_spec.proofs.MemberLaws.{each_append, each_on, each_map, each_passing, by_if}
use Rattle.lease_spec.proofs.CauseLaws.{story_of, by_command, row_number, rule_machine}
use Rattle.lease_spec.proofs.CountLaws.{count-raised, least_free-raised}
use Rattle.lease_spec.proofs.FreeLaws.{least_free_is}
use Rattle.lease_spec.proofs.RiseLaws.{before}

-- ---- a VIP without a free range

range_is : (a b : Range) → same_range a b ≡ true → a ≡ b
range_is a b h =
    let vip : a.vip.0 ≡ b.vip.0 = grind (arith, nat_tests, h) in
    let start : a.start ≡ b.start = grind (arith, nat_tests, h) in
    λ i. record { vip = record { 0 = vip i }; start = start i }

has_row : (rows : List Row) (r : Range) → has_no_row rows r ≡ false → HasRow rows r
has_row [] r e = absurd (cc)
has_row (row ∷ rows) r e = by (same_range row.range r) refl (λ (h : has_no_row rows r ≡ false). has_row rows r h)
  where
    by : (b : Bool) → same_range row.range r ≡ b → (has_no_row rows r ≡ false → HasRow rows r) → HasRow (row ∷ rows) r
    by true is rest = record { row = row; there = inl refl; on = range_is row.range r is }
    by false is rest =
        let h : HasRow rows r = rest (grind arith) in
        record { row = h.row; there = inr h.there; on = h.on }

all_taken : (rules : LeaseRules) (rows : List Row) (vip : Ip4) → NoneFree rules rows vip → AllTaken rules rows vip
all_taken rules rows vip none start lt leasable =
    let taken : is_free rules rows (range_at vip start) ≡ false = none start lt in
    has_row rows (range_at vip start) (grind arith)

-- ---- phases

being : (phase : Phase) → is_being phase ≡ true → phase ≡ BeingLeased
being BeingLeased e = refl
being Leased e = absurd (cc)
being Freeing e = absurd (cc)

freeing : (phase : Phase) → is_freeing phase ≡ true → phase ≡ Freeing
freeing BeingLeased e = absurd (cc)
freeing Leased e = absurd (cc)
freeing Freeing e = refl

not_freeing : (phase : Phase) → not (is_freeing phase) ≡ true → phase ≢ Freeing
not_freeing phase e is = let freeing : is_freeing phase ≡ true =
    ap is_freeing is in let never : not (is_freeing phase) ≡ false = ap not freeing in cc

-- ---- the commands

abbrev AreTrue : LeaseRules → Leases → Done → Type 0
AreTrue rules t d = Each (IsTrueOf rules t) d.effects

stale_clears : (t : Leases) (agent boot : ℕ) (row : Row) → In row t.rows → is_stale agent boot row ≡ true
    → IsClearing t (at_phase Freeing row)
stale_clears t agent boot row i stale = record {
  was = row;
  there = i;
  phase = not_freeing row.phase (grind arith);
  now = refl;
}

raise_true : (rules : LeaseRules) (agent boot : ℕ) (t : Leases) → AreTrue rules t (raise_known agent boot t)
unfolding raise_known
raise_true rules agent boot t = by_if (AreTrue rules t) (nat_lt (known_boot t.known agent) boot)
    (λ _. each_map (IsTrueOf rules t) (λ row. effect.Cleared (at_phase Freeing row))
    (filter (is_stale agent boot) t.rows)
    (each_passing _ (is_stale agent boot) t.rows (λ row i stale. stale_clears t agent boot row i stale)))
    (λ _. tt)

grant_true : (rules : LeaseRules) (t : Leases) (n : ℕ) (o : Option Row) → row_at t.rows n ≡ o
    → AreTrue rules t (grant t o)
unfolding grant
grant_true rules t n None e = tt
grant_true rules t n (Some row) e = by_if (AreTrue rules t) (is_being row.phase)
    (λ is. (
      record {
        was = row;
        found = subst (λ (k : ℕ). row_at t.rows k ≡ Some row)
            (sym (row_number t.rows n row e)) e;
        phase = being row.phase is;
        now = refl;
      },
      tt,
    ))
    (λ _. tt)

release_true : (rules : LeaseRules) (t : Leases) (n : ℕ) (o : Option Row) → row_at t.rows n ≡ o
    → AreTrue rules t (release t o)
unfolding release
release_true rules t n None e = tt
release_true rules t n (Some row) e = by_if (AreTrue rules t) (not (is_freeing row.phase))
    (λ is. (
      record {
        was = row;
        found = subst (λ (k : ℕ). row_at t.rows k ≡ Some row)
            (sym (row_number t.rows n row e)) e;
        phase = not_freeing row.phase is;
        now = refl;
      },
      tt,
    ))
    (λ _. tt)

free_true : (rules : LeaseRules) (t : Leases) (n : ℕ) (o : Option Row) → row_at t.rows n ≡ o
    → AreTrue rules t (free t o)
unfolding free
free_true rules t n None e = tt
free_true rules t n (Some row) e = by_if (AreTrue rules t) (is_freeing row.phase)
    (λ is. (
      record {
        found = subst (λ (k : ℕ). row_at t.rows k ≡ Some row) (sym (row_number t.rows n row e)) e;
        phase = freeing row.phase is;
      },
      tt,
    ))
    (λ _. tt)

-- the range that was found is the least free one, so it is in a table with other phases
take_true : (rules : LeaseRules) (place boot : ℕ) (rule : MachineRule) (seq : ℕ) (t u : Leases) (o : Option Range)
    → least_free rules t.rows rule.vip ≡ o
    → IsAsked rules t rule.machine boot seq rule → row_count t.rows rule.machine < rules.limit
    → AreTrue rules t (take_range place rule.agent boot rule.machine seq u o)
take_true rules place boot rule seq t u None e asked room = (
  record {
    rule = rule;
    asked = asked;
    room = room;
    taken =
        all_taken rules t.rows rule.vip
        (subst (IsLeastFree rules t.rows rule.vip) e (least_free_is rules t.rows rule.vip));
  },
  tt,
)
take_true rules place boot rule seq t u (Some range) e asked room = (
  record {
    rule = rule;
    asked = asked;
    agent = refl;
    room = room;
    least = subst (IsLeastFree rules t.rows rule.vip) e (least_free_is rules t.rows rule.vip);
    phase = refl;
  },
  tt,
)

decide_true : (rules : LeaseRules) (place boot : ℕ) (rule : MachineRule) (seq : ℕ) (t u : Leases)
    → row_count u.rows rule.machine ≡ row_count t.rows rule.machine
    → least_free rules u.rows rule.vip ≡ least_free rules t.rows rule.vip → IsAsked rules t rule.machine boot seq rule
    → AreTrue rules t (decide rules place boot rule seq u)
unfolding decide
decide_true rules place boot rule seq t u counts least asked =
    by_if (AreTrue rules t) (nat_le rules.limit (row_count u.rows rule.machine))
    (λ full. (
      record {
        rule = rule;
        asked = asked;
        counted = sym counts;
        full = (let most : rules.limit ≤ row_count u.rows rule.machine = grind (arith, nat_tests) in most);
      },
      tt,
    ))
    (λ room. take_true rules place boot rule seq t u (least_free rules u.rows rule.vip) (sym least) asked
    (let lt : row_count u.rows rule.machine < rules.limit = grind (arith, nat_tests) in omega (arith, lt, counts)))

reserve_true : (rules : LeaseRules) (place agent boot : ℕ) (machine : Ip4) (seq : ℕ) (o : Option MachineRule)
    (t : Leases) → rule_of rules machine ≡ o
    → AreTrue rules t (reserve rules place agent boot seq o t)
unfolding reserve
reserve_true rules place agent boot machine seq None t e = tt
reserve_true rules place agent boot machine seq (Some rule) t e =
    by_if (AreTrue rules t) ((rule.agent == agent) && nat_le (known_boot t.known agent) boot
    && is_later boot seq (last_of t.lasts rule.machine))
    (λ is. let own : (rule.agent == agent) ≡ true = grind arith in
    let same : rule.agent ≡ agent = grind (arith, nat_tests) in
    let runs : nat_le (known_boot t.known agent) boot ≡ true = grind arith in
    let runs_on : known_boot t.known agent ≤ boot = grind (arith, nat_tests) in
    let asked : IsAsked rules t rule.machine boot seq rule = record {
      rule_is = subst (λ (m : Ip4). rule_of rules m ≡ Some rule) (sym (rule_machine rules machine rule e)) e;
      runs = subst (λ (a : ℕ). known_boot t.known a ≤ boot) (sym same) runs_on;
      later = λ was at. before boot seq was (let test : is_later boot seq (last_of t.lasts rule.machine) ≡ true =
          grind arith in rw at at test);
    } in
    each_append (IsTrueOf rules t) (raise_known agent boot t).effects
    (decide rules place boot rule seq (raise_known agent boot t).leases).effects
    (raise_true rules agent boot t)
    (decide_true rules place boot rule seq t (raise_known agent boot t).leases (count-raised agent boot t rule.machine)
    (least_free-raised rules agent boot t rule.vip) asked))
    (λ _. tt)

up_true : (rules : LeaseRules) (agent boot : ℕ) (t : Leases) → AreTrue rules t (up agent boot t)
unfolding up
up_true rules agent boot t = by_if (AreTrue rules t) (nat_lt agent 256 && nat_lt (known_boot t.known agent) boot)
    (λ is. let small : nat_lt agent 256 ≡ true = grind arith in
    let above : nat_lt (known_boot t.known agent) boot ≡ true = grind arith in (
      (
        (let lt : agent < 256 = grind (arith, nat_tests) in lt),
        (let lt : known_boot t.known agent < boot = grind (arith, nat_tests) in lt),
      ),
      raise_true rules agent boot t,
    ))
    (λ _. tt)

command_true : (rules : LeaseRules) (place : ℕ) (c : LogCommand) (t : Leases)
    → AreTrue rules t (command rules place c t)
command_true rules place (Reserve agent boot machine seq) t =
    reserve_true rules place agent boot machine seq (rule_of rules machine) t refl
command_true rules place (Granted n muxes) t = grant_true rules t n (row_at t.rows n) refl
command_true rules place (Release n) t = release_true rules t n (row_at t.rows n) refl
command_true rules place (Freed n) t = free_true rules t n (row_at t.rows n) refl
command_true rules place (Up agent boot) t = up_true rules agent boot t

-- ---- every list of commands

happened_more : (rules : LeaseRules) (cs ds : List Placed) (e : Effect) → Happened rules cs e
    → Happened rules (cs ++ ds) e
happened_more rules cs ds e h = record {
  before = h.before;
  command = h.command;
  after = h.after ++ ds;
  split = ap (λ (xs : List Placed). xs ++ ds) h.split ∙ append_assoc h.before (h.command ∷ h.after) ds;
  causes = h.causes;
  true_of = h.true_of;
}

both : {X : Type 0} (P Q : X → Type 0) (xs : List X) → Each P xs → Each Q xs → Each (λ x. P x × Q x) xs
both P Q [] p q = tt
both P Q (x ∷ xs) p q = ((p.0, q.0), both P Q xs p.1 q.1)

record Truly (rules : LeaseRules) (cs : List Placed) (d : Done) : Type 0 where
  is_story : d ≡ story rules cs
  happened : Each (Happened rules cs) d.effects

truly_step : (rules : LeaseRules) (cs : List Placed) (c : Placed) (d : Done) → Truly rules cs d
    → Truly rules (cs ++ c ∷ []) (tell rules d c)
unfolding story
truly_step rules cs c d h = record {
  is_story = ap (λ (x : Done). tell rules x c) h.is_story ∙ sym (fold-append (tell rules) none_done cs (c ∷ []));
  happened = each_append (Happened rules (cs ++ c ∷ [])) d.effects new
      (each_on _ _ (λ e k. happened_more rules cs (c ∷ []) e k) d.effects h.happened)
      (each_on _ _ (λ e k. record {
        before = cs;
        command = c;
        after = [];
        split = refl;
        causes = k.0;
        true_of = subst (λ (x : Done). IsTrueOf rules x.leases e) h.is_story k.1;
      }) new (both (Causes c) (IsTrueOf rules d.leases) new (by_command rules c d.leases c.command refl)
      (command_true rules c.place c.command d.leases)));
}
  where
    new : List Effect
    new = (command rules c.place c.command d.leases).effects

truly_start : (rules : LeaseRules) → Truly rules [] none_done
unfolding story
truly_start rules = record { is_story = refl; happened = tt }

pub all_true : (rules : LeaseRules) (cs : List Placed) → AllTrue rules cs
all_true rules cs =
    (story_of rules (Truly rules) (truly_start rules) (λ ds c d h. truly_step rules ds c d h) cs).happened
