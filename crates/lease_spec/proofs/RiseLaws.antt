-- Known boots and last pairs only rise.
use Rattle.std.proofs.Common.{◌≡◌, ◌⊎◌, inl, inr, ℕ, ◌<◌, ◌≤◌, Bool, true, false, not, ◌&&◌, ◌==◌, List, [], ◌∷◌}
use Rattle.std.proofs.Common.{Option, Some, None, refl, sym, ap, ◌∙◌, subst, arith, nat_lt, nat_le}
use Rattle.std.specs.Prelude.{if◌then◌else◌, fold, find}
use Rattle.std.proofs.lemmas.Grind.{fold-append}
use Rattle.std.proofs.lemmas.Bool.Decides.{nat_tests}
use Rattle.wire_core.specs.declared.address.Ip4.{Ip4}
use Rattle.wire_core.specs.declared.range.Range.{Range}
use Rattle.wire_core.specs.declared.rules.MachineRule.{MachineRule}
use Rattle.wire_core.specs.declared.rules.LeaseRules.{LeaseRules}
use Rattle.wire_core.specs.Commands.{LogCommand, Reserve, Granted, Release, Freed, Up}
use Rattle.lease_spec.specs.declared.row.Row.{Row}
use Rattle.lease_spec.specs.Places.{Placed}
use Rattle.lease_spec.specs.Free.{least_free}
use Rattle.lease_spec.specs.Rises.{IsBefore, LastRises, Rises, AlwaysRises}
use Rattle.lease_spec.specs.Table.{Last, Known, Leases, Done, none_done, tell, command, story, rule_of, reserve, decide}
use Rattle.lease_spec.specs.Table.{raise_known, grant, release, free, up, row_at, is_freeing, is_being, take_range}
use Rattle.lease_spec.specs.Table.{boot_of, known_boot, last_of, is_later, row_count, with_known, with_last}
use Rattle.lease_spec.proofs.MemberLaws.{by_if}

-- ---- from one table to the next

-- the test of a later pair, in plain words
pub before : (boot seq : ℕ) (was : Last) → is_later boot seq (Some was) ≡ true → IsBefore was.boot was.seq boot seq
before boot seq was later = by (nat_lt was.boot boot) refl
  where
    by : (b : Bool) → nat_lt was.boot boot ≡ b → IsBefore was.boot was.seq boot seq
    by true is = inl (grind (arith, nat_tests))
    by false is =
        let same : (was.boot == boot) ≡ true = grind arith in
        let more : nat_lt was.seq seq ≡ true = grind arith in
        inr (grind (arith, nat_tests), grind (arith, nat_tests))

before_on : (a b c : Last) → IsBefore a.boot a.seq b.boot b.seq → IsBefore b.boot b.seq c.boot c.seq
    → IsBefore a.boot a.seq c.boot c.seq
before_on a b c p q = elim p [
  | inl lt ↦ elim q [ inl lt2 ↦ inl (omega arith) | inr e ↦ inl (let same = e.0 in omega arith) ]
  | inr e ↦ elim q [
    | inl lt2 ↦ inl (let same = e.0 in omega arith)
    | inr f ↦ inr (e.0 ∙ f.0, (let lt = e.1 in let lt2 = f.1 in omega arith))
  ]
]

stays : (t : Leases) → Rises t t
stays t =
    record { boots = λ agent. omega arith; lasts = λ machine was e. record { now = was; there = e; later = inl refl } }

last_on : (t : Leases) (machine : Ip4) (was : Last) (mid : Last)
    → (mid ≡ was) ⊎ IsBefore was.boot was.seq mid.boot mid.seq → LastRises t machine mid → LastRises t machine was
last_on t machine was mid first next = record {
  now = next.now;
  there = next.there;
  later = elim first [
    | inl same ↦ subst (λ (x : Last). (next.now ≡ x) ⊎ IsBefore x.boot x.seq next.now.boot next.now.seq) same next.later
    | inr later ↦ elim next.later [
      | inl same2 ↦ inr (subst (λ (x : Last). IsBefore was.boot was.seq x.boot x.seq) (sym same2) later)
      | inr later2 ↦ inr (before_on was mid next.now later later2)
    ]
  ];
}

rises_on : (t u v : Leases) → Rises t u → Rises u v → Rises t v
rises_on t u v g h = record {
  boots = λ agent. let a = g.boots agent in let b = h.boots agent in omega arith;
  lasts = λ machine was e.
      let mid : LastRises u machine was = g.lasts machine was e in
      last_on v machine was mid.now mid.later (h.lasts machine mid.now mid.there);
}

-- ---- what is found behind a put

pub known_put : (agent boot other : ℕ) (known : List Known)
    → known_boot (with_known agent boot known) other ≡ (if agent == other then boot else known_boot known other)
known_put agent boot other [] = by_if (λ o. boot_of o ≡ (if agent == other then boot else 0)) (agent == other)
    (λ hit. rw hit refl) (λ miss. rw miss refl)
known_put agent boot other (k ∷ known) = by (k.agent == agent) refl (known_put agent boot other known)
  where
    by : (b : Bool) → (k.agent == agent) ≡ b
        → known_boot (with_known agent boot known) other ≡ (if agent == other then boot else known_boot known other)
        → known_boot (if b then record {
          agent = agent;
          boot =
              boot;
        } ∷ known else k ∷ with_known agent boot known) other
        ≡ (if agent == other then boot else known_boot (k ∷ known) other)
    by true is rest = grind (arith, nat_tests)
    by false is rest = grind (arith, nat_tests)

pub last_put : (last : Last) (machine : Ip4) (lasts : List Last) → last_of (with_last last lasts) machine
    ≡ (if last.machine.0 == machine.0 then Some last else last_of lasts machine)
last_put last machine [] = refl
last_put last machine (x ∷ lasts) = by (x.machine.0 == last.machine.0) refl (last_put last machine lasts)
  where
    by : (b : Bool) → (x.machine.0 == last.machine.0) ≡ b → last_of (with_last last lasts) machine
        ≡ (if last.machine.0 == machine.0 then Some last else last_of lasts machine)
        → last_of (if b then last ∷ lasts else x ∷ with_last last lasts) machine
        ≡ (if last.machine.0 == machine.0 then Some last else last_of (x ∷ lasts) machine)
    by true is rest = grind (arith, nat_tests)
    by false is rest = grind (arith, nat_tests)

-- ---- the commands

abbrev On : Leases → Done → Type 0
On t d = Rises t d.leases

-- tables that differ in their rows alone
alike : (t u : Leases) → u.known ≡ t.known → u.lasts ≡ t.lasts → Rises t u
alike t u known lasts = record {
  boots = λ agent. let e : known_boot u.known agent ≡ known_boot t.known agent =
      ap (λ (ks : List Known). known_boot ks agent) known in omega arith;
  lasts = λ machine was e. record {
    now = was;
    there = ap (λ (ls : List Last). last_of ls machine) lasts ∙ e;
    later =
        inl refl;
  };
}

pub raise_rises : (agent boot : ℕ) (t : Leases) → On t (raise_known agent boot t)
unfolding raise_known
raise_rises agent boot t = by_if (On t) (nat_lt (known_boot t.known agent) boot)
    (λ above. record {
      boots =
          λ other. rw (known_put agent boot other t.known)
          (higher other (agent == other) refl
          (let lt : known_boot t.known agent < boot = grind (arith, nat_tests) in lt));
      lasts = λ machine was e. record { now = was; there = e; later = inl refl };
    })
    (λ _. stays t)
  where
    higher : (other : ℕ) (b : Bool) → (agent == other) ≡ b → known_boot t.known agent < boot
        → known_boot t.known other ≤ (if b then boot else known_boot t.known other)
    higher other true is lt =
        let same : agent ≡ other = grind (arith, nat_tests) in
        let e : known_boot t.known agent ≡ known_boot t.known other = ap (λ (a : ℕ). known_boot t.known a) same in
        omega arith
    higher other false is lt = omega arith

pub raise_lasts : (agent boot : ℕ) (t : Leases) → (raise_known agent boot t).leases.lasts ≡ t.lasts
unfolding raise_known
raise_lasts agent boot t =
    by_if (λ (d : Done). d.leases.lasts ≡ t.lasts) (nat_lt (known_boot t.known agent) boot) (λ _. refl) (λ _. refl)

-- a request that is kept as a machine's last has a later pair
noted_rises : (last : Last) (t u : Leases) → is_later last.boot last.seq (last_of t.lasts last.machine) ≡ true
    → u.known ≡ t.known → u.lasts ≡ with_last last t.lasts → Rises t u
noted_rises last t u later known lasts = record {
  boots = λ agent. let e : known_boot u.known agent ≡ known_boot t.known agent =
      ap (λ (ks : List Known). known_boot ks agent) known in omega arith;
  lasts =
      λ machine was e. by machine was e (last.machine.0 == machine.0) refl
      (ap (λ (ls : List Last). last_of ls machine) lasts ∙ last_put last machine t.lasts);
}
  where
    by : (machine : Ip4) (was : Last) → last_of t.lasts machine ≡ Some was → (b : Bool)
        → (last.machine.0 == machine.0) ≡ b
        → last_of u.lasts machine ≡ (if b then Some last else last_of t.lasts machine) → LastRises u machine was
    by machine was e true is there =
        let same : last.machine.0 ≡ machine.0 = grind (arith, nat_tests) in
        let found : last_of t.lasts last.machine ≡ Some was =
        ap (λ (a : ℕ). find (λ (x : Last). x.machine.0 == a) t.lasts) same ∙ e in
        record { now = last; there = there; later = inr (before last.boot last.seq was (rw found at later)) }
    by machine was e false is there = record { now = was; there = there ∙ e; later = inl refl }

take_rises : (place agent boot : ℕ) (machine : Ip4) (seq : ℕ) (t : Leases) (o : Option Range)
    → is_later boot seq (last_of t.lasts machine) ≡ true
    → On t (take_range place agent boot machine seq t o)
take_rises place agent boot machine seq t None later = noted_rises _ t _ later refl refl
take_rises place agent boot machine seq t (Some range) later = noted_rises _ t _ later refl refl

pub decide_rises : (rules : LeaseRules) (place boot : ℕ) (rule : MachineRule) (seq : ℕ) (t : Leases)
    → is_later boot seq (last_of t.lasts rule.machine) ≡ true
    → On t (decide rules place boot rule seq t)
unfolding decide
decide_rises rules place boot rule seq t later = by_if (On t) (nat_le rules.limit (row_count t.rows rule.machine))
    (λ _. noted_rises _ t _ later refl refl)
    (λ _. take_rises place rule.agent boot rule.machine seq t (least_free rules t.rows rule.vip) later)

reserve_rises : (rules : LeaseRules) (place agent boot seq : ℕ) (o : Option MachineRule) (t : Leases)
    → On t (reserve rules place agent boot seq o t)
unfolding reserve
reserve_rises rules place agent boot seq None t = stays t
reserve_rises rules place agent boot seq (Some rule) t =
    by_if (On t) ((rule.agent == agent) && nat_le (known_boot t.known agent) boot
    && is_later boot seq (last_of t.lasts rule.machine))
    (λ is. let one : Leases = (raise_known agent boot t).leases in
    let later : is_later boot seq (last_of t.lasts rule.machine) ≡ true = grind arith in
    rises_on t one (decide rules place boot rule seq one).leases (raise_rises agent boot t)
    (decide_rises rules place boot rule seq one
    (ap (λ (ls : List Last). is_later boot seq (last_of ls rule.machine)) (raise_lasts agent boot t) ∙ later)))
    (λ _. stays t)

grant_rises : (t : Leases) (o : Option Row) → On t (grant t o)
unfolding grant
grant_rises t None = stays t
grant_rises t (Some row) = by_if (On t) (is_being row.phase) (λ _. alike t _ refl refl) (λ _. stays t)

release_rises : (t : Leases) (o : Option Row) → On t (release t o)
unfolding release
release_rises t None = stays t
release_rises t (Some row) = by_if (On t) (not (is_freeing row.phase)) (λ _. alike t _ refl refl) (λ _. stays t)

free_rises : (t : Leases) (o : Option Row) → On t (free t o)
unfolding free
free_rises t None = stays t
free_rises t (Some row) = by_if (On t) (is_freeing row.phase) (λ _. alike t _ refl refl) (λ _. stays t)

up_rises : (agent boot : ℕ) (t : Leases) → On t (up agent boot t)
unfolding up
up_rises agent boot t =
    by_if (On t) (nat_lt agent 256 && nat_lt (known_boot t.known agent) boot) (λ _. raise_rises agent boot t)
    (λ _. stays t)

pub command_rises : (rules : LeaseRules) (place : ℕ) (c : LogCommand) (t : Leases) → On t (command rules place c t)
command_rises rules place (Reserve agent boot machine seq) t =
    reserve_rises rules place agent boot seq (rule_of rules machine) t
command_rises rules place (Granted n muxes) t = grant_rises t (row_at t.rows n)
command_rises rules place (Release n) t = release_rises t (row_at t.rows n)
command_rises rules place (Freed n) t = free_rises t (row_at t.rows n)
command_rises rules place (Up agent boot) t = up_rises agent boot t

-- ---- every list of commands

rises_from : (rules : LeaseRules) (ds : List Placed) (d : Done) → Rises d.leases (fold (tell rules) d ds).leases
rises_from rules [] d = stays d.leases
rises_from rules (c ∷ ds) d =
    let one : Done = tell rules d c in
    rises_on d.leases one.leases (fold (tell rules) one ds).leases (command_rises rules c.place c.command d.leases)
    (rises_from rules ds one)

pub always_rises : (rules : LeaseRules) (cs ds : List Placed) → AlwaysRises rules cs ds
unfolding story
always_rises rules cs ds =
    let d : Done = fold (tell rules) none_done cs in
    subst (λ (x : Done). Rises d.leases x.leases) (sym (fold-append (tell rules) none_done cs ds))
    (rises_from rules ds d)
