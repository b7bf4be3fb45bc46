-- What the table keeps of each request and boot, and that rows which aren't Freeing are of the known boot.
use Rattle.std.proofs.Common.{◌≡◌, ◌⊎◌, inl, inr, ℕ, ◌<◌, ◌≤◌, Bool, true, false, not, ◌&&◌, ◌==◌, List, [], ◌∷◌, ◌++◌}
use Rattle.std.proofs.Common.{map, filter, Option, Some, None, refl, sym, ap, ◌∙◌, subst, arith, nat_lt, nat_le}
use Rattle.std.specs.Prelude.{if◌then◌else◌, fold}
use Rattle.std.proofs.lemmas.Grind.{fold-append}
use Rattle.std.proofs.lemmas.Bool.Decides.{nat_tests}
use Rattle.wire_core.specs.declared.address.Ip4.{Ip4}
use Rattle.wire_core.specs.declared.range.Range.{Range}
use Rattle.wire_core.specs.declared.rules.MachineRule.{MachineRule}
use Rattle.wire_core.specs.declared.rules.LeaseRules.{LeaseRules}
use Rattle.wire_core.specs.Commands.{LogCommand, Reserve, Granted, Release, Freed, Up}
use Rattle.wire_core.specs.Members.{In, Each}
use Rattle.lease_spec.specs.declared.row.Row.{Row}
use Rattle.lease_spec.specs.declared.row.Phase.{Phase}
use Rattle.lease_spec.specs.declared.row.Phase.TheVariants.{BeingLeased, Leased, Freeing}
use Rattle.lease_spec.specs.declared.effect.Effect.{Effect}
use Rattle.lease_spec.specs.declared.effect.Effect.TheVariants as effect
use Rattle.lease_spec.specs.Places.{Placed, Ascends}
use Rattle.lease_spec.specs.Free.{least_free}
use Rattle.lease_spec.specs.Holders.{OwnNumbers}
use Rattle.lease_spec.specs.Rises.{IsBefore, LastRises, Rises, IsKept, Keeps, AllKept, IsCurrent, AllCurrent}
use Rattle.lease_spec.specs.Table.{Last, Known, Leases, Done, none_done, tell, command, story, rule_of, reserve, decide}
use Rattle.lease_spec.specs.Table.{raise_known, grant, release, free, up, row_at, is_stale, is_freeing, is_being}
use Rattle.lease_spec.specs.Table.{at_phase, take_range, known_boot, last_of, is_later, new_row, row_count, cleared}
use Rattle.lease_spec.specs.Table.{with_known, with_last}
use Rattle.lease_spec.proofs.MemberLaws.{each_append, each_in, each_from, each_on, each_map, each_passing, by_if}
use Rattle.lease_spec.proofs.MemberLaws.{found_in}
use Rattle.lease_spec.proofs.CauseLaws.{story_of}
use Rattle.lease_spec.proofs.LifeLaws.{ascends_front}
use Rattle.lease_spec.proofs.OnceLaws.{own_numbers, own_same}
use Rattle.lease_spec.proofs.RiseLaws.{known_put, last_put, raise_lasts, decide_rises, command_rises}

-- ---- what is kept stays kept

kept_on : (t u : Leases) (machine : Ip4) (boot seq : ℕ) → Rises t u → IsKept t machine boot seq
    → IsKept u machine boot seq
kept_on t u machine boot seq r k = let l : LastRises u machine k.last = r.lasts machine k.last k.there in record {
  last = l.now;
  there = l.there;
  late = elim l.later [
    | inl same ↦ subst (λ (x : Last). ((x.boot ≡ boot) × (x.seq ≡ seq)) ⊎ IsBefore boot seq x.boot x.seq)
        (sym same) k.late
    | inr later ↦ elim k.late [
      | inl same ↦ inr (elim later [
        | inl lt ↦ inl (let e =
            same.0 in omega arith)
        | inr e ↦ inr (sym same.0 ∙ e.0, (let f = same.1 in let lt = e.1 in omega arith))
      ])
      | inr earlier ↦ inr (elim earlier [
        | inl lt ↦ inl (elim later [ inl lt2 ↦ omega arith | inr e ↦ (let f = e.0 in omega arith) ])
        | inr e ↦ elim later [
          | inl lt2 ↦ inl (let f =
              e.0 in omega arith)
          | inr f ↦ inr (e.0 ∙ f.0, (let lt = e.1 in let lt2 = f.1 in omega arith))
        ]
      ])
    ]
  ];
}

boot_on : (t u : Leases) (agent boot : ℕ) → Rises t u → boot ≤ known_boot t.known agent
    → boot ≤ known_boot u.known agent
boot_on t u agent boot r h = let up = r.boots agent in omega arith

keeps_on : (t u : Leases) → Rises t u → (e : Effect) → Keeps t e → Keeps u e
keeps_on t u r (effect.Reserved row) h =
    (kept_on t u row.machine row.boot row.seq r h.0, boot_on t u row.agent row.boot r h.1)
keeps_on t u r (effect.Exhausted machine boot seq place) h = kept_on t u machine boot seq r h
keeps_on t u r (effect.AtLimit machine boot seq count) h = kept_on t u machine boot seq r h
keeps_on t u r (effect.Granted row) h = tt
keeps_on t u r (effect.Released row) h = tt
keeps_on t u r (effect.Freed row) h = tt
keeps_on t u r (effect.Known agent boot) h = boot_on t u agent boot r h
keeps_on t u r (effect.Cleared row) h = let up = r.boots row.agent in omega arith

-- ---- the commands

abbrev Kept : Done → Type 0
Kept d = Each (Keeps d.leases) d.effects

put_same : (agent boot : ℕ) (known : List Known) → known_boot (with_known agent boot known) agent ≡ boot
put_same agent boot known =
    let same : (agent == agent) ≡ true = grind (arith, nat_tests) in
    known_put agent boot agent known ∙ rw same refl

-- where the boot isn't below the known one, it is the known one once it is raised
pub raised_is : (agent boot : ℕ) (t : Leases) → known_boot t.known agent ≤ boot
    → known_boot (raise_known agent boot t).leases.known agent ≡ boot
unfolding raise_known
raised_is agent boot t le =
    by_if (λ (d : Done). known_boot d.leases.known agent ≡ boot) (nat_lt (known_boot t.known agent) boot)
    (λ _. put_same agent boot t.known)
    (λ is. grind (arith, nat_tests))

raise_kept : (agent boot : ℕ) (t : Leases) → Kept (raise_known agent boot t)
unfolding raise_known
raise_kept agent boot t = by_if Kept (nat_lt (known_boot t.known agent) boot)
    (λ _. each_map _ (λ row. effect.Cleared (at_phase Freeing row)) (filter (is_stale agent boot) t.rows)
    (each_passing _ (is_stale agent boot) t.rows (λ row i stale.
    let own : (row.agent == agent) ≡ true = grind arith in
    let same : agent ≡ row.agent = grind (arith, nat_tests) in
    let low : nat_lt row.boot boot ≡ true = grind arith in
    let lt : row.boot < boot = grind (arith, nat_tests) in
    let now : known_boot (with_known agent boot t.known) row.agent ≡ boot =
    ap (λ (a : ℕ). known_boot (with_known agent boot t.known) a) (sym same) ∙ put_same agent boot t.known in
    omega (arith, lt, now))))
    (λ _. tt)

noted_kept : (last : Last) (t u : Leases) → u.lasts ≡ with_last last t.lasts → IsKept u last.machine last.boot last.seq
noted_kept last t u lasts =
    let same : (last.machine.0 == last.machine.0) ≡ true = grind (arith, nat_tests) in
    let put = last_put last last.machine t.lasts in record {
      last = last;
      there = ap (λ (ls : List Last). last_of ls last.machine) lasts ∙ put ∙ rw same refl;
      late = inl (refl, refl);
    }

take_kept : (place agent boot : ℕ) (machine : Ip4) (seq : ℕ) (t : Leases) (o : Option Range)
    → boot ≤ known_boot t.known agent
    → Kept (take_range place agent boot machine seq t o)
take_kept place agent boot machine seq t None h = (noted_kept _ t _ refl, tt)
take_kept place agent boot machine seq t (Some range) h = ((noted_kept _ t _ refl, h), tt)

decide_kept : (rules : LeaseRules) (place boot : ℕ) (rule : MachineRule) (seq : ℕ) (t : Leases)
    → boot ≤ known_boot t.known rule.agent
    → Kept (decide rules place boot rule seq t)
unfolding decide
decide_kept rules place boot rule seq t h = by_if Kept (nat_le rules.limit (row_count t.rows rule.machine))
    (λ _. (noted_kept _ t _ refl, tt))
    (λ _. take_kept place rule.agent boot rule.machine seq t (least_free rules t.rows rule.vip) h)

reserve_kept : (rules : LeaseRules) (place agent boot seq : ℕ) (o : Option MachineRule) (t : Leases)
    → Kept (reserve rules place agent boot seq o t)
unfolding reserve
reserve_kept rules place agent boot seq None t = tt
reserve_kept rules place agent boot seq (Some rule) t =
    by_if Kept ((rule.agent == agent) && nat_le (known_boot t.known agent) boot
    && is_later boot seq (last_of t.lasts rule.machine))
    (λ is. let one : Done = raise_known agent boot t in
    let two : Done = decide rules place boot rule seq one.leases in
    let own : (rule.agent == agent) ≡ true = grind arith in
    let same : rule.agent ≡ agent = grind (arith, nat_tests) in
    let runs : nat_le (known_boot t.known agent) boot ≡ true = grind arith in
    let le : known_boot t.known agent ≤ boot = grind (arith, nat_tests) in
    let later : is_later boot seq (last_of t.lasts rule.machine) ≡ true = grind arith in
    let high : known_boot one.leases.known rule.agent ≡ boot = ap (λ (a : ℕ). known_boot one.leases.known a) same
    ∙ raised_is agent boot t le in
    each_append (Keeps two.leases) one.effects two.effects
    (each_on _ _ (λ e k. keeps_on one.leases two.leases
    (decide_rises rules place boot rule seq one.leases
    (ap (λ (ls : List Last). is_later boot seq (last_of ls rule.machine)) (raise_lasts agent boot t) ∙ later)) e k)
    one.effects (raise_kept agent boot t))
    (decide_kept rules place boot rule seq one.leases (omega (arith, high))))
    (λ _. tt)

grant_kept : (t : Leases) (o : Option Row) → Kept (grant t o)
unfolding grant
grant_kept t None = tt
grant_kept t (Some row) = by_if Kept (is_being row.phase) (λ _. (tt, tt)) (λ _. tt)

release_kept : (t : Leases) (o : Option Row) → Kept (release t o)
unfolding release
release_kept t None = tt
release_kept t (Some row) = by_if Kept (not (is_freeing row.phase)) (λ _. (tt, tt)) (λ _. tt)

free_kept : (t : Leases) (o : Option Row) → Kept (free t o)
unfolding free
free_kept t None = tt
free_kept t (Some row) = by_if Kept (is_freeing row.phase) (λ _. (tt, tt)) (λ _. tt)

up_kept : (agent boot : ℕ) (t : Leases) → Kept (up agent boot t)
unfolding up
up_kept agent boot t = by_if Kept (nat_lt agent 256 && nat_lt (known_boot t.known agent) boot)
    (λ is. let above : nat_lt (known_boot t.known agent) boot ≡ true = grind arith in
    let le : known_boot t.known agent ≤ boot = grind (arith, nat_tests) in
    let high = raised_is agent boot t le in (
      (let at : boot ≤ known_boot (raise_known agent boot t).leases.known agent = omega (arith, high) in at),
      raise_kept agent boot t,
    ))
    (λ _. tt)

command_kept : (rules : LeaseRules) (place : ℕ) (c : LogCommand) (t : Leases) → Kept (command rules place c t)
command_kept rules place (Reserve agent boot machine seq) t =
    reserve_kept rules place agent boot seq (rule_of rules machine) t
command_kept rules place (Granted n muxes) t = grant_kept t (row_at t.rows n)
command_kept rules place (Release n) t = release_kept t (row_at t.rows n)
command_kept rules place (Freed n) t = free_kept t (row_at t.rows n)
command_kept rules place (Up agent boot) t = up_kept agent boot t

pub all_kept : (rules : LeaseRules) (cs : List Placed) → AllKept rules cs
all_kept rules cs = story_of rules (λ _ d. Kept d) tt
    (λ cs c d h. let new : Done = command rules c.place c.command d.leases in
    each_append (Keeps new.leases) d.effects new.effects
    (each_on _ _ (λ e k. keeps_on d.leases new.leases (command_rises rules c.place c.command d.leases) e k) d.effects h)
    (command_kept rules c.place c.command d.leases)) cs

-- ---- rows of the known boot

abbrev Current : Leases → Type 0
Current t = Each (IsCurrent t) t.rows

-- a row that a raised boot doesn't clear is Freeing, another agent's, or not of a lower boot
passed_over : (agent boot : ℕ) (t : Leases) (row : Row) → known_boot t.known agent < boot
    → is_stale agent boot row ≡ false → IsCurrent t row
    → (row.phase ≡ Freeing) ⊎ (row.boot ≡ known_boot (with_known agent boot t.known) row.agent)
passed_over agent boot t row above fresh h = elim h [
  | inl freeing ↦ inl freeing
  | inr at ↦ by (agent == row.agent) refl (is_freeing row.phase) refl at
]
  where
    is_phase : (phase : Phase) → is_freeing phase ≡ true → phase ≡ Freeing
    is_phase BeingLeased e = absurd (cc)
    is_phase Leased e = absurd (cc)
    is_phase Freeing e = refl

    by : (own : Bool) → (agent == row.agent) ≡ own → (freeing : Bool) → is_freeing row.phase ≡ freeing
        → row.boot ≡ known_boot t.known row.agent
        → (row.phase ≡ Freeing) ⊎ (row.boot ≡ known_boot (with_known agent boot t.known) row.agent)
    by own is true freeing at = inl (is_phase row.phase freeing)
    by false is false freeing at = inr (at ∙ sym (known_put agent boot row.agent t.known ∙ rw is refl))
    by true is false freeing at =
        let same : row.agent ≡ agent = grind (arith, nat_tests) in
        let known : known_boot t.known row.agent ≡ known_boot t.known agent =
        ap (λ (a : ℕ). known_boot t.known a) same in
        let lt : row.boot < boot = omega (arith, at, known, above) in
        let low : nat_lt row.boot boot ≡ true = grind (arith, nat_tests) in
        let own : (row.agent == agent) ≡ true = grind (arith, nat_tests) in
        let stale : is_stale agent boot row ≡ true = grind arith in
        absurd (cc)

raise_current : (agent boot : ℕ) (t : Leases) → Current t → Current (raise_known agent boot t).leases
unfolding raise_known
raise_current agent boot t h = by_if (λ (d : Done). Current d.leases) (nat_lt (known_boot t.known agent) boot)
    (λ above. each_map _ (cleared agent boot) t.rows (each_on _ _ (λ row current.
    by_if (λ (x : Row). (x.phase ≡ Freeing) ⊎ (x.boot ≡ known_boot (with_known agent boot t.known) x.agent))
    (is_stale agent boot row)
    (λ _. inl refl)
    (λ fresh. passed_over agent boot t row (let lt : known_boot t.known agent < boot = grind (arith, nat_tests) in
    lt) fresh current)) t.rows h))
    (λ _. h)

being_current : (t : Leases) (row : Row) → is_being row.phase ≡ true → IsCurrent t row
    → row.boot ≡ known_boot t.known row.agent
being_current t row is h =
    elim h [ inl freeing ↦ absurd (let never : is_being row.phase ≡ false = ap is_being freeing in cc) | inr at ↦ at ]

grant_current : (t : Leases) (o : Option Row) → ((row : Row) → o ≡ Some row → In row t.rows) → OwnNumbers t.rows
    → Current t → Current (grant t o).leases
unfolding grant
grant_current t None f own h = h
grant_current t (Some row) f own h = by_if (λ (d : Done). Current d.leases) (is_being row.phase)
    (λ is. each_map _ _ t.rows (each_from _ t.rows (λ x i.
    by_if (λ (y : Row). (y.phase ≡ Freeing) ⊎ (y.boot ≡ known_boot t.known y.agent)) (x.n == row.n)
    (λ hit. let number : x.n ≡ row.n = grind (arith, nat_tests) in
    let same : x ≡ row = own_same t.rows x row own i (f row refl) number in
    inr (being_current t x (ap (λ (y : Row). is_being y.phase) same ∙ is) (each_in (IsCurrent t) t.rows x h i)))
    (λ _. each_in (IsCurrent t) t.rows x h i))))
    (λ _. h)

release_current : (t : Leases) (o : Option Row) → Current t → Current (release t o).leases
unfolding release
release_current t None h = h
release_current t (Some row) h = by_if (λ (d : Done). Current d.leases) (not (is_freeing row.phase))
    (λ _. each_map _ _ t.rows (each_on _ _ (λ x current.
    by_if (λ (y : Row). (y.phase ≡ Freeing) ⊎ (y.boot ≡ known_boot t.known y.agent)) (x.n == row.n) (λ _. inl refl)
    (λ _. current)) t.rows h))
    (λ _. h)

free_current : (t : Leases) (o : Option Row) → Current t → Current (free t o).leases
unfolding free
free_current t None h = h
free_current t (Some row) h = by_if (λ (d : Done). Current d.leases) (is_freeing row.phase)
    (λ _. each_passing _ (λ other. not (other.n == row.n)) t.rows (λ x i kept. each_in (IsCurrent t) t.rows x h i))
    (λ _. h)

take_current : (place agent boot : ℕ) (machine : Ip4) (seq : ℕ) (t : Leases) (o : Option Range)
    → boot ≡ known_boot t.known agent → Current t
    → Current (take_range place agent boot machine seq t o).leases
take_current place agent boot machine seq t None is h = h
take_current place agent boot machine seq t (Some range) is h =
    each_append _ t.rows (new_row place range machine agent boot seq ∷ []) h (inr is, tt)

decide_current : (rules : LeaseRules) (place boot : ℕ) (rule : MachineRule) (seq : ℕ) (t : Leases)
    → boot ≡ known_boot t.known rule.agent → Current t
    → Current (decide rules place boot rule seq t).leases
unfolding decide
decide_current rules place boot rule seq t is h =
    by_if (λ (d : Done). Current d.leases) (nat_le rules.limit (row_count t.rows rule.machine))
    (λ _. h)
    (λ _. take_current place rule.agent boot rule.machine seq t (least_free rules t.rows rule.vip) is h)

reserve_current : (rules : LeaseRules) (place agent boot seq : ℕ) (o : Option MachineRule) (t : Leases) → Current t
    → Current (reserve rules place agent boot seq o t).leases
unfolding reserve
reserve_current rules place agent boot seq None t h = h
reserve_current rules place agent boot seq (Some rule) t h =
    by_if (λ (d : Done). Current d.leases) ((rule.agent == agent) && nat_le (known_boot t.known agent) boot
    && is_later boot seq (last_of t.lasts rule.machine))
    (λ is. let one : Leases = (raise_known agent boot t).leases in
    let own : (rule.agent == agent) ≡ true = grind arith in
    let same : rule.agent ≡ agent = grind (arith, nat_tests) in
    let runs : nat_le (known_boot t.known agent) boot ≡ true = grind arith in
    let le : known_boot t.known agent ≤ boot = grind (arith, nat_tests) in
    decide_current rules place boot rule seq one
    (sym (ap (λ (a : ℕ). known_boot one.known a) same ∙ raised_is agent boot t le)) (raise_current agent boot t h))
    (λ _. h)

up_current : (agent boot : ℕ) (t : Leases) → Current t → Current (up agent boot t).leases
unfolding up
up_current agent boot t h =
    by_if (λ (d : Done). Current d.leases) (nat_lt agent 256 && nat_lt (known_boot t.known agent) boot)
    (λ _. raise_current agent boot t h) (λ _. h)

command_current : (rules : LeaseRules) (place : ℕ) (c : LogCommand) (t : Leases) → OwnNumbers t.rows → Current t
    → Current (command rules place c t).leases
command_current rules place (Reserve agent boot machine seq) t own h =
    reserve_current rules place agent boot seq (rule_of rules machine) t h
command_current rules place (Granted n muxes) t own h =
    grant_current t (row_at t.rows n) (λ row e. found_in (λ x. x.n == n) t.rows row e) own h
command_current rules place (Release n) t own h = release_current t (row_at t.rows n) h
command_current rules place (Freed n) t own h = free_current t (row_at t.rows n) h
command_current rules place (Up agent boot) t own h = up_current agent boot t h

record Currently (rules : LeaseRules) (cs : List Placed) (d : Done) : Type 0 where
  is_story : d ≡ story rules cs
  current : Ascends cs → Current d.leases

longer : (rules : LeaseRules) (cs : List Placed) (c : Placed) (d : Done) → d ≡ story rules cs
    → tell rules d c ≡ story rules (cs ++ c ∷ [])
unfolding story
longer rules cs c d is = ap (λ (x : Done). tell rules x c) is ∙ sym (fold-append (tell rules) none_done cs (c ∷ []))

currently_step : (rules : LeaseRules) (cs : List Placed) (c : Placed) (d : Done) → Currently rules cs d
    → Currently rules (cs ++ c ∷ []) (tell rules d c)
currently_step rules cs c d h = record {
  is_story = longer rules cs c d h.is_story;
  current = λ up.
      let front : Ascends cs = (ascends_front cs c up).0 in
      let own : OwnNumbers d.leases.rows =
      subst (λ (x : Done). OwnNumbers x.leases.rows) (sym h.is_story) (own_numbers rules cs front) in
      command_current rules c.place c.command d.leases own (h.current front);
}

currently_start : (rules : LeaseRules) → Currently rules [] none_done
unfolding story
currently_start rules = record { is_story = refl; current = λ up. tt }

pub all_current : (rules : LeaseRules) (cs : List Placed) → Ascends cs → AllCurrent rules cs
all_current rules cs up =
    (story_of rules (Currently rules) (currently_start rules) (λ ds c d h. currently_step rules ds c d h) cs).current up
