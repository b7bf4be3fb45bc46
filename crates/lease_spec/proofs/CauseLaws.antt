-- Each effect has its command, and what was done stays done.
use Rattle.std.proofs.Common.{◌≡◌, inl, ℕ, ◌<◌, Bool, true, false, ◌==◌, nat_lt, List, [], ◌∷◌, ◌++◌, filter, Option}
use Rattle.std.proofs.Common.{Some, None, refl, sym, ap, ◌∙◌, subst, arith, nat_le}
use Rattle.std.specs.Prelude.{fold, cond, not, ◌&&◌}
use Rattle.std.proofs.lemmas.Bool.Decides.{nat_tests}
use Rattle.std.proofs.lemmas.Grind.{fold-append}
use Rattle.std.proofs.lemmas.List.{append_assoc, append-nil}
use Rattle.wire_core.specs.declared.address.Ip4.{Ip4}
use Rattle.wire_core.specs.declared.command.MuxBoot.{MuxBoot}
use Rattle.wire_core.specs.declared.rules.MachineRule.{MachineRule}
use Rattle.wire_core.specs.declared.rules.LeaseRules.{LeaseRules}
use Rattle.wire_core.specs.Members.{Each}
use Rattle.wire_core.specs.Commands.{LogCommand, Reserve, Granted, Release, Freed, Up}
use Rattle.lease_spec.specs.declared.row.Row.{Row}
use Rattle.lease_spec.specs.declared.row.Phase.TheVariants.{Freeing}
use Rattle.lease_spec.specs.declared.effect.Effect.{Effect}
use Rattle.lease_spec.specs.declared.effect.Effect.TheVariants as effect
use Rattle.lease_spec.specs.Places.{Placed}
use Rattle.lease_spec.specs.Table.{Leases, Done, none_done, tell, command, story, rule_of, reserve, decide, raise_known}
use Rattle.lease_spec.specs.Table.{grant, release, free, up, row_at, is_stale, is_freeing, at_phase, known_boot}
use Rattle.lease_spec.specs.Table.{last_of, is_later, is_being}
use Rattle.lease_spec.specs.Lives.{Causes, RaisesAbove, HasCause, AllCaused, Lasts}
use Rattle.lease_spec.proofs.MemberLaws.{each_append, each_on, each_map, in_left, in_right, by_if, found_passes}

-- ---- what was found is what was asked for

pub row_number : (rows : List Row) (n : ℕ) (row : Row) → row_at rows n ≡ Some row → row.n ≡ n
row_number rows n row e = let passes : (row.n == n) ≡ true =
    found_passes (λ x. x.n == n) rows row e in grind (arith, nat_tests)

same_address : (a b : Ip4) → a.0 ≡ b.0 → a ≡ b
same_address a b e = ap (λ (n : ℕ). let ip : Ip4 = record { 0 = n } in ip) e

pub rule_machine : (rules : LeaseRules) (machine : Ip4) (rule : MachineRule) → rule_of rules machine ≡ Some rule
    → rule.machine ≡ machine
rule_machine rules machine rule e =
    let passes : (rule.machine.0 == machine.0) ≡ true =
    found_passes (λ x. x.machine.0 == machine.0) rules.machines rule e in
    same_address rule.machine machine (grind (arith, nat_tests))

-- ---- one command

-- the rows that a raised boot clears have a lower one
stale_rows : (agent boot : ℕ) (rows : List Row)
    → Each (λ row. (agent ≡ row.agent) × (row.boot < boot)) (filter (is_stale agent boot) rows)
stale_rows agent boot [] = tt
stale_rows agent boot (row ∷ rows) = by (is_stale agent boot row) refl (stale_rows agent boot rows)
  where
    by : (b : Bool) → is_stale agent boot row ≡ b
        → Each (λ r. (agent ≡ r.agent) × (r.boot < boot)) (filter (is_stale agent boot) rows)
        → Each (λ r. (agent ≡ r.agent) × (r.boot < boot))
        (cond b (row ∷ filter (is_stale agent boot) rows) (filter (is_stale agent boot) rows))
    by true is rest = (
      (
        let both : (row.agent == agent) ≡ true = grind arith in grind (arith, nat_tests),
        let low : nat_lt row.boot boot ≡ true = grind arith in grind (arith, nat_tests),
      ),
      rest,
    )
    by false is rest = rest

abbrev From : Placed → Done → Type 0
From c d = Each (Causes c) d.effects

raised : (c : Placed) (agent boot : ℕ) (t : Leases) → ((b : ℕ) → b < boot → RaisesAbove c.command agent b)
    → From c (raise_known agent boot t)
unfolding raise_known
raised c agent boot t f = by_if (From c) (nat_lt (known_boot t.known agent) boot)
    (λ _. each_map (Causes c) (λ row. effect.Cleared (at_phase Freeing row)) (filter (is_stale agent boot) t.rows)
    (each_on _ _ (λ row h. subst (λ (a : ℕ). RaisesAbove c.command a row.boot) h.0 (f row.boot h.1))
    (filter (is_stale agent boot) t.rows) (stale_rows agent boot t.rows)))
    (λ _. tt)

decided : (rules : LeaseRules) (c : Placed) (boot : ℕ) (rule : MachineRule) (seq : ℕ) (t : Leases)
    → c.command ≡ Reserve rule.agent boot rule.machine seq → From c (decide rules c.place boot rule seq t)
unfolding decide
decided rules c boot rule seq t is = grind arith

reserved : (rules : LeaseRules) (c : Placed) (agent boot : ℕ) (machine : Ip4) (seq : ℕ) (o : Option MachineRule)
    (t : Leases) → c.command ≡ Reserve agent boot machine seq
    → ((rule : MachineRule) → o ≡ Some rule → rule.machine ≡ machine)
    → From c (reserve rules c.place agent boot seq o t)
unfolding reserve
reserved rules c agent boot machine seq None t is f = tt
reserved rules c agent boot machine seq (Some rule) t is f =
    by_if (From c) ((rule.agent == agent) && nat_le (known_boot t.known agent) boot
    && is_later boot seq (last_of t.lasts rule.machine))
    (λ e. let own : (rule.agent == agent) ≡ true = grind arith in
    let same : rule.agent ≡ agent = grind (arith, nat_tests) in
    let asked : c.command ≡ Reserve rule.agent boot rule.machine seq = is
    ∙ ap (λ (x : Ip4). Reserve agent boot x seq) (sym (f rule refl))
    ∙ ap (λ (x : ℕ). Reserve x boot rule.machine seq) (sym same) in
    each_append (Causes c) (raise_known agent boot t).effects
    (decide rules c.place boot rule seq (raise_known agent boot t).leases).effects
    (raised c agent boot t (λ b lt. rw is (refl, lt)))
    (decided rules c boot rule seq (raise_known agent boot t).leases asked))
    (λ _. tt)

granted : (c : Placed) (t : Leases) (n : ℕ) (muxes : List MuxBoot) (o : Option Row) → c.command ≡ Granted n muxes
    → ((row : Row) → o ≡ Some row → row.n ≡ n) → From c (grant t o)
unfolding grant
granted c t n muxes None is f = tt
granted c t n muxes (Some row) is f = let same : row.n ≡ n =
    f row refl in by_if (From c) (is_being row.phase)
    (λ _. ((muxes, is ∙ ap (λ (x : ℕ). Granted x muxes) (sym same)), tt)) (λ _. tt)

released : (c : Placed) (t : Leases) (n : ℕ) (o : Option Row) → c.command ≡ Release n
    → ((row : Row) → o ≡ Some row → row.n ≡ n) → From c (release t o)
unfolding release
released c t n None is f = tt
released c t n (Some row) is f = let same : row.n ≡ n =
    f row refl in by_if (From c) (not (is_freeing row.phase)) (λ _. (is ∙ ap Release (sym same), tt)) (λ _. tt)

freed : (c : Placed) (t : Leases) (n : ℕ) (o : Option Row) → c.command ≡ Freed n
    → ((row : Row) → o ≡ Some row → row.n ≡ n) → From c (free t o)
unfolding free
freed c t n None is f = tt
freed c t n (Some row) is f = let same : row.n ≡ n =
    f row refl in by_if (From c) (is_freeing row.phase) (λ _. (is ∙ ap Freed (sym same), tt)) (λ _. tt)

went_up : (c : Placed) (agent boot : ℕ) (t : Leases) → c.command ≡ Up agent boot → From c (up agent boot t)
unfolding up
went_up c agent boot t is =
    by_if (From c) (nat_lt agent 256 && nat_lt (known_boot t.known agent) boot)
    (λ _. (is, raised c agent boot t (λ b lt. rw is (refl, lt)))) (λ _. tt)

pub by_command : (rules : LeaseRules) (c : Placed) (t : Leases) (x : LogCommand) → c.command ≡ x
    → From c (command rules c.place x t)
by_command rules c t (Reserve agent boot machine seq) is =
    reserved rules c agent boot machine seq (rule_of rules machine) t is (rule_machine rules machine)
by_command rules c t (Granted n muxes) is = granted c t n muxes (row_at t.rows n) is (row_number t.rows n)
by_command rules c t (Release n) is = released c t n (row_at t.rows n) is (row_number t.rows n)
by_command rules c t (Freed n) is = freed c t n (row_at t.rows n) is (row_number t.rows n)
by_command rules c t (Up agent boot) is = went_up c agent boot t is

-- ---- a list of commands

-- an induction over the commands, the last one last
pub story_of : (rules : LeaseRules) (I : List Placed → Done → Type 0) → I [] none_done
    → ((cs : List Placed) (c : Placed) (d : Done) → I cs d → I (cs ++ c ∷ []) (tell rules d c))
    → (cs : List Placed) → I cs (story rules cs)
unfolding story
story_of rules I start step cs = from [] none_done start cs
  where
    from : (ds : List Placed) (d : Done) → I ds d → (es : List Placed) → I (ds ++ es) (fold (tell rules) d es)
    from ds d h [] = rw (append-nil ds) h
    from ds d h (c ∷ es) = rw (← append_assoc ds (c ∷ []) es) (from (ds ++ c ∷ []) (tell rules d c) (step ds c d h) es)

pub caused_step : (rules : LeaseRules) (cs : List Placed) (c : Placed) (d : Done) → Each (HasCause cs) d.effects
    → Each (HasCause (cs ++ c ∷ [])) (tell rules d c).effects
caused_step rules cs c d h =
    each_append (HasCause (cs ++ c ∷ [])) d.effects (command rules c.place c.command d.leases).effects
    (each_on _ _ (λ e k. record {
      command = k.command;
      there = in_left cs (c ∷ []) k.command k.there;
      causes = k.causes;
    }) d.effects h)
    (each_on _ _ (λ e k. record { command = c; there = in_right cs (c ∷ []) c (inl refl); causes = k })
    (command rules c.place c.command d.leases).effects (by_command rules c d.leases c.command refl))

pub all_caused : (rules : LeaseRules) (cs : List Placed) → AllCaused rules cs
all_caused rules cs = story_of rules (λ cs d. Each (HasCause cs) d.effects) tt (caused_step rules) cs

lasts_from : (rules : LeaseRules) (ds : List Placed) (d : Done)
    → (more : List Effect) × ((fold (tell rules) d ds).effects ≡ d.effects ++ more)
lasts_from rules [] d = ([], sym (append-nil d.effects))
lasts_from rules (c ∷ ds) d = let rest =
    lasts_from rules ds (tell rules d c) in (
      (command rules c.place c.command d.leases).effects ++ rest.0,
      rest.1
          ∙ append_assoc d.effects (command rules c.place c.command d.leases).effects rest.0,
    )

pub lasts : (rules : LeaseRules) (cs ds : List Placed) → Lasts rules cs ds
unfolding story
lasts rules cs ds = let rest =
    lasts_from rules ds (fold (tell rules) none_done cs) in
    (rest.0, ap (λ (d : Done). d.effects) (fold-append (tell rules) none_done cs ds) ∙ rest.1)
