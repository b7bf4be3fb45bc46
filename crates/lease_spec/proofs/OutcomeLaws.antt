-- The outcome that is kept of a machine's last request is what was done at it.
use Rattle.std.proofs.Common.{inl, ℕ, Bool, ◌==◌, nat_lt, nat_le, List, [], ◌∷◌, ◌++◌, Option, Some, None, refl}
use Rattle.std.specs.Prelude.{not, ◌&&◌}
use Rattle.std.proofs.lemmas.List.{append_assoc}
use Rattle.wire_core.specs.declared.address.Ip4.{Ip4}
use Rattle.wire_core.specs.declared.range.Range.{Range}
use Rattle.wire_core.specs.declared.rules.MachineRule.{MachineRule}
use Rattle.wire_core.specs.declared.rules.LeaseRules.{LeaseRules}
use Rattle.wire_core.specs.Members.{Each}
use Rattle.wire_core.specs.Commands.{LogCommand, Reserve, Granted, Release, Freed, Up}
use Rattle.lease_spec.specs.declared.row.Row.{Row}
use Rattle.lease_spec.specs.declared.row.Outcome.{Outcome}
use Rattle.lease_spec.specs.declared.row.Outcome.TheVariants as outcome
use Rattle.lease_spec.specs.declared.effect.Effect.{Effect}
use Rattle.lease_spec.specs.declared.effect.Effect.TheVariants as effect
use Rattle.lease_spec.specs.Places.{Placed}
use Rattle.lease_spec.specs.Free.{least_free}
use Rattle.lease_spec.specs.Table.{Leases, Last, Done, command, rule_of, reserve, decide, raise_known, grant, release}
use Rattle.lease_spec.specs.Table.{free, up, row_at, is_freeing, is_being, take_range, known_boot, last_of, is_later}
use Rattle.lease_spec.specs.Table.{row_count, put}
use Rattle.lease_spec.specs.Truths.{CameTo, OutcomesTold}
use Rattle.lease_spec.proofs.MemberLaws.{each_on, in_left, in_right, by_if}
use Rattle.lease_spec.proofs.CauseLaws.{story_of}

pub each_put : {X : Type 0} (P : X → Type 0) (same : X → Bool) (x : X) (xs : List X) → P x → Each P xs
    → Each P (put same x xs)
each_put P same x [] p h = (p, tt)
each_put P same x (y ∷ ys) p h = by_if (Each P) (same y) (λ _. (p, h.1)) (λ _. (h.0, each_put P same x ys p h.1))

came_more : (es fs : List Effect) (last : Last) (o : Outcome) → CameTo es last o → CameTo (es ++ fs) last o
came_more es fs last (outcome.Reserved range n) h = record {
  born = h.born;
  birth = record { number = h.birth.number; done = in_left es fs _ h.birth.done };
  range_is = h.range_is;
  machine = h.machine;
  boot = h.boot;
  seq = h.seq;
}
came_more es fs last (outcome.Exhausted place) h = in_left es fs _ h
came_more es fs last (outcome.AtLimit count) h = in_left es fs _ h

abbrev Told : List Effect → Leases → Type 0
Told es t = Each (λ last. CameTo es last last.outcome) t.lasts

told_more : (es fs : List Effect) (t : Leases) → Told es t → Told (es ++ fs) t
told_more es fs t h = each_on _ _ (λ last told. came_more es fs last last.outcome told) t.lasts h

-- what a change did, after all that was done, tells its last requests
abbrev Tells : List Effect → Done → Type 0
Tells es e = Told (es ++ e.effects) e.leases

raise_tells : (es : List Effect) (agent boot : ℕ) (t : Leases) → Told es t → Tells es (raise_known agent boot t)
unfolding raise_known
raise_tells es agent boot t h =
    by_if (Tells es) (nat_lt (known_boot t.known agent) boot) (λ _. told_more es _ t h) (λ _. told_more es [] t h)

take_tells : (es : List Effect) (place agent boot : ℕ) (machine : Ip4) (seq : ℕ) (t : Leases) (o : Option Range)
    → Told es t
    → Tells es (take_range place agent boot machine seq t o)
take_tells es place agent boot machine seq t None h =
    each_put _ _ _ t.lasts (in_right es _ _ (inl refl)) (told_more es _ t h)
take_tells es place agent boot machine seq t (Some range) h =
    each_put _ _ _ t.lasts
    (record {
      born = _;
      birth = record { number = refl; done = in_right es _ _ (inl refl) };
      range_is = refl;
      machine = refl;
      boot = refl;
      seq = refl;
    })
    (told_more es _ t h)

decide_tells : (rules : LeaseRules) (es : List Effect) (place boot : ℕ) (rule : MachineRule) (seq : ℕ) (t : Leases)
    → Told es t
    → Tells es (decide rules place boot rule seq t)
unfolding decide
decide_tells rules es place boot rule seq t h = by_if (Tells es) (nat_le rules.limit (row_count t.rows rule.machine))
    (λ _. each_put _ _ _ t.lasts (in_right es _ _ (inl refl)) (told_more es _ t h))
    (λ _. take_tells es place rule.agent boot rule.machine seq t (least_free rules t.rows rule.vip) h)

reserve_tells : (rules : LeaseRules) (es : List Effect) (place agent boot seq : ℕ) (o : Option MachineRule) (t : Leases)
    → Told es t
    → Tells es (reserve rules place agent boot seq o t)
unfolding reserve
reserve_tells rules es place agent boot seq None t h = told_more es [] t h
reserve_tells rules es place agent boot seq (Some rule) t h =
    by_if (Tells es) ((rule.agent == agent) && nat_le (known_boot t.known agent) boot
    && is_later boot seq (last_of t.lasts rule.machine))
    (λ _. let one : Done = raise_known agent boot t in
    let two : Done = decide rules place boot rule seq one.leases in
    let told : Told ((es ++ one.effects) ++ two.effects) two.leases =
    decide_tells rules (es ++ one.effects) place boot rule seq one.leases (raise_tells es agent boot t h) in
    rw (← append_assoc es one.effects two.effects) told)
    (λ _. told_more es [] t h)

grant_tells : (es : List Effect) (t : Leases) (o : Option Row) → Told es t → Tells es (grant t o)
unfolding grant
grant_tells es t None h = told_more es [] t h
grant_tells es t (Some row) h =
    by_if (Tells es) (is_being row.phase) (λ _. told_more es _ t h) (λ _. told_more es [] t h)

release_tells : (es : List Effect) (t : Leases) (o : Option Row) → Told es t → Tells es (release t o)
unfolding release
release_tells es t None h = told_more es [] t h
release_tells es t (Some row) h =
    by_if (Tells es) (not (is_freeing row.phase)) (λ _. told_more es _ t h) (λ _. told_more es [] t h)

free_tells : (es : List Effect) (t : Leases) (o : Option Row) → Told es t → Tells es (free t o)
unfolding free
free_tells es t None h = told_more es [] t h
free_tells es t (Some row) h =
    by_if (Tells es) (is_freeing row.phase) (λ _. told_more es _ t h) (λ _. told_more es [] t h)

up_tells : (es : List Effect) (agent boot : ℕ) (t : Leases) → Told es t → Tells es (up agent boot t)
unfolding up
up_tells es agent boot t h = by_if (Tells es) (nat_lt agent 256 && nat_lt (known_boot t.known agent) boot)
    (λ _. let first : List Effect = effect.Known agent boot ∷ [] in
    let one : Done = raise_known agent boot t in
    let told : Told ((es ++ first) ++ one.effects) one.leases =
    raise_tells (es ++ first) agent boot t (told_more es first t h) in
    rw (← append_assoc es first one.effects) told)
    (λ _. told_more es [] t h)

command_tells : (rules : LeaseRules) (es : List Effect) (place : ℕ) (c : LogCommand) (t : Leases) → Told es t
    → Tells es (command rules place c t)
command_tells rules es place (Reserve agent boot machine seq) t h =
    reserve_tells rules es place agent boot seq (rule_of rules machine) t h
command_tells rules es place (Granted n muxes) t h = grant_tells es t (row_at t.rows n) h
command_tells rules es place (Release n) t h = release_tells es t (row_at t.rows n) h
command_tells rules es place (Freed n) t h = free_tells es t (row_at t.rows n) h
command_tells rules es place (Up agent boot) t h = up_tells es agent boot t h

pub outcomes_told : (rules : LeaseRules) (cs : List Placed) → OutcomesTold rules cs
outcomes_told rules cs = story_of rules (λ _ d. Told d.effects d.leases) tt
    (λ cs c d h. command_tells rules d.effects c.place c.command d.leases h) cs
