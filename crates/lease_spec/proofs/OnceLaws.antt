-- Nothing comes back: each effect on a lease is new after those before it.
use Rattle.std.proofs.Common.{◌≡◌, inl, inr, ℕ, ◌<◌, Bool, true, false, not, ◌&&◌, ◌==◌, List, [], ◌∷◌, ◌++◌, map}
use Rattle.std.proofs.Common.{filter, Option, Some, None, refl, sym, ap, ◌∙◌, subst, arith, nat_lt, nat_le}
use Rattle.std.specs.Prelude.{cond}
use Rattle.std.proofs.lemmas.Bool.Decides.{nat_tests}
use Rattle.std.proofs.lemmas.List.{append_assoc, append-nil}
use Rattle.wire_core.specs.declared.address.Ip4.{Ip4}
use Rattle.wire_core.specs.declared.range.Range.{Range}
use Rattle.wire_core.specs.declared.rules.MachineRule.{MachineRule}
use Rattle.wire_core.specs.declared.rules.LeaseRules.{LeaseRules}
use Rattle.wire_core.specs.Commands.{LogCommand, Reserve, Granted, Release, Freed, Up}
use Rattle.wire_core.specs.Members.{In, Each}
use Rattle.lease_spec.specs.declared.row.Row.{Row}
use Rattle.lease_spec.specs.declared.row.Phase.{Phase}
use Rattle.lease_spec.specs.declared.row.Phase.TheVariants.{BeingLeased, Leased, Freeing}
use Rattle.lease_spec.specs.declared.effect.Effect.{Effect}
use Rattle.lease_spec.specs.declared.effect.Effect.TheVariants as effect
use Rattle.lease_spec.specs.Places.{Placed, Ascends}
use Rattle.lease_spec.specs.Free.{least_free}
use Rattle.lease_spec.specs.Holders.{OwnNumbers, AllBelow}
use Rattle.lease_spec.specs.Lives.{IsGranted, IsDying, IsGone, HasCause}
use Rattle.lease_spec.specs.Once.{IsOnBelow, AllNew, NothingTwice}
use Rattle.lease_spec.specs.Truths.{WasBorn, Prepared, InOrder}
use Rattle.lease_spec.specs.Table.{Leases, Done, tell, command, story, rule_of, reserve, decide, raise_known, grant}
use Rattle.lease_spec.specs.Table.{release, free, up, row_at, is_stale, is_freeing, is_being, at_phase, take_range}
use Rattle.lease_spec.specs.Table.{known_boot, last_of, is_later, new_row, row_count, cleared}
use Rattle.lease_spec.proofs.MemberLaws.{each_append, each_in, each_from, each_on, each_map, each_passing, in_cases}
use Rattle.lease_spec.proofs.MemberLaws.{by_if, found_in}
use Rattle.lease_spec.proofs.CauseLaws.{story_of, caused_step}
use Rattle.lease_spec.proofs.HolderLaws.{apart_filter, command_goes}
use Rattle.lease_spec.proofs.LifeLaws.{Below, ascends_front, below_now}
use Rattle.lease_spec.proofs.TruthLaws.{Ordered, ordered_step, prepared_more}

-- ---- what wasn't done by the one effects nor by the others

no_grant : (es fs : List Effect) (n : ℕ) → (IsGranted es n → ⊥) → (IsGranted fs n → ⊥) → IsGranted (es ++ fs) n → ⊥
no_grant es fs n a b h = elim (in_cases es fs _ h.done) [
  | inl i ↦ a (record { row = h.row; number = h.number; done = i })
  | inr j ↦ b (record { row = h.row; number = h.number; done = j })
]

no_dying : (es fs : List Effect) (n : ℕ) → (IsDying es n → ⊥) → (IsDying fs n → ⊥) → IsDying (es ++ fs) n → ⊥
no_dying es fs n a b h = elim h.done [
  | inl released ↦ elim (in_cases es fs _ released) [
    | inl i ↦ a (record { row = h.row; number = h.number; done = inl i })
    | inr j ↦ b (record { row = h.row; number = h.number; done = inl j })
  ]
  | inr cleared ↦ elim (in_cases es fs _ cleared) [
    | inl i ↦ a (record { row = h.row; number = h.number; done = inr i })
    | inr j ↦ b (record { row = h.row; number = h.number; done = inr j })
  ]
]

no_gone : (es fs : List Effect) (n : ℕ) → (IsGone es n → ⊥) → (IsGone fs n → ⊥) → IsGone (es ++ fs) n → ⊥
no_gone es fs n a b h = elim (in_cases es fs _ h.done) [
  | inl i ↦ a (record { row = h.row; number = h.number; done = i })
  | inr j ↦ b (record { row = h.row; number = h.number; done = j })
]

-- nothing was done on a number that all those done on are below
below_granted : (es : List Effect) (p : ℕ) → Each (IsOnBelow p) es → IsGranted es p → ⊥
below_granted es p low h = let lt : h.row.n < p = each_in (IsOnBelow p) es (effect.Granted h.row) low h.done in let e =
    h.number in omega arith

below_dying : (es : List Effect) (p : ℕ) → Each (IsOnBelow p) es → IsDying es p → ⊥
below_dying es p low h = elim h.done [
  | inl i ↦ (let lt : h.row.n < p = each_in (IsOnBelow p) es (effect.Released h.row) low i in let e = h.number in
      omega arith)
  | inr i ↦ (let lt : h.row.n < p = each_in (IsOnBelow p) es (effect.Cleared h.row) low i in let e = h.number in
      omega arith)
]

below_gone : (es : List Effect) (p : ℕ) → Each (IsOnBelow p) es → IsGone es p → ⊥
below_gone es p low h = let lt : h.row.n < p = each_in (IsOnBelow p) es (effect.Freed h.row) low h.done in let e =
    h.number in omega arith

-- ---- what a row's phase says wasn't done

abbrev NotPassed : List Effect → ℕ → Phase → Type 0
NotPassed es n BeingLeased = (IsGranted es n → ⊥) × (IsDying es n → ⊥)
NotPassed es n Leased = IsDying es n → ⊥
NotPassed es n Freeing = Unit {0}

record RowLive (es : List Effect) (row : Row) : Type 0 where
  here : IsGone es row.n → ⊥
  phase : NotPassed es row.n row.phase

being_passed : (es : List Effect) (n : ℕ) (phase : Phase) → is_being phase ≡ true → NotPassed es n phase
    → (IsGranted es n → ⊥) × (IsDying es n → ⊥)
being_passed es n BeingLeased is h = h
being_passed es n Leased is h = absurd (cc)
being_passed es n Freeing is h = absurd (cc)

standing_passed : (es : List Effect) (n : ℕ) (phase : Phase) → not (is_freeing phase) ≡ true → NotPassed es n phase
    → IsDying es n → ⊥
standing_passed es n BeingLeased is h = h.1
standing_passed es n Leased is h = h
standing_passed es n Freeing is h = absurd (cc)

passed_more : (es fs : List Effect) (n : ℕ) (phase : Phase) → (IsGranted fs n → ⊥) → (IsDying fs n → ⊥)
    → NotPassed es n phase → NotPassed (es ++ fs) n phase
passed_more es fs n BeingLeased g d h = (no_grant es fs n h.0 g, no_dying es fs n h.1 d)
passed_more es fs n Leased g d h = no_dying es fs n h d
passed_more es fs n Freeing g d h = tt

live_more : (es fs : List Effect) (row : Row) → (IsGranted fs row.n → ⊥) → (IsDying fs row.n → ⊥)
    → (IsGone fs row.n → ⊥) → RowLive es row → RowLive (es ++ fs) row
live_more es fs row g d e h =
    record { here = no_gone es fs row.n h.here e; phase = passed_more es fs row.n row.phase g d h.phase }

abbrev Live : List Effect → Leases → Type 0
Live es t = Each (RowLive es) t.rows

-- a change: its rows are live after all that was done, its effects are new
record Lively (es : List Effect) (e : Done) : Type 0 where
  rows : Each (RowLive (es ++ e.effects)) e.leases.rows
  new : AllNew es e.effects

quiet : (es : List Effect) (t : Leases) → Live es t → Lively es (record { leases = t; effects = [] })
quiet es t h = record { rows = rw (append-nil es) h; new = tt }

new_append : (done es fs : List Effect) → AllNew done es → AllNew (done ++ es) fs → AllNew done (es ++ fs)
new_append done [] fs a b = rw (← append-nil done) b
new_append done (e ∷ es) fs a b = (a.0, new_append (done ++ e ∷ []) es fs a.1 (rw (append_assoc done (e ∷ []) es) b))

-- effects that are on no lease, or a birth, pass no row
live_past : (es fs : List Effect) (rows : List Row) → ((n : ℕ) → IsGranted fs n → ⊥) → ((n : ℕ) → IsDying fs n → ⊥)
    → ((n : ℕ) → IsGone fs n → ⊥)
    → Each (RowLive es) rows → Each (RowLive (es ++ fs)) rows
live_past es fs rows g d e h = each_on _ _ (λ row live. live_more es fs row (g row.n) (d row.n) (e row.n) live) rows h

-- ---- a boot that is raised

-- what is dying of the rows that a raised boot clears was one of them
cleared_of : (agent boot : ℕ) (rows : List Row) (row : Row)
    → In (effect.Cleared row) (map (λ x. effect.Cleared (at_phase Freeing x)) (filter (is_stale agent boot) rows))
    → (was : Row) × (In was rows) × (is_stale agent boot was ≡ true) × (was.n ≡ row.n)
cleared_of agent boot [] row i = absurd i
cleared_of agent boot (x ∷ rows) row i = by (is_stale agent boot x) refl i (cleared_of agent boot rows row)
  where
    by : (b : Bool) → is_stale agent boot x ≡ b
        → In (effect.Cleared row) (map (λ y. effect.Cleared (at_phase Freeing y))
        (cond b (x ∷ filter (is_stale agent boot) rows) (filter (is_stale agent boot) rows)))
        → (In (effect.Cleared row) (map (λ y. effect.Cleared (at_phase Freeing y)) (filter (is_stale agent boot) rows))
        → (was : Row) × (In was rows) × (is_stale agent boot was ≡ true) × (was.n ≡ row.n))
        → (was : Row) × (In was (x ∷ rows)) × (is_stale agent boot was ≡ true) × (was.n ≡ row.n)
    by true is i rest = elim i [
      | inl e ↦ (x, inl refl, is, (let same : at_phase Freeing x ≡ row = cc in ap (λ (r : Row). r.n) same))
      | inr j ↦ (let r = rest j in (r.0, inr r.1, r.2, r.3))
    ]
    by false is i rest = let r = rest i in (r.0, inr r.1, r.2, r.3)

abbrev clears : List Row → List Effect
clears rows = map (λ row. effect.Cleared (at_phase Freeing row)) rows

clears_grant : (rows : List Row) (n : ℕ) → IsGranted (clears rows) n → ⊥
clears_grant rows n h = none rows h.row h.done
  where
    none : (rows : List Row) (row : Row) → In (effect.Granted row) (clears rows) → ⊥
    none [] row i = i
    none (x ∷ xs) row i = elim i [ inl e ↦ absurd (cc) | inr j ↦ none xs row j ]

clears_gone : (rows : List Row) (n : ℕ) → IsGone (clears rows) n → ⊥
clears_gone rows n h = none rows h.row h.done
  where
    none : (rows : List Row) (row : Row) → In (effect.Freed row) (clears rows) → ⊥
    none [] row i = i
    none (x ∷ xs) row i = elim i [ inl e ↦ absurd (cc) | inr j ↦ none xs row j ]

clears_release : (rows : List Row) (row : Row) → In (effect.Released row) (clears rows) → ⊥
clears_release [] row i = i
clears_release (x ∷ xs) row i = elim i [ inl e ↦ absurd (cc) | inr j ↦ clears_release xs row j ]

-- rows with one number are one row
pub own_same : (rows : List Row) (a b : Row) → OwnNumbers rows → In a rows → In b rows → a.n ≡ b.n → a ≡ b
own_same [] a b own i j same = absurd i
own_same (x ∷ rows) a b own i j same = elim i [
  | inl e ↦ elim j [
    | inl f ↦ sym e ∙ f
    | inr later ↦ absurd (each_in (λ other. (x.n ≡ other.n) → ⊥) rows b own.0 later (ap (λ (r : Row). r.n) e ∙ same))
  ]
  | inr later ↦ elim j [
    | inl f ↦ absurd (each_in (λ other. (x.n ≡ other.n) → ⊥) rows a own.0 later (ap (λ (r : Row). r.n) f ∙ sym same))
    | inr later2 ↦ own_same rows a b own.1 later later2 same
  ]
]

clears_new : (es : List Effect) (rows : List Row) → Each (λ row. IsDying es row.n → ⊥) rows → OwnNumbers rows
    → AllNew es (clears rows)
clears_new es [] h own = tt
clears_new es (row ∷ rows) h own = (
  h.0,
  clears_new (es ++ effect.Cleared (at_phase Freeing row) ∷ []) rows
      (each_from _ rows (λ x i. no_dying es (effect.Cleared (at_phase Freeing row) ∷ []) x.n
      (each_in (λ y. IsDying es y.n → ⊥) rows x h.1 i)
      (λ d. each_in (λ other. (row.n ≡ other.n) → ⊥) rows x own.0 i (only row x.n d)))) own.1,
)
  where
    only : (row : Row) (n : ℕ) → IsDying (effect.Cleared (at_phase Freeing row) ∷ []) n → row.n ≡ n
    only row n d = elim d.done [
      | inl i ↦ elim i [ inl e ↦ absurd (cc) | inr j ↦ absurd j ]
      | inr i ↦ elim i [
        | inl e ↦ (let same : at_phase Freeing row ≡ d.row = cc in
            ap (λ (r : Row). r.n) same ∙ d.number)
        | inr j ↦ absurd j
      ]
    ]

raise_lively : (es : List Effect) (agent boot : ℕ) (t : Leases) → OwnNumbers t.rows → Live es t
    → Lively es (raise_known agent boot t)
unfolding raise_known
raise_lively es agent boot t own h = by_if (Lively es) (nat_lt (known_boot t.known agent) boot)
    (λ _. record {
      rows = each_map _ (cleared agent boot) t.rows (each_from _ t.rows (λ row i.
          let live : RowLive es row = each_in (RowLive es) t.rows row h i in
          by_if (RowLive (es ++ done)) (is_stale agent boot row)
          (λ _. record {
            here = no_gone es done row.n live.here
                (clears_gone (filter (is_stale agent boot) t.rows) row.n);
            phase = tt;
          })
          (λ fresh. live_more es done row (clears_grant (filter (is_stale agent boot) t.rows) row.n)
          (not_cleared row i fresh)
          (clears_gone (filter (is_stale agent boot) t.rows) row.n) live)));
      new = clears_new es (filter (is_stale agent boot) t.rows)
          (each_passing _ (is_stale agent boot) t.rows (λ row i stale.
          standing_passed es row.n row.phase (grind arith) (each_in (RowLive es) t.rows row h i).phase))
          (apart_filter _ (is_stale agent boot) t.rows own);
    })
    (λ _. quiet es t h)
  where
    done : List Effect
    done = clears (filter (is_stale agent boot) t.rows)

    not_cleared : (row : Row) → In row t.rows → is_stale agent boot row ≡ false → IsDying done row.n → ⊥
    not_cleared row i fresh d = elim d.done [
      | inl released ↦ clears_release (filter (is_stale agent boot) t.rows) d.row released
      | inr cleared ↦ (
          let c = cleared_of agent boot t.rows d.row cleared in
          let same : c.0 ≡ row = own_same t.rows c.0 row own c.1 i (c.3 ∙ d.number) in
          let stale : is_stale agent boot row ≡ true = subst (λ (r : Row). is_stale agent boot r ≡ true) same c.2 in cc)
    ]

-- ---- the other commands

-- one effect that is another than those on a lease that stands
module _ (e : Effect) (granted : (row : Row) → e ≡ effect.Granted row → ⊥) (released : (row : Row)
    → e ≡ effect.Released row → ⊥)
    (cleared_ : (row : Row) → e ≡ effect.Cleared row → ⊥) (freed : (row : Row) → e ≡ effect.Freed row → ⊥) where
  lone_past : (es : List Effect) (rows : List Row) → Each (RowLive es) rows → Each (RowLive (es ++ e ∷ [])) rows
  lone_past es rows h = live_past es (e ∷ []) rows
      (λ n g. elim g.done [ inl i ↦ granted g.row i | inr j ↦ j ])
      (λ n d. elim d.done [
        | inl r ↦ elim r [ inl i ↦ released d.row i | inr j ↦ j ]
        | inr c ↦ elim c
            [ inl i ↦ cleared_ d.row i | inr j ↦ j ]
      ])
      (λ n g. elim g.done [ inl i ↦ freed g.row i | inr j ↦ j ]) h

known_past : (es : List Effect) (agent boot : ℕ) (rows : List Row) → Each (RowLive es) rows
    → Each (RowLive (es ++ effect.Known agent boot ∷ [])) rows
known_past es agent boot =
    lone_past (effect.Known agent boot) (λ row e. absurd (cc)) (λ row e. absurd (cc)) (λ row e. absurd (cc))
    (λ row e. absurd (cc)) es

limit_past : (es : List Effect) (machine : Ip4) (boot seq count : ℕ) (rows : List Row) → Each (RowLive es) rows
    → Each (RowLive (es ++ effect.AtLimit machine boot seq count ∷ [])) rows
limit_past es machine boot seq count =
    lone_past (effect.AtLimit machine boot seq count) (λ row e. absurd (cc)) (λ row e. absurd (cc))
    (λ row e. absurd (cc)) (λ row e. absurd (cc)) es

exhausted_past : (es : List Effect) (machine : Ip4) (boot seq place : ℕ) (rows : List Row) → Each (RowLive es) rows
    → Each (RowLive (es ++ effect.Exhausted machine boot seq place ∷ [])) rows
exhausted_past es machine boot seq place =
    lone_past (effect.Exhausted machine boot seq place) (λ row e. absurd (cc)) (λ row e. absurd (cc))
    (λ row e. absurd (cc)) (λ row e. absurd (cc)) es

reserved_past : (es : List Effect) (new : Row) (rows : List Row) → Each (RowLive es) rows
    → Each (RowLive (es ++ effect.Reserved new ∷ [])) rows
reserved_past es new =
    lone_past (effect.Reserved new) (λ row e. absurd (cc)) (λ row e. absurd (cc)) (λ row e. absurd (cc))
    (λ row e. absurd (cc)) es

-- a row of another number passes an effect on one lease
other_granted : (row : Row) (n : ℕ) → (row.n ≡ n → ⊥) → IsGranted (effect.Granted row ∷ []) n → ⊥
other_granted row n other g =
    elim g.done [ inl i ↦ other (let same : row ≡ g.row = cc in ap (λ (r : Row). r.n) same ∙ g.number) | inr j ↦ j ]

other_released : (row : Row) (n : ℕ) → (row.n ≡ n → ⊥) → IsDying (effect.Released row ∷ []) n → ⊥
other_released row n other d = elim d.done [
  | inl r ↦ elim r [ inl i ↦ other (let same : row ≡ d.row = cc in ap (λ (x : Row). x.n) same ∙ d.number) | inr j ↦ j ]
  | inr c ↦ elim c [ inl i ↦ absurd (cc) | inr j ↦ j ]
]

other_freed : (row : Row) (n : ℕ) → (row.n ≡ n → ⊥) → IsGone (effect.Freed row ∷ []) n → ⊥
other_freed row n other g =
    elim g.done [ inl i ↦ other (let same : row ≡ g.row = cc in ap (λ (r : Row). r.n) same ∙ g.number) | inr j ↦ j ]

granted_dying : (row : Row) (n : ℕ) → IsDying (effect.Granted row ∷ []) n → ⊥
granted_dying row n d =
    elim d.done [
      | inl r ↦ elim r [ inl i ↦ absurd (cc) | inr j ↦ j ]
      | inr c ↦ elim c
          [ inl i ↦ absurd (cc) | inr j ↦ j ]
    ]

granted_gone : (row : Row) (n : ℕ) → IsGone (effect.Granted row ∷ []) n → ⊥
granted_gone row n g = elim g.done [ inl i ↦ absurd (cc) | inr j ↦ j ]

released_granted : (row : Row) (n : ℕ) → IsGranted (effect.Released row ∷ []) n → ⊥
released_granted row n g = elim g.done [ inl i ↦ absurd (cc) | inr j ↦ j ]

released_gone : (row : Row) (n : ℕ) → IsGone (effect.Released row ∷ []) n → ⊥
released_gone row n g = elim g.done [ inl i ↦ absurd (cc) | inr j ↦ j ]

freed_granted : (row : Row) (n : ℕ) → IsGranted (effect.Freed row ∷ []) n → ⊥
freed_granted row n g = elim g.done [ inl i ↦ absurd (cc) | inr j ↦ j ]

freed_dying : (row : Row) (n : ℕ) → IsDying (effect.Freed row ∷ []) n → ⊥
freed_dying row n d =
    elim d.done [
      | inl r ↦ elim r [ inl i ↦ absurd (cc) | inr j ↦ j ]
      | inr c ↦ elim c
          [ inl i ↦ absurd (cc) | inr j ↦ j ]
    ]

differs : (a b : ℕ) → (a == b) ≡ false → b ≡ a → ⊥
differs a b e same = let hit : (a == b) ≡ true = grind (arith, nat_tests) in cc

grant_lively : (es : List Effect) (t : Leases) (o : Option Row) → ((row : Row) → o ≡ Some row → RowLive es row)
    → Live es t → Lively es (grant t o)
unfolding grant
grant_lively es t None f h = quiet es t h
grant_lively es t (Some row) f h = by_if (Lively es) (is_being row.phase)
    (λ is. let now : Row = at_phase Leased row in
    let done : List Effect = effect.Granted now ∷ [] in
    let never = being_passed es row.n row.phase is (f row refl).phase in record {
      rows = each_map _ _ t.rows (each_on _ _ (λ x live. by_if (RowLive (es ++ done)) (x.n == row.n)
          (λ hit. let same : row.n ≡ x.n = grind (arith, nat_tests) in record {
            here = no_gone es done x.n live.here (granted_gone now x.n);
            phase = no_dying es done x.n (subst (λ (k : ℕ). IsDying es k → ⊥) same never.1) (granted_dying now x.n);
          })
          (λ miss. live_more es done x (other_granted now x.n (differs x.n row.n miss)) (granted_dying now x.n)
          (granted_gone now x.n) live)) t.rows h);
      new = (never, tt);
    })
    (λ _. quiet es t h)

release_lively : (es : List Effect) (t : Leases) (o : Option Row) → ((row : Row) → o ≡ Some row → RowLive es row)
    → Live es t → Lively es (release t o)
unfolding release
release_lively es t None f h = quiet es t h
release_lively es t (Some row) f h = by_if (Lively es) (not (is_freeing row.phase))
    (λ is. let now : Row = at_phase Freeing row in
    let done : List Effect = effect.Released now ∷ [] in record {
      rows = each_map _ _ t.rows (each_on _ _ (λ x live. by_if (RowLive (es ++ done)) (x.n == row.n)
          (λ hit. record { here = no_gone es done x.n live.here (released_gone now x.n); phase = tt })
          (λ miss. live_more es done x (released_granted now x.n) (other_released now x.n (differs x.n row.n miss))
          (released_gone now x.n) live)) t.rows h);
      new = (standing_passed es row.n row.phase is (f row refl).phase, tt);
    })
    (λ _. quiet es t h)

free_lively : (es : List Effect) (t : Leases) (o : Option Row) → ((row : Row) → o ≡ Some row → RowLive es row)
    → Live es t → Lively es (free t o)
unfolding free
free_lively es t None f h = quiet es t h
free_lively es t (Some row) f h = by_if (Lively es) (is_freeing row.phase)
    (λ _. let done : List Effect = effect.Freed row ∷ [] in record {
      rows = each_passing _ (λ other. not (other.n == row.n)) t.rows (λ x i kept.
          let miss : (x.n == row.n) ≡ false = grind arith in
          live_more es done x (freed_granted row x.n) (freed_dying row x.n)
          (other_freed row x.n (differs x.n row.n miss)) (each_in (RowLive es) t.rows x h i));
      new = ((f row refl).here, tt);
    })
    (λ _. quiet es t h)

take_lively : (es : List Effect) (place agent boot : ℕ) (machine : Ip4) (seq : ℕ) (t : Leases) (o : Option Range)
    → Each (IsOnBelow place) es → Live es t
    → Lively es (take_range place agent boot machine seq t o)
take_lively es place agent boot machine seq t None low h =
    record { rows = exhausted_past es machine boot seq place t.rows h; new = (tt, tt) }
take_lively es place agent boot machine seq t (Some range) low h =
    let new : Row = new_row place range machine agent boot seq in
    let done : List Effect = effect.Reserved new ∷ [] in record {
      rows = each_append (RowLive (es ++ done)) t.rows (new ∷ []) (reserved_past es new t.rows h) (
        (reserved_past es new (new ∷ []) (
          record {
            here = below_gone es place low;
            phase = (below_granted es place low, below_dying es place low);
          },
          tt,
        )).0,
        tt,
      );
      new = (low, tt);
    }

decide_lively : (rules : LeaseRules) (es : List Effect) (place boot : ℕ) (rule : MachineRule) (seq : ℕ) (t : Leases)
    → Each (IsOnBelow place) es → Live es t
    → Lively es (decide rules place boot rule seq t)
unfolding decide
decide_lively rules es place boot rule seq t low h =
    by_if (Lively es) (nat_le rules.limit (row_count t.rows rule.machine))
    (λ _. record {
      rows = limit_past es rule.machine boot seq (row_count t.rows rule.machine) t.rows h;
      new = (tt, tt);
    })
    (λ _. take_lively es place rule.agent boot rule.machine seq t (least_free rules t.rows rule.vip) low h)

-- a raised boot clears rows of the table, whose numbers are below
raise_below : (place agent boot : ℕ) (t : Leases) → AllBelow place t.rows
    → Each (IsOnBelow place) (raise_known agent boot t).effects
unfolding raise_known
raise_below place agent boot t low =
    by_if (λ (d : Done). Each (IsOnBelow place) d.effects) (nat_lt (known_boot t.known agent) boot)
    (λ _. each_map _ (λ row. effect.Cleared (at_phase Freeing row)) (filter (is_stale agent boot) t.rows)
    (each_passing _ (is_stale agent boot) t.rows (λ row i stale. each_in (λ (r : Row). r.n < place) t.rows row low i)))
    (λ _. tt)

reserve_lively : (rules : LeaseRules) (es : List Effect) (place agent boot seq : ℕ) (o : Option MachineRule)
    (t : Leases) → Each (IsOnBelow place) es → AllBelow place t.rows
    → OwnNumbers t.rows → Live es t → Lively es (reserve rules place agent boot seq o t)
unfolding reserve
reserve_lively rules es place agent boot seq None t low below own h = quiet es t h
reserve_lively rules es place agent boot seq (Some rule) t low below own h =
    by_if (Lively es) ((rule.agent == agent) && nat_le (known_boot t.known agent) boot
    && is_later boot seq (last_of t.lasts rule.machine))
    (λ _. let one : Done = raise_known agent boot t in
    let two : Done = decide rules place boot rule seq one.leases in
    let raised : Lively es one = raise_lively es agent boot t own h in
    let decided : Lively (es ++ one.effects) two =
    decide_lively rules (es ++ one.effects) place boot rule seq one.leases
    (each_append (IsOnBelow place) es one.effects low (raise_below place agent boot t below)) raised.rows in
    record {
      rows = rw (← append_assoc es one.effects two.effects) decided.rows;
      new =
          new_append es one.effects two.effects raised.new decided.new;
    })
    (λ _. quiet es t h)

up_lively : (es : List Effect) (agent boot : ℕ) (t : Leases) → OwnNumbers t.rows → Live es t
    → Lively es (up agent boot t)
unfolding up
up_lively es agent boot t own h = by_if (Lively es) (nat_lt agent 256 && nat_lt (known_boot t.known agent) boot)
    (λ _. let first : List Effect = effect.Known agent boot ∷ [] in
    let one : Done = raise_known agent boot t in
    let raised : Lively (es ++ first) one =
    raise_lively (es ++ first) agent boot t own (known_past es agent boot t.rows h) in
    record { rows = rw (← append_assoc es first one.effects) raised.rows; new = (tt, raised.new) })
    (λ _. quiet es t h)

found_live : (es : List Effect) (t : Leases) (n : ℕ) (row : Row) → Live es t → row_at t.rows n ≡ Some row
    → RowLive es row
found_live es t n row h e = each_in (RowLive es) t.rows row h (found_in (λ x. x.n == n) t.rows row e)

command_lively : (rules : LeaseRules) (es : List Effect) (place : ℕ) (c : LogCommand) (t : Leases)
    → Each (IsOnBelow place) es → AllBelow place t.rows
    → OwnNumbers t.rows → Live es t → Lively es (command rules place c t)
command_lively rules es place (Reserve agent boot machine seq) t low below own h =
    reserve_lively rules es place agent boot seq (rule_of rules machine) t low below own h
command_lively rules es place (Granted n muxes) t low below own h =
    grant_lively es t (row_at t.rows n) (λ row e. found_live es t n row h e) h
command_lively rules es place (Release n) t low below own h =
    release_lively es t (row_at t.rows n) (λ row e. found_live es t n row h e) h
command_lively rules es place (Freed n) t low below own h =
    free_lively es t (row_at t.rows n) (λ row e. found_live es t n row h e) h
command_lively rules es place (Up agent boot) t low below own h = up_lively es agent boot t own h

-- ---- every list of commands

-- each lease on which something was done was born
order_all : (done es : List Effect) → InOrder done es → Each (Prepared (done ++ es)) es
order_all done [] h = tt
order_all done (e ∷ es) h = (
  prepared_more done (e ∷ es) e h.0,
  subst (λ (all : List Effect). Each (Prepared all) es) (append_assoc done (e ∷ []) es)
      (order_all (done ++ e ∷ []) es h.1),
)

born_below : (d : Done) (place : ℕ) (row : Row) → Below d place → WasBorn d.effects row → row.n < place
born_below d place row low was = let lt : was.born.n < place = low was.born was.birth.done in let e =
    was.birth.number in omega arith

effect_below : (d : Done) (place : ℕ) → Below d place → (e : Effect) → In e d.effects → Prepared d.effects e
    → IsOnBelow place e
effect_below d place low (effect.Reserved row) i h = low row i
effect_below d place low (effect.Exhausted machine boot seq at) i h = tt
effect_below d place low (effect.AtLimit machine boot seq count) i h = tt
effect_below d place low (effect.Granted row) i h = born_below d place row low h
effect_below d place low (effect.Released row) i h = born_below d place row low h
effect_below d place low (effect.Freed row) i h = born_below d place row low h.0
effect_below d place low (effect.Known agent boot) i h = tt
effect_below d place low (effect.Cleared row) i h = born_below d place row low h

record Fresh (d : Done) : Type 0 where
  own : OwnNumbers d.leases.rows
  live : Live d.effects d.leases
  new : AllNew [] d.effects

record Told (cs : List Placed) (d : Done) : Type 0 where
  caused : Each (HasCause cs) d.effects
  ordered : Ordered d
  fresh : Ascends cs → Fresh d

fresh_step : (rules : LeaseRules) (c : Placed) (d : Done) → Ordered d → Below d c.place → Fresh d
    → Fresh (tell rules d c)
fresh_step rules c d o low f =
    let below : AllBelow c.place d.leases.rows =
    each_on _ _ (λ row told. born_below d c.place row low told.was) d.leases.rows o.rows in
    let prepared : Each (Prepared d.effects) d.effects = order_all [] d.effects o.order in
    let effects : Each (IsOnBelow c.place) d.effects =
    each_from _ d.effects (λ e i. effect_below d c.place low e i (each_in (Prepared d.effects) d.effects e prepared i))
    in
    let l : Lively d.effects (command rules c.place c.command d.leases) =
    command_lively rules d.effects c.place c.command d.leases effects below f.own f.live in
    record {
      own = (command_goes rules c.place c.command d.leases).numbers below f.own;
      live = l.rows;
      new = new_append [] d.effects _ f.new l.new;
    }

told : (rules : LeaseRules) (cs : List Placed) → Told cs (story rules cs)
told rules cs =
    story_of rules Told (record {
      caused = tt;
      ordered = record { rows = tt; order = tt };
      fresh =
          λ up. record { own = tt; live = tt; new = tt };
    })
    (λ cs c d h. record {
      caused = caused_step rules cs c d h.caused;
      ordered = ordered_step rules c d h.ordered;
      fresh = λ up. let front =
          ascends_front cs c up in fresh_step rules c d h.ordered (below_now cs c d h.caused front.1) (h.fresh front.0);
    }) cs

pub nothing_twice : (rules : LeaseRules) (cs : List Placed) → Ascends cs → NothingTwice rules cs
nothing_twice rules cs up = ((told rules cs).fresh up).new

pub own_numbers : (rules : LeaseRules) (cs : List Placed) → Ascends cs → OwnNumbers (story rules cs).leases.rows
own_numbers rules cs up = ((told rules cs).fresh up).own
