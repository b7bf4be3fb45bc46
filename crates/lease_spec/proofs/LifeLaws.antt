-- Each lease that was born stands or is gone, and of two leases on one range the earlier one is gone.
use Rattle.std.proofs.Common.{◌≡◌, ◌⊎◌, inl, inr, ℕ, ◌<◌, Bool, true, false, ◌==◌, nat_lt, nat_le, List, [], ◌∷◌, ◌++◌}
use Rattle.std.proofs.Common.{map, filter, Option, Some, None, refl, sym, ap, ◌∙◌, subst, arith}
use Rattle.std.specs.Prelude.{if◌then◌else◌, not, ◌&&◌}
use Rattle.std.proofs.lemmas.Bool.Decides.{nat_tests}
use Rattle.std.proofs.lemmas.List.{append_assoc}
use Rattle.wire_core.specs.declared.address.Ip4.{Ip4}
use Rattle.wire_core.specs.declared.range.Range.{Range}
use Rattle.wire_core.specs.declared.rules.MachineRule.{MachineRule}
use Rattle.wire_core.specs.declared.rules.LeaseRules.{LeaseRules}
use Rattle.wire_core.specs.Members.{In, Each}
use Rattle.wire_core.specs.Commands.{LogCommand, Reserve, Granted, Release, Freed, Up}
use Rattle.lease_spec.specs.declared.row.Row.{Row}
use Rattle.lease_spec.specs.declared.row.Phase.{Phase}
use Rattle.lease_spec.specs.declared.row.Phase.TheVariants.{Leased, Freeing}
use Rattle.lease_spec.specs.declared.effect.Effect.{Effect}
use Rattle.lease_spec.specs.declared.effect.Effect.TheVariants as effect
use Rattle.lease_spec.specs.Places.{Placed, Ascends}
use Rattle.lease_spec.specs.Free.{has_no_row, least_free}
use Rattle.lease_spec.specs.Table.{Leases, Done, nothing, command, story, history, rule_of, reserve, decide}
use Rattle.lease_spec.specs.Table.{raise_known, grant, release, free, up, row_at, is_stale, is_freeing, is_being}
use Rattle.lease_spec.specs.Table.{at_phase, take_range, known_boot, last_of, is_later, new_row, move, cleared}
use Rattle.lease_spec.specs.Table.{row_count}
use Rattle.lease_spec.specs.Lives.{IsGone, Standing, HasCause, EarlierIsGone, StandsOrGone}
use Rattle.lease_spec.proofs.MemberLaws.{each_in, each_left, in_left, in_right, in_cases, in_map, in_filter, by_if}
use Rattle.lease_spec.proofs.CauseLaws.{story_of, caused_step}
use Rattle.lease_spec.proofs.FreeLaws.{no_row, found_free}

-- ---- what a change owes

-- no lease is born among these effects
abbrev Barren : List Effect → Type 0
Barren es = (row : Row) → In (effect.Reserved row) es → ⊥

-- a row that stands stays or goes; a new one is numbered above all before it, on a range without a row; at most one is
-- new
record Change (d e : Done) : Type 0 where
  stands : (b : Row) → Standing d.leases.rows b → Standing e.leases.rows b ⊎ IsGone e.effects b.n
  newborn : (b : Row) → In (effect.Reserved b) e.effects
      → Standing e.leases.rows b × ((a : Row) → In (effect.Reserved a) d.effects → a.n < b.n)
      × ((a : Row) → Standing d.leases.rows a → a.range ≡ b.range → ⊥)
  only : (a b : Row) → In (effect.Reserved a) e.effects → In (effect.Reserved b) e.effects → a.n ≡ b.n

record Lived (d : Done) : Type 0 where
  born : (b : Row) → In (effect.Reserved b) d.effects → Standing d.leases.rows b ⊎ IsGone d.effects b.n
  earlier : (a b : Row) → In (effect.Reserved a) d.effects → In (effect.Reserved b) d.effects → a.n < b.n
      → a.range ≡ b.range → IsGone d.effects a.n

abbrev joined : Done → Done → Done
joined d e = record { leases = e.leases; effects = d.effects ++ e.effects }

gone_left : (es fs : List Effect) (n : ℕ) → IsGone es n → IsGone (es ++ fs) n
gone_left es fs n h = record { row = h.row; number = h.number; done = in_left es fs _ h.done }

gone_right : (es fs : List Effect) (n : ℕ) → IsGone fs n → IsGone (es ++ fs) n
gone_right es fs n h = record { row = h.row; number = h.number; done = in_right es fs _ h.done }

lived_on : (d e : Done) → Change d e → Lived d → Lived (joined d e)
lived_on d e c l = record {
  born = λ b i. elim (in_cases d.effects e.effects (effect.Reserved b) i) [
    | inl old ↦ elim (l.born b old) [
      | inl here ↦ elim (c.stands b here)
          [ inl still ↦ inl still | inr gone ↦ inr (gone_right d.effects e.effects b.n gone) ]
      | inr gone ↦ inr (gone_left d.effects e.effects b.n gone)
    ]
    | inr new ↦ inl (c.newborn b new).0
  ];
  earlier = λ a b i j lt same. elim (in_cases d.effects e.effects (effect.Reserved b) j) [
    | inl old ↦ elim (in_cases d.effects e.effects (effect.Reserved a) i) [
      | inl old2 ↦ gone_left d.effects e.effects a.n (l.earlier a b old2 old lt same)
      | inr new2 ↦ absurd (let low = (c.newborn a new2).1 b old in omega arith)
    ]
    | inr new ↦ elim (in_cases d.effects e.effects (effect.Reserved a) i) [
      | inl old2 ↦ elim (l.born a old2) [
        | inl here ↦ absurd ((c.newborn b new).2 a here same)
        | inr gone ↦ gone_left d.effects e.effects a.n gone
      ]
      | inr new2 ↦ absurd (let e = c.only a b new2 new in omega arith)
    ]
  ];
}

-- a change without a birth
barren_change : (d e : Done) → Barren e.effects
    → ((b : Row) → Standing d.leases.rows b → Standing e.leases.rows b ⊎ IsGone e.effects b.n) → Change d e
barren_change d e none s = record {
  stands = s;
  newborn = λ b i. absurd (none b i);
  only = λ a b i j. absurd (none a i);
}

no_change : (d : Done) → Change d (nothing d.leases)
no_change d = barren_change d (nothing d.leases) (λ b i. i) (λ b s. inl s)

-- ---- rows that only change their phase

phased : (f : Row → Row) → ((row : Row) → ((f row).n ≡ row.n) × ((f row).range ≡ row.range))
    → (rows : List Row) (b : Row) → Standing rows b → Standing (map f rows) b
phased f k rows b s =
    record {
      row = f s.row;
      there = in_map f rows s.row s.there;
      number = (k s.row).0 ∙ s.number;
      range =
          (k s.row).1 ∙ s.range;
    }

moved : (n : ℕ) (phase : Phase) (rows : List Row) (b : Row) → Standing rows b → Standing (move n phase rows) b
moved n phase rows b s = phased (λ row. if row.n == n then at_phase phase row else row) (λ row. grind arith) rows b s

cleared_stands : (agent boot : ℕ) (rows : List Row) (b : Row) → Standing rows b
    → Standing (map (cleared agent boot) rows) b
cleared_stands agent boot rows b s = phased (cleared agent boot) (λ row. grind arith) rows b s

clears_barren : (rows : List Row) → Barren (map (λ row. effect.Cleared (at_phase Freeing row)) rows)
clears_barren [] b i = i
clears_barren (row ∷ rows) b i = elim i [ inl e ↦ absurd (cc) | inr j ↦ clears_barren rows b j ]

-- ---- the commands

raise_change : (d : Done) (agent boot : ℕ) → Change d (raise_known agent boot d.leases)
unfolding raise_known
raise_change d agent boot = by_if (Change d) (nat_lt (known_boot d.leases.known agent) boot)
    (λ _. barren_change d _ (clears_barren (filter (is_stale agent boot) d.leases.rows))
    (λ b s. inl (cleared_stands agent boot d.leases.rows b s)))
    (λ _. barren_change d _ (λ b i. i) (λ b s. inl s))

grant_change : (d : Done) (o : Option Row) → Change d (grant d.leases o)
unfolding grant
grant_change d None = barren_change d _ (λ b i. i) (λ b s. inl s)
grant_change d (Some row) = by_if (Change d) (is_being row.phase)
    (λ _. barren_change d _ (λ b i. elim i [ inl e ↦ absurd (cc) | inr j ↦ j ])
    (λ b s. inl (moved row.n Leased d.leases.rows b s)))
    (λ _. barren_change d _ (λ b i. i) (λ b s. inl s))

release_change : (d : Done) (o : Option Row) → Change d (release d.leases o)
unfolding release
release_change d None = barren_change d _ (λ b i. i) (λ b s. inl s)
release_change d (Some row) = by_if (Change d) (not (is_freeing row.phase))
    (λ _. barren_change d _ (λ b i. elim i [ inl e ↦ absurd (cc) | inr j ↦ j ])
    (λ b s. inl (moved row.n Freeing d.leases.rows b s)))
    (λ _. barren_change d _ (λ b i. i) (λ b s. inl s))

left_or : (row : Row) (rows : List Row) (b : Row) → Standing rows b
    → Standing (filter (λ other. not (other.n == row.n)) rows) b ⊎ IsGone (effect.Freed row ∷ []) b.n
left_or row rows b s = by (s.row.n == row.n) refl
  where
    by : (c : Bool) → (s.row.n == row.n) ≡ c
        → Standing (filter (λ other. not (other.n == row.n)) rows) b ⊎ IsGone (effect.Freed row ∷ []) b.n
    by true is =
        inr (record {
          row = row;
          number =
              (let e : s.row.n ≡ row.n = grind (arith, nat_tests) in sym e ∙ s.number);
          done = inl refl;
        })
    by false is =
        inl (record {
          row = s.row;
          there =
              in_filter (λ other. not (other.n == row.n)) rows s.row s.there (ap not is);
          number = s.number;
          range =
              s.range;
        })

free_change : (d : Done) (o : Option Row) → Change d (free d.leases o)
unfolding free
free_change d None = barren_change d _ (λ b i. i) (λ b s. inl s)
free_change d (Some row) = by_if (Change d) (is_freeing row.phase)
    (λ _. barren_change d _ (λ b i. elim i [ inl e ↦ absurd (cc) | inr j ↦ j ]) (λ b s. left_or row d.leases.rows b s))
    (λ _. barren_change d _ (λ b i. i) (λ b s. inl s))

-- each lease that was born has a number below this one
abbrev pub Below : Done → ℕ → Type 0
Below d place = (a : Row) → In (effect.Reserved a) d.effects → a.n < place

take_change : (d : Done) (place agent boot : ℕ) (machine : Ip4) (seq : ℕ) (o : Option Range)
    → ((r : Range) → o ≡ Some r → has_no_row d.leases.rows r ≡ true) → Below d place
    → Change d (take_range place agent boot machine seq d.leases o)
take_change d place agent boot machine seq None free low =
    barren_change d _ (λ b i. elim i [ inl e ↦ absurd (cc) | inr j ↦ j ]) (λ b s. inl s)
take_change d place agent boot machine seq (Some r) free low = record {
  stands =
      λ b s. inl (record {
        row = s.row;
        there = in_left d.leases.rows _ s.row s.there;
        number = s.number;
        range =
            s.range;
      });
  newborn = λ b i. let same : new_row place r machine agent boot seq ≡ b = born i in (
    subst (Standing (d.leases.rows ++ new_row place r machine agent boot seq ∷ [])) same (record {
      row =
          new_row place r machine agent boot seq;
      there = in_right d.leases.rows _ _ (inl refl);
      number = refl;
      range =
          refl;
    }),
    (λ a j. subst (λ (x : Row). a.n < x.n) same (low a j)),
    (λ a s is. no_row d.leases.rows r (free r refl) s.row s.there
        (s.range ∙ is ∙ sym (ap (λ (x : Row). x.range) same))),
  );
  only = λ a b i j. let x = born i in let y = born j in sym (ap (λ (z : Row). z.n) x) ∙ ap (λ (z : Row). z.n) y;
}
  where
    born : {b : Row} → In (effect.Reserved b) (effect.Reserved (new_row place r machine agent boot seq) ∷ [])
        → new_row place r machine agent boot seq ≡ b
    born i = elim i [ inl e ↦ cc | inr j ↦ absurd j ]

decide_change : (rules : LeaseRules) (d : Done) (place boot : ℕ) (rule : MachineRule) (seq : ℕ) → Below d place
    → Change d (decide rules place boot rule seq d.leases)
unfolding decide
decide_change rules d place boot rule seq low =
    by_if (Change d) (nat_le rules.limit (row_count d.leases.rows rule.machine))
    (λ _. barren_change d _ (λ b i. elim i [ inl e ↦ absurd (cc) | inr j ↦ j ]) (λ b s. inl s))
    (λ _. take_change d place rule.agent boot rule.machine seq (least_free rules d.leases.rows rule.vip)
    (found_free rules d.leases.rows rule.vip) low)

raise_barren : (agent boot : ℕ) (t : Leases) → Barren (raise_known agent boot t).effects
unfolding raise_known
raise_barren agent boot t =
    by_if (λ (e : Done). Barren e.effects) (nat_lt (known_boot t.known agent) boot)
    (λ _. clears_barren (filter (is_stale agent boot) t.rows)) (λ _ b i. i)

below_joined : (d e : Done) (place : ℕ) → Below d place → Barren e.effects → Below (joined d e) place
below_joined d e place low none a i =
    elim (in_cases d.effects e.effects (effect.Reserved a) i) [ inl old ↦ low a old | inr new ↦ absurd (none a new) ]

reserve_lived : (rules : LeaseRules) (d : Done) (place agent boot seq : ℕ) (o : Option MachineRule) → Below d place
    → Lived d → Lived (joined d (reserve rules place agent boot seq o d.leases))
unfolding reserve
reserve_lived rules d place agent boot seq None low l = lived_on d _ (no_change d) l
reserve_lived rules d place agent boot seq (Some rule) low l =
    by_if (λ (e : Done). Lived (joined d e)) ((rule.agent == agent) && nat_le (known_boot d.leases.known agent) boot
    && is_later boot seq (last_of d.leases.lasts rule.machine))
    (λ _. let one : Done = raise_known agent boot d.leases in
    let two : Done = decide rules place boot rule seq one.leases in
    let j : Done = joined d one in
    regroup d one two (lived_on j two
    (decide_change rules j place boot rule seq (below_joined d one place low (raise_barren agent boot d.leases)))
    (lived_on d one (raise_change d agent boot) l)))
    (λ _. lived_on d _ (no_change d) l)
  where
    regroup : (d e f : Done) → Lived (joined (joined d e) f)
        → Lived (joined d (record { leases = f.leases; effects = e.effects ++ f.effects }))
    regroup d e f h =
        subst (λ (es : List Effect). Lived (record { leases = f.leases; effects = es }))
        (append_assoc d.effects e.effects f.effects) h

up_change : (d : Done) (agent boot : ℕ) → Change d (up agent boot d.leases)
unfolding up
up_change d agent boot = by_if (Change d) (nat_lt agent 256 && nat_lt (known_boot d.leases.known agent) boot)
    (λ _. let c : Change d (raise_known agent boot d.leases) = raise_change d agent boot in
    barren_change d _ (λ b i. elim i [ inl e ↦ absurd (cc) | inr j ↦ raise_barren agent boot d.leases b j ])
    (λ b s. elim (c.stands b s) [
      | inl here ↦ inl here
      | inr gone ↦ inr
          (record { row = gone.row; number = gone.number; done = inr gone.done })
    ]))
    (λ _. barren_change d _ (λ b i. i) (λ b s. inl s))

command_lived : (rules : LeaseRules) (d : Done) (place : ℕ) (c : LogCommand) → Below d place → Lived d
    → Lived (joined d (command rules place c d.leases))
command_lived rules d place (Reserve agent boot machine seq) low l =
    reserve_lived rules d place agent boot seq (rule_of rules machine) low l
command_lived rules d place (Granted n muxes) low l = lived_on d _ (grant_change d (row_at d.leases.rows n)) l
command_lived rules d place (Release n) low l = lived_on d _ (release_change d (row_at d.leases.rows n)) l
command_lived rules d place (Freed n) low l = lived_on d _ (free_change d (row_at d.leases.rows n)) l
command_lived rules d place (Up agent boot) low l = lived_on d _ (up_change d agent boot) l

-- ---- every list of commands

pub ascends_front : (cs : List Placed) (c : Placed) → Ascends (cs ++ c ∷ [])
    → Ascends cs × Each (λ x. x.place < c.place) cs
ascends_front [] c h = (tt, tt)
ascends_front (x ∷ cs) c h = let rest = ascends_front cs c h.1 in (
  (each_left (λ y. x.place < y.place) cs (c ∷ []) h.0, rest.0),
  (each_in (λ y. x.place < y.place) (cs ++ c ∷ []) c h.0 (in_right cs (c ∷ []) c (inl refl)), rest.1),
)

-- what was born was born at an earlier place
pub below_now : (cs : List Placed) (c : Placed) (d : Done) → Each (HasCause cs) d.effects
    → Each (λ x. x.place < c.place) cs → Below d c.place
below_now cs c d caused low a i =
    let k : HasCause cs (effect.Reserved a) = each_in (HasCause cs) d.effects (effect.Reserved a) caused i in
    let at : k.command.place < c.place = each_in (λ x. x.place < c.place) cs k.command low k.there in
    let is : k.command.place ≡ a.n = k.causes.0 in omega arith

record Told (cs : List Placed) (d : Done) : Type 0 where
  caused : Each (HasCause cs) d.effects
  lived : Ascends cs → Lived d

told : (rules : LeaseRules) (cs : List Placed) → Told cs (story rules cs)
told rules cs =
    story_of rules Told (record {
      caused = tt;
      lived =
          λ up. record { born = λ b i. absurd i; earlier = λ a b i j lt same. absurd i };
    })
    (λ cs c d h. record {
      caused = caused_step rules cs c d h.caused;
      lived = λ up. let front =
          ascends_front cs c up in command_lived rules d c.place c.command (below_now cs c d h.caused front.1)
          (h.lived front.0);
    }) cs

pub earlier_is_gone : (rules : LeaseRules) (cs : List Placed) → Ascends cs → EarlierIsGone rules cs
earlier_is_gone rules cs up n m a b p q lt same =
    let l : Lived (story rules cs) = (told rules cs).lived up in
    subst (IsGone (history rules cs)) p.number (l.earlier a b p.done q.done (let x = p.number in let y =
    q.number in omega arith) same)

pub stands_or_gone : (rules : LeaseRules) (cs : List Placed) → Ascends cs → StandsOrGone rules cs
stands_or_gone rules cs up n b p =
    let l : Lived (story rules cs) = (told rules cs).lived up in
    elim (l.born b p.done) [ inl here ↦ inl here | inr gone ↦ inr (subst (IsGone (history rules cs)) p.number gone) ]
