-- Each row was born as it is and reached its phase, each effect was prepared, each last outcome was done.
use Rattle.std.proofs.Common.{◌≡◌, inl, inr, ℕ, Bool, true, false, ◌==◌, nat_lt, nat_le, List, [], ◌∷◌, ◌++◌, map}
use Rattle.std.proofs.Common.{filter, Option, Some, None, refl, ap, arith}
use Rattle.std.specs.Prelude.{not, ◌&&◌, cond}
use Rattle.std.proofs.lemmas.Bool.Decides.{nat_tests}
use Rattle.std.proofs.lemmas.List.{append_assoc, append-nil}
use Rattle.wire_core.specs.declared.address.Ip4.{Ip4}
use Rattle.wire_core.specs.declared.range.Range.{Range}
use Rattle.wire_core.specs.declared.rules.MachineRule.{MachineRule}
use Rattle.wire_core.specs.declared.rules.LeaseRules.{LeaseRules}
use Rattle.wire_core.specs.Members.{In, Each}
use Rattle.wire_core.specs.Commands.{LogCommand, Reserve, Granted, Release, Freed, Up}
use Rattle.lease_spec.specs.declared.row.Row.{Row}
use Rattle.lease_spec.specs.declared.row.Phase.{Phase}
use Rattle.lease_spec.specs.declared.row.Phase.TheVariants.{BeingLeased, Leased, Freeing}
use Rattle.lease_spec.specs.declared.effect.Effect.{Effect}
use Rattle.lease_spec.specs.declared.effect.Effect.TheVariants as effect
use Rattle.lease_spec.specs.Places.{Placed}
use Rattle.lease_spec.specs.Free.{least_free}
use Rattle.lease_spec.specs.Table.{Leases, Done, tell, command, story, rule_of, reserve, decide, raise_known, grant}
use Rattle.lease_spec.specs.Table.{release, free, up, row_at, is_stale, is_freeing, is_being, at_phase, take_range}
use Rattle.lease_spec.specs.Table.{known_boot, last_of, is_later, new_row, move, cleared, row_count}
use Rattle.lease_spec.specs.Lives.{Birth, IsGranted, IsDying}
use Rattle.lease_spec.specs.Truths.{WasBorn, PhaseTold, RowTold, RowsTold, Prepared, InOrder, LivesInOrder}
use Rattle.lease_spec.proofs.MemberLaws.{each_append, each_in, each_from, each_on, each_map, in_left, in_right, in_map}
use Rattle.lease_spec.proofs.MemberLaws.{in_filter, by_if, found_in}
use Rattle.lease_spec.proofs.CauseLaws.{story_of}

-- ---- what was done stays done

birth_more : (es fs : List Effect) (n : ℕ) (row : Row) → Birth es n row → Birth (es ++ fs) n row
birth_more es fs n row h = record { number = h.number; done = in_left es fs _ h.done }

born_more : (es fs : List Effect) (row : Row) → WasBorn es row → WasBorn (es ++ fs) row
born_more es fs row h = record { born = h.born; birth = birth_more es fs row.n h.born h.birth; fields = h.fields }

granted_more : (es fs : List Effect) (n : ℕ) → IsGranted es n → IsGranted (es ++ fs) n
granted_more es fs n h = record { row = h.row; number = h.number; done = in_left es fs _ h.done }

pub dying_more : (es fs : List Effect) (n : ℕ) → IsDying es n → IsDying (es ++ fs) n
dying_more es fs n h = record {
  row = h.row;
  number = h.number;
  done = elim h.done [ inl a ↦ inl (in_left es fs _ a) | inr b ↦ inr (in_left es fs _ b) ];
}

phase_more : (es fs : List Effect) (n : ℕ) (phase : Phase) → PhaseTold es n phase → PhaseTold (es ++ fs) n phase
phase_more es fs n BeingLeased h = tt
phase_more es fs n Leased h = granted_more es fs n h
phase_more es fs n Freeing h = dying_more es fs n h

row_more : (es fs : List Effect) (row : Row) → RowTold es row → RowTold (es ++ fs) row
row_more es fs row h = record { was = born_more es fs row h.was; phase = phase_more es fs row.n row.phase h.phase }

pub prepared_more : (es fs : List Effect) (e : Effect) → Prepared es e → Prepared (es ++ fs) e
prepared_more es fs (effect.Reserved row) h = tt
prepared_more es fs (effect.Exhausted machine boot seq place) h = tt
prepared_more es fs (effect.AtLimit machine boot seq count) h = tt
prepared_more es fs (effect.Granted row) h = born_more es fs row h
prepared_more es fs (effect.Released row) h = born_more es fs row h
prepared_more es fs (effect.Freed row) h = (born_more es fs row h.0, dying_more es fs row.n h.1)
prepared_more es fs (effect.Known agent boot) h = tt
prepared_more es fs (effect.Cleared row) h = born_more es fs row h

-- ---- effects in order

order_append : (done es fs : List Effect) → InOrder done es → InOrder (done ++ es) fs → InOrder done (es ++ fs)
order_append done [] fs a b = rw (← append-nil done) b
order_append done (e ∷ es) fs a b =
    (a.0, order_append (done ++ e ∷ []) es fs a.1 (rw (append_assoc done (e ∷ []) es) b))

order_each : (done es : List Effect) → Each (Prepared done) es → InOrder done es
order_each done [] h = tt
order_each done (e ∷ es) h =
    (h.0, order_each (done ++ e ∷ []) es (each_on _ _ (λ f p. prepared_more done (e ∷ []) f p) es h.1))

-- ---- a command

-- what was done so far, and a change: its rows are told by all that was done, its effects are prepared by what was
record Tells (es : List Effect) (e : Done) : Type 0 where
  rows : Each (RowTold (es ++ e.effects)) e.leases.rows
  ready : Each (Prepared es) e.effects

abbrev Told : List Effect → Leases → Type 0
Told es t = Each (RowTold es) t.rows

-- a row that goes to another phase
at_told : (es fs : List Effect) (row : Row) (phase : Phase) → WasBorn es row → PhaseTold (es ++ fs) row.n phase
    → RowTold (es ++ fs) (at_phase phase row)
at_told es fs row phase h p = record {
  was = record { born = h.born; birth = birth_more es fs row.n h.born h.birth; fields = ap (at_phase phase) h.fields };
  phase = p;
}

at_born : (es : List Effect) (row : Row) (phase : Phase) → WasBorn es row → WasBorn es (at_phase phase row)
at_born es row phase h = record { born = h.born; birth = h.birth; fields = ap (at_phase phase) h.fields }

quiet : (es : List Effect) (t : Leases) → Told es t → Tells es (record { leases = t; effects = [] })
quiet es t h = record { rows = rw (append-nil es) h; ready = tt }

-- rows of a number go to a phase that they reached by an effect
moved : (es fs : List Effect) (n : ℕ) (phase : Phase) (rows : List Row) → PhaseTold (es ++ fs) n phase
    → Each (RowTold es) rows
    → Each (RowTold (es ++ fs)) (move n phase rows)
moved es fs n phase rows p h = each_map _ _ rows (each_on _ _ (λ row told. by_if (RowTold (es ++ fs)) (row.n == n)
    (λ hit. at_told es fs row phase told.was (let same : row.n ≡ n = grind (arith, nat_tests) in rw same p))
    (λ miss. row_more es fs row told)) rows h)

-- rows found are of the table, so they are told
found_told : (es : List Effect) (t : Leases) (n : ℕ) (row : Row) → Told es t → row_at t.rows n ≡ Some row
    → RowTold es row
found_told es t n row h e = each_in (RowTold es) t.rows row h (found_in (λ x. x.n == n) t.rows row e)

-- the rows that a raised boot clears are of the table, and are shown so
cleared_in : (agent boot : ℕ) (rows : List Row) (row : Row) → In row rows → is_stale agent boot row ≡ true
    → In (effect.Cleared (at_phase Freeing row))
    (map (λ x. effect.Cleared (at_phase Freeing x)) (filter (is_stale agent boot) rows))
cleared_in agent boot rows row i stale =
    in_map (λ x. effect.Cleared (at_phase Freeing x)) (filter (is_stale agent boot) rows) row
    (in_filter (is_stale agent boot) rows row i stale)

each_filter : {X : Type 0} (P : X → Type 0) (p : X → Bool) (xs : List X) → Each P xs → Each P (filter p xs)
each_filter P p [] h = tt
each_filter P p (x ∷ xs) h = by (p x) (each_filter P p xs h.1)
  where
    by : (b : Bool) → Each P (filter p xs) → Each P (cond b (x ∷ filter p xs) (filter p xs))
    by true rest = (h.0, rest)
    by false rest = rest

raise_tells : (es : List Effect) (agent boot : ℕ) (t : Leases) → Told es t → Tells es (raise_known agent boot t)
unfolding raise_known
raise_tells es agent boot t h = by_if (Tells es) (nat_lt (known_boot t.known agent) boot)
    (λ _. record {
      rows = each_map _ (cleared agent boot) t.rows (each_from _ t.rows (λ row i.
          let told : RowTold es row = each_in (RowTold es) t.rows row h i in
          by_if (RowTold (es ++ done)) (is_stale agent boot row)
          (λ stale. at_told es done row Freeing told.was
          (record {
            row = at_phase Freeing row;
            number = refl;
            done = inr (in_right es done _ (cleared_in agent boot t.rows row i stale));
          }))
          (λ _. row_more es done row told)));
      ready = each_map _ (λ row. effect.Cleared (at_phase Freeing row)) (filter (is_stale agent boot) t.rows)
          (each_on _ _ (λ row told. at_born es row Freeing told.was) (filter (is_stale agent boot) t.rows)
          (each_filter (RowTold es) (is_stale agent boot) t.rows h));
    })
    (λ _. quiet es t h)
  where
    done : List Effect
    done = map (λ row. effect.Cleared (at_phase Freeing row)) (filter (is_stale agent boot) t.rows)

grant_tells : (es : List Effect) (t : Leases) (o : Option Row) → ((row : Row) → o ≡ Some row → RowTold es row)
    → Told es t → Tells es (grant t o)
unfolding grant
grant_tells es t None f h = quiet es t h
grant_tells es t (Some row) f h = by_if (Tells es) (is_being row.phase)
    (λ _. let done : List Effect = effect.Granted (at_phase Leased row) ∷ [] in record {
      rows =
          moved es done row.n Leased t.rows (record {
            row = at_phase Leased row;
            number = refl;
            done =
                in_right es done _ (inl refl);
          }) h;
      ready = (at_born es row Leased (f row refl).was, tt);
    })
    (λ _. quiet es t h)

release_tells : (es : List Effect) (t : Leases) (o : Option Row) → ((row : Row) → o ≡ Some row → RowTold es row)
    → Told es t → Tells es (release t o)
unfolding release
release_tells es t None f h = quiet es t h
release_tells es t (Some row) f h = by_if (Tells es) (not (is_freeing row.phase))
    (λ _. let done : List Effect = effect.Released (at_phase Freeing row) ∷ [] in record {
      rows =
          moved es done row.n Freeing t.rows (record {
            row = at_phase Freeing row;
            number = refl;
            done =
                inl (in_right es done _ (inl refl));
          }) h;
      ready = (at_born es row Freeing (f row refl).was, tt);
    })
    (λ _. quiet es t h)

freeing_dying : (es : List Effect) (n : ℕ) (phase : Phase) → is_freeing phase ≡ true → PhaseTold es n phase
    → IsDying es n
freeing_dying es n BeingLeased is h = absurd (cc)
freeing_dying es n Leased is h = absurd (cc)
freeing_dying es n Freeing is h = h

free_tells : (es : List Effect) (t : Leases) (o : Option Row) → ((row : Row) → o ≡ Some row → RowTold es row)
    → Told es t → Tells es (free t o)
unfolding free
free_tells es t None f h = quiet es t h
free_tells es t (Some row) f h = by_if (Tells es) (is_freeing row.phase)
    (λ freeing. let done : List Effect = effect.Freed row ∷ [] in record {
      rows =
          each_filter (RowTold (es ++ done)) (λ other. not (other.n == row.n)) t.rows
          (each_on _ _ (λ x told. row_more es done x told) t.rows h);
      ready = (((f row refl).was, freeing_dying es row.n row.phase freeing (f row refl).phase), tt);
    })
    (λ _. quiet es t h)

take_tells : (es : List Effect) (place agent boot : ℕ) (machine : Ip4) (seq : ℕ) (t : Leases) (o : Option Range)
    → Told es t
    → Tells es (take_range place agent boot machine seq t o)
take_tells es place agent boot machine seq t None h = record {
  rows = each_on _ _ (λ x told. row_more es (effect.Exhausted machine boot seq place ∷ []) x told) t.rows h;
  ready = (tt, tt);
}
take_tells es place agent boot machine seq t (Some range) h =
    let new : Row = new_row place range machine agent boot seq in
    let done : List Effect = effect.Reserved new ∷ [] in record {
      rows =
          each_append (RowTold (es ++ done)) t.rows (new ∷ [])
          (each_on _ _ (λ x told. row_more es done x told) t.rows h) (
            record {
              was = record {
                born = new;
                birth = record { number = refl; done = in_right es done _ (inl refl) };
                fields = refl;
              };
              phase = tt;
            },
            tt,
          );
      ready = (tt, tt);
    }

decide_tells : (rules : LeaseRules) (es : List Effect) (place boot : ℕ) (rule : MachineRule) (seq : ℕ) (t : Leases)
    → Told es t
    → Tells es (decide rules place boot rule seq t)
unfolding decide
decide_tells rules es place boot rule seq t h = by_if (Tells es) (nat_le rules.limit (row_count t.rows rule.machine))
    (λ _. record {
      rows =
          each_on _ _ (λ x told. row_more es
          (effect.AtLimit rule.machine boot seq (row_count t.rows rule.machine) ∷ []) x told) t.rows h;
      ready = (tt, tt);
    })
    (λ _. take_tells es place rule.agent boot rule.machine seq t (least_free rules t.rows rule.vip) h)

-- one change after another, its effects in order
record Orders (es : List Effect) (e : Done) : Type 0 where
  rows : Each (RowTold (es ++ e.effects)) e.leases.rows
  order : InOrder es e.effects

orders : (es : List Effect) (e : Done) → Tells es e → Orders es e
orders es e h = record { rows = h.rows; order = order_each es e.effects h.ready }

reserve_orders : (rules : LeaseRules) (es : List Effect) (place agent boot seq : ℕ) (o : Option MachineRule)
    (t : Leases) → Told es t
    → Orders es (reserve rules place agent boot seq o t)
unfolding reserve
reserve_orders rules es place agent boot seq None t h = orders es _ (quiet es t h)
reserve_orders rules es place agent boot seq (Some rule) t h =
    by_if (Orders es) ((rule.agent == agent) && nat_le (known_boot t.known agent) boot
    && is_later boot seq (last_of t.lasts rule.machine))
    (λ _. let one : Done = raise_known agent boot t in
    let two : Done = decide rules place boot rule seq one.leases in
    let raised : Tells es one = raise_tells es agent boot t h in
    let decided : Tells (es ++ one.effects) two =
    decide_tells rules (es ++ one.effects) place boot rule seq one.leases raised.rows in
    record {
      rows = rw (← append_assoc es one.effects two.effects) decided.rows;
      order =
          order_append es one.effects two.effects (order_each es one.effects raised.ready)
          (order_each (es ++ one.effects) two.effects decided.ready);
    })
    (λ _. orders es _ (quiet es t h))

up_orders : (es : List Effect) (agent boot : ℕ) (t : Leases) → Told es t → Orders es (up agent boot t)
unfolding up
up_orders es agent boot t h = by_if (Orders es) (nat_lt agent 256 && nat_lt (known_boot t.known agent) boot)
    (λ _. let first : List Effect = effect.Known agent boot ∷ [] in
    let one : Done = raise_known agent boot t in
    let raised : Tells (es ++ first) one =
    raise_tells (es ++ first) agent boot t (each_on _ _ (λ x told. row_more es first x told) t.rows h) in
    record {
      rows = rw (← append_assoc es first one.effects) raised.rows;
      order = (tt, order_each (es ++ first) one.effects raised.ready);
    })
    (λ _. orders es _ (quiet es t h))

command_orders : (rules : LeaseRules) (es : List Effect) (place : ℕ) (c : LogCommand) (t : Leases) → Told es t
    → Orders es (command rules place c t)
command_orders rules es place (Reserve agent boot machine seq) t h =
    reserve_orders rules es place agent boot seq (rule_of rules machine) t h
command_orders rules es place (Granted n muxes) t h =
    orders es _ (grant_tells es t (row_at t.rows n) (λ row e. found_told es t n row h e) h)
command_orders rules es place (Release n) t h =
    orders es _ (release_tells es t (row_at t.rows n) (λ row e. found_told es t n row h e) h)
command_orders rules es place (Freed n) t h =
    orders es _ (free_tells es t (row_at t.rows n) (λ row e. found_told es t n row h e) h)
command_orders rules es place (Up agent boot) t h = up_orders es agent boot t h

-- ---- every list of commands

pub record Ordered (d : Done) : Type 0 where
  pub rows : Each (RowTold d.effects) d.leases.rows
  pub order : InOrder [] d.effects

pub ordered_step : (rules : LeaseRules) (c : Placed) (d : Done) → Ordered d → Ordered (tell rules d c)
ordered_step rules c d h =
    let o : Orders d.effects (command rules c.place c.command d.leases) =
    command_orders rules d.effects c.place c.command d.leases h.rows in
    record { rows = o.rows; order = order_append [] d.effects _ h.order o.order }

ordered : (rules : LeaseRules) (cs : List Placed) → Ordered (story rules cs)
ordered rules cs =
    story_of rules (λ _ d. Ordered d) (record { rows = tt; order = tt }) (λ cs c d h. ordered_step rules c d h) cs

pub rows_told : (rules : LeaseRules) (cs : List Placed) → RowsTold rules cs
rows_told rules cs = (ordered rules cs).rows

pub lives_in_order : (rules : LeaseRules) (cs : List Placed) → LivesInOrder rules cs
lives_in_order rules cs = (ordered rules cs).order
