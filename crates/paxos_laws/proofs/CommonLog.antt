-- The log of all five only grows at its end, by what a step learned there.
use Rattle.std.proofs.Common.{◌≡◌, ◌≢◌, ℕ, zero, suc, ◌+◌, ◌-◌, ◌<◌, ◌≤◌, ◌⊎◌, inl, inr, List, [], ◌∷◌, ◌++◌, map, take, drop, length, Option, Some, None, slice_get, get_or, refl, sym, ap, ◌∙◌, arith, subst, length-take-le, length-append, length-drop, get_or-take, get_or-drop, ext_get_or, ◌==◌}
use Rattle.std.proofs.lemmas.Bool.Decides.{nat_tests}
use Rattle.std.proofs.lemmas.List.{get_or_push, length-map, take-append-drop, nil_from_length, map-append, append-nil, take_all}
use Rattle.std.proofs.lemmas.Option.{slice_get-get_or, slice_get_within, get_or_from_slice_get}
use Rattle.wire_core.specs.declared.entry.Entry.{Entry}
use Rattle.wire_core.specs.declared.entry.Entry.TheVariants as entry
use Rattle.paxos_spec.specs.declared.cast.Cast.{Cast}
use Rattle.paxos_spec.specs.Votes.{Value, no_vote}
use Rattle.paxos_spec.specs.Five.{five}
use Rattle.paxos_spec.specs.Acceptor.{reach, most_slots}
use Rattle.paxos_spec.specs.Replica.{Out}
use Rattle.paxos_spec.specs.Agreement.{View, Disk, HasLearned, IsChosen, after, grown, values_of, first_of, world_log}
use Rattle.paxos_laws.specs.Facts.{Inv}
use Rattle.paxos_laws.specs.Steps.{Moves, Grows, EntryOk, Good}
use Rattle.paxos_laws.specs.CommonLog.{WasLearned, value_added}
use Rattle.paxos_laws.proofs.Quorums.{by_same, by_if}
use Rattle.paxos_laws.proofs.Steps.{grows, keeps, after_learned}
use Rattle.paxos_laws.proofs.Claims.{agrees_of, learned_of}
use Rattle.paxos_laws.proofs.Logs.{IsOf, low_or, at_first, value_at, values_alike, is_of, all_alike, beginning_of}

-- what the first lists have, one of the lists has
some_first : (ls : List (List Value)) (k : ℕ) → k < length (first_of ls)
    → (l : List Value) × (IsOf ls l) × (k < length l)
some_first [] k lt = absurd (omega arith)
some_first (m ∷ ls) k lt = elim (low_or k (length m)) [
  | inl low ↦ (m, inl refl, low)
  | inr high ↦ (let rest : List Value = drop (length m) (first_of ls) in
      let h = some_first ls k (omega (arith, length-append m rest, length-drop (length m) (first_of ls))) in
      (h.0, inr h.1, h.2))
]

of_five : (f : ℕ → List Value) (l : List Value) → IsOf (map f five) l → (i : ℕ) × (i < 5) × (f i ≡ l)
of_five f l (inl e) = (0, omega arith, e)
of_five f l (inr (inl e)) = (1, omega arith, e)
of_five f l (inr (inr (inl e))) = (2, omega arith, e)
of_five f l (inr (inr (inr (inl e)))) = (3, omega arith, e)
of_five f l (inr (inr (inr (inr (inl e))))) = (4, omega arith, e)
of_five f l (inr (inr (inr (inr (inr e))))) = absurd e

-- what a replica has stands in the log of all five
pub log_at : (w : View) → Inv w → (i k : ℕ) → i < 5 → k < length (values_of (w.disk i))
    → (k < length (world_log w)) × (get_or (world_log w) k [] ≡ get_or (values_of (w.disk i)) k [])
log_at w inv i k i5 lt =
    let f : ℕ → List Value = λ j. values_of (w.disk j) in
    at_first (map f five) (f i) k (all_alike f (values_alike w inv)) (is_of f i i5) lt

-- and what stands in the log, some replica has
pub who_has : (w : View) (k : ℕ) → k < length (world_log w)
    → (i : ℕ) × (i < 5) × (k < length (values_of (w.disk i)))
who_has w k lt =
    let f : ℕ → List Value = λ j. values_of (w.disk j) in
    let h = some_first (map f five) k lt in
    let g = of_five f h.0 h.1 in
    (g.0, g.1, rw g.2 h.2)

-- what a replica has learned stays
stays : (w u : View) → Inv w → Inv u → Grows w u → (i k : ℕ) → i < 5 → k < length (values_of (w.disk i))
    → (k < length (values_of (u.disk i))) × (get_or (values_of (u.disk i)) k [] ≡ get_or (values_of (w.disk i)) k [])
stays w u iw iu g i k i5 lt =
    let xs : List Cast = (w.disk i).state.log in
    let ys : List Cast = (u.disk i).state.log in
    let mx : k < length xs = rw length-map at lt in
    let more : reach (w.disk i).state ≤ reach (u.disk i).state = g.reach i in
    let my : k < length ys = omega arith in
    let x : Cast = get_or xs k no_vote in
    let y : Cast = get_or ys k no_vote in
    let hx : HasLearned w i k x.ballot x.value = (iw.disks i i5).logged k x (slice_get-get_or xs k no_vote mx) in
    let hy : HasLearned u i k y.ballot y.value = (iu.disks i i5).logged k y (slice_get-get_or ys k no_vote my) in
    let hu : HasLearned u i k x.ballot x.value = g.learned i k x.ballot x.value hx in
    let same : y.value ≡ x.value = agrees_of u iu k y.ballot x.ballot y.value x.value
    (learned_of u iu i k y.ballot y.value i5 hy) (learned_of u iu i k x.ballot x.value i5 hu) in
    let len : length (values_of (u.disk i)) ≡ length ys = length-map _ _ in
    (omega arith, value_at ys k ∙ same ∙ sym (value_at xs k))

log_stays : (w u : View) → Inv w → Inv u → Grows w u → (k : ℕ) → k < length (world_log w)
    → (k < length (world_log u)) × (get_or (world_log w) k [] ≡ get_or (world_log u) k [])
log_stays w u iw iu g k lt =
    let h = who_has w k lt in
    let s = stays w u iw iu g h.0 k h.1 h.2 in
    let a = log_at w iw h.0 k h.1 h.2 in
    let b = log_at u iu h.0 k h.1 s.0 in
    (b.0, a.1 ∙ sym s.1 ∙ sym b.1)

pub at_most : (a b : ℕ) → ((k : ℕ) → k < a → k < b) → a ≤ b
at_most zero b h = omega arith
at_most (suc a) b h = h a (omega arith)

pub log_grows : (w u : View) → Inv w → Inv u → Grows w u
    → world_log u ≡ world_log w ++ drop (length (world_log w)) (world_log u)
log_grows w u iw iu g =
    let n : ℕ = length (world_log w) in
    let long : n ≤ length (world_log u) = at_most n (length (world_log u)) (λ k lt. (log_stays w u iw iu g k lt).0) in
    let front : world_log w ≡ take n (world_log u) =
    ext_get_or [] (world_log w) (take n (world_log u)) (sym (length-take-le n (world_log u) long))
    (λ k lt. (log_stays w u iw iu g k lt).1 ∙ sym (get_or-take n (world_log u) k [] lt)) in
    sym (take-append-drop n (world_log u)) ∙ ap (λ (xs : List Value). xs ++ drop n (world_log u)) (sym front)

-- no replica's log is longer
within : (w : View) → Inv w → (i : ℕ) → i < 5 → length (values_of (w.disk i)) ≤ length (world_log w)
within w inv i i5 = at_most (length (values_of (w.disk i))) (length (world_log w)) (λ k lt. (log_at w inv i k i5 lt).0)

pub none_is_longer : (w : View) → Inv w → (i : ℕ) → i < 5 → reach (w.disk i).state ≤ length (world_log w)
none_is_longer w inv i i5 =
    let len : length (values_of (w.disk i)) ≡ reach (w.disk i).state = length-map _ _ in
    let le : length (values_of (w.disk i)) ≤ length (world_log w) = within w inv i i5 in
    omega arith

-- the longest has all of it
pub longest_has_all : (w : View) → Inv w → (i : ℕ) → i < 5
    → ((j : ℕ) → j < 5 → reach (w.disk j).state ≤ reach (w.disk i).state)
    → values_of (w.disk i) ≡ world_log w
longest_has_all w inv i i5 most =
    let long : length (world_log w) ≤ reach (w.disk i).state =
    at_most (length (world_log w)) (reach (w.disk i).state) (λ k lt. (let h = who_has w k lt in
    let le = most h.0 h.1 in
    let len : length (values_of (w.disk h.0)) ≡ reach (w.disk h.0).state = length-map _ _ in
    let at : k < length (values_of (w.disk h.0)) = h.2 in
    omega arith)) in
    beginning_of w inv i i5 ∙ take_all (reach (w.disk i).state) (world_log w) long

-- what stands at a slot, some replica learned there
pub log_was_learned : (w : View) → Inv w → (s : ℕ) (v : Value)
    → slice_get (world_log w) s ≡ Some v → WasLearned w s v
log_was_learned w inv s v at =
    let q = who_has w s (slice_get_within (world_log w) s v at) in
    let xs : List Cast = (w.disk q.0).state.log in
    let x : Cast = get_or xs s no_vote in
    let len : length (values_of (w.disk q.0)) ≡ length xs = length-map _ _ in
    let lt : s < length (values_of (w.disk q.0)) = q.2 in
    let low : s < length xs = omega arith in
    let is : v ≡ x.value = sym (get_or_from_slice_get (world_log w) s v [] at)
    ∙ (log_at w inv q.0 s q.1 q.2).1 ∙ value_at xs s in
    record {
      by = q.0;
      number = q.1;
      ballot = x.ballot;
      learned = subst (λ (y : Value). HasLearned w q.0 s x.ballot y) (sym is)
          ((inv.disks q.0 q.1).logged s x (slice_get-get_or xs s no_vote low));
    }

pub chosen_stands : (w : View) → Inv w → (s b : ℕ) (v : Value)
    → s < length (world_log w) → IsChosen w s b v → slice_get (world_log w) s ≡ Some v
chosen_stands w inv s b v lt chosen =
    let y : Value = get_or (world_log w) s [] in
    let at : slice_get (world_log w) s ≡ Some y = slice_get-get_or (world_log w) s [] lt in
    let k : WasLearned w s y = log_was_learned w inv s y at in
    at ∙ ap Some (agrees_of w inv s k.ballot b y v (learned_of w inv k.by s k.ballot y k.number k.learned) chosen)

pub learned_stands : (w : View) → Inv w → (i s b : ℕ) (v : Value)
    → i < 5 → HasLearned w i s b v → slice_get (world_log w) s ≡ Some v
learned_stands w inv i s b v i5 h =
    let low : s < reach (w.disk i).state = ((inv.disks i i5).learned s b v h).2 in
    let le : reach (w.disk i).state ≤ length (world_log w) = none_is_longer w inv i i5 in
    chosen_stands w inv s b v (omega arith) (learned_of w inv i s b v i5 h)

-- ---- one step

-- where no replica's values change, the log doesn't
same_log : (w u : View) → ((i : ℕ) → i < 5 → values_of (u.disk i) ≡ values_of (w.disk i)) → world_log u ≡ world_log w
same_log w u same =
    rw (
      same 0 (omega arith),
      same 1 (omega arith),
      same 2 (omega arith),
      same 3 (omega arith),
      same 4
          (omega arith),
    ) refl

unlearned : (w u : View) (r : ℕ) (o : Out)
    → Moves w u r o → values_of (grown (w.disk r) o.entry) ≡ values_of (w.disk r) → world_log u ≡ world_log w ++ []
unlearned w u r o m same = same_log w u (λ i i5. by_same i r
    (λ e. rw e (ap values_of m.disk_same ∙ same))
    (λ ne. ap values_of (m.disk_other i ne))) ∙ sym (append-nil (world_log w))

values_learned : (d : Disk) (c : ℕ) (v : Value)
    → reach d.state < most_slots → values_of (after d (entry.Learn c v)) ≡ values_of d ++ v ∷ []
values_learned d c v room = ap values_of (after_learned d c v room)
    ∙ map-append (λ (x : Cast). x.value) d.state.log (record { ballot = c; value = v } ∷ [])

single : (xs : List Value) (v : Value) → length xs ≡ 1 → get_or xs 0 [] ≡ v → xs ≡ v ∷ []
single [] v len at = absurd (omega arith)
single (x ∷ []) v len at = ap (λ (y : Value). y ∷ []) at
single (x ∷ y ∷ xs) v len at = absurd (omega arith)

-- one replica learned one value more
pub record LearnedOne (w u : View) (r : ℕ) (v : Value) : Type 0 where
  pub number : r < 5
  pub before : Inv w
  pub after : Inv u
  pub grows : Grows w u
  pub mine : values_of (u.disk r) ≡ values_of (w.disk r) ++ v ∷ []
  pub others : (i : ℕ) → i ≢ r → values_of (u.disk i) ≡ values_of (w.disk i)

-- a slot of the log was there before, or the replica has it now
slot_was : (w u : View) (r : ℕ) (v : Value) → LearnedOne w u r v → (k : ℕ) → k < length (world_log u)
    → (k < length (world_log w)) ⊎ (k < reach (w.disk r).state + 1)
slot_was w u r v h k lt =
    let q = who_has u k lt in
    by_same q.0 r
    (λ e. inr
    (let at : k < length (values_of (u.disk r)) = subst (λ (i : ℕ). k < length (values_of (u.disk i))) e q.2 in
    let len : length (values_of (w.disk r)) ≡ reach (w.disk r).state = length-map _ _ in
    let total : length (values_of (u.disk r)) ≡ length (values_of (w.disk r)) + 1 = ap length h.mine
    ∙ length-append _ _ in
    omega arith))
    (λ ne. inl (let at : k < length (values_of (u.disk q.0)) = q.2 in
    let len : length (values_of (u.disk q.0)) ≡ length (values_of (w.disk q.0)) = ap length (h.others q.0 ne) in
    let le = within w h.before q.0 q.1 in
    omega arith))

-- at the log's end
added : (w u : View) (r : ℕ) (v : Value) → LearnedOne w u r v
    → reach (w.disk r).state ≡ length (world_log w) → world_log u ≡ world_log w ++ v ∷ []
added w u r v h at_end =
    let n : ℕ = length (world_log w) in
    let rest : List Value = drop n (world_log u) in
    let is : world_log u ≡ world_log w ++ rest = log_grows w u h.before h.after h.grows in
    let room : length (values_of (w.disk r)) ≡ n = length-map _ _ ∙ at_end in
    let total : length (values_of (u.disk r)) ≡ length (values_of (w.disk r)) + 1 = ap length h.mine
    ∙ length-append _ _ in
    let new = log_at u h.after r n h.number (omega arith) in
    let there : n < length (world_log u) = new.0 in
    let most : length (world_log u) ≤ n + 1 = at_most (length (world_log u)) (n + 1) (λ k lt.
    elim (slot_was w u r v h k lt) [ inl old ↦ (omega arith) | inr now ↦ (omega arith) ]) in
    let len : length rest ≡ length (world_log u) - n = length-drop n (world_log u) in
    let value : get_or rest 0 [] ≡ v = get_or-drop n (world_log u) 0 []
    ∙ ap (λ (k : ℕ). get_or (world_log u) k []) (plain n) ∙ new.1
    ∙ ap (λ (xs : List Value). get_or xs n []) h.mine ∙ get_or_push (values_of (w.disk r)) v [] n room in
    is ∙ ap (λ (xs : List Value). world_log w ++ xs) (single rest v (omega arith) value)
  where
    plain : (a : ℕ) → a + 0 ≡ a
    plain a = omega arith

-- below it
known_before : (w u : View) (r : ℕ) (v : Value) → LearnedOne w u r v
    → reach (w.disk r).state < length (world_log w) → world_log u ≡ world_log w ++ []
known_before w u r v h below =
    let n : ℕ = length (world_log w) in
    let rest : List Value = drop n (world_log u) in
    let is : world_log u ≡ world_log w ++ rest = log_grows w u h.before h.after h.grows in
    let most : length (world_log u) ≤ n = at_most (length (world_log u)) n (λ k lt.
    elim (slot_was w u r v h k lt) [ inl old ↦ old | inr now ↦ (omega arith) ]) in
    let len : length rest ≡ length (world_log u) - n = length-drop n (world_log u) in
    is ∙ ap (λ (xs : List Value). world_log w ++ xs) (nil_from_length rest (omega arith))

learned_adds : (w u : View) (r c : ℕ) (v : Value)
    → LearnedOne w u r v → world_log u ≡ world_log w ++ value_added w r (Some (entry.Learn c v))
learned_adds w u r c v h =
    let le : reach (w.disk r).state ≤ length (world_log w) = none_is_longer w h.before r h.number in
    by_if (λ (xs : List Value). world_log u ≡ world_log w ++ xs) (reach (w.disk r).state == length (world_log w))
    (λ yes. added w u r v h (grind (arith, nat_tests)))
    (λ no_end. known_before w u r v h (grind (arith, nat_tests)))

-- A step adds what it learned at the log's end, and nothing else.
pub step_adds : (f : Option Value) (w u : View) (r : ℕ) (o : Out)
    → Moves w u r o → r < 5 → Inv w → Good f w u r o → world_log u ≡ world_log w ++ value_added w r o.entry
step_adds f w u r o m r5 iw good = by o.entry refl good.entry
  where
    by : (e : Option Entry) → o.entry ≡ e → EntryOk w r (w.disk r) e → world_log u ≡ world_log w ++ value_added w r e
    by None e ok = unlearned w u r o m (rw e refl)
    by (Some (entry.Boot version role index boot)) e ok = unlearned w u r o m (rw e refl)
    by (Some (entry.Promise c)) e ok = unlearned w u r o m (rw e refl)
    by (Some (entry.Vote c v)) e ok = unlearned w u r o m (rw e refl)
    by (Some (entry.Epoch epoch)) e ok = unlearned w u r o m (rw e refl)
    by (Some (entry.Learn c v)) e ok = learned_adds w u r c v (record {
      number = r5;
      before = iw;
      after = keeps f w u r o m r5 iw good;
      grows = grows w u r o m good.entry;
      mine = ap values_of (m.disk_same ∙ ap (grown (w.disk r)) e) ∙ values_learned (w.disk r) c v ok.room;
      others = λ i ne. ap values_of (m.disk_other i ne);
    })
