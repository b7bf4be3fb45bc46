-- What a replica does with a Chosen and a Fetch is in order.
use Rattle.std.proofs.Common.{◌≡◌, ℕ, ◌+◌, ◌<◌, ◌≤◌, inl, max, Bool, true, false, ◌&&◌, ◌||◌, ◌==◌, nat_lt, List, [], ◌∷◌, Option, Some, None, slice_get, refl, sym, ◌∙◌, arith, subst, length-append, nat_le}
use Rattle.std.proofs.lemmas.Bool.Decides.{nat_tests}
use Rattle.wire_core.specs.declared.entry.Entry.{Entry}
use Rattle.wire_core.specs.declared.entry.Entry.TheVariants as entry
use Rattle.paxos_spec.specs.declared.mail.Body.TheVariants.{Chosen, Fetch}
use Rattle.paxos_spec.specs.declared.mail.Mail.{Mail}
use Rattle.paxos_spec.specs.declared.stage.Stage.{Stage}
use Rattle.paxos_spec.specs.declared.stage.Stage.TheVariants.{Follower, Candidate, Catching, Inheriting, Primary}
use Rattle.paxos_spec.specs.declared.steps.ChosenStep.{ChosenStep}
use Rattle.paxos_spec.specs.declared.cast.Cast.{Cast}
use Rattle.paxos_spec.specs.Votes.{Value}
use Rattle.paxos_spec.specs.Acceptor.{reach, most_slots}
use Rattle.paxos_spec.specs.Leader.{LeaderState, is_catching, is_leading, stepped_down, arrive}
use Rattle.paxos_spec.specs.Replica.{Memory, with_leader, with_goal, fetch_more, onwards, once_learned, learned, accept_out, on_chosen, fetched}
use Rattle.paxos_spec.specs.Agreement.{View, Disk, after, grown}
use Rattle.paxos_laws.specs.Facts.{LearnOk, CatchingOk, StageOk}
use Rattle.paxos_laws.specs.Steps.{EntryOk, Learns, GoodOut, Here}
use Rattle.paxos_laws.proofs.Quorums.{by_if}
use Rattle.paxos_laws.proofs.Growth.{pends_on, source_on, tally_on}
use Rattle.paxos_laws.proofs.Steps.{after_learned}
use Rattle.paxos_laws.proofs.Plain.{and_true, After, good_plain, good_silent, good_same, good_quiet}
use Rattle.paxos_laws.proofs.Promising.{stage_here, catching_at, arrive_good}

-- one that doesn't lead and whose promise stays at its ballot goes on
pub goes_on : (w u : View) (r c : ℕ) (v : Value) (l : LeaderState) (t : Stage) → reach (w.disk r).state < most_slots
    → After w u r (Some (entry.Learn c v)) → is_leading t ≡ false → max
    (w.disk r).state.promise c ≤ l.ballot → StageOk w r (w.disk r) l t
    → StageOk u r (after (w.disk r) (entry.Learn c v)) l t
goes_on w u r c v l Follower room a e le h = tt
goes_on w u r c v l Candidate room a e le h = rw (after_learned (w.disk r) c v room) record {
  owns = record
      { promise = (let is = h.owns.promise in omega arith); owner = h.owns.owner; positive = h.owns.positive };
  none_yet = λ s x p. h.none_yet s x (a.same l.ballot s x p);
  tally = tally_on a.grows l.ballot l.tally h.tally;
}
goes_on w u r c v l Catching room a e le h = rw (after_learned (w.disk r) c v room) record {
  owns = record
      { promise = (let is = h.owns.promise in omega arith); owner = h.owns.owner; positive = h.owns.positive };
  none_yet = λ s x p. h.none_yet s x (a.same l.ballot s x p);
  pends = pends_on a.grows l.ballot l.sought l.pending h.pends;
  source = source_on a.grows l.sought l.pending h.source;
}
goes_on w u r c v l Inheriting room a e le h = absurd (cc)
goes_on w u r c v l Primary room a e le h = absurd (cc)

pub or_false : (a b : Bool) → (a || b) ≡ false → (a ≡ false) × (b ≡ false)
or_false false false e = (refl, refl)
or_false false true e = absurd (cc)
or_false true b e = absurd (cc)

-- what is fetched next changes nothing else
pub fetches : (w : View) (r at : ℕ) (e : Entry) (l : LeaderState) (m n : Memory) → Here w r
    → EntryOk w r (w.disk r) (Some e)
    → ((u : View) → After w u r (Some e) → StageOk u r (grown (w.disk r) (Some e)) l l.stage) → GoodOut None w r
    (once_learned e m (l, fetch_more r at n))
fetches w r at e l m n h ok f =
    by_if (λ (xs : List Mail). GoodOut None w r (record { entry = Some e; memory = with_leader m l; sends = xs }))
    (nat_lt at n.goal)
    (λ _. good_plain w r (Some e) (with_leader m l) (Fetch at) (n.guide ∷ []) h.number h.inv tt ok (λ u a. (tt, f u a)))
    (λ _. good_silent w r (Some e) (with_leader m l) h.number h.inv ok f)

-- its log is longer by one
pub reach_learned : (d : Disk) (c : ℕ) (v : Value) → reach d.state < most_slots
    → reach d.state + 1 ≡ reach (after d (entry.Learn c v)).state
reach_learned d c v room =
    subst (λ (x : Disk). reach d.state + 1 ≡ reach x.state) (sym (after_learned d c v room))
    (sym (length-append d.state.log _))

pub learned_good : (w : View) (r c : ℕ) (v : Value) → Here w r → Learns w r (w.disk r) c v
    → GoodOut None w r
    (once_learned (entry.Learn c v) (w.memory r)
    (onwards r (max (w.disk r).state.promise c) (reach (w.disk r).state + 1) (w.memory r)))
learned_good w r c v h chosen =
    let d : Disk = w.disk r in let m : Memory = w.memory r in let l : LeaderState = m.leader in
    let stage : StageOk w r d l l.stage = stage_here w r h in
    by_if (λ (x : LeaderState × List Mail). GoodOut None w r (once_learned (entry.Learn c v) m x))
    (is_leading l.stage || nat_lt l.ballot (max d.state.promise c))
    (λ _. fetches w r (reach d.state + 1) (entry.Learn c v) (stepped_down l) m m h chosen (λ u a. tt))
    (λ stays.
    let parts : (is_leading l.stage ≡ false) × (nat_lt l.ballot (max d.state.promise c) ≡ false) = or_false _ _ stays in
    let le : max d.state.promise c ≤ l.ballot =
    (let e : nat_lt l.ballot (max d.state.promise c) ≡ false = parts.1 in grind (arith, nat_tests)) in
    by_if (λ (x : LeaderState × List Mail). GoodOut None w r (once_learned (entry.Learn c v) m x))
    (is_catching l.stage && ((reach d.state + 1) == l.sought))
    (λ there.
    let both : (is_catching l.stage ≡ true) × (((reach d.state + 1) == l.sought) ≡ true) = and_true _ _ there in
    let cat : CatchingOk w r d l = subst (StageOk w r d l) (catching_at l.stage both.0) stage in
    let at : l.sought ≡ reach d.state + 1 =
    (let e : ((reach d.state + 1) == l.sought) ≡ true = both.1 in grind (arith, nat_tests)) in
    subst (λ (n : ℕ). GoodOut None w r
    (record {
      entry = Some (entry.Learn c v);
      memory = with_leader m (arrive l l.sought l.pending).0;
      sends = accept_out r n (arrive l l.sought l.pending).0;
    })) at
    (arrive_good w r (Some (entry.Learn c v)) m l.sought l.pending h chosen
    (rw (after_learned d c v chosen.room) record
    { promise = (let is = cat.owns.promise in omega arith); owner = cat.owns.owner; positive = cat.owns.positive })
    cat.none_yet (at ∙ reach_learned d c v chosen.room) cat.pends cat.source))
    (λ _. fetches w r (reach d.state + 1) (entry.Learn c v) l m m h chosen
    (λ u a. goes_on w u r c v l l.stage chosen.room a parts.0 le stage)))

pub learned_at : (w : View) (r c s : ℕ) (v : Value) → Here w r → reach (w.disk r).state < most_slots
    → s ≡ reach (w.disk r).state → LearnOk w s c v
    → GoodOut None w r
    (once_learned (entry.Learn c v) (w.memory r) (onwards r (max (w.disk r).state.promise c) (s + 1) (w.memory r)))
learned_at w r c s v h room here chosen =
    rw here (learned_good w r c v h
    (record { chosen = rw here at chosen.chosen; owner = inl (rw here at chosen.owner); room = room }))

pub chosen_good : (w : View) (r from c s : ℕ) (v : Value) → Here w r → LearnOk w s c v
    → GoodOut None w r (on_chosen r (w.disk r).state (w.memory r) from s c v)
unfolding on_chosen
chosen_good w r from c s v h chosen =
    let d : Disk = w.disk r in let m : Memory = w.memory r in
    by_if (λ (x : ChosenStep). GoodOut None w r (learned r d.state m from s c v x))
    (nat_lt s (reach d.state) || nat_le most_slots (reach d.state))
    (λ _. good_quiet w r m h.number h.inv (stage_here w r h))
    (λ not_low. by_if (λ (x : ChosenStep). GoodOut None w r (learned r d.state m from s c v x))
    (nat_lt (reach d.state) s)
    (λ _. good_same w r (with_goal m s from) (Fetch (reach d.state)) (from ∷ []) h.number h.inv tt tt
    (stage_here w r h))
    (λ not_high.
    let here : s ≡ reach d.state = grind (arith, nat_tests) in
    learned_at w r c s v h (grind (arith, nat_tests)) here chosen))

pub fetched_good : (w : View) (r from s : ℕ) (o : Option Cast) → Here w r → slice_get (w.disk r).state.log s ≡ o
    → GoodOut None w r (fetched r (w.memory r) from s o)
fetched_good w r from s None h e = good_quiet w r (w.memory r) h.number h.inv (stage_here w r h)
fetched_good w r from s (Some x) h e =
    good_same w r (w.memory r) (Chosen s x.ballot x.value) (from ∷ []) h.number h.inv tt
    ((h.inv.disks r h.number).learned _ _ _ ((h.inv.disks r h.number).logged s x e)).0 (stage_here w r h)
