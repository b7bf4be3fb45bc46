-- What three promises tell: the key lemma.
use Rattle.std.proofs.Common.{◌≡◌, ℕ, ◌<◌, ◌≤◌, inl, inr, true, ◌&&◌, ◌==◌, nat_lt, Option, Some, refl, sym, ap, ◌∙◌, arith, length-set, max, None}
use Rattle.std.proofs.lemmas.Bool.Decides.{nat_tests}
use Rattle.paxos_spec.specs.declared.cast.Cast.{Cast}
use Rattle.paxos_spec.specs.Votes.{Value, value_of}
use Rattle.paxos_spec.specs.Five.{joined, how_many}
use Rattle.paxos_spec.specs.Leader.{Tally, tallied}
use Rattle.paxos_spec.specs.Agreement.{View, HasVoted, Choosable}
use Rattle.paxos_laws.specs.Facts.{Proposed, Pends, NoneYet, TallyOk, Inv, WasProposed, TellerOk, BestOk, PromiseOk}
use Rattle.paxos_laws.proofs.Quorums.{by_same, meet, by_if, three_flags, joined_or}
use Rattle.paxos_laws.proofs.Plain.{accept_of}

value_is : (c : Cast) → 0 < c.ballot → value_of c ≡ Some c.value
value_is c some =
    by_if (λ (o : Option Value). o ≡ Some c.value) (c.ballot == 0) (λ e. absurd (grind (arith, nat_tests))) (λ e. refl)

is_some : (c : Cast) (v : Value) → value_of c ≡ Some v → 0 < c.ballot
is_some c v e =
    by_if (λ (o : Option Value). o ≡ Some v → 0 < c.ballot) (c.ballot == 0) (λ _ f. absurd (cc))
    (λ not_zero f. grind (arith, nat_tests)) e

-- a vote that stands in a promise is of an Accept that was sent
pub proposed_of : (w : View) → Inv w → (i s b : ℕ) (v : Value) → i < 5 → HasVoted w i s b v → Proposed w b s v
proposed_of w inv i s b v i5 h = ((inv.disks i i5).votes s b v h).proposed

-- one more promise in the tally
pub tallied_ok : (w : View) (c : ℕ) (t : Tally) (from l : ℕ) (vote : Cast) → from < 5 → PromiseOk w from c l vote
    → TallyOk w c t → TallyOk w c (tallied t from l vote)
tallied_ok w c t from l vote from5 ok h = record {
  size = length-set t.tellers from true ∙ h.size;
  tellers = λ i f. elim (joined_or t.tellers from i f) [
    | inl e ↦
        rw e (record {
          number = from5;
          length = l;
          vote = vote;
          promise = ok;
          within = omega arith;
          at_most = λ is. new_most is;
        })
    | inr old ↦
        (let o = h.tellers i old in
        record {
          number = o.number;
          length = o.length;
          vote = o.vote;
          promise = o.promise;
          within = (let le = o.within in omega arith);
          at_most = λ is. old_most o.length o.vote.ballot o.within o.at_most is;
        })
  ];
  best = by_if
      (λ (b : Cast). 0 < b.ballot → BestOk w
      (record {
        tellers = joined t.tellers from;
        longest = max t.longest l;
        source = (tallied t from l vote).source;
        best = b;
      })) (nat_lt t.longest l)
      (λ more some.
      (let e : max t.longest l ≡ l = grind (arith, nat_tests) in
      record { by = from; number = from5; voted = rw e (ok.stands some) }))
      (λ not_more. by_if
      (λ (b : Cast). 0 < b.ballot → BestOk w
      (record {
        tellers = joined t.tellers from;
        longest = max t.longest l;
        source = (tallied t from l vote).source;
        best = b;
      }))
      ((l == t.longest) && nat_lt t.best.ballot vote.ballot)
      (λ same some.
      (let e : max t.longest l ≡ l = grind (arith, nat_tests) in
      record { by = from; number = from5; voted = rw e (ok.stands some) }))
      (λ _ some.
      (let e : max t.longest l ≡ t.longest = grind (arith, nat_tests) in let o = h.best some in
      record { by = o.by; number = o.number; voted = rw e o.voted })));
  bound = by_if (λ (b : Cast). b.ballot ≤ c) (nat_lt t.longest l) (λ _. ok.bound)
      (λ _. by_if (λ (b : Cast). b.ballot ≤ c) ((l == t.longest) && nat_lt t.best.ballot vote.ballot) (λ _. ok.bound)
      (λ _. h.bound));
}
  where
    new_most : l ≡ max t.longest l → vote.ballot ≤ (tallied t from l vote).best.ballot
    new_most is = by_if (λ (b : Cast). vote.ballot ≤ b.ballot) (nat_lt t.longest l) (λ _. omega arith)
        (λ not_more. by_if (λ (b : Cast). vote.ballot ≤ b.ballot)
        ((l == t.longest) && nat_lt t.best.ballot vote.ballot) (λ _. omega arith) (λ f. grind (arith, nat_tests)))

    old_most : (n a : ℕ) → n ≤ t.longest → (n ≡ t.longest → a ≤ t.best.ballot) → n ≡ max t.longest l
        → a ≤ (tallied t from l vote).best.ballot
    old_most n a within most is =
        by_if (λ (b : Cast). a ≤ b.ballot) (nat_lt t.longest l) (λ more. absurd (grind (arith, nat_tests)))
        (λ not_more.
        (let old : a ≤ t.best.ballot = most (omega arith) in
        by_if (λ (b : Cast). a ≤ b.ballot) ((l == t.longest) && nat_lt t.best.ballot vote.ballot)
        (λ f. grind (arith, nat_tests)) (λ _. old)))

-- a vote at the longest length, and the best of those told
at_best : (w : View) → Inv w → (c s b : ℕ) (v : Value) (t : Tally) → TallyOk w c t → NoneYet w c → t.longest ≡ s
    → Choosable w s b v → Proposed w b s v → b ≤ t.best.ballot → value_of t.best ≡ Some v
at_best w inv c s b v t ok none_yet ls can p le =
    let some : 0 < t.best.ballot = (let pos : 0 < b = (accept_of w inv b s v p).positive in omega arith) in
    let o : BestOk w t = ok.best some in
    let q : Proposed w t.best.ballot t.longest t.best.value = proposed_of w inv o.by t.longest _ _ o.number o.voted in
    let below : t.best.ballot ≤ c = ok.bound in
    let value : t.best.value ≡ v = by_same b t.best.ballot
    (λ e. sym (inv.unique t.best.ballot t.longest v t.best.value (rw (← e) (rw ls p)) q))
    (λ ne. sym ((accept_of w inv t.best.ballot t.longest t.best.value q).safe b v (omega arith) (rw ls can))) in
    value_is t.best some ∙ ap Some value

-- who voted at the length n or beyond, below the ballot, told the longest length, and n is that
told : (w : View) → Inv w → (c n s b : ℕ) (v : Value) (t : Tally) → TallyOk w c t → 3 ≤ how_many t.tellers
    → t.longest ≤ n → b < c → n ≤ s → Choosable w s b v
    → (s ≡ t.longest) × (b ≤ t.best.ballot) × Proposed w b s v
told w inv c n s b v t ok three most lt le can =
    meet (three_flags t.tellers ok.size three) can.by_three
    (λ i i5 f p. (let o : TellerOk w c t i = ok.tellers i f in let within = o.within in elim p [
      | inr low ↦ absurd (let k = o.promise.kept in omega arith)
      | inl voted ↦ elim (o.promise.before s b v voted lt) [
        | inl below ↦ absurd (omega arith)
        | inr here ↦
            (let same : s ≡ o.length = here.0 in let up = here.1 in let all = o.at_most (omega arith) in
            (omega arith, omega arith, proposed_of w inv i s b v i5 voted))
      ]
    ]))

pub told_pends : (w : View) → Inv w → (c : ℕ) (t : Tally) → TallyOk w c t → 3 ≤ how_many t.tellers → NoneYet w c
    → Pends w c t.longest (value_of t.best)
told_pends w inv c t ok three none_yet s b v lt le can =
    let r : (s ≡ t.longest) × (b ≤ t.best.ballot) × Proposed w b s v =
    told w inv c t.longest s b v t ok three (omega arith) lt le can in
    (r.0, at_best w inv c s b v t ok none_yet (sym r.0) can r.2 r.1)

pub told_seals : (w : View) → Inv w → (c n : ℕ) (t : Tally) → TallyOk w c t → 3 ≤ how_many t.tellers → t.longest < n
    → Pends w c n None
told_seals w inv c n t ok three more s b v lt le can =
    absurd (let r : (s ≡ t.longest) × (b ≤ t.best.ballot) × Proposed w b s v = told w inv c n s b v t ok three
    (omega arith) lt le can in omega arith)

-- what pends was proposed before
pub told_source : (w : View) → Inv w → (c : ℕ) (t : Tally) → TallyOk w c t → WasProposed w t.longest (value_of t.best)
told_source w inv c t ok v e =
    let some : 0 < t.best.ballot = is_some t.best v e in
    let o : BestOk w t = ok.best some in
    let is : t.best.value ≡ v = (let f : Some t.best.value ≡ Some v = sym (value_is t.best some) ∙ e in cc) in
    (t.best.ballot, rw (← is) (proposed_of w inv o.by t.longest _ _ o.number o.voted))
