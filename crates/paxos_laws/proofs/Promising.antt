-- What a replica does with a Prepare and a Promise is in order.
use Rattle.std.proofs.Common.{◌≡◌, ℕ, ◌<◌, ◌≤◌, ◌⊎◌, inl, inr, Bool, true, false, not, ◌&&◌, ◌==◌, nat_lt, [], ◌∷◌, Option, Some, None, refl, sym, ap, ◌∙◌, arith, subst, zero, suc}
use Rattle.std.proofs.lemmas.Bool.Decides.{nat_tests}
use Rattle.wire_core.specs.declared.entry.Entry.{Entry}
use Rattle.wire_core.specs.declared.entry.Entry.TheVariants as entry
use Rattle.paxos_spec.specs.declared.mail.Body.TheVariants.{Accept, Refuse, Fetch}
use Rattle.paxos_spec.specs.declared.stage.Stage.{Stage}
use Rattle.paxos_spec.specs.declared.stage.Stage.TheVariants.{Follower, Candidate, Catching, Inheriting, Primary}
use Rattle.paxos_spec.specs.declared.steps.PrepareStep.{PrepareStep}
use Rattle.paxos_spec.specs.declared.steps.LeadStep.{LeadStep}
use Rattle.paxos_spec.specs.declared.cast.Cast.{Cast}
use Rattle.paxos_spec.specs.declared.cast.Proposal.{Proposal}
use Rattle.paxos_spec.specs.Votes.{Value, no_vote, value_of, cast}
use Rattle.paxos_spec.specs.Five.{five, nobody, has, joined, how_many}
use Rattle.paxos_spec.specs.Acceptor.{reach}
use Rattle.paxos_spec.specs.Leader.{LeaderState, Tally, no_tally, tallied, is_candidate, is_catching, is_primary, is_idle, proposing, primary, arrive, third_promise, with_tally}
use Rattle.paxos_spec.specs.Replica.{Memory, with_leader, with_goal, down, promise_of, prepared, on_prepare, led_by, on_promise, accept_out}
use Rattle.paxos_spec.specs.Agreement.{View, Disk, after, grown}
use Rattle.paxos_laws.specs.Facts.{Pends, PromiseOk, DiskOk, VoteOk, Owns, NoneYet, TallyOk, CandidateOk, StageOk, WasProposed}
use Rattle.paxos_laws.specs.Steps.{EntryOk, GoodOut, Here}
use Rattle.paxos_laws.proofs.Quorums.{by_if}
use Rattle.paxos_laws.proofs.Growth.{pends_on, choosable_back, source_on}
use Rattle.paxos_laws.proofs.Plain.{and_true, good_one, good_plain, good_silent, good_same, good_quiet}
use Rattle.paxos_laws.proofs.Tells.{told_pends, told_source, told_seals, tallied_ok}

pub stage_here : (w : View) (r : ℕ) → Here w r → StageOk w r (w.disk r) (w.memory r).leader (w.memory r).leader.stage
stage_here w r h = h.inv.mems r h.number

-- the promise that a replica sends says what its disk does
pub promise_from : (u : View) (r c : ℕ) (d : Disk) → u.disk r ≡ d → DiskOk u d → d.state.promise ≡ c
    → PromiseOk u r c (reach d.state) d.state.vote
promise_from u r c d e ok is = record {
  kept = rw e (omega arith);
  before = λ s b v voted lt. (let o : VoteOk u d s b v = ok.votes s b v (rw e at voted) in
      elim (by_lt s (reach d.state) o.slot) [ inl below ↦ inl below | inr same ↦ inr (same, o.last same) ]);
  stands = λ some. rw e (ok.standing some);
  bound = elim (zero_or d.state.vote.ballot) [
    | inl none ↦ omega arith
    | inr some ↦
        (let le : d.state.vote.ballot ≤ d.state.promise = (ok.votes _ _ _ (ok.standing some)).ballot in omega arith)
  ];
}
  where
    by_lt : (a b : ℕ) → a ≤ b → (a < b) ⊎ (a ≡ b)
    by_lt a b le = grind arith

    zero_or : (a : ℕ) → (a ≡ 0) ⊎ (0 < a)
    zero_or a = grind arith

pub no_vote_told : (w : View) (i c l : ℕ) (x : Cast) → PromiseOk w i c l x → x.ballot ≡ 0 → PromiseOk w i c l no_vote
no_vote_told w i c l x h none = record {
  kept = h.kept;
  before =
      λ s b v voted lt. elim (h.before s b v voted lt)
      [ inl below ↦ inl below | inr at ↦ inr (at.0, (let le = at.1 in omega arith)) ];
  stands = λ some. absurd (omega arith);
  bound = omega arith;
}

-- it says it by a ballot and a value
pub promise_told : (w : View) (i c l : ℕ) (x : Cast)
    → PromiseOk w i c l x → PromiseOk w i c l (cast x.ballot (value_of x))
promise_told w i c l x h = by_if (λ (o : Option Value). PromiseOk w i c l (cast x.ballot o)) (x.ballot == 0)
    (λ none. no_vote_told w i c l x h (grind (arith, nat_tests)))
    (λ some. by_if (λ (y : Cast). PromiseOk w i c l y) (x.ballot == 0)
    (λ none. no_vote_told w i c l x h (grind (arith, nat_tests)))
    (λ _. h))

pub prepare_good : (w : View) (r from c : ℕ) → Here w r
    → GoodOut None w r (on_prepare r (w.disk r).state (w.memory r) from c)
unfolding on_prepare
prepare_good w r from c h =
    let d : Disk = w.disk r in let m : Memory = w.memory r in
    by_if (λ (p : PrepareStep). GoodOut None w r (prepared r d.state m from c p)) (nat_lt c d.state.promise)
    (λ _. good_same w r m (Refuse c d.state.promise) (from ∷ []) h.number h.inv tt tt (stage_here w r h))
    (λ high. by_if (λ (p : PrepareStep). GoodOut None w r (prepared r d.state m from c p)) (c == d.state.promise)
    (λ same. good_same w r m (promise_of d.state c) (from ∷ []) h.number h.inv tt
    (promise_told w r c (reach d.state) d.state.vote
    (promise_from w r c d refl (h.inv.disks r h.number) (grind (arith, nat_tests)))) (stage_here w r h))
    (λ other. good_plain w r (Some (entry.Promise c)) (down m) (promise_of d.state c) (from ∷ []) h.number h.inv tt tt
    (λ u a. (
      promise_told u r c (reach d.state) d.state.vote
          (promise_from u r c (after d (entry.Promise c)) a.disk_is a.disk_ok (grind (arith, nat_tests))),
      tt,
    ))))

pub candidate_at : (t : Stage) → is_candidate t ≡ true → t ≡ Candidate
candidate_at Candidate e = refl
candidate_at Follower e = absurd (cc)
candidate_at Catching e = absurd (cc)
candidate_at Inheriting e = absurd (cc)
candidate_at Primary e = absurd (cc)

pub catching_at : (t : Stage) → is_catching t ≡ true → t ≡ Catching
catching_at Catching e = refl
catching_at Follower e = absurd (cc)
catching_at Candidate e = absurd (cc)
catching_at Inheriting e = absurd (cc)
catching_at Primary e = absurd (cc)

pub primary_at : (t : Stage) → is_primary t ≡ true → t ≡ Primary
primary_at Primary e = refl
primary_at Follower e = absurd (cc)
primary_at Candidate e = absurd (cc)
primary_at Catching e = absurd (cc)
primary_at Inheriting e = absurd (cc)

pub idle_at : (o : Option Proposal) → is_idle o ≡ true → o ≡ None
idle_at None e = refl
idle_at (Some p) e = absurd (cc)

pub nobody_set : {G : Type 0} → (i : ℕ) → has nobody i ≡ true → G
nobody_set zero f = absurd (cc)
nobody_set (suc zero) f = absurd (cc)
nobody_set (suc (suc zero)) f = absurd (cc)
nobody_set (suc (suc (suc zero))) f = absurd (cc)
nobody_set (suc (suc (suc (suc zero)))) f = absurd (cc)
nobody_set (suc (suc (suc (suc (suc i))))) f = absurd (cc)

pub no_tally_ok : (w : View) (c : ℕ) → TallyOk w c no_tally
no_tally_ok w c =
    record { size = refl; tellers = λ i f. nobody_set i f; best = λ some. absurd (omega arith); bound = omega arith }

pub slot_is : (x p : Proposal) → Some x ≡ Some p → x.slot ≡ p.slot
slot_is x p e = (let same : x ≡ p = cc in ap (λ (q : Proposal). q.slot) same)

-- The arrival, at a disk that owns its ballot and has the length from which the value pends.
pub arrive_good : (w : View) (r : ℕ) (e : Option Entry) (m : Memory) (at : ℕ) (o : Option Value) → Here w r
    → EntryOk w r (w.disk r) e
    → Owns r (grown (w.disk r) e) m.leader → NoneYet w m.leader.ballot → at ≡ reach
    (grown (w.disk r) e).state → Pends w m.leader.ballot at o → WasProposed w at o
    → GoodOut None w r
    (record {
      entry = e;
      memory = with_leader m (arrive m.leader at o).0;
      sends = accept_out r at (arrive m.leader at o).0;
    })
arrive_good w r e m at None h ok owns none_yet len pends source =
    good_silent w r e (with_leader m (primary m.leader)) h.number h.inv ok (λ u a. record {
      owns = record { promise = owns.promise; owner = owns.owner; positive = owns.positive };
      pends = rw len at (pends_on a.grows m.leader.ballot at None pends);
      source = λ v f. absurd (cc);
      only = λ s v p. absurd (none_yet s v (a.same m.leader.ballot s v p));
      place = λ p f. absurd (cc);
      size = refl;
      counted = λ i f. nobody_set i f;
    })
arrive_good w r e m at (Some v) h ok owns none_yet len pends source =
    good_one None w r e (with_leader m (proposing Inheriting m.leader at v))
    (Accept m.leader.ballot at v) five h.number h.inv ok
    (λ b s x e. inr (let is : at ≡ s = cc in let val : v ≡ x = cc in rw (← is, ← val) (source v refl)))
    (λ u n. record {
      body_ok = record {
        safe = λ a x lt can.
            (let p : (at ≡ at) × (Some v ≡ Some x) = pends at a x lt (omega arith) (choosable_back n.grows can) in
            let q : Some v ≡ Some x = p.1 in cc);
        owner = owns.owner;
        kept = rw n.disk_is (let is = owns.promise in omega arith);
        positive = owns.positive;
      };
      one = λ b s x y e p. elim (n.new b s y p) [
        | inl old ↦ absurd (none_yet s y (let is : m.leader.ballot ≡ b = cc in rw is old))
        | inr new ↦ cc
      ];
      stage = record {
        owns = record { promise = owns.promise; owner = owns.owner; positive = owns.positive };
        pends = rw len at (pends_on n.grows m.leader.ballot at (Some v) pends);
        source = rw len at (source_on n.grows at (Some v) source);
        only = λ s x p. elim (n.new m.leader.ballot s x p) [
          | inl old ↦ absurd (none_yet s x old)
          | inr new ↦ inr ((let is : at ≡ s = cc in sym is ∙ len), cc)
        ];
        place = λ p f. sym (slot_is _ p f) ∙ len;
        size = refl;
        counted = λ i f. nobody_set i f;
      };
    })

-- the same, after a promise
pub arrived_good : (w : View) (r : ℕ) (m : Memory) (at : ℕ) (o : Option Value) → Here w r
    → Owns r (w.disk r) m.leader → NoneYet w m.leader.ballot → at ≡ reach
    (w.disk r).state → Pends w m.leader.ballot at o → WasProposed w at o → GoodOut None w r
    (led_by r at m (arrive m.leader at o))
arrived_good w r m at None h owns none_yet len pends source =
    arrive_good w r None m at None h tt owns none_yet len pends source
arrived_good w r m at (Some v) h owns none_yet len pends source =
    arrive_good w r None m at (Some v) h tt owns none_yet len pends source

pub third_good : (w : View) (r : ℕ) (t : Tally) → Here w r → Owns r (w.disk r) (w.memory r).leader
    → NoneYet w (w.memory r).leader.ballot
    → TallyOk w (w.memory r).leader.ballot t → 3 ≤ how_many t.tellers → GoodOut None w r
    (led_by r (reach (w.disk r).state) (w.memory r) (third_promise (w.memory r).leader t (reach (w.disk r).state)))
third_good w r t h owns none_yet all three =
    let m : Memory = w.memory r in let l : LeaderState = m.leader in let d : Disk = w.disk r in
    by_if (λ (x : LeaderState × LeadStep). GoodOut None w r (led_by r (reach d.state) m x))
    (nat_lt (reach d.state) t.longest)
    (λ short. good_same w r
    (with_goal
    (with_leader m
    (record {
      stage = Catching;
      ballot = l.ballot;
      tally = no_tally;
      sought = t.longest;
      pending = value_of t.best;
      out = None;
      counted = nobody;
    })) t.longest t.source)
    (Fetch (reach d.state)) (t.source ∷ []) h.number h.inv tt tt
    (record {
      owns = record { promise = owns.promise; owner = owns.owner; positive = owns.positive };
      none_yet = none_yet;
      pends = told_pends w h.inv l.ballot t all three none_yet;
      source = told_source w h.inv l.ballot t all;
    }))
    (λ long. by_if (λ (o : Option Value). GoodOut None w r (led_by r (reach d.state) m (arrive l (reach d.state) o)))
    (reach d.state == t.longest)
    (λ same.
    (let is : reach d.state ≡ t.longest = grind (arith, nat_tests) in
    arrived_good w r m (reach d.state) (value_of t.best) h owns none_yet refl
    (rw is (told_pends w h.inv l.ballot t all three none_yet)) (rw is (told_source w h.inv l.ballot t all))))
    (λ other. arrived_good w r m (reach d.state) None h owns none_yet refl
    (told_seals w h.inv l.ballot (reach d.state) t all three (grind (arith, nat_tests))) (λ v e. absurd (cc))))

pub not_false : (b : Bool) → not b ≡ true → b ≡ false
not_false true e = absurd (cc)
not_false false e = refl

pub promise_good : (w : View) (r from c l : ℕ) (vote : Cast) → Here w r → from < 5 → PromiseOk w from c l vote
    → GoodOut None w r (on_promise r (w.disk r).state (w.memory r) from c l vote)
unfolding on_promise
promise_good w r from c len vote h from5 ok =
    let d : Disk = w.disk r in let m : Memory = w.memory r in let l : LeaderState = m.leader in
    by_if (λ (x : LeaderState × LeadStep). GoodOut None w r (led_by r (reach d.state) m x))
    (is_candidate l.stage && (l.ballot == c) && not (has l.tally.tellers from))
    (λ yes.
    let parts : ((is_candidate l.stage && (l.ballot == c)) ≡ true) × (not (has l.tally.tellers from) ≡ true) =
    and_true _ _ yes in
    let stage : l.stage ≡ Candidate = candidate_at l.stage (and_true _ _ parts.0).0 in
    let same : l.ballot ≡ c = (let e : (l.ballot == c) ≡ true = (and_true _ _ parts.0).1 in grind (arith, nat_tests)) in
    let can : CandidateOk w r d l = subst (StageOk w r d l) stage (stage_here w r h) in
    let all : TallyOk w l.ballot (tallied l.tally from len vote) =
    tallied_ok w l.ballot l.tally from len vote from5 (rw same ok) can.tally in
    by_if (λ (x : LeaderState × LeadStep). GoodOut None w r (led_by r (reach d.state) m x))
    (nat_lt (how_many (joined l.tally.tellers from)) 3)
    (λ few. good_quiet w r (with_leader m (with_tally l (tallied l.tally from len vote))) h.number h.inv
    (subst (StageOk w r d (with_tally l (tallied l.tally from len vote))) (sym stage)
    (record {
      owns = record { promise = can.owns.promise; owner = can.owns.owner; positive = can.owns.positive };
      none_yet = can.none_yet;
      tally = all;
    })))
    (λ enough. third_good w r (tallied l.tally from len vote) h can.owns can.none_yet all (grind (arith, nat_tests))))
    (λ _. good_quiet w r (with_leader m l) h.number h.inv (stage_here w r h))
