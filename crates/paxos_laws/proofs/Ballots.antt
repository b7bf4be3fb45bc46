-- Whoever doesn't follow has a ballot of its own, which is its promise.
use Rattle.std.proofs.Common.{◌≡◌, ℕ, ◌<◌, ◌≤◌, false, Some, slice_get, arith, get_or}
use Rattle.std.proofs.lemmas.Option.{slice_get-get_or}
use Rattle.paxos_spec.specs.declared.stage.Stage.{Stage}
use Rattle.paxos_spec.specs.declared.stage.Stage.TheVariants.{Follower, Candidate, Catching, Inheriting, Primary}
use Rattle.paxos_spec.specs.declared.cast.Cast.{Cast}
use Rattle.paxos_spec.specs.Votes.{no_vote}
use Rattle.paxos_spec.specs.Acceptor.{reach}
use Rattle.paxos_spec.specs.Leader.{LeaderState, is_follower}
use Rattle.paxos_spec.specs.Agreement.{View, Disk}
use Rattle.paxos_laws.specs.Facts.{StageOk, Owns, Inv}
use Rattle.paxos_laws.specs.Steps.{Grows}
use Rattle.paxos_laws.specs.Leading.{PromiseBounds, Covered}
use Rattle.paxos_laws.proofs.Growth.{chosen_on}
use Rattle.paxos_laws.proofs.Claims.{learned_of}

owns_at : (w : View) (r : ℕ) (d : Disk) (l : LeaderState) (t : Stage)
    → StageOk w r d l t → is_follower t ≡ false → Owns r d l
owns_at w r d l Follower h leads = absurd (cc)
owns_at w r d l Candidate h leads = h.owns
owns_at w r d l Catching h leads = h.owns
owns_at w r d l Inheriting h leads = h.owns
owns_at w r d l Primary h leads = h.owns

pub leader_owns : (w : View) → Inv w → (r : ℕ) → r < 5
    → is_follower (w.memory r).leader.stage ≡ false → Owns r (w.disk r) (w.memory r).leader
leader_owns w inv r r5 leads = owns_at w r (w.disk r) (w.memory r).leader _ (inv.mems r r5) leads

pub promise_bounds : (w : View) → Inv w → (i : ℕ) → i < 5 → PromiseBounds w i
promise_bounds w inv i i5 = record {
  voted = λ s b v h. ((inv.disks i i5).votes s b v h).ballot;
  learned = λ s b v h. ((inv.disks i i5).learned s b v h).1;
  logged = λ s x at. ((inv.disks i i5).learned s x.ballot x.value ((inv.disks i i5).logged s x at)).1;
}

pub leader_covered : (w : View) → Inv w → (r : ℕ) → r < 5
    → is_follower (w.memory r).leader.stage ≡ false
    → Covered w (w.memory r).leader.ballot (reach (w.disk r).state)
leader_covered w inv r r5 leads s low =
    let x : Cast = get_or (w.disk r).state.log s no_vote in
    let at : slice_get (w.disk r).state.log s ≡ Some x = slice_get-get_or (w.disk r).state.log s no_vote low in
    let own : (w.disk r).state.promise ≡ (w.memory r).leader.ballot = (leader_owns w inv r r5 leads).promise in
    let le : x.ballot ≤ (w.disk r).state.promise = (promise_bounds w inv r r5).logged s x at in
    record {
      ballot = x.ballot;
      value = x.value;
      bound = omega arith;
      chosen = learned_of w inv r s x.ballot x.value r5 ((inv.disks r r5).logged s x at);
    }

pub covered_on : (w u : View) → Grows w u → (b l : ℕ) → Covered w b l → Covered u b l
covered_on w u g b l h s low =
    let was = h s low in
    record { ballot = was.ballot; value = was.value; bound = was.bound; chosen = chosen_on g was.chosen }
