-- What is claimed holds of every view that is in order.
use Rattle.std.proofs.Common.{◌≡◌, ℕ, ◌<◌, ◌≤◌, ◌⊎◌, inl, inr, Some, None, sym, arith, subst}
use Rattle.paxos_spec.specs.Votes.{Value}
use Rattle.paxos_spec.specs.Acceptor.{reach}
use Rattle.paxos_spec.specs.Agreement.{View, IsPrimary, IsChosen, Choosable, Agrees, LearnsChosen, PrimaryKnows, PrimarySeal, OwnerLearned, PrimaryLog, LogsAgree}
use Rattle.paxos_laws.specs.Facts.{Proposed, LeadingOk, StageOk, Inv}
use Rattle.paxos_laws.proofs.Quorums.{three_on}
use Rattle.paxos_laws.proofs.Plain.{accept_of}
use Rattle.paxos_laws.proofs.Tells.{proposed_of}

-- three that voted are three that may have
may : (w : View) (s b : ℕ) (v : Value) → IsChosen w s b v → Choosable w s b v
may w s b v h = record { by_three = three_on (λ i i5 p. inl p) h.by_three }

pub chosen_proposed : (w : View) → Inv w → (s b : ℕ) (v : Value) → IsChosen w s b v → Proposed w b s v
chosen_proposed w inv s b v h = proposed_of w inv h.by_three.k s b v h.by_three.k_5 h.by_three.at_k

pub agrees_of : (w : View) → Inv w → Agrees w
agrees_of w inv s b c v x p q =
    let pv : Proposed w b s v = chosen_proposed w inv s b v p in
    let qx : Proposed w c s x = chosen_proposed w inv s c x q in
    elim (order b c) [
      | inl lt ↦ (accept_of w inv c s x qx).safe b v lt (may w s b v p)
      | inr more ↦ elim more [
        | inl same ↦ inv.unique c s v x (rw same at pv) qx
        | inr gt ↦ sym ((accept_of w inv b s v pv).safe c x gt (may w s c x q))
      ]
    ]
  where
    order : (a b : ℕ) → (a < b) ⊎ ((a ≡ b) ⊎ (b < a))
    order a b = grind arith

pub learned_of : (w : View) → Inv w → LearnsChosen w
learned_of w inv i s b v i5 h = ((inv.disks i i5).learned s b v h).0.chosen

pub owner_of : (w : View) → Inv w → OwnerLearned w
owner_of w inv i s b v i5 h = ((inv.disks i i5).learned s b v h).0.owner

leading : (w : View) (r : ℕ) → Inv w → r < 5 → IsPrimary w r → LeadingOk w r (w.disk r) (w.memory r).leader None
leading w r inv r5 is = subst (StageOk w r (w.disk r) (w.memory r).leader) is (inv.mems r r5)

pub seal_of : (w : View) → Inv w → PrimarySeal w
seal_of w inv r r5 is s c v lt high can =
    let p : (s ≡ reach (w.disk r).state) × (None ≡ Some v) = (leading w r inv r5 is).pends s c v lt high can in
    let f : None ≡ Some v = p.1 in cc

pub primary_of : (w : View) → Inv w → PrimaryKnows w
primary_of w inv r s b v r5 is lt chosen = elim (before s (reach (w.disk r).state)) [
  | inl low ↦ low
  | inr high ↦ absurd (seal_of w inv r r5 is s b v lt high (may w s b v chosen))
]
  where
    before : (a b : ℕ) → (a < b) ⊎ (b ≤ a)
    before a b = grind arith

pub primary_log_of : (w : View) → Inv w → PrimaryLog w
primary_log_of w inv r s x r5 is e =
    let own : (w.disk r).state.promise ≡ (w.memory r).leader.ballot = (leading w r inv r5 is).owns.promise in
    let le : x.ballot ≤ (w.disk r).state.promise = ((inv.disks r r5).learned _ _ _ ((inv.disks r r5).logged s x e)).1 in
    omega arith

pub logs_of : (w : View) → Inv w → LogsAgree w
logs_of w inv i j s x y i5 j5 e f =
    agrees_of w inv s x.ballot y.ballot x.value y.value (learned_of w inv i s _ _ i5 ((inv.disks i i5).logged s x e))
    (learned_of w inv j s _ _ j5 ((inv.disks j j5).logged s y f))
