-- A step of which less happens, or more: it is cut short, or another follows in the same turn.
use Rattle.std.proofs.Common.{◌≡◌, ◌≢◌, ℕ, inl, inr, Bool, true, false, ◌==◌, ◌++◌, List, Option, None, refl, sym, ap, ◌∙◌, subst, arith}
use Rattle.std.specs.Prelude.{All, if◌then◌else◌}
use Rattle.std.proofs.lemmas.Bool.Decides.{nat_tests}
use Rattle.std.proofs.lemmas.List.{append_assoc}
use Rattle.std.proofs.lemmas.List.Elements.{Contains-append_cases, Contains-append_right, All-append, All-weaker}
use Rattle.paxos_spec.specs.declared.mail.Mail.{Mail}
use Rattle.paxos_spec.specs.Votes.{Value}
use Rattle.paxos_spec.specs.Replica.{Out}
use Rattle.paxos_spec.specs.Agreement.{View, Disk, grown}
use Rattle.paxos_laws.specs.Facts.{Inv, MailOk, StageOk}
use Rattle.paxos_laws.specs.Steps.{Moves, Grows, Good, GoodOut, Here, cut_short, followed_by}
use Rattle.paxos_laws.proofs.Growth.{mail_on}
use Rattle.paxos_laws.proofs.Steps.{grows, keeps}
use Rattle.paxos_laws.proofs.More.{reopened_good, travels}

-- the view that a step leads to
stepped_view : View → ℕ → Out → View
stepped_view w r o = record {
  disk = λ i. if i == r then grown (w.disk r) o.entry else w.disk i;
  memory = λ i. if i == r then o.memory else w.memory i;
  sent = w.sent ++ o.sends;
}

itself : (r : ℕ) → (r == r) ≡ true
itself r = grind (arith, nat_tests)

another : (i r : ℕ) → i ≢ r → (i == r) ≡ false
another i r ne = grind (arith, nat_tests)

moves_there : (w : View) (r : ℕ) (o : Out) → Moves w (stepped_view w r o) r o
unfolding stepped_view
moves_there w r o = record {
  disk_same = ap (λ (b : Bool). if b then grown (w.disk r) o.entry else w.disk r) (itself r);
  disk_other = λ i ne. ap (λ (b : Bool). if b then grown (w.disk r) o.entry else w.disk i) (another i r ne);
  memory_same = ap (λ (b : Bool). if b then o.memory else w.memory r) (itself r);
  memory_other = λ i ne. ap (λ (b : Bool). if b then o.memory else w.memory i) (another i r ne);
  sent = refl;
}

pub cut_good : (f : Option Value) (w : View) (r : ℕ) (o : Out)
    → Here w r → GoodOut f w r o → GoodOut None w r (cut_short o)
cut_good f w r o h good = reopened_good w r o.entry h (good (stepped_view w r o) (moves_there w r o)).entry

pub own_senders : (f : Option Value) (w : View) (r : ℕ) (o : Out)
    → GoodOut f w r o → All (λ x. x.sender ≡ r) o.sends
own_senders f w r o good = (good (stepped_view w r o) (moves_there w r o)).senders

-- the second step alone, from the view between the two
second_moves : (w v u : View) (r : ℕ) (o p : Out)
    → p.entry ≡ None → Moves w v r o → Moves w u r (followed_by o p) → Moves v u r p
second_moves w v u r o p none mo moves = record {
  disk_same = rw none (moves.disk_same ∙ sym mo.disk_same);
  disk_other = λ i ne. moves.disk_other i ne ∙ sym (mo.disk_other i ne);
  memory_same = moves.memory_same;
  memory_other = λ i ne. moves.memory_other i ne ∙ sym (mo.memory_other i ne);
  sent = moves.sent ∙ sym (append_assoc w.sent o.sends p.sends)
      ∙ ap (λ (xs : List Mail). xs ++ p.sends) (sym mo.sent);
}

-- Two steps in one turn are one, where the second writes nothing.
pub both_good : (f : Option Value) (w : View) (r : ℕ) (o p : Out)
    → Here w r → p.entry ≡ None → GoodOut f w r o
    → ((v : View) → Here v r → Moves w v r o → GoodOut f v r p)
    → GoodOut f w r (followed_by o p)
both_good f w r o p h none first second u moves =
    let v : View = stepped_view w r o in
    let mo : Moves w v r o = moves_there w r o in
    let go : Good f w v r o = first v mo in
    let hv : Here v r = record { number = h.number; inv = keeps f w v r o mo h.number h.inv go } in
    let mp : Moves v u r p = second_moves w v u r o p none mo moves in
    let gp : Good f v u r p = second v hv mo u mp in
    let g : Grows v u = grows v u r p mp gp.entry in
    let inv : Inv u = keeps f v u r p mp h.number hv.inv gp in
    record {
      entry = go.entry;
      senders = All-append (λ (x : Mail). x.sender ≡ r) o.sends p.sends go.senders gp.senders;
      mails = All-append (MailOk u) o.sends p.sends
          (All-weaker (MailOk v) (MailOk u) (λ x k. mail_on g x k) o.sends go.mails) gp.mails;
      origin = λ b s x sends. elim (Contains-append_cases o.sends p.sends _ sends.at) [
        | inl one ↦ go.origin b s x (record { by = sends.by; to = sends.to; at = one })
        | inr two ↦ elim (gp.origin b s x (record { by = sends.by; to = sends.to; at = two })) [
          | inl e ↦ inl e
          | inr was ↦ travels f w v r o mo go was.0 s x was.1
        ]
      ];
      unique = λ b s x y sends q. inv.unique b s x y (record {
        by = sends.by;
        to = sends.to;
        at = rw moves.sent (Contains-append_right w.sent (o.sends ++ p.sends) _ sends.at);
      }) q;
      stage = subst (λ (d : Disk). StageOk u r d p.memory.leader p.memory.leader.stage)
          (rw none mo.disk_same) gp.stage;
    }
