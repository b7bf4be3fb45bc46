-- Five replicas that have done nothing are in order.
use Rattle.std.proofs.Common.{◌≡◌, ℕ, List, [], subst, arith}
use Rattle.std.specs.Prelude.{Contains}
use Rattle.paxos_spec.specs.declared.mail.Body.TheVariants.{Accept}
use Rattle.paxos_spec.specs.declared.mail.Mail.{Mail}
use Rattle.paxos_spec.specs.Votes.{Value}
use Rattle.paxos_spec.specs.Replica.{mail}
use Rattle.paxos_spec.specs.Agreement.{View}
use Rattle.paxos_laws.specs.Facts.{Inv, Proposed}
use Rattle.paxos_laws.specs.Order.{IsNew}

pub none_proposed : (w : View) → w.sent ≡ [] → (b s : ℕ) (v : Value) → Proposed w b s v → ⊥
none_proposed w silent b s v p =
    let sends : List Mail → Type 0 = λ xs. Contains xs (mail p.by (Accept b s v) p.to) in
    let lt = (subst sends silent p.at).1 in
    omega arith

pub begins : (w : View) → IsNew w → Inv w
begins w new = record {
  mails = rw new.silent (λ k x lt. absurd (omega arith));
  unique = λ b s v x p q. absurd (none_proposed w new.silent b s v p);
  disks = λ i i5. rw (new.disks i i5) (record {
    votes = λ s b v h. absurd (let lt = h.1 in omega arith);
    standing = λ some. absurd (omega arith);
    learned = λ s b v h. absurd (let lt = h.1 in omega arith);
    logged = λ k x e. absurd (cc);
  });
  mems = λ i i5. rw (new.memories i i5) tt;
}
