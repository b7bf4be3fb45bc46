use Rattle.std.proofs.Common.{length, ◌-◌, ◌≡◌, ◌≤◌, ◌<◌, ℕ, false}
use Rattle.world_mail.specs.Mails.{waits_at}
use Rattle.world_mail.proofs.mail.next_waiting.Given as goal

abbrev pub invariant-loop-at : goal.invariant-loop-at
invariant-loop-at l = record {
  past : l.fn.from ≤ l.at;
  within : l.at ≤ length l.posted;
  before : (i : ℕ) → l.fn.from ≤ i → i < l.at → waits_at l.posted l.taken i ≡ false;
}

abbrev pub decreases-loop-at : goal.decreases-loop-at
decreases-loop-at l = length l.posted - l.at
