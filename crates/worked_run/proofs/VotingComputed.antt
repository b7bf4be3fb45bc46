-- What the log gets, by computing.
use Rattle.std.specs.Prelude.{ℕ, false, ◌≡◌}
use Rattle.std.proofs.Common.{refl}
use Rattle.wire_core.specs.declared.cause.DropCause.TheVariants.{Late}
use Rattle.paxos_spec.specs.Replica.{is_next}
use Rattle.node_spec.specs.Turns.{drop_turn}
use Rattle.node_spec.proofs.OnLiterals.{node_on_literals}
use Rattle.manager_spec.proofs.OnLiterals.{manager_on_literals}
use Rattle.manager_spec.specs.Manager.{Manager}
use Rattle.manager_spec.specs.Proposal.{stops}
use Rattle.manager_spec.specs.Voting.{on_accepted}
use Rattle.worked_run.specs.Configs.{run_config}
use Rattle.worked_run.proofs.OnLiterals.{below_on_literals}
use Rattle.worked_run.specs.ReplicaVoting.{Accepts, Counts, Learns, Fetches}

pub accepts : Accepts
unfolding node_on_literals manager_on_literals below_on_literals
accepts = record {
  below = refl;
  late = refl;
  ahead = refl;
  again = refl;
  higher = refl;
  follows = refl;
}

-- an Accepted for another slot than the next one is Late
not_next : (r : Manager) (i ballot slot : ℕ) → is_next r.acceptor slot ≡ false
    → on_accepted run_config r i ballot slot ≡ stops (drop_turn r Late)
unfolding on_accepted
not_next r i ballot slot h = rw h refl

pub counts : Counts
unfolding node_on_literals manager_on_literals below_on_literals
counts = record {
  other_ballot = refl;
  other_slot = refl;
  twice = refl;
  follower = refl;
  behind = refl;
  not_next = not_next;
}

pub learns : Learns
unfolding node_on_literals manager_on_literals below_on_literals
learns = record {
  late = refl;
  ahead = refl;
  goes_on = refl;
  primary = refl;
  follows = refl;
}

pub fetches : Fetches
unfolding node_on_literals manager_on_literals below_on_literals
fetches = record {
  has = refl;
  has_not = refl;
}
