-- Rows of the managers on what the log gets.
use Rattle.std.specs.Prelude.{ℕ, false, [], ◌∷◌, ◌≡◌}
use Rattle.wire_core.specs.Steps.{no_step}
use Rattle.wire_core.specs.declared.cause.DropCause.TheVariants.{Late}
use Rattle.paxos_spec.specs.declared.stage.Stage.TheVariants.{Follower}
use Rattle.paxos_spec.specs.Replica.{is_next}
use Rattle.node_spec.specs.Turns.{drop_turn}
use Rattle.manager_spec.specs.Manager.{Manager}
use Rattle.manager_spec.specs.Proposal.{stops}
use Rattle.manager_spec.specs.Voting.{on_accepted}
use Rattle.worked_run.specs.Configs.{machine, replica_at, run_config}
use Rattle.worked_run.specs.Run as run
use Rattle.worked_run.specs.Ballots as ballots
use Rattle.worked_run.specs.Steps.{sent, sends, keeps, does, dropped}
use Rattle.worked_run.specs.Primaries.{stage_of, reserve_act}
use Rattle.worked_run.specs.Replicas.{of, opened, hears_prepare, elected, hears_ask, hears_accept, reserves}
use Rattle.worked_run.specs.Replicas.{hears_chosen, two_accepted}
use Rattle.worked_run.specs.ReplicaLeading.{from}

-- Accept: refused below the promise, Late where the slot has its value, a fetch where it is ahead of the log, and
-- accepted again without an entry where the vote stands. A primary of a lower ballot steps down.
pub record Accepts : Type 0 where
  pub below : of (from 4 ballots.accept_4 (hears_prepare 1).state)
      ≡ sends (sent (replica_at 4) ballots.refuse_4 ∷ [])
  pub late : of (from 0 run.accept_reserve (hears_chosen 1).state) ≡ dropped Late
  pub ahead : of (from 0 ballots.accept_ahead (hears_prepare 1).state)
      ≡ sends (sent (replica_at 0) ballots.fetch_0 ∷ [])
  pub again : of (from 0 run.accept_reserve (hears_accept 1).state)
      ≡ sends (sent (replica_at 0) run.accepted_reserve ∷ [])
  pub higher : of (from 1 ballots.accept_6 elected)
      ≡ keeps ballots.voted_6 (sends (sent (replica_at 1) ballots.accepted_6 ∷ []))
  pub follows : stage_of (from 1 ballots.accept_6 elected) ≡ Follower

-- two have accepted what is outstanding at slot 0, and the log has a value there
abbrev pub behind : Manager
behind = record two_accepted { acceptor = reserves.state.acceptor }

-- Accepted: one of another ballot or slot, a second one of the same replica, one at a follower, and any for a slot that
-- isn't the next one of the log, or for which there is no room, count for nothing.
pub record Counts : Type 0 where
  pub other_ballot : of (from 1 ballots.accepted_4 hears_ask.state) ≡ dropped Late
  pub other_slot : of (from 1 run.accepted_granted hears_ask.state) ≡ dropped Late
  pub twice : of (from 1 run.accepted_reserve (from 1 run.accepted_reserve hears_ask.state).state) ≡ dropped Late
  pub follower : of (from 1 run.accepted_reserve (opened 0)) ≡ dropped Late
  pub behind : of (from 2 run.accepted_reserve behind) ≡ dropped Late
  pub not_next : (r : Manager) (i ballot slot : ℕ) → is_next r.acceptor slot ≡ false
      → on_accepted run_config r i ballot slot ≡ stops (drop_turn r Late)

-- Chosen: Late where the slot has its value, a fetch where it is ahead of the log. What is learned is fetched on, up to
-- the goal. A primary that learns so steps down.
pub record Learns : Type 0 where
  pub late : of (from 0 run.chosen_reserve (hears_chosen 1).state) ≡ dropped Late
  pub ahead : of (from 0 ballots.chosen_ahead (opened 1)) ≡ sends (sent (replica_at 0) ballots.fetch_0 ∷ [])
  pub goes_on : of (from 0 run.chosen_reserve (from 0 ballots.chosen_ahead (opened 1)).state)
      ≡ keeps run.learned_reserve (does (reserve_act 1 1024 machine ∷ [])
      (sends (sent (replica_at 0) ballots.fetch_1 ∷ [])))
  pub primary : of (from 1 ballots.chosen_6 elected)
      ≡ keeps ballots.learned_6 (does (reserve_act 1 1024 machine ∷ []) no_step)
  pub follows : stage_of (from 1 ballots.chosen_6 elected) ≡ Follower

-- Fetch: the slot's value with its ballot, where the log has it.
pub record Fetches : Type 0 where
  pub has : of (from 3 ballots.fetch_0 reserves.state) ≡ sends (sent (replica_at 3) run.chosen_reserve ∷ [])
  pub has_not : of (from 3 ballots.fetch_1 reserves.state) ≡ dropped Late
