-- Rows of the managers on who leads.
use Rattle.std.specs.Prelude.{ℕ, List, [], ◌∷◌, Some, None, ◌≡◌}
use Rattle.wire_core.specs.Steps.{no_step}
use Rattle.wire_core.specs.declared.cause.DropCause.TheVariants.{Late}
use Rattle.paxos_spec.specs.declared.stage.Stage.TheVariants.{Follower, Candidate, Primary}
use Rattle.node_spec.specs.Turns.{Turn}
use Rattle.manager_spec.specs.Known.{no_marks}
use Rattle.manager_spec.specs.Manager.{Manager}
use Rattle.worked_run.specs.Configs.{run_config, replica_at, mux_at, agent_at}
use Rattle.worked_run.specs.Run as run
use Rattle.worked_run.specs.Asks as asks
use Rattle.worked_run.specs.Ballots as ballots
use Rattle.worked_run.specs.Steps.{sent, all_five, to_each, sends, keeps, does, dropped}
use Rattle.worked_run.specs.Primaries.{stage_of, reserve_act, up}
use Rattle.worked_run.specs.Replicas.{of, hears, ticks, opened, campaigns, hears_prepare, elected, hears_ask}
use Rattle.worked_run.specs.Replicas.{hears_accept, hears_chosen, hears_programmed}
use Rattle.worked_run.specs.Configs.{machine}

-- what comes to a replica from replica i, and when it ticks, under the run's configuration
abbrev pub from : ℕ → List ℕ → Manager → Turn Manager
from i bytes r = hears run_config r (replica_at i) bytes

abbrev pub at_time : ℕ → Manager → Turn Manager
at_time now r = ticks run_config r now

-- After a silence of `lead_silent`, and not a millisecond sooner, a replica runs for election. It counts from when it
-- last heard of a leader: a candidacy of its own, a new promise, a new vote, a Lead or a value learned.
pub record Silence : Type 0 where
  pub early : of (at_time 999 (opened 0)) ≡ no_step
  pub candidate_waits : of (at_time 1999 campaigns.state) ≡ no_step
  pub candidate_again : of (at_time 2000 campaigns.state)
      ≡ keeps ballots.promised_10 (sends (to_each all_five ballots.prepare_10))
  pub forgets : (at_time 2000 (record campaigns.state { queue = up 0 2 })).state.queue ≡ []
  pub forgets_all : (at_time 2000 (record campaigns.state { acks = (1, no_marks) ∷ [] })).state.acks ≡ []
  pub never_back : (at_time 500 campaigns.state).state.time ≡ 1000
  pub promised : of (at_time 1899 (from 0 run.prepare (at_time 900 (opened 1)).state).state) ≡ no_step
  pub promised_again : (at_time 1900 (from 0 run.prepare
      (at_time 1500 (from 0 run.prepare (at_time 900 (opened 1)).state).state).state).state).entry
      ≡ (at_time 1900 (from 0 run.prepare (at_time 900 (opened 1)).state).state).entry
  pub promise_ends : (of (at_time 1900 (from 0 run.prepare (at_time 900 (opened 1)).state).state)).entry
      ≡ Some ballots.promised_11
  pub voted : of (at_time 1000 (from 0 run.accept_reserve (at_time 900 (opened 1)).state).state) ≡ no_step
  pub lead : of (at_time 1000 (from 0 ballots.lead_0 (at_time 900 (opened 1)).state).state) ≡ no_step
  pub lead_ends : (of (at_time 1900 (from 0 ballots.lead_0 (at_time 900 (opened 1)).state).state)).entry
      ≡ Some ballots.promised_11
  pub learned : of (at_time 1000 (from 0 run.chosen_reserve (at_time 900 (opened 1)).state).state) ≡ no_step
  pub mux_is_none : (of (at_time 1000 (hears run_config (at_time 900 (opened 0)).state mux_at run.hello).state)).entry
      ≡ Some run.promised

-- Prepare: one below the promise is refused, the promise itself is promised again without an entry, one above it makes
-- a primary step down, with its queue, its acknowledgements and what was outstanding. A Promise tells the length of the
-- log, and the vote.
pub record Prepares : Type 0 where
  pub below : of (from 4 ballots.prepare_4 (hears_prepare 1).state)
      ≡ sends (sent (replica_at 4) ballots.refuse_4 ∷ [])
  pub again : of (from 0 run.prepare (hears_prepare 1).state) ≡ sends (sent (replica_at 0) run.promise ∷ [])
  pub above : of (from 1 ballots.prepare_6 elected)
      ≡ keeps ballots.promised_6 (sends (sent (replica_at 1) ballots.promise_6 ∷ []))
  pub follows : stage_of (from 1 ballots.prepare_6 elected) ≡ Follower
  pub voted : of (from 1 ballots.prepare_6 (hears_accept 2).state)
      ≡ keeps ballots.promised_6 (sends (sent (replica_at 1) ballots.promise_6_reserve ∷ []))
  pub learned : of (from 1 ballots.prepare_6 (hears_chosen 2).state)
      ≡ keeps ballots.promised_6 (sends (sent (replica_at 1) ballots.promise_6_long ∷ []))
  pub acknowledged_ends : (from 1 ballots.prepare_6 hears_programmed.state).state.acks ≡ []
  pub queued : of (hears run_config hears_ask.state agent_at asks.up_2) ≡ no_step
  pub queue_ends :
      (from 1 ballots.prepare_6 (hears run_config hears_ask.state agent_at asks.up_2).state).state.queue ≡ []
  pub outstanding_ends : (from 1 ballots.prepare_6 hears_ask.state).state.memory.leader.out ≡ None

-- Promise: one of another ballot, and a second one of the same replica, count for nothing.
pub record Promises : Type 0 where
  pub other_ballot : of (from 1 ballots.promise_6 campaigns.state) ≡ dropped Late
  pub twice : of (from 1 run.promise (from 1 run.promise campaigns.state).state) ≡ dropped Late
  pub follower : of (from 1 run.promise (opened 0)) ≡ dropped Late

-- replica 0 with promises of 4 and 3 on a log of length 1, and the third promise
abbrev pub hears_longer : Turn Manager
hears_longer =
    from 0 run.promise (from 3 ballots.promise_long (from 4 ballots.promise_long campaigns.state).state).state

-- A candidate with a shorter log fetches first, from the least replica that has more. Once it has it, it is primary; it
-- proposes nothing yet.
pub record Catches : Type 0 where
  pub fetches : of hears_longer ≡ sends (sent (replica_at 3) ballots.fetch_0 ∷ [])
  pub learns : of (from 3 run.chosen_reserve hears_longer.state)
      ≡ keeps run.learned_reserve (does (reserve_act 1 1024 machine ∷ []) no_step)
  pub leads : stage_of (from 3 run.chosen_reserve hears_longer.state) ≡ Primary

-- replica 1, candidate at 6
abbrev pub candidate_1 : Manager
candidate_1 = (at_time 1000 (opened 1)).state

-- its third promise; the first two told votes of ballots 4 and 5
abbrev pub inherits : Turn Manager
inherits =
    from 3 ballots.promise_6 (from 0 ballots.promise_6_reserve (from 2 ballots.promise_6_up candidate_1).state).state

-- three accept what it inherited
abbrev pub accepts_6 : Manager → ℕ → Turn Manager
accepts_6 r i = from i ballots.accepted_6 r

abbrev pub inherited : Turn Manager
inherited = accepts_6 (accepts_6 (accepts_6 inherits.state 0).state 2).state 3

-- The vote of the greatest ballot is proposed again. The third that accepts it makes the replica primary, with the
-- value in its log, once.
pub record Inherits : Type 0 where
  pub proposes : of inherits ≡ sends (to_each all_five ballots.accept_6)
  pub learns : of inherited
      ≡ keeps ballots.learned_6 (does (reserve_act 1 1024 machine ∷ [])
      (sends (to_each (0 ∷ 2 ∷ 3 ∷ 4 ∷ []) ballots.chosen_6)))
  pub leads : stage_of inherited ≡ Primary

-- a primary is refused at time 1500
abbrev pub refused : Turn Manager
refused = from 1 ballots.refuse_12 (at_time 1500 elected).state

-- Refuse: the replica follows, waits, and runs above the ballot that it was told. Others count for nothing.
pub record Refuses : Type 0 where
  pub primary : of refused ≡ no_step
  pub follows : stage_of refused ≡ Follower
  pub waits : of (at_time 2499 refused.state) ≡ no_step
  pub next : of (at_time 2500 refused.state)
      ≡ keeps ballots.promised_15 (sends (to_each all_five ballots.prepare_15))
  pub candidate : stage_of (from 1 ballots.refuse_12 campaigns.state) ≡ Follower
  pub not_above : of (from 1 ballots.refuse_5 elected) ≡ dropped Late
  pub other_ballot : of (from 1 ballots.refuse_other elected) ≡ dropped Late
  pub follower : of (from 1 ballots.refuse_12 (opened 0)) ≡ dropped Late
  pub stepped_down : of (from 1 ballots.refuse_12 (from 1 ballots.prepare_6 elected).state) ≡ dropped Late

-- Lead: below the promise it is refused, and no leader was heard. A longer log is fetched to its end. The ballot of a
-- Lead is seen, and it changes no stage.
pub record Leads : Type 0 where
  pub below : of (from 4 ballots.lead_at_4 (hears_prepare 1).state)
      ≡ sends (sent (replica_at 4) ballots.refuse_4 ∷ [])
  pub below_unheard : (of (at_time 1000 (from 4 ballots.lead_at_4
      (at_time 900 (hears_prepare 1).state).state).state)).entry ≡ Some ballots.promised_11
  pub lags : of (from 0 ballots.lead_1 (opened 3)) ≡ sends (sent (replica_at 0) ballots.fetch_0 ∷ [])
  pub lags_on : of (from 0 run.chosen_reserve (from 0 ballots.lead_2 (opened 3)).state)
      ≡ keeps run.learned_reserve (does (reserve_act 1 1024 machine ∷ [])
      (sends (sent (replica_at 0) ballots.fetch_1 ∷ [])))
  pub lag_ends : (of (at_time 1900 (from 0 ballots.lead_1 (at_time 900 (opened 1)).state).state)).entry
      ≡ Some ballots.promised_11
  pub same : of (from 0 ballots.lead_0 (opened 3)) ≡ no_step
  pub stage : stage_of (from 1 ballots.lead_at_6 elected) ≡ Primary
  pub candidate : stage_of (from 0 ballots.lead_0 campaigns.state) ≡ Candidate
