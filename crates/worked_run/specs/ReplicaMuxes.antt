-- Rows of the managers on muxes: who is known, what is acknowledged, what is pushed, and what is due by it.
use Rattle.std.specs.Prelude.{ℕ, ◌+◌, List, [], ◌∷◌, ◌++◌, map, length, Some, ◌≡◌}
use Rattle.std.specs.List.{range_with_len}
use Rattle.wire_core.specs.Commands.{LogCommand, Reserve, Granted, Release, Freed, Up}
use Rattle.wire_core.specs.Steps.{no_step}
use Rattle.wire_core.specs.declared.cause.DropCause.TheVariants.{Late}
use Rattle.vip_config.specs.declared.parts.ConfigParts.{ConfigParts}
use Rattle.paxos_spec.specs.declared.stage.Stage.TheVariants.{Follower, Primary}
use Rattle.node_spec.specs.Turns.{Turn}
use Rattle.node_spec.specs.Steps.{step_of}
use Rattle.paxos_spec.specs.Leader.{value_out}
use Rattle.manager_spec.specs.Manager.{Manager}
use Rattle.manager_spec.specs.Known.{near, no_marks}
use Rattle.manager_spec.specs.Muxes.{programmed_by, unprogrammed_by}
use Rattle.worked_run.specs.Configs.{run_config, two_each, machine, mux_at, other_mux_at, agent_at}
use Rattle.worked_run.specs.Run as run
use Rattle.worked_run.specs.Ballots as ballots
use Rattle.worked_run.specs.Muxes as muxes
use Rattle.worked_run.specs.Asks as asks
use Rattle.wire_core.specs.declared.act.Act.TheVariants as act
use Rattle.worked_run.specs.Steps.{sent, all_five, four_others, to_each, sends, keeps, does, dropped}
use Rattle.worked_run.specs.Primaries.{primary, agreed, stage_of, reserve_1, granted_1, release_1, up, reserve_act}
use Rattle.worked_run.specs.Replicas.{of, hears, ticks, opened, elected, hears_ask, two_accepted, accepted_by}
use Rattle.worked_run.specs.Replicas.{reserves, grants}
use Rattle.worked_run.specs.ReplicaLeading.{at_time, from}

-- what mux 0 says, under the run's configuration
abbrev pub of_mux : List ℕ → Manager → Turn Manager
of_mux bytes r = hears run_config r mux_at bytes

-- what mux 0 and mux 1 say, where there are two
abbrev pub of_first : List ℕ → Manager → Turn Manager
of_first bytes r = hears two_each r mux_at bytes

abbrev pub of_second : List ℕ → Manager → Turn Manager
of_second bytes r = hears two_each r other_mux_at bytes

-- MuxHello and MuxRefuse: an earlier boot is Late in a Hello alone. An epoch above the own ballot ends a lead with its
-- queue, and the next candidacy is above it. A mux that wasn't heard isn't near.
pub record Hellos : Type 0 where
  pub earlier : of (of_mux run.hello (of_mux muxes.hello_2 elected).state) ≡ dropped Late
  pub same : of (of_mux run.hello elected) ≡ no_step
  pub above : of (of_mux muxes.hello_7 elected) ≡ no_step
  pub above_follows : stage_of (of_mux muxes.hello_7 elected) ≡ Follower
  pub queue_ends : (of_mux muxes.hello_7 (record elected { queue = up 0 2 })).state.queue ≡ []
  pub unheard : near run_config (opened 0) ≡ []
  pub at_most : stage_of (of_mux muxes.hello_5 elected) ≡ Primary
  pub follower : (of (at_time 1000 (of_mux muxes.hello_12 (opened 0)).state)).sends
      ≡ to_each all_five ballots.prepare_15
  pub refusal : of (of_mux muxes.mux_refuse_7 elected) ≡ no_step
  pub refusal_follows : stage_of (of_mux muxes.mux_refuse_7 elected) ≡ Follower
  pub refusal_next : (of (at_time 2000 (of_mux muxes.mux_refuse_7 elected).state)).sends
      ≡ to_each all_five ballots.prepare_10
  pub refusal_above : (of (at_time 2000 (of_mux muxes.mux_refuse_12 elected).state)).sends
      ≡ to_each all_five ballots.prepare_15
  pub greatest : (of (at_time 1000 (of_mux muxes.hello_7 (of_mux muxes.hello_12 (opened 0)).state).state)).sends
      ≡ to_each all_five ballots.prepare_15
  pub refusal_keeps_boot :
      of (of_mux run.hello (of_mux muxes.mux_refuse_0 (of_mux muxes.hello_2 elected).state).state) ≡ dropped Late
  pub refusal_raises_boot : of (of_mux run.hello (of_mux muxes.mux_refuse_0_in_2 elected).state) ≡ dropped Late
  pub refusal_hears : of (at_time 9000 (of_mux muxes.mux_refuse_0 (at_time 5000 reserves.state).state).state)
      ≡ sends (to_each four_others ballots.lead_1 ++ sent mux_at run.program ∷ [])
  pub refusal_of_boot : of (of_mux muxes.mux_refuse_7 (of_mux muxes.hello_2 elected).state) ≡ no_step

-- a primary of two muxes, both heard of in boot 1, with a row BeingLeased at the end of its log
abbrev pub both_near : Manager
both_near = (of_second run.hello (of_first run.hello (primary two_each (reserve_1 ∷ []))).state).state

-- Acknowledgements: Late at a follower, also at the epoch at which it led, of another epoch, of no row. One of an
-- earlier boot than the known one grants nothing, one of a later boot makes that the known one.
pub record Acknowledges : Type 0 where
  pub follower : of (of_mux run.programmed (opened 0)) ≡ dropped Late
  pub stepped_down : of (of_mux run.programmed (from 1 ballots.prepare_6 reserves.state).state) ≡ dropped Late
  pub other_epoch : of (of_mux muxes.programmed_at_4 reserves.state) ≡ dropped Late
  pub no_row : of (of_mux muxes.programmed_row_2 reserves.state) ≡ dropped Late
  pub earlier : of (of_mux run.programmed (of_mux muxes.hello_2 reserves.state).state) ≡ no_step
  pub later : of (of_mux muxes.programmed_2 reserves.state) ≡ sends (to_each all_five muxes.accept_granted_0_in_2)
  pub of_other_mux : step_of two_each (of_first run.hello (of_second muxes.programmed_2 both_near).state) ≡ no_step
  pub later_known : of (of_mux run.hello (of_mux muxes.programmed_2 reserves.state).state) ≡ dropped Late

-- the same with two rows
abbrev pub two_rows : Manager
two_rows =
    (of_second run.hello
    (of_first run.hello (primary two_each ((Reserve 0 1 machine 1 ∷ Reserve 0 1 machine 2 ∷ []) ∷ []))).state).state

-- the same at 5001, where mux 1 has the row and is silent, and mux 0 was heard at 4000
abbrev pub second_has : Manager
second_has = (of_first run.hello (ticks two_each (of_second run.programmed both_near).state 4000).state).state

abbrev pub first_alone : Manager
first_alone = (ticks two_each second_has 5001).state

-- Granted: each mux that isn't silent must have the row, and one must have it; a silent one that has it is named too.
pub record GrantsDue : Type 0 where
  pub one_of_two : step_of two_each (of_first run.programmed both_near) ≡ no_step
  pub both : step_of two_each (of_second run.programmed (of_first run.programmed both_near).state)
      ≡ sends (to_each all_five muxes.accept_granted_both)
  pub each_row : step_of two_each (of_second run.programmed
      (of_first muxes.programmed_row_2 (of_first run.programmed two_rows).state).state)
      ≡ sends (to_each all_five muxes.accept_granted_both)
  pub not_yet_silent : step_of two_each (of_first run.programmed (ticks two_each both_near 5000).state) ≡ no_step
  pub silent : step_of two_each (of_first run.programmed (ticks two_each both_near 5001).state)
      ≡ sends (to_each all_five muxes.accept_granted_0)
  pub silent_named : step_of two_each (of_first run.programmed first_alone)
      ≡ sends (to_each all_five muxes.accept_granted_both)
  pub all_silent : step_of two_each (ticks two_each (of_second run.programmed both_near).state 5001)
      ≡ sends (to_each four_others ballots.lead_1 ++ to_each all_five muxes.accept_granted_1)
  pub unheard : step_of two_each (of_first run.programmed (primary two_each (reserve_1 ∷ [])))
      ≡ sends (to_each all_five muxes.accept_granted_0)

-- mux 0 acknowledged in boot 2, and then its acknowledgement of boot 1 comes late
abbrev pub first_twice : Manager
first_twice = (of_first run.programmed (of_first muxes.programmed_2 both_near).state).state

-- Of two acknowledgements of a mux the later boot's counts, whichever came first.
pub record AcknowledgesTwice : Type 0 where
  pub later_counts : step_of two_each (of_second run.programmed first_twice)
      ≡ sends (to_each all_five muxes.accept_granted_both_in_2)

-- a primary of two muxes with a Freeing row
abbrev pub freeing : Manager
freeing = primary two_each (reserve_1 ∷ granted_1 ∷ release_1 ∷ [])

-- a primary for which a Granted and a Freed are due, and an Up is queued
abbrev pub all_due : Manager
all_due = record (primary run_config ((Reserve 0 1 machine 1 ∷ Reserve 0 1 machine 2 ∷ []) ∷ release_1 ∷ [])) {
  acks = (1, unprogrammed_by no_marks 0 1) ∷ (2, programmed_by no_marks 0 1) ∷ [];
  queue = up 0 2;
}

-- Freed, of a Freeing row: each configured mux must have acknowledged, in whatever boot, also one that was never heard
-- of before.
pub record FreedDue : Type 0 where
  pub one_of_two : step_of two_each (of_first muxes.unprogrammed freeing) ≡ no_step
  pub both : step_of two_each (of_second muxes.unprogrammed (of_first muxes.unprogrammed freeing).state)
      ≡ sends (to_each all_five muxes.accept_freed)
  pub any_boot : step_of two_each
      (of_second muxes.unprogrammed (of_first muxes.hello_2 (of_first muxes.unprogrammed freeing).state).state)
      ≡ sends (to_each all_five muxes.accept_freed)
  pub later_boot : step_of two_each (of_second muxes.unprogrammed (of_first muxes.unprogrammed_in_2 freeing).state)
      ≡ sends (to_each all_five muxes.accept_freed)
  pub leased : of (of_mux muxes.unprogrammed grants.state) ≡ no_step
  pub learned : step_of two_each (agreed two_each
      (of_second muxes.unprogrammed (of_first muxes.unprogrammed freeing).state).state muxes.accepted_freed)
      ≡ keeps muxes.learned_freed (does (act.Freed 1 ∷ []) (sends (to_each four_others muxes.chosen_freed)))
  pub forgotten : (agreed two_each
      (of_second muxes.unprogrammed (of_first muxes.unprogrammed freeing).state).state muxes.accepted_freed).state.acks
      ≡ []
  pub others_stay : (agreed run_config (of_mux run.hello all_due).state asks.accepted_2).state.acks
      ≡ (2, programmed_by no_marks 0 1) ∷ []
  pub programmed_is_none :
      step_of two_each (of_second run.programmed (of_first muxes.unprogrammed freeing).state) ≡ no_step

-- a primary whose promise is another than its ballot
abbrev pub promised_less : Manager
promised_less = record elected { acceptor = record elected.acceptor { promise = 4 } }

-- The push goes to muxes that aren't silent, of rows that they haven't acknowledged in their known boot, behind Lead
-- and what is outstanding. A Lead has the ballot of the one who leads.
pub record Pushes : Type 0 where
  pub own_ballot : of (at_time 1500 promised_less) ≡ sends (to_each four_others ballots.lead_0)
  pub outstanding : of (at_time 1500 hears_ask.state)
      ≡ sends (to_each four_others ballots.lead_0 ++ to_each all_five run.accept_reserve)
  pub last : of (at_time 1500 (hears run_config reserves.state agent_at asks.ask_2).state)
      ≡ sends
      (to_each four_others ballots.lead_1 ++ to_each all_five asks.accept_ask_2_at_1 ++ sent mux_at run.program ∷ [])
  pub program : of (at_time 1500 reserves.state)
      ≡ sends (to_each four_others ballots.lead_1 ++ sent mux_at run.program ∷ [])
  pub silent : of (at_time 9000 reserves.state) ≡ sends (to_each four_others ballots.lead_1)
  pub acknowledged : of (at_time 1500 grants.state) ≡ sends (to_each four_others ballots.lead_2)
  pub leased : of (at_time 1500 (of_mux muxes.hello_2 grants.state).state)
      ≡ sends (to_each four_others ballots.lead_2 ++ sent mux_at muxes.program_2 ∷ [])
  pub unprogram : step_of two_each
      (ticks two_each (of_second run.hello (of_first muxes.unprogrammed freeing).state).state 1500)
      ≡ sends (to_each four_others ballots.lead_3 ++ sent other_mux_at muxes.unprogram ∷ [])
  pub unprogram_again : step_of two_each
      (ticks two_each (of_first muxes.hello_2 (of_first muxes.unprogrammed freeing).state).state 1500)
      ≡ sends (to_each four_others ballots.lead_3 ++ sent mux_at muxes.unprogram_2 ∷ [])

-- requests of the machine from this number on, so many
abbrev pub requests : ℕ → ℕ → List LogCommand
requests first count = map (λ i. Reserve 0 1 machine (first + i)) (range_with_len 0 count)

-- a log of 65 leases
abbrev pub many_leases : List (List LogCommand)
many_leases = requests 1 16 ∷ requests 17 16 ∷ requests 33 16 ∷ requests 49 16 ∷ requests 65 1 ∷ []

-- as many leases as a machine needs for it
abbrev pub no_limit : ConfigParts
no_limit = record run_config { limit = 1024 }

-- 64 messages leave in one push, behind the four Leads.
pub record PushesSome : Type 0 where
  pub most :
      length (ticks no_limit (hears no_limit (primary no_limit many_leases) mux_at run.hello).state 1500).sends ≡ 68

-- a primary with 17 requests in its queue
abbrev pub many_queued : Manager
many_queued = record elected { queue = map (λ i. Up i 2) (range_with_len 0 17) }

-- a primary of 17 rows, each of which mux 0 has
abbrev pub many_due : Manager
many_due = record (primary no_limit (requests 1 16 ∷ requests 17 1 ∷ [])) {
  acks = map (λ n. (n, programmed_by no_marks 0 1)) (range_with_len 1 17);
}

-- this row is granted by mux 0
abbrev pub granted_by_0 : ℕ → LogCommand
granted_by_0 n = Granted n (record { mux = 0; boot = 1 } ∷ [])

-- so many agents are up, from this number on
abbrev pub ups : ℕ → ℕ → List LogCommand
ups first count = map (λ i. Up i 2) (range_with_len first count)

-- the proposal where two commands are due, and 17 are queued
abbrev pub due_and_queued : Manager
due_and_queued = (of_mux run.hello (record all_due { queue = ups 0 17 })).state

-- The proposal: Granted, then Freed, then the queue, 16 in all; the others wait on.
pub record Proposes : Type 0 where
  pub order : of (of_mux run.hello all_due) ≡ sends (to_each all_five muxes.accept_due)
  pub queue : (of_mux run.hello all_due).state.queue ≡ []
  pub some : value_out (of_mux run.hello many_queued).state.memory.leader.out
      ≡ Some (map (λ i. Up i 2) (range_with_len 0 16))
  pub left : (of_mux run.hello many_queued).state.queue ≡ up 16 2
  pub most_due : value_out (hears no_limit many_due mux_at run.hello).state.memory.leader.out
      ≡ Some (map granted_by_0 (range_with_len 1 16))
  pub filled : value_out due_and_queued.memory.leader.out ≡ Some (granted_by_0 2 ∷ Freed 1 ∷ ups 0 14)
  pub filled_left : due_and_queued.queue ≡ ups 14 3
  pub after_refusal : (of_mux muxes.mux_refuse_0 (record elected { queue = up 0 2 })).state.queue ≡ []

-- A value that is learned is told to each mux with a known boot, silent or not; a lease that ends in the value that
-- begins it is told to none, but that it ended; one that a later boot ends is told to none, and a boot only to an agent
-- that is configured. The next value is proposed in the same turn.
pub record Orders : Type 0 where
  pub silent : of (accepted_by (at_time 7000 two_accepted).state 2)
      ≡ keeps run.learned_reserve (does (reserve_act 1 1024 machine ∷ [])
      (sends (to_each four_others run.chosen_reserve ++ sent mux_at run.program ∷ [])))
  pub unheard : step_of two_each (agreed two_each
      (of_first run.hello (record (primary two_each []) { queue = reserve_1 })).state run.accepted_reserve)
      ≡ keeps run.learned_reserve (does (reserve_act 1 1024 machine ∷ [])
      (sends (to_each four_others run.chosen_reserve ++ sent mux_at run.program ∷ [])))
  pub both : step_of two_each (agreed two_each
      (of_second run.hello (of_first run.hello (record (primary two_each []) { queue = reserve_1 })).state).state
      run.accepted_reserve)
      ≡ keeps run.learned_reserve (does (reserve_act 1 1024 machine ∷ [])
      (sends (to_each four_others run.chosen_reserve
      ++ sent mux_at run.program ∷ sent other_mux_at run.program ∷ [])))
  pub cleared : of (agreed run_config
      (hears run_config
      (of_mux run.hello (primary run_config (up 0 2 ∷ (Reserve 0 2 machine 1 ∷ []) ∷ []))).state
      agent_at asks.up_3).state asks.accepted_2)
      ≡ keeps asks.learned_up (does (act.Free 17 ∷ [])
      (sends (to_each four_others asks.chosen_up ++ sent agent_at asks.known_3 ∷ [])))
  pub unconfigured : length
      (agreed run_config (of_mux run.hello (record elected { queue = up 7 2 })).state run.accepted_reserve).sends ≡ 4
  pub ended : of (agreed run_config
      (of_mux run.hello (record elected { queue = Reserve 0 1 machine 1 ∷ Release 1 ∷ [] })).state run.accepted_reserve)
      ≡ keeps asks.learned_both (does (reserve_act 1 1024 machine ∷ act.Free 1 ∷ [])
      (sends (to_each four_others asks.chosen_both
      ++ sent agent_at asks.returned_1 ∷ sent mux_at muxes.unprogram ∷ [])))
  pub next : (of
      (agreed run_config (hears run_config hears_ask.state agent_at asks.up_2).state run.accepted_reserve)).sends
      ≡ to_each four_others run.chosen_reserve ++ sent mux_at run.program ∷ to_each all_five asks.accept_up_2
