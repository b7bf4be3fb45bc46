-- Rows of the managers on agents: what is asked, given back, and told.
use Rattle.std.specs.Prelude.{ℕ, List, [], ◌∷◌, ◌++◌, map, drop, Some, ◌≡◌}
use Rattle.std.specs.List.{range_with_len}
use Rattle.wire_core.specs.Commands.{LogCommand, Reserve, Granted, Release, Up}
use Rattle.wire_core.specs.Steps.{no_step}
use Rattle.wire_core.specs.declared.act.Act.TheVariants as act
use Rattle.wire_core.specs.declared.cause.DropCause.TheVariants.{Late, NotPrimary, NotMine, Unknown, Waiting, QueueFull}
use Rattle.vip_config.specs.declared.parts.ConfigParts.{ConfigParts}
use Rattle.paxos_spec.specs.Leader.{value_out}
use Rattle.node_spec.specs.Turns.{Turn}
use Rattle.node_spec.specs.Steps.{step_of}
use Rattle.manager_spec.specs.Manager.{Manager}
use Rattle.worked_run.specs.Configs.{run_config, two_each, one_range, one_row, leasing, machine, other_machine}
use Rattle.worked_run.specs.Configs.{mux_at, agent_at, other_agent_at}
use Rattle.worked_run.specs.Run as run
use Rattle.worked_run.specs.Leasing.{grant_other}
use Rattle.worked_run.specs.Muxes as muxes
use Rattle.worked_run.specs.Asks as asks
use Rattle.worked_run.specs.Steps.{sent, all_five, four_others, to_each, sends, keeps, does, dropped}
use Rattle.worked_run.specs.Primaries.{primary, agreed, reserve_1, granted_1, release_1, freed_1, up}
use Rattle.worked_run.specs.Replicas.{of, hears, opened, elected, hears_ask, reserves, grants}

-- what agent 0 says, under the run's configuration
abbrev pub of_agent : List ℕ → Manager → Turn Manager
of_agent bytes r = hears run_config r agent_at bytes

-- a primary of the run's configuration with these values in its log
abbrev pub with_log : List (List LogCommand) → Manager
with_log values = primary run_config values

-- No replica but the primary answers agents, whatever they ask.
pub record OnlyPrimary : Type 0 where
  pub ask : of (of_agent run.ask (opened 0)) ≡ dropped NotPrimary
  pub gives_back : of (of_agent asks.return_1 (opened 0)) ≡ dropped NotPrimary
  pub up : of (of_agent asks.up_1 (opened 0)) ≡ dropped NotPrimary
  pub other_machine : of (of_agent asks.ask_other (opened 0)) ≡ dropped NotPrimary
  pub zero : of (of_agent asks.return_0 (opened 0)) ≡ dropped NotPrimary

-- the machine leaves from no VIP
abbrev pub no_snat : ConfigParts
no_snat = record run_config { vips = leasing 65535 [] ∷ [] }

-- lease 1, of the other agent's machine
abbrev pub other_leased : Manager
other_leased = primary two_each ((Reserve 1 1 other_machine 1 ∷ []) ∷ granted_1 ∷ [])

-- each of two machines may have one row
abbrev pub one_row_each : ConfigParts
one_row_each = record two_each { limit = 1 }

-- Which Ask is taken: one of the machine's own agent, of a machine that leaves from a VIP, of a boot that isn't below
-- the known one, and later than the machine's last.
pub record Asks : Type 0 where
  pub of_other : value_out (hears two_each (primary two_each []) other_agent_at asks.ask_other).state.memory.leader.out
      ≡ Some (Reserve 1 1 other_machine 1 ∷ [])
  pub later_of_other : value_out (hears two_each other_leased other_agent_at asks.ask_other_2).state.memory.leader.out
      ≡ Some (Reserve 1 1 other_machine 2 ∷ [])
  pub other_agent : step_of two_each (hears two_each (primary two_each []) other_agent_at run.ask) ≡ dropped NotMine
  pub other_machine : step_of two_each (hears two_each (primary two_each []) agent_at asks.ask_other) ≡ dropped NotMine
  pub no_vip : step_of no_snat (hears no_snat (primary no_snat []) agent_at run.ask) ≡ dropped NotMine
  pub other_in_earlier : of (of_agent asks.ask_other (with_log (up 0 2 ∷ []))) ≡ dropped NotMine
  pub earlier_boot : of (of_agent run.ask (with_log (up 0 2 ∷ []))) ≡ dropped Late
  pub earlier : of (of_agent run.ask (with_log ((Reserve 0 1 machine 2 ∷ []) ∷ []))) ≡ dropped Late
  pub later : of (of_agent asks.ask_2 (with_log (reserve_1 ∷ granted_1 ∷ [])))
      ≡ sends (to_each all_five asks.accept_ask_2)
  pub later_boot : of (of_agent asks.ask_in_2 (with_log ((Reserve 0 1 machine 2 ∷ []) ∷ granted_1 ∷ [])))
      ≡ sends (to_each all_five asks.accept_ask_in_2)

-- lease 17, of the third request of the agent's boot 2
abbrev pub granted_17 : Manager
granted_17 = with_log
    (up 0 2 ∷ (Reserve 0 2 machine 3 ∷ []) ∷ (Granted 17 (record { mux = 0; boot = 1 } ∷ []) ∷ []) ∷ [])

-- The same Ask again, by what it came to. The agent that asked is told.
pub record AsksAgain : Type 0 where
  pub outstanding : of (of_agent run.ask hears_ask.state) ≡ dropped Waiting
  pub being_leased : of (of_agent run.ask reserves.state) ≡ dropped Waiting
  pub leased : of (of_agent run.ask grants.state) ≡ sends (sent agent_at run.grant ∷ [])
  pub leased_in_2 : of (of_agent asks.ask_3_in_2 granted_17) ≡ sends (sent agent_at asks.grant_17_in_2 ∷ [])
  pub freeing : of (of_agent run.ask (with_log (reserve_1 ∷ granted_1 ∷ release_1 ∷ []))) ≡ dropped Late
  pub gone : of (of_agent run.ask (with_log (reserve_1 ∷ granted_1 ∷ release_1 ∷ freed_1 ∷ []))) ≡ dropped Late
  pub exhausted : step_of one_range (hears one_range
      (primary one_range (reserve_1 ∷ granted_1 ∷ (Reserve 0 1 other_machine 1 ∷ []) ∷ [])) agent_at asks.ask_other)
      ≡ sends (sent agent_at asks.denied_exhausted ∷ [])
  pub at_limit : step_of one_row (hears one_row
      (primary one_row (reserve_1 ∷ granted_1 ∷ (Reserve 0 1 machine 2 ∷ []) ∷ [])) agent_at asks.ask_2)
      ≡ sends (sent agent_at asks.denied_at_limit ∷ [])
  pub third : step_of one_row (hears one_row
      (primary one_row (reserve_1 ∷ granted_1 ∷ (Reserve 0 1 machine 3 ∷ []) ∷ [])) agent_at asks.ask_3)
      ≡ sends (sent agent_at asks.denied_third ∷ [])
  pub other_told : step_of two_each (hears two_each other_leased other_agent_at asks.ask_other)
      ≡ sends (sent other_agent_at grant_other ∷ [])
  pub other_denied : step_of one_row_each (hears one_row_each
      (primary one_row_each
      ((Reserve 1 1 other_machine 1 ∷ []) ∷ granted_1 ∷ (Reserve 1 1 other_machine 2 ∷ []) ∷ []))
      other_agent_at asks.ask_other_2)
      ≡ sends (sent other_agent_at asks.denied_other ∷ [])

-- a primary with this queue
abbrev pub queued : List LogCommand → Manager
queued commands = record elected { queue = commands }

-- The queue: what is queued isn't queued again, what comes later stands behind, and 4,096 are the most.
pub record Queues : Type 0 where
  pub outstanding : of (of_agent asks.ask_2 hears_ask.state) ≡ no_step
  pub waits : (of_agent asks.ask_2 hears_ask.state).state.queue ≡ Reserve 0 1 machine 2 ∷ []
  pub behind : (of_agent asks.up_2 (of_agent asks.ask_2 hears_ask.state).state).state.queue
      ≡ Reserve 0 1 machine 2 ∷ Up 0 2 ∷ []
  pub again : of (of_agent asks.ask_2 (of_agent asks.ask_2 hears_ask.state).state) ≡ dropped Waiting
  pub full : of (of_agent asks.up_2 (queued (map Release (range_with_len 1 4096)))) ≡ dropped QueueFull
  pub full_again : of (of_agent asks.up_2 (queued (Up 0 2 ∷ map Release (range_with_len 1 4095)))) ≡ dropped Waiting
  pub other_agent : (of_agent asks.up_2 (queued (Up 1 2 ∷ []))).notes ≡ []
  pub other_boot : (of_agent asks.up_2 (queued (Up 0 3 ∷ []))).notes ≡ []
  pub other_ask : (of_agent run.ask (queued (Reserve 0 2 machine 1 ∷ []))).notes ≡ []
  pub other_machine : (of_agent run.ask (queued (Reserve 0 1 other_machine 1 ∷ []))).notes ≡ []
  pub other_asker : (of_agent run.ask (queued (Reserve 1 1 machine 1 ∷ []))).notes ≡ []
  pub not_full : (of_agent asks.up_2 (queued (map Release (range_with_len 1 4095)))).notes ≡ []

-- Denied: no range was free at the place of the request, or the machine had as many rows as it may.
pub record Denies : Type 0 where
  pub asked : step_of one_range
      (hears one_range (primary one_range (reserve_1 ∷ granted_1 ∷ [])) agent_at asks.ask_other)
      ≡ sends (to_each all_five asks.accept_other)
  pub exhausted : step_of one_range (agreed one_range
      (hears one_range (primary one_range (reserve_1 ∷ granted_1 ∷ [])) agent_at asks.ask_other).state asks.accepted_2)
      ≡ keeps asks.learned_other
      (sends (to_each four_others asks.chosen_other ++ sent agent_at asks.denied_exhausted ∷ []))
  pub at_limit : step_of one_row (agreed one_row
      (hears one_row (primary one_row (reserve_1 ∷ granted_1 ∷ [])) agent_at asks.ask_2).state asks.accepted_2)
      ≡ keeps asks.learned_ask_2
      (sends (to_each four_others asks.chosen_ask_2 ++ sent agent_at asks.denied_at_limit ∷ []))
  pub third : (step_of one_row (agreed one_row
      (hears one_row (primary one_row (reserve_1 ∷ granted_1 ∷ [])) agent_at asks.ask_3).state asks.accepted_2)).sends
      ≡ to_each four_others asks.chosen_ask_3 ++ sent agent_at asks.denied_third ∷ []
  pub other_told : drop 4 (step_of one_row_each (agreed one_row_each
      (hears one_row_each
      (primary one_row_each ((Reserve 1 1 other_machine 1 ∷ []) ∷ granted_1 ∷ []))
      other_agent_at asks.ask_other_2).state
      asks.accepted_2)).sends
      ≡ sent other_agent_at asks.denied_other ∷ []

-- a lease that the machine has, and the mux
abbrev pub leased : Manager
leased = (hears run_config (with_log (reserve_1 ∷ granted_1 ∷ [])) mux_at run.hello).state

-- Return: Unknown where no place has the number, NotMine where the row isn't of that agent and boot, Returned where the
-- lease has ended. Else it is agreed on, and then the row is Freeing, and the agent and the mux are told.
pub record Returns : Type 0 where
  pub zero : of (of_agent asks.return_0 leased) ≡ dropped Unknown
  pub beyond : of (of_agent asks.return_17 (with_log (reserve_1 ∷ []))) ≡ dropped Unknown
  pub no_row : of (of_agent asks.return_16 (with_log (reserve_1 ∷ []))) ≡ sends (sent agent_at asks.returned_16 ∷ [])
  pub other_agent : step_of two_each (hears two_each (primary two_each (reserve_1 ∷ [])) other_agent_at asks.return_1)
      ≡ dropped NotMine
  pub other_told : step_of two_each (hears two_each (primary two_each (reserve_1 ∷ [])) other_agent_at asks.return_16)
      ≡ sends (sent other_agent_at asks.returned_16 ∷ [])
  pub other_learned : (step_of two_each (agreed two_each
      (hears two_each other_leased other_agent_at asks.return_1).state asks.accepted_2)).sends
      ≡ to_each four_others asks.chosen_release ++ sent other_agent_at asks.returned_1 ∷ []
  pub other_boot : of (of_agent asks.return_in_2 leased) ≡ dropped NotMine
  pub ended : of (of_agent asks.return_1 (with_log (reserve_1 ∷ release_1 ∷ [])))
      ≡ sends (sent agent_at asks.returned_1 ∷ [])
  pub taken : of (of_agent asks.return_1 leased) ≡ sends (to_each all_five asks.accept_release)
  pub again : of (of_agent asks.return_1 (of_agent asks.return_1 leased).state) ≡ dropped Waiting
  pub learned : of (agreed run_config (of_agent asks.return_1 leased).state asks.accepted_2)
      ≡ keeps asks.learned_release (does (act.Free 1 ∷ [])
      (sends (to_each four_others asks.chosen_release
      ++ sent agent_at asks.returned_1 ∷ sent mux_at muxes.unprogram ∷ [])))
  pub learned_in_2 : of (agreed run_config
      (of_agent asks.return_17_in_2 (hears run_config granted_17 mux_at run.hello).state).state muxes.accepted_freed)
      ≡ keeps asks.learned_release_17 (does (act.Free 17 ∷ [])
      (sends (to_each four_others asks.chosen_release_17
      ++ sent agent_at asks.returned_17_in_2 ∷ sent mux_at muxes.unprogram_17 ∷ [])))
  pub other_waits : (of_agent asks.return_1 (record leased { queue = Release 2 ∷ [] })).notes ≡ []

-- a primary that knows the agent in boot 2, with a lease of that boot
abbrev pub known_in_2 : Manager
known_in_2 = with_log (up 0 2 ∷ (Reserve 0 2 machine 1 ∷ []) ∷ [])

-- AgentUp: Late below the known boot, told again at it. Above it, it is agreed on: the agent is told, and its leases of
-- earlier boots end.
pub record Ups : Type 0 where
  pub earlier : of (of_agent asks.up_1 known_in_2) ≡ dropped Late
  pub known : of (of_agent asks.up_2 known_in_2) ≡ sends (sent agent_at asks.known_2 ∷ [])
  pub other_told : step_of two_each (hears two_each (primary two_each (up 1 2 ∷ [])) other_agent_at asks.up_2)
      ≡ sends (sent other_agent_at asks.known_2 ∷ [])
  pub other_later : value_out (hears two_each (primary two_each []) other_agent_at asks.up_2).state.memory.leader.out
      ≡ Some (up 1 2)
  pub other_learned : (step_of two_each (agreed two_each
      (hears two_each (primary two_each []) other_agent_at asks.up_2).state run.accepted_reserve)).sends
      ≡ to_each four_others asks.chosen_up_other ++ sent other_agent_at asks.known_2 ∷ []
  pub later : of (of_agent asks.up_3 known_in_2) ≡ sends (to_each all_five asks.accept_up)
  pub again : of (of_agent asks.up_3 (of_agent asks.up_3 known_in_2).state) ≡ dropped Waiting
  pub learned : of (agreed run_config (of_agent asks.up_3 known_in_2).state asks.accepted_2)
      ≡ keeps asks.learned_up (does (act.Free 17 ∷ [])
      (sends (to_each four_others asks.chosen_up ++ sent agent_at asks.known_3 ∷ [])))

-- After an answer comes the proposal of what is queued.
pub record ProposesAfter : Type 0 where
  pub grant : of (of_agent run.ask (record grants.state { queue = up 0 2 }))
      ≡ sends (sent agent_at run.grant ∷ to_each all_five asks.accept_up_2_later)
  pub denied : (hears one_row
      (record (primary one_row (reserve_1 ∷ granted_1 ∷ (Reserve 0 1 machine 2 ∷ []) ∷ [])) { queue = up 0 2 })
      agent_at asks.ask_2).state.queue ≡ []
  pub returned : (of_agent asks.return_16 (record (with_log (reserve_1 ∷ [])) { queue = up 0 2 })).state.queue ≡ []
  pub known : (of_agent asks.up_2 (record known_in_2 { queue = release_1 })).state.queue ≡ []
