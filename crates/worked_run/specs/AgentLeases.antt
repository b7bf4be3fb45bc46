-- Rows of the host agent on leases: what is held and asked, which Grants are taken, and what the clock does.
use Rattle.std.specs.Prelude.{ℕ, zero, suc, List, [], ◌∷◌, ◌++◌, ◌≡◌}
use Rattle.wire_core.specs.Steps.{no_step}
use Rattle.wire_core.specs.declared.act.Act.TheVariants.{Close, Drop, Hold, Open}
use Rattle.wire_core.specs.declared.cause.DropCause.TheVariants.{Denied, Late, NotMine, OldGrant, QueueFull, WrongBoot}
use Rattle.wire_core.specs.declared.entry.Entry.TheVariants.{Boot}
use Rattle.wire_core.specs.declared.note.Note.TheVariants.{Dropped, Queued}
use Rattle.wire_core.specs.declared.step.Step.{Step}
use Rattle.node_spec.specs.Turns.{Turn}
use Rattle.node_spec.specs.Steps.{step_of}
use Rattle.agent_spec.specs.Agent.{Agent, opened_agent}
use Rattle.worked_run.specs.Configs.{run_config, two_each, machine, machine_at, replica_at, router_at}
use Rattle.worked_run.specs.Run.{ask, grant, packet_left, packet_out}
use Rattle.worked_run.specs.Leasing as leasing
use Rattle.worked_run.specs.AgentRun.{agent_hears, agent_ticks, connection, gets_range, holds_packet, opened_first}
use Rattle.worked_run.specs.Steps.{sent, all_five, to_each, sends, does, dropped}

-- under the run's configuration
abbrev pub of_agent : Turn Agent → Step
of_agent t = step_of run_config t

-- what replica 0 says, and what the machine sends
abbrev pub told : Agent → List ℕ → Turn Agent
told a bytes = agent_hears run_config a (replica_at 0) bytes

abbrev pub brings : Agent → List ℕ → Turn Agent
brings a bytes = agent_hears run_config a machine_at bytes

-- an agent that does nothing but drop
abbrev pub fresh : Agent
fresh = opened_first run_config

-- ---- held packets

-- the agent after so many packets
abbrev pub held_after : ℕ → Agent
held_after zero = fresh
held_after (suc n) = (brings (held_after n) packet_out).state

-- so many of one
abbrev pub copies : {X : Type 0} → X → ℕ → List X
copies x zero = []
copies x (suc n) = x ∷ copies x n

-- Packets without a port are held, up to 64; the first asks. With the Grant they leave in their order.
pub record Holds : Type 0 where
  pub second : of_agent (brings holds_packet.state packet_out) ≡ record no_step { notes = Queued machine 2 ∷ [] }
  pub last : of_agent (brings (held_after 63) packet_out) ≡ record no_step { notes = Queued machine 64 ∷ [] }
  pub full : of_agent (brings (held_after 64) packet_out) ≡ dropped QueueFull
  pub leave : of_agent (told (held_after 64) grant)
      ≡ does (Hold 1 ∷ Open connection ∷ []) (sends (copies (sent router_at packet_left) 64))

-- Denied: the ask is over, each held packet is dropped, and the next packet asks again, the replica that said so. One
-- that isn't of the ask that is out is late.
pub record Denies : Type 0 where
  pub both : of_agent (told (held_after 2) leasing.denied_1)
      ≡ record no_step { notes = Dropped Denied ∷ Dropped Denied ∷ [] }
  pub asks_again : of_agent (brings
      (agent_hears run_config holds_packet.state (replica_at 3) leasing.denied_1).state
      packet_out)
      ≡ record no_step { notes = Queued machine 1 ∷ []; sends = sent (replica_at 3) leasing.ask_2 ∷ [] }
  pub other : of_agent (told holds_packet.state leasing.denied_2) ≡ dropped Late
  pub no_ask : of_agent (told fresh leasing.denied_1) ≡ dropped Late
  pub boot : of_agent (told holds_packet.state leasing.denied_in_2) ≡ dropped (WrongBoot 1)

-- ---- grants

-- an agent that holds the range, without packets
abbrev pub holding : Agent
holding = (told fresh grant).state

-- an agent in its second boot
abbrev pub again : Agent
again = opened_agent run_config 0 (Boot 1 3 0 1 ∷ Boot 1 3 0 2 ∷ [])

-- Grant: not of another boot; not for a machine or a range that isn't its own; once. Nothing is asked for without
-- packets.
pub record GrantsTaken : Type 0 where
  pub alone : of_agent (told fresh grant) ≡ does (Hold 1 ∷ []) no_step
  pub boot : of_agent (told again grant) ≡ dropped (WrongBoot 2)
  pub boot_leaves : (told again grant).state ≡ again
  pub foreign : of_agent (told fresh leasing.grant_foreign) ≡ dropped NotMine
  pub above : step_of two_each (agent_hears two_each (opened_first two_each) (replica_at 0) leasing.grant_above)
      ≡ dropped NotMine
  pub twice : of_agent (told holding grant) ≡ dropped (OldGrant 1)
  pub held_range : of_agent (told holding leasing.grant_17_first) ≡ dropped (OldGrant 1)
  pub held_number : of_agent (told holding leasing.grant_1_second) ≡ dropped (OldGrant 0)
  pub second_range : of_agent (told holding leasing.grant_17) ≡ does (Hold 17 ∷ []) no_step

-- ---- the clock

-- the connection is idle, then the range
abbrev pub idle_once : Turn Agent
idle_once = agent_ticks run_config gets_range.state 70000

abbrev pub idle_twice : Turn Agent
idle_twice = agent_ticks run_config idle_once.state 100000

-- A connection closes after 60 seconds, its range is given back 30 seconds later. AgentUp, the asks and the returns are
-- said again until they are answered.
pub record Idles : Type 0 where
  pub not_yet : of_agent (agent_ticks run_config gets_range.state 59999) ≡ sends (to_each all_five leasing.up_1)
  pub connection : of_agent idle_once ≡ does (Close connection ∷ []) (sends (to_each all_five leasing.up_1))
  pub range_not_yet : of_agent (agent_ticks run_config idle_once.state 99999) ≡ sends (to_each all_five leasing.up_1)
  pub range : of_agent idle_twice
      ≡ does (Drop 1 ∷ []) (sends (to_each all_five leasing.up_1 ++ to_each all_five leasing.gives_back_1))
  pub again : of_agent (agent_ticks run_config idle_twice.state 100000)
      ≡ sends (to_each all_five leasing.up_1 ++ to_each all_five leasing.gives_back_1)
  pub returned : of_agent (agent_ticks run_config (told idle_twice.state leasing.returned_1).state 100000)
      ≡ sends (to_each all_five leasing.up_1)
  pub known : of_agent (agent_ticks run_config (told fresh leasing.known_1).state 1000) ≡ no_step
  pub not_known : of_agent (agent_ticks run_config (told fresh leasing.known_2).state 1000)
      ≡ sends (to_each all_five leasing.up_1)
  pub never_again : of_agent (told idle_twice.state grant) ≡ dropped (OldGrant 1)
  pub never_again_returned : of_agent (told (told idle_twice.state leasing.returned_1).state grant)
      ≡ dropped (OldGrant 1)
  pub unused : of_agent (agent_ticks run_config holding 30000)
      ≡ does (Drop 1 ∷ []) (sends (to_each all_five leasing.up_1 ++ to_each all_five leasing.gives_back_1))

-- An ask that is out for half a second goes to all five, and again half a second later.
pub record AsksAgain : Type 0 where
  pub not_yet : of_agent (agent_ticks run_config holds_packet.state 499) ≡ sends (to_each all_five leasing.up_1)
  pub due : of_agent (agent_ticks run_config holds_packet.state 500)
      ≡ sends (to_each all_five leasing.up_1 ++ to_each all_five ask)
  pub renewed : of_agent (agent_ticks run_config (agent_ticks run_config holds_packet.state 500).state 999)
      ≡ sends (to_each all_five leasing.up_1)
  pub renewed_due : of_agent (agent_ticks run_config (agent_ticks run_config holds_packet.state 500).state 1000)
      ≡ sends (to_each all_five leasing.up_1 ++ to_each all_five ask)

-- Returned and AgentKnown: of the own boot alone, and of a number that is given back.
pub record Answered : Type 0 where
  pub returned : of_agent (told idle_twice.state leasing.returned_1) ≡ no_step
  pub returned_boot : of_agent (told idle_twice.state leasing.returned_in_2) ≡ dropped (WrongBoot 1)
  pub returned_late : of_agent (told fresh leasing.returned_1) ≡ dropped Late
  pub known : of_agent (told fresh leasing.known_1) ≡ no_step
  pub known_boot : of_agent (told fresh leasing.known_2) ≡ dropped (WrongBoot 1)
  pub hint : of_agent (brings (agent_hears run_config fresh (replica_at 2) leasing.known_1).state packet_out)
      ≡ record no_step { notes = Queued machine 1 ∷ []; sends = sent (replica_at 2) ask ∷ [] }
