-- Rows of the host agent on ranges: in which order they are used and given back, which port is free, what stays held.
use Rattle.std.specs.Prelude.{ℕ, zero, suc, ◌+◌, ◌-◌, ◌^◌, true, false, List, [], ◌∷◌, ◌++◌, map, length, None, ◌≡◌}
use Rattle.std.specs.List.{flat_map, range_with_len}
use Rattle.wire_core.specs.Steps.{no_step}
use Rattle.wire_core.specs.declared.act.Act.{Act}
use Rattle.wire_core.specs.declared.act.Act.TheVariants.{Close, Drop, Hold, Open}
use Rattle.wire_core.specs.declared.address.Socket.{Socket}
use Rattle.wire_core.specs.declared.cause.DropCause.TheVariants.{Late, NotMine, OldGrant}
use Rattle.wire_core.specs.declared.connection.Conn.{Conn}
use Rattle.wire_core.specs.declared.entry.Entry.TheVariants.{Boot}
use Rattle.wire_core.specs.declared.note.Note.TheVariants.{Queued}
use Rattle.wire_core.specs.declared.outgoing.Outgoing.{Outgoing}
use Rattle.wire_core.specs.declared.step.Step.{Step}
use Rattle.vip_config.specs.declared.parts.ConfigParts.{ConfigParts}
use Rattle.node_spec.specs.Turns.{Turn}
use Rattle.node_spec.specs.Steps.{step_of}
use Rattle.agent_spec.specs.Agent.{Agent, opened_agent}
use Rattle.worked_run.specs.Configs.{run_config, two_each, one_range, agent, agent_at, ip, machine, machine_at}
use Rattle.worked_run.specs.Configs.{other_machine, other_machine_at, replica_at, router_at}
use Rattle.worked_run.specs.Run.{ask, grant, packet_left, packet_out}
use Rattle.worked_run.specs.Leasing as leasing
use Rattle.worked_run.specs.AgentRun.{agent_hears, agent_ticks, connection, holds_packet, opened_first, shared}
use Rattle.worked_run.specs.AgentLeases.{again, brings, fresh, holding, idle_twice, of_agent, told}
use Rattle.worked_run.specs.Steps.{sent, all_five, to_each, sends, does, dropped}

-- at this time, under the run's configuration
abbrev pub at_time : ℕ → Agent → Turn Agent
at_time now a = agent_ticks run_config a now

-- AgentUp and more to all five
abbrev pub up_and : List (List ℕ) → Step
up_and others = sends (to_each all_five leasing.up_1 ++ flat_map (to_each all_five) others)

-- a machine's attach socket has another address than the machine
abbrev pub attached_apart : ConfigParts
attached_apart = record run_config {
  agents = agent agent_at (record { address = machine; attach = other_machine_at } ∷ []) ∷ [];
}

-- As an agent opens: its boot by its entries, its own machines, and else nothing. One that isn't configured has none.
pub record Opens : Type 0 where
  pub second : opened_agent two_each 1 (Boot 1 3 1 1 ∷ Boot 1 3 1 2 ∷ [])
      ≡ record {
        index = 1;
        boot = 2;
        known = false;
        hint = 0;
        hosts = record { machine = other_machine; queue = []; seq = 0; ask = None } ∷ [];
        traffic = record {
          ranges = record { held = []; kept = []; returning = [] };
          conns = [];
          inbound = [];
          time = 0;
        };
      }
  pub by_address : (opened_agent attached_apart 0 []).hosts
      ≡ record { machine = machine; queue = []; seq = 0; ask = None } ∷ []
  pub nobody : (opened_agent two_each 2 []).hosts ≡ []

-- ---- two ranges

-- lease 17 came first, and then lease 1
abbrev pub two_ranges : Agent
two_ranges = (told (told fresh leasing.grant_17).state grant).state

-- both are given back at once
abbrev pub both_back : Turn Agent
both_back = at_time 30000 two_ranges

-- Ranges are used and given back by their numbers, in whichever order they came, each by its own connections; a number
-- returns until it is answered itself, and till then it isn't taken for another range.
pub record InOrder : Type 0 where
  pub least : of_agent (brings two_ranges packet_out)
      ≡ does (Open connection ∷ []) (sends (sent router_at packet_left ∷ []))
  pub both : of_agent both_back
      ≡ does (Drop 1 ∷ Drop 17 ∷ []) (up_and (leasing.gives_back_1 ∷ leasing.gives_back_17 ∷ []))
  pub unused : of_agent (at_time 30000 (brings two_ranges packet_out).state)
      ≡ does (Drop 17 ∷ []) (up_and (leasing.gives_back_17 ∷ []))
  pub other_held : of_agent (brings (at_time 30000 (brings two_ranges packet_out).state).state leasing.to_8)
      ≡ does
      (Open (record connection { remote = ip 198 51 100 8 }) ∷ [])
      (sends (sent router_at leasing.to_8_left ∷ []))
  pub one_returned : of_agent (at_time 30000 (told both_back.state leasing.returned_1).state)
      ≡ up_and (leasing.gives_back_17 ∷ [])
  pub other_returned : of_agent (told idle_twice.state leasing.returned_17) ≡ dropped Late
  pub number_returns : of_agent (told idle_twice.state leasing.grant_1_second) ≡ dropped (OldGrant 0)
  pub later : of_agent (at_time 99999 (told (at_time 70000 fresh).state grant).state) ≡ up_and []

-- ---- the ports of a range

-- after so many packets, each from a port of its own
abbrev pub after_packets : Agent → ℕ → Agent
after_packets a zero = a
after_packets a (suc n) = (brings (after_packets a n) (leasing.from_port n)).state

-- the connection of such a packet
abbrev pub conn_at : ℕ → Conn
conn_at i = record connection { port = 1024 + i; sport = 5000 + i }

-- lease 1, told by replica 3; lease 1 on the last range of all
abbrev pub holding_by_3 : Agent
holding_by_3 = (agent_hears run_config fresh (replica_at 3) grant).state

abbrev pub holding_last : Agent
holding_last = (told fresh leasing.grant_last).state

-- A range has eight ports; then comes that of the next number. Where none is left a packet is held, and the replica is
-- asked that told last.
pub record EightPorts : Type 0 where
  pub eighth : of_agent (brings (after_packets holding 7) (leasing.from_port 7))
      ≡ does (Open (conn_at 7) ∷ []) (sends (sent router_at (leasing.from_port_left 7) ∷ []))
  pub ninth : of_agent (brings (after_packets two_ranges 8) (leasing.from_port 8))
      ≡ does (Open (conn_at 8) ∷ []) (sends (sent router_at (leasing.from_port_left 8) ∷ []))
  pub held : of_agent (brings (after_packets holding_by_3 8) (leasing.from_port 8))
      ≡ record no_step { notes = Queued machine 1 ∷ []; sends = sent (replica_at 3) ask ∷ [] }
  pub last_port : of_agent (brings (after_packets holding_last 7) (leasing.from_port 7))
      ≡ does
      (Open (record connection { port = 65535; sport = 5007 }) ∷ [])
      (sends (sent router_at leasing.from_last_left ∷ []))

-- ten packets wait, and the range of lease 1 comes from replica 3
abbrev pub eight_leave : Turn Agent
eight_leave = agent_hears run_config (after_packets fresh 10) (replica_at 3) grant

-- the range of lease 17 comes, and it isn't that of the ask that is out
abbrev pub all_leave : Turn Agent
all_leave = told eight_leave.state leasing.grant_17

-- the numbers from the first on, so many
abbrev pub numbers : ℕ → ℕ → List ℕ
numbers first count = map (λ i. first + i) (range_with_len 0 count)

-- the connections of packets, and the packets as they leave
abbrev pub opened : List ℕ → List Act
opened xs = map (λ i. Open (conn_at i)) xs

abbrev pub left : List ℕ → List Outgoing
left xs = map (λ i. sent router_at (leasing.from_port_left i)) xs

-- Held packets leave in their order, and those without a port stay in theirs; for them the next range is asked for. A
-- Grant that isn't of the ask that is out leaves the ask. A range isn't given back while its machine holds a packet.
pub record StayHeld : Type 0 where
  pub in_order : of_agent (told (after_packets fresh 2) grant)
      ≡ does (Hold 1 ∷ opened (0 ∷ 1 ∷ [])) (sends (left (0 ∷ 1 ∷ [])))
  pub eight : of_agent eight_leave
      ≡ does
      (Hold 1 ∷ opened (numbers 0 8))
      (sends (left (numbers 0 8) ++ sent (replica_at 3) leasing.ask_2 ∷ []))
  pub others : of_agent all_leave ≡ does (Hold 17 ∷ opened (8 ∷ 9 ∷ [])) (sends (left (8 ∷ 9 ∷ [])))
  pub still_asked : of_agent (at_time 500 all_leave.state) ≡ up_and (leasing.ask_2 ∷ [])
  pub all_idle : of_agent (at_time 60000 eight_leave.state)
      ≡ does (map (λ i. Close (conn_at i)) (numbers 0 8)) (up_and (leasing.ask_2 ∷ []))
  pub kept : of_agent (at_time 90000 (at_time 60000 eight_leave.state).state) ≡ up_and (leasing.ask_2 ∷ [])

-- ---- asks

-- the machine asked so often
abbrev pub asked_often : ℕ → Agent
asked_often seq = record fresh {
  hosts = record { machine = machine; queue = []; seq = seq; ask = None } ∷ [];
}

-- 65 numbers return
abbrev pub many_return : Agent
many_return = record fresh {
  known = true;
  traffic = record fresh.traffic { ranges = record fresh.traffic.ranges { returning = numbers 1 65 } };
}

-- The number of an Ask has 64 bits. An Ask is due half a second after it was said, whatever ticks come before; what is
-- said has the own boot; first AgentUp, then the asks, then the first 64 returns. Each answer that is taken sets whom
-- the next Ask is for, and the time never goes back.
pub record AsksLater : Type 0 where
  pub last : of_agent (brings (asked_often (2 ^ 64 - 2)) packet_out)
      ≡ record no_step { notes = Queued machine 1 ∷ []; sends = sent (replica_at 0) leasing.ask_last ∷ [] }
  pub no_more : of_agent (brings (asked_often (2 ^ 64 - 1)) packet_out)
      ≡ record no_step { notes = Queued machine 1 ∷ [] }
  pub not_yet : of_agent (at_time 70499 (brings (at_time 70000 fresh).state packet_out).state) ≡ up_and []
  pub ticks_between : of_agent (at_time 500 (at_time 499 holds_packet.state).state) ≡ up_and (ask ∷ [])
  pub second_boot : of_agent (brings again packet_out)
      ≡ record no_step { notes = Queued machine 1 ∷ []; sends = sent (replica_at 0) leasing.ask_in_2 ∷ [] }
  pub second_boot_again : of_agent (at_time 500 (brings again packet_out).state)
      ≡ sends (to_each all_five leasing.up_2 ++ to_each all_five leasing.ask_in_2)
  pub second_boot_returns : of_agent (at_time 30000 (told again leasing.grant_in_2).state)
      ≡ does (Drop 1 ∷ []) (sends (to_each all_five leasing.up_2 ++ to_each all_five leasing.gives_back_in_2))
  pub order : of_agent (at_time 100500 (brings idle_twice.state packet_out).state)
      ≡ up_and (leasing.ask_2 ∷ leasing.gives_back_1 ∷ [])
  pub returns : length (of_agent (at_time 0 many_return)).sends ≡ 320
  pub returned_by : of_agent
      (brings (agent_hears run_config idle_twice.state (replica_at 4) leasing.returned_1).state packet_out)
      ≡ record no_step { notes = Queued machine 1 ∷ []; sends = sent (replica_at 4) leasing.ask_2 ∷ [] }
  pub never_back : (at_time 500 (at_time 1000 fresh).state).state.traffic.time ≡ 1000

-- ---- two machines

-- what comes to an agent of two machines
abbrev pub comes : Agent → Socket → List ℕ → Turn Agent
comes a from bytes = agent_hears one_range a from bytes

abbrev pub of_two : Turn Agent → Step
of_two t = step_of one_range t

-- the first machine holds a packet, then both do
abbrev pub one_holds : Agent
one_holds = (comes (opened_first one_range) machine_at packet_out).state

abbrev pub both_hold : Turn Agent
both_hold = comes one_holds other_machine_at leasing.of_server

-- the first machine has the range, and the second holds a packet
abbrev pub first_has : Agent
first_has = (comes (opened_first one_range) (replica_at 0) grant).state

abbrev pub second_waits : Turn Agent
second_waits = comes first_has other_machine_at leasing.of_server

-- the second machine's packet is held, and a range asked for
abbrev pub second_asks : Step
second_asks = record no_step {
  notes = Queued other_machine 1 ∷ [];
  sends = sent (replica_at 0) leasing.ask_other ∷ [];
}

-- Each machine has packets, asks and ranges of its own. A Grant is for an own machine that leaves from the range's VIP,
-- and a Denied for an own machine.
pub record OwnMachines : Type 0 where
  pub own_queue : of_two both_hold ≡ second_asks
  pub own_range : of_two second_waits ≡ second_asks
  pub own_packet : of_two (comes both_hold.state (replica_at 0) grant)
      ≡ does (Hold 1 ∷ Open connection ∷ []) (sends (sent router_at packet_left ∷ []))
  pub by_configuration : of_two (agent_ticks one_range both_hold.state 500)
      ≡ up_and (ask ∷ leasing.ask_other ∷ [])
  pub given_back : of_two (agent_ticks one_range second_waits.state 30000)
      ≡ does (Drop 1 ∷ []) (up_and (leasing.ask_other ∷ leasing.gives_back_1 ∷ []))
  pub no_snat : step_of shared (agent_hears shared (opened_first shared) (replica_at 0) leasing.grant_other)
      ≡ dropped NotMine
  pub denied : of_agent (told fresh leasing.denied_foreign) ≡ dropped Late
