-- The worked run: its events, and the lines that are written of each. One mux, one agent with one machine.
use Rattle.std.specs.Prelude.{◌≡◌, List, [], ◌∷◌, ◌++◌, drop}
use Rattle.wire_core.specs.declared.act.Act.TheVariants.{Reserve, Grant, Hold, Open, Hand}
use Rattle.wire_core.specs.declared.cause.DropCause.TheVariants.{Late}
use Rattle.wire_core.specs.declared.connection.Conn.{Conn}
use Rattle.wire_core.specs.declared.flow.Proto.TheVariants.{Udp}
use Rattle.wire_core.specs.declared.node.NodeId.TheVariants.{Replica, Mux, Agent}
use Rattle.wire_core.specs.declared.note.Note.TheVariants.{Queued, Dropped}
use Rattle.wire_core.specs.declared.range.Range.{Range}
use Rattle.schedule_text.specs.declared.event.Event.{Event}
use Rattle.schedule_text.specs.declared.event.Event.TheVariants.{Single, Settle}
use Rattle.schedule_text.specs.declared.event.Single.TheVariants.{Tick, Inject}
use Rattle.schedule_text.specs.declared.line.Line.{Line}
use Rattle.schedule_text.specs.declared.line.Line.TheVariants as line
use Rattle.world_spec.specs.World.{World, first_world}
use Rattle.world_spec.specs.Transcript.{applied}
use Rattle.worked_run.specs.Configs.{run_config, ip, vip, machine, machine_at, replica_at, mux_at, agent_at, router_at}
use Rattle.worked_run.specs.Run.{packet_out, packet_left, reply_in, reply_wrapped, reply_handed, hello, prepare, promise}
use Rattle.worked_run.specs.Run.{ask, accept_reserve, accepted_reserve, chosen_reserve, program, programmed}
use Rattle.worked_run.specs.Run.{accept_granted, accepted_granted, chosen_granted, grant}

-- the first range of the VIP
abbrev pub first_range : Range
first_range = record { vip = vip; start = 1024 }

-- the connection that the machine's packet opens
abbrev pub connection : Conn
connection = record {
  vip = vip;
  proto = Udp;
  port = 1024;
  remote = ip 198 51 100 7;
  rport = 53;
  machine = machine;
  sport = 5000;
}

-- ---- events

-- the mux ticks: all five replicas hear of it
abbrev pub mux_ticks : Event
mux_ticks = Single (Tick (Mux 0) 1000)

-- they do, and say nothing
abbrev pub hellos_arrive : Event
hellos_arrive = Settle 5

-- replica 0 ticks: it runs for primary
abbrev pub replica_ticks : Event
replica_ticks = Single (Tick (Replica 0) 1000)

-- all promise; the third promise elects it
abbrev pub it_is_elected : Event
it_is_elected = Settle 10

-- a machine sends a packet: its agent holds it and asks for a range
abbrev pub machine_sends : Event
machine_sends = Single (Inject (Agent 0) machine_at packet_out)

-- the range is reserved, programmed and granted, and the packet leaves
abbrev pub range_is_leased : Event
range_is_leased = Settle 32

-- the reply comes to the mux
abbrev pub remote_answers : Event
remote_answers = Single (Inject (Mux 0) router_at reply_in)

-- the agent restores it and hands it to the machine
abbrev pub reply_is_handed : Event
reply_is_handed = Settle 1

-- ---- the worlds between them

abbrev pub world_0 : World
world_0 = first_world run_config

abbrev pub world_1 : World
world_1 = (applied run_config world_0 mux_ticks).0

abbrev pub world_2 : World
world_2 = (applied run_config world_1 hellos_arrive).0

abbrev pub world_3 : World
world_3 = (applied run_config world_2 replica_ticks).0

abbrev pub world_4 : World
world_4 = (applied run_config world_3 it_is_elected).0

abbrev pub world_5 : World
world_5 = (applied run_config world_4 machine_sends).0

abbrev pub world_6 : World
world_6 = (applied run_config world_5 range_is_leased).0

abbrev pub world_7 : World
world_7 = (applied run_config world_6 remote_answers).0

abbrev pub world_8 : World
world_8 = (applied run_config world_7 reply_is_handed).0

-- ---- lines

abbrev pub mux_ticks_lines : List Line
mux_ticks_lines =
    line.Sent 1 (Mux 0) (replica_at 0) hello
    ∷ line.Sent 2 (Mux 0) (replica_at 1) hello
    ∷ line.Sent 3 (Mux 0) (replica_at 2) hello
    ∷ line.Sent 4 (Mux 0) (replica_at 3) hello
    ∷ line.Sent 5 (Mux 0) (replica_at 4) hello
    ∷ []

abbrev pub hellos_arrive_lines : List Line
hellos_arrive_lines =
    line.Delivery 1
    ∷ line.Delivery 2
    ∷ line.Delivery 3
    ∷ line.Delivery 4
    ∷ line.Delivery 5
    ∷ []

abbrev pub replica_ticks_lines : List Line
replica_ticks_lines =
    line.Sent 6 (Replica 0) (replica_at 0) prepare
    ∷ line.Sent 7 (Replica 0) (replica_at 1) prepare
    ∷ line.Sent 8 (Replica 0) (replica_at 2) prepare
    ∷ line.Sent 9 (Replica 0) (replica_at 3) prepare
    ∷ line.Sent 10 (Replica 0) (replica_at 4) prepare
    ∷ []

abbrev pub it_is_elected_lines : List Line
it_is_elected_lines =
    line.Delivery 6
    ∷ line.Sent 11 (Replica 0) (replica_at 0) promise
    ∷ line.Delivery 7
    ∷ line.Sent 12 (Replica 1) (replica_at 0) promise
    ∷ line.Delivery 8
    ∷ line.Sent 13 (Replica 2) (replica_at 0) promise
    ∷ line.Delivery 9
    ∷ line.Sent 14 (Replica 3) (replica_at 0) promise
    ∷ line.Delivery 10
    ∷ line.Sent 15 (Replica 4) (replica_at 0) promise
    ∷ line.Delivery 11
    ∷ line.Delivery 12
    ∷ line.Delivery 13
    ∷ line.Delivery 14
    ∷ line.Note (Dropped Late)
    ∷ line.Delivery 15
    ∷ line.Note (Dropped Late)
    ∷ []

abbrev pub machine_sends_lines : List Line
machine_sends_lines =
    line.Note (Queued machine 1)
    ∷ line.Sent 16 (Agent 0) (replica_at 0) ask
    ∷ []

abbrev pub range_is_leased_lines : List Line
range_is_leased_lines =
    line.Delivery 16
    ∷ line.Sent 17 (Replica 0) (replica_at 0) accept_reserve
    ∷ line.Sent 18 (Replica 0) (replica_at 1) accept_reserve
    ∷ line.Sent 19 (Replica 0) (replica_at 2) accept_reserve
    ∷ line.Sent 20 (Replica 0) (replica_at 3) accept_reserve
    ∷ line.Sent 21 (Replica 0) (replica_at 4) accept_reserve
    ∷ line.Delivery 17
    ∷ line.Sent 22 (Replica 0) (replica_at 0) accepted_reserve
    ∷ line.Delivery 18
    ∷ line.Sent 23 (Replica 1) (replica_at 0) accepted_reserve
    ∷ line.Delivery 19
    ∷ line.Sent 24 (Replica 2) (replica_at 0) accepted_reserve
    ∷ line.Delivery 20
    ∷ line.Sent 25 (Replica 3) (replica_at 0) accepted_reserve
    ∷ line.Delivery 21
    ∷ line.Sent 26 (Replica 4) (replica_at 0) accepted_reserve
    ∷ line.Delivery 22
    ∷ line.Delivery 23
    ∷ line.Delivery 24
    ∷ line.Act (Reserve 1 first_range machine)
    ∷ line.Sent 27 (Replica 0) (replica_at 1) chosen_reserve
    ∷ line.Sent 28 (Replica 0) (replica_at 2) chosen_reserve
    ∷ line.Sent 29 (Replica 0) (replica_at 3) chosen_reserve
    ∷ line.Sent 30 (Replica 0) (replica_at 4) chosen_reserve
    ∷ line.Sent 31 (Replica 0) (mux_at) program
    ∷ line.Delivery 25
    ∷ line.Note (Dropped Late)
    ∷ line.Delivery 26
    ∷ line.Note (Dropped Late)
    ∷ line.Delivery 27
    ∷ line.Delivery 28
    ∷ line.Delivery 29
    ∷ line.Delivery 30
    ∷ line.Delivery 31
    ∷ line.Sent 32 (Mux 0) (replica_at 0) programmed
    ∷ line.Delivery 32
    ∷ line.Sent 33 (Replica 0) (replica_at 0) accept_granted
    ∷ line.Sent 34 (Replica 0) (replica_at 1) accept_granted
    ∷ line.Sent 35 (Replica 0) (replica_at 2) accept_granted
    ∷ line.Sent 36 (Replica 0) (replica_at 3) accept_granted
    ∷ line.Sent 37 (Replica 0) (replica_at 4) accept_granted
    ∷ line.Delivery 33
    ∷ line.Sent 38 (Replica 0) (replica_at 0) accepted_granted
    ∷ line.Delivery 34
    ∷ line.Sent 39 (Replica 1) (replica_at 0) accepted_granted
    ∷ line.Delivery 35
    ∷ line.Sent 40 (Replica 2) (replica_at 0) accepted_granted
    ∷ line.Delivery 36
    ∷ line.Sent 41 (Replica 3) (replica_at 0) accepted_granted
    ∷ line.Delivery 37
    ∷ line.Sent 42 (Replica 4) (replica_at 0) accepted_granted
    ∷ line.Delivery 38
    ∷ line.Delivery 39
    ∷ line.Delivery 40
    ∷ line.Act (Grant 1)
    ∷ line.Sent 43 (Replica 0) (replica_at 1) chosen_granted
    ∷ line.Sent 44 (Replica 0) (replica_at 2) chosen_granted
    ∷ line.Sent 45 (Replica 0) (replica_at 3) chosen_granted
    ∷ line.Sent 46 (Replica 0) (replica_at 4) chosen_granted
    ∷ line.Sent 47 (Replica 0) (agent_at) grant
    ∷ line.Delivery 41
    ∷ line.Note (Dropped Late)
    ∷ line.Delivery 42
    ∷ line.Note (Dropped Late)
    ∷ line.Delivery 43
    ∷ line.Delivery 44
    ∷ line.Delivery 45
    ∷ line.Delivery 46
    ∷ line.Delivery 47
    ∷ line.Act (Hold 1)
    ∷ line.Act (Open connection)
    ∷ line.Sent 48 (Agent 0) (router_at) packet_left
    ∷ []

abbrev pub remote_answers_lines : List Line
remote_answers_lines =
    line.Sent 49 (Mux 0) (agent_at) reply_wrapped
    ∷ []

abbrev pub reply_is_handed_lines : List Line
reply_is_handed_lines =
    line.Delivery 49
    ∷ line.Act (Hand machine (drop 1 reply_handed))
    ∷ line.Sent 50 (Agent 0) (machine_at) reply_handed
    ∷ []

-- Each event's lines behind its own.
pub record WorkedLines : Type 0 where
  pub tick : (applied run_config world_0 mux_ticks).1 ≡ mux_ticks_lines
  pub hellos : (applied run_config world_1 hellos_arrive).1 ≡ hellos_arrive_lines
  pub candidacy : (applied run_config world_2 replica_ticks).1 ≡ replica_ticks_lines
  pub election : (applied run_config world_3 it_is_elected).1 ≡ it_is_elected_lines
  pub request : (applied run_config world_4 machine_sends).1 ≡ machine_sends_lines
  pub lease : (applied run_config world_5 range_is_leased).1 ≡ range_is_leased_lines
  pub reply : (applied run_config world_6 remote_answers).1 ≡ remote_answers_lines
  pub handing : (applied run_config world_7 reply_is_handed).1 ≡ reply_is_handed_lines
