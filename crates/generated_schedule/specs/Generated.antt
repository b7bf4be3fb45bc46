-- The lines that a number gives: each by the next word of a generator.
use Rattle.std.specs.Prelude.{ℕ, zero, suc, ◌+◌, ◌-◌, ◌/◌, ◌%◌, nat_lt, nat_le, ◌==◌, false, ◌&&◌, List, [], ◌∷◌, ◌++◌}
use Rattle.std.specs.Prelude.{if◌then◌else◌, codes}
use Rattle.rand_pcg.specs.Lcg.{Lcg, started, increment_of}
use Rattle.rand_pcg.specs.Pcg.{multiplier_64, pcg32}
use Rattle.wire_core.specs.declared.address.Ip4.{Ip4}
use Rattle.wire_core.specs.declared.address.Socket.{Socket}
use Rattle.wire_core.specs.declared.node.NodeId.{NodeId}
use Rattle.wire_core.specs.declared.node.NodeId.TheVariants.{Replica, Mux, Agent}
use Rattle.packet_spec.specs.declared.header.Ip4Header.{Ip4Header}
use Rattle.packet_spec.specs.Headers.{header_bytes}
use Rattle.packet_spec.specs.Words.{word_bytes}
use Rattle.schedule_text.specs.declared.event.Single.{Single}
use Rattle.schedule_text.specs.declared.event.Single.TheVariants.{Deliver, Inject, Tick, Restart}
use Rattle.schedule_text.specs.declared.event.Event.{Event}
use Rattle.schedule_text.specs.declared.event.Event.TheVariants as event
use Rattle.schedule_text.specs.Texts.{event_text}

-- replicas 0 to 4, muxes 0 and 1, agents 0 and 1
abbrev pub node_of : ℕ → NodeId
node_of i = if nat_lt i 5 then Replica i else if nat_lt i 7 then Mux (i - 5) else Agent (i - 7)

-- an address by its number
abbrev pub ip : ℕ → Ip4
ip n = record { 0 = n }

-- the machine of an agent: 10.1.0.4 or 10.1.0.5
abbrev pub machine_of : ℕ → Ip4
machine_of agent = ip (167837700 + agent)

-- 198.51.100.1 to 198.51.100.8
abbrev pub remote_of : ℕ → Ip4
remote_of q = ip (3325256705 + q / 64 % 8)

-- a packet of 20 bytes of header, 8 of UDP's and 2 of data
abbrev pub header_of : ℕ → Ip4Header
header_of q = record {
  tos = 0;
  total = 30;
  id = 0;
  df = false;
  ttl = 64;
  proto = 17;
  src = machine_of (q % 2);
  dst = remote_of q;
}

-- the ports, the length, no checksum, the data
abbrev pub udp_of : ℕ → List ℕ
udp_of q = word_bytes (5000 + q % 64) ++ 0 ∷ 53 ∷ 0 ∷ 10 ∷ 0 ∷ 0 ∷ 104 ∷ 105 ∷ []

-- the frame of a packet: kind 2
unfoldable pub frame_of : ℕ → List ℕ
frame_of q = 2 ∷ (header_bytes (header_of q) ++ udp_of q)

-- the place that the machine's packets come from
abbrev pub attach_of : ℕ → Socket
attach_of agent = record { ip = machine_of agent; port = 9000 }

-- the node whose clock ticks, by the kind
abbrev pub tick_node : ℕ → ℕ → NodeId
tick_node c q = if c == 10 then Replica (q % 5) else if c == 11 then Mux (q % 2) else Agent (q % 2)

-- the event of a kind c from 0 to 15 with a number q, at the time t
abbrev pub event_by : ℕ → ℕ → ℕ → Event
event_by t c q =
    if nat_le c 6 then event.Settle (1 + q % 8)
    else if nat_le c 8 then event.Single (Inject (Agent (q % 2)) (attach_of (q % 2)) (frame_of q))
    else if c == 9 then event.Single (Deliver (1 + q % 1000))
    else if nat_le c 12 then event.Single (Tick (tick_node c q) t)
    else if c == 13 then event.Crash (node_of (q % 9))
    else event.Single (Restart (node_of (q % 9)))

-- a line that is a tick comes 100 milliseconds later
abbrev pub time_after : ℕ → ℕ → ℕ
time_after t word = if nat_le 10 (word % 16) && nat_le (word % 16) 12 then t + 100 else t

-- the event of a word, at the time that it sets
unfoldable pub event_at : ℕ → ℕ → Event
event_at t word = event_by t (word % 16) (word / 16)

-- a word's line
abbrev pub line_at : ℕ → ℕ → List ℕ
line_at t word = event_text (event_at t word) ++ codes "\n"

-- the lines of so many words, from this time on
unfoldable pub lines_from : {S : Type 0} → (S → ℕ × S) → ℕ → ℕ → S → List ℕ
lines_from step zero t s = []
lines_from step (suc count) t s =
    line_at (time_after t (step s).0) (step s).0 ++ lines_from step count (time_after t (step s).0) (step s).1

-- the generator of a number
abbrev pub seeded : ℕ → Lcg
seeded number = started 64 multiplier_64 number (increment_of 64 1)

-- the configuration that stands before the schedule
unfoldable pub config_text : List ℕ
config_text = codes "{\"version\":1,\"router\":\"10.7.0.1:7000\",\"replicas\":[\"10.0.0.1:7000\",\"10.0.0.2:7000\",\"10.0.0.3:7000\",\"10.0.0.4:7000\",\"10.0.0.5:7000\"],\"muxes\":[\"10.9.0.1:7000\",\"10.9.0.2:7000\"],\"agents\":[{\"socket\":\"10.8.0.1:7000\",\"machines\":[{\"address\":\"10.1.0.4\",\"attach\":\"10.1.0.4:9000\"}]},{\"socket\":\"10.8.0.2:7000\",\"machines\":[{\"address\":\"10.1.0.5\",\"attach\":\"10.1.0.5:9000\"}]}],\"vips\":[{\"address\":\"192.0.2.10\",\"low\":1024,\"high\":1087,\"snat\":[\"10.1.0.4\",\"10.1.0.5\"],\"endpoints\":[]}],\"limit\":16,\"timers\":{\"lead_silent\":1000,\"mux_silent\":5000,\"ask_retry\":500,\"flow_idle\":60000,\"range_idle\":30000}}"

-- what stands before the lines of the words
abbrev pub opening : List ℕ
opening = config_text ++ codes "\n---\ntick mux 0 1000\ntick mux 1 1000\ntick replica 0 1000\nsettle 50\n"

-- what `generate` writes for a number and a count
abbrev pub generated : ℕ → ℕ → List ℕ
generated number count = opening ++ lines_from pcg32 count 1000 (seeded number)
