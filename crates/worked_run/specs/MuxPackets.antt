-- Rows of the mux on packets: whose are taken, where they go, and what is kept of a flow.
use Rattle.std.specs.Prelude.{ℕ, List, [], ◌∷◌, ◌≡◌}
use Rattle.wire_core.specs.declared.address.Ip4.{Ip4}
use Rattle.wire_core.specs.declared.cause.DropCause.TheVariants.{WrongRole, NotMine, IpShort, BadSum, NotVip}
use Rattle.wire_core.specs.declared.cause.DropCause.TheVariants.{NoEndpoint, NoLease, TtlOut}
use Rattle.wire_core.specs.declared.entry.Entry.TheVariants.{Boot}
use Rattle.wire_core.specs.declared.flow.FlowKey.{FlowKey}
use Rattle.wire_core.specs.declared.flow.Proto.TheVariants.{Tcp}
use Rattle.wire_core.specs.declared.step.Step.{Step}
use Rattle.config_text.specs.declared.vips.Endpoint.{Endpoint}
use Rattle.vip_config.specs.declared.parts.ConfigParts.{ConfigParts}
use Rattle.node_spec.specs.Turns.{Turn}
use Rattle.node_spec.specs.Steps.{step_of}
use Rattle.mux_spec.specs.declared.flow.Seen.{Seen}
use Rattle.mux_spec.specs.Flows.{Flows, FlowList}
use Rattle.mux_spec.specs.Mux.{Mux, opened_mux}
use Rattle.worked_run.specs.Configs.{two_each, ip, leasing, vip, machine, other_machine, machine_at, other_mux_at}
use Rattle.worked_run.specs.Configs.{agent_at, other_agent_at, replica_at, router_at, run_config}
use Rattle.worked_run.specs.Run.{program, reply_in, reply_wrapped}
use Rattle.worked_run.specs.Arriving as arriving
use Rattle.worked_run.specs.Orders.{program_last, program_second}
use Rattle.worked_run.specs.MuxRun.{mux_hears, mux_ticks, opened_first}
use Rattle.worked_run.specs.Steps.{sent, sends, dropped}

-- tcp 80 of the VIP is served by both machines, the first one first
abbrev pub web : Endpoint
web = record {
  proto = Tcp;
  port = 80;
  machines = record { address = machine; port = 8080 } ∷ record { address = other_machine; port = 8080 } ∷ [];
}

abbrev pub serving : ConfigParts
serving = record two_each { vips = record (leasing 1087 (machine ∷ other_machine ∷ [])) { endpoints = web ∷ [] } ∷ [] }

-- mux 0 with the row of lease 1
abbrev pub with_row : Mux
with_row = (mux_hears serving (opened_first serving) (replica_at 0) program).state

-- what comes from outside, and its step
abbrev pub brings : Mux → List ℕ → Turn Mux
brings m bytes = mux_hears serving m router_at bytes

abbrev pub step : Turn Mux → Step
step t = step_of serving t

-- a frame leaves for the first machine's agent, or for the second's
abbrev pub to_first : List ℕ → Step
to_first bytes = sends (sent agent_at bytes ∷ [])

abbrev pub to_second : List ℕ → Step
to_second bytes = sends (sent other_agent_at bytes ∷ [])

-- the second of two VIPs has the endpoint
abbrev pub two_vips : ConfigParts
two_vips = record two_each {
  vips = leasing 1087 (machine ∷ other_machine ∷ [])
      ∷ record (leasing 1087 []) { address = ip 192 0 2 20; endpoints = web ∷ [] } ∷ [];
}

-- Packets come from outside alone; a packet's first fault, then where it goes, then whether it may be sent on.
pub record Refusals : Type 0 where
  pub replica : step (mux_hears serving with_row (replica_at 0) reply_in) ≡ dropped WrongRole
  pub mux : step (mux_hears serving with_row other_mux_at reply_in) ≡ dropped WrongRole
  pub agent : step (mux_hears serving with_row agent_at reply_in) ≡ dropped WrongRole
  pub machine : step (mux_hears serving with_row machine_at reply_in) ≡ dropped NotMine
  pub short : step (brings with_row (2 ∷ [])) ≡ dropped IpShort
  pub sum : step (brings with_row arriving.reply_bad_sum) ≡ dropped BadSum
  pub no_vip : step (brings with_row arriving.reply_no_vip) ≡ dropped NotVip
  pub no_endpoint : step (brings with_row arriving.reply_no_endpoint) ≡ dropped NoEndpoint
  pub other_port : step (brings with_row arriving.syn_to_81) ≡ dropped NoEndpoint
  pub other_vip : step_of two_vips (mux_hears two_vips (opened_first two_vips) router_at arriving.syn_even)
      ≡ dropped NoEndpoint
  pub no_lease : step (brings (opened_first serving) reply_in) ≡ dropped NoLease
  pub last_hop : step (brings with_row arriving.reply_last_hop) ≡ dropped TtlOut
  pub endpoint_last_hop : step (brings with_row arriving.syn_last_hop) ≡ dropped TtlOut
  pub endpoint_last_hop_leaves : (brings with_row arriving.syn_last_hop).state ≡ with_row

-- mux 1 with the row of lease 1
abbrev pub second_with_row : Mux
second_with_row = (mux_hears serving (opened_mux serving 1 (Boot 1 2 1 1 ∷ [])) (replica_at 0) program).state

-- mux 0 with a row of the second range, and with one of the last range of all
abbrev pub with_second_row : Mux
with_second_row = (mux_hears serving (opened_first serving) (replica_at 0) program_second).state

abbrev pub with_last_row : Mux
with_last_row = (mux_hears run_config (opened_first run_config) (replica_at 0) program_last).state

-- What is sent on: without the bytes behind its total length; by the row of its range; by the hash of its flow; from
-- the mux's own address.
pub record Forwards : Type 0 where
  pub reply : step (brings with_row reply_in) ≡ to_first reply_wrapped
  pub reply_leaves : (brings with_row reply_in).state ≡ with_row
  pub padded : step (brings with_row arriving.reply_padded) ≡ to_first reply_wrapped
  pub by_second : step (mux_hears serving second_with_row router_at reply_in)
      ≡ to_first arriving.reply_wrapped_by_second
  pub second_range : step (brings with_second_row arriving.reply_second) ≡ to_first arriving.reply_second_wrapped
  pub last_range : step_of run_config (mux_hears run_config with_last_row router_at arriving.reply_last)
      ≡ to_first arriving.reply_last_wrapped
  pub even : step (brings with_row arriving.syn_even) ≡ to_first arriving.syn_even_wrapped
  pub odd : step (brings with_row arriving.syn_odd) ≡ to_second arriving.syn_odd_wrapped

-- the flows of the two clients
abbrev pub flow : ℕ → FlowKey
flow sport = record { src = ip 198 51 100 7; dst = vip; sport = sport; dport = 80; proto = Tcp }

-- a flow at a machine, with its count and its last time
abbrev pub seen : Ip4 → ℕ → ℕ → Seen
seen machine count last = record { machine = machine; count = count; last = last }

-- a mux with these flows
abbrev pub with_flows : FlowList → FlowList → Mux
with_flows untrusted trusted = record with_row { flows = record { untrusted = untrusted; trusted = trusted } }

-- the flows after packets from outside, one after the other
abbrev pub flows_after : Mux → List (List ℕ) → Flows
flows_after m [] = m.flows
flows_after m (bytes ∷ more) = flows_after (brings m bytes).state more

-- both flows, the odd one newer
abbrev pub two_trusted : Mux
two_trusted = with_flows [] ((flow 5001, seen other_machine 2 0) ∷ (flow 5000, seen machine 2 0) ∷ [])

-- an untrusted flow and a trusted one, with their last times
abbrev pub idle_from : ℕ → ℕ → Mux
idle_from first second =
    with_flows ((flow 5000, seen machine 1 first) ∷ []) ((flow 5001, seen other_machine 2 second) ∷ [])

-- What is kept: a flow is untrusted at its first packet, SYN or not, and trusted at its second; it counts to 4, and
-- from 1 again at a SYN without ACK. The newest is first. Its machine stays, whatever the hash says.
pub record Notes : Type 0 where
  pub first : flows_after with_row (arriving.syn_even ∷ [])
      ≡ record { untrusted = (flow 5000, seen machine 1 0) ∷ []; trusted = [] }
  pub first_without_syn : flows_after with_row (arriving.segment_even ∷ [])
      ≡ record { untrusted = (flow 5000, seen machine 1 0) ∷ []; trusted = [] }
  pub second : flows_after with_row (arriving.syn_even ∷ arriving.segment_even ∷ [])
      ≡ record { untrusted = []; trusted = (flow 5000, seen machine 2 0) ∷ [] }
  pub fifth : flows_after with_row
      (arriving.syn_even ∷ arriving.segment_even ∷ arriving.segment_even ∷ arriving.segment_even
      ∷ arriving.segment_even ∷ [])
      ≡ record { untrusted = []; trusted = (flow 5000, seen machine 4 0) ∷ [] }
  pub syn_again : flows_after (with_flows [] ((flow 5000, seen machine 4 0) ∷ [])) (arriving.syn_even ∷ [])
      ≡ record { untrusted = []; trusted = (flow 5000, seen machine 1 0) ∷ [] }
  pub syn_ack : flows_after (with_flows [] ((flow 5000, seen machine 2 0) ∷ [])) (arriving.syn_ack_even ∷ [])
      ≡ record { untrusted = []; trusted = (flow 5000, seen machine 3 0) ∷ [] }
  pub newest : flows_after with_row (arriving.syn_even ∷ arriving.syn_odd ∷ [])
      ≡ record { untrusted = (flow 5001, seen other_machine 1 0) ∷ (flow 5000, seen machine 1 0) ∷ []; trusted = [] }
  pub trusted_newest : flows_after two_trusted (arriving.segment_even ∷ [])
      ≡ record { untrusted = []; trusted = (flow 5000, seen machine 3 0) ∷ (flow 5001, seen other_machine 2 0) ∷ [] }
  pub machine_stays : step (brings (with_flows ((flow 5000, seen other_machine 1 0) ∷ []) []) arriving.syn_even)
      ≡ to_second arriving.syn_even_wrapped_other
  pub time : (brings (record with_row { time = 7 }) arriving.syn_even).state.flows
      ≡ record { untrusted = (flow 5000, seen machine 1 7) ∷ []; trusted = [] }
  pub later : (brings (record two_trusted { time = 7 }) arriving.segment_even).state.flows
      ≡ record { untrusted = []; trusted = (flow 5000, seen machine 3 7) ∷ (flow 5001, seen other_machine 2 0) ∷ [] }

-- A tick: flows that are idle for 60 seconds leave, the others stay as they are. The time is the greater of both.
pub record Ticks : Type 0 where
  pub idle : (mux_ticks serving (idle_from 1000 1000) 61000).state.flows
      ≡ record { untrusted = []; trusted = [] }
  pub not_yet : (mux_ticks serving (idle_from 1000 1001) 60999).state.flows
      ≡ record {
        untrusted = (flow 5000, seen machine 1 1000) ∷ [];
        trusted = (flow 5001, seen other_machine 2 1001) ∷ [];
      }
  pub one_of_two : (mux_ticks serving (idle_from 1000 1001) 61000).state.flows
      ≡ record { untrusted = []; trusted = (flow 5001, seen other_machine 2 1001) ∷ [] }
  pub time : (mux_ticks serving (mux_ticks serving with_row 5000).state 4000).state.time ≡ 5000
