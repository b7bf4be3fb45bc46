-- Rows of the mux at its limits: packets that are too long to wrap, and lists of flows that are full.
use Rattle.std.specs.Prelude.{ℕ, zero, suc, [], ◌∷◌, length, Some, None, ◌≡◌}
use Rattle.wire_core.specs.declared.cause.DropCause.TheVariants.{TooLong}
use Rattle.wire_core.specs.declared.flow.FlowKey.{FlowKey}
use Rattle.mux_spec.specs.Flows.{FlowList, Flows, flow_in}
use Rattle.worked_run.specs.Configs.{ip, machine}
use Rattle.worked_run.specs.Arriving as arriving
use Rattle.worked_run.specs.Long as long
use Rattle.worked_run.specs.MuxPackets.{brings, flow, flows_after, seen, step, to_first, with_flows, with_row}
use Rattle.worked_run.specs.Steps.{dropped}

-- A packet of 65,000 bytes is wrapped, and one of 65,001 isn't; it leaves the flows as they were.
pub record TooLongToWrap : Type 0 where
  pub longest : step (brings with_row long.reply_longest) ≡ to_first long.reply_longest_wrapped
  pub reply : step (brings with_row long.reply_too_long) ≡ dropped TooLong
  pub syn : step (brings with_row long.syn_too_long) ≡ dropped TooLong
  pub syn_leaves : (brings with_row long.syn_too_long).state ≡ with_row

-- another client's flow
abbrev pub other_flow : ℕ → FlowKey
other_flow sport = record (flow sport) { src = ip 198 51 100 8 }

-- so many of them, the one from port 0 the oldest
abbrev pub flows_of : ℕ → ℕ → FlowList
flows_of count zero = []
flows_of count (suc n) = (other_flow n, seen machine count 0) ∷ flows_of count n

-- a new flow where 16,384 are untrusted, and where 16,383 are
abbrev pub pushed_out : Flows
pushed_out = flows_after (with_flows (flows_of 1 16384) []) (arriving.syn_even ∷ [])

abbrev pub fits : Flows
fits = flows_after (with_flows (flows_of 1 16383) []) (arriving.syn_even ∷ [])

-- a second packet of an untrusted flow where 65,536 are trusted, and where 65,535 are
abbrev pub stays_untrusted : Flows
stays_untrusted =
    flows_after (with_flows ((flow 5000, seen machine 1 0) ∷ []) (flows_of 2 65536)) (arriving.segment_even ∷ [])

abbrev pub becomes_trusted : Flows
becomes_trusted =
    flows_after (with_flows ((flow 5000, seen machine 1 0) ∷ []) (flows_of 2 65535)) (arriving.segment_even ∷ [])

-- Where 16,384 flows are untrusted the oldest of them leaves; where 65,536 are trusted none becomes trusted.
pub record FlowsFull : Type 0 where
  pub oldest : flow_in (other_flow 0) pushed_out.untrusted ≡ None
  pub second_oldest : flow_in (other_flow 1) pushed_out.untrusted ≡ Some (seen machine 1 0)
  pub newest : flow_in (flow 5000) pushed_out.untrusted ≡ Some (seen machine 1 0)
  pub as_many : length pushed_out.untrusted ≡ 16384
  pub oldest_stays : flow_in (other_flow 0) fits.untrusted ≡ Some (seen machine 1 0)
  pub untrusted : stays_untrusted.untrusted ≡ (flow 5000, seen machine 2 0) ∷ []
  pub trusted : length stays_untrusted.trusted ≡ 65536
  pub room_untrusted : becomes_trusted.untrusted ≡ []
  pub room_trusted : length becomes_trusted.trusted ≡ 65536
