use Rattle.std.proofs.Common.{◌≡◌, ◌-◌}
use Rattle.packet_spec.specs.Options.{data_offset, mss_from}
use Rattle.tcp_udp_codec.proofs.options.mss_at.Given as goal

-- what the rest of the walk finds is what the whole walk finds
abbrev pub invariant-loop : goal.invariant-loop
invariant-loop l = mss_from (40 - l.counter) l.segment l.end l.at ≡ mss_from 40 l.segment (data_offset l.segment) 20
