-- The host agent at its limits, by computing.
use Rattle.std.proofs.Common.{refl}
use Rattle.node_spec.proofs.OnLiterals.{node_on_literals}
use Rattle.agent_spec.proofs.OnLiterals.{agent_on_literals}
use Rattle.worked_run.proofs.OnLiterals.{below_on_literals, packets_on_literals}
use Rattle.worked_run.specs.AgentLimits.{TablesFull, LongPackets}

pub tables_full : TablesFull
unfolding node_on_literals agent_on_literals below_on_literals packets_on_literals
tables_full = record {
  conns = refl;
  conns_leave = refl;
  one_more = refl;
  entries = refl;
  one_more_entry = refl;
  as_many = refl;
}

pub long_packets : LongPackets
unfolding node_on_literals agent_on_literals below_on_literals packets_on_literals
long_packets = record {
  to_router = refl;
  to_peer = refl;
}
