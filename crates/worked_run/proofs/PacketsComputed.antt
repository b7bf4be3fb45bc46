-- Packets at a mux, by computing.
use Rattle.std.proofs.Common.{refl}
use Rattle.node_spec.proofs.OnLiterals.{node_on_literals}
use Rattle.mux_spec.proofs.OnLiterals.{mux_on_literals}
use Rattle.mux_spec.specs.Flows.{most_trusted, most_untrusted}
use Rattle.worked_run.proofs.OnLiterals.{below_on_literals, packets_on_literals}
use Rattle.worked_run.specs.MuxPackets.{Refusals, Forwards, Notes, Ticks}

pub refusals : Refusals
unfolding node_on_literals mux_on_literals below_on_literals packets_on_literals
refusals = record {
  replica = refl;
  mux = refl;
  agent = refl;
  machine = refl;
  short = refl;
  sum = refl;
  no_vip = refl;
  no_endpoint = refl;
  other_port = refl;
  other_vip = refl;
  no_lease = refl;
  last_hop = refl;
  endpoint_last_hop = refl;
  endpoint_last_hop_leaves = refl;
}

pub forwards : Forwards
unfolding node_on_literals mux_on_literals below_on_literals packets_on_literals
forwards = record {
  reply = refl;
  reply_leaves = refl;
  padded = refl;
  by_second = refl;
  second_range = refl;
  last_range = refl;
  even = refl;
  odd = refl;
}

pub notes : Notes
unfolding node_on_literals mux_on_literals below_on_literals packets_on_literals most_untrusted most_trusted
notes = record {
  first = refl;
  first_without_syn = refl;
  second = refl;
  fifth = refl;
  syn_again = refl;
  syn_ack = refl;
  newest = refl;
  trusted_newest = refl;
  machine_stays = refl;
  time = refl;
  later = refl;
}

pub ticks : Ticks
unfolding node_on_literals mux_on_literals below_on_literals packets_on_literals
ticks = record {
  idle = refl;
  not_yet = refl;
  one_of_two = refl;
  time = refl;
}
