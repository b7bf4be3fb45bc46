-- The mux at its limits, by computing.
use Rattle.std.proofs.Common.{refl}
use Rattle.node_spec.proofs.OnLiterals.{node_on_literals}
use Rattle.mux_spec.proofs.OnLiterals.{mux_on_literals}
use Rattle.mux_spec.specs.Flows.{most_trusted, most_untrusted}
use Rattle.worked_run.proofs.OnLiterals.{below_on_literals, packets_on_literals}
use Rattle.worked_run.specs.MuxLimits.{TooLongToWrap, FlowsFull}

pub too_long_to_wrap : TooLongToWrap
unfolding node_on_literals mux_on_literals below_on_literals packets_on_literals
too_long_to_wrap = record {
  longest = refl;
  reply = refl;
  syn = refl;
  syn_leaves = refl;
}

pub flows_full : FlowsFull
unfolding node_on_literals mux_on_literals below_on_literals packets_on_literals most_untrusted most_trusted
flows_full = record {
  oldest = refl;
  second_oldest = refl;
  newest = refl;
  as_many = refl;
  oldest_stays = refl;
  untrusted = refl;
  trusted = refl;
  room_untrusted = refl;
  room_trusted = refl;
}
