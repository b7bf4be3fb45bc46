-- The connection that leaves the mux, by computing.
use Rattle.std.proofs.Common.{refl}
use Rattle.node_spec.proofs.OnLiterals.{node_on_literals}
use Rattle.mux_spec.proofs.OnLiterals.{mux_on_literals}
use Rattle.mux_spec.specs.Flows.{most_trusted, most_untrusted}
use Rattle.agent_spec.proofs.OnLiterals.{agent_on_literals}
use Rattle.worked_run.proofs.OnLiterals.{below_on_literals, packets_on_literals}
use Rattle.worked_run.specs.DirectRun.{DirectLines, DirectRefused, DirectCleared}

pub direct_lines : DirectLines
unfolding node_on_literals mux_on_literals agent_on_literals below_on_literals packets_on_literals most_untrusted
    most_trusted
direct_lines = record {
  syn_leaves = refl;
  syn_passes = refl;
  syn_handed = refl;
  ack_leaves = refl;
  ack_passes = refl;
  ack_handed = refl;
  data_leaves = refl;
  data_passes = refl;
  data_handed = refl;
  both_told = refl;
  opener_takes = refl;
  server_takes = refl;
  answer_leaves = refl;
  answer_handed = refl;
  more_leaves = refl;
  more_handed = refl;
}

pub direct_refused : DirectRefused
unfolding node_on_literals mux_on_literals agent_on_literals below_on_literals packets_on_literals most_untrusted
    most_trusted
direct_refused = record {
  outside = refl;
  other_machine = refl;
}

pub direct_cleared : DirectCleared
unfolding node_on_literals mux_on_literals agent_on_literals below_on_literals packets_on_literals most_untrusted
    most_trusted
direct_cleared = record {
  told = refl;
  segment = refl;
  syn_of_agent = refl;
  syn_ack = refl;
  syn = refl;
  answer = refl;
}
