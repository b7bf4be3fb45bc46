-- What isn't taken, by computing.
use Rattle.std.proofs.Common.{refl}
use Rattle.node_spec.proofs.OnLiterals.{node_on_literals}
use Rattle.manager_spec.proofs.OnLiterals.{manager_on_literals}
use Rattle.worked_run.proofs.OnLiterals.{below_on_literals}
use Rattle.worked_run.specs.ReplicaDatagrams.{Datagrams}

pub datagrams : Datagrams
unfolding node_on_literals manager_on_literals below_on_literals
datagrams = record {
  empty = refl;
  no_frame = refl;
  no_message = refl;
  redirect_of_outside = refl;
  redirect_of_agent = refl;
  outside = refl;
  machine = refl;
  redirect_of_mux = refl;
  redirect_ask = refl;
  prepare_of_mux = refl;
  grant_of_agent = refl;
  hello_of_agent = refl;
  ask_of_replica = refl;
  ask_of_mux = refl;
  packet = refl;
  packet_of_mux = refl;
}
