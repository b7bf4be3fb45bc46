-- The run's replicas, by computing.
use Rattle.std.proofs.Common.{refl}
use Rattle.node_spec.proofs.OnLiterals.{node_on_literals}
use Rattle.manager_spec.proofs.OnLiterals.{manager_on_literals}
use Rattle.worked_run.proofs.OnLiterals.{below_on_literals}
use Rattle.worked_run.specs.ReplicaRun.{Elects, Reserves, Grants}

pub elects : Elects
unfolding node_on_literals manager_on_literals below_on_literals
elects = record {
  hellos = refl;
  campaign = refl;
  own_prepare = refl;
  prepares = refl;
  first = refl;
  second = refl;
  third = refl;
  fourth = refl;
  fifth = refl;
}

pub reserves : Reserves
unfolding node_on_literals manager_on_literals below_on_literals
reserves = record {
  ask = refl;
  accepts = refl;
  first = refl;
  second = refl;
  third = refl;
  fourth = refl;
  fifth = refl;
  chosen = refl;
}

pub grants : Grants
unfolding node_on_literals manager_on_literals below_on_literals
grants = record {
  programmed = refl;
  accepts = refl;
  first = refl;
  second = refl;
  third = refl;
  fourth = refl;
  fifth = refl;
  chosen = refl;
}
