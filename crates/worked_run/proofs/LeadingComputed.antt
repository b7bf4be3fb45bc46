-- Who leads, by computing.
use Rattle.std.proofs.Common.{refl}
use Rattle.node_spec.proofs.OnLiterals.{node_on_literals}
use Rattle.manager_spec.proofs.OnLiterals.{manager_on_literals}
use Rattle.worked_run.proofs.OnLiterals.{below_on_literals}
use Rattle.worked_run.specs.ReplicaLeading.{Silence, Prepares, Promises, Catches, Inherits, Refuses, Leads}

pub silence : Silence
unfolding node_on_literals manager_on_literals below_on_literals
silence = record {
  early = refl;
  candidate_waits = refl;
  candidate_again = refl;
  forgets = refl;
  forgets_all = refl;
  never_back = refl;
  promised = refl;
  promised_again = refl;
  promise_ends = refl;
  voted = refl;
  lead = refl;
  lead_ends = refl;
  learned = refl;
  mux_is_none = refl;
}

pub prepares : Prepares
unfolding node_on_literals manager_on_literals below_on_literals
prepares = record {
  below = refl;
  again = refl;
  above = refl;
  follows = refl;
  voted = refl;
  learned = refl;
  acknowledged_ends = refl;
  queued = refl;
  queue_ends = refl;
  outstanding_ends = refl;
}

pub promises : Promises
unfolding node_on_literals manager_on_literals below_on_literals
promises = record {
  other_ballot = refl;
  twice = refl;
  follower = refl;
}

pub catches : Catches
unfolding node_on_literals manager_on_literals below_on_literals
catches = record {
  fetches = refl;
  learns = refl;
  leads = refl;
}

pub inherits : Inherits
unfolding node_on_literals manager_on_literals below_on_literals
inherits = record {
  proposes = refl;
  learns = refl;
  leads = refl;
}

pub refuses : Refuses
unfolding node_on_literals manager_on_literals below_on_literals
refuses = record {
  primary = refl;
  follows = refl;
  waits = refl;
  next = refl;
  candidate = refl;
  not_above = refl;
  other_ballot = refl;
  follower = refl;
  stepped_down = refl;
}

pub leads : Leads
unfolding node_on_literals manager_on_literals below_on_literals
leads = record {
  below = refl;
  below_unheard = refl;
  lags = refl;
  lags_on = refl;
  lag_ends = refl;
  same = refl;
  stage = refl;
  candidate = refl;
}
