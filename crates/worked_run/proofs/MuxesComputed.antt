-- Muxes, by computing.
use Rattle.std.proofs.Common.{refl}
use Rattle.node_spec.proofs.OnLiterals.{node_on_literals}
use Rattle.manager_spec.proofs.OnLiterals.{manager_on_literals}
use Rattle.worked_run.proofs.OnLiterals.{below_on_literals}
use Rattle.worked_run.specs.ReplicaMuxes.{Hellos, Acknowledges, GrantsDue, AcknowledgesTwice, FreedDue, Pushes}
use Rattle.worked_run.specs.ReplicaMuxes.{PushesSome, Proposes, Orders}

pub hellos : Hellos
unfolding node_on_literals manager_on_literals below_on_literals
hellos = record {
  earlier = refl;
  same = refl;
  above = refl;
  above_follows = refl;
  queue_ends = refl;
  unheard = refl;
  at_most = refl;
  follower = refl;
  refusal = refl;
  refusal_follows = refl;
  refusal_next = refl;
  refusal_above = refl;
  greatest = refl;
  refusal_keeps_boot = refl;
  refusal_raises_boot = refl;
  refusal_hears = refl;
  refusal_of_boot = refl;
}

pub acknowledges : Acknowledges
unfolding node_on_literals manager_on_literals below_on_literals
acknowledges = record {
  follower = refl;
  stepped_down = refl;
  other_epoch = refl;
  no_row = refl;
  earlier = refl;
  later = refl;
  of_other_mux = refl;
  later_known = refl;
}

pub grants_due : GrantsDue
unfolding node_on_literals manager_on_literals below_on_literals
grants_due = record {
  one_of_two = refl;
  both = refl;
  each_row = refl;
  not_yet_silent = refl;
  silent = refl;
  silent_named = refl;
  all_silent = refl;
  unheard = refl;
}

pub acknowledges_twice : AcknowledgesTwice
unfolding node_on_literals manager_on_literals below_on_literals
acknowledges_twice = record {
  later_counts = refl;
}

pub freed_due : FreedDue
unfolding node_on_literals manager_on_literals below_on_literals
freed_due = record {
  one_of_two = refl;
  both = refl;
  any_boot = refl;
  later_boot = refl;
  leased = refl;
  learned = refl;
  forgotten = refl;
  others_stay = refl;
  programmed_is_none = refl;
}

pub pushes : Pushes
unfolding node_on_literals manager_on_literals below_on_literals
pushes = record {
  own_ballot = refl;
  outstanding = refl;
  last = refl;
  program = refl;
  silent = refl;
  acknowledged = refl;
  leased = refl;
  unprogram = refl;
  unprogram_again = refl;
}

pub pushes_some : PushesSome
unfolding node_on_literals manager_on_literals below_on_literals
pushes_some = record {
  most = refl;
}

pub proposes : Proposes
unfolding node_on_literals manager_on_literals below_on_literals
proposes = record {
  order = refl;
  queue = refl;
  some = refl;
  left = refl;
  most_due = refl;
  filled = refl;
  filled_left = refl;
  after_refusal = refl;
}

pub orders : Orders
unfolding node_on_literals manager_on_literals below_on_literals
orders = record {
  silent = refl;
  unheard = refl;
  both = refl;
  cleared = refl;
  unconfigured = refl;
  ended = refl;
  next = refl;
}
