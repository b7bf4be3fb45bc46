-- Agents, by computing.
use Rattle.std.proofs.Common.{refl}
use Rattle.node_spec.proofs.OnLiterals.{node_on_literals}
use Rattle.manager_spec.proofs.OnLiterals.{manager_on_literals}
use Rattle.worked_run.proofs.OnLiterals.{below_on_literals}
use Rattle.worked_run.specs.ReplicaAgents.{OnlyPrimary, Asks, AsksAgain, Queues, Denies, Returns, Ups, ProposesAfter}

pub only_primary : OnlyPrimary
unfolding node_on_literals manager_on_literals below_on_literals
only_primary = record {
  ask = refl;
  gives_back = refl;
  up = refl;
  other_machine = refl;
  zero = refl;
}

pub asks : Asks
unfolding node_on_literals manager_on_literals below_on_literals
asks = record {
  of_other = refl;
  later_of_other = refl;
  other_agent = refl;
  other_machine = refl;
  no_vip = refl;
  other_in_earlier = refl;
  earlier_boot = refl;
  earlier = refl;
  later = refl;
  later_boot = refl;
}

pub asks_again : AsksAgain
unfolding node_on_literals manager_on_literals below_on_literals
asks_again = record {
  outstanding = refl;
  being_leased = refl;
  leased = refl;
  leased_in_2 = refl;
  freeing = refl;
  gone = refl;
  exhausted = refl;
  at_limit = refl;
  third = refl;
  other_told = refl;
  other_denied = refl;
}

pub queues : Queues
unfolding node_on_literals manager_on_literals below_on_literals
queues = record {
  outstanding = refl;
  waits = refl;
  behind = refl;
  again = refl;
  full = refl;
  full_again = refl;
  other_agent = refl;
  other_boot = refl;
  other_ask = refl;
  other_machine = refl;
  other_asker = refl;
  not_full = refl;
}

pub denies : Denies
unfolding node_on_literals manager_on_literals below_on_literals
denies = record {
  asked = refl;
  exhausted = refl;
  at_limit = refl;
  third = refl;
  other_told = refl;
}

pub returns : Returns
unfolding node_on_literals manager_on_literals below_on_literals
returns = record {
  zero = refl;
  beyond = refl;
  no_row = refl;
  other_agent = refl;
  other_told = refl;
  other_learned = refl;
  other_boot = refl;
  ended = refl;
  taken = refl;
  again = refl;
  learned = refl;
  learned_in_2 = refl;
  other_waits = refl;
}

pub ups : Ups
unfolding node_on_literals manager_on_literals below_on_literals
ups = record {
  earlier = refl;
  known = refl;
  other_told = refl;
  other_later = refl;
  other_learned = refl;
  later = refl;
  again = refl;
  learned = refl;
}

pub proposes_after : ProposesAfter
unfolding node_on_literals manager_on_literals below_on_literals
proposes_after = record {
  grant = refl;
  denied = refl;
  returned = refl;
  known = refl;
}
