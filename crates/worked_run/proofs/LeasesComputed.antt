-- Leases at an agent, by computing.
use Rattle.std.proofs.Common.{refl}
use Rattle.node_spec.proofs.OnLiterals.{node_on_literals}
use Rattle.agent_spec.proofs.OnLiterals.{agent_on_literals}
use Rattle.worked_run.proofs.OnLiterals.{below_on_literals, packets_on_literals}
use Rattle.worked_run.specs.AgentLeases.{Holds, Denies, GrantsTaken, Idles, AsksAgain, Answered}

pub holds : Holds
unfolding node_on_literals agent_on_literals below_on_literals packets_on_literals
holds = record {
  second = refl;
  last = refl;
  full = refl;
  leave = refl;
}

pub denies : Denies
unfolding node_on_literals agent_on_literals below_on_literals packets_on_literals
denies = record {
  both = refl;
  asks_again = refl;
  other = refl;
  no_ask = refl;
  boot = refl;
}

pub grants_taken : GrantsTaken
unfolding node_on_literals agent_on_literals below_on_literals packets_on_literals
grants_taken = record {
  alone = refl;
  boot = refl;
  boot_leaves = refl;
  foreign = refl;
  above = refl;
  twice = refl;
  held_range = refl;
  held_number = refl;
  second_range = refl;
}

pub idles : Idles
unfolding node_on_literals agent_on_literals below_on_literals packets_on_literals
idles = record {
  not_yet = refl;
  connection = refl;
  range_not_yet = refl;
  range = refl;
  again = refl;
  returned = refl;
  known = refl;
  not_known = refl;
  never_again = refl;
  never_again_returned = refl;
  unused = refl;
}

pub asks_again : AsksAgain
unfolding node_on_literals agent_on_literals below_on_literals packets_on_literals
asks_again = record {
  not_yet = refl;
  due = refl;
  renewed = refl;
  renewed_due = refl;
}

pub answered : Answered
unfolding node_on_literals agent_on_literals below_on_literals packets_on_literals
answered = record {
  returned = refl;
  returned_boot = refl;
  returned_late = refl;
  known = refl;
  known_boot = refl;
  hint = refl;
}
