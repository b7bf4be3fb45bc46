-- Ranges at an agent, by computing.
use Rattle.std.proofs.Common.{refl}
use Rattle.node_spec.proofs.OnLiterals.{node_on_literals}
use Rattle.agent_spec.proofs.OnLiterals.{agent_on_literals}
use Rattle.worked_run.proofs.OnLiterals.{below_on_literals, packets_on_literals}
use Rattle.worked_run.specs.AgentRanges.{Opens, InOrder, EightPorts, StayHeld, AsksLater, OwnMachines}

pub opens : Opens
unfolding node_on_literals agent_on_literals below_on_literals packets_on_literals
opens = record {
  second = refl;
  by_address = refl;
  nobody = refl;
}

pub in_order : InOrder
unfolding node_on_literals agent_on_literals below_on_literals packets_on_literals
in_order = record {
  least = refl;
  both = refl;
  unused = refl;
  other_held = refl;
  one_returned = refl;
  other_returned = refl;
  number_returns = refl;
  later = refl;
}

pub eight_ports : EightPorts
unfolding node_on_literals agent_on_literals below_on_literals packets_on_literals
eight_ports = record {
  eighth = refl;
  ninth = refl;
  held = refl;
  last_port = refl;
}

pub stay_held : StayHeld
unfolding node_on_literals agent_on_literals below_on_literals packets_on_literals
stay_held = record {
  in_order = refl;
  eight = refl;
  others = refl;
  still_asked = refl;
  all_idle = refl;
  kept = refl;
}

pub asks_later : AsksLater
unfolding node_on_literals agent_on_literals below_on_literals packets_on_literals
asks_later = record {
  last = refl;
  no_more = refl;
  not_yet = refl;
  ticks_between = refl;
  second_boot = refl;
  second_boot_again = refl;
  second_boot_returns = refl;
  order = refl;
  returns = refl;
  returned_by = refl;
  never_back = refl;
}

pub own_machines : OwnMachines
unfolding node_on_literals agent_on_literals below_on_literals packets_on_literals
own_machines = record {
  own_queue = refl;
  own_range = refl;
  own_packet = refl;
  by_configuration = refl;
  given_back = refl;
  no_snat = refl;
  denied = refl;
}
