-- Uses at an agent, by computing.
use Rattle.std.proofs.Common.{refl}
use Rattle.node_spec.proofs.OnLiterals.{node_on_literals}
use Rattle.agent_spec.proofs.OnLiterals.{agent_on_literals}
use Rattle.worked_run.proofs.OnLiterals.{below_on_literals, packets_on_literals}
use Rattle.worked_run.specs.AgentUses.{Uses, Entries, Moves, FirstFault, Peers}

pub uses : Uses
unfolding node_on_literals agent_on_literals below_on_literals packets_on_literals
uses = record {
  both_idle = refl;
  used_out = refl;
  used_in = refl;
  later = refl;
  other_stays = refl;
  range_in_use = refl;
  other_protocol = refl;
  same_protocol = refl;
}

pub entries : Entries
unfolding node_on_literals agent_on_literals below_on_literals packets_on_literals
entries = record {
  made = refl;
  second = refl;
  answered = refl;
  used = refl;
  later = refl;
  reset = refl;
  reset_leaves = refl;
}

pub moves : Moves
unfolding node_on_literals agent_on_literals below_on_literals packets_on_literals
moves = record {
  handed = refl;
  one_entry = refl;
}

pub first_fault : FirstFault
unfolding node_on_literals agent_on_literals below_on_literals packets_on_literals
first_fault = record {
  machine = refl;
  sender = refl;
}

pub peers : Peers
unfolding node_on_literals agent_on_literals below_on_literals packets_on_literals
peers = record {
  reset = refl;
  reset_no_hop = refl;
  no_hop_uses = refl;
  foreign = refl;
  other_opener = refl;
  entry_takes = refl;
  entry_again = refl;
  entry_stale = refl;
  other_server = refl;
}
