-- Packets at an agent, by computing.
use Rattle.std.proofs.Common.{refl}
use Rattle.node_spec.proofs.OnLiterals.{node_on_literals}
use Rattle.agent_spec.proofs.OnLiterals.{agent_on_literals}
use Rattle.worked_run.proofs.OnLiterals.{below_on_literals, packets_on_literals}
use Rattle.worked_run.specs.AgentPackets.{Ports, Unsent, Undelivered, ForAnother, Resets, Endpoints, Redirects, Untaken}

pub ports : Ports
unfolding node_on_literals agent_on_literals below_on_literals packets_on_literals
ports = record {
  first = refl;
  kept = refl;
  other_end = refl;
  next_port = refl;
}

pub unsent : Unsent
unfolding node_on_literals agent_on_literals below_on_literals packets_on_literals
unsent = record {
  foreign = refl;
  outside = refl;
  replica = refl;
  sum = refl;
  source = refl;
}

pub undelivered : Undelivered
unfolding node_on_literals agent_on_literals below_on_literals packets_on_literals
undelivered = record {
  not_wrapped = refl;
  foreign = refl;
  sender = refl;
  other_mux = refl;
  agent = refl;
  inner = refl;
  nobody = refl;
  not_open = refl;
}

pub for_another : ForAnother
unfolding node_on_literals agent_on_literals below_on_literals packets_on_literals
for_another = record {
  wrong_machine = refl;
  no_snat = refl;
}

pub resets : Resets
unfolding node_on_literals agent_on_literals below_on_literals packets_on_literals
resets = record {
  opens = refl;
  out = refl;
  inward = refl;
  closed = refl;
}

pub endpoints : Endpoints
unfolding node_on_literals agent_on_literals below_on_literals packets_on_literals
endpoints = record {
  first = refl;
  answered = refl;
  in_the_way = refl;
  in_the_way_leaves = refl;
  idle = refl;
  idle_acts = refl;
  not_idle = refl;
}

pub redirects : Redirects
unfolding node_on_literals agent_on_literals below_on_literals packets_on_literals
redirects = record {
  not_yet = refl;
  of_replica = refl;
  opener = refl;
  no_hop = refl;
  stale = refl;
  nobody = refl;
  server_nobody = refl;
  foreign = refl;
}

pub untaken : Untaken
unfolding node_on_literals agent_on_literals below_on_literals packets_on_literals
untaken = record {
  of_mux = refl;
  of_agent = refl;
  of_router = refl;
  other_message = refl;
  no_frame = refl;
  no_message = refl;
}
