use Rattle.mux_spec.proofs.Leaves.{tick_leaves, packet_leaves, command_leaves, mux_leaves}
use Rattle.mux_spec.proofs.laws.footprints.Goals as goal

pub returns-clause-tick : goal.returns-clause-tick
returns-clause-tick c = tick_leaves

pub returns-clause-packets : goal.returns-clause-packets
returns-clause-packets c = packet_leaves

pub returns-clause-commands : goal.returns-clause-commands
returns-clause-commands c = command_leaves

pub returns-clause-redirects : goal.returns-clause-redirects
returns-clause-redirects c = mux_leaves
