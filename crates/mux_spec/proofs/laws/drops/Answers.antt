use Rattle.mux_spec.proofs.Refusals.{packet_drops, command_drops, mux_drops}
use Rattle.mux_spec.proofs.laws.drops.Goals as goal

pub returns-clause-packets : goal.returns-clause-packets
returns-clause-packets c = packet_drops

pub returns-clause-commands : goal.returns-clause-commands
returns-clause-commands c = command_drops

pub returns-clause-redirects : goal.returns-clause-redirects
returns-clause-redirects c = mux_drops
