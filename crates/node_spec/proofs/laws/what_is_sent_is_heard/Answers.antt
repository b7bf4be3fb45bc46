use Rattle.node_spec.proofs.Arrivals.{message_heard, packet_heard, node_heard}
use Rattle.node_spec.proofs.laws.what_is_sent_is_heard.Goals as goal

pub returns-clause-message : goal.returns-clause-message
returns-clause-message c = message_heard

pub returns-clause-packet : goal.returns-clause-packet
returns-clause-packet c = packet_heard

pub returns-clause-node : goal.returns-clause-node
returns-clause-node c = node_heard
