-- What is sent is heard.
use Rattle.std.proofs.Common.{◌≡◌, refl, ap, ◌∙◌, ℕ, List, false, Some}
use Rattle.wire_core.specs.declared.address.Socket.{Socket}
use Rattle.wire_core.specs.declared.node.NodeId.{NodeId}
use Rattle.wire_core.specs.declared.node.NodeId.TheVariants.{Replica, Mux, Agent}
use Rattle.control_msg.specs.declared.message.Message.{Message}
use Rattle.control_msg.specs.Messages.{IsMessage}
use Rattle.control_msg.proofs.AgainLaws.{message_again}
use Rattle.vip_config.specs.declared.parts.ConfigParts.{ConfigParts}
use Rattle.vip_config.specs.declared.who.Who.{Who}
use Rattle.vip_config.specs.Queries.{KnowsOwners, socket_of, who_of, node_owner}
use Rattle.node_spec.specs.Sends.{Says, Carries}
use Rattle.node_spec.specs.Steps.{datagram}
use Rattle.node_spec.specs.Datagrams.{Told, Brought, is_redirect, admitted, decoded, heard}

pub message_heard : (c : ConfigParts) (from : Socket) (m : Message) → IsMessage m
    → heard c from (datagram (Says m)) ≡ admitted (who_of c from) m
unfolding heard datagram
message_heard c from m is = ap (decoded (who_of c from)) (message_again m is)

pub packet_heard : (c : ConfigParts) (from : Socket) (packet : List ℕ)
    → heard c from (datagram (Carries packet)) ≡ Brought (who_of c from) packet
unfolding heard datagram
packet_heard c from packet = refl

node_admitted : (n : NodeId) (m : Message) → is_redirect m ≡ false → admitted (node_owner n) m ≡ Told n m
unfolding admitted
node_admitted (Replica i) m e = rw e refl
node_admitted (Mux i) m e = rw e refl
node_admitted (Agent i) m e = rw e refl

pub node_heard : (c : ConfigParts) (n : NodeId) (from : Socket) (m : Message) → KnowsOwners c
    → socket_of c n ≡ Some from
    → IsMessage m → is_redirect m ≡ false → heard c from (datagram (Says m)) ≡ Told n m
node_heard c n from m knows at is e =
    message_heard c from m is ∙ ap (λ (who : Who). admitted who m) (knows.nodes n from at) ∙ node_admitted n m e
