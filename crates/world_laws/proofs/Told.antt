-- What a node hears was sent to it, and is read off its bytes.
use Rattle.std.proofs.Common.{◌≡◌, refl, sym, ap, subst, ◌∙◌, ℕ, true, false, not, List, Option, Some, None, Result, Ok}
use Rattle.std.proofs.Common.{Err}
use Rattle.std.specs.Prelude.{◌&&◌}
use Rattle.wire_core.specs.Members.{In, Each}
use Rattle.wire_core.specs.declared.address.Socket.{Socket}
use Rattle.wire_core.specs.declared.cause.DropCause.{DropCause}
use Rattle.wire_core.specs.declared.cause.DropCause.TheVariants.{NotFromMux}
use Rattle.wire_core.specs.declared.node.NodeId.{NodeId}
use Rattle.wire_core.specs.declared.node.NodeId.TheVariants.{Replica, Mux, Agent}
use Rattle.control_msg.specs.Frames.{Framed, Control, Packet, frame_at}
use Rattle.control_msg.specs.Messages.{message_bytes}
use Rattle.control_msg.specs.Reading.{message_at}
use Rattle.control_msg.specs.declared.message.Message.{Message}
use Rattle.control_msg.specs.declared.reading.MessageFault.{MessageFault}
use Rattle.schedule_text.specs.Fields.{is_node}
use Rattle.vip_config.specs.Queries.{who_of, node_owner}
use Rattle.vip_config.specs.declared.parts.ConfigParts.{ConfigParts}
use Rattle.vip_config.specs.declared.who.Who.{Who}
use Rattle.vip_config.specs.declared.who.Who.TheVariants as who
use Rattle.lease_spec.proofs.MemberLaws.{each_in}
use Rattle.manager_spec.proofs.Choices.{by_if}
use Rattle.node_spec.specs.Datagrams.{Heard, Refused, Told, Brought, is_mux, is_redirect, of_node, admitted, decoded}
use Rattle.node_spec.specs.Datagrams.{framed_by, heard}
use Rattle.node_spec.specs.Sends.{Place, ToNode, Says, Carries}
use Rattle.node_spec.specs.Sends as sends
use Rattle.node_spec.specs.Steps.{datagram}
use Rattle.node_spec.specs.Turns.{Input, Arrived, Ticked}
use Rattle.world_spec.proofs.Firsts.{senders}
use Rattle.world_spec.specs.Facts.{Reached, SendersAreThere}
use Rattle.world_spec.specs.Shapes.{Given, IsSent, IsInjected, IsTick, Said}
use Rattle.world_spec.specs.Steps.{home}
use Rattle.world_spec.specs.World.{World, Sent, first_world, is_there}
use Rattle.world_laws.specs.Hearing.{IsSound}
use Rattle.world_laws.proofs.Heard.{brought_is, heard_is, home_is, there_always}

-- a message that node y sent to node x, and what is read of it
pub record Tells (w : World) (x y : NodeId) (m : Message) : Type 0 where
  pub message : Message
  pub sent : Said w y x message
  pub read : message_at (message_bytes message) ≡ Ok m

-- what node x heard of a node, that node told it
abbrev pub WasTold : World → NodeId → Heard → Type 0
WasTold w x (Refused cause) = Unit {0}
WasTold w x (Told y m) = Tells w x y m
WasTold w x (Brought sender packet) = Unit {0}

abbrev pub InputWasTold : ConfigParts → World → NodeId → Input → Type 0
InputWasTold cfg w x (Arrived from bytes) = WasTold w x (heard cfg from bytes)
InputWasTold cfg w x (Ticked now) = Unit {0}

-- whatever is told by the owner of a socket, is told by that node
of_owner : (P : Heard → Type 0) (y : NodeId) (m : Message) → P (Told y m) → P (of_node (node_owner y) m)
of_owner P (Replica j) m h = h
of_owner P (Mux j) m h = h
of_owner P (Agent j) m h = h

admitted_told : (w : World) (x : NodeId) (o : Who) (m : Message) → WasTold w x (of_node o m) → WasTold w x
    (admitted o m)
unfolding admitted
admitted_told w x o m told =
    by_if (WasTold w x) (is_redirect m && not (is_mux o)) {x = Refused NotFromMux} (λ _. tt) (λ _. told)

read_told : (w : World) (x y : NodeId) (m : Message) → Said w y x m → (r : Result Message MessageFault)
    → message_at (message_bytes m) ≡ r → WasTold w x (decoded (node_owner y) r)
read_told w x y m sent (Err fault) e = tt
read_told w x y m sent (Ok n) e = admitted_told w x (node_owner y) n
    (of_owner (WasTold w x) y n (record { message = m; sent = sent; read = e }))

said_told : (cfg : ConfigParts) (w : World) (x y : NodeId) (said : sends.Said) → who_of cfg (home cfg y) ≡ node_owner y
    → In (record { from = y; to = ToNode x; said = said }) w.sent → WasTold w x (heard cfg (home cfg y) (datagram said))
said_told cfg w x y (Says m) own sent =
    subst (WasTold w x)
    (sym (heard_is cfg (home cfg y) m ∙ ap (λ (o : Who). decoded o (message_at (message_bytes m))) own))
    (read_told w x y m sent (message_at (message_bytes m)) refl)
said_told cfg w x y (Carries packet) own sent = subst (WasTold w x) (sym (brought_is cfg (home cfg y) packet)) tt

-- what comes from outside is told by no node
outside_told : (w : World) (x : NodeId) (o : Who) (f : Option Framed) → is_node o ≡ false → WasTold w x (framed_by o f)
outside_told w x o None e = tt
outside_told w x o (Some (Packet packet)) e = tt
outside_told w x o (Some (Control bytes)) e = by (message_at bytes)
  where
    owner : (o : Who) (n : Message) → is_node o ≡ false → WasTold w x (of_node o n)
    owner (who.Replica j) n e = absurd (cc)
    owner (who.Mux j) n e = absurd (cc)
    owner (who.Agent j) n e = absurd (cc)
    owner (who.Machine machine) n e = tt
    owner who.Outside n e = tt

    by : (r : Result Message MessageFault) → WasTold w x (decoded o r)
    by (Err fault) = tt
    by (Ok n) = admitted_told w x o n (owner o n e)

heard_outside : (cfg : ConfigParts) (w : World) (x : NodeId) (from : Socket) (bytes : List ℕ)
    → is_node (who_of cfg from) ≡ false → WasTold w x (heard cfg from bytes)
unfolding heard
heard_outside cfg w x from bytes e = outside_told w x (who_of cfg from) (frame_at bytes) e

pub given_told : (cfg : ConfigParts) → IsSound cfg → (w : World) → Reached cfg w → (x : NodeId) (i : Input)
    → Given cfg w x i → InputWasTold cfg w x i
given_told cfg sound w r x i (IsTick now is) = subst (InputWasTold cfg w x) (sym is) tt
given_told cfg sound w r x i (IsInjected from bytes outside is) =
    subst (InputWasTold cfg w x) (sym is) (heard_outside cfg w x from bytes outside)
given_told cfg sound w r x i (IsSent s sent to is) =
    let all : SendersAreThere w = subst SendersAreThere (sym r.is) (senders cfg r.events r.named) in
    let there : is_there (first_world cfg) s.from ≡ true =
    sym (there_always cfg w r s.from) ∙ each_in _ w.sent s all sent in
    let at_me : In (record { from = s.from; to = ToNode x; said = s.said }) w.sent =
    subst (λ (p : Place). In (record { from = s.from; to = p; said = s.said }) w.sent) to sent in
    subst (InputWasTold cfg w x) (sym is)
    (said_told cfg w x s.from s.said (home_is cfg sound s.from there) at_me)
