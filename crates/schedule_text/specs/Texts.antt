-- How events are written.
use Rattle.std.specs.Prelude.{ℕ, Bool, true, false, List, ◌++◌, codes}
use Rattle.std.specs.Fmt.{decimal}
use Rattle.hex.specs.Hex.{encode_lower}
use Rattle.wire_core.specs.declared.address.Socket.{Socket}
use Rattle.wire_core.specs.declared.node.NodeId.{NodeId}
use Rattle.wire_core.specs.declared.node.NodeId.TheVariants.{Replica, Mux, Agent}
use Rattle.address_text.specs.Addresses.{socket_text}
use Rattle.schedule_text.specs.declared.event.Single.{Single}
use Rattle.schedule_text.specs.declared.event.Single.TheVariants.{Deliver, Inject, Tick, Restart}
use Rattle.schedule_text.specs.declared.event.Event.{Event}
use Rattle.schedule_text.specs.declared.event.Event.TheVariants as event

-- a role and a number
abbrev pub node_text : NodeId → List ℕ
node_text (Replica i) = codes "replica " ++ decimal i
node_text (Mux i) = codes "mux " ++ decimal i
node_text (Agent i) = codes "agent " ++ decimal i

abbrev pub single_text : Single → List ℕ
single_text (Deliver k) = codes "deliver " ++ decimal k
single_text (Inject node from bytes) =
    codes "inject " ++ (node_text node ++ (codes " " ++ (socket_text from ++ (codes " " ++ encode_lower bytes))))
single_text (Tick node now) = codes "tick " ++ (node_text node ++ (codes " " ++ decimal now))
single_text (Restart node) = codes "restart " ++ node_text node

abbrev pub kept_text : Bool → List ℕ
kept_text true = codes " keep"
kept_text false = codes " lose"

abbrev pub event_text : Event → List ℕ
event_text (event.Single e) = single_text e
event_text (event.Settle n) = codes "settle " ++ decimal n
event_text (event.Crash node) = codes "crash " ++ node_text node
event_text (event.During node e keep) =
    codes "crash " ++ (node_text node ++ (codes " during " ++ (single_text e ++ kept_text keep)))
