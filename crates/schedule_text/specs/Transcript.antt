-- The lines of a transcript.
use Rattle.std.specs.Prelude.{ℕ, List, [], ◌++◌, codes}
use Rattle.std.specs.Fmt.{decimal}
use Rattle.hex.specs.Hex.{encode_lower}
use Rattle.wire_core.specs.declared.address.Socket.{Socket}
use Rattle.wire_core.specs.declared.address.Ip4.{Ip4}
use Rattle.wire_core.specs.declared.node.NodeId.{NodeId}
use Rattle.wire_core.specs.declared.node.NodeId.TheVariants as node
use Rattle.wire_core.specs.declared.flow.Proto.{Proto}
use Rattle.wire_core.specs.declared.flow.Proto.TheVariants.{Tcp, Udp}
use Rattle.wire_core.specs.declared.cause.DropCause.{DropCause}
use Rattle.wire_core.specs.declared.cause.DropCause.TheVariants as cause
use Rattle.address_text.specs.Addresses.{address_text, socket_text}
use Rattle.packet_spec.specs.Causes.{cause_name}
use Rattle.vip_config.specs.declared.parts.ConfigParts.{ConfigParts}
use Rattle.vip_config.specs.declared.who.Who.{Who}
use Rattle.vip_config.specs.declared.who.Who.TheVariants as who
use Rattle.vip_config.specs.Queries.{who_of}
use Rattle.wire_core.specs.declared.connection.Conn.{Conn}
use Rattle.wire_core.specs.declared.act.Act.{Act}
use Rattle.wire_core.specs.declared.act.Act.TheVariants.{Reserve, Grant, Free, Freed, Hold, Drop}
use Rattle.wire_core.specs.declared.act.Act.TheVariants.{Open, Close, Lose, Hand}
use Rattle.wire_core.specs.declared.note.Note.{Note}
use Rattle.wire_core.specs.declared.note.Note.TheVariants.{Queued, Dropped}
use Rattle.schedule_text.specs.declared.line.Word.{Word}
use Rattle.schedule_text.specs.declared.line.Word.TheVariants.{NotYet, Outside, Down, Up, Other}
use Rattle.schedule_text.specs.declared.line.Line.{Line}
use Rattle.schedule_text.specs.declared.line.Line.TheVariants as line
use Rattle.schedule_text.specs.Texts.{event_text, node_text}

abbrev pub proto_text : Proto → List ℕ
proto_text Tcp = codes "tcp"
proto_text Udp = codes "udp"

-- an address as one text
unfoldable pub place_text : Ip4 → List ℕ
place_text a = address_text a

-- an address and a port as two words
unfoldable pub end_text : Ip4 → ℕ → List ℕ
end_text ip port = codes " " ++ (place_text ip ++ (codes " " ++ decimal port))

-- the public end, the remote end, the machine's end
abbrev pub conn_text : Conn → List ℕ
conn_text c = proto_text c.proto ++ (end_text c.vip c.port ++ (end_text c.remote c.rport ++ end_text c.machine c.sport))

abbrev pub act_text : Act → List ℕ
act_text (Reserve n range machine) =
    codes "act reserve " ++ (decimal n ++ (end_text range.vip range.start ++ (codes " " ++ place_text machine)))
act_text (Grant n) = codes "act grant " ++ decimal n
act_text (Free n) = codes "act free " ++ decimal n
act_text (Freed n) = codes "act freed " ++ decimal n
act_text (Hold n) = codes "act hold " ++ decimal n
act_text (Drop n) = codes "act drop " ++ decimal n
act_text (Open c) = codes "act open " ++ conn_text c
act_text (Close c) = codes "act close " ++ conn_text c
act_text (Lose agent) = codes "act lose agent " ++ decimal agent
act_text (Hand machine bytes) = codes "act hand " ++ (place_text machine ++ (codes " " ++ encode_lower bytes))

-- the number of a cause that carries one
abbrev pub number_text : DropCause → List ℕ
number_text (cause.WrongBoot number) = codes " " ++ decimal number
number_text (cause.OldEpoch number) = codes " " ++ decimal number
number_text (cause.OldNumber number) = codes " " ++ decimal number
number_text (cause.OldGrant number) = codes " " ++ decimal number
number_text (cause.StaleLease number) = codes " " ++ decimal number
number_text _ = []

-- what was held, or why something was dropped
abbrev pub note_text : Note → List ℕ
note_text (Queued machine count) = codes "queued " ++ (place_text machine ++ (codes " " ++ decimal count))
note_text (Dropped c) = codes "drop " ++ (cause_name c ++ number_text c)

abbrev pub word_text : Word → List ℕ
word_text NotYet = codes "none"
word_text Outside = codes "outside"
word_text Down = codes "down"
word_text Up = codes "up"
word_text Other = codes "other"

-- a node where the socket is one's, else the socket
abbrev pub target_text : Who → Socket → List ℕ
target_text (who.Replica i) to = node_text (node.Replica i)
target_text (who.Mux i) to = node_text (node.Mux i)
target_text (who.Agent i) to = node_text (node.Agent i)
target_text (who.Machine a) to = socket_text to
target_text who.Outside to = socket_text to

unfoldable pub sent_to : ConfigParts → Socket → List ℕ
sent_to cfg to = target_text (who_of cfg to) to

-- a line without its end
abbrev pub line_text : ConfigParts → Line → List ℕ
line_text cfg (line.Event e) = codes "event " ++ event_text e
line_text cfg (line.Delivery k) = codes "event deliver " ++ decimal k
line_text cfg (line.Word w) = word_text w
line_text cfg (line.Act a) = act_text a
line_text cfg (line.Note n) = note_text n
line_text cfg (line.Sent k from to bytes) =
    codes "sent " ++ (decimal k ++ (codes " " ++ (node_text from ++ (codes " "
    ++ (sent_to cfg to ++ (codes " " ++ encode_lower bytes))))))

abbrev pub printed_line : ConfigParts → Line → List ℕ
printed_line cfg l = line_text cfg l ++ codes "\n"
