-- What is heard is what was said: of each datagram what its bytes are, and of each input what its sender said.
use Rattle.std.specs.Prelude.{◌≡◌, ◌<◌, ◌^◌, Some}
use Rattle.wire_core.specs.Members.{Each}
use Rattle.wire_core.specs.Numbers.{AreBytes}
use Rattle.wire_core.specs.declared.entry.Entry.{Entry}
use Rattle.wire_core.specs.declared.node.NodeId.{NodeId}
use Rattle.wire_core.specs.declared.node.NodeId.TheVariants.{Replica, Mux, Agent}
use Rattle.control_msg.specs.Messages.{IsMessage, message_bytes}
use Rattle.vip_config.specs.Queries.{KnowsOwners}
use Rattle.vip_config.specs.Rules.{KeepsRules, HasLengths}
use Rattle.vip_config.specs.declared.parts.ConfigParts.{ConfigParts}
use Rattle.paxos_spec.specs.declared.mail.Body.{Body}
use Rattle.node_spec.specs.Datagrams.{Heard, Refused, Told, Brought}
use Rattle.node_spec.specs.Sends.{Place, Said, Says, Carries}
use Rattle.manager_spec.specs.Agreement.{body_in, mail_at}
use Rattle.world_spec.specs.Nodes.{Lists, OfManager, OfMux, OfAgent}
use Rattle.world_spec.specs.World.{World, Sent}
use Rattle.world_laws.specs.Widths.{MailFits, EntryFits, ManagerFits}

-- a configuration as it is read: it keeps its rules, and knows whose each socket is
pub record IsSound (cfg : ConfigParts) : Type 0 where
  pub rules : KeepsRules cfg
  pub lengths : HasLengths cfg
  pub owners : KnowsOwners cfg

-- ---- of each datagram

-- a message is spelled in bytes
abbrev pub IsSpelled : Said → Type 0
IsSpelled (Says m) = AreBytes (message_bytes m)
IsSpelled (Carries packet) = Unit {0}

-- what a replica says of the agreement fits, and what others say is spelled
abbrev pub SaidFits : NodeId → Place → Said → Type 0
SaidFits (Replica i) to said = Each MailFits (mail_at i to said)
SaidFits (Mux i) to said = IsSpelled said
SaidFits (Agent i) to said = IsSpelled said

abbrev pub SentFits : World → Sent → Type 0
SentFits w s = SaidFits s.from s.to s.said

-- ---- of each node

abbrev pub WrittenFits : World → NodeId → Entry → Type 0
WrittenFits w (Replica i) e = EntryFits e
WrittenFits w (Mux i) e = Unit {0}
WrittenFits w (Agent i) e = Unit {0}

-- each node has the lists of its role
abbrev pub ListsFit : ConfigParts → World → NodeId → Lists → Type 0
ListsFit cfg w (Replica i) (OfManager m) = (m.index ≡ i) × ManagerFits cfg m
ListsFit cfg w (Mux i) (OfMux m) = Unit {0}
ListsFit cfg w (Agent i) (OfAgent a) = Unit {0}
ListsFit cfg w _ _ = ⊥

-- ---- of each input

-- what a replica heard fits
abbrev pub HeardFits : Heard → Type 0
HeardFits (Refused cause) = Unit {0}
HeardFits (Told (Replica j) m) = (j < 5) × ((b : Body) → body_in m ≡ Some b → IsMessage m)
HeardFits (Told (Mux j) m) = IsMessage m
HeardFits (Told (Agent j) m) = (j < 2 ^ 16) × IsMessage m
HeardFits (Brought sender packet) = Unit {0}
