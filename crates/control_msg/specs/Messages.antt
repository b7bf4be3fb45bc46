-- The messages between nodes, and the one spelling of each.
use Rattle.std.specs.Prelude.{◌≡◌, ℕ, ◌%◌, ◌^◌, ◌<◌, ◌≤◌, List, [], ◌∷◌, ◌++◌, Option, Some, None}
use Rattle.wire_core.specs.declared.address.Ip4.{Ip4}
use Rattle.wire_core.specs.Numbers.{number_bytes}
use Rattle.wire_core.specs.Commands.{LogCommand, IsValue, value_bytes}
use Rattle.control_msg.specs.declared.message.Message.{Message}
use Rattle.control_msg.specs.declared.message.Message.TheVariants.{Prepare, Promise, Accept, Accepted, Refuse, Chosen}
use Rattle.control_msg.specs.declared.message.Message.TheVariants.{Fetch, Ask, Grant, Denied, Return, Returned, AgentUp}
use Rattle.control_msg.specs.declared.message.Message.TheVariants.{AgentKnown, MuxHello, Program, Programmed, Unprogram}
use Rattle.control_msg.specs.declared.message.Message.TheVariants.{Unprogrammed, MuxRefuse, Lead, RedirectAsk, Redirect}

-- ---- fields

abbrev pub number : ℕ → List ℕ
number n = number_bytes 8 n

abbrev pub address : Ip4 → List ℕ
address a = number_bytes 4 a.0

abbrev pub port : ℕ → List ℕ
port p = number_bytes 2 p

abbrev pub byte : ℕ → List ℕ
byte b = b ∷ []

abbrev pub optional_value : Option (List LogCommand) → List ℕ
optional_value None = []
optional_value (Some value) = value_bytes value

-- ---- messages

-- the version byte 1, a kind byte, the fields
abbrev pub spelled : ℕ → List ℕ → List ℕ
spelled kind fields = 1 ∷ kind ∷ fields

abbrev pub message_bytes : Message → List ℕ
message_bytes (Prepare ballot) = spelled 1 (number ballot)
message_bytes (Promise ballot length vote value) =
    spelled 2 (number ballot ++ number length ++ number vote ++ optional_value value)
message_bytes (Accept ballot slot value) = spelled 3 (number ballot ++ number slot ++ value_bytes value)
message_bytes (Accepted ballot slot) = spelled 4 (number ballot ++ number slot)
message_bytes (Refuse ballot promised) = spelled 5 (number ballot ++ number promised)
message_bytes (Chosen slot ballot value) = spelled 6 (number slot ++ number ballot ++ value_bytes value)
message_bytes (Fetch slot) = spelled 7 (number slot)
message_bytes (Ask boot machine seq) = spelled 8 (number boot ++ address machine ++ number seq)
message_bytes (Grant boot machine seq n vip start) =
    spelled 9 (number boot ++ address machine ++ number seq ++ number n ++ address vip ++ port start)
message_bytes (Denied boot machine seq reason count) =
    spelled 10 (number boot ++ address machine ++ number seq ++ byte reason ++ number count)
message_bytes (Return boot n) = spelled 11 (number boot ++ number n)
message_bytes (Returned boot n) = spelled 12 (number boot ++ number n)
message_bytes (AgentUp boot) = spelled 13 (number boot)
message_bytes (AgentKnown boot) = spelled 14 (number boot)
message_bytes (MuxHello boot epoch) = spelled 15 (number boot ++ number epoch)
message_bytes (Program epoch boot n vip start machine) =
    spelled 16 (number epoch ++ number boot ++ number n ++ address vip ++ port start ++ address machine)
message_bytes (Programmed epoch boot n) = spelled 17 (number epoch ++ number boot ++ number n)
message_bytes (Unprogram epoch boot n vip start) =
    spelled 18 (number epoch ++ number boot ++ number n ++ address vip ++ port start)
message_bytes (Unprogrammed epoch boot n) = spelled 19 (number epoch ++ number boot ++ number n)
message_bytes (MuxRefuse epoch boot kept) = spelled 20 (number epoch ++ number boot ++ number kept)
message_bytes (Lead ballot length) = spelled 21 (number ballot ++ number length)
message_bytes (RedirectAsk src sport dst dport machine) =
    spelled 22 (address src ++ port sport ++ address dst ++ port dport ++ address machine)
message_bytes (Redirect side n src sport dst dport opener server) =
    spelled 23 (byte side ++ number n ++ address src ++ port sport ++ address dst ++ port dport
    ++ address opener ++ address server)

-- ---- which messages there are

abbrev pub IsNumber : ℕ → Type 0
IsNumber n = n < 2 ^ 64

abbrev pub IsAddress : Ip4 → Type 0
IsAddress a = a.0 < 2 ^ 32

abbrev pub IsPort : ℕ → Type 0
IsPort p = p < 2 ^ 16

-- the first port of a range: a multiple of 8 from 1024 to 65528
abbrev pub IsStart : ℕ → Type 0
IsStart start = (start % 8 ≡ 0) × (1024 ≤ start) × (start ≤ 65528)

-- 1 where no range was free, 2 where the machine had as many as it may
abbrev pub IsReason : ℕ → Type 0
IsReason reason = (1 ≤ reason) × (reason ≤ 2)

-- 0 for the opener's agent, 1 for the server's
abbrev pub IsSide : ℕ → Type 0
IsSide side = side ≤ 1

-- a value exactly where the vote isn't 0
abbrev pub IsVote : ℕ → Option (List LogCommand) → Type 0
IsVote vote None = vote ≡ 0
IsVote vote (Some value) = (0 < vote) × IsValue value

-- each field is allowed, within its width
abbrev pub IsMessage : Message → Type 0
IsMessage (Prepare ballot) = IsNumber ballot
IsMessage (Promise ballot length vote value) = IsNumber ballot × IsNumber length × IsNumber vote × IsVote vote value
IsMessage (Accept ballot slot value) = IsNumber ballot × IsNumber slot × IsValue value
IsMessage (Accepted ballot slot) = IsNumber ballot × IsNumber slot
IsMessage (Refuse ballot promised) = IsNumber ballot × IsNumber promised
IsMessage (Chosen slot ballot value) = IsNumber slot × IsNumber ballot × IsValue value
IsMessage (Fetch slot) = IsNumber slot
IsMessage (Ask boot machine seq) = IsNumber boot × IsAddress machine × IsNumber seq
IsMessage (Grant boot machine seq n vip start) =
    IsNumber boot × IsAddress machine × IsNumber seq × IsNumber n × IsAddress vip × IsStart start
IsMessage (Denied boot machine seq reason count) =
    IsNumber boot × IsAddress machine × IsNumber seq × IsReason reason × IsNumber count
IsMessage (Return boot n) = IsNumber boot × IsNumber n
IsMessage (Returned boot n) = IsNumber boot × IsNumber n
IsMessage (AgentUp boot) = IsNumber boot
IsMessage (AgentKnown boot) = IsNumber boot
IsMessage (MuxHello boot epoch) = IsNumber boot × IsNumber epoch
IsMessage (Program epoch boot n vip start machine) =
    IsNumber epoch × IsNumber boot × IsNumber n × IsAddress vip × IsStart start × IsAddress machine
IsMessage (Programmed epoch boot n) = IsNumber epoch × IsNumber boot × IsNumber n
IsMessage (Unprogram epoch boot n vip start) =
    IsNumber epoch × IsNumber boot × IsNumber n × IsAddress vip × IsStart start
IsMessage (Unprogrammed epoch boot n) = IsNumber epoch × IsNumber boot × IsNumber n
IsMessage (MuxRefuse epoch boot kept) = IsNumber epoch × IsNumber boot × IsNumber kept
IsMessage (Lead ballot length) = IsNumber ballot × IsNumber length
IsMessage (RedirectAsk src sport dst dport machine) =
    IsAddress src × IsPort sport × IsAddress dst × IsPort dport × IsAddress machine
IsMessage (Redirect side n src sport dst dport opener server) =
    IsSide side × IsNumber n × IsAddress src × IsPort sport × IsAddress dst × IsPort dport
    × IsAddress opener × IsAddress server
