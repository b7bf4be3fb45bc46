-- Reading a message from left to right, with the first fault that is met.
use Rattle.std.specs.Prelude.{ℕ, ◌-◌, ◌%◌, Bool, not, ◌&&◌, List, length, drop, slice_index, Result, Ok, Err, Option}
use Rattle.std.specs.Prelude.{Some, None, nat_lt, nat_le, ◌==◌, if◌then◌else◌}
use Rattle.wire_core.specs.declared.address.Ip4.{Ip4}
use Rattle.wire_core.specs.declared.reading.FieldFault.{FieldFault}
use Rattle.wire_core.specs.declared.reading.FieldFault.TheVariants as field_fault
use Rattle.wire_core.specs.Commands.{LogCommand}
use Rattle.wire_core.specs.Reading.{Read, ◌>>=◌, field, value_at}
use Rattle.control_msg.specs.declared.kind.Kind.{Kind}
use Rattle.control_msg.specs.declared.kind.Kind.TheVariants as kind
use Rattle.control_msg.specs.declared.message.Message.{Message}
use Rattle.control_msg.specs.declared.message.Message.TheVariants.{Prepare, Promise, Accept, Accepted, Refuse, Chosen}
use Rattle.control_msg.specs.declared.message.Message.TheVariants.{Fetch, Ask, Grant, Denied, Return, Returned, AgentUp}
use Rattle.control_msg.specs.declared.message.Message.TheVariants.{AgentKnown, MuxHello, Program, Programmed, Unprogram}
use Rattle.control_msg.specs.declared.message.Message.TheVariants.{Unprogrammed, MuxRefuse, Lead, RedirectAsk, Redirect}
use Rattle.control_msg.specs.declared.reading.MessageFault.{MessageFault}
use Rattle.control_msg.specs.declared.reading.MessageFault.TheVariants as fault

-- ---- fields

unfoldable pub address_at : List ℕ → Read Ip4
address_at bytes = do
  a ← field 4 bytes
  Ok (record { 0 = a.0 }, a.1)

-- a field of n bytes that passes a test
abbrev pub tested_at : (ℕ → Bool) → ℕ → List ℕ → Read ℕ
tested_at passes n bytes = do
  x ← field n bytes
  if passes x.0 then Ok (x.0, x.1) else Err (field_fault.NotAllowed (length bytes))

abbrev pub is_start : ℕ → Bool
is_start start = (start % 8 == 0) && nat_le 1024 start && nat_le start 65528

abbrev pub is_reason : ℕ → Bool
is_reason reason = nat_le 1 reason && nat_le reason 2

abbrev pub is_side : ℕ → Bool
is_side side = nat_le side 1

unfoldable pub start_at : List ℕ → Read ℕ
start_at bytes = tested_at is_start 2 bytes

unfoldable pub reason_at : List ℕ → Read ℕ
reason_at bytes = tested_at is_reason 1 bytes

unfoldable pub side_at : List ℕ → Read ℕ
side_at bytes = tested_at is_side 1 bytes

-- a value exactly where the vote isn't 0
unfoldable pub vote_value_at : ℕ → List ℕ → Read (Option (List LogCommand))
vote_value_at vote bytes =
    if vote == 0 then Ok (None, bytes)
    else (value_at bytes >>= λ value. Ok (Some value.0, value.1))

-- ---- the fields of a message

unfoldable pub number_at : (ℕ → Message) → List ℕ → Read Message
number_at make bytes = do
  a ← field 8 bytes
  Ok (make a.0, a.1)

unfoldable pub two_numbers_at : (ℕ → ℕ → Message) → List ℕ → Read Message
two_numbers_at make bytes = do
  a ← field 8 bytes
  b ← field 8 a.1
  Ok (make a.0 b.0, b.1)

unfoldable pub three_numbers_at : (ℕ → ℕ → ℕ → Message) → List ℕ → Read Message
three_numbers_at make bytes = do
  a ← field 8 bytes
  b ← field 8 a.1
  c ← field 8 b.1
  Ok (make a.0 b.0 c.0, c.1)

-- two numbers and a value
unfoldable pub valued_at : (ℕ → ℕ → List LogCommand → Message) → List ℕ → Read Message
valued_at make bytes = do
  a ← field 8 bytes
  b ← field 8 a.1
  value ← value_at b.1
  Ok (make a.0 b.0 value.0, value.1)

unfoldable pub promise_at : List ℕ → Read Message
promise_at bytes = do
  ballot ← field 8 bytes
  length ← field 8 ballot.1
  vote ← field 8 length.1
  value ← vote_value_at vote.0 vote.1
  Ok (Promise ballot.0 length.0 vote.0 value.0, value.1)

unfoldable pub ask_at : List ℕ → Read Message
ask_at bytes = do
  boot ← field 8 bytes
  machine ← address_at boot.1
  seq ← field 8 machine.1
  Ok (Ask boot.0 machine.0 seq.0, seq.1)

unfoldable pub grant_at : List ℕ → Read Message
grant_at bytes = do
  boot ← field 8 bytes
  machine ← address_at boot.1
  seq ← field 8 machine.1
  n ← field 8 seq.1
  vip ← address_at n.1
  start ← start_at vip.1
  Ok (Grant boot.0 machine.0 seq.0 n.0 vip.0 start.0, start.1)

unfoldable pub denied_at : List ℕ → Read Message
denied_at bytes = do
  boot ← field 8 bytes
  machine ← address_at boot.1
  seq ← field 8 machine.1
  reason ← reason_at seq.1
  count ← field 8 reason.1
  Ok (Denied boot.0 machine.0 seq.0 reason.0 count.0, count.1)

unfoldable pub program_at : List ℕ → Read Message
program_at bytes = do
  epoch ← field 8 bytes
  boot ← field 8 epoch.1
  n ← field 8 boot.1
  vip ← address_at n.1
  start ← start_at vip.1
  machine ← address_at start.1
  Ok (Program epoch.0 boot.0 n.0 vip.0 start.0 machine.0, machine.1)

unfoldable pub unprogram_at : List ℕ → Read Message
unprogram_at bytes = do
  epoch ← field 8 bytes
  boot ← field 8 epoch.1
  n ← field 8 boot.1
  vip ← address_at n.1
  start ← start_at vip.1
  Ok (Unprogram epoch.0 boot.0 n.0 vip.0 start.0, start.1)

unfoldable pub redirect_ask_at : List ℕ → Read Message
redirect_ask_at bytes = do
  src ← address_at bytes
  sport ← field 2 src.1
  dst ← address_at sport.1
  dport ← field 2 dst.1
  machine ← address_at dport.1
  Ok (RedirectAsk src.0 sport.0 dst.0 dport.0 machine.0, machine.1)

unfoldable pub redirect_at : List ℕ → Read Message
redirect_at bytes = do
  side ← side_at bytes
  n ← field 8 side.1
  src ← address_at n.1
  sport ← field 2 src.1
  dst ← address_at sport.1
  dport ← field 2 dst.1
  opener ← address_at dport.1
  server ← address_at opener.1
  Ok (Redirect side.0 n.0 src.0 sport.0 dst.0 dport.0 opener.0 server.0, server.1)

-- ---- kinds

abbrev pub kind_of : ℕ → Option Kind
kind_of byte =
    if byte == 1 then Some kind.Prepare
    else if byte == 2 then Some kind.Promise
    else if byte == 3 then Some kind.Accept
    else if byte == 4 then Some kind.Accepted
    else if byte == 5 then Some kind.Refuse
    else if byte == 6 then Some kind.Chosen
    else if byte == 7 then Some kind.Fetch
    else if byte == 8 then Some kind.Ask
    else if byte == 9 then Some kind.Grant
    else if byte == 10 then Some kind.Denied
    else if byte == 11 then Some kind.Return
    else if byte == 12 then Some kind.Returned
    else if byte == 13 then Some kind.AgentUp
    else if byte == 14 then Some kind.AgentKnown
    else if byte == 15 then Some kind.MuxHello
    else if byte == 16 then Some kind.Program
    else if byte == 17 then Some kind.Programmed
    else if byte == 18 then Some kind.Unprogram
    else if byte == 19 then Some kind.Unprogrammed
    else if byte == 20 then Some kind.MuxRefuse
    else if byte == 21 then Some kind.Lead
    else if byte == 22 then Some kind.RedirectAsk
    else if byte == 23 then Some kind.Redirect
    else None

abbrev pub fields_at : Kind → List ℕ → Read Message
fields_at kind.Prepare = number_at Prepare
fields_at kind.Promise = promise_at
fields_at kind.Accept = valued_at Accept
fields_at kind.Accepted = two_numbers_at Accepted
fields_at kind.Refuse = two_numbers_at Refuse
fields_at kind.Chosen = valued_at Chosen
fields_at kind.Fetch = number_at Fetch
fields_at kind.Ask = ask_at
fields_at kind.Grant = grant_at
fields_at kind.Denied = denied_at
fields_at kind.Return = two_numbers_at Return
fields_at kind.Returned = two_numbers_at Returned
fields_at kind.AgentUp = number_at AgentUp
fields_at kind.AgentKnown = number_at AgentKnown
fields_at kind.MuxHello = two_numbers_at MuxHello
fields_at kind.Program = program_at
fields_at kind.Programmed = three_numbers_at Programmed
fields_at kind.Unprogram = unprogram_at
fields_at kind.Unprogrammed = three_numbers_at Unprogrammed
fields_at kind.MuxRefuse = three_numbers_at MuxRefuse
fields_at kind.Lead = two_numbers_at Lead
fields_at kind.RedirectAsk = redirect_ask_at
fields_at kind.Redirect = redirect_at

-- ---- the whole

-- a fault among so many bytes, by its offset
abbrev pub fault_of : ℕ → FieldFault → MessageFault
fault_of total field_fault.Short = fault.Short
fault_of total (field_fault.NotAllowed left) = fault.Field (total - left)

-- nothing may be left over
abbrev pub whole : ℕ → Read Message → Result Message MessageFault
whole total (Ok x) = if length x.1 == 0 then Ok x.0 else Err fault.Extra
whole total (Err e) = Err (fault_of total e)

abbrev pub of_kind : List ℕ → Option Kind → Result Message MessageFault
of_kind bytes None = Err fault.Kind
of_kind bytes (Some k) = whole (length bytes) (fields_at k (drop 2 bytes))

-- The message that these bytes spell as a whole, or the first fault: too short for a version and a kind, another
-- version than 1, no such kind, then field by field, and last what is left over.
unfoldable pub message_at : List ℕ → Result Message MessageFault
message_at bytes =
    if nat_lt (length bytes) 2 then Err fault.Short
    else if not (slice_index bytes 0 == 1) then Err (fault.Field 0)
    else of_kind bytes (kind_of (slice_index bytes 1))
