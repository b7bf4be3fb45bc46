-- What goes over a link.
use Rattle.std.specs.Prelude.{◌≤◌, ℕ, Bool, true, false, List, take, Result, Ok, Err, Option, None, Some, ⊤}
use Rattle.wire_core.specs.declared.address.Socket.{Socket}
use Rattle.outside_io.specs.declared.failed.Failed.{Failed}
use Rattle.outside_io.specs.declared.link.Arrival.{Arrival}

-- a datagram that came, with its sender
pub record Received : Type 0 where
  pub from : Socket
  pub bytes : List ℕ

-- an answer of `next`
abbrev pub Answer : Type 0
Answer = Result (Option Received) Failed

-- a datagram that was handed to `send`, and whether that call answered Ok
pub record Sent : Type 0 where
  pub to : Socket
  pub bytes : List ℕ
  pub taken : Bool

-- the answer with the bytes, which are the first of the buffer
abbrev pub answer_with : List ℕ → Result (Option Arrival) Failed → Answer
answer_with buf (Ok (Some a)) = Ok (Some (record { from = a.from; bytes = take a.len buf }))
answer_with buf (Ok None) = Ok None
answer_with buf (Err e) = Err e

-- the datagram with the answer that its `send` had
abbrev pub sent_with : Socket → List ℕ → Result ⊤ Failed → Sent
sent_with to bytes (Ok x) = record { to = to; bytes = bytes; taken = true }
sent_with to bytes (Err e) = record { to = to; bytes = bytes; taken = false }

-- the buffer holds what came
abbrev pub FitsIn : ℕ → Result (Option Arrival) Failed → Type 0
FitsIn room (Ok (Some a)) = a.len ≤ room
FitsIn room (Ok None) = Unit {0}
FitsIn room (Err e) = Unit {0}

-- None is answered only where nothing was waiting
abbrev pub NoneIsIdle : Option Bool → Result (Option Arrival) Failed → Type 0
NoneIsIdle (Some true) (Ok None) = ⊥
NoneIsIdle (Some true) (Ok (Some a)) = Unit {0}
NoneIsIdle (Some true) (Err e) = Unit {0}
NoneIsIdle (Some false) result = Unit {0}
NoneIsIdle None result = Unit {0}
