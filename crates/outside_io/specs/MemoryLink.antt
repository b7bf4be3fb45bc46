-- What a link in memory tells.
use Rattle.std.specs.Prelude.{ℕ, zero, suc, ◌-◌, ◌^◌, ◌==◌, List, [], ◌∷◌, ◌++◌, length, take, get_or, map, nat_lt, Ok, Err, Option, None, Some, if◌then◌else◌}
use Rattle.outside_io.specs.Link.{Answer, Sent}
use Rattle.outside_io.specs.declared.mem_link.MemAnswer.{MemAnswer}
use Rattle.outside_io.specs.declared.mem_link.MemAnswer.TheVariants.{Idle, Fails, Came}
use Rattle.outside_io.specs.declared.mem_link.MemLink.{MemLink}
use Rattle.outside_io.specs.declared.mem_link.SentDatagram.{SentDatagram}

-- an answer of the list, in a buffer of so many bytes
abbrev pub answer_of : ℕ → MemAnswer → Answer
answer_of room Idle = Ok None
answer_of room Fails = Err (record {})
answer_of room (Came from bytes) = Ok (Some (record { from = from; bytes = take room bytes.items }))

-- the answer of the call with this number: those of the list in order, then None
abbrev pub answer_at : ℕ → List MemAnswer → ℕ → Answer
answer_at room list n = if nat_lt n (length list) then answer_of room (get_or list n Idle) else Ok None

-- the answers of the first n calls
abbrev pub first_answers : ℕ → List MemAnswer → ℕ → List Answer
first_answers room list zero = []
first_answers room list (suc n) = first_answers room list n ++ answer_at room list n ∷ []

-- a datagram that was kept
abbrev pub sent_of : SentDatagram → Sent
sent_of s = record { to = s.to; bytes = s.bytes.items; taken = s.taken }

-- all answers so far, as long as the link can count its calls
abbrev pub link_answers : MemLink → Option (List Answer)
link_answers link = if link.calls == 2 ^ 64 - 1 then None else Some (first_answers 65507 link.list.items link.calls)

-- what was handed to send, as long as there was memory to keep it
abbrev pub link_sent : MemLink → Option (List Sent)
link_sent link = if link.forgot then None else Some (map sent_of link.kept.items)
