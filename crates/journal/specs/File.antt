-- A journal file: a gate byte; while it is 1, a length of 4 bytes, a body and the next gate.
use Rattle.std.specs.Prelude.{◌≡◌, ◌<◌, ◌≤◌, ℕ, zero, suc, ◌+◌, Bool, ◌&&◌, ◌==◌, nat_le, nat_lt, is_ok, if◌then◌else◌, List, [], ◌∷◌, ◌++◌, length, get_or, take, drop, Result, Ok, Err, Option, Some, None}
use Rattle.byteorder.specs.Endian.{big_number, big_bytes}
use Rattle.wire_core.specs.Entries.{read_entry}

-- the body spells an entry
unfoldable pub is_entry : List ℕ → Bool
is_entry body = is_ok (read_entry body)

-- the length that stands behind an open gate
unfoldable pub size : List ℕ → ℕ
size rest = big_number 4 (take 4 (drop 1 rest))

-- a length of 4 bytes
unfoldable pub size_bytes : ℕ → List ℕ
size_bytes n = big_bytes 4 n

-- what stands behind a gate: length, body and the next gate
abbrev pub record_with : List ℕ → ℕ → List ℕ
record_with body gate = size_bytes (length body) ++ body ++ gate ∷ []

-- with a closed gate
abbrev pub record_bytes : List ℕ → List ℕ
record_bytes body = record_with body 0

-- the body behind an open gate
abbrev pub body_of : List ℕ → List ℕ
body_of rest = take (size rest) (drop 5 rest)

-- The record behind a gate at this place and the gate after it are within the file and the bound, and the body is an
-- entry.
abbrev pub is_record : ℕ → ℕ → List ℕ → Bool
is_record bound at rest =
    nat_le 1 (size rest) && nat_le (size rest) 65536 && nat_lt (size rest + 5) (length rest)
    && nat_lt (at + size rest + 5) bound && is_entry (body_of rest)

-- What stands at a gate: a body, the end, or nothing of this form.
abbrev pub record_at : ℕ → ℕ → List ℕ → Result (Option (List ℕ)) ℕ
record_at bound at rest =
    if get_or rest 0 0 == 1 then (if is_record bound at rest then Ok (Some (body_of rest)) else Err at) else Ok None

-- behind a body there is more
abbrev pub go_on : Result (Option (List ℕ)) ℕ → (List ℕ → Result (List (List ℕ)) ℕ) → Result (List (List ℕ)) ℕ
go_on (Err at) more = Err at
go_on (Ok None) more = Ok []
go_on (Ok (Some body)) more = more body

-- the bodies before what follows
abbrev pub after : List (List ℕ) → Result (List (List ℕ)) ℕ → Result (List (List ℕ)) ℕ
after bs (Ok more) = Ok (bs ++ more)
after bs (Err at) = Err at

-- the bodies from a gate on, of a file that has at most so many records
abbrev pub bodies_from : ℕ → ℕ → ℕ → List ℕ → Result (List (List ℕ)) ℕ
bodies_from zero bound at rest = Ok []
bodies_from (suc fuel) bound at rest =
    go_on (record_at bound at rest)
    (λ body. after (body ∷ []) (bodies_from fuel bound (at + length body + 5) (drop (length body + 5) rest)))

-- The bodies of a file, or the offset of the open gate where it is damaged. A record has at least 6 bytes.
abbrev pub bodies : ℕ → List ℕ → Result (List (List ℕ)) ℕ
bodies bound file = if nat_le (length file) 1 then Ok [] else bodies_from (length file) bound 0 file

-- Whatever follows, this front of a file is read as these bodies.
pub record StandsFor (bound : ℕ) (front : List ℕ) (bs : List (List ℕ)) : Type 0 where
  pub more : (fuel : ℕ) (rest : List ℕ) → 0 < length rest
      → bodies_from (length bs + fuel) bound 0 (front ++ rest) ≡ after bs (bodies_from fuel bound (length front) rest)
  pub few : length bs ≤ length front
