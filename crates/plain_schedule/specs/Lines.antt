-- The lines of a plain schedule behind the first.
use Rattle.std.specs.Prelude.{ℕ, ◌+◌, ◌%◌, ◌^◌, ◌-◌, Bool, ◌&&◌, ◌||◌, nat_lt, nat_le, ◌==◌, List, [], ◌∷◌, length, slice_index, Option, Some, None, Result, Ok, Err, if◌then◌else◌, codes}
use Rattle.std.specs.Str.{bytes_eq}
use Rattle.hex.specs.Hex.{decode_of}
use Rattle.hex.specs.declared.error.FromHexError.{FromHexError}
use Rattle.address_text.specs.Fields.{parts, two_of, three_of}
use Rattle.address_text.specs.Numbers.{number_of}
use Rattle.address_text.specs.Addresses.{◌>>=◌, address_of}
use Rattle.plain_schedule.specs.declared.line.Line.{Line}
use Rattle.plain_schedule.specs.declared.line.Line.TheVariants.{Skip, Vip, Ask, Return, Packet, Reply}

-- low is the first port of a range and high the last port of one, from 1024 on
abbrev pub are_bounds : ℕ → ℕ → Bool
are_bounds low high = (low % 8 == 0) && nat_le 1024 low && ((high + 1) % 8 == 0) && nat_lt low high

-- an address and two ports
unfoldable pub vip_line : List (List ℕ) → Option Line
vip_line fields = do
  w ← three_of fields
  vip ← address_of w.0
  low ← number_of 65535 w.1
  high ← number_of 65535 w.2
  if are_bounds low high then Some (Vip vip low high) else None

-- two addresses
unfoldable pub ask_line : List (List ℕ) → Option Line
ask_line fields = do
  w ← two_of fields
  vip ← address_of w.0
  machine ← address_of w.1
  Some (Ask vip machine)

abbrev pub one_of : List (List ℕ) → Option (List ℕ)
one_of (a ∷ []) = Some a
one_of other = None

-- a number of 64 bits
unfoldable pub return_line : List (List ℕ) → Option Line
return_line fields = do
  w ← one_of fields
  n ← number_of (2 ^ 64 - 1) w
  Some (Return n)

abbrev pub few_bytes : Result (List ℕ) FromHexError → Option (List ℕ)
few_bytes (Err fault) = None
few_bytes (Ok bytes) = if nat_le 1 (length bytes) && nat_le (length bytes) 65507 then Some bytes else None

-- 1 to 65,507 bytes in hexadecimal, of either case
abbrev pub bytes_of : List ℕ → Option (List ℕ)
bytes_of text = few_bytes (decode_of text)

-- one field of bytes
abbrev pub bytes_in : List (List ℕ) → Option (List ℕ)
bytes_in fields = do
  w ← one_of fields
  bytes_of w

abbrev pub packet_line : Option (List ℕ) → Option Line
packet_line None = None
packet_line (Some bytes) = Some (Packet bytes)

abbrev pub reply_line : Option (List ℕ) → Option Line
reply_line None = None
reply_line (Some bytes) = Some (Reply bytes)

-- a line about VIPs and leases
abbrev pub lease_line : List ℕ → List (List ℕ) → Option Line
lease_line word fields =
    if bytes_eq word (codes "vip") then vip_line fields
    else if bytes_eq word (codes "ask") then ask_line fields
    else if bytes_eq word (codes "return") then return_line fields
    else None

-- a word and its fields
abbrev pub word_line : List (List ℕ) → Option Line
word_line [] = None
word_line (word ∷ fields) =
    if bytes_eq word (codes "packet") then packet_line (bytes_in fields)
    else if bytes_eq word (codes "reply") then reply_line (bytes_in fields)
    else lease_line word fields

-- Empty lines and lines that begin with # are skipped. One space separates fields.
abbrev pub line_of : List ℕ → Option Line
line_of text = if (length text == 0) || (slice_index text 0 == 35) then Some Skip else word_line (parts 32 text)
