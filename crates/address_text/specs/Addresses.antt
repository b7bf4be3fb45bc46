-- Addresses and sockets.
use Rattle.std.specs.Prelude.{ℕ, ◌+◌, ◌*◌, ◌/◌, ◌%◌, ◌==◌, List, ◌++◌, Option, Some, None, if◌then◌else◌, codes}
use Rattle.std.specs.Fmt.{decimal}
use Rattle.wire_core.specs.declared.address.Ip4.{Ip4}
use Rattle.wire_core.specs.declared.address.Socket.{Socket}
use Rattle.address_text.specs.Fields.{parts, two_of, four_of}
use Rattle.address_text.specs.Numbers.{number_of}

infixl 10 ◌>>=◌
abbrev pub ◌>>=◌ : {A B : Type 0} → Option A → (A → Option B) → Option B
None >>= f = None
(Some x) >>= f = f x

abbrev pub ip : ℕ → Ip4
ip n = record { 0 = n }

-- the four bytes of an address, the highest first, in decimal between dots
abbrev pub address_text : Ip4 → List ℕ
address_text a =
    decimal (a.0 / 16777216 % 256) ++ codes "." ++ decimal (a.0 / 65536 % 256)
    ++ codes "." ++ decimal (a.0 / 256 % 256) ++ codes "." ++ decimal (a.0 % 256)

-- four numbers up to 255 between dots
unfoldable pub address_of : List ℕ → Option Ip4
address_of text = do
  p ← four_of (parts 46 text)
  a ← number_of 255 p.0
  b ← number_of 255 p.1
  c ← number_of 255 p.2
  d ← number_of 255 p.3
  Some (ip (((a * 256 + b) * 256 + c) * 256 + d))

-- an address, a colon and a port
abbrev pub socket_text : Socket → List ℕ
socket_text s = address_text s.ip ++ codes ":" ++ decimal s.port

unfoldable pub socket_of : List ℕ → Option Socket
socket_of text = do
  p ← two_of (parts 58 text)
  a ← address_of p.0
  port ← number_of 65535 p.1
  if port == 0 then None else Some (record { ip = a; port = port })
