-- Reading is the inverse of writing.
use Rattle.std.specs.Prelude.{◌≡◌, ℕ, ◌<◌, ◌≤◌, ◌^◌, List, Some}
use Rattle.std.specs.Fmt.{decimal}
use Rattle.wire_core.specs.declared.address.Ip4.{Ip4}
use Rattle.wire_core.specs.declared.address.Socket.{Socket}
use Rattle.address_text.specs.Numbers.{number_of}
use Rattle.address_text.specs.Addresses.{address_text, address_of, socket_text, socket_of}

-- a text is read as n exactly where it is n's decimal text and n is within the limit
pub record NumbersHaveOneSpelling : Type 0 where
  pub read : (limit n : ℕ) → n ≤ limit → limit < 2 ^ 64 → number_of limit (decimal n) ≡ Some n
  pub spelled : (limit n : ℕ) (text : List ℕ) → limit < 2 ^ 64 → number_of limit text ≡ Some n
      → (text ≡ decimal n) × (n ≤ limit)

pub record AddressesHaveOneSpelling : Type 0 where
  pub read : (a : Ip4) → a.0 < 2 ^ 32 → address_of (address_text a) ≡ Some a
  pub spelled : (a : Ip4) (text : List ℕ) → address_of text ≡ Some a → (text ≡ address_text a) × (a.0 < 2 ^ 32)

abbrev pub IsSocket : Socket → Type 0
IsSocket s = (s.ip.0 < 2 ^ 32) × (0 < s.port) × (s.port < 2 ^ 16)

pub record SocketsHaveOneSpelling : Type 0 where
  pub read : (s : Socket) → IsSocket s → socket_of (socket_text s) ≡ Some s
  pub spelled : (s : Socket) (text : List ℕ) → socket_of text ≡ Some s → (text ≡ socket_text s) × IsSocket s
