-- Bytes by their place, and 16-bit words of two bytes, the higher byte first (RFC 791, appendix B).
use Rattle.std.specs.Prelude.{ℕ, ◌+◌, ◌*◌, ◌/◌, ◌%◌, List, [], ◌∷◌, ◌++◌, slice_index, slice_set}
use Rattle.wire_core.specs.declared.address.Ip4.{Ip4}

-- the word at a place
abbrev pub word_at : List ℕ → ℕ → ℕ
word_at p at = 256 * slice_index p at + slice_index p (at + 1)

-- the address in the two words at a place
abbrev pub address_at : List ℕ → ℕ → Ip4
address_at p at = record { 0 = 65536 * word_at p at + word_at p (at + 2) }

-- the bytes with this word at this place; every other byte stays
abbrev pub put_word : List ℕ → ℕ → ℕ → List ℕ
put_word p at word = slice_set (slice_set p at (word / 256)) (at + 1) (word % 256)

-- the bytes with this address at this place; every other byte stays
abbrev pub put_address : List ℕ → ℕ → Ip4 → List ℕ
put_address p at ip = put_word (put_word p at (ip.0 / 65536)) (at + 2) (ip.0 % 65536)

-- a word in two bytes
abbrev pub word_bytes : ℕ → List ℕ
word_bytes word = word / 256 ∷ word % 256 ∷ []

-- an address in four
abbrev pub address_bytes : Ip4 → List ℕ
address_bytes ip = word_bytes (ip.0 / 65536) ++ word_bytes (ip.0 % 65536)
