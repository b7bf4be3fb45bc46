-- The Internet checksum (RFC 1071, section 1), as RFC 791, RFC 768 and RFC 9293 use it.
use Rattle.std.specs.Prelude.{ℕ, ◌+◌, ◌-◌, ◌*◌, List, [], ◌∷◌, nat_lt, if◌then◌else◌}

-- one's complement addition of two words: the carry out of the highest bit is added at the lowest
unfoldable pub ones_add : ℕ → ℕ → ℕ
ones_add a b = if nat_lt (a + b) 65536 then a + b else a + b - 65535

-- the one's complement sum of the 16-bit words; an odd last byte is padded with a zero byte
unfoldable pub ones_sum : List ℕ → ℕ
ones_sum [] = 0
ones_sum (a ∷ []) = 256 * a
ones_sum (a ∷ b ∷ rest) = ones_add (256 * a + b) (ones_sum rest)

-- the checksum: the one's complement of that sum
unfoldable pub checksum : List ℕ → ℕ
checksum bytes = 65535 - ones_sum bytes
