-- Sums whose carries are folded in at the end (RFC 1071, section 2, 'deferred carries').
use Rattle.std.specs.Prelude.{ℕ, ◌+◌, ◌-◌, ◌*◌, ◌%◌, ◌==◌, List, [], ◌∷◌, if◌then◌else◌}

-- 0 for 0, and else the number from 1 to 65535 that differs by a multiple of 65535
unfoldable pub folded : ℕ → ℕ
folded n = if n == 0 then 0 else (n - 1) % 65535 + 1

-- the plain sum of the 16-bit words; an odd last byte is padded with a zero byte
unfoldable pub word_sum : List ℕ → ℕ
word_sum [] = 0
word_sum (a ∷ []) = 256 * a
word_sum (a ∷ b ∷ rest) = 256 * a + b + word_sum rest
