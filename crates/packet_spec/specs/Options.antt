-- The options of a TCP header (RFC 9293, section 3.2): kind 0 ends them, kind 1 is one byte of padding, and any
-- other kind is followed by its length, which counts both bytes.
use Rattle.std.specs.Prelude.{◌≤◌, ℕ, zero, suc, ◌+◌, ◌*◌, ◌/◌, Bool, ◌&&◌, ◌||◌, ◌==◌, nat_lt, nat_le, List}
use Rattle.std.specs.Prelude.{slice_index, Option, Some, None, if◌then◌else◌}
use Rattle.packet_spec.specs.declared.options.OptionStep.{OptionStep}
use Rattle.packet_spec.specs.declared.options.OptionStep.TheVariants.{Stop, Size, Next}

-- the length of the TCP header in words of four bytes: the upper four bits of byte 12
abbrev pub data_words : List ℕ → ℕ
data_words s = slice_index s 12 / 16

-- where the data begin, in bytes
abbrev pub data_offset : List ℕ → ℕ
data_offset s = 4 * data_words s

-- an option whose length byte is missing, too small, or goes past the end of the options
abbrev pub is_broken : List ℕ → ℕ → ℕ → Bool
is_broken s end at =
    nat_le end (at + 1) || nat_lt (slice_index s (at + 1)) 2 || nat_lt end (at + slice_index s (at + 1))

-- what stands at a place
unfoldable pub option_at : List ℕ → ℕ → ℕ → OptionStep
option_at s end at =
    if nat_le end at || (slice_index s at == 0) then Stop
    else if slice_index s at == 1 then Next (at + 1)
    else if is_broken s end at then Stop
    else if (slice_index s at == 2) && (slice_index s (at + 1) == 4) then Size (at + 2)
    else Next (at + slice_index s (at + 1))

-- a value that was found has both its bytes
abbrev pub IsWithin : OptionStep → ℕ → Type 0
IsWithin Stop n = Unit {0}
IsWithin (Size at) n = at + 2 ≤ n
IsWithin (Next at) n = Unit {0}

-- the value that was found, or what is found from the next place on
abbrev pub follow : (ℕ → Option ℕ) → OptionStep → Option ℕ
follow more Stop = None
follow more (Size at) = Some at
follow more (Next at) = more at

-- the place of the value of the first option of kind 2 and length 4, among so many options from a place on
unfoldable pub mss_from : ℕ → List ℕ → ℕ → ℕ → Option ℕ
mss_from zero s end at = None
mss_from (suc count) s end at = follow (λ next. mss_from count s end next) (option_at s end at)

-- where a TCP segment carries its maximum segment size: the options stand from byte 20 to the data, at most 40 bytes
unfoldable pub mss_at : List ℕ → Option ℕ
mss_at s = mss_from 40 s (data_offset s) 20
