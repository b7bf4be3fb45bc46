-- The options of a TCP header as a list, and how they are spelled (RFC 9293, section 3.2).
use Rattle.std.specs.Prelude.{◌≡◌, ◌≢◌, ◌≤◌, ℕ, ◌+◌, List, [], ◌∷◌, ◌++◌, length, slice_range}
use Rattle.packet_spec.specs.Options.{data_offset}

-- an option that isn't the maximum segment size: a byte of padding, or a kind with a value
pub data OtherOption : Type 0 where
  Padding : OtherOption
  Carrying : (kind : ℕ) (value : List ℕ) → OtherOption

-- padding is the byte 1; any other option has its kind, its length with both of these bytes, and its value
abbrev pub spelled : OtherOption → List ℕ
spelled Padding = 1 ∷ []
spelled (Carrying kind value) = kind ∷ (2 + length value) ∷ value

-- one after the other
abbrev pub all_spelled : List OtherOption → List ℕ
all_spelled [] = []
all_spelled (o ∷ os) = spelled o ++ all_spelled os

-- kinds 0 and 1 have no value, and kind 2 with two bytes is the maximum segment size
abbrev pub IsOther : OtherOption → Type 0
IsOther Padding = Unit {0}
IsOther (Carrying kind value) = (kind ≢ 0) × (kind ≢ 1) × (kind ≡ 2 → length value ≢ 2)

abbrev pub AreOther : List OtherOption → Type 0
AreOther [] = Unit {0}
AreOther (o ∷ os) = IsOther o × AreOther os

-- the bytes between the fixed fields and the data
abbrev pub options_of : List ℕ → List ℕ
options_of s = slice_range s 20 (data_offset s)

-- a segment's options begin with these and go on like this; with its fixed fields they have at most 60 bytes, all there
pub record HasOptions (s : List ℕ) (before : List OtherOption) (tail : List ℕ) : Type 0 where
  pub within : data_offset s ≤ length s
  pub most : data_offset s ≤ 60
  pub others : AreOther before
  pub bytes : options_of s ≡ all_spelled before ++ tail
