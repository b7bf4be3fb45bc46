-- A layout lies within so many bytes.
use Rattle.std.specs.Prelude.{ℕ, ◌+◌, ◌≤◌}
use Rattle.packet_spec.specs.declared.layout.Layout.{Layout}
use Rattle.packet_spec.specs.Segments.{least_length}

-- first the header, then a segment with its fixed fields
pub record LiesWithin (l : Layout) (n : ℕ) : Type 0 where
  pub header : 20 ≤ l.start
  pub fields : l.start + least_length l.proto ≤ l.end
  pub within : l.end ≤ n
  pub short : l.end ≤ l.start + 65535
