-- The file now, and after each earlier call, from what the later calls replaced.
use Rattle.std.specs.Prelude.{ℕ, ◌≤◌, ◌+◌, ◌-◌, List, [], ◌∷◌, ◌++◌, length, take, drop, reverse}
use Rattle.outside_io.specs.Disk.{FileState, History}
use Rattle.outside_io.specs.declared.disk.Span.{Span}
use Rattle.disk_model.specs.declared.state.Replaced.{Replaced}
use Rattle.disk_model.specs.declared.state.Replaced.TheVariants.{Bytes, Ranges}
use Rattle.disk_model.specs.declared.state.Undo.{Undo}
use Rattle.disk_model.specs.declared.state.MemDisk.TheInside.{Inside}
use Rattle.disk_model.specs.Disks.{DiskState}

-- the bytes before the call that left these
abbrev pub bytes_before : Replaced → List ℕ → List ℕ
bytes_before (Bytes at count old) bytes = take at bytes ++ old ++ drop (at + count) bytes
bytes_before (Ranges unsynced) bytes = bytes

-- the written ranges before the call that left these: it added one, or it was a sync and took them all
abbrev pub ranges_before : Replaced → List Span → List Span
ranges_before (Bytes at count old) ranges = take (length ranges - 1) ranges
ranges_before (Ranges unsynced) ranges = unsynced

-- the file before the call that left this
abbrev pub before : Undo → FileState → FileState
before u f = record {
  bytes = bytes_before u.replaced f.bytes;
  unsynced = ranges_before u.replaced f.unsynced;
  least = u.least;
  greatest = u.greatest;
}

-- the file before each call, the latest call first
abbrev pub pasts : List Undo → FileState → List FileState
pasts [] f = []
pasts (u ∷ us) f = before u f ∷ pasts us (before u f)

-- the file now
abbrev pub state_of : Inside → FileState
state_of d = record {
  bytes = take d.len d.buffer.items;
  unsynced = d.unsynced.items;
  least = d.least;
  greatest = length d.buffer.items;
}

-- the file now and after each earlier call, and the faults
abbrev pub disk_of : Inside → DiskState
disk_of d = record {
  history = record { now = state_of d; past = pasts (reverse d.undo.items) (state_of d) };
  faults = d.faults;
}

-- The file is the front of the buffer, and no shorter than the least length.
pub record IsWhole (d : Inside) : Type 0 where
  pub low : d.least ≤ d.len
  pub high : d.len ≤ length d.buffer.items
