-- What a clause sees of a disk in memory and of a fuse.
use Rattle.std.specs.Prelude.{ℕ}
use Rattle.outside_io.specs.Disk.{History}

-- a disk in memory: the file now and after each earlier call, and how often a call has failed
pub record DiskState : Type 0 where
  pub history : History
  pub faults : ℕ

-- a fuse: its disk, how many calls are left that pass, and how often a call of the fuse has failed
pub record FuseState : Type 0 where
  pub disk : DiskState
  pub left : ℕ
  pub faults : ℕ
