-- When a call of a fuse passes.
use Rattle.std.specs.Prelude.{◌≡◌, ◌<◌, ◌-◌, Result, IsErr, OnErr}
use Rattle.outside_io.specs.Faults.{Rose}
use Rattle.disk_model.specs.Disks.{FuseState}

-- A call that is left passes to the disk, and then fails only where the disk's count rose; where none is left it fails,
-- and the disk isn't called.
pub record Passes {T E : Type 0} (old new : FuseState) (result : Result T E) : Type 0 where
  pub left : new.left ≡ old.left - 1
  pub passed : 0 < old.left → OnErr result (Rose old.disk.faults new.disk.faults)
  pub stopped : old.left ≡ 0 → IsErr result
  pub not_called : old.left ≡ 0 → new.disk ≡ old.disk
