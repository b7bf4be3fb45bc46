use Rattle.std.proofs.Common.{◌≡◌, ◌+◌, ◌*◌}
use Rattle.lease_spec.specs.Free.{first_start}
use Rattle.lease_model.specs.Rows.{is_free}
use Rattle.lease_model.proofs.starts.least_start.Given as goal

abbrev pub invariant-loop-left : goal.invariant-loop-left
invariant-loop-left l = record {
  so_far : first_start (is_free l.rules l.rows l.vip) l.left l.start ≡ first_start (is_free l.rules l.rows l.vip) 8192 0;
  place : l.start + 8 * l.left ≡ 65536;
}

abbrev pub decreases-loop-left : goal.decreases-loop-left
decreases-loop-left l = l.left
