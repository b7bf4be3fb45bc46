use Rattle.std.proofs.Common.{refl, ap}
use Rattle.std.specs.Map.{lookup}
use Rattle.lease_spec.specs.Free.{same_range}
use Rattle.lease_rows.specs.Rows.{same_address}
use Rattle.lease_rows.proofs.Indexed.{indexed-same}
use Rattle.lease_rows.proofs.Linked.{linked-same}
use Rattle.lease_rows.proofs.rows.Rows.reserve.Goals as goal

pub invariant_of-self-in_err-reserve-2 : goal.invariant_of-self-in_err-reserve-2
invariant_of-self-in_err-reserve-2 c = (
  indexed-same _ _ _ _ _ _ c.self.invariant.0 c.reserve.ensures.rows (λ r. ap (lookup (same_range r)) c.reserve-2.ensures.entries) (λ m. refl),
  linked-same _ _ _ _ _ _ c.self.invariant.1 c.reserve.ensures.rows (λ n. refl) (λ m. refl),
)

pub invariant_of-self-in_err-reserve-3 : goal.invariant_of-self-in_err-reserve-3
invariant_of-self-in_err-reserve-3 c = (
  indexed-same _ _ _ _ _ _ c.self.invariant.0 c.reserve.ensures.rows (λ r. ap (lookup (same_range r)) c.reserve-2.ensures.entries) (λ m. ap (lookup (same_address m)) c.reserve-3.ensures.entries),
  linked-same _ _ _ _ _ _ c.self.invariant.1 c.reserve.ensures.rows (λ n. refl) (λ m. refl),
)

pub invariant_of-self-in_err-reserve-4 : goal.invariant_of-self-in_err-reserve-4
invariant_of-self-in_err-reserve-4 c = (
  indexed-same _ _ _ _ _ _ c.self.invariant.0 c.reserve.ensures.rows (λ r. ap (lookup (same_range r)) c.reserve-2.ensures.entries) (λ m. ap (lookup (same_address m)) c.reserve-3.ensures.entries),
  linked-same _ _ _ _ _ _ c.self.invariant.1 c.reserve.ensures.rows c.reserve-4.ensures.links c.reserve-4.ensures.ends,
)

pub invariant_of-self-2 : goal.invariant_of-self-2
invariant_of-self-2 c = (
  indexed-same _ _ _ _ _ _ c.self.invariant.0 c.reserve.ensures.rows (λ r. ap (lookup (same_range r)) c.reserve-2.ensures.entries) (λ m. ap (lookup (same_address m)) c.reserve-3.ensures.entries),
  linked-same _ _ _ _ _ _ c.self.invariant.1 c.reserve.ensures.rows c.reserve-4.ensures.links c.reserve-4.ensures.ends,
)
