use Rattle.lease_spec.proofs.FreeLaws.{least_free_is}
use Rattle.lease_spec.proofs.laws.least_free.Goals as goal

pub returns : goal.returns
returns c = least_free_is
