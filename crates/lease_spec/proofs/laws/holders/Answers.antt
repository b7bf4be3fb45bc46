use Rattle.lease_spec.proofs.CountLaws.{within_limit}
use Rattle.lease_spec.proofs.HolderLaws.{all_leasable, own_ranges}
use Rattle.lease_spec.proofs.laws.holders.Goals as goal

pub returns-clause-leasable : goal.returns-clause-leasable
returns-clause-leasable c = all_leasable

pub returns-clause-own : goal.returns-clause-own
returns-clause-own c = own_ranges

pub returns-clause-limit : goal.returns-clause-limit
returns-clause-limit c = within_limit
