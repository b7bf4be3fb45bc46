use Rattle.lease_spec.proofs.KeptLaws.{all_current, all_kept}
use Rattle.lease_spec.proofs.RiseLaws.{always_rises}
use Rattle.lease_spec.proofs.laws.rises.Goals as goal

pub returns-clause-on : goal.returns-clause-on
returns-clause-on c = always_rises

pub returns-clause-kept : goal.returns-clause-kept
returns-clause-kept c = all_kept

pub returns-clause-current : goal.returns-clause-current
returns-clause-current c = all_current
