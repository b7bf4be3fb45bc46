-- Reading a node after it was written.
use Rattle.world_spec.proofs.SiteLaws.{site_put_same, site_put_other}
use Rattle.world_spec.proofs.laws.sites.Goals as goal

pub returns-clause-same : goal.returns-clause-same
returns-clause-same c = site_put_same

pub returns-clause-other : goal.returns-clause-other
returns-clause-other c = site_put_other
