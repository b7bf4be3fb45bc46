use Rattle.std.proofs.Common.{subst}
use Rattle.vip_config.specs.Queries.{KnowsOwners}
use Rattle.vip_config.proofs.Owners.{knows_owners}
use Rattle.vip_config.proofs.config.Config.keeps_rules.Goals as goal

pub returns-clause-owners : goal.returns-clause-owners
returns-clause-owners c = subst KnowsOwners c.self.view_is (knows_owners c.self.inside.parts c.self.invariant.rules)
