use Rattle.std.proofs.Common.{ap, ◌∙◌}
use Rattle.port_leases.specs.Store.{lasts_of}
use Rattle.port_leases.proofs.RequestLists.{put_last_of}
use Rattle.port_leases.proofs.requests.put_last.Goals as goal

pub returns-clause-lasts : goal.returns-clause-lasts
returns-clause-lasts c = ap lasts_of (rw c.unwrap.ensures at c.insert.ensures.entries) ∙ put_last_of c.args.machine c.args.last c.args.lasts.now.entries
