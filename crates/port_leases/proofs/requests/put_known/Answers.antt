use Rattle.std.proofs.Common.{ap, ◌∙◌}
use Rattle.port_leases.specs.Store.{known_of}
use Rattle.port_leases.proofs.RequestLists.{put_known_of}
use Rattle.port_leases.proofs.requests.put_known.Goals as goal

pub returns-clause-known : goal.returns-clause-known
returns-clause-known c = ap known_of (rw c.unwrap.ensures at c.insert.ensures.entries) ∙ put_known_of c.args.agent c.args.boot c.args.known.now.entries
