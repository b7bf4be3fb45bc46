use Rattle.std.proofs.Common.{ap, ◌∙◌, option_map}
use Rattle.port_leases.specs.Requests.{last_with}
use Rattle.port_leases.proofs.RequestLists.{last_at}
use Rattle.port_leases.proofs.requests.last_of.Goals as goal

pub returns : goal.returns
returns c = ap (option_map (last_with c.args.machine)) (c.copied.ensures ∙ c.get.ensures.value) ∙ last_at c.args.machine c.args.lasts.now.entries
