use Rattle.std.proofs.Common.{rules, ◌≡◌, ◌++◌, drop, length, map, take, ap, ◌∙◌}
use Rattle.agent_spec.specs.Agent.{Host}
use Rattle.agent_spec.specs.Clock.{renewed}
use Rattle.host_agent.proofs.Places.{as_long, renewed_kept}
use Rattle.host_agent.proofs.Slots.{whole_list}
use Rattle.host_agent.proofs.machines.Machines.renew.Goals as goal

pub invariant_of-self : goal.invariant_of-self
invariant_of-self c =
    let hosts : c.renew_each.new.hosts ≡ map (renewed c.args.now c.args.retry) c.self.inside.list.items = search rules in
    let len : c.self.inside.list.len ≡ length c.self.inside.list.items = search rules in
    rw (
      whole_list c.self.inside.list.len c.self.inside.list.items c.renew_each.new.hosts len
          (ap length hosts ∙ as_long (renewed c.args.now c.args.retry) c.self.inside.list.items),
      hosts,
    )
    (renewed_kept c.args.now c.args.retry c.self.inside.list.items c.self.inside.places.keys c.self.invariant)
