use Rattle.std.proofs.Common.{rules, ◌≡◌, ◌∙◌, ap, sym, position, List}
use Rattle.wire_core.specs.declared.address.Ip4.{Ip4}
use Rattle.wire_core.specs.Same.{same_ip}
use Rattle.agent_spec.specs.Agent.{Host, host_of}
use Rattle.host_agent.specs.Hosts.{at_place}
use Rattle.host_agent.proofs.Places.{placed}
use Rattle.host_agent.proofs.machines.Machines.place_of.Goals as goal

pub returns-clause-place : goal.returns-clause-place
returns-clause-place c =
    let place : c.get_index_of.result ≡ position (λ (a : Ip4). same_ip c.args.machine a) c.self.inside.places.keys = search rules in
    ap (λ (hosts : List Host). at_place hosts c.get_index_of.result) (sym c.self.view_is)
    ∙ placed c.args.machine c.self.inside.list.items c.get_index_of.result
    (place ∙ ap (λ (keys : List Ip4). position (λ (a : Ip4). same_ip c.args.machine a) keys) c.self.invariant.places_are)
    ∙ ap (λ (hosts : List Host). host_of hosts c.args.machine) c.self.view_is
