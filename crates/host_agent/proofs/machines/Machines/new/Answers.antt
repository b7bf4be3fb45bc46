use Rattle.std.proofs.Common.{rules, ◌≡◌, [], fold}
use Rattle.host_agent.specs.Hosts.{hosts_of, with_address}
use Rattle.host_agent.proofs.Onces.{indexed}
use Rattle.host_agent.proofs.Places.{configured}
use Rattle.host_agent.proofs.machines.Machines.new.Goals as goal

pub invariant_of-result : goal.invariant_of-result
invariant_of-result c =
    let list : c.in_ok-list.list.items ≡ hosts_of c.args.machines.now = search rules in
    let keys : c.in_ok-places.places.keys ≡ fold with_address [] c.args.machines.now = search rules in
    rw (list, keys, indexed [] c.args.machines.now c.requires) (configured c.args.machines.now c.requires)
