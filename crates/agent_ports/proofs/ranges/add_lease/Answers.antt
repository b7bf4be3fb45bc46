use Rattle.indexmap.specs.IndexMap.{get}
use Rattle.wire_core.specs.declared.address.Ip4.{Ip4}
use Rattle.wire_core.specs.Same.{same_ip}
use Rattle.std.proofs.Common.{rules, ◌≡◌, ◌++◌, ◌∷◌, [], Some, if◌then◌else◌}
use Rattle.std.specs.Prelude.{option_map}
use Rattle.agent_ports.specs.Leases.{lease_of}
use Rattle.agent_ports.proofs.Machines.{added_entry, on_err, unchanged_entry}
use Rattle.agent_ports.proofs.ranges.add_lease.Goals as goal

pub returns-clause-ok : goal.returns-clause-ok
returns-clause-ok c = λ m.
    let is : (m : Ip4) → get same_ip c.push_lease.new.map m
    ≡ (if same_ip c.args.h.now.machine m
    then option_map (λ ls. ls ++ lease_of c.args.h.now ∷ []) (get same_ip c.make_entry.new.map c.args.h.now.machine)
    else get same_ip c.make_entry.new.map m) =
    λ m. search rules in
    added_entry (get same_ip c.args.map.now) (get same_ip c.make_entry.new.map) (get same_ip c.push_lease.new.map)
    c.args.h.now
    c.in_ok-make_entry.ensures.same
    c.in_ok-make_entry.ensures.made
    is
    m

pub returns-in_err-push_lease-clause-err : goal.returns-in_err-push_lease-clause-err
returns-in_err-push_lease-clause-err c =
    on_err c.from_residual-in_err-push_lease.result _
    (unchanged_entry (get same_ip c.args.map.now) (get same_ip c.make_entry.new.map) (get same_ip c.push_lease.new.map)
    c.args.h.now.machine
    c.in_ok-make_entry.ensures.same
    c.in_err-push_lease.ensures.err)
