use Rattle.indexmap.specs.IndexMap.{get}
use Rattle.wire_core.specs.Same.{same_ip}
use Rattle.agent_ports.specs.Leases.{entry_leases}
use Rattle.agent_ports.proofs.Machines.{entries_more}
use Rattle.agent_ports.proofs.ranges.index.Goals as goal

pub loop-h-preserved : goal.loop-h-preserved
loop-h-preserved c = λ m.
    entries_more c.args.held.now c.loop-h.h-index _ m (entry_leases (get same_ip c.loop-h.map m))
    (entry_leases (get same_ip c.add_lease.new.map m))
    c.loop-h-test.true
    (c.in_ok-add_lease.ensures.ok m)
    (c.loop-h.invariant m)
