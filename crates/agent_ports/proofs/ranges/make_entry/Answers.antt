use Rattle.std.proofs.Common.{rules, ◌≡◌, None, Some, [], if◌then◌else◌}
use Rattle.indexmap.specs.IndexMap.{get}
use Rattle.wire_core.specs.Same.{same_ip}
use Rattle.agent_ports.proofs.Machines.{absent, made_entry}
use Rattle.agent_ports.proofs.ranges.make_entry.Goals as goal

pub returns-in_ok-insert-clause-same : goal.returns-in_ok-insert-clause-same
returns-in_ok-insert-clause-same c = λ m.
    made_entry (get same_ip c.args.map.now) (get same_ip c.insert.new.self) c.args.machine m
    (search rules)
    (absent (get same_ip c.args.map.now c.args.machine) (search rules))
