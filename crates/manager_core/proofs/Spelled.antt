-- A step spells the entry of its turn.
use Rattle.std.proofs.Common.{◌≡◌}
use Rattle.std.specs.Prelude.{IfSome}
use Rattle.wire_core.specs.Commands.{IsValue}
use Rattle.wire_core.specs.Steps.{no_step}
use Rattle.wire_core.specs.declared.step.Step.{Step}
use Rattle.paxos_spec.specs.Leader.{value_out}
use Rattle.node_spec.specs.Arriving.{IsInBytes}
use Rattle.node_spec.specs.Bodies.{Spells}
use Rattle.node_spec.specs.Steps.{turned}
use Rattle.node_spec.specs.Turns.{Input}
use Rattle.node_spec.proofs.Spelled.{turned_spells}
use Rattle.manager_spec.specs.ManagerTable.{manager_step}
use Rattle.manager_spec.proofs.Written.{turn_writes}
use Rattle.manager_core.specs.Seen.{Core, with_lists}

pub step_spells : (r new : Core) (x : Input) (s : Step) → IsInBytes x
    → IfSome (value_out r.lists.memory.leader.out) IsValue
    → (new, s) ≡ turned (with_lists r) r.config no_step (manager_step r.config r.lists x)
    → Spells s.entry (manager_step r.config r.lists x).entry
step_spells r new x s is out e =
    turned_spells (with_lists r) r.config (manager_step r.config r.lists x) (new, s) e
    (turn_writes r.config r.lists x is out)
