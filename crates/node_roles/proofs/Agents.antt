-- An agent's entries are those of its journal, and its step, which has none, spells them.
use Rattle.std.proofs.Common.{◌≡◌, refl, ℕ, List}
use Rattle.std.specs.Prelude.{IfOk, IfSome, Result, Ok, Err}
use Rattle.wire_core.specs.Steps.{no_step}
use Rattle.wire_core.specs.declared.step.Step.{Step}
use Rattle.node_spec.specs.Bodies.{IsSpelled, Spells, entries_of}
use Rattle.node_spec.specs.Steps.{turned}
use Rattle.node_spec.specs.Turns.{Input}
use Rattle.node_spec.proofs.Spelled.{spells_spelled, turned_spells}
use Rattle.agent_spec.specs.AgentTable.{agent_step}
use Rattle.agent_spec.proofs.Silent.{step_silent}
use Rattle.host_agent.specs.Entries.{entries_of as agents_entries}
use Rattle.host_agent.specs.Seen.{Core, with_lists}

pub same_entries : (bodies : List (List ℕ)) → agents_entries bodies ≡ entries_of bodies
unfolding agents_entries entries_of
same_entries bodies = refl

pub agent_spells : {E : Type 0} (a new : Core) (x : Input) (r : Result Step E)
    → IfOk r (λ (s : Step). (new, s) ≡ turned (with_lists a) a.config no_step (agent_step a.config a.lists x))
    → IfOk r (λ (s : Step). Spells s.entry (agent_step a.config a.lists x).entry)
agent_spells a new x (Ok s) e =
    turned_spells (with_lists a) a.config (agent_step a.config a.lists x) (new, s) e
    (rw (step_silent a.config a.lists x) tt)
agent_spells a new x (Err fault) e = tt

pub agent_spelled : {E : Type 0} (a new : Core) (x : Input) (r : Result Step E)
    → IfOk r (λ (s : Step). (new, s) ≡ turned (with_lists a) a.config no_step (agent_step a.config a.lists x))
    → IfOk r (λ (s : Step). IfSome s.entry IsSpelled)
agent_spelled {E = E} a new x (Ok s) e =
    spells_spelled s.entry (agent_step a.config a.lists x).entry (agent_spells {E = E} a new x (Ok s) e)
agent_spelled a new x (Err fault) e = tt
