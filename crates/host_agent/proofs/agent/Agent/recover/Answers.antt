use Rattle.std.proofs.Common.{sym, subst}
use Rattle.agent_spec.specs.Keys.{EntriesApart}
use Rattle.agent_spec.proofs.Entries.{opened_apart}
use Rattle.host_agent.specs.Entries.{entries_of}
use Rattle.host_agent.specs.Seen.{Core}
use Rattle.host_agent.proofs.agent.Agent.recover.Goals as goal

pub invariant_of-result : goal.invariant_of-result
invariant_of-result c = λ whole.
    subst (λ (x : Core). EntriesApart x.config x.lists.traffic.inbound) (sym c.in_ok-state.ensures)
    (opened_apart c.args.cfg.now c.args.index (entries_of c.args.bodies.now))
