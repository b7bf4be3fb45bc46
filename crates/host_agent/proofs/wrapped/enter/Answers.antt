use Rattle.agent_spec.proofs.EntryLists.{entry_private_none}
use Rattle.host_agent.proofs.wrapped.enter.Goals as goal

pub enter-requires-clause-private : goal.enter-requires-clause-private
enter-requires-clause-private c =
    entry_private_none c.args.cfg.now c.args.traffic.now.inbound c.args.made.now c.keeps_rules.ensures.rules
    c.requires.apart c.requires.served c.requires.free
