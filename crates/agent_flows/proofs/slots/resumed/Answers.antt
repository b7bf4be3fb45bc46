use Rattle.std.proofs.Common.{rules, ◌-◌, ◌<◌, take}
use Rattle.agent_spec.specs.Connections.{is_idle}
use Rattle.agent_flows.specs.Slots.{listed}
use Rattle.agent_flows.proofs.Kept.{nothing_looked}
use Rattle.agent_flows.proofs.Looks.{none_idle, none_in_none}
use Rattle.agent_flows.proofs.slots.resumed.Goals as goal

pub returns-then-saturating_sub-idle-clause-before : goal.returns-then-saturating_sub-idle-clause-before
returns-then-saturating_sub-idle-clause-before c =
    let young : c.args.now - c.args.looked.oldest < c.args.idle = search rules in
    none_idle (listed (take c.args.looked.at c.args.slots.now)) c.args.looked.oldest c.args.now c.args.idle young
    c.requires.none_older

pub returns-else-saturating_sub-idle-clause-looked : goal.returns-else-saturating_sub-idle-clause-looked
returns-else-saturating_sub-idle-clause-looked c = rw c.nothing.ensures (nothing_looked c.args.slots.now _)

pub returns-else-saturating_sub-idle-clause-before : goal.returns-else-saturating_sub-idle-clause-before
returns-else-saturating_sub-idle-clause-before c =
    rw c.nothing.ensures (none_in_none (is_idle c.args.now c.args.idle) c.args.slots.now)
