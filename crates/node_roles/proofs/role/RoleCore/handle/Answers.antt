use Rattle.node_spec.specs.Steps.{input_of}
use Rattle.node_roles.proofs.Agents.{agent_spelled, agent_spells}
use Rattle.node_roles.proofs.role.RoleCore.handle.Goals as goal

pub returns-in-Agent-clause-spelled : goal.returns-in-Agent-clause-spelled
returns-in-Agent-clause-spelled c =
    agent_spelled c.in-Agent.agent c.handle-in-Agent.new.self (input_of c.args.input.now) c.handle-in-Agent.result
    c.handle-in-Agent.ensures

pub returns-in-Agent-clause-written : goal.returns-in-Agent-clause-written
returns-in-Agent-clause-written c =
    rw c.in-Agent.is (agent_spells c.in-Agent.agent c.handle-in-Agent.new.self (input_of c.args.input.now)
    c.handle-in-Agent.result c.handle-in-Agent.ensures)
