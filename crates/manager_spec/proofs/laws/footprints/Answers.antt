use Rattle.manager_spec.proofs.Leaves.{replica_leaves, tick_leaves, mux_leaves, agent_leaves, proposal_leaves}
use Rattle.manager_spec.proofs.laws.footprints.Goals as goal

pub returns-clause-replicas : goal.returns-clause-replicas
returns-clause-replicas c = replica_leaves

pub returns-clause-tick : goal.returns-clause-tick
returns-clause-tick c = tick_leaves

pub returns-clause-muxes : goal.returns-clause-muxes
returns-clause-muxes c = mux_leaves

pub returns-clause-agents : goal.returns-clause-agents
returns-clause-agents c = agent_leaves

pub returns-clause-proposal : goal.returns-clause-proposal
returns-clause-proposal c = proposal_leaves
