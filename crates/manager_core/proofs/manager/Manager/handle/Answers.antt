use Rattle.std.proofs.Common.{rules}
use Rattle.node_spec.specs.Steps.{input_of}
use Rattle.manager_core.proofs.Spelled.{step_spells}
use Rattle.manager_core.proofs.manager.Manager.handle.Goals as goal

pub returns-clause-written : goal.returns-clause-written
returns-clause-written c =
    step_spells c.args.self.now c.take_input.new.self (input_of c.args.input.now) c.in_ok-step.step
    c.is_in_bytes.ensures c.proposes_a_value.ensures (search rules)
