use Rattle.std.proofs.Common.{rules}
use Rattle.node_spec.specs.Steps.{input_of}
use Rattle.mux_core.proofs.Turns.{step_spells}
use Rattle.mux_core.proofs.mux.Mux.handle.Goals as goal

pub returns-clause-written : goal.returns-clause-written
returns-clause-written c =
    step_spells c.args.self.now c.take_input.new.self (input_of c.args.input.now) c.take_input.new.step
    c.is_in_bytes.ensures (search rules)
