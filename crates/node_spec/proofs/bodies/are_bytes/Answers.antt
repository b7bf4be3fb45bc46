use Rattle.std.proofs.Common.{arith}
use Rattle.node_spec.proofs.bodies.are_bytes.Goals as goal

pub returns : goal.returns
returns c = λ k. omega (arith, c.type_inv.bytes k)
