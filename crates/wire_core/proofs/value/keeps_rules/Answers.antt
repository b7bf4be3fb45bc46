use Rattle.std.proofs.Common.{ℕ, [], arith}
use Rattle.wire_core.specs.Numbers.{AreBytes}
use Rattle.wire_core.specs.Reading.{commands_in}
use Rattle.wire_core.proofs.CommandLaws.{value_is}
use Rattle.wire_core.proofs.value.keeps_rules.Goals as goal

pub returns : goal.returns
returns c =
    let bytes : AreBytes c.args.bytes.now = λ k. omega (arith, c.type_inv.bytes k) in
    (value_is c.args.bytes.now (commands_in c.args.bytes.now, []) bytes c.requires).value
