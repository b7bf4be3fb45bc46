use Rattle.std.proofs.Common.{arith}
use Rattle.address_text.proofs.Parts.{parts_few}
use Rattle.plain_schedule.proofs.replay.plain_lines.Goals as goal

pub print_lines-requires : goal.print_lines-requires
print_lines-requires c =
    let few = parts_few 10 c.without_end.result.now c.cut.result.0.now _ c.cut.ensures in
    omega (arith, c.requires, c.without_end.ensures.len, few)
