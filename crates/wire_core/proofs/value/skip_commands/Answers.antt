use Rattle.std.proofs.Common.{◌∙◌, sym}
use Rattle.std.proofs.lemmas.Result.{err_from_is_err_and}
use Rattle.wire_core.specs.Views.{command_of}
use Rattle.wire_core.proofs.WalkLaws.{commands_step, commands_fail, commands_end}
use Rattle.wire_core.proofs.value.skip_commands.Goals as goal

pub returns-in_err-after : goal.returns-in_err-after
returns-in_err-after c =
    let p = err_from_is_err_and c.from_residual.result c.from_residual.ensures.1 in
    rw (p.1, p.2)
    (sym c.loop.invariant
    ∙ commands_fail c.args.count c.loop.counter c.loop.rest.now _ c.loop-test.true c.in_err-after.ensures)

pub loop-preserved : goal.loop-preserved
loop-preserved c =
    sym
    (commands_step c.args.count c.loop.counter c.loop.rest.now c.in_ok-after.after.now
    (command_of c.in_ok-after.field-0-0) c.loop-test.true c.in_ok-after.ensures) ∙ c.loop.invariant

pub returns : goal.returns
returns c = sym c.loop.invariant ∙ commands_end c.args.count c.loop.counter c.loop.rest.now c.loop-test.false
