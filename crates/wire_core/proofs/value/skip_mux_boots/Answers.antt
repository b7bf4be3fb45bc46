use Rattle.std.proofs.Common.{◌∙◌, sym}
use Rattle.std.proofs.lemmas.Result.{err_from_is_err_and}
use Rattle.wire_core.proofs.WalkLaws.{boots_step, boots_fail, boots_end}
use Rattle.wire_core.proofs.value.skip_mux_boots.Goals as goal

pub returns-in_err-mux_boot : goal.returns-in_err-mux_boot
returns-in_err-mux_boot c =
    let p = err_from_is_err_and c.from_residual.result c.from_residual.ensures.1 in
    rw (p.1, p.2)
    (sym c.loop.invariant
    ∙ boots_fail c.args.count c.loop.counter c.loop.least c.loop.rest.now _ c.loop-test.true c.in_err-mux_boot.ensures)

pub loop-preserved : goal.loop-preserved
loop-preserved c =
    sym
    (boots_step c.args.count c.loop.counter c.loop.least c.loop.rest.now c.in_ok-mux_boot.after.now c.in_ok-mux_boot.mux_boot
    c.loop-test.true c.in_ok-mux_boot.ensures)
    ∙ c.loop.invariant

pub returns : goal.returns
returns c = sym c.loop.invariant ∙ boots_end c.args.count c.loop.counter c.loop.least c.loop.rest.now c.loop-test.false
