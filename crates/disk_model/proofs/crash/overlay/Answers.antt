use Rattle.std.proofs.Common.{◌+◌, set, subst, sym, arith}
use Rattle.disk_model.specs.Overlays.{IsOverlaid}
use Rattle.disk_model.proofs.Laid.{laid_none, empty_range, overlaid_more}
use Rattle.disk_model.proofs.crash.overlay.Goals as goal

pub loop-i-init : goal.loop-i-init
loop-i-init c = laid_none _ c.args.pick.now c.args.bytes.now (empty_range c.args.from)

pub loop-i-preserved : goal.loop-i-preserved
loop-i-preserved c =
    let old = c.args.bytes.now in
    let next = overlaid_more c.args.from c.loop-i.i c.args.pick.now old c.loop-i.bytes c.loop-i.auto.i
    (omega (arith, c.loop-i-test.true, c.requires.within)) c.loop-i.invariant in
    subst (λ b. IsOverlaid c.args.from (c.loop-i.i + 1) c.args.pick.now old (set c.loop-i.bytes c.loop-i.i b))
    (sym c.byte_at.ensures) next

pub returns : goal.returns
returns c = subst (λ k. IsOverlaid c.args.from k c.args.pick.now c.args.bytes.now c.loop-i.bytes) {x = c.loop-i.i}
    {y = c.args.to} (omega (arith, c.loop-i-test.false, c.loop-i.auto.i-end c.requires.forward)) c.loop-i.invariant
