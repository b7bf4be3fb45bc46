use Rattle.std.proofs.Common.{◌≡◌, min, refl, subst, ◌∙◌, ap, length, get_or}
use Rattle.std.proofs.lemmas.List.{take_all}
use Rattle.outside_io.specs.declared.disk.Span.{Span}
use Rattle.disk_model.specs.Overlays.{IsOverlaid, AreOverlaid}
use Rattle.disk_model.proofs.Laid.{laid_none, ranges_more}
use Rattle.disk_model.proofs.crash.overlay_all.Goals as goal

pub loop-range-init : goal.loop-range-init
loop-range-init c = laid_none _ c.args.pick.now c.args.bytes.now (λ k. refl)

pub loop-range-preserved : goal.loop-range-preserved
loop-range-preserved c =
    let none : Span = record { from = 0; to = 0 } in
    let s = get_or c.args.ranges.now c.loop-range.range-index none in
    let bytes = c.loop-range.bytes in
    let to : c.min-to.result ≡ min s.to (length bytes) = c.min-to.ensures in
    let from : c.min.result ≡ min s.from (min s.to (length bytes)) = c.min.ensures ∙ ap (λ k. min s.from k) to in
    let laid = subst (λ k. IsOverlaid k (min s.to (length bytes)) c.args.pick.now bytes c.overlay.new.bytes) from
    (subst (λ k. IsOverlaid c.min.result k c.args.pick.now bytes c.overlay.new.bytes) to c.overlay.ensures) in
    ranges_more c.args.ranges.now c.loop-range.range-index none c.args.pick.now c.args.bytes.now bytes
    c.overlay.new.bytes c.loop-range-test.true c.loop-range.invariant laid

pub returns : goal.returns
returns c = subst (λ l. AreOverlaid l c.args.pick.now c.args.bytes.now c.loop-range.bytes)
    (take_all c.loop-range.range-index c.args.ranges.now c.loop-range-test.false) c.loop-range.invariant
