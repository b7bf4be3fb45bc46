use Rattle.std.proofs.Common.{◌∷◌, [], ◌++◌, ap, ◌∙◌}
use Rattle.vip_config.proofs.Loops.{copied_more}
use Rattle.vip_config.proofs.copies.copy_vips.Goals as goal

pub loop-vip-preserved : goal.loop-vip-preserved
loop-vip-preserved c =
    copied_more c.args.vips.now c.loop-vip.vip-index _ c.loop-vip-test.true c.loop-vip.copies.items
    c.push.new.self.items
    (c.in_ok-push.ensures.items ∙ ap (λ x. c.loop-vip.copies.items ++ x ∷ [])
    (c.in_ok-copy_vip.ensures ∙ c.vip-item.is)) c.loop-vip.invariant
