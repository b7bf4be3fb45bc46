use Rattle.std.proofs.Common.{◌∷◌, [], ◌++◌, ap, ◌∙◌}
use Rattle.vip_config.proofs.Loops.{copied_more}
use Rattle.vip_config.proofs.copies.copy_endpoints.Goals as goal

pub loop-endpoint-preserved : goal.loop-endpoint-preserved
loop-endpoint-preserved c =
    copied_more c.args.endpoints.now c.loop-endpoint.endpoint-index _ c.loop-endpoint-test.true
    c.loop-endpoint.copies.items c.push.new.self.items
    (c.in_ok-push.ensures.items ∙ ap (λ x. c.loop-endpoint.copies.items ++ x ∷ [])
    (c.in_ok-copy_endpoint.ensures ∙ c.endpoint-item.is)) c.loop-endpoint.invariant
