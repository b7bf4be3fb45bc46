use Rattle.mux_core.proofs.Opening.{routed}
use Rattle.mux_core.proofs.routes.Routes.new.Goals as goal

pub invariant_of-result : goal.invariant_of-result
invariant_of-result c =
    routed c.args.config.now c.in_ok-copy.field-0 c.args.index c.own_address.result c.muxes.result.now
    c.in_ok-rules.rules c.in_ok-new.field-0 c.in_ok-new-2.field-0 c.vips.result.now c.vips-2.result.now c.vips-3.result.now
    c.in_ok-new-3.field-0 c.in_ok-new-4.field-0 c.in_ok-copy.ensures c.muxes.ensures c.own_address.ensures
    c.in_ok-rules.ensures.exact c.in_ok-new.ensures.shown c.vips.ensures c.in_ok-new-2.ensures c.vips-2.ensures
    c.in_ok-new-3.ensures c.vips-3.ensures c.in_ok-new-4.ensures
