use Rattle.std.proofs.Common.{List, ◌++◌, subst}
use Rattle.std.specs.List.{flat_map}
use Rattle.config_text.specs.declared.vips.Endpoint.{Endpoint}
use Rattle.vip_config.specs.Ways.{FindsAs, endpoint_services, same_service, services_of}
use Rattle.vip_config.specs.declared.parts.VipConf.{VipConf}
use Rattle.vip_config.proofs.Lookups.{finds_joined}
use Rattle.vip_config.proofs.services.index_services.Goals as goal

pub loop-vip-preserved : goal.loop-vip-preserved
loop-vip-preserved c =
    let before = c.loop-vip.index.entries in
    let after = c.add_endpoints.new.index.entries in
    let vip = c.vip-item.result in
    let step : FindsAs same_service after (before ++ services_of vip) =
    subst (λ (es : List Endpoint). FindsAs same_service after (before ++ flat_map (endpoint_services vip.address) es))
    c.as_slice.ensures c.in_ok-add_endpoints.ensures in
    finds_joined same_service c.args.vips.now c.loop-vip.vip-index _ c.loop-vip-test.true services_of
    before after c.loop-vip.invariant
    (subst (λ (v : VipConf). FindsAs same_service after (before ++ services_of v)) c.vip-item.is step)
