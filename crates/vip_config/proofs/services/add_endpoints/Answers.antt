use Rattle.std.proofs.Common.{◌++◌, subst}
use Rattle.config_text.specs.declared.vips.Endpoint.{Endpoint}
use Rattle.vip_config.specs.Ways.{FindsAs, endpoint_services, same_service}
use Rattle.vip_config.proofs.Lookups.{finds_behind}
use Rattle.vip_config.proofs.services.add_endpoints.Goals as goal

pub loop-endpoint-preserved : goal.loop-endpoint-preserved
loop-endpoint-preserved c =
    let before = c.loop-endpoint.index.entries in
    let after = c.add_members.new.index.entries in
    finds_behind same_service c.args.endpoints.now c.loop-endpoint.endpoint-index _ c.loop-endpoint-test.true
    (endpoint_services c.args.vip) c.args.index.now.entries before after c.loop-endpoint.invariant
    (subst (λ (e : Endpoint). FindsAs same_service after (before ++ endpoint_services c.args.vip e)) c.endpoint-item.is
    c.in_ok-add_members.ensures)
