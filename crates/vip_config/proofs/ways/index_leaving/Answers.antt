use Rattle.std.proofs.Common.{List, ◌++◌, map, subst}
use Rattle.wire_core.specs.declared.address.Ip4.{Ip4}
use Rattle.wire_core.specs.Same.{same_ip}
use Rattle.vip_config.specs.Ways.{FindsAs, leaves_of}
use Rattle.vip_config.specs.declared.parts.VipConf.{VipConf}
use Rattle.vip_config.proofs.Lookups.{finds_joined}
use Rattle.vip_config.proofs.ways.index_leaving.Goals as goal

pub loop-vip-preserved : goal.loop-vip-preserved
loop-vip-preserved c =
    let before = c.loop-vip.index.entries in
    let after = c.add_leaving.new.index.entries in
    let vip = c.vip-item.result in
    let step : FindsAs same_ip after (before ++ leaves_of vip) =
    subst (λ (machines : List Ip4). FindsAs same_ip after (before ++ map (λ machine. (machine, vip.address)) machines))
    c.as_slice.ensures c.in_ok-add_leaving.ensures in
    finds_joined same_ip c.args.vips.now c.loop-vip.vip-index _ c.loop-vip-test.true leaves_of
    before after c.loop-vip.invariant
    (subst (λ (vip : VipConf). FindsAs same_ip after (before ++ leaves_of vip)) c.vip-item.is step)
