use Rattle.wire_core.specs.declared.address.Ip4.{Ip4}
use Rattle.wire_core.specs.Same.{same_ip}
use Rattle.vip_config.proofs.Lookups.{finds_mapped}
use Rattle.vip_config.proofs.ways.add_leaving.Goals as goal

pub loop-machine-preserved : goal.loop-machine-preserved
loop-machine-preserved c =
    finds_mapped same_ip c.args.machines.now c.loop-machine.machine-index _ c.loop-machine-test.true
    (λ (machine : Ip4). (machine, c.args.vip)) c.args.index.now.entries
    c.loop-machine.index.entries c.add.new.index.entries c.loop-machine.invariant c.in_ok-add.ensures
