use Rattle.std.proofs.Common.{◌≤◌, length, sym, subst}
use Rattle.vip_config.specs.declared.parts.VipConf.{VipConf}
use Rattle.std.proofs.Common.{List}
use Rattle.vip_config.proofs.config.Config.ranges.Goals as goal

pub count_ranges-requires : goal.count_ranges-requires
count_ranges-requires c =
    subst (λ (vips : List VipConf). length vips ≤ 64) (sym c.as_slice.ensures) c.self.invariant.lengths.vips.1
