use Rattle.std.proofs.Common.{◌≡◌, take}
use Rattle.vip_config.proofs.copies.copy_vips.Given as goal

abbrev pub invariant-loop-vip : goal.invariant-loop-vip
invariant-loop-vip l = l.copies.items ≡ take l.vip-index l.vips
