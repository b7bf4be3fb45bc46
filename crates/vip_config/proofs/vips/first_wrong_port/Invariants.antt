use Rattle.std.proofs.Common.{◌≡◌, drop}
use Rattle.vip_config.specs.Vips.{first_wrong_port}
use Rattle.vip_config.proofs.vips.first_wrong_port.Given as goal

abbrev pub invariant-loop-i : goal.invariant-loop-i
invariant-loop-i l = first_wrong_port 0 l.vips ≡ first_wrong_port l.i (drop l.i l.vips)
