use Rattle.std.proofs.Common.{◌≡◌, take}
use Rattle.std.specs.List.{list_any}
use Rattle.wire_core.specs.declared.address.Ip4.{Ip4}
use Rattle.wire_core.specs.Same.{same_ip}
use Rattle.vip_config.specs.Serving.{is_vip}
use Rattle.mux_maps.proofs.vips.Vips.new.Given as goal

abbrev pub invariant-loop-vip : goal.invariant-loop-vip
invariant-loop-vip l = (x : Ip4) → list_any (same_ip x) l.addresses.keys ≡ is_vip (take l.vip-index l.vips) x
