use Rattle.std.proofs.Common.{◌≡◌, ◌+◌, ◌-◌, ◌*◌, ◌≤◌, ◌++◌, length, take, vec_len, vec_capacity}
use Rattle.std.specs.List.{flat_map}
use Rattle.wire_core.specs.Commands.{IsMuxBoot, mux_boot_bytes}
use Rattle.wire_core.specs.Members.{Each}
use Rattle.wire_core.proofs.builder.put_mux_boots.Given as goal

abbrev pub invariant-loop-m : goal.invariant-loop-m
invariant-loop-m l = record {
  spelled : l.out.items ≡ l.fn.out.items ++ flat_map mux_boot_bytes (take l.m-index l.muxes);
  fields : Each IsMuxBoot (take l.m-index l.muxes);
  room : vec_len l.out + 10 * (length l.muxes - l.m-index) ≤ vec_capacity l.out;
}
