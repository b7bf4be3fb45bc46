-- What each row leaves as it was.
use Rattle.std.proofs.Common.{refl, ℕ, List, arith}
use Rattle.control_msg.specs.declared.message.Message.{Message}
use Rattle.vip_config.specs.declared.parts.ConfigParts.{ConfigParts}
use Rattle.vip_config.specs.declared.who.Who.{Who}
use Rattle.wire_core.specs.declared.address.Ip4.{Ip4}
use Rattle.mux_spec.specs.declared.row.Order.{Order}
use Rattle.mux_spec.specs.Commands.{refused, programs, unprograms, on_program, on_unprogram}
use Rattle.mux_spec.specs.Footprints.{LeavesAll, LeavesAllButFlows, LeavesFlows, LeavesGateAndRows}
use Rattle.mux_spec.specs.Gates.{admit}
use Rattle.mux_spec.specs.Mux.{Mux, on_tick}
use Rattle.mux_spec.specs.MuxTable.{from_mux, from_replica}
use Rattle.mux_spec.specs.Packets.{Passing, Sends, Drops, on_packet, passed, passing}
use Rattle.mux_spec.specs.Redirects.{on_redirect_ask}

pub tick_leaves : (c : ConfigParts) (m : Mux) (now : ℕ) → LeavesGateAndRows m (on_tick c m now)
unfolding on_tick
tick_leaves c m now = record { state = refl; entry = refl; acts = refl; notes = refl }

passed_leaves : (c : ConfigParts) (m : Mux) (x : Passing) → LeavesAllButFlows m (passed c m x)
passed_leaves c m (flows, Sends machine bytes ask) = record { state = refl; entry = refl; acts = refl }
passed_leaves c m (flows, Drops cause) = record { state = refl; entry = refl; acts = refl }

pub packet_leaves : (c : ConfigParts) (m : Mux) (sender : Who) (bytes : List ℕ)
    → LeavesAllButFlows m (on_packet c m sender bytes)
unfolding on_packet
packet_leaves c m sender bytes = passed_leaves c m (passing c m sender bytes)

program_leaves : (c : ConfigParts) (m : Mux) (o : Order) (machine : Ip4) → LeavesFlows m (on_program c m o machine)
unfolding on_program programs refused admit
program_leaves c m o machine = grind arith

unprogram_leaves : (c : ConfigParts) (m : Mux) (o : Order) → LeavesFlows m (on_unprogram c m o)
unfolding on_unprogram unprograms refused admit
unprogram_leaves c m o = grind arith

pub command_leaves : (c : ConfigParts) (m : Mux) (from : ℕ) (message : Message)
    → LeavesFlows m (from_replica c m from message)
command_leaves c m from message = grind (arith, program_leaves, unprogram_leaves)

pub mux_leaves : (c : ConfigParts) (m : Mux) (message : Message) → LeavesAll m (from_mux c m message)
unfolding on_redirect_ask
mux_leaves c m message = grind arith
