-- What a mux writes has allowed fields.
use Rattle.std.proofs.Common.{◌≡◌, refl, ℕ, ◌<◌, ◌^◌, Bool, true, false, List, None, arith}
use Rattle.std.specs.Prelude.{IfSome, if◌then◌else◌, not, ◌==◌, nat_lt}
use Rattle.wire_core.specs.Entries.{IsEntry}
use Rattle.wire_core.specs.declared.address.Ip4.{Ip4}
use Rattle.wire_core.specs.declared.node.NodeId.{NodeId}
use Rattle.wire_core.specs.declared.node.NodeId.TheVariants.{Replica, Mux as MuxNode, Agent}
use Rattle.control_msg.specs.Messages.{IsMessage}
use Rattle.control_msg.specs.declared.message.Message.{Message}
use Rattle.vip_config.specs.declared.parts.ConfigParts.{ConfigParts}
use Rattle.node_spec.specs.Arriving.{IsAllowed, IsInBytes}
use Rattle.node_spec.specs.Datagrams.{Heard, Refused, Told, Brought, heard, by_heard}
use Rattle.node_spec.specs.Turns.{Input, Arrived, Ticked, Turn, drop_turn}
use Rattle.node_spec.proofs.Spelled.{heard_allowed}
use Rattle.mux_spec.specs.declared.gate.Admit.{Admit}
use Rattle.mux_spec.specs.declared.gate.Admit.TheVariants.{WrongBoot, OldEpoch, Raise, Yes}
use Rattle.mux_spec.specs.declared.row.Order.{Order}
use Rattle.mux_spec.specs.Commands.{refused, if_admitted, programs, unprograms, on_program, on_unprogram}
use Rattle.mux_spec.specs.Gates.{admit}
use Rattle.mux_spec.specs.Mux.{Mux, on_tick}
use Rattle.mux_spec.specs.MuxTable.{from_replica, from_mux, mux_hears, mux_step}
use Rattle.mux_spec.specs.Packets.{on_packet}
use Rattle.mux_spec.proofs.Leaves.{tick_leaves, packet_leaves, mux_leaves}

-- the entry of the turn, if it has one, has allowed fields
abbrev pub Writes : Turn Mux → Type 0
Writes t = IfSome t.entry IsEntry

none_writes : (t : Turn Mux) → t.entry ≡ None → Writes t
none_writes t e = rw e tt

admitted_writes : (m : Mux) (o : Order) (obey : Mux → Turn Mux) → o.epoch < 2 ^ 64
    → ((n : Mux) → (obey n).entry ≡ None) → Writes (if_admitted m o (admit m.gate o.epoch o.boot) obey)
unfolding admit refused
admitted_writes m o obey fits silent =
    by_tests (o.boot == m.gate.boot) (nat_lt o.epoch m.gate.epoch) (nat_lt m.gate.epoch o.epoch)
  where
    by_tests : (own old raises : Bool)
        → Writes
        (if_admitted m o (if not own then WrongBoot m.gate.boot
        else if old then OldEpoch m.gate.epoch
        else if raises then Raise o.epoch
        else Yes) obey)
    by_tests false old raises = tt
    by_tests true true raises = tt
    by_tests true false true = fits
    by_tests true false false = none_writes (obey m) (silent m)

program_silent : (c : ConfigParts) (o : Order) (machine : Ip4) (m : Mux) → (programs c o machine m).entry ≡ None
unfolding programs
program_silent c o machine m = grind arith

unprogram_silent : (c : ConfigParts) (o : Order) (m : Mux) → (unprograms c o m).entry ≡ None
unfolding unprograms
unprogram_silent c o m = grind arith

program_writes : (c : ConfigParts) (m : Mux) (o : Order) (machine : Ip4) → o.epoch < 2 ^ 64
    → Writes (on_program c m o machine)
unfolding on_program
program_writes c m o machine fits =
    admitted_writes m o (programs c o machine) fits (program_silent c o machine)

unprogram_writes : (c : ConfigParts) (m : Mux) (o : Order) → o.epoch < 2 ^ 64 → Writes (on_unprogram c m o)
unfolding on_unprogram
unprogram_writes c m o fits = admitted_writes m o (unprograms c o) fits (unprogram_silent c o)

command_writes : (c : ConfigParts) (m : Mux) (from : ℕ) (message : Message) → IsMessage message
    → Writes (from_replica c m from message)
command_writes c m from message is = grind (arith, program_writes, unprogram_writes, is)

message_writes : (c : ConfigParts) (m : Mux) (from : NodeId) (message : Message) → IsMessage message
    → Writes (mux_hears c m from message)
unfolding mux_hears
message_writes c m (Replica from) message is = command_writes c m from message is
message_writes c m (MuxNode from) message is = none_writes (from_mux c m message) (mux_leaves c m message).entry
message_writes c m (Agent from) message is = tt

heard_writes : (c : ConfigParts) (m : Mux) (h : Heard) → IsAllowed h
    → Writes (by_heard (drop_turn m) (mux_hears c m) (on_packet c m) h)
heard_writes c m (Refused cause) is = tt
heard_writes c m (Told from message) is = message_writes c m from message is
heard_writes c m (Brought sender bytes) is =
    none_writes (on_packet c m sender bytes) (packet_leaves c m sender bytes).entry

pub step_writes : (c : ConfigParts) (m : Mux) (x : Input) → IsInBytes x → Writes (mux_step c m x)
unfolding mux_step
step_writes c m (Arrived from bytes) is = heard_writes c m (heard c from bytes) (heard_allowed c from bytes is)
step_writes c m (Ticked now) is = none_writes (on_tick c m now) (tick_leaves c m now).entry
