-- What a primary commands a mux: Program and Unprogram.
use Rattle.std.specs.Prelude.{ℕ, ◌&&◌, [], ◌∷◌, if◌then◌else◌}
use Rattle.wire_core.specs.declared.address.Ip4.{Ip4}
use Rattle.wire_core.specs.declared.cause.DropCause.{DropCause}
use Rattle.wire_core.specs.declared.cause.DropCause.TheVariants as drop
use Rattle.wire_core.specs.declared.entry.Entry.TheVariants.{Epoch}
use Rattle.wire_core.specs.declared.node.NodeId.TheVariants.{Replica}
use Rattle.wire_core.specs.Ranges.{is_leasable, range_at}
use Rattle.control_msg.specs.declared.message.Message.TheVariants.{Programmed, Unprogrammed, MuxRefuse}
use Rattle.vip_config.specs.declared.parts.ConfigParts.{ConfigParts}
use Rattle.vip_config.specs.Leases.{lease_rules_of}
use Rattle.vip_config.specs.Serving.{has_snat}
use Rattle.node_spec.specs.Sends.{tell}
use Rattle.node_spec.specs.Turns.{Turn, drop_turn, says, writes}
use Rattle.mux_spec.specs.declared.gate.Admit.{Admit}
use Rattle.mux_spec.specs.declared.gate.Admit.TheVariants.{WrongBoot, OldEpoch, Raise, Yes}
use Rattle.mux_spec.specs.declared.row.Order.{Order}
use Rattle.mux_spec.specs.declared.row.Programmed.{Programmed as Done}
use Rattle.mux_spec.specs.declared.row.Programmed.TheVariants.{Set, Same, Old}
use Rattle.mux_spec.specs.Gates.{admit}
use Rattle.mux_spec.specs.Rows.{kept_at, programmed, program_row, unprogram_row}
use Rattle.mux_spec.specs.Mux.{Mux}

-- a command of a replica
abbrev pub order : ℕ → ℕ → ℕ → ℕ → Ip4 → ℕ → Order
order from epoch boot n vip start = record {
  from = Replica from;
  epoch = epoch;
  boot = boot;
  n = n;
  range = range_at vip start;
}

-- a command that isn't obeyed is dropped, and refused to its sender
unfoldable pub refused : Mux → Order → DropCause → Turn Mux
refused m o cause = record (drop_turn m cause) {
  sends = tell o.from (MuxRefuse o.epoch m.gate.boot m.gate.epoch) ∷ [];
}

-- the mux with a greater epoch
abbrev pub raised : Mux → ℕ → Mux
raised m epoch = record m { gate = record { boot = m.gate.boot; epoch = epoch } }

-- A greater epoch is kept and made durable; then the command is obeyed.
abbrev pub if_admitted : Mux → Order → Admit → (Mux → Turn Mux) → Turn Mux
if_admitted m o (WrongBoot kept) obey = refused m o (drop.WrongBoot kept)
if_admitted m o (OldEpoch kept) obey = refused m o (drop.OldEpoch kept)
if_admitted m o (Raise epoch) obey = writes (Epoch epoch) (obey (raised m epoch))
if_admitted m o Yes obey = obey m

-- the row is set, or stands, and Programmed is said
abbrev pub programs_row : Mux → Order → Ip4 → Turn Mux
programs_row m o machine =
    says
    (record m { rows = program_row m.rows o.n o.range machine })
    (tell o.from (Programmed o.epoch o.boot o.n) ∷ [])

-- by the kept number
abbrev pub when_programmed : Mux → Order → Ip4 → Done → Turn Mux
when_programmed m o machine Set = programs_row m o machine
when_programmed m o machine Same = programs_row m o machine
when_programmed m o machine (Old kept) = drop_turn m (drop.OldNumber kept)

-- a Program that is obeyed
unfoldable pub programs : ConfigParts → Order → Ip4 → Mux → Turn Mux
programs c o machine m =
    if is_leasable (lease_rules_of c) o.range && has_snat c.vips o.range.vip machine
    then when_programmed m o machine (programmed (kept_at m.rows o.range) o.n)
    else drop_turn m drop.NotMine

-- an Unprogram that is obeyed
unfoldable pub unprograms : ConfigParts → Order → Mux → Turn Mux
unprograms c o m =
    if is_leasable (lease_rules_of c) o.range
    then says
    (record m { rows = unprogram_row m.rows o.n o.range })
    (tell o.from (Unprogrammed o.epoch o.boot o.n) ∷ [])
    else drop_turn m drop.NotMine

-- Program: from here on packets to the range go to the machine.
unfoldable pub on_program : ConfigParts → Mux → Order → Ip4 → Turn Mux
on_program c m o machine = if_admitted m o (admit m.gate o.epoch o.boot) (programs c o machine)

-- Unprogram: from here on packets to the range go to no machine.
unfoldable pub on_unprogram : ConfigParts → Mux → Order → Turn Mux
on_unprogram c m o = if_admitted m o (admit m.gate o.epoch o.boot) (unprograms c o)
