-- Held packets that are tried again.
use Rattle.std.specs.Prelude.{ℕ, List, [], ◌++◌, map, Option, Some, None, Result, Ok, Err, if◌then◌else◌}
use Rattle.packet_spec.specs.declared.fault.PacketFault.{PacketFault}
use Rattle.wire_core.specs.declared.cause.DropCause.TheVariants.{Denied}
use Rattle.wire_core.specs.declared.note.Note.TheVariants.{Dropped}
use Rattle.wire_core.specs.declared.step.Step.{Step}
use Rattle.vip_config.specs.declared.parts.ConfigParts.{ConfigParts}
use Rattle.node_spec.specs.Turns.{Turn, quiet}
use Rattle.agent_spec.specs.Agent.{Host, Traffic}
use Rattle.agent_spec.specs.Answers.{is_ask}
use Rattle.agent_spec.specs.Packets.{try_packet}

-- what becomes of a held packet that is read again, unless it stays
abbrev pub may_leave : ConfigParts → Traffic → Result (List ℕ) PacketFault → Option (Turn Traffic)
may_leave c t (Err fault) = Some (quiet t)
may_leave c t (Ok p) = try_packet c t p

-- the machine whose held packets are taken; the ask with this number is over
abbrev pub without_ask : ℕ → Host → Host
without_ask seq h = record h { queue = []; ask = if is_ask seq h.ask then None else h.ask }

-- each of these held packets was dropped
abbrev pub with_denials : List (List ℕ) → Step → Step
with_denials queue s = record s { notes = s.notes ++ map (λ (p : List ℕ). Dropped Denied) queue }
