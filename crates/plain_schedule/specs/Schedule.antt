-- What a plain schedule prints: the fold of its lines over a lease table and its connections.
use Rattle.std.specs.Prelude.{ℕ, ◌+◌, ◌-◌, ◌^◌, min, nat_lt, nat_le, Bool, not, ◌&&◌, ◌||◌, ◌==◌, List, [], ◌∷◌, ◌++◌, length, take, slice_index, Option, Some, None, is_some, Result, Ok, Err, if◌then◌else◌, codes}
use Rattle.std.specs.List.{flat_map}
use Rattle.std.specs.Str.{bytes_eq}
use Rattle.std.specs.Fmt.{decimal}
use Rattle.wire_core.specs.declared.address.Ip4.{Ip4}
use Rattle.wire_core.specs.declared.rules.VipRule.{VipRule}
use Rattle.wire_core.specs.declared.rules.MachineRule.{MachineRule}
use Rattle.wire_core.specs.Commands.{Reserve, Release, Freed}
use Rattle.lease_spec.specs.declared.row.Row.{Row}
use Rattle.lease_spec.specs.declared.effect.Effect.{Effect}
use Rattle.lease_spec.specs.declared.effect.Effect.TheVariants as effect
use Rattle.lease_spec.specs.Table.{Last, last_of, row_at, rule_of}
use Rattle.port_leases.specs.TableState.{TableState, apply_slot, fresh, has_vip}
use Rattle.address_text.specs.Fields.{parts}
use Rattle.plain_schedule.specs.declared.line.Line.{Line}
use Rattle.plain_schedule.specs.declared.line.Line.TheVariants.{Skip, Vip, Ask, Return, Packet, Reply}
use Rattle.packet_spec.specs.Packets.{read_packet}
use Rattle.plain_schedule.specs.declared.connections.Connection.{Connection}
use Rattle.plain_schedule.specs.Packets.{replied, sent}
use Rattle.plain_schedule.specs.Lines.{line_of}

-- the lease table, and the connections that were opened, in order
pub record Plain : Type 0 where
  pub table : TableState
  pub opened : List Connection

-- no VIPs, no machines, no connections, and no limit that a schedule could reach
abbrev pub start : Plain
start = record { table = fresh (record { vips = []; machines = []; limit = 2 ^ 32 - 1 }); opened = [] }

-- a VIP's or a machine's address
abbrev pub is_named : TableState → Ip4 → Bool
is_named t address = has_vip t.rules address || is_some (rule_of t.rules address)

abbrev pub with_vip : VipRule → TableState → TableState
with_vip rule t = record t { rules = record t.rules { vips = t.rules.vips ++ rule ∷ [] } }

abbrev pub with_machine : MachineRule → TableState → TableState
with_machine rule t = record t { rules = record t.rules { machines = t.rules.machines ++ rule ∷ [] } }

-- ---- ask

-- the number of the machine's next request; numbers end at 64 bits
abbrev pub seq_after : Option Last → ℕ
seq_after None = 1
seq_after (Some last) = min (last.seq + 1) (2 ^ 64 - 1)

-- what a Reserve did
abbrev pub effect_text : Effect → List ℕ
effect_text (effect.Reserved row) =
    codes "leased " ++ decimal row.n ++ codes " " ++ decimal row.range.start ++ codes "\n"
effect_text (effect.Exhausted machine boot seq place) = codes "exhausted " ++ decimal place ++ codes "\n"
effect_text other = []

abbrev pub told : TableState × List Effect → TableState × List ℕ
told after = (after.0, flat_map effect_text after.1)

-- one slot in which the machine asks, in boot 1 of agent 0
abbrev pub asked : TableState → Ip4 → TableState × List ℕ
asked t machine = told (apply_slot t (Reserve 0 1 machine (seq_after (last_of t.leases.lasts machine)) ∷ []))

-- A machine's first ask fixes its VIP; an ask with another one is a bad line.
abbrev pub ask_by : TableState → Ip4 → Ip4 → Option MachineRule → Option (TableState × List ℕ)
ask_by t vip machine None = Some (asked (with_machine (record { machine = machine; agent = 0; vip = vip }) t) machine)
ask_by t vip machine (Some rule) = if rule.vip.0 == vip.0 then Some (asked t machine) else None

-- ---- return

-- one slot in which the lease is released and freed; none where there is no such lease
abbrev pub returned : TableState → ℕ → Option Row → TableState × List ℕ
returned t n None = (t, codes "unknown " ++ decimal n ++ codes "\n")
returned t n (Some row) = ((apply_slot t (Release n ∷ Freed n ∷ [])).0, codes "freed " ++ decimal n ++ codes "\n")

-- ---- lines

-- A VIP's address is new, and there are at most 64 VIPs.
abbrev pub named : TableState → Ip4 → ℕ → ℕ → Option (TableState × List ℕ)
named t vip low high =
    if is_named t vip || nat_le 64 (length t.rules.vips) then None
    else Some (with_vip (record { vip = vip; low = low; high = high; taken = [] }) t, [])

-- An ask names a VIP that is known, and a machine that is no VIP.
abbrev pub ask_line : TableState → Ip4 → Ip4 → Option (TableState × List ℕ)
ask_line t vip machine =
    if not (has_vip t.rules vip) || has_vip t.rules machine then None
    else ask_by t vip machine (rule_of t.rules machine)

-- a line that concerns the table alone
abbrev pub at_table : Plain → Option (TableState × List ℕ) → Option (Plain × List ℕ)
at_table s None = None
at_table s (Some after) = Some (record s { table = after.0 }, after.1)

-- a packet of a machine may open a connection
abbrev pub at_connections : Plain → List Connection × List ℕ → Option (Plain × List ℕ)
at_connections s after = Some (record s { opened = after.0 }, after.1)

-- What a line does and prints. None is a bad line.
abbrev pub step : Plain → Option Line → Option (Plain × List ℕ)
step s None = None
step s (Some Skip) = Some (s, [])
step s (Some (Vip vip low high)) = at_table s (named s.table vip low high)
step s (Some (Ask vip machine)) = at_table s (ask_line s.table vip machine)
step s (Some (Return n)) = at_table s (Some (returned s.table n (row_at s.table.leases.rows n)))
step s (Some (Packet bytes)) = at_connections s (sent s.table s.opened (read_packet bytes))
step s (Some (Reply bytes)) = Some (s, replied s.table s.opened (read_packet bytes))

abbrev pub printed : List ℕ → Result (List ℕ) ℕ → Result (List ℕ) ℕ
printed front (Ok text) = Ok (front ++ text)
printed front (Err n) = Err n

-- what follows a line
abbrev pub and_then : ℕ → Option (Plain × List ℕ) → (Plain → Result (List ℕ) ℕ) → Result (List ℕ) ℕ
and_then n None more = Err n
and_then n (Some after) more = printed after.1 (more after.0)

-- a line past the last is bad whatever it holds; a schedule has at most 100,000 lines
abbrev pub line_step : ℕ → Plain → List ℕ → Option (Plain × List ℕ)
line_step n s line = if nat_lt 100000 n then None else step s (line_of line)

-- what the lines from this number on print, or the first bad line
unfoldable pub lines_from : Plain → ℕ → List (List ℕ) → Result (List ℕ) ℕ
lines_from s n [] = Ok []
lines_from s n (line ∷ lines) = and_then n (line_step n s line) (λ after. lines_from after (n + 1) lines)

-- a text without the end of its last line
abbrev pub without_end : List ℕ → List ℕ
without_end text =
    if nat_lt 0 (length text) && (slice_index text (length text - 1) == 10) then take (length text - 1) text
    else text

abbrev pub plain_from : List (List ℕ) → Result (List ℕ) ℕ
plain_from [] = Err 1
plain_from (line ∷ lines) = if bytes_eq line (codes "plain") then lines_from start 2 lines else Err 1

-- what the text of a plain schedule prints, or its first bad line; the first line is number 1
abbrev pub plain_lines : List ℕ → Result (List ℕ) ℕ
plain_lines text = plain_from (parts 10 (without_end text))

-- the state after a line, and all that is printed then
abbrev pub onto : List ℕ → Option (Plain × List ℕ) → Option (Plain × List ℕ)
onto front None = None
onto front (Some after) = Some (after.0, front ++ after.1)

-- the same of a line that concerns the table alone
abbrev pub table_onto : List ℕ → Option (TableState × List ℕ) → Option (TableState × List ℕ)
table_onto front None = None
table_onto front (Some after) = Some (after.0, front ++ after.1)
