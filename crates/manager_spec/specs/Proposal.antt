-- What a replica proposes, and which rows end with a proposal.
use Rattle.std.specs.Prelude.{◌-◌, Bool, true, false, ◌&&◌, if◌then◌else◌, nat_lt, ◌==◌, List, [], ◌∷◌, ◌++◌, map}
use Rattle.std.specs.Prelude.{filter, length, take, drop}
use Rattle.std.specs.List.{list_all, flat_map}
use Rattle.wire_core.specs.Commands.{LogCommand, Granted, Freed}
use Rattle.wire_core.specs.declared.command.MuxBoot.{MuxBoot}
use Rattle.vip_config.specs.declared.parts.ConfigParts.{ConfigParts}
use Rattle.lease_spec.specs.declared.row.Row.{Row}
use Rattle.lease_spec.specs.Table.{is_being, is_freeing}
use Rattle.paxos_spec.specs.Replica.{may_propose, on_offer}
use Rattle.manager_spec.specs.declared.peer.Peer.{Peer}
use Rattle.manager_spec.specs.declared.marks.Marks.{Marks}
use Rattle.node_spec.specs.Turns.{Turn, quiet, also}
use Rattle.manager_spec.specs.Manager.{Manager, leases, agrees}
use Rattle.manager_spec.specs.Known.{running, near, marks_at, is_acked, is_acked_ever}

-- ---- what is due by the table

-- the muxes that have the row in their known boot
abbrev pub holders : List Peer → Marks → List Peer
holders peers marks = filter (is_acked marks.programmed) peers

-- a mux and its boot
abbrev pub mux_boot : Peer → MuxBoot
mux_boot p = record { mux = p.mux; boot = p.boot }

-- a row is granted where each mux that isn't silent has it, and at least one mux has; silent ones may be among these
abbrev pub is_granted : ConfigParts → Manager → Marks → Bool
is_granted cfg r marks =
    nat_lt 0 (length (holders (running r) marks)) && list_all (is_acked marks.programmed) (near cfg r)

-- Granted, for a BeingLeased row that muxes have: it names all that have it.
abbrev pub grant_due : ConfigParts → Manager → Row → List LogCommand
grant_due cfg r row =
    if is_being row.phase && is_granted cfg r (marks_at r.acks row.n)
    then Granted row.n (map mux_boot (holders (running r) (marks_at r.acks row.n))) ∷ []
    else []

-- Freed, for a Freeing row that no configured mux has any more.
abbrev pub freed_due : Manager → Row → List LogCommand
freed_due r row =
    if is_freeing row.phase && list_all (is_acked_ever (marks_at r.acks row.n).unprogrammed) r.muxes
    then Freed row.n ∷ []
    else []

-- All that is due by the table: Granted by n, then Freed by n.
unfoldable pub due : ConfigParts → Manager → List LogCommand
due cfg r = flat_map (grant_due cfg r) (leases cfg r).rows ++ flat_map (freed_due r) (leases cfg r).rows

-- ---- the proposal

-- the value is offered to the agreement, and the queue is what is left of it; where there is none, nothing is
abbrev pub offer : ConfigParts → Manager → List LogCommand → List LogCommand → Turn Manager
offer cfg r value rest =
    if length value == 0 then quiet r
    else agrees cfg (record r { queue = rest }) (on_offer r.index r.acceptor r.memory value)

-- the first 16 of what is due
abbrev pub first_due : ConfigParts → Manager → List LogCommand
first_due cfg r = take 16 (due cfg r)

-- what is due, filled up to 16 from the queue
abbrev pub filled : ConfigParts → Manager → List LogCommand → Turn Manager
filled cfg r first = offer cfg r (first ++ take (16 - length first) r.queue) (drop (16 - length first) r.queue)

-- The proposal, of a primary with nothing outstanding: the first 16 of what is due, and then of the queue.
unfoldable pub propose : ConfigParts → Manager → Turn Manager
propose cfg r = if may_propose r.acceptor r.memory.leader then filled cfg r (first_due cfg r) else quiet r

-- ---- rows

-- A row of the table: its turn before the proposal, and whether a proposal follows.
pub record Half : Type 0 where
  pub turn : Turn Manager
  pub proposes : Bool

-- a row without a proposal
abbrev pub stops : Turn Manager → Half
stops t = record { turn = t; proposes = false }

-- a row that ends with the proposal
abbrev pub goes_on : Turn Manager → Half
goes_on t = record { turn = t; proposes = true }

-- The whole turn of a row.
unfoldable pub whole : ConfigParts → Half → Turn Manager
whole cfg h = if h.proposes then also h.turn (propose cfg) else h.turn
