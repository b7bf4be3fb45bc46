-- What muxes say: MuxHello, MuxRefuse, Programmed and Unprogrammed.
use Rattle.std.specs.Prelude.{ℕ, not, ◌&&◌, if◌then◌else◌, nat_lt, ◌==◌, is_some}
use Rattle.wire_core.specs.declared.cause.DropCause.TheVariants.{Late}
use Rattle.vip_config.specs.declared.parts.ConfigParts.{ConfigParts}
use Rattle.lease_spec.specs.Table.{row_at}
use Rattle.paxos_spec.specs.Leader.{is_follower, is_primary}
use Rattle.paxos_spec.specs.Replica.{Memory, down}
use Rattle.manager_spec.specs.declared.marks.Marks.{Marks}
use Rattle.node_spec.specs.Turns.{drop_turn, quiet}
use Rattle.manager_spec.specs.Manager.{Manager, leases, rested}
use Rattle.manager_spec.specs.Known.{peer, hear_mux, marks_at, set_marks, marked}
use Rattle.manager_spec.specs.Leading.{with_seen}
use Rattle.manager_spec.specs.Proposal.{Half, stops, goes_on}

-- an epoch that it heard of; one above its own ballot makes it step down
abbrev pub see_epoch : Memory → ℕ → Memory
see_epoch m epoch =
    if nat_lt m.leader.ballot epoch && not (is_follower m.leader.stage) then with_seen (down m) epoch
    else with_seen m epoch

-- the replica once it heard of an epoch
abbrev pub hear_epoch : Manager → ℕ → Manager
hear_epoch r epoch = rested (record r { memory = see_epoch r.memory epoch })

-- MuxHello: the mux and its epoch were heard. One of an earlier boot than the known one is Late.
unfoldable pub on_hello : ConfigParts → Manager → ℕ → ℕ → ℕ → Half
on_hello cfg r mux boot epoch =
    if nat_lt boot (peer r mux).boot then stops (drop_turn r Late)
    else goes_on (quiet (hear_epoch (hear_mux r mux boot) epoch))

-- MuxRefuse, of any boot: the mux and the epoch that it keeps were heard.
unfoldable pub on_mux_refuse : ConfigParts → Manager → ℕ → ℕ → ℕ → Half
on_mux_refuse cfg r mux boot epoch = goes_on (quiet (hear_epoch (hear_mux r mux boot) epoch))

-- a row's marks with a Programmed
abbrev pub programmed_by : Marks → ℕ → ℕ → Marks
programmed_by marks mux boot = record marks { programmed = marked marks.programmed mux boot }

-- a row's marks with an Unprogrammed
abbrev pub unprogrammed_by : Marks → ℕ → ℕ → Marks
unprogrammed_by marks mux boot = record marks { unprogrammed = marked marks.unprogrammed mux boot }

-- Programmed and Unprogrammed: the mux was heard, and the acknowledgement is kept, whatever its row's phase. Late where
-- it isn't primary at that epoch, or there is no such row.
unfoldable pub on_ack : ConfigParts → Manager → (Marks → ℕ → ℕ → Marks) → ℕ → ℕ → ℕ → ℕ → Half
on_ack cfg r with_one mux epoch boot n =
    if is_primary r.memory.leader.stage && (r.memory.leader.ballot == epoch) && is_some (row_at (leases cfg r).rows n)
    then goes_on (quiet
    (record (hear_mux r mux boot) { acks = set_marks r.acks n (with_one (marks_at r.acks n) mux boot) }))
    else stops (drop_turn r Late)
