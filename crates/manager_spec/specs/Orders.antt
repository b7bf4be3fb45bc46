-- What a replica tells muxes and agents: at once of what was learned, and again of what a mux hasn't acknowledged.
use Rattle.std.specs.Prelude.{ℕ, if◌then◌else◌, nat_lt, List, [], ◌∷◌, map, length, take, Option, Some, None, fold}
use Rattle.std.specs.List.{flat_map}
use Rattle.wire_core.specs.declared.address.Ip4.{Ip4}
use Rattle.wire_core.specs.declared.node.NodeId.TheVariants.{Mux, Agent}
use Rattle.vip_config.specs.declared.parts.ConfigParts.{ConfigParts}
use Rattle.vip_config.specs.Serving.{agent_with}
use Rattle.lease_spec.specs.declared.row.Row.{Row}
use Rattle.lease_spec.specs.declared.effect.Effect.{Effect}
use Rattle.lease_spec.specs.declared.effect.Effect.TheVariants as effect
use Rattle.lease_spec.specs.Table.{is_being, is_freeing, row_at}
use Rattle.control_msg.specs.declared.message.Message.TheVariants.{Grant, Denied, Returned, AgentKnown, Program}
use Rattle.control_msg.specs.declared.message.Message.TheVariants.{Unprogram}
use Rattle.manager_spec.specs.declared.peer.Peer.{Peer}
use Rattle.manager_spec.specs.declared.marks.Marks.{Marks}
use Rattle.node_spec.specs.Sends.{Send, tell}
use Rattle.node_spec.specs.Turns.{Turn, says}
use Rattle.manager_spec.specs.Manager.{Manager, leases}
use Rattle.manager_spec.specs.Known.{running, near, marks_at, is_acked, forget}

-- ---- to one node

-- a mux is told that packets to the row's range go to its machine
abbrev pub program : ℕ → Row → Peer → Send
program epoch row p = tell (Mux p.mux) (Program epoch p.boot row.n row.range.vip row.range.start row.machine)

-- a mux is told that they go to no machine
abbrev pub unprogram : ℕ → Row → Peer → Send
unprogram epoch row p = tell (Mux p.mux) (Unprogram epoch p.boot row.n row.range.vip row.range.start)

-- the row's agent is told that it is Leased
abbrev pub grant_of : Row → Send
grant_of row = tell (Agent row.agent) (Grant row.boot row.machine row.seq row.n row.range.vip row.range.start)

-- the reasons of a Denied: no range was free, or the machine had as many as it may
abbrev pub exhausted : ℕ
exhausted = 1

abbrev pub at_limit : ℕ
at_limit = 2

-- the machine's agent is told that there is no range
abbrev pub denied : Option ℕ → ℕ → Ip4 → ℕ → ℕ → ℕ → List Send
denied None boot machine seq reason number = []
denied (Some agent) boot machine seq reason number = tell (Agent agent) (Denied boot machine seq reason number) ∷ []

-- an agent is told that its boot is known, where it is configured
abbrev pub known : ConfigParts → ℕ → ℕ → List Send
known cfg agent boot = if nat_lt agent (length cfg.agents) then tell (Agent agent) (AgentKnown boot) ∷ [] else []

-- ---- of what was learned

-- a new row is told to muxes where it is still BeingLeased after the whole value
abbrev pub program_new : ℕ → List Peer → Option Row → List Send
program_new epoch peers None = []
program_new epoch peers (Some row) = if is_being row.phase then map (program epoch row) peers else []

-- What is said of one effect, to agents and to the muxes with a known boot. The rows are those after the whole value.
abbrev pub order_of : ConfigParts → ℕ → List Peer → List Row → Effect → List Send
order_of cfg epoch peers rows (effect.Reserved row) = program_new epoch peers (row_at rows row.n)
order_of cfg epoch peers rows (effect.Exhausted machine boot seq place) =
    denied (agent_with cfg machine) boot machine seq exhausted place
order_of cfg epoch peers rows (effect.AtLimit machine boot seq count) =
    denied (agent_with cfg machine) boot machine seq at_limit count
order_of cfg epoch peers rows (effect.Granted row) = grant_of row ∷ []
order_of cfg epoch peers rows (effect.Released row) =
    tell (Agent row.agent) (Returned row.boot row.n) ∷ map (unprogram epoch row) peers
order_of cfg epoch peers rows (effect.Freed row) = []
order_of cfg epoch peers rows (effect.Known agent boot) = known cfg agent boot
order_of cfg epoch peers rows (effect.Cleared row) = []

-- What is said of effects, in their order.
unfoldable pub orders_of : ConfigParts → ℕ → List Peer → List Row → List Effect → List Send
orders_of cfg epoch peers rows effects = flat_map (order_of cfg epoch peers rows) effects

-- the acknowledgements of a row that left are forgotten: its number never comes again
abbrev pub after_effect : List (ℕ × Marks) → Effect → List (ℕ × Marks)
after_effect acks (effect.Freed row) = forget acks row.n
after_effect acks _ = acks

-- the same of effects in their order
unfoldable pub after_effects : List (ℕ × Marks) → List Effect → List (ℕ × Marks)
after_effects acks effects = fold after_effect acks effects

-- The command messages of a replica that has just learned a value.
abbrev pub orders : ConfigParts → List Effect → Manager → Turn Manager
orders cfg effects r = says
    (record r { acks = after_effects r.acks effects })
    (orders_of cfg r.memory.leader.ballot (running r) (leases cfg r).rows effects)

-- ---- the push

-- what a mux is told of a row, unless it acknowledged it in its known boot
abbrev pub push_one : ℕ → Row → Marks → Peer → List Send
push_one epoch row marks p =
    if is_freeing row.phase
    then (if is_acked marks.unprogrammed p then [] else unprogram epoch row p ∷ [])
    else (if is_acked marks.programmed p then [] else program epoch row p ∷ [])

-- what the muxes that aren't silent are told of a row
abbrev pub push_row : ConfigParts → Manager → Row → List Send
push_row cfg r row = flat_map (push_one r.memory.leader.ballot row (marks_at r.acks row.n)) (near cfg r)

-- The push: over rows by n and muxes by number, the first 64 messages.
unfoldable pub push : ConfigParts → Manager → List Send
push cfg r = take 64 (flat_map (push_row cfg r) (leases cfg r).rows)
