-- A mux that is asked whether the two machines of a connection may do without muxes tells both their agents.
use Rattle.std.specs.Prelude.{ℕ, ◌&&◌, List, ◌++◌, Option, Some, None, is_some, if◌then◌else◌}
use Rattle.wire_core.specs.declared.address.Ip4.{Ip4}
use Rattle.wire_core.specs.declared.cause.DropCause.TheVariants.{NotMine, NoLease}
use Rattle.wire_core.specs.Ranges.{is_leasable, range_of}
use Rattle.control_msg.specs.declared.message.Message.TheVariants.{Redirect}
use Rattle.vip_config.specs.declared.parts.ConfigParts.{ConfigParts}
use Rattle.vip_config.specs.Leases.{lease_rules_of}
use Rattle.node_spec.specs.Sends.{Send, Says, to_agent}
use Rattle.node_spec.specs.Turns.{Turn, drop_turn, says}
use Rattle.vip_config.specs.Serving.{agent_with}
use Rattle.mux_spec.specs.declared.row.Kept.{Kept}
use Rattle.mux_spec.specs.declared.verdict.RedirectAsk.{RedirectAsk}
use Rattle.mux_spec.specs.Rows.{kept_at}
use Rattle.mux_spec.specs.Mux.{Mux}

-- the row of a range: its number and its machine
abbrev pub with_machine : ℕ → Option Ip4 → Option (ℕ × Ip4)
with_machine n None = None
with_machine n (Some machine) = Some (n, machine)

-- the row of a range, where it has a machine
abbrev pub resolved : Kept → Option (ℕ × Ip4)
resolved k = with_machine k.n k.machine

-- to the opener's agent with side 0, to the server's with side 1
abbrev pub redirect : ConfigParts → ℕ → ℕ → RedirectAsk → Ip4 → Ip4 → List Send
redirect c side n a opener to =
    to_agent (agent_with c to) (Says (Redirect side n a.src a.sport a.dst a.dport opener a.machine))

-- to both agents
abbrev pub redirects : ConfigParts → Mux → RedirectAsk → Option (ℕ × Ip4) → Turn Mux
redirects c m a None = drop_turn m NoLease
redirects c m a (Some row) = says m (redirect c 0 row.0 a row.1 row.1 ++ redirect c 1 row.0 a row.1 a.machine)

-- RedirectAsk: the agents of both machines are told of each other, each with its side.
unfoldable pub on_redirect_ask : ConfigParts → Mux → RedirectAsk → Turn Mux
on_redirect_ask c m a =
    if is_some (agent_with c a.machine) && is_leasable (lease_rules_of c) (range_of a.src a.sport)
    then redirects c m a (resolved (kept_at m.rows (range_of a.src a.sport)))
    else drop_turn m NotMine
