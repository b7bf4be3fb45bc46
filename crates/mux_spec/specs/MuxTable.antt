-- A mux's table: which input is which row.
use Rattle.std.specs.Prelude.{ℕ, if◌then◌else◌}
use Rattle.wire_core.specs.declared.cause.DropCause.TheVariants.{WrongRole}
use Rattle.wire_core.specs.declared.node.NodeId.{NodeId}
use Rattle.wire_core.specs.declared.node.NodeId.TheVariants as node
use Rattle.control_msg.specs.declared.message.Message.{Message}
use Rattle.control_msg.specs.declared.message.Message.TheVariants.{Program, Unprogram, RedirectAsk}
use Rattle.vip_config.specs.declared.parts.ConfigParts.{ConfigParts}
use Rattle.node_spec.specs.Turns.{Input, Arrived, Ticked, Turn, drop_turn}
use Rattle.node_spec.specs.Datagrams.{heard, by_heard}
use Rattle.node_spec.specs.Fastpath.{has_fastpath}
use Rattle.mux_spec.specs.Mux.{Mux, on_tick}
use Rattle.mux_spec.specs.Commands.{order, on_program, on_unprogram}
use Rattle.mux_spec.specs.Redirects.{on_redirect_ask}
use Rattle.mux_spec.specs.Packets.{on_packet}

-- messages of replicas
abbrev pub from_replica : ConfigParts → Mux → ℕ → Message → Turn Mux
from_replica c m from (Program epoch boot n vip start machine) =
    on_program c m (order from epoch boot n vip start) machine
from_replica c m from (Unprogram epoch boot n vip start) = on_unprogram c m (order from epoch boot n vip start)
from_replica c m from _ = drop_turn m WrongRole

-- messages of muxes
abbrev pub from_mux : ConfigParts → Mux → Message → Turn Mux
from_mux c m (RedirectAsk src sport dst dport machine) =
    if has_fastpath
    then on_redirect_ask c m (record { src = src; sport = sport; dst = dst; dport = dport; machine = machine })
    else drop_turn m WrongRole
from_mux c m _ = drop_turn m WrongRole

-- A message of a node.
unfoldable pub mux_hears : ConfigParts → Mux → NodeId → Message → Turn Mux
mux_hears c m (node.Replica from) message = from_replica c m from message
mux_hears c m (node.Mux from) message = from_mux c m message
mux_hears c m (node.Agent from) message = drop_turn m WrongRole

-- What an input makes of a mux.
unfoldable pub mux_step : ConfigParts → Mux → Input → Turn Mux
mux_step c m (Arrived from bytes) = by_heard (drop_turn m) (mux_hears c m) (on_packet c m) (heard c from bytes)
mux_step c m (Ticked now) = on_tick c m now
