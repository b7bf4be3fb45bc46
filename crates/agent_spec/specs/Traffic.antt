-- Connections open, are used and close.
use Rattle.std.specs.Prelude.{ℕ, Bool, List, [], ◌∷◌, ◌++◌, map, Option, Some, None, if◌then◌else◌}
use Rattle.wire_core.specs.declared.address.Ip4.{Ip4}
use Rattle.packet_spec.specs.Packets.{has_rst}
use Rattle.packet_spec.specs.Edits.{translate_source, translate_destination}
use Rattle.ipip.specs.declared.wrapping.WrapFault.{WrapFault}
use Rattle.ipip.specs.Wrapping.{wrapped, wrap_fault}
use Rattle.vip_config.specs.declared.parts.ConfigParts.{ConfigParts}
use Rattle.wire_core.specs.declared.act.Act.TheVariants.{Open, Close, Hand}
use Rattle.ipip.specs.Causes.{wrap_cause}
use Rattle.vip_config.specs.Serving.{agent_with}
use Rattle.node_spec.specs.Sends.{ToMachine, ToRouter, Carries, carry, to_agent}
use Rattle.node_spec.specs.Turns.{Turn, quiet, drop_turn, act_turn, says, also}
use Rattle.agent_spec.specs.declared.connection.Connection.{Connection}
use Rattle.agent_spec.specs.Connections.{private_key, conn_of, changed, at_time, closed}
use Rattle.agent_spec.specs.Ranges.{counted, at_number, more_one, less_one}
use Rattle.agent_spec.specs.Agent.{Traffic}

-- A connection opens: one more, and one more in its range.
unfoldable pub open_conn : Traffic → Connection → Turn Traffic
open_conn t c =
    act_turn
    (record t {
      conns = t.conns ++ c ∷ [];
      ranges = counted t.ranges (map (at_number c.n more_one) t.ranges.held);
    })
    (Open (conn_of c))

-- A connection closes: one less, and one less in its range, which is idle from now on.
unfoldable pub close_conn : Connection → Traffic → Turn Traffic
close_conn c t =
    act_turn
    (record t {
      conns = closed (private_key c) t.conns;
      ranges = counted t.ranges (map (at_number c.n (less_one t.time)) t.ranges.held);
    })
    (Close (conn_of c))

-- the time of a use is kept
abbrev pub touched : Traffic → Connection → Traffic
touched t c = record t { conns = changed c (at_time t.time) t.conns }

-- the same of an inbound entry
abbrev pub inbound_touched : Traffic → Connection → Traffic
inbound_touched t c = record t { inbound = changed c (at_time t.time) t.inbound }

-- a TCP RST closes the connection
abbrev pub closes : Bool → Connection → Traffic → Turn Traffic
closes rst c t = if rst then close_conn c t else quiet t

-- ---- a packet leaves

-- as it leaves: from the VIP and the port
abbrev pub leaving : Connection → List ℕ → List ℕ
leaving c p = translate_source c.vip c.port p

-- wrapped to the peer, to the peer's agent; what follows is for what left
abbrev pub to_peer : ConfigParts → Traffic → Connection → Ip4 → List ℕ → (Traffic → Turn Traffic) → Option WrapFault
    → Turn Traffic
to_peer c t x peer p then_on (Some fault) = drop_turn t (wrap_cause fault)
to_peer c t x peer p then_on None =
    also (says t (to_agent (agent_with c peer) (Carries (wrapped 0 x.machine peer p)))) then_on

-- to the peer, or to the router
abbrev pub goes : ConfigParts → Traffic → Connection → List ℕ → (Traffic → Turn Traffic) → Option Ip4 → Turn Traffic
goes c t x p then_on (Some peer) = to_peer c t x peer p then_on (wrap_fault 0 p)
goes c t x p then_on None = also (says t (carry ToRouter p ∷ [])) then_on

-- A packet leaves by its connection; a TCP RST that left then closes it.
unfoldable pub use_conn : ConfigParts → Traffic → Connection → List ℕ → Turn Traffic
use_conn c t x p = goes c (touched t x) x (leaving x p) (closes (has_rst p) x) x.peer

-- A packet of a server leaves by its inbound entry.
unfoldable pub use_inbound : ConfigParts → Traffic → Connection → List ℕ → Turn Traffic
use_inbound c t x p = goes c (inbound_touched t x) x (leaving x p) quiet x.peer

-- ---- a packet is handed

-- as it is handed: to the machine and its own port
abbrev pub restored : Connection → List ℕ → List ℕ
restored c p = translate_destination c.machine c.sport 0 p

-- A packet is handed to the machine: as an act, and to the machine's socket.
unfoldable pub hand : Traffic → Connection → List ℕ → Turn Traffic
hand t c p = record (act_turn t (Hand c.machine (restored c p))) {
  sends = carry (ToMachine c.machine) (restored c p) ∷ [];
}
