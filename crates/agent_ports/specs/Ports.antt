-- An agent's ports: the ranges of its machines, and the connections through them.
use Rattle.std.specs.Prelude.{◌≡◌, ℕ, Bool, not, ◌&&◌, nat_le, List, [], ◌∷◌, ◌++◌, map, length, Option, Some, None}
use Rattle.std.specs.Prelude.{if◌then◌else◌}
use Rattle.wire_core.specs.declared.address.Ip4.{Ip4}
use Rattle.agent_spec.specs.declared.connection.Connection.{Connection}
use Rattle.agent_spec.specs.declared.held.Held.{Held}
use Rattle.agent_spec.specs.Connections.{private_key, closed, most}
use Rattle.agent_spec.specs.Ranges.{Ranges, no_ranges, counted, at_number, more_one, less_one, is_unused, given_back}
use Rattle.agent_flows.specs.declared.opened.Opened.{Opened}
use Rattle.agent_flows.specs.declared.opened.Opened.TheVariants.{Yes, Full}

-- the ranges, and the connections in the order in which they were opened
pub record PortsState : Type 0 where
  pub ranges : Ranges
  pub conns : List Connection

-- no ranges and no connections
abbrev pub no_ports : PortsState
no_ports = record { ranges = no_ranges; conns = [] }

-- ---- connections

-- one connection more, and one more in its range
abbrev pub with_open : Connection → PortsState → PortsState
with_open c p =
    record {
      conns = p.conns ++ c ∷ [];
      ranges = counted p.ranges (map (at_number c.n more_one) p.ranges.held);
    }

-- one more, where there is room
abbrev pub opens : Connection → PortsState → PortsState × Opened
opens c p = if nat_le most (length p.conns) then (p, Full) else (with_open c p, Yes)

-- without the connection that has its private key, and one less in its range, which is idle from now on
abbrev pub with_closed : ℕ → Connection → PortsState → PortsState
with_closed now c p =
    record {
      conns = closed (private_key c) p.conns;
      ranges = counted p.ranges (map (at_number c.n (less_one now)) p.ranges.held);
    }

-- this connection closes, if it is one
abbrev pub ends : ℕ → Option Connection → PortsState → PortsState
ends now None p = p
ends now (Some c) p = with_closed now c p

-- ---- ranges

-- a test answers as the calls do
abbrev pub Answers : (Ip4 → Bool → Type 0) → (Ip4 → Bool) → Type 0
Answers calls test = (machine : Ip4) (b : Bool) → calls machine b → b ≡ test machine

-- no connection for so long, and its machine isn't busy
abbrev pub is_spare : (Ip4 → Bool) → ℕ → ℕ → Held → Bool
is_spare busy now idle h = is_unused now idle h && not (busy h.machine)

-- these ranges are given back, one after the other
abbrev pub given_back_each : List Held → Ranges → Ranges
given_back_each [] p = p
given_back_each (h ∷ hs) p = given_back_each hs (given_back h.n p)

-- their numbers
abbrev pub numbers : List Held → List ℕ
numbers hs = map (λ (h : Held). h.n) hs
