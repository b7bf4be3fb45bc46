-- What no two machines have: a held range, and the end of a connection, in any world.
use Rattle.std.specs.Prelude.{◌≡◌, ℕ, List, map, Some}
use Rattle.wire_core.specs.Members.{In, Each}
use Rattle.wire_core.specs.Ranges.{range_of}
use Rattle.wire_core.specs.declared.connection.Conn.{Conn}
use Rattle.wire_core.specs.declared.flow.FlowKey.{FlowKey}
use Rattle.wire_core.specs.declared.node.NodeId.TheVariants.{Agent}
use Rattle.wire_core.specs.declared.range.Range.{Range}
use Rattle.vip_config.specs.Rules.{Once}
use Rattle.vip_config.specs.declared.parts.ConfigParts.{ConfigParts}
use Rattle.lease_spec.specs.declared.row.Phase.TheVariants.{Leased}
use Rattle.lease_spec.specs.declared.row.Row.{Row}
use Rattle.agent_spec.specs.Agent.{Agent as AgentLists}
use Rattle.agent_spec.specs.declared.held.Held.{Held as HeldRange}
use Rattle.world_spec.specs.Nodes.{OfAgent}
use Rattle.world_spec.specs.Views.{conns, held}
use Rattle.world_spec.specs.World.{World, at}
use Rattle.world_spec.specs.declared.views.Held.{Held}
use Rattle.world_laws.specs.Grants.{IsLease}
use Rattle.world_laws.specs.Living.{Dies}
use Rattle.world_laws.specs.Log.{book}

-- ---- a held number is leased

-- The book has the number Leased, to the same machine, agent and boot, on the same range.
pub record IsInBook (cfg : ConfigParts) (w : World) (agent boot : ℕ) (h : HeldRange) : Type 0 where
  pub row : Row
  pub there : In row (book cfg w).rows
  pub number : row.n ≡ h.n
  pub range : row.range ≡ h.range
  pub machine : row.machine ≡ h.machine
  pub agent_is : row.agent ≡ agent
  pub boot_is : row.boot ≡ boot
  pub phase : row.phase ≡ Leased

-- A held range is leased: its number was born with this range and machine, to this agent in this boot, and granted;
-- nothing ended it, and the book has it.
pub record IsLeased (cfg : ConfigParts) (w : World) (agent boot : ℕ) (h : HeldRange) : Type 0 where
  pub lease : IsLease cfg w agent boot h.n h.range h.machine
  pub lives : Dies cfg w h.n → ⊥
  pub book : IsInBook cfg w agent boot h

-- of each range that an agent holds
abbrev pub HeldAreLeased : ConfigParts → World → Type 0
HeldAreLeased cfg w =
    (agent : ℕ) (a : AgentLists) → at w (Agent agent) ≡ Some (OfAgent a)
    → Each (IsLeased cfg w agent a.boot) a.traffic.ranges.held

-- ---- held once

abbrev pub range_held : Held → Range
range_held h = h.range

-- No two held ranges, of any agents, are one range.
abbrev pub RangesAreHeldOnce : World → Type 0
RangesAreHeldOnce w = Once (map range_held (held w))

-- ---- ends of connections

-- what the remote end sees
abbrev pub outer_end : Conn → FlowKey
outer_end c = record { src = c.vip; dst = c.remote; sport = c.port; dport = c.rport; proto = c.proto }

-- what the machine sees
abbrev pub inner_end : Conn → FlowKey
inner_end c = record { src = c.machine; dst = c.remote; sport = c.sport; dport = c.rport; proto = c.proto }

-- its machine holds the range of its port
pub record IsHeld (hs : List Held) (c : Conn) : Type 0 where
  pub range : Held
  pub there : In range hs
  pub machine : range.machine ≡ c.machine
  pub is : range.range ≡ range_of c.vip c.port

-- No two live connections, of any agents, share a public key, or a private one, and each goes through a range that its
-- machine holds.
pub record ConnsAreApart (w : World) : Type 0 where
  pub outer : Once (map outer_end (conns w))
  pub inner : Once (map inner_end (conns w))
  pub through : Each (IsHeld (held w)) (conns w)
