-- Connections go through held ranges: each has one of its machine with its port, and each range counts its own.
use Rattle.std.specs.Prelude.{◌≡◌, ◌+◌, ◌≤◌, ◌==◌, ℕ, true, List, [], ◌∷◌, length, if◌then◌else◌}
use Rattle.wire_core.specs.Members.{In, Each}
use Rattle.wire_core.specs.Ranges.{is_leasable, range_of}
use Rattle.vip_config.specs.Leases.{lease_rules_of}
use Rattle.vip_config.specs.Serving.{has_snat}
use Rattle.vip_config.specs.declared.parts.ConfigParts.{ConfigParts}
use Rattle.agent_spec.specs.declared.connection.Connection.{Connection}
use Rattle.agent_spec.specs.declared.held.Held.{Held}
use Rattle.agent_spec.specs.Connections.{most}

-- the connection has the number and the machine of the held range, and its port is one of the range's
pub record GoesThrough (h : Held) (x : Connection) : Type 0 where
  pub number : h.n ≡ x.n
  pub machine : h.machine ≡ x.machine
  pub range : h.range ≡ range_of x.vip x.port

-- one of these ranges is the connection's
pub record HasRange (held : List Held) (x : Connection) : Type 0 where
  pub range : Held
  pub there : In range held
  pub through : GoesThrough range x

-- how many connections have this number
abbrev pub count_of : ℕ → List Connection → ℕ
count_of n [] = 0
count_of n (x ∷ xs) = (if x.n == n then 1 else 0) + count_of n xs

-- a held range is one that its machine may have, and counts its connections
pub record IsCounted (c : ConfigParts) (conns : List Connection) (h : Held) : Type 0 where
  pub snat : has_snat c.vips h.range.vip h.machine ≡ true
  pub leasable : is_leasable (lease_rules_of c) h.range ≡ true
  pub count : h.count ≡ count_of h.n conns

-- Each connection goes through a held range, each held range counts its connections, and there are at most 65536.
pub record ConnsAreHeld (c : ConfigParts) (conns : List Connection) (held : List Held) : Type 0 where
  pub ranged : Each (HasRange held) conns
  pub counts : Each (IsCounted c conns) held
  pub few : length conns ≤ most
