-- The ranges of each machine, by number.
use Rattle.std.specs.Prelude.{◌≡◌, ℕ, ◌+◌, min, Bool, not, List, [], ◌∷◌, ◌++◌, map, filter, Option, Some, None}
use Rattle.wire_core.specs.declared.address.Ip4.{Ip4}
use Rattle.wire_core.specs.Same.{same_ip}
use Rattle.agent_spec.specs.declared.held.Held.{Held}
use Rattle.agent_spec.specs.Ranges.{places, more_one, less_one}
use Rattle.agent_ports.specs.declared.count.Count.{Count}
use Rattle.agent_ports.specs.declared.count.Count.TheVariants.{Opened, Closed}
use Rattle.agent_ports.specs.declared.lease.Lease.{Lease}
use Rattle.agent_ports.specs.Order.{Ascend}

-- a held range without its machine and counts
abbrev pub lease_of : Held → Lease
lease_of h = record { n = h.n; start = h.range.start }

-- the range is the machine's
abbrev pub is_of : Ip4 → Held → Bool
is_of machine h = same_ip h.machine machine

-- a machine's ranges
abbrev pub leases_of : List Held → Ip4 → List Lease
leases_of held machine = map lease_of (filter (is_of machine) held)

-- the i-th port of a range with its number; ports end at 65535
abbrev pub port_at : Lease → ℕ → ℕ × ℕ
port_at l i = (l.n, min (l.start + i) 65535)

-- the ports of ranges
unfoldable pub lease_ports : List Lease → List (ℕ × ℕ)
lease_ports [] = []
lease_ports (l ∷ ls) = map (port_at l) places ++ lease_ports ls

-- what a machine's entry has
abbrev pub entry_leases : Option (List Lease) → List Lease
entry_leases None = []
entry_leases (Some ls) = ls

-- numbers of ranges and of leases
abbrev pub held_number : Held → ℕ
held_number h = h.n

abbrev pub lease_number : Lease → ℕ
lease_number l = l.n

-- Ranges stand by number, and each machine's entry has its ranges.
pub record IsIndexed (held : List Held) (entry : Ip4 → Option (List Lease)) : Type 0 where
  pub ascend : Ascend held_number held
  pub leases : (machine : Ip4) → entry_leases (entry machine) ≡ leases_of held machine

-- a connection opened or closed in a range
abbrev pub counted_by : Count → Held → Held
counted_by Opened h = more_one h
counted_by (Closed now) h = less_one now h
