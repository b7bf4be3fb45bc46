-- What a turn may do to an agent's leases: a Grant is taken, spare ranges are given back, a return ends.
use Rattle.std.specs.Prelude.{◌≡◌, ℕ, true, false, List, [], ◌∷◌, map, Option, Some, None}
use Rattle.wire_core.specs.Members.{In, Each}
use Rattle.wire_core.specs.Ranges.{is_leasable}
use Rattle.wire_core.specs.declared.address.Ip4.{Ip4}
use Rattle.wire_core.specs.declared.node.NodeId.TheVariants.{Replica}
use Rattle.wire_core.specs.declared.range.Range.{Range}
use Rattle.control_msg.specs.declared.message.Message.TheVariants.{Grant}
use Rattle.vip_config.specs.Leases.{lease_rules_of}
use Rattle.vip_config.specs.Serving.{has_snat}
use Rattle.vip_config.specs.declared.parts.ConfigParts.{ConfigParts}
use Rattle.node_spec.specs.Datagrams.{Heard, Told, heard}
use Rattle.node_spec.specs.Turns.{Input, Arrived, Ticked, Turn}
use Rattle.agent_spec.specs.Agent.{Agent}
use Rattle.agent_spec.specs.Footprints.{SameLeases, lease_of}
use Rattle.agent_spec.specs.Ranges.{Ranges, given_back, granted, is_old, returned}

-- what the common tests leave of an input, where it is a datagram
abbrev pub heard_in : ConfigParts → Input → Option Heard
heard_in c (Arrived from bytes) = Some (heard c from bytes)
heard_in c (Ticked now) = None

-- A Grant of the agent's own boot, to a machine that may have the range: the number is above the kept one of the range,
-- and neither number nor range is held or returning.
pub record IsTaken (c : ConfigParts) (a : Agent) (x : Input) (n : ℕ) (r : Range) (machine : Ip4) : Type 0 where
  pub from : ℕ
  pub seq : ℕ
  pub told : heard_in c x ≡ Some (Told (Replica from) (Grant a.boot machine seq n r.vip r.start))
  pub snat : has_snat c.vips r.vip machine ≡ true
  pub leasable : is_leasable (lease_rules_of c) r ≡ true
  pub fresh : is_old a.traffic.ranges n r ≡ false

-- these numbers are given back, one after the other
abbrev pub all_back : List ℕ → Ranges → Ranges
all_back [] p = p
all_back (n ∷ ns) p = all_back ns (given_back n p)

-- From the agent's leases to these, by an input: they are the same; a Grant was taken; some that were held were given
-- back; or a number is no longer returning.
pub data LeasesMove (c : ConfigParts) (a : Agent) (x : Input) (q : Ranges) : Type 0 where
  Stay : SameLeases a.traffic.ranges q → LeasesMove c a x q
  Takes : (n : ℕ) (r : Range) (machine : Ip4) (now : ℕ) → IsTaken c a x n r machine
      → SameLeases (granted a.traffic.ranges n r machine now).0 q → LeasesMove c a x q
  GivesBack : (ls : List (ℕ × (Range × Ip4))) → Each (λ l. In l (map lease_of a.traffic.ranges.held)) ls
      → SameLeases (all_back (map (λ l. l.0) ls) a.traffic.ranges) q → LeasesMove c a x q
  Ends : (n : ℕ) → SameLeases (returned n a.traffic.ranges) q → LeasesMove c a x q

-- What a turn does to them; it keeps the boot, and nothing is written.
pub record TurnMoves (c : ConfigParts) (a : Agent) (x : Input) (t : Turn Agent) : Type 0 where
  pub leases : LeasesMove c a x t.state.traffic.ranges
  pub boot : t.state.boot ≡ a.boot
  pub entry : t.entry ≡ None
