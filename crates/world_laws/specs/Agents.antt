-- What an agent holds and what it gave back, against the log.
use Rattle.std.specs.Prelude.{◌≡◌, ◌≢◌, ℕ, ◌≤◌, List, map}
use Rattle.wire_core.specs.Members.{In, Each}
use Rattle.wire_core.specs.declared.address.Ip4.{Ip4}
use Rattle.wire_core.specs.declared.node.NodeId.{NodeId}
use Rattle.wire_core.specs.declared.node.NodeId.TheVariants.{Replica, Mux, Agent}
use Rattle.wire_core.specs.declared.range.Range.{Range}
use Rattle.vip_config.specs.declared.parts.ConfigParts.{ConfigParts}
use Rattle.control_msg.specs.declared.message.Message.TheVariants.{Ask, AgentUp, Return}
use Rattle.node_spec.specs.Boots.{boot_of}
use Rattle.node_spec.specs.Sends.{Said, Says, Carries}
use Rattle.agent_spec.specs.Agent.{Agent as AgentLists}
use Rattle.agent_spec.specs.Footprints.{HeldApart, lease_of}
use Rattle.agent_spec.specs.Keys.{KeysApart}
use Rattle.agent_spec.specs.Ranges.{Ranges, kept_at}
use Rattle.agent_spec.specs.Through.{ConnsAreHeld}
use Rattle.world_spec.specs.Nodes.{Lists, OfManager, OfMux, OfAgent}
use Rattle.world_spec.specs.Shapes.{Said as WasSaid}
use Rattle.world_spec.specs.World.{World, Sent, disk}
use Rattle.world_laws.specs.Grants.{IsLease}

-- ---- of each datagram

-- some range and machine are those of the number's lease
pub record IsOwn (cfg : ConfigParts) (w : World) (agent boot n : ℕ) : Type 0 where
  pub range : Range
  pub machine : Ip4
  pub lease : IsLease cfg w agent boot n range machine

-- the greatest boot that an agent had
abbrev pub agent_boot : World → ℕ → ℕ
agent_boot w agent = boot_of (disk w (Agent agent))

-- An agent tells of boots that it had, and gives back leases of its own of that boot.
abbrev pub IsOfOwnBoot : ConfigParts → World → ℕ → Said → Type 0
IsOfOwnBoot cfg w agent (Says (Ask boot machine seq)) = boot ≤ agent_boot w agent
IsOfOwnBoot cfg w agent (Says (AgentUp boot)) = boot ≤ agent_boot w agent
IsOfOwnBoot cfg w agent (Says (Return boot n)) = (boot ≤ agent_boot w agent) × IsOwn cfg w agent boot n
IsOfOwnBoot cfg w agent (Says _) = ⊥
IsOfOwnBoot cfg w agent (Carries packet) = Unit {0}

-- the same, where an agent sent it
abbrev pub IsOwnSaying : ConfigParts → World → NodeId → Said → Type 0
IsOwnSaying cfg w (Replica i) said = Unit {0}
IsOwnSaying cfg w (Mux i) said = Unit {0}
IsOwnSaying cfg w (Agent agent) said = IsOfOwnBoot cfg w agent said

abbrev pub AgentsTellTheirOwn : ConfigParts → World → Sent → Type 0
AgentsTellTheirOwn cfg w s = IsOwnSaying cfg w s.from s.said

-- ---- of an agent's ranges, where Own says which numbers are leases, and Back which were given back

-- a number that was given back: it is a lease on a range whose kept number isn't below it, and isn't held
pub record IsBack (Own : ℕ → Range → Ip4 → Type 0) (p : Ranges) (n : ℕ) : Type 0 where
  pub range : Range
  pub machine : Ip4
  pub own : Own n range machine
  pub kept : n ≤ kept_at p.kept range
  pub left : Each (λ l. l.0 ≢ n) (map lease_of p.held)

-- Each held number is a lease on its range to its machine, and isn't above the range's kept number; each number that is
-- returning or was given back stays away.
pub record RangesAre (Own : ℕ → Range → Ip4 → Type 0) (Back : ℕ → Type 0) (p : Ranges) : Type 0 where
  pub held : Each (λ l. Own l.0 l.1.0 l.1.1 × (l.0 ≤ kept_at p.kept l.1.0)) (map lease_of p.held)
  pub returning : Each (IsBack Own p) p.returning
  pub back : (n : ℕ) → Back n → IsBack Own p n

-- ---- of each agent that is up

-- the agent sent a Return of the number in this boot
pub record HasReturned (w : World) (agent boot n : ℕ) : Type 0 where
  pub to : NodeId
  pub sent : WasSaid w (Agent agent) to (Return boot n)

-- An agent runs in the boot of its disk; its ranges are those of the log; and its connections go through them, no two
-- with one key.
pub record AgentIsRight (cfg : ConfigParts) (w : World) (agent : ℕ) (a : AgentLists) : Type 0 where
  pub boot : a.boot ≡ agent_boot w agent
  pub ranges : RangesAre (IsLease cfg w agent a.boot) (HasReturned w agent a.boot) a.traffic.ranges
  pub apart : HeldApart a.traffic.ranges
  pub keys : KeysApart a.traffic.conns
  pub through : ConnsAreHeld cfg a.traffic.conns a.traffic.ranges.held

abbrev pub AgentsAreRight : ConfigParts → World → NodeId → Lists → Type 0
AgentsAreRight cfg w (Agent agent) (OfAgent a) = AgentIsRight cfg w agent a
AgentsAreRight cfg w (Agent agent) (OfManager m) = ⊥
AgentsAreRight cfg w (Agent agent) (OfMux m) = ⊥
AgentsAreRight cfg w (Replica i) l = Unit {0}
AgentsAreRight cfg w (Mux i) l = Unit {0}
