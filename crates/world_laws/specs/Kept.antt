-- What becomes of a lease that was acknowledged: it isn't forgotten.
use Rattle.std.specs.Prelude.{◌≡◌, ◌<◌, ℕ}
use Rattle.wire_core.specs.Members.{In}
use Rattle.wire_core.specs.Ranges.{range_at}
use Rattle.wire_core.specs.declared.address.Ip4.{Ip4}
use Rattle.wire_core.specs.declared.node.NodeId.TheVariants.{Replica, Agent}
use Rattle.wire_core.specs.declared.range.Range.{Range}
use Rattle.vip_config.specs.declared.parts.ConfigParts.{ConfigParts}
use Rattle.control_msg.specs.declared.message.Message.TheVariants.{Grant}
use Rattle.lease_spec.specs.declared.row.Phase.TheVariants.{Leased}
use Rattle.lease_spec.specs.declared.row.Row.{Row}
use Rattle.world_spec.specs.Shapes.{Said}
use Rattle.world_spec.specs.World.{World}
use Rattle.world_laws.specs.Agents.{HasReturned, agent_boot}
use Rattle.world_laws.specs.Log.{book}

-- A lease that an agent was granted in this boot: the agent gave it back in that boot; or it has run in a later boot
-- since; or the book has it Leased, on that range, to that machine and to the agent in that boot.
pub data IsKept (cfg : ConfigParts) (w : World) (agent boot n : ℕ) (range : Range) (machine : Ip4) : Type 0 where
  GaveItBack : (returned : HasReturned w agent boot n) → IsKept cfg w agent boot n range machine
  RanAgain : (later : boot < agent_boot w agent) → IsKept cfg w agent boot n range machine
  StaysLeased : (row : Row) → (there : In row (book cfg w).rows) → (number : row.n ≡ n) → (range_is : row.range ≡ range)
      → (machine_is : row.machine ≡ machine) → (agent_is : row.agent ≡ agent) → (boot_is : row.boot ≡ boot)
      → (phase : row.phase ≡ Leased) → IsKept cfg w agent boot n range machine

-- No acknowledged lease is forgotten: this is so of each Grant that a replica ever sent.
abbrev pub GrantsAreKept : ConfigParts → World → Type 0
GrantsAreKept cfg w =
    (replica agent boot : ℕ) (machine : Ip4) (seq n : ℕ) (vip : Ip4) (start : ℕ)
    → Said w (Replica replica) (Agent agent) (Grant boot machine seq n vip start)
    → IsKept cfg w agent boot n (range_at vip start) machine
