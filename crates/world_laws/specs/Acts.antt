-- The acts that a run shows: those of the managers are what the commands of the log did.
use Rattle.std.specs.Prelude.{◌≡◌, Bool, true, false, List, filter, length, drop}
use Rattle.std.specs.List.{flat_map}
use Rattle.wire_core.specs.declared.act.Act.{Act}
use Rattle.wire_core.specs.declared.act.Act.TheVariants as act
use Rattle.vip_config.specs.Leases.{lease_rules_of}
use Rattle.vip_config.specs.declared.parts.ConfigParts.{ConfigParts}
use Rattle.lease_spec.specs.declared.effect.Effect.{Effect}
use Rattle.lease_spec.specs.Places.{commands_from}
use Rattle.lease_spec.specs.Table.{apply}
use Rattle.manager_spec.specs.Manager.{act_of}
use Rattle.paxos_spec.specs.Votes.{Value}
use Rattle.world_spec.specs.World.{World}
use Rattle.world_laws.specs.Living.{done}
use Rattle.world_laws.specs.Log.{book, log}

-- an act of the managers: a lease is reserved, granted, given back or gone; all others are acts of agents
abbrev pub is_managers : Act → Bool
is_managers (act.Reserve n range machine) = true
is_managers (act.Grant n) = true
is_managers (act.Free n) = true
is_managers (act.Freed n) = true
is_managers (act.Hold n) = false
is_managers (act.Drop n) = false
is_managers (act.Open c) = false
is_managers (act.Close c) = false
is_managers (act.Lose agent) = false
is_managers (act.Hand machine bytes) = false

-- the acts of the managers among these, in their order
unfoldable pub managers_acts : List Act → List Act
managers_acts acts = filter is_managers acts

-- the values by which the log grew
abbrev pub new_values : World → World → List Value
new_values w u = drop (length (log w)) (log u)

-- what values do behind the log: their commands at their places, on top of the book
abbrev pub done_by : ConfigParts → World → List Value → List Effect
done_by cfg w values = (apply (lease_rules_of cfg) (commands_from (length (log w)) values) (book cfg w)).effects

-- An event shows, of the managers, what the values by which the log grew do; where it didn't grow, nothing.
abbrev pub ShowsWhatGrew : ConfigParts → World → World → List Act → Type 0
ShowsWhatGrew cfg w u acts = managers_acts acts ≡ flat_map act_of (done_by cfg w (new_values w u))

-- The acts of the managers are what the log's commands did, in the log's order.
abbrev pub ActsAreOfLog : ConfigParts → World → List Act → Type 0
ActsAreOfLog cfg w acts = managers_acts acts ≡ flat_map act_of (done cfg w)
