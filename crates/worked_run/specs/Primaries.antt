-- A primary whose log has some values, as a beginning of rows that need no election.
use Rattle.std.specs.Prelude.{ℕ, List, [], ◌∷◌, map}
use Rattle.wire_core.specs.Commands.{LogCommand, Reserve, Granted, Release, Freed, Up}
use Rattle.wire_core.specs.declared.act.Act.{Act}
use Rattle.wire_core.specs.declared.act.Act.TheVariants as act
use Rattle.wire_core.specs.declared.address.Ip4.{Ip4}
use Rattle.wire_core.specs.declared.entry.Entry.{Entry}
use Rattle.wire_core.specs.declared.entry.Entry.TheVariants.{Learn}
use Rattle.vip_config.specs.declared.parts.ConfigParts.{ConfigParts}
use Rattle.paxos_spec.specs.declared.stage.Stage.{Stage}
use Rattle.paxos_spec.specs.declared.stage.Stage.TheVariants.{Primary}
use Rattle.paxos_spec.specs.Leader.{new_leader}
use Rattle.paxos_spec.specs.Replica.{new_memory}
use Rattle.node_spec.specs.Turns.{Turn}
use Rattle.manager_spec.specs.Manager.{Manager, opened_manager}
use Rattle.worked_run.specs.Configs.{machine, vip, replica_at}
use Rattle.worked_run.specs.Replicas.{hears}

-- a log of these values, each learned at ballot 5
abbrev pub learned : List (List LogCommand) → List Entry
learned values = map (Learn 5) values

-- replica 0, primary at ballot 5, with a log of these values and nothing outstanding
abbrev pub primary : ConfigParts → List (List LogCommand) → Manager
primary c values = record (opened_manager c 0 (learned values)) {
  memory = record new_memory { leader = record new_leader { stage = Primary; ballot = 5 } };
}

-- its stage after a turn
abbrev pub stage_of : Turn Manager → Stage
stage_of t = t.state.memory.leader.stage

-- three replicas accept what is outstanding: the turn of the third
abbrev pub agreed : ConfigParts → Manager → List ℕ → Turn Manager
agreed c r accepted = hears c
    (hears c (hears c r (replica_at 0) accepted).state (replica_at 1) accepted).state
    (replica_at 2) accepted

-- ---- values

-- lease 1: reserved for the machine, granted by mux 0, given back, ended
abbrev pub reserve_1 : List LogCommand
reserve_1 = Reserve 0 1 machine 1 ∷ []

abbrev pub granted_1 : List LogCommand
granted_1 = Granted 1 (record { mux = 0; boot = 1 } ∷ []) ∷ []

abbrev pub release_1 : List LogCommand
release_1 = Release 1 ∷ []

abbrev pub freed_1 : List LogCommand
freed_1 = Freed 1 ∷ []

-- an agent's boot
abbrev pub up : ℕ → ℕ → List LogCommand
up agent boot = Up agent boot ∷ []

-- ---- acts

-- row n on the range from this port on
abbrev pub reserve_act : ℕ → ℕ → Ip4 → Act
reserve_act n start for = act.Reserve n (record { vip = vip; start = start }) for
