-- What a turn of a replica is to the agreement: one step that shows what it owes.
use Rattle.std.specs.Prelude.{◌≡◌, ℕ, Contains, Option, Some}
use Rattle.std.specs.List.{flat_map}
use Rattle.wire_core.specs.declared.node.NodeId.TheVariants.{Replica}
use Rattle.vip_config.specs.declared.parts.ConfigParts.{ConfigParts}
use Rattle.vip_config.specs.Leases.{lease_rules_of}
use Rattle.paxos_spec.specs.declared.mail.Body.{Body}
use Rattle.paxos_spec.specs.Votes.{Value}
use Rattle.paxos_spec.specs.Acceptor.{kept}
use Rattle.paxos_spec.specs.Replica.{Out, mail}
use Rattle.paxos_spec.specs.Agreement.{View}
use Rattle.paxos_laws.specs.Steps.{GoodOut, Here}
use Rattle.node_spec.specs.Turns.{Input, Turn, Arrived, Ticked}
use Rattle.node_spec.specs.Datagrams.{heard, Heard, Refused, Told, Brought}
use Rattle.manager_spec.specs.Agreement.{body_in, mails_in, proposed}
use Rattle.manager_spec.specs.Manager.{Manager, act_of, effects_of}
use Rattle.manager_spec.specs.ManagerTable.{manager_half, manager_step}

-- the lists of replica i are what the view has of it
pub record IsAt (w : View) (i : ℕ) (m : Manager) : Type 0 where
  pub index : m.index ≡ i
  pub acceptor : m.acceptor ≡ (w.disk i).state
  pub memory : m.memory ≡ w.memory i

-- before a turn: all is in order, and the lists are what the view has of them
pub record Stands (w : View) (i : ℕ) (m : Manager) : Type 0 where
  pub here : Here w i
  pub at : IsAt w i m

-- a turn as a step of the agreement
abbrev pub out_of : Manager → Turn Manager → Out
out_of m t = record { entry = t.entry; memory = t.state.memory; sends = mails_in m.index t.sends }

-- A turn of replica i is one step that shows what it owes, in which f may be offered. Its log follows its entry, and
-- its acts are those of what it learned.
pub record GoodTurn
    (cfg : ConfigParts)
    (f : Option Value)
    (w : View)
    (i : ℕ)
    (m : Manager)
    (t : Turn Manager) : Type 0 where
  pub index : t.state.index ≡ i
  pub acceptor : t.state.acceptor ≡ kept m.acceptor t.entry
  pub acts : t.acts ≡ flat_map act_of (effects_of (lease_rules_of cfg) m.acceptor t.entry)
  pub good : GoodOut f w i (out_of m t)

-- a whole turn: what is offered in it is what the lists before its proposal give
pub record IsGood (cfg : ConfigParts) (w : View) (i : ℕ) (m : Manager) (input : Input) : Type 0 where
  pub offered : Option Value
  pub turn : GoodTurn cfg offered w i m (manager_step cfg m input)
  pub why : (v : Value) → offered ≡ Some v → v ≡ proposed cfg (manager_half cfg m input).turn.state

-- what is heard as a message of a replica was sent by it
abbrev pub WasSaid : View → ℕ → Heard → Type 0
WasSaid w i (Refused cause) = Unit {0}
WasSaid w i (Told (Replica j) m) = (b : Body) → body_in m ≡ Some b → Contains w.sent (mail j b i)
WasSaid w i (Told _ m) = Unit {0}
WasSaid w i (Brought sender packet) = Unit {0}

-- an input in which what comes from a replica was sent by it
abbrev pub IsTrue : ConfigParts → View → ℕ → Input → Type 0
IsTrue cfg w i (Arrived from bytes) = WasSaid w i (heard cfg from bytes)
IsTrue cfg w i (Ticked now) = Unit {0}

-- Whatever true input comes to a manager, its turn is one good step.
abbrev pub TurnsAreGood : Type 0
TurnsAreGood = (cfg : ConfigParts) (w : View) (i : ℕ) (m : Manager) (input : Input)
    → Stands w i m → IsTrue cfg w i input → IsGood cfg w i m input
