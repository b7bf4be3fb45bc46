-- How callers see a manager, and what a row leaves of it.
use Rattle.std.specs.Prelude.{◌<◌, Bool}
use Rattle.wire_core.specs.Steps.{no_step}
use Rattle.wire_core.specs.declared.step.Step.{Step}
use Rattle.vip_config.specs.declared.parts.ConfigParts.{ConfigParts}
use Rattle.vip_config.specs.declared.who.Who.{Who}
use Rattle.vip_config.specs.declared.who.Who.TheVariants as who
use Rattle.paxos_spec.specs.Acceptor.{kept}
use Rattle.paxos_spec.specs.Events.{Replica}
use Rattle.paxos_spec.specs.Replica.{Out}
use Rattle.node_spec.specs.Turns.{Turn}
use Rattle.node_spec.specs.Steps.{turned}
use Rattle.manager_spec.specs.Manager.{Manager}
use Rattle.manager_spec.specs.Proposal.{Half}
use Rattle.manager_core.specs.declared.half.Half.{Half as CodeHalf}

-- A manager: the configuration, its lists, and whether no call found no memory in its midst.
pub record Core : Type 0 where
  pub config : ConfigParts
  pub lists : Manager
  pub sound : Bool

-- the same, with other lists
abbrev pub with_lists : Core → Manager → Core
with_lists core lists = record core { lists = lists }

-- its part in the agreement
abbrev pub part : Manager → Replica
part r = record { acceptor = r.acceptor; memory = r.memory }

-- after a step of the agreement's replica
abbrev pub stepped : Manager → Out → Manager
stepped r o = record r { acceptor = kept r.acceptor o.entry; memory = o.memory }

-- what a turn leaves, and its step
abbrev pub taken : Core → Turn Manager → Core × Step
taken core t = turned (with_lists core) core.config no_step t

-- What a row leaves, with its step before the proposal.
unfoldable pub halved : Core → Half → Core × CodeHalf
halved core h = ((taken core h.turn).0, record { step = (taken core h.turn).1; proposes = h.proposes })

-- a replica's number is one of the five
abbrev pub IsBelowFive : Who → Type 0
IsBelowFive (who.Replica i) = i < 5
IsBelowFive (who.Mux i) = Unit {0}
IsBelowFive (who.Agent i) = Unit {0}
IsBelowFive (who.Machine address) = Unit {0}
IsBelowFive who.Outside = Unit {0}
