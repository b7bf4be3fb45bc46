-- What fits its width: numbers of 64 bits, values of 1 to 16 commands, replicas below five.
use Rattle.std.specs.Prelude.{◌≡◌, ℕ, ◌+◌, ◌<◌, ◌≤◌, List, [], ◌∷◌, length, Option, Some, None}
use Rattle.wire_core.specs.Commands.{IsValue, IsAllowed}
use Rattle.wire_core.specs.Members.{Each}
use Rattle.wire_core.specs.declared.entry.Entry.{Entry}
use Rattle.wire_core.specs.declared.entry.Entry.TheVariants as entry
use Rattle.control_msg.specs.Messages.{IsMessage, IsNumber}
use Rattle.vip_config.specs.declared.parts.ConfigParts.{ConfigParts}
use Rattle.paxos_spec.specs.declared.cast.Cast.{Cast}
use Rattle.paxos_spec.specs.declared.mail.Mail.{Mail}
use Rattle.paxos_spec.specs.Votes.{Value}
use Rattle.paxos_spec.specs.Acceptor.{AcceptorState, reach, most_slots}
use Rattle.paxos_spec.specs.Leader.{Tally, LeaderState, value_out}
use Rattle.paxos_spec.specs.Replica.{Memory, Out}
use Rattle.manager_spec.specs.declared.peer.Peer.{Peer}
use Rattle.manager_spec.specs.Manager.{Manager, message_of}

-- ---- of the agreement

-- a value, where there is one
abbrev pub MayFit : Option Value → Type 0
MayFit None = Unit {0}
MayFit (Some v) = IsValue v

-- a vote: one of ballot 0 is none
pub record VoteFits (x : Cast) : Type 0 where
  pub ballot : IsNumber x.ballot
  pub value : 0 < x.ballot → IsValue x.value

-- what was learned
abbrev pub CastFits : Cast → Type 0
CastFits x = IsNumber x.ballot × IsValue x.value

pub record AcceptorFits (a : AcceptorState) : Type 0 where
  pub promise : IsNumber a.promise
  pub vote : VoteFits a.vote
  pub log : Each CastFits a.log
  pub room : reach a ≤ most_slots

-- a length above 0 was told by one of the five
pub record TallyFits (t : Tally) : Type 0 where
  pub source : 0 < t.longest → t.source < 5
  pub best : VoteFits t.best

pub record LeaderFits (l : LeaderState) : Type 0 where
  pub ballot : IsNumber l.ballot
  pub tally : TallyFits l.tally
  pub pending : MayFit l.pending
  pub out : MayFit (value_out l.out)

pub record MemoryFits (m : Memory) : Type 0 where
  pub leader : LeaderFits m.leader
  pub guide : m.guide < 5

abbrev pub EntryFits : Entry → Type 0
EntryFits (entry.Boot version role index boot) = Unit {0}
EntryFits (entry.Promise ballot) = IsNumber ballot
EntryFits (entry.Vote ballot value) = IsNumber ballot × IsValue value
EntryFits (entry.Learn ballot value) = IsNumber ballot × IsValue value
EntryFits (entry.Epoch epoch) = Unit {0}

abbrev pub KeptFits : Option Entry → Type 0
KeptFits None = Unit {0}
KeptFits (Some e) = EntryFits e

-- to one of the five, and each field within its width
abbrev pub MailFits : Mail → Type 0
MailFits x = (x.target < 5) × IsMessage (message_of x.body)

pub record OutFits (o : Out) : Type 0 where
  pub entry : KeptFits o.entry
  pub memory : MemoryFits o.memory
  pub sends : Each MailFits o.sends

-- ---- of a replica

-- the muxes from a number on, each with a boot
abbrev pub PeersFit : ℕ → List Peer → Type 0
PeersFit i [] = Unit {0}
PeersFit i (p ∷ ps) = (p.mux ≡ i) × IsNumber p.boot × PeersFit (i + 1) ps

-- The lists of a replica: of the agreement, of what waits, and of the configured muxes.
pub record ManagerFits (cfg : ConfigParts) (m : Manager) : Type 0 where
  pub acceptor : AcceptorFits m.acceptor
  pub memory : MemoryFits m.memory
  pub queue : Each IsAllowed m.queue
  pub muxes : PeersFit 0 m.muxes
  pub count : length m.muxes ≡ length cfg.muxes
