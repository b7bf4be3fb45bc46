-- A replica of the managers: what it keeps, and a step of the agreement as a turn.
use Rattle.std.specs.Prelude.{ℕ, ◌+◌, if◌then◌else◌, List, [], ◌∷◌, map, Option, Some, is_some}
use Rattle.std.specs.List.{flat_map}
use Rattle.wire_core.specs.Commands.{LogCommand}
use Rattle.wire_core.specs.declared.act.Act.{Act}
use Rattle.wire_core.specs.declared.act.Act.TheVariants as act
use Rattle.wire_core.specs.declared.address.Socket.{Socket}
use Rattle.wire_core.specs.declared.entry.Entry.{Entry}
use Rattle.wire_core.specs.declared.entry.Entry.TheVariants as entry
use Rattle.wire_core.specs.declared.node.NodeId.TheVariants.{Replica}
use Rattle.wire_core.specs.declared.rules.LeaseRules.{LeaseRules}
use Rattle.vip_config.specs.declared.parts.ConfigParts.{ConfigParts}
use Rattle.vip_config.specs.Leases.{lease_rules_of}
use Rattle.lease_spec.specs.declared.effect.Effect.{Effect}
use Rattle.lease_spec.specs.declared.effect.Effect.TheVariants as effect
use Rattle.lease_spec.specs.Places.{slot_commands}
use Rattle.lease_spec.specs.Table.{Leases, table, apply}
use Rattle.control_msg.specs.declared.message.Message.{Message}
use Rattle.control_msg.specs.declared.message.Message.TheVariants as message
use Rattle.paxos_spec.specs.declared.cast.Cast.{Cast}
use Rattle.paxos_spec.specs.declared.mail.Body.{Body}
use Rattle.paxos_spec.specs.declared.mail.Body.TheVariants as body
use Rattle.paxos_spec.specs.declared.mail.Mail.{Mail}
use Rattle.paxos_spec.specs.Acceptor.{AcceptorState, reach, kept, state_of}
use Rattle.paxos_spec.specs.Leader.{is_follower}
use Rattle.paxos_spec.specs.Replica.{Memory, new_memory, Out}
use Rattle.manager_spec.specs.declared.peer.Peer.{Peer}
use Rattle.manager_spec.specs.declared.marks.Marks.{Marks}
use Rattle.node_spec.specs.Sends.{Send, tell}
use Rattle.node_spec.specs.Turns.{Turn}

-- The lists of a replica.
pub record Manager : Type 0 where
  pub index : ℕ
  pub acceptor : AcceptorState  -- what its entries say: the promise, the vote and the log
  pub memory : Memory  -- the stage with its ballot, what is outstanding, `seen` and the goal
  pub acks : List (ℕ × Marks)  -- by n, which muxes acknowledged the row
  pub queue : List LogCommand  -- what agents asked for and wasn't proposed yet
  pub muxes : List Peer  -- by the mux's number
  pub time : ℕ
  pub heard : ℕ  -- when it last heard of a leader

-- ---- opening

-- each configured mux, of which nothing is known
abbrev pub new_peers : ℕ → List Socket → List Peer
new_peers i [] = []
new_peers i (s ∷ ss) = record { mux = i; boot = 0; heard_at = 0 } ∷ new_peers (i + 1) ss

-- A replica as it opens: what its entries say, and else nothing.
unfoldable pub opened_manager : ConfigParts → ℕ → List Entry → Manager
opened_manager cfg index entries = record {
  index = index;
  acceptor = state_of entries;
  memory = new_memory;
  acks = [];
  queue = [];
  muxes = new_peers 0 cfg.muxes;
  time = 0;
  heard = 0;
}

-- ---- the lease table of its log

-- the values of a log
abbrev pub values_of : AcceptorState → List (List LogCommand)
values_of a = map (λ (x : Cast). x.value) a.log

-- the table that a log leaves
unfoldable pub leases_of : LeaseRules → AcceptorState → Leases
leases_of rules a = table rules (values_of a)

-- The table of a replica's log.
abbrev pub leases : ConfigParts → Manager → Leases
leases cfg r = leases_of (lease_rules_of cfg) r.acceptor

-- What an entry does to the table: a value that is learned does what its commands do at their places.
unfoldable pub effects_of : LeaseRules → AcceptorState → Option Entry → List Effect
effects_of rules a (Some (entry.Learn ballot value)) =
    (apply rules (slot_commands (reach a) value) (leases_of rules a)).effects
effects_of rules a _ = []

-- the act of an effect; what left no row and a boot that became known are no acts
abbrev pub act_of : Effect → List Act
act_of (effect.Reserved row) = act.Reserve row.n row.range row.machine ∷ []
act_of (effect.Exhausted machine boot seq place) = []
act_of (effect.AtLimit machine boot seq count) = []
act_of (effect.Granted row) = act.Grant row.n ∷ []
act_of (effect.Released row) = act.Free row.n ∷ []
act_of (effect.Freed row) = act.Freed row.n ∷ []
act_of (effect.Known agent boot) = []
act_of (effect.Cleared row) = act.Free row.n ∷ []

-- ---- the agreement

-- what a replica of the agreement says, as a message
abbrev pub message_of : Body → Message
message_of (body.Prepare ballot) = message.Prepare ballot
message_of (body.Promise ballot length vote value) = message.Promise ballot length vote value
message_of (body.Accept ballot slot value) = message.Accept ballot slot value
message_of (body.Accepted ballot slot) = message.Accepted ballot slot
message_of (body.Refuse ballot promised) = message.Refuse ballot promised
message_of (body.Chosen slot ballot value) = message.Chosen slot ballot value
message_of (body.Fetch slot) = message.Fetch slot

-- the same, to the replica that it is for
abbrev pub mailed : Mail → Send
mailed x = tell (Replica x.target) (message_of x.body)

-- A follower has no acknowledgements and no queue: they end with its lead.
abbrev pub rested : Manager → Manager
rested r = record r {
  acks = if is_follower r.memory.leader.stage then [] else r.acks;
  queue = if is_follower r.memory.leader.stage then [] else r.queue;
}

-- A step of the agreement as a turn: its entry, its messages, and the acts of what was learned.
unfoldable pub agrees : ConfigParts → Manager → Out → Turn Manager
agrees cfg r o = record {
  state = rested (record r { acceptor = kept r.acceptor o.entry; memory = o.memory });
  entry = o.entry;
  acts = flat_map act_of (effects_of (lease_rules_of cfg) r.acceptor o.entry);
  notes = [];
  sends = map mailed o.sends;
}

-- A turn that wrote something has heard of a leader.
abbrev pub hears : Turn Manager → Turn Manager
hears t = record t { state = record t.state { heard = if is_some t.entry then t.state.time else t.state.heard } }
