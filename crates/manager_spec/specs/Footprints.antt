-- What each row leaves as it was.
use Rattle.std.specs.Prelude.{true, ◌≡◌, ◌⊎◌, [], None}
use Rattle.wire_core.specs.Members.{Each}
use Rattle.wire_core.specs.declared.cause.DropCause.{DropCause}
use Rattle.wire_core.specs.declared.node.NodeId.TheVariants.{Agent}
use Rattle.paxos_spec.specs.Leader.{is_follower}
use Rattle.node_spec.specs.Sends.{Place, Send, ToNode}
use Rattle.node_spec.specs.Turns.{Turn}
use Rattle.manager_spec.specs.Manager.{Manager}
use Rattle.manager_spec.specs.Proposal.{Half}
use Rattle.manager_spec.specs.ManagerTable.{refuses}

-- A row drops the input, and then it does nothing else: the lists stay and no proposal follows; or it notes nothing.
abbrev pub DropsOrNot : Manager → Half → Type 0
DropsOrNot r h = (h.turn.notes ≡ []) ⊎ ((cause : DropCause) × (h ≡ refuses r cause))

-- What a message of a replica leaves, and a tick: what is known of muxes; no request is queued.
pub record LeavesMuxes (r : Manager) (t : Turn Manager) : Type 0 where
  pub index : t.state.index ≡ r.index
  pub muxes : t.state.muxes ≡ r.muxes

-- What a message of a mux leaves: the log and the clock; nothing is written, done or said.
pub record LeavesLog (r : Manager) (t : Turn Manager) : Type 0 where
  pub index : t.state.index ≡ r.index
  pub acceptor : t.state.acceptor ≡ r.acceptor
  pub time : t.state.time ≡ r.time
  pub heard : t.state.heard ≡ r.heard
  pub entry : t.entry ≡ None
  pub acts : t.acts ≡ []
  pub sends : t.sends ≡ []

-- the place is an agent's
abbrev pub IsToAgent : Place → Type 0
IsToAgent (ToNode (Agent agent)) = Unit {0}
IsToAgent _ = ⊥

-- What a message of an agent leaves: all but the queue; nothing is written or done, and what is said is said to agents.
pub record LeavesAllButQueue (r : Manager) (t : Turn Manager) : Type 0 where
  pub state : t.state ≡ record r { queue = t.state.queue }
  pub entry : t.entry ≡ None
  pub acts : t.acts ≡ []
  pub sends : Each (λ (x : Send). IsToAgent x.to) t.sends

-- What a proposal leaves: all but the queue and what is outstanding; nothing is written, done or noted.
pub record LeavesAllButOffer (r : Manager) (t : Turn Manager) : Type 0 where
  pub index : t.state.index ≡ r.index
  pub acceptor : t.state.acceptor ≡ r.acceptor
  pub muxes : t.state.muxes ≡ r.muxes
  pub acks : t.state.acks ≡ r.acks
  pub time : t.state.time ≡ r.time
  pub heard : t.state.heard ≡ r.heard
  pub entry : t.entry ≡ None
  pub acts : t.acts ≡ []
  pub notes : t.notes ≡ []

-- A follower has no acknowledgements and no queue.
abbrev pub Rests : Manager → Type 0
Rests r = is_follower r.memory.leader.stage ≡ true → (r.acks ≡ []) × (r.queue ≡ [])
