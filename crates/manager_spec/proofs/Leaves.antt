-- What each row leaves as it was.
use Rattle.std.proofs.Common.{◌≡◌, refl, true, ℕ, List, Option, drop, arith}
use Rattle.std.specs.Prelude.{◌==◌, ◌-◌, length}
use Rattle.wire_core.specs.declared.address.Ip4.{Ip4}
use Rattle.wire_core.specs.Commands.{LogCommand}
use Rattle.vip_config.specs.declared.parts.ConfigParts.{ConfigParts}
use Rattle.control_msg.specs.declared.message.Message.{Message}
use Rattle.lease_spec.specs.declared.row.Row.{Row}
use Rattle.lease_spec.specs.Table.{Last}
use Rattle.paxos_spec.specs.Replica.{may_propose, on_offer}
use Rattle.node_spec.specs.Turns.{quiet}
use Rattle.manager_spec.specs.Manager.{Manager, effects_of, agrees}
use Rattle.manager_spec.specs.Proposal.{first_due, filled, propose}
use Rattle.manager_spec.specs.Leading.{on_prepare, on_promise, on_refuse, on_lead}
use Rattle.manager_spec.specs.Voting.{on_accept, completes, on_accepted, on_chosen, on_fetched}
use Rattle.manager_spec.specs.Clock.{on_tick}
use Rattle.manager_spec.specs.Muxes.{on_hello, on_mux_refuse, on_ack}
use Rattle.manager_spec.specs.Agents.{enqueue, grant_again, ask_after, on_ask, on_return, on_agent_up}
use Rattle.manager_spec.specs.ManagerTable.{from_replica, from_mux, from_agent}
use Rattle.manager_spec.specs.Agreement.{proposed}
use Rattle.manager_spec.specs.Footprints.{LeavesMuxes, LeavesLog, LeavesAllButQueue, LeavesAllButOffer}
use Rattle.manager_spec.proofs.Choices.{by_if}

-- ---- replicas and the clock

pub replica_leaves : (cfg : ConfigParts) (r : Manager) (from : ℕ) (m : Message)
    → LeavesMuxes r (from_replica cfg r from m).turn
unfolding on_prepare on_promise on_accept on_accepted completes on_refuse on_chosen on_fetched on_lead agrees
replica_leaves cfg r from m = grind arith

pub tick_leaves : (cfg : ConfigParts) (r : Manager) (now : ℕ) → LeavesMuxes r (on_tick cfg r now).turn
unfolding on_tick agrees
tick_leaves cfg r now = grind arith

-- ---- muxes

pub mux_leaves : (cfg : ConfigParts) (r : Manager) (mux : ℕ) (m : Message) → LeavesLog r (from_mux cfg r mux m).turn
unfolding on_hello on_mux_refuse on_ack
mux_leaves cfg r mux m = grind arith

-- ---- agents

enqueue_leaves : (r : Manager) (c : LogCommand) → LeavesAllButQueue r (enqueue r c).turn
unfolding enqueue
enqueue_leaves r c = grind arith

grant_leaves : (r : Manager) (o : Option Row) → LeavesAllButQueue r (grant_again r o).turn
grant_leaves r o = grind arith

after_leaves : (cfg : ConfigParts) (r : Manager) (agent boot : ℕ) (machine : Ip4) (seq : ℕ) (o : Option Last)
    → LeavesAllButQueue r (ask_after cfg r agent boot machine seq o).turn
unfolding ask_after
after_leaves cfg r agent boot machine seq o = grind (arith, enqueue_leaves, grant_leaves)

ask_leaves : (cfg : ConfigParts) (r : Manager) (agent boot : ℕ) (machine : Ip4) (seq : ℕ)
    → LeavesAllButQueue r (on_ask cfg r agent boot machine seq).turn
unfolding on_ask
ask_leaves cfg r agent boot machine seq = grind (arith, after_leaves)

return_leaves : (cfg : ConfigParts) (r : Manager) (agent boot n : ℕ)
    → LeavesAllButQueue r (on_return cfg r agent boot n).turn
unfolding on_return
return_leaves cfg r agent boot n = grind (arith, enqueue_leaves)

up_leaves : (cfg : ConfigParts) (r : Manager) (agent boot : ℕ) → LeavesAllButQueue r (on_agent_up cfg r agent boot).turn
unfolding on_agent_up
up_leaves cfg r agent boot = grind (arith, enqueue_leaves)

pub agent_leaves : (cfg : ConfigParts) (r : Manager) (agent : ℕ) (m : Message)
    → LeavesAllButQueue r (from_agent cfg r agent m).turn
agent_leaves cfg r agent m = grind (arith, ask_leaves, return_leaves, up_leaves)

-- ---- the proposal

quiet_leaves : (r : Manager) → LeavesAllButOffer r (quiet r)
quiet_leaves r = record {
  index = refl;
  acceptor = refl;
  muxes = refl;
  acks = refl;
  time = refl;
  heard = refl;
  entry = refl;
  acts = refl;
  notes = refl;
}

offer_leaves : (cfg : ConfigParts) (r : Manager) (v rest : List LogCommand)
    → may_propose r.acceptor r.memory.leader ≡ true
    → LeavesAllButOffer r (agrees cfg (record r { queue = rest }) (on_offer r.index r.acceptor r.memory v))
unfolding agrees on_offer effects_of
offer_leaves cfg r v rest e = rw e (record {
  index = refl;
  acceptor = refl;
  muxes = refl;
  acks = refl;
  time = refl;
  heard = refl;
  entry = refl;
  acts = refl;
  notes = refl;
})

pub proposal_leaves : (cfg : ConfigParts) (r : Manager) → LeavesAllButOffer r (propose cfg r)
unfolding propose
proposal_leaves cfg r = by_if (LeavesAllButOffer r) (may_propose r.acceptor r.memory.leader)
    {x = filled cfg r (first_due cfg r)} {y = quiet r}
    (λ e. by_if (LeavesAllButOffer r) (length (proposed cfg r) == 0) {x = quiet r} (λ _. quiet_leaves r)
    (λ _. offer_leaves cfg r (proposed cfg r) (drop (16 - length (first_due cfg r)) r.queue) e))
    (λ _. quiet_leaves r)
