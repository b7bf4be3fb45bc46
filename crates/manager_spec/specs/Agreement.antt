-- What a row is to the agreement: one step of its replica, and where a proposal follows, one more.
use Rattle.std.specs.Prelude.{◌≡◌, ℕ, ◌-◌, max, if◌then◌else◌, nat_lt, nat_le, ◌==◌, List, [], ◌∷◌, ◌++◌, length, take}
use Rattle.std.specs.Prelude.{Option, Some, None}
use Rattle.std.specs.List.{flat_map}
use Rattle.wire_core.specs.Commands.{LogCommand}
use Rattle.wire_core.specs.declared.node.NodeId.{NodeId}
use Rattle.wire_core.specs.declared.node.NodeId.TheVariants.{Replica, Mux, Agent}
use Rattle.vip_config.specs.declared.parts.ConfigParts.{ConfigParts}
use Rattle.vip_config.specs.Leases.{lease_rules_of}
use Rattle.control_msg.specs.declared.message.Message.{Message}
use Rattle.control_msg.specs.declared.message.Message.TheVariants as message
use Rattle.paxos_spec.specs.declared.mail.Body.{Body}
use Rattle.paxos_spec.specs.declared.mail.Body.TheVariants as body
use Rattle.paxos_spec.specs.declared.mail.Mail.{Mail}
use Rattle.paxos_spec.specs.Acceptor.{reach, kept}
use Rattle.paxos_spec.specs.Leader.{is_primary}
use Rattle.paxos_spec.specs.Replica.{Memory, Out, quiet as still, mail, accept_out, on_message, on_campaign, on_offer}
use Rattle.node_spec.specs.Sends.{Place, ToNode, Said, Says, Send}
use Rattle.node_spec.specs.Turns.{Turn}
use Rattle.manager_spec.specs.Manager.{Manager, effects_of, act_of}
use Rattle.manager_spec.specs.Known.{peer}
use Rattle.manager_spec.specs.Leading.{led}
use Rattle.manager_spec.specs.Muxes.{see_epoch}
use Rattle.manager_spec.specs.Proposal.{first_due}

-- ---- messages of the agreement

-- one of the seven kinds by which replicas agree, as the agreement has it
abbrev pub body_in : Message → Option Body
body_in (message.Prepare ballot) = Some (body.Prepare ballot)
body_in (message.Promise ballot length vote value) = Some (body.Promise ballot length vote value)
body_in (message.Accept ballot slot value) = Some (body.Accept ballot slot value)
body_in (message.Accepted ballot slot) = Some (body.Accepted ballot slot)
body_in (message.Refuse ballot promised) = Some (body.Refuse ballot promised)
body_in (message.Chosen slot ballot value) = Some (body.Chosen slot ballot value)
body_in (message.Fetch slot) = Some (body.Fetch slot)
body_in _ = None

-- a message of the agreement from a replica to another, where it is one
abbrev pub mail_to : ℕ → ℕ → Option Body → List Mail
mail_to me to None = []
mail_to me to (Some b) = mail me b to ∷ []

-- what a replica sends to a place, of the agreement
abbrev pub mail_at : ℕ → Place → Said → List Mail
mail_at me (ToNode (Replica i)) (Says m) = mail_to me i (body_in m)
mail_at me _ _ = []

-- The messages of the agreement among what a replica sends.
unfoldable pub mails_in : ℕ → List Send → List Mail
mails_in me xs = flat_map (λ (x : Send). mail_at me x.to x.said) xs

-- ---- which step

-- a message of the agreement is a step of it; any other changes nothing of it
abbrev pub body_step : Manager → ℕ → Option Body → Out
body_step r from None = still r.memory
body_step r from (Some b) = on_message r.index r.acceptor r.memory from b

-- of a replica: a message of the agreement, or a Lead
abbrev pub replica_step : Manager → ℕ → Message → Out
replica_step r from (message.Lead ballot length) = led r from ballot length
replica_step r from m = body_step r from (body_in m)

-- of a mux: the epoch that it tells was heard of, where it isn't of an earlier boot
abbrev pub mux_memory : Manager → ℕ → Message → Memory
mux_memory r mux (message.MuxHello boot epoch) =
    if nat_lt boot (peer r mux).boot then r.memory else see_epoch r.memory epoch
mux_memory r mux (message.MuxRefuse epoch boot kept) = see_epoch r.memory kept
mux_memory r mux _ = r.memory

-- The step of the agreement that a message of a node is.
abbrev pub message_step : Manager → NodeId → Message → Out
message_step r (Replica from) m = replica_step r from m
message_step r (Mux from) m = still (mux_memory r from m)
message_step r (Agent from) m = still r.memory

-- The step of the agreement that a tick is: what is outstanding is told again, or a candidacy, or nothing.
abbrev pub tick_step : ConfigParts → Manager → ℕ → Out
tick_step cfg r now =
    if is_primary r.memory.leader.stage
    then record { entry = None; memory = r.memory; sends = accept_out r.index (reach r.acceptor) r.memory.leader }
    else if nat_le cfg.timers.lead_silent (max r.time now - r.heard) then on_campaign r.index r.acceptor r.memory
    else still r.memory

-- the value that is proposed: the first 16 of what is due and of the queue
abbrev pub proposed : ConfigParts → Manager → List LogCommand
proposed cfg r = first_due cfg r ++ take (16 - length (first_due cfg r)) r.queue

-- The step of the agreement that a proposal is: the value is offered, where there is one.
abbrev pub proposal_step : ConfigParts → Manager → Out
proposal_step cfg r =
    if length (proposed cfg r) == 0 then still r.memory
    else on_offer r.index r.acceptor r.memory (proposed cfg r)

-- ---- a turn as a step

-- A turn is this step of the agreement: its entry, its memory and its messages are the step's; the log follows the
-- entry, and the acts are those of what was learned.
pub record IsStep (cfg : ConfigParts) (r : Manager) (t : Turn Manager) (o : Out) : Type 0 where
  pub index : t.state.index ≡ r.index
  pub acceptor : t.state.acceptor ≡ kept r.acceptor o.entry
  pub memory : t.state.memory ≡ o.memory
  pub entry : t.entry ≡ o.entry
  pub acts : t.acts ≡ flat_map act_of (effects_of (lease_rules_of cfg) r.acceptor o.entry)
  pub mails : mails_in r.index t.sends ≡ o.sends
