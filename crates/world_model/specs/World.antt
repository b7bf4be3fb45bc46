-- All nodes together with all datagrams that they sent, and what each event makes of them, whatever decides in the
-- nodes (C).
use Rattle.std.specs.Prelude.{ℕ, zero, suc, Bool, if◌then◌else◌, nat_lt, List, [], ◌∷◌, ◌++◌, map, length, Option, Some, None, is_some}
use Rattle.wire_core.specs.declared.act.Act.{Act}
use Rattle.wire_core.specs.declared.node.NodeId.{NodeId}
use Rattle.wire_core.specs.declared.node.NodeId.TheVariants.{Replica, Mux, Agent}
use Rattle.wire_core.specs.declared.outgoing.Outgoing.{Outgoing}
use Rattle.vip_config.specs.declared.parts.ConfigParts.{ConfigParts}
use Rattle.vip_config.specs.declared.who.Who.{Who}
use Rattle.vip_config.specs.declared.who.Who.TheVariants as who
use Rattle.vip_config.specs.Queries.{socket_of, who_of}
use Rattle.schedule_text.specs.declared.event.Event.{Event}
use Rattle.schedule_text.specs.declared.event.Event.TheVariants as event
use Rattle.schedule_text.specs.declared.event.Single.{Single}
use Rattle.schedule_text.specs.declared.event.Single.TheVariants.{Deliver, Inject, Tick, Restart}
use Rattle.schedule_text.specs.declared.line.Line.{Line}
use Rattle.schedule_text.specs.declared.line.Line.TheVariants as line
use Rattle.schedule_text.specs.declared.line.Word.{Word}
use Rattle.schedule_text.specs.declared.line.Word.TheVariants.{NotYet, Outside, Down, Up, Other}
use Rattle.node_spec.specs.Turns.{Input, Arrived, Ticked}
use Rattle.world_spec.specs.Acts.{loss}
use Rattle.world_spec.specs.Steps.{act_lines, home, note_lines, sent_lines}
use Rattle.world_spec.specs.World.{same_node}
use Rattle.world_mail.specs.Mails.{MailState, least_waiting, posted_at, taken_by, with_posted}
use Rattle.world_mail.specs.declared.mail.Posted.{Posted}
use Rattle.world_nodes.specs.Nodes.{NodesState, crash_node, cut_node, cut_restart_node, longest, restart_node, step_node}
use Rattle.world_nodes.specs.Sites.{Deciding, Opening}
use Rattle.world_nodes.specs.declared.stepped.Stepped.{Stepped}

pub record WorldState (C : Type 0) : Type 0 where
  pub cfg : ConfigParts
  pub nodes : NodesState C
  pub mail : MailState

-- The world after an event, and the lines behind the event's own.
abbrev pub Outcome : Type 0 → Type 0
Outcome C = WorldState C × List Line

-- the line of a word
abbrev pub say : Word → List Line
say word = line.Word word ∷ []

-- these lines, and then an event's
abbrev pub onto : {C : Type 0} → List Line → Outcome C → Outcome C
onto lines r = (r.0, lines ++ r.1)

-- ---- a step's datagrams and lines

-- a node's socket is that node's
abbrev pub node_in : Who → Option NodeId
node_in (who.Replica i) = Some (Replica i)
node_in (who.Mux i) = Some (Mux i)
node_in (who.Agent i) = Some (Agent i)
node_in (who.Machine machine) = None
node_in who.Outside = None

-- a node's datagram, with the node that it goes to
abbrev pub posted_by : ConfigParts → NodeId → Outgoing → Posted
posted_by cfg x s = record { from = x; to = node_in (who_of cfg s.to); bytes = s.bytes }

-- a replica's acts, where no log was as long as its own is now
abbrev pub longer_acts : ℕ → Stepped → List Act
longer_acts longest t = if nat_lt longest t.learned then t.acts else []

-- the acts of a step
abbrev pub acts_of : NodeId → ℕ → Stepped → List Act
acts_of (Replica i) longest t = longer_acts longest t
acts_of (Mux i) longest t = t.acts
acts_of (Agent i) longest t = t.acts

abbrev pub spread_mail : ConfigParts → MailState → NodeId → Option Stepped → MailState
spread_mail cfg m x None = m
spread_mail cfg m x (Some t) = with_posted m (map (posted_by cfg x) t.sends)

abbrev pub spread_lines : NodeId → (longest sent : ℕ) → Option Stepped → List Line
spread_lines x longest sent None = say Down
spread_lines x longest sent (Some t) =
    act_lines (acts_of x longest t) ++ note_lines t.notes ++ sent_lines x sent t.sends

-- its datagrams join what was sent
abbrev pub spread : {C : Type 0} → WorldState C → NodeId → (longest : ℕ) → NodesState C × Option Stepped → Outcome C
spread w x longest r = (
  record w { nodes = r.0; mail = spread_mail w.cfg w.mail x r.1 },
  spread_lines x longest (length w.mail.posted) r.1,
)

-- an input to a node
abbrev pub input : {C : Type 0} → Deciding C → WorldState C → NodeId → Input → Outcome C
input step w x i = spread w x (longest w.nodes) (step_node step w.nodes x i)

-- ---- a delivery

-- a datagram as it arrives
abbrev pub arriving : ConfigParts → Posted → Input
arriving cfg p = Arrived (home cfg p.from) p.bytes

-- a delivery takes the datagram with this number
abbrev pub takes : {C : Type 0} → WorldState C → ℕ → WorldState C
takes w k = record w { mail = taken_by w.mail k }

abbrev pub deliver_to : {C : Type 0} → Deciding C → WorldState C → ℕ → Posted → Option NodeId → Outcome C
deliver_to step w k p None = (w, say Outside)
deliver_to step w k p (Some x) = input step (takes w k) x (arriving w.cfg p)

abbrev pub deliver_at : {C : Type 0} → Deciding C → WorldState C → ℕ → Option Posted → Outcome C
deliver_at step w k None = (w, say NotYet)
deliver_at step w k (Some p) = deliver_to step w k p p.to

-- The datagram with a number arrives.
unfoldable pub deliver : {C : Type 0} → Deciding C → WorldState C → ℕ → Outcome C
deliver step w k = deliver_at step w k (posted_at w.mail k)

-- ---- a crash and an opening

-- the lines of a node that went down, or the word where nothing did
abbrev pub fallen_lines : NodeId → Word → Bool → List Line
fallen_lines x word fell = if fell then act_lines (loss x) else say word

-- A node goes down.
abbrev pub crash : {C : Type 0} → WorldState C → NodeId → Outcome C
crash w x = (record w { nodes = (crash_node w.nodes x).0 }, fallen_lines x Down (crash_node w.nodes x).1)

-- the word of a node that was up
abbrev pub opened_lines : Bool → List Line
opened_lines opened = if opened then [] else say Up

abbrev pub opens : {C : Type 0} → WorldState C → NodesState C × Bool → Outcome C
opens w r = (record w { nodes = r.0 }, opened_lines r.1)

-- A node opens its disk.
abbrev pub restart : {C : Type 0} → Opening C → WorldState C → NodeId → Outcome C
restart recover w x = if is_some (socket_of w.cfg x) then opens w (restart_node recover w.cfg w.nodes x) else (w, [])

-- ---- a crash within a step

-- what was learned is told where no log was as long; nothing else is
abbrev pub cut_acts : NodeId → ℕ → Stepped → List Act
cut_acts (Replica i) longest t = longer_acts longest t
cut_acts (Mux i) longest t = []
cut_acts (Agent i) longest t = []

abbrev pub cut_lines : NodeId → (longest : ℕ) → Option Stepped → List Line
cut_lines x longest None = say Down
cut_lines x longest (Some t) = act_lines (cut_acts x longest t ++ loss x)

-- the datagrams where the step was, and where there was none
abbrev pub cut_mail : MailState → MailState → Option Stepped → MailState
cut_mail m taken stepped = if is_some stepped then taken else m

abbrev pub cut : {C : Type 0} → WorldState C → MailState → NodeId → (longest : ℕ) → NodesState C × Option Stepped
    → Outcome C
cut w taken x longest r = (record w { nodes = r.0; mail = cut_mail w.mail taken r.1 }, cut_lines x longest r.1)

-- an input to node y in which node x goes down: nothing where they differ
abbrev pub cut_input : {C : Type 0} → Deciding C → WorldState C → MailState → NodeId → NodeId → Input → Bool → Outcome C
cut_input step w taken x y i keep =
    if same_node x y then cut w taken x (longest w.nodes) (cut_node step w.nodes x i keep) else (w, say Other)

abbrev pub cut_deliver_to : {C : Type 0} → Deciding C → WorldState C → NodeId → ℕ → Bool → Posted → Option NodeId
    → Outcome C
cut_deliver_to step w x k keep p None = (w, say Outside)
cut_deliver_to step w x k keep p (Some y) = cut_input step w (taken_by w.mail k) x y (arriving w.cfg p) keep

abbrev pub cut_deliver_at : {C : Type 0} → Deciding C → WorldState C → NodeId → ℕ → Bool → Option Posted → Outcome C
cut_deliver_at step w x k keep None = (w, say NotYet)
cut_deliver_at step w x k keep (Some p) = cut_deliver_to step w x k keep p p.to

-- The datagram with a number arrives, and the node goes down in that step.
abbrev pub cut_deliver : {C : Type 0} → Deciding C → WorldState C → NodeId → ℕ → Bool → Outcome C
cut_deliver step w x k keep = cut_deliver_at step w x k keep (posted_at w.mail k)

abbrev pub cut_opens : {C : Type 0} → WorldState C → NodeId → NodesState C × Bool → Outcome C
cut_opens w x r = (record w { nodes = r.0 }, fallen_lines x Up r.1)

abbrev pub cut_opening : {C : Type 0} → Opening C → WorldState C → NodeId → Bool → Outcome C
cut_opening recover w x keep =
    if is_some (socket_of w.cfg x) then cut_opens w x (cut_restart_node recover w.cfg w.nodes x keep) else (w, [])

-- An opening of node y in which node x goes down.
abbrev pub cut_restart : {C : Type 0} → Opening C → WorldState C → NodeId → NodeId → Bool → Outcome C
cut_restart recover w x y keep = if same_node x y then cut_opening recover w x keep else (w, say Other)

-- ---- events

-- an event at one node
abbrev pub single : {C : Type 0} → Deciding C → Opening C → WorldState C → Single → Outcome C
single step recover w (Deliver k) = deliver step w k
single step recover w (Inject x from bytes) = input step w x (Arrived from bytes)
single step recover w (Tick x now) = input step w x (Ticked now)
single step recover w (Restart x) = restart recover w x

-- the same event, in which node x goes down
abbrev pub during : {C : Type 0} → Deciding C → Opening C → WorldState C → NodeId → Single → Bool → Outcome C
during step recover w x (Deliver k) keep = cut_deliver step w x k keep
during step recover w x (Inject y from bytes) keep = cut_input step w w.mail x y (Arrived from bytes) keep
during step recover w x (Tick y now) keep = cut_input step w w.mail x y (Ticked now) keep
during step recover w x (Restart y) keep = cut_restart recover w x y keep

-- a delivery with its lines, and then what follows from the world that it leaves
abbrev pub settle_by : {C : Type 0} → Deciding C → WorldState C → (WorldState C → Outcome C) → Option ℕ → Outcome C
settle_by step w more None = (w, [])
settle_by step w more (Some k) = onto (line.Delivery k ∷ (deliver step w k).1) (more (deliver step w k).0)

-- At most so many deliveries, each of the least datagram to a node that no delivery took.
unfoldable pub settle : {C : Type 0} → Deciding C → ℕ → WorldState C → Outcome C
settle step zero w = (w, [])
settle step (suc n) w = settle_by step w (settle step n) (least_waiting w.mail)

-- What an event of a schedule does, and the lines behind its own.
unfoldable pub applied : {C : Type 0} → Deciding C → Opening C → WorldState C → Event → Outcome C
applied step recover w (event.Single e) = single step recover w e
applied step recover w (event.Settle n) = settle step n w
applied step recover w (event.Crash x) = crash w x
applied step recover w (event.During x e keep) = during step recover w x e keep

-- The lines of some events, from a world on.
unfoldable pub lines_from : {C : Type 0} → Deciding C → Opening C → WorldState C → List Event → List Line
lines_from step recover w [] = []
lines_from step recover w (e ∷ es) =
    line.Event e ∷ (applied step recover w e).1 ++ lines_from step recover (applied step recover w e).0 es
