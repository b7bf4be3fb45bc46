-- What a world of real nodes shows of a world by the tables: the same disks, the same lists in its cores, the same
-- datagrams in bytes.
use Rattle.std.specs.Prelude.{◌≡◌, ℕ, Bool, List, map, Option, Some, None, is_some, option_map}
use Rattle.wire_core.specs.declared.entry.Entry.{Entry}
use Rattle.wire_core.specs.declared.node.NodeId.{NodeId}
use Rattle.vip_config.specs.declared.parts.ConfigParts.{ConfigParts}
use Rattle.vip_config.specs.Queries.{socket_of}
use Rattle.schedule_text.specs.declared.event.Event.{Event}
use Rattle.schedule_text.specs.declared.line.Line.{Line}
use Rattle.node_spec.specs.Sends.{Place, ToNode, ToMachine, ToRouter}
use Rattle.node_spec.specs.Steps.{datagram, step_of}
use Rattle.node_spec.specs.Turns.{Input}
use Rattle.world_mail.specs.declared.mail.Posted.{Posted}
use Rattle.world_spec.specs.Acts.{log_length}
use Rattle.world_spec.specs.Nodes.{Lists, node_turn, opened}
use Rattle.world_spec.specs.Transcript.{applied, transcript_text}
use Rattle.world_spec.specs.World.{Site, Sent, World, at, first_world, is_there, site}
use Rattle.disk_model.specs.Disks.{DiskState}
use Rattle.node_core.specs.declared.node.Node.{Node}
use Rattle.world_nodes.specs.Disks.{IsLent}
use Rattle.world_nodes.specs.Sites.{Deciding, Opening, SiteState}
use Rattle.world_model.specs.World.{WorldState}

-- What decides follows the tables, where a node with these lists has that core: each step is its role's turn, and each
-- opening makes the lists that the entries make.
pub record FollowsTables {C : Type 0} (cfg : ConfigParts) (core : Lists → C) (step : Deciding C) (recover : Opening C)
    : Type 0 where
  pub turns : (l : Lists) (i : Input)
      → step (core l) i ≡ ((core (node_turn cfg l i).state, step_of cfg (node_turn cfg l i)), (node_turn cfg l i).entry)
  pub opens : (x : NodeId) (entries : List Entry) → recover cfg x entries ≡ core (opened cfg x entries)

-- a node
abbrev pub shown_site : {C : Type 0} → (Lists → C) → Site → SiteState C
shown_site core s = record { entries = s.entries; learned = log_length s.entries; up = option_map core s.up }

-- the node at a place
abbrev pub receiver : Place → Option NodeId
receiver (ToNode x) = Some x
receiver (ToMachine machine) = None
receiver ToRouter = None

-- a datagram
abbrev pub shown_sent : Sent → Posted
shown_sent s = record { from = s.from; to = receiver s.to; bytes = datagram s.said }

-- A world.
abbrev pub shown : {C : Type 0} → ConfigParts → (Lists → C) → World → WorldState C
shown cfg core w = record {
  cfg = cfg;
  nodes = record {
    replicas = map (shown_site core) w.replicas;
    muxes = map (shown_site core) w.muxes;
    agents = map (shown_site core) w.agents;
  };
  mail = record { posted = map shown_sent w.sent; taken = w.taken };
}

-- A world of real nodes stands for a world by the tables: it shows it, and its nodes are those of the configuration.
pub record StandsFor {C : Type 0} (core : Lists → C) (v : WorldState C) (w : World) : Type 0 where
  pub there : (x : NodeId) → is_there w x ≡ is_some (socket_of v.cfg x)
  pub shows : v ≡ shown v.cfg core w

-- Where what decides follows the tables: a world that stands for one by the tables before an event stands for the one
-- that the event leads to, and the lines are those of the tables.
abbrev pub StandsAfter : {C : Type 0} → Deciding C → Opening C → WorldState C → Event → WorldState C → List Line
    → Type 0
StandsAfter {C} step recover old e new lines =
    (core : Lists → C) → FollowsTables old.cfg core step recover → (w : World) → StandsFor core old w
    → StandsFor core new (applied old.cfg w e).0 × (lines ≡ (applied old.cfg w e).1)

-- Where what decides follows the tables, it stands for the first world by the tables.
abbrev pub StandsFirst : {C : Type 0} → Deciding C → Opening C → WorldState C → Type 0
StandsFirst {C} step recover v =
    (core : Lists → C) → FollowsTables v.cfg core step recover → StandsFor core v (first_world v.cfg)

-- The text is the transcript of these events, where what decides follows the tables.
abbrev pub IsTranscript : {C : Type 0} → Deciding C → Opening C → ConfigParts → List Event → List ℕ → Type 0
IsTranscript {C} step recover cfg events text =
    (core : Lists → C) → FollowsTables cfg core step recover → text ≡ transcript_text cfg events

-- The lent node is that of each world by the tables that the world stands for: it may be used, its lists are the
-- node's, and each crash image of its disk opens to the node's entries.
abbrev pub IsLentFor : {C : Type 0} → WorldState C → NodeId → Node C DiskState → Type 0
IsLentFor {C} v x node = (core : Lists → C) (w : World) → StandsFor core v w → IsLent (shown_site core (site w x)) node

-- and whether there is one says whether the node is up
abbrev pub IsUpFor : {C : Type 0} → WorldState C → NodeId → Bool → Type 0
IsUpFor {C} v x up = (core : Lists → C) (w : World) → StandsFor core v w → up ≡ is_some (at w x)
