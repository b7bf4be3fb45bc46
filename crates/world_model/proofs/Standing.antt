-- A world of real nodes stands for a world by the tables, from the first one on.
use Rattle.std.proofs.Common.{◌≡◌, ℕ, List, [], Bool, Option, Some, None, refl, sym, ap, subst, ◌∙◌}
use Rattle.std.specs.Prelude.{is_some, option_map}
use Rattle.std.specs.List.{flat_map}
use Rattle.std.proofs.Math.ListN.{get_or-map}
use Rattle.disk_model.specs.Disks.{DiskState}
use Rattle.wire_core.specs.declared.node.NodeId.{NodeId}
use Rattle.wire_core.specs.declared.node.NodeId.TheVariants.{Replica, Mux, Agent}
use Rattle.vip_config.specs.declared.parts.ConfigParts.{ConfigParts}
use Rattle.vip_config.specs.Queries.{KnowsOwners, socket_of}
use Rattle.vip_config.specs.Rules.{HasLengths}
use Rattle.schedule_text.specs.declared.event.Event.{Event}
use Rattle.schedule_text.specs.declared.line.Line.{Line}
use Rattle.schedule_text.specs.Transcript.{printed_line}
use Rattle.node_core.specs.declared.node.Node.{Node}
use Rattle.world_spec.specs.Nodes.{Lists}
use Rattle.world_spec.specs.World.{World, at, is_there, nobody, site, first_world as first_of_tables}
use Rattle.world_spec.specs.Transcript as transcript
use Rattle.world_nodes.specs.Disks.{IsLent}
use Rattle.world_mail.specs.Mails.{MailState}
use Rattle.world_nodes.specs.Firsts.{first_nodes}
use Rattle.world_model.specs.Firsts.{first_world}
use Rattle.world_nodes.specs.Nodes.{NodesState, node_at}
use Rattle.world_model.specs.Shown.{FollowsTables, IsLentFor, IsTranscript, IsUpFor, StandsAfter, StandsFirst, StandsFor, shown, shown_site}
use Rattle.world_nodes.specs.Sites.{Deciding, Opening, SiteState}
use Rattle.world_model.specs.World as model
use Rattle.world_model.specs.World.{Outcome, WorldState}
use Rattle.world_model.proofs.ShownFirsts.{first_shown, transcript_shown}
use Rattle.world_model.proofs.ShownWorlds.{applied_shown}
use Rattle.world_model.proofs.There.{there_applied, there_first}

module _ {C : Type 0} (step : Deciding C) (recover : Opening C) where
  pub stands_first : (cfg : ConfigParts) (v : WorldState C) → HasLengths cfg → v ≡ first_world recover cfg → StandsFirst step recover v
  stands_first cfg v lengths is core follows =
      let same : v.cfg ≡ cfg = ap (λ (u : WorldState C). u.cfg) is in
      let by : FollowsTables cfg core step recover = subst (λ (c : ConfigParts). FollowsTables c core step recover) same follows in
      record {
        there = λ x.
            ap (λ (c : ConfigParts). is_there (first_of_tables c) x) same
            ∙ there_first cfg lengths x
            ∙ ap (λ (c : ConfigParts). is_some (socket_of c x)) (sym same);
        shows = is ∙ first_shown cfg core step recover by lengths
            ∙ ap (λ (c : ConfigParts). shown c core (first_of_tables c)) (sym same);
      }

  pub stands_at_first : (cfg : ConfigParts) (nodes : NodesState C) (mail : MailState) → HasLengths cfg
      → nodes ≡ first_nodes recover cfg → mail ≡ record { posted = []; taken = [] }
      → StandsFirst step recover (record { cfg = cfg; nodes = nodes; mail = mail })
  stands_at_first cfg nodes mail lengths n m =
      stands_first cfg (record { cfg = cfg; nodes = nodes; mail = mail }) lengths
      (ap (λ (ns : NodesState C). made ns mail) n ∙ ap (made (first_nodes recover cfg)) m)
    where
      made : NodesState C → MailState → WorldState C
      made ns ms = record { cfg = cfg; nodes = ns; mail = ms }

  pub stands_after : (v u : WorldState C) (e : Event) (lines : List Line) → KnowsOwners v.cfg
      → (u, lines) ≡ model.applied step recover v e → StandsAfter step recover v e u lines
  stands_after v u e lines owners is core follows w stands =
      let all : (u, lines) ≡ (shown v.cfg core (transcript.applied v.cfg w e).0, (transcript.applied v.cfg w e).1) =
      is
      ∙ ap (λ (x : WorldState C). model.applied step recover x e) stands.shows
      ∙ applied_shown v.cfg core step recover follows owners w stands.there e in
      let next : u ≡ shown v.cfg core (transcript.applied v.cfg w e).0 = ap (λ (r : Outcome C). r.0) all in
      let same : u.cfg ≡ v.cfg = ap (λ (x : WorldState C). x.cfg) next in (
        record {
          there = λ x. there_applied v.cfg w e x ∙ stands.there x ∙ ap (λ (c : ConfigParts). is_some (socket_of c x)) (sym same);
          shows = next ∙ ap (λ (c : ConfigParts). shown c core (transcript.applied v.cfg w e).0) (sym same);
        },
        ap (λ (r : Outcome C). r.1) all,
      )

  pub is_transcript : (cfg : ConfigParts) (es : List Event) (text : List ℕ) → HasLengths cfg → KnowsOwners cfg
      → text ≡ flat_map (printed_line cfg) (model.lines_from step recover (first_world recover cfg) es)
      → IsTranscript step recover cfg es text
  unfolding transcript.transcript_text
  is_transcript cfg es text lengths owners is core follows =
      is ∙ ap (flat_map (printed_line cfg)) (transcript_shown cfg core step recover follows owners lengths es)

-- a node of the one is that of the other
node_shown : {C : Type 0} (cfg : ConfigParts) (core : Lists → C) (w : World) (x : NodeId)
    → node_at (shown cfg core w).nodes x ≡ shown_site core (site w x)
unfolding site
node_shown {C} cfg core w (Replica i) = get_or-map (shown_site core) w.replicas i nobody
node_shown {C} cfg core w (Mux i) = get_or-map (shown_site core) w.muxes i nobody
node_shown {C} cfg core w (Agent i) = get_or-map (shown_site core) w.agents i nobody

node_of : {C : Type 0} (v : WorldState C) (core : Lists → C) (w : World) (x : NodeId) → StandsFor core v w
    → node_at v.nodes x ≡ shown_site core (site w x)
node_of {C} v core w x stands =
    ap (λ (u : WorldState C). node_at u.nodes x) stands.shows ∙ node_shown v.cfg core w x

pub lent_for : {C : Type 0} (v : WorldState C) (x : NodeId) (node : Node C DiskState) → IsLent (node_at v.nodes x) node
    → IsLentFor v x node
lent_for {C} v x node lent core w stands = subst (λ (s : SiteState C). IsLent s node) (node_of v core w x stands) lent

mapped : {X Y : Type 0} (f : X → Y) (o : Option X) → is_some (option_map f o) ≡ is_some o
mapped {X} {Y} f None = refl
mapped {X} {Y} f (Some x) = refl

pub up_for : {C : Type 0} (v : WorldState C) (x : NodeId) (up : Bool) → up ≡ is_some (node_at v.nodes x).up → IsUpFor v x up
up_for {C} v x up is core w stands =
    is ∙ ap (λ (s : SiteState C). is_some s.up) (node_of v core w x stands) ∙ mapped core (at w x)
