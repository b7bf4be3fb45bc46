-- A run so far: its world, all acts, and all that came from outside.
use Rattle.std.specs.Prelude.{ℕ, List, [], ◌∷◌, ◌++◌, Option, Some, None, fold}
use Rattle.wire_core.specs.declared.act.Act.{Act}
use Rattle.wire_core.specs.declared.address.Socket.{Socket}
use Rattle.wire_core.specs.declared.node.NodeId.{NodeId}
use Rattle.vip_config.specs.declared.parts.ConfigParts.{ConfigParts}
use Rattle.schedule_text.specs.declared.event.Single.{Single}
use Rattle.schedule_text.specs.declared.event.Single.TheVariants as single
use Rattle.world_spec.specs.Nodes.{Lists}
use Rattle.world_spec.specs.World.{World, first_world, at}
use Rattle.world_spec.specs.Events.{Basic, Does, Crashes, Cuts, happens, after}
use Rattle.world_spec.specs.Transcript.{acts_in}

-- a datagram that came from outside into a node that was up
pub record Injected : Type 0 where
  pub into : NodeId
  pub from : Socket
  pub bytes : List ℕ

-- what an event injects: nothing into a node that is down, and nothing in a crash
abbrev pub injected_by : NodeId → Socket → List ℕ → Option Lists → List Injected
injected_by x from bytes None = []
injected_by x from bytes (Some l) = record { into = x; from = from; bytes = bytes } ∷ []

-- the same by the kind of event
abbrev pub injected_at : World → Single → List Injected
injected_at w (single.Deliver k) = []
injected_at w (single.Inject x from bytes) = injected_by x from bytes (at w x)
injected_at w (single.Tick x now) = []
injected_at w (single.Restart x) = []

-- of a basic event
abbrev pub injection : World → Basic → List Injected
injection w (Does e) = injected_at w e
injection w (Crashes x) = []
injection w (Cuts x e keep) = []

-- A run so far: its world, all acts, and all that came from outside.
pub record Run : Type 0 where
  pub world : World
  pub acts : List Act
  pub injected : List Injected

-- the run after one event more
abbrev pub run_after : ConfigParts → Run → Basic → Run
run_after cfg r b = record {
  world = after cfg r.world b;
  acts = r.acts ++ acts_in (happens cfg r.world b).1;
  injected = r.injected ++ injection r.world b;
}

-- nothing has happened
abbrev pub first_run : ConfigParts → Run
first_run cfg = record { world = first_world cfg; acts = []; injected = [] }

-- The run of some basic events.
unfoldable pub run : ConfigParts → List Basic → Run
run cfg bs = fold (run_after cfg) (first_run cfg) bs
