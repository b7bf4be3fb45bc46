-- What the run of a node does to its host: which calls it makes, which disks and link come back, and how it ends.
use Rattle.std.specs.Prelude.{◌≡◌, ℕ, true, false, List, [], ◌∷◌, ◌++◌, Result, Ok, Err, Option, Some, None}
use Rattle.wire_core.specs.declared.address.Socket.{Socket}
use Rattle.wire_core.specs.declared.entry.Entry.{Entry}
use Rattle.wire_core.specs.declared.node.NodeId.{NodeId}
use Rattle.vip_config.specs.declared.parts.ConfigParts.{ConfigParts}
use Rattle.vip_config.specs.Queries.{socket_of}
use Rattle.outside_io.specs.Disk.{History}
use Rattle.outside_io.specs.Host.{HostCall, Bind, OpenDisk, BackLink, BackDisk}
use Rattle.outside_io.specs.Link.{Answer, Sent}
use Rattle.outside_io.specs.Telling.{TellsNone}
use Rattle.journal.specs.Durable.{IsStill}
use Rattle.node_core.specs.Opening.{OpenFails, OpeningLeaves, OpensWith}
use Rattle.node_disk.specs.declared.fault.NodeFault.{NodeFault}
use Rattle.node_run.specs.Ending.{of_fault, of_served}
use Rattle.node_run.specs.Names.{first_name, second_name}
use Rattle.node_run.specs.Serving.{Serves, Standing, State, Stops, Taken}
use Rattle.node_run.specs.Turns.{Steps}
use Rattle.node_run.specs.declared.ending.NodeEnding.{NodeEnding}
use Rattle.node_run.specs.declared.ending.NodeEnding.TheVariants.{DiskFault, LinkFault, NoMemory}
use Rattle.node_run.specs.declared.serving.ServeFault.{ServeFault}
use Rattle.node_run.specs.declared.serving.Served.{Served}

-- ---- on a link

-- All turns were taken, or it stopped in one.
abbrev pub ServesOr : {C : Type 0} → Steps C → ℕ → ℕ → Standing C → Standing C → Result Served ServeFault → Type 0
ServesOr step bound turns old new (Ok served) =
    (served.turns ≡ turns) × (Taken turns old.times new.times × Serves step bound old new served)
ServesOr step bound turns old new (Err e) = Stops step bound old new e

-- The host gives no link at the node's socket, and nothing is done; or the node is served on a new link, which is given
-- back.
pub data OnLink {C : Type 0} (step : Steps C) (bound turns : ℕ) (socket : Socket) (times : Option (List ℕ))
    (old : State C) : (later : Option (List ℕ)) (new : State C) (calls : List HostCall) (ending : NodeEnding) → Type 0 where
  not_bound : OnLink step bound turns socket times old times old (Bind socket false ∷ []) LinkFault
  served : (later : Option (List ℕ)) (new : State C) (answers answered : Option (List Answer))
      (sent handed : Option (List Sent)) (outcome : Result Served ServeFault) → TellsNone answers → TellsNone sent
      → ServesOr step bound turns (record { times = times; answers = answers; sent = sent; state = old })
      (record { times = later; answers = answered; sent = handed; state = new }) outcome
      → OnLink step bound turns socket times old later new (Bind socket true ∷ BackLink answered handed ∷ [])
      (of_served outcome)

-- ---- over its disks

-- The node isn't opened, and no link is asked for; or it is opened, and goes on a link at its socket.
pub data OnDisks {C : Type 0} (step : Steps C) (opened : ConfigParts → NodeId → List Entry → C) (cfg : ConfigParts)
    (who : NodeId) (turns : ℕ) (times : Option (List ℕ)) (old : Option History)
    : (later : Option (List ℕ)) (new : Option History) (calls : List HostCall) (ending : NodeEnding) → Type 0 where
  not_opened : (new : Option History) (fault : NodeFault) (faults faults_now : ℕ)
      → OpenFails 1073741824 who old faults faults_now fault
      → (IsStill old → OpeningLeaves 1073741824 who old old new)
      → OnDisks step opened cfg who turns times old times new [] (of_fault fault)
  opened_then : (later : Option (List ℕ)) (new : Option History) (calls : List HostCall) (ending : NodeEnding)
      (core last : C) (file : Option History) (end end_now : ℕ) (socket : Socket)
      → OpensWith 1073741824 cfg who old file opened core end
      → (IsStill old → OpeningLeaves 1073741824 who old old file) → socket_of cfg who ≡ Some socket
      → OnLink step 1073741824 turns socket times (record { core = core; file = file; length = end }) later
      (record { core = last; file = new; length = end_now }) calls ending
      → OnDisks step opened cfg who turns times old later new calls ending

-- ---- on its host

-- The run of a node: it asks for its two disks by their names; over these it does the above; then both go back.
pub data Runs {C : Type 0} (step : Steps C) (opened : ConfigParts → NodeId → List Entry → C) (cfg : ConfigParts)
    (who : NodeId) (turns : ℕ) (times : Option (List ℕ))
    : (later : Option (List ℕ)) (calls : List HostCall) (ending : NodeEnding) → Type 0 where
  no_names : Runs step opened cfg who turns times times [] NoMemory
  no_first : Runs step opened cfg who turns times times (OpenDisk (first_name who) None ∷ []) DiskFault
  no_second : (a : Option History)
      → Runs step opened cfg who turns times times
      (OpenDisk (first_name who) (Some a) ∷ OpenDisk (second_name who) None ∷ BackDisk a ∷ []) DiskFault
  over : (later : Option (List ℕ)) (a left b : Option History) (between : List HostCall) (ending : NodeEnding)
      → OnDisks step opened cfg who turns times a later left between ending
      → Runs step opened cfg who turns times later
      (OpenDisk (first_name who) (Some a) ∷ OpenDisk (second_name who) (Some b)
      ∷ between ++ BackDisk left ∷ BackDisk b ∷ []) ending
