-- The calls of a run, one after another.
use Rattle.std.proofs.Common.{◌≡◌, ℕ, true, false, List, [], ◌∷◌, ◌++◌, Option, Some, None, Result, Ok, Err, refl, sym, ap, ◌∙◌, subst, append_assoc}
use Rattle.std.specs.Prelude.{IfErr, IfOk, OnOk}
use Rattle.wire_core.specs.declared.address.Socket.{Socket}
use Rattle.wire_core.specs.declared.entry.Entry.{Entry}
use Rattle.wire_core.specs.declared.node.NodeId.{NodeId}
use Rattle.vip_config.specs.declared.parts.ConfigParts.{ConfigParts}
use Rattle.outside_io.specs.Disk.{History}
use Rattle.outside_io.specs.Host.{HostCall, Bind, OpenDisk, BackLink, BackDisk}
use Rattle.outside_io.specs.Link.{Answer, Sent}
use Rattle.outside_io.specs.Telling.{Tells, TellsNone}
use Rattle.journal.specs.Durable.{IsStill}
use Rattle.node_core.specs.Opening.{OpenFails, OpeningLeaves, OpensWith}
use Rattle.node_disk.specs.declared.fault.NodeFault.{NodeFault}
use Rattle.vip_config.specs.Queries.{socket_of}
use Rattle.node_run.specs.Ending.{of_fault, of_served}
use Rattle.node_run.specs.Hosting.{OnDisks, OnLink, Runs, ServesOr, no_first, no_names, no_second, not_bound, not_opened, opened_then, over, served}
use Rattle.node_run.specs.Names.{first_name, second_name}
use Rattle.node_run.specs.Serving.{Serves, Since, Standing, State, Stops, Taken}
use Rattle.node_run.specs.Turns.{Steps}
use Rattle.node_run.specs.declared.ending.NodeEnding.{NodeEnding}
use Rattle.node_run.specs.declared.ending.NodeEnding.TheVariants.{DiskFault, LinkFault, NoMemory}
use Rattle.node_run.specs.declared.serving.ServeFault.{ServeFault}
use Rattle.node_run.specs.declared.serving.Served.{Served}
use Rattle.node_run.proofs.Told.{since_first, since_next, since_none, since_one, since_same}

-- all turns were taken, or it stopped
pub serves_or : {C : Type 0} (step : Steps C) (bound b turns : ℕ) (old new : Standing C) (r : Result Served ServeFault)
    → b ≡ bound → IfOk r (λ served. served.turns ≡ turns) → OnOk r (Taken turns old.times new.times)
    → IfOk r (λ served. Serves step b old new served)
    → IfErr r (λ e. Stops step b old new e) → ServesOr step bound turns old new r
serves_or step bound b turns old new (Ok done) same all taken serves stops =
    (all, (taken, subst (λ (x : ℕ). Serves step x old new done) same serves))
serves_or step bound b turns old new (Err e) same all taken serves stops =
    subst (λ (x : ℕ). Stops step x old new e) same stops

module _ {C : Type 0} (step : Steps C) (bound turns : ℕ) (socket : Socket) (old : State C)
    (times : Option (List ℕ)) where
  -- no link is given
  pub goes_unbound : (before after : Option (List HostCall)) → Tells before after (Bind socket false)
      → Since before after (λ calls. OnLink step bound turns socket times old times old calls LinkFault)
  goes_unbound before after tells =
      since_one before after (Bind socket false)
      (λ calls. OnLink step bound turns socket times old times old calls LinkFault) not_bound tells

  -- a link is given, served on and given back
  pub goes_served : (before mid after : Option (List HostCall)) (later : Option (List ℕ)) (new : State C)
      (answers answered : Option (List Answer)) (sent handed : Option (List Sent)) (outcome : Result Served ServeFault)
      (ending : NodeEnding) → ending ≡ of_served outcome → Tells before mid (Bind socket true) → Tells mid after (BackLink answered handed) → TellsNone answers
      → TellsNone sent
      → ServesOr step bound turns (record { times = times; answers = answers; sent = sent; state = old })
      (record { times = later; answers = answered; sent = handed; state = new }) outcome
      → Since before after (λ calls. OnLink step bound turns socket times old later new calls ending)
  goes_served before mid after later new answers answered sent handed outcome ending is_ending binds back none nothing did =
      subst (λ (e : NodeEnding). Since before after (λ calls. OnLink step bound turns socket times old later new calls e))
      (sym is_ending)
      (since_first before mid after (Bind socket true) (λ calls. calls ≡ BackLink answered handed ∷ [])
      (λ calls. OnLink step bound turns socket times old later new calls (of_served outcome))
      (λ calls is. subst (λ (l : List HostCall). OnLink step bound turns socket times old later new (Bind socket true ∷ l)
      (of_served outcome)) (sym is) (served later new answers answered sent handed outcome none nothing did))
      binds
      (since_one mid after (BackLink answered handed) (λ calls. calls ≡ BackLink answered handed ∷ []) refl back))

module _ {C : Type 0} (step : Steps C) (opened : ConfigParts → NodeId → List Entry → C) (cfg : ConfigParts)
    (who : NodeId) (turns : ℕ) (times : Option (List ℕ)) where
  -- the node isn't opened
  pub goes_unopened : (calls : Option (List HostCall)) (old new : Option History) (fault : NodeFault) (ending : NodeEnding)
      (faults faults_now : ℕ) → ending ≡ of_fault fault → OpenFails 1073741824 who old faults faults_now fault
      → (IsStill old → OpeningLeaves 1073741824 who old old new)
      → Since calls calls (λ calls. OnDisks step opened cfg who turns times old times new calls ending)
  goes_unopened calls old new fault ending faults faults_now is fails leaves =
      since_none calls (λ calls. OnDisks step opened cfg who turns times old times new calls ending)
      (subst (λ (e : NodeEnding). OnDisks step opened cfg who turns times old times new [] e) (sym is)
      (not_opened new fault faults faults_now fails leaves))

  -- the node is opened
  pub goes_opened : (before after : Option (List HostCall)) (later : Option (List ℕ)) (old file : Option History)
      (ending : NodeEnding) (core : C) (end : ℕ) (last : State C) (socket : Socket)
      → OpensWith 1073741824 cfg who old file opened core end
      → (IsStill old → OpeningLeaves 1073741824 who old old file) → socket_of cfg who ≡ Some socket
      → Since before after (λ calls. OnLink step 1073741824 turns socket times
      (record { core = core; file = file; length = end }) later last calls ending)
      → (left : Option History) → left ≡ last.file
      → Since before after (λ calls. OnDisks step opened cfg who turns times old later left calls ending)
  goes_opened before after later old file ending core end last socket opens leaves at goes left is_left =
      subst (λ (h : Option History). Since before after (λ calls. OnDisks step opened cfg who turns times old later h calls
      ending)) (sym is_left)
      (since_same before after
      (λ calls. OnLink step 1073741824 turns socket times (record { core = core; file = file; length = end }) later last
      calls ending)
      (λ calls. OnDisks step opened cfg who turns times old later last.file calls ending)
      (λ calls on. opened_then later last.file calls ending core last.core file end last.length socket opens leaves at on)
      goes)

  -- both disks are handed out, and go back
  pub goes_over : (later : Option (List ℕ)) (ending : NodeEnding) (a left b : Option History)
      (c0 c1 c2 c3 c4 c5 : Option (List HostCall)) (name next : List ℕ) → name ≡ first_name who → next ≡ second_name who
      → Tells c0 c1 (OpenDisk name (Some a)) → Tells c1 c2 (OpenDisk next (Some b))
      → Since c2 c3 (λ calls. OnDisks step opened cfg who turns times a later left calls ending)
      → Tells c3 c4 (BackDisk left) → (again : Option History) → again ≡ b → Tells c4 c5 (BackDisk again)
      → Since c0 c5 (λ calls. Runs step opened cfg who turns times later calls ending)
  goes_over later ending a left b c0 c1 c2 c3 c4 c5 name next is_name is_next opens also between back again same last =
      since_first c0 c1 c5 (OpenDisk (first_name who) (Some a)) from_second
      (λ calls. Runs step opened cfg who turns times later calls ending)
      (λ calls is. subst (λ (l : List HostCall). Runs step opened cfg who turns times later
      (OpenDisk (first_name who) (Some a) ∷ l) ending) (sym is.1.0) (over later a left b is.0 ending is.1.1))
      (subst (λ (n : List ℕ). Tells c0 c1 (OpenDisk n (Some a))) is_name opens)
      (since_first c1 c2 c5 (OpenDisk (second_name who) (Some b)) from_third from_second
      (λ calls is. (is.0, (ap (λ l. OpenDisk (second_name who) (Some b) ∷ l) is.1.0, is.1.1)))
      (subst (λ (n : List ℕ). Tells c1 c2 (OpenDisk n (Some b))) is_next also)
      (since_next c2 c4 c5 (BackDisk b) with_first from_third
      (λ calls is. (
        is.0,
        (
          ap (λ l. l ++ BackDisk b ∷ []) is.1.0
              ∙ append_assoc is.0 (BackDisk left ∷ []) (BackDisk b ∷ []),
          is.1.1,
        ),
      ))
      (since_next c2 c3 c4 (BackDisk left) inner with_first (λ calls is. (calls, (refl, is))) between back)
      (subst (λ (h : Option History). Tells c4 c5 (BackDisk h)) same last)))
    where
      inner : List HostCall → Type 0
      inner calls = OnDisks step opened cfg who turns times a later left calls ending

      with_first : List HostCall → Type 0
      with_first calls = (mid : List HostCall) × ((calls ≡ mid ++ BackDisk left ∷ []) × inner mid)

      from_third : List HostCall → Type 0
      from_third calls = (mid : List HostCall) × ((calls ≡ mid ++ BackDisk left ∷ BackDisk b ∷ []) × inner mid)

      from_second : List HostCall → Type 0
      from_second calls = (mid : List HostCall)
          × ((calls ≡ OpenDisk (second_name who) (Some b) ∷ mid ++ BackDisk left ∷ BackDisk b ∷ []) × inner mid)

  -- the first disk is handed out and goes back, and there is no second one
  pub goes_without : (a : Option History) (c0 c1 c2 c3 : Option (List HostCall)) (name next : List ℕ)
      → name ≡ first_name who → next ≡ second_name who → Tells c0 c1 (OpenDisk name (Some a))
      → Tells c1 c2 (OpenDisk next None) → Tells c2 c3 (BackDisk a)
      → Since c0 c3 (λ calls. Runs step opened cfg who turns times times calls DiskFault)
  goes_without a c0 c1 c2 c3 name next is_name is_next opens not_also back =
      since_first c0 c1 c3 (OpenDisk (first_name who) (Some a))
      (λ calls. calls ≡ OpenDisk (second_name who) None ∷ BackDisk a ∷ [])
      (λ calls. Runs step opened cfg who turns times times calls DiskFault)
      (λ calls is. subst (λ (l : List HostCall). Runs step opened cfg who turns times times
      (OpenDisk (first_name who) (Some a) ∷ l) DiskFault) (sym is) (no_second a))
      (subst (λ (n : List ℕ). Tells c0 c1 (OpenDisk n (Some a))) is_name opens)
      (since_first c1 c2 c3 (OpenDisk (second_name who) None) (λ calls. calls ≡ BackDisk a ∷ [])
      (λ calls. calls ≡ OpenDisk (second_name who) None ∷ BackDisk a ∷ [])
      (λ calls is. ap (λ l. OpenDisk (second_name who) None ∷ l) is)
      (subst (λ (n : List ℕ). Tells c1 c2 (OpenDisk n None)) is_next not_also)
      (since_one c2 c3 (BackDisk a) (λ calls. calls ≡ BackDisk a ∷ []) refl back))

  -- there are no names
  pub goes_unnamed : (calls : Option (List HostCall))
      → Since calls calls (λ calls. Runs step opened cfg who turns times times calls NoMemory)
  goes_unnamed calls = since_none calls (λ calls. Runs step opened cfg who turns times times calls NoMemory) no_names

  -- there is no first disk
  pub goes_nowhere : (c0 c1 : Option (List HostCall)) (name : List ℕ) → name ≡ first_name who
      → Tells c0 c1 (OpenDisk name None)
      → Since c0 c1 (λ calls. Runs step opened cfg who turns times times calls DiskFault)
  goes_nowhere c0 c1 name is_name isnt =
      since_one c0 c1 (OpenDisk (first_name who) None)
      (λ calls. Runs step opened cfg who turns times times calls DiskFault) no_first
      (subst (λ (n : List ℕ). Tells c0 c1 (OpenDisk n None)) is_name isnt)
