-- What is told of the run of a node, and which calls of host and clock it is.
use Rattle.std.specs.Prelude.{◌≡◌, ℕ, Bool, true, false, ◌++◌, List, take, Option, codes}
use Rattle.std.specs.Fmt.{decimal}
use Rattle.std.specs.Io.KnownBytes.{Appends}
use Rattle.wire_core.specs.declared.node.NodeId.{NodeId}
use Rattle.vip_config.specs.declared.parts.ConfigParts.{ConfigParts}
use Rattle.outside_io.specs.Host.{HostCall}
use Rattle.node_run.specs.Hosting.{Runs}
use Rattle.node_run.specs.Names.{node_name}
use Rattle.node_run.specs.Serving.{Since}
use Rattle.node_run.specs.declared.ending.NodeEnding.{NodeEnding}
use Rattle.node_run.specs.declared.ending.NodeEnding.TheVariants as run
use Rattle.node_run.specs.declared.serving.Served.{Served}
use Rattle.node_roles.specs.Roles.{opened, step}
use Rattle.ananta_top.specs.Answers.{count}
use Rattle.ananta_top.specs.declared.ending.Ending.{Ending}
use Rattle.ananta_top.specs.declared.ending.Ending.TheVariants as ending
use Rattle.ananta_top.specs.declared.refusal.Refusal.{Refusal}
use Rattle.ananta_top.specs.declared.refusal.Refusal.TheVariants.{NoMemory}

-- ---- lines

-- the line of so many turns, with what was counted in them
abbrev pub turns_line : ℕ → Served → List ℕ
turns_line turns served =
    codes "turns " ++ decimal turns ++ count (codes "sent") served.sent ++ count (codes "dropped") served.dropped
    ++ count (codes "failed") served.failed ++ codes "\n"

-- what follows a node's name in that of its first disk, or its second
abbrev pub disk_letter : Bool → List ℕ
disk_letter false = codes "-a"
disk_letter true = codes "-b"

-- ` OFFSET`
abbrev pub offset_line : ℕ → List ℕ
offset_line offset = codes " " ++ decimal offset ++ codes "\n"

-- the disk's name, and the offset in its file
abbrev pub damaged_line : NodeId → Bool → ℕ → List ℕ
damaged_line who second offset =
    codes "damaged " ++ (node_name who ++ disk_letter second) ++ offset_line offset

-- ---- how it ends

-- how the program ends where a node's run ended so; after all turns only once its line is written
abbrev pub of_run : NodeId → NodeEnding → Ending
of_run who (run.Done served) = ending.Done
of_run who run.DiskFault = ending.DiskFault
of_run who (run.Damaged second offset) = ending.Damaged who second offset
of_run who run.WrongDisk = ending.WrongDisk
of_run who run.Spent = ending.Spent
of_run who run.Full = ending.JournalFull
of_run who run.LinkFault = ending.LinkFault
of_run who run.NoMemory = ending.Refused NoMemory

-- there was no memory for a line, and nothing is written
abbrev pub IsUntold : Refusal → (before after : Option (List ℕ)) → Type 0
IsUntold NoMemory before after = after ≡ before
IsUntold other before after = ⊥

-- The line is written, or a front of it where the write failed; or there was no memory for it.
abbrev pub IsTold : List ℕ → (before after : Option (List ℕ)) → Ending → Type 0
IsTold line before after ending.Done = Appends before after line
IsTold line before after ending.WriteFault = (n : ℕ) × Appends before after (take n line)
IsTold line before after (ending.Refused r) = IsUntold r before after
IsTold line before after other = ⊥

-- After all turns their line is told; any other end is the program's, and nothing is written.
abbrev pub Tells : NodeId → ℕ → (before after : Option (List ℕ)) → NodeEnding → Ending → Type 0
Tells who turns before after (run.Done served) e = IsTold (turns_line turns served) before after e
Tells who turns before after other e = (e ≡ of_run who other) × (after ≡ before)

-- The node was run on its host for so many turns, and this is how that ended and what was told of it. Which calls these
-- were is said where host and clock tell: it was handed its two disks and a link at its socket and nothing else, and
-- gave all back; what it sent and what its disk has is what its table makes of what clock and link told.
pub record NodeRan (cfg : ConfigParts) (who : NodeId) (turns : ℕ) (times later : Option (List ℕ))
    (calls calls_now : Option (List HostCall)) (before after : Option (List ℕ)) (e : Ending) : Type 0 where
  pub run : NodeEnding
  pub runs : Since calls calls_now (λ since. Runs step opened cfg who turns times later since run)
  pub told : Tells who turns before after run e
