-- How a node is opened.
use Rattle.std.specs.Prelude.{◌≡◌, ◌⊎◌, ◌<◌, ◌≤◌, ℕ, ◌+◌, List, [], ◌∷◌, ◌++◌, length, Result, Ok, Err, Option, Some, None, ⊤}
use Rattle.wire_core.specs.declared.node.NodeId.{NodeId}
use Rattle.vip_config.specs.declared.parts.ConfigParts.{ConfigParts}
use Rattle.outside_io.specs.Disk.{History, LeavesOnly}
use Rattle.outside_io.specs.Faults.{Rose}
use Rattle.journal.specs.Durable.{file_in}
use Rattle.journal.specs.File.{bodies}
use Rattle.journal.specs.Journal.{IsBeforeOrAfter, LeavesBodies, journal_length}
use Rattle.journal.specs.Reading.{DamagedAs}
use Rattle.journal.specs.declared.fault.Refused.{Refused}
use Rattle.node_spec.specs.Bodies.{entries_of}
use Rattle.node_spec.specs.Boots.{boot_of}
use Rattle.node_disk.specs.Judging.{boot_entry, index_of, judge, role_of}
use Rattle.node_disk.specs.declared.fault.NodeFault.{NodeFault}
use Rattle.node_disk.specs.declared.fault.NodeFault.TheVariants as fault
use Rattle.node_core.specs.declared.node.Node.{Node}
use Rattle.wire_core.specs.Entries.{IsEntry}
use Rattle.wire_core.specs.declared.entry.Entry.{Entry}
use Rattle.wire_core.specs.declared.entry.Entry.TheVariants.{Boot}

-- the boot of the next opening
abbrev pub next_boot : List (List ℕ) → ℕ
next_boot bs = boot_of (entries_of bs) + 1

-- the bodies with the Boot entry of the next opening
abbrev pub with_boot : NodeId → List (List ℕ) → List (List ℕ)
with_boot who bs = bs ++ boot_entry who (next_boot bs) ∷ []

-- the Boot entry that an opening of this file appends
abbrev pub next_entry : NodeId → Result (List (List ℕ)) ℕ → List ℕ
next_entry who (Ok bs) = boot_entry who (next_boot bs)
next_entry who (Err at) = []

-- The bodies of the file, where it is told, are this node's; the node is what they and the Boot entry make of it, and
-- each crash now leaves them with the Boot entry.
abbrev pub OpensAs : {C : Type 0} → ℕ → ConfigParts → NodeId → Option History → Option History
    → (ConfigParts → NodeId → List Entry → C) → C → Type 0
OpensAs bound cfg who None new opened core = ⊤
OpensAs bound cfg who (Some t) None opened core = ⊥
OpensAs bound cfg who (Some t) (Some u) opened core =
    (bs : List (List ℕ)) → bodies bound t.now.bytes ≡ Ok bs
    → (judge who bs ≡ Ok (next_boot bs))
    × (core ≡ opened cfg who (entries_of (with_boot who bs)))
    × LeavesBodies bound (Some u) (with_boot who bs)

-- each crash since then opens to the entries before, with the Boot entry or without
abbrev pub OpeningLeaves : ℕ → NodeId → Option History → Option History → Option History → Type 0
OpeningLeaves bound who file since new =
    LeavesOnly since new (IsBeforeOrAfter bound (file_in file) (next_entry who (bodies bound (file_in file))))

-- the two disks where an opening left them
abbrev pub first_after : {C D : Type 0} → Result (Node C D) (Refused NodeFault D) → D
first_after (Ok node) = node.journal.first
first_after (Err e) = e.a

abbrev pub second_after : {C D : Type 0} → Result (Node C D) (Refused NodeFault D) → D
second_after (Ok node) = node.journal.second
second_after (Err e) = e.b

-- a file that is told has these bodies
abbrev pub HasBodies : ℕ → Option History → List (List ℕ) → Type 0
HasBodies bound None bs = ⊤
HasBodies bound (Some t) bs = bodies bound t.now.bytes ≡ Ok bs

-- The file, where it is told, reads as these bodies, and so does what each crash now leaves of it.
pub record OpensTo (bound : ℕ) (told : Option History) (bs : List (List ℕ)) : Type 0 where
  pub reads : HasBodies bound told bs
  pub leaves : LeavesBodies bound told bs

-- The bodies that were read are this node's; the node is what they and the Boot entry make of it, and the file now
-- opens to them with the Boot entry, within the bound.
pub record OpensWith {C : Type 0} (bound : ℕ) (cfg : ConfigParts) (who : NodeId) (old new : Option History)
    (opened : ConfigParts → NodeId → List Entry → C) (core : C) (end : ℕ) : Type 0 where
  pub read : List (List ℕ)
  pub had : HasBodies bound old read
  pub judged : judge who read ≡ Ok (next_boot read)
  pub allowed : IsEntry (Boot 1 (role_of who) (index_of who) (next_boot read))
  pub made : core ≡ opened cfg who (entries_of (with_boot who read))
  pub opens : OpensTo bound new (with_boot who read)
  pub length : end ≡ journal_length (with_boot who read)
  pub fits : end ≤ bound

-- Why it isn't opened, by the file as it was: the form or an entry of another role, another node's entry, no boot left,
-- no room for the Boot entry; or the disk's count rose, or there was no memory.
abbrev pub OpenFails : ℕ → NodeId → Option History → (before now : ℕ) → NodeFault → Type 0
OpenFails bound who told before now fault.Disk = Rose before now
OpenFails bound who told before now fault.NoMemory = ⊤
OpenFails bound who None before now (fault.Damaged second offset) = ⊤
OpenFails bound who (Some t) before now (fault.Damaged second offset) =
    DamagedAs (Some t) bound second offset
    ⊎ ((bs : List (List ℕ)) → bodies bound t.now.bytes ≡ Ok bs → judge who bs ≡ Err (fault.Damaged second offset))
OpenFails bound who None before now (fault.WrongDisk entry) = ⊤
OpenFails bound who (Some t) before now (fault.WrongDisk entry) =
    (bs : List (List ℕ)) → bodies bound t.now.bytes ≡ Ok bs → judge who bs ≡ Err (fault.WrongDisk entry)
OpenFails bound who None before now (fault.Spent boot) = ⊤
OpenFails bound who (Some t) before now (fault.Spent boot) =
    (bs : List (List ℕ)) → bodies bound t.now.bytes ≡ Ok bs → judge who bs ≡ Err (fault.Spent boot)
OpenFails bound who None before now (fault.Full n body) = ⊤
OpenFails bound who (Some t) before now (fault.Full n body) =
    (bs : List (List ℕ)) → bodies bound t.now.bytes ≡ Ok bs
    → (bound < n + body + 5) × (n ≡ journal_length bs) × (body ≡ length (boot_entry who (next_boot bs)))
