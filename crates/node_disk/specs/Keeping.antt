-- What a step of a node leaves on its disk.
use Rattle.std.specs.Prelude.{◌≡◌, ◌<◌, ◌≤◌, ℕ, ◌+◌, List, length, Option, Some, None, ⊤}
use Rattle.outside_io.specs.Disk.{History}
use Rattle.outside_io.specs.Faults.{Rose}
use Rattle.journal.specs.Journal.{Adds, IsAsBefore, IsBeforeOrAfter, LeavesAdded}
use Rattle.journal.specs.declared.fault.JournalFault.{JournalFault}
use Rattle.journal.specs.declared.fault.JournalFault.TheVariants as journal_fault
use Rattle.node_disk.specs.declared.fault.NodeFault.{NodeFault}
use Rattle.node_disk.specs.declared.fault.NodeFault.TheVariants as fault

-- the file opens to the bodies before, or to these with the entry of the step
abbrev pub IsKept : ℕ → List ℕ → Option (List ℕ) → List ℕ → Type 0
IsKept bound before None file = IsAsBefore bound before file
IsKept bound before (Some body) file = IsBeforeOrAfter bound before body file

-- the entry of the step is in each crash image
abbrev pub LeavesKept : ℕ → Option (List ℕ) → Option History → Option History → Type 0
LeavesKept bound None old new = new ≡ old
LeavesKept bound (Some body) old new = LeavesAdded bound body old new

-- the file reads as before, or as before with the entry of the step
abbrev pub ReadsKept : ℕ → Option (List ℕ) → Option History → Option History → Type 0
ReadsKept bound None old new = new ≡ old
ReadsKept bound (Some body) old new = Adds bound body old new

-- the journal's length with the entry of the step
abbrev pub length_with : ℕ → Option (List ℕ) → ℕ
length_with n None = n
length_with n (Some body) = n + length body + 5

-- the journal has room for the entry of the step
abbrev pub Fits : (bound end : ℕ) → Option (List ℕ) → Type 0
Fits bound end None = ⊤
Fits bound end (Some body) = end + length body + 5 ≤ bound

-- Why the entry of a step isn't kept: it would pass the bound, or the count of the disk rose.
abbrev pub KeepFails : (bound end before now : ℕ) → Option (List ℕ) → NodeFault → Type 0
KeepFails bound end before now entry fault.Disk = Rose before now
KeepFails bound end before now None (fault.Full n body) = ⊥
KeepFails bound end before now (Some bytes) (fault.Full n body) =
    (bound < end + length bytes + 5) × (n ≡ end) × (body ≡ length bytes)
KeepFails bound end before now entry fault.NoMemory = ⊥
KeepFails bound end before now entry (fault.Damaged second offset) = ⊥
KeepFails bound end before now entry (fault.WrongDisk found) = ⊥
KeepFails bound end before now entry (fault.Spent boot) = ⊥

-- a journal's fault as a node's
abbrev pub fault_of : JournalFault → NodeFault
fault_of journal_fault.Disk = fault.Disk
fault_of (journal_fault.Damaged second offset) = fault.Damaged second offset
fault_of (journal_fault.Full length body) = fault.Full length body
fault_of journal_fault.NoMemory = fault.NoMemory
