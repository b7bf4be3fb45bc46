-- What each part of the reading finds, where the file is told.
use Rattle.std.specs.Prelude.{◌≡◌, ◌≢◌, ◌<◌, ◌≤◌, ℕ, Bool, true, false, ◌&&◌, nat_lt, List, length, get_or, take, drop, Result, Ok, Err, Option, None, Some, ⊤}
use Rattle.outside_io.specs.Disk.{History}
use Rattle.outside_io.specs.Faults.{Rose}
use Rattle.journal.specs.File.{bodies, record_at, size, is_entry}
use Rattle.journal.specs.Journal.{IsFile, IsEmptyFile}
use Rattle.journal.specs.declared.fault.JournalFault.{JournalFault}
use Rattle.journal.specs.declared.fault.JournalFault.TheVariants.{Disk, Damaged, Full, NoMemory}
use Rattle.journal.specs.declared.reading.Head.{Head}
use Rattle.journal.specs.declared.reading.Head.TheVariants.{End, Short, Size}

-- What stands at the gate at a place: n is the length of the body, which is at the front of the room.
abbrev pub Finds : Option History → ℕ → ℕ → List ℕ → Result (Option ℕ) JournalFault → Type 0
Finds told bound at room (Err Disk) = ⊤
Finds told bound at room (Err (Full length body)) = ⊥
Finds told bound at room (Err NoMemory) = ⊥
Finds None bound at room (Err (Damaged second offset)) = ⊤
Finds (Some t) bound at room (Err (Damaged second offset)) =
    (second ≡ false) × (offset ≡ at) × (record_at bound at (drop at t.now.bytes) ≡ Err at)
Finds None bound at room (Ok found) = ⊤
Finds (Some t) bound at room (Ok None) = record_at bound at (drop at t.now.bytes) ≡ Ok None
Finds (Some t) bound at room (Ok (Some n)) = record_at bound at (drop at t.now.bytes) ≡ Ok (Some (take n room))

-- what the head of a record says
abbrev pub Heads : {E : Type 0} → Option History → ℕ → Result Head E → Type 0
Heads None at result = ⊤
Heads (Some t) at (Err e) = ⊤
Heads (Some t) at (Ok End) = get_or (drop at t.now.bytes) 0 0 ≢ 1
Heads (Some t) at (Ok Short) = (get_or (drop at t.now.bytes) 0 0 ≡ 1) × (length (drop at t.now.bytes) < 5)
Heads (Some t) at (Ok (Size n)) = (get_or (drop at t.now.bytes) 0 0 ≡ 1) × (n ≡ size (drop at t.now.bytes))

-- a body and one byte more are there, and the body is an entry
abbrev pub is_body : ℕ → List ℕ → Bool
is_body n rest = nat_lt n (length rest) && is_entry (take n rest)

-- whether such a body is there, which is then at the front of the room
abbrev pub Bodies : {E : Type 0} → Option History → ℕ → ℕ → List ℕ → Result Bool E → Type 0
Bodies None at n room result = ⊤
Bodies (Some t) at n room (Err e) = ⊤
Bodies (Some t) at n room (Ok holds) =
    (holds ≡ is_body n (drop at t.now.bytes)) × (holds ≡ true → take n room ≡ take n (drop at t.now.bytes))

-- these are the file's bodies, and the end is where its last gate ends
abbrev pub LoadsAs : Option History → ℕ → List (List ℕ) → ℕ → Type 0
LoadsAs None bound bs end = ⊤
LoadsAs (Some t) bound bs end =
    (bodies bound t.now.bytes ≡ Ok bs) × (1 < length t.now.bytes → IsFile bound end t.now.bytes)

-- the file isn't of the form, from this offset on
abbrev pub DamagedAs : Option History → ℕ → Bool → ℕ → Type 0
DamagedAs None bound second offset = ⊤
DamagedAs (Some t) bound second offset = (second ≡ false) × (bodies bound t.now.bytes ≡ Err offset)

-- Why a file isn't read: the count of the disk rose, the file is damaged, or there was no memory.
abbrev pub LoadFails : Option History → ℕ → ℕ → ℕ → JournalFault → Type 0
LoadFails told bound before now Disk = Rose before now
LoadFails told bound before now (Damaged second offset) = DamagedAs told bound second offset
LoadFails told bound before now (Full length body) = ⊥
LoadFails told bound before now NoMemory = ⊤

-- a file without bodies
abbrev pub Empty : Option History → Type 0
Empty None = ⊤
Empty (Some t) = IsEmptyFile t.now.bytes

-- a file of at most one byte
abbrev pub IsShort : Option History → Type 0
IsShort None = ⊤
IsShort (Some t) = length t.now.bytes ≤ 1
