-- What a journal keeps, and what a crash leaves of it.
use Rattle.std.specs.Prelude.{◌≡◌, ◌≢◌, ◌⊎◌, ◌<◌, ◌≤◌, ℕ, ◌+◌, Bool, true, List, [], ◌∷◌, ◌++◌, length, get_or, Result, Ok, Err, Option, None, Some, ⊤}
use Rattle.outside_io.specs.Disk.{History, kept, Leaves, LeavesOnly}
use Rattle.outside_io.specs.Faults.{Rose}
use Rattle.journal.specs.Durable.{file_in, synced}
use Rattle.journal.specs.File.{bodies, StandsFor}
use Rattle.journal.specs.State.{JournalState}
use Rattle.journal.specs.declared.fault.JournalFault.{JournalFault}
use Rattle.journal.specs.declared.fault.JournalFault.TheVariants.{Disk, Damaged, Full, NoMemory}
use Rattle.journal.specs.declared.fault.Refused.{Refused}

-- the length of a journal with these bodies: its first gate, and for each body a length, the body and a gate
abbrev pub journal_length : List (List ℕ) → ℕ
journal_length [] = 1
journal_length (b ∷ bs) = length b + 5 + journal_length bs

-- The file ends with a gate that isn't open just before `end`; nothing is said of what follows.
pub record IsFile (bound end : ℕ) (file : List ℕ) : Type 0 where
  pub front : List ℕ
  pub gate : ℕ
  pub tail : List ℕ
  pub read : List (List ℕ)
  pub split : file ≡ front ++ gate ∷ tail
  pub shut : gate ≢ 1
  pub place : end ≡ length front + 1
  pub stands : StandsFor bound front read

-- such a file, of which nothing is pending
abbrev pub Stands : ℕ → ℕ → Option History → Type 0
Stands bound end None = ⊤
Stands bound end (Some t) = (t.now ≡ kept t.now.bytes) × IsFile bound end t.now.bytes

-- There is room for one record, and as long as the journal is live its file is all on the disk.
pub record IsKept (live : Bool) (room bound end : ℕ) (told : Option History) : Type 0 where
  pub fits : 65541 ≤ room
  pub begun : 1 ≤ end
  pub stands : live ≡ true → Stands bound end told

-- these bodies and one more
abbrev pub with_body : List ℕ → Result (List (List ℕ)) ℕ → Result (List (List ℕ)) ℕ
with_body body (Ok bs) = Ok (bs ++ body ∷ [])
with_body body (Err at) = Err at

-- the file opens to the bodies before
abbrev pub IsAsBefore : ℕ → List ℕ → List ℕ → Type 0
IsAsBefore bound before file = bodies bound file ≡ bodies bound before

-- the file opens to the bodies before, or to these and the new one
abbrev pub IsBeforeOrAfter : ℕ → List ℕ → List ℕ → List ℕ → Type 0
IsBeforeOrAfter bound before body file =
    IsAsBefore bound before file ⊎ (bodies bound file ≡ with_body body (bodies bound before))

-- the new file opens to the bodies of the old one and this
abbrev pub Adds : ℕ → List ℕ → Option History → Option History → Type 0
Adds bound body None new = ⊤
Adds bound body (Some t) None = ⊥
Adds bound body (Some t) (Some u) = bodies bound u.now.bytes ≡ with_body body (bodies bound t.now.bytes)

-- each crash now leaves a file with these bodies
abbrev pub LeavesBodies : ℕ → Option History → List (List ℕ) → Type 0
LeavesBodies bound None bs = ⊤
LeavesBodies bound (Some t) bs = Leaves (λ c. bodies bound c ≡ Ok bs) t.now

-- each crash now leaves a file with the bodies of the old one and this
abbrev pub LeavesAdded : ℕ → List ℕ → Option History → Option History → Type 0
LeavesAdded bound body None new = ⊤
LeavesAdded bound body (Some t) None = ⊥
LeavesAdded bound body (Some t) (Some u) =
    Leaves (λ c. bodies bound c ≡ with_body body (bodies bound t.now.bytes)) u.now

-- Why nothing was added: it would pass the bound, or the count of the disk rose.
abbrev pub AppendFails : (bound end n : ℕ) (before now : ℕ) → JournalFault → Type 0
AppendFails bound end n before now (Full length body) = (bound < end + n + 5) × (length ≡ end) × (body ≡ n)
AppendFails bound end n before now Disk = Rose before now
AppendFails bound end n before now (Damaged second offset) = ⊥
AppendFails bound end n before now NoMemory = ⊥

-- a file without bodies
abbrev pub IsEmptyFile : List ℕ → Type 0
IsEmptyFile file = (length file ≤ 1) ⊎ (get_or file 0 0 ≢ 1)

-- The old file's bodies are these, and the new one has the same.
abbrev pub OpenedAs : ℕ → Option History → Option History → List (List ℕ) → Type 0
OpenedAs bound None None bs = ⊤
OpenedAs bound None (Some u) bs = ⊥
OpenedAs bound (Some t) None bs = ⊥
OpenedAs bound (Some t) (Some u) bs = (bodies bound t.now.bytes ≡ Ok bs) × (bodies bound u.now.bytes ≡ Ok bs)

-- The first sync succeeded, and each crash since then leaves a file that opens to the same.
abbrev pub OpensSynced : ℕ → Option History → Option History → Type 0
OpensSynced bound old new = LeavesOnly (synced old) new (IsAsBefore bound (file_in old))

-- Nothing has changed; or the first sync succeeded, and each crash since then leaves a file that opens to the same.
abbrev pub OpensOnly : ℕ → Option History → Option History → Type 0
OpensOnly bound old new = (new ≡ old) ⊎ OpensSynced bound old new

-- the two disks where a call of open left them
abbrev pub first_after : {D : Type 0} → Result (JournalState D × List (List ℕ)) (Refused JournalFault D) → D
first_after (Ok x) = x.0.first
first_after (Err e) = e.a

abbrev pub second_after : {D : Type 0} → Result (JournalState D × List (List ℕ)) (Refused JournalFault D) → D
second_after (Ok x) = x.0.second
second_after (Err e) = e.b
