-- A node over disks in memory, as the code keeps it.
use Rattle.std.specs.Prelude.{◌≡◌, ℕ, true, ◌==◌, if◌then◌else◌, List, [], map, Result, Ok, Err, Option, Some, None}
use Rattle.std.specs.List.{All}
use Rattle.wire_core.specs.Entries.{read_entry}
use Rattle.wire_core.specs.declared.entry.Entry.{Entry}
use Rattle.wire_core.specs.declared.outgoing.Outgoing.{Outgoing}
use Rattle.outside_io.specs.Disk.{Leaves}
use Rattle.outside_io.specs.Link.{Sent}
use Rattle.disk_model.specs.Disks.{DiskState}
use Rattle.journal.specs.File.{bodies}
use Rattle.journal.specs.Journal.{journal_length}
use Rattle.node_spec.specs.Bodies.{entries_of, entry_in}
use Rattle.node_core.specs.Handling.{is_ready}
use Rattle.node_core.specs.declared.node.Node.{Node}
use Rattle.world_nodes.specs.declared.outbox.Outbox.{Outbox}
use Rattle.world_nodes.specs.declared.site.Place.{Place}
use Rattle.world_nodes.specs.declared.site.Place.TheVariants.{Up, Down, Away}
use Rattle.world_nodes.specs.declared.site.Site.{Site}
use Rattle.world_nodes.specs.Lengths.{entries_length}
use Rattle.world_nodes.specs.Sites.{SiteState}

-- ---- disks

abbrev pub or_none : Result (List (List ℕ)) ℕ → List (List ℕ)
or_none (Ok bs) = bs
or_none (Err at) = []

-- the bodies of a file
abbrev pub bodies_in : List ℕ → List (List ℕ)
bodies_in file = or_none (bodies 1073741824 file)

-- the entries of a disk
abbrev pub entries_on : DiskState → List Entry
entries_on d = entries_of (bodies_in d.history.now.bytes)

-- the entry that a step's bytes spell
abbrev pub entry_of : Option (List ℕ) → List Entry
entry_of None = []
entry_of (Some body) = entry_in (read_entry body)

-- The file reads as a journal, and so does what each crash now leaves of it: with the same bodies, which take as many
-- bytes as the spellings of their entries.
pub record Holds (d : DiskState) : Type 0 where
  pub reads : bodies 1073741824 d.history.now.bytes ≡ Ok (bodies_in d.history.now.bytes)
  pub leaves : Leaves (λ c. bodies 1073741824 c ≡ Ok (bodies_in d.history.now.bytes)) d.history.now
  pub long : journal_length (bodies_in d.history.now.bytes) ≡ entries_length (entries_on d)

-- ---- nodes

-- a node that is up
pub record IsUp {C : Type 0} (node : Node C DiskState) : Type 0 where
  pub ready : is_ready node ≡ true
  pub bound : node.journal.bound ≡ 1073741824
  pub disk : Holds node.journal.first
  pub length : node.journal.length ≡ entries_length (entries_on node.journal.first)

-- a node that may be used, up or down
abbrev pub IsPlace : {C : Type 0} → Place C → Type 0
IsPlace (Up node) = IsUp node
IsPlace (Down a b) = Holds a
IsPlace Away = ⊥

abbrev pub place_entries : {C : Type 0} → Place C → List Entry
place_entries (Up node) = entries_on node.journal.first
place_entries (Down a b) = entries_on a
place_entries Away = []

abbrev pub place_up : {C : Type 0} → Place C → Option C
place_up (Up node) = Some node.core
place_up (Down a b) = None
place_up Away = None

-- what is seen of it
abbrev pub site_of : {C : Type 0} → Site C → SiteState C
site_of s = record { entries = place_entries s.place; learned = s.learned; up = place_up s.place }

-- each may be used
abbrev pub ArePlaces : {C : Type 0} → List (Site C) → Type 0
ArePlaces sites = All (λ s. IsPlace s.place) sites

-- A node that is lent: it may be used, it is the one that is seen, and each crash image of its disk opens to its
-- entries.
pub record IsLent {C : Type 0} (s : SiteState C) (node : Node C DiskState) : Type 0 where
  pub ready : is_ready node ≡ true
  pub core : s.up ≡ Some node.core
  pub images : Leaves (λ c. entries_of (bodies_in c) ≡ s.entries) node.journal.first.history.now

-- ---- what a step sends

abbrev pub as_taken : Outgoing → Sent
as_taken s = record { to = s.to; bytes = s.bytes; taken = true }

-- what a step sent, as long as there was memory to keep it
abbrev pub outbox_sent : Outbox → Option (List Sent)
outbox_sent b = if b.faults == 0 then Some (map as_taken b.list.items) else None
