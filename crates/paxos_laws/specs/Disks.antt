-- A replica's disk, as the list of its entries has it.
use Rattle.std.specs.Prelude.{◌≡◌, List, [], Option, fold}
use Rattle.wire_core.specs.declared.entry.Entry.{Entry}
use Rattle.paxos_spec.specs.Acceptor.{state_of, with_entry}
use Rattle.paxos_spec.specs.Agreement.{Disk, empty_disk, after, grown}

-- what entries say, with all that they ever said
unfoldable pub disk_of : List Entry → Disk
disk_of entries = fold after empty_disk entries

-- The state that an acceptor finds again in its entries is the state of the disk.
abbrev pub StateIsOfDisk : Type 0
StateIsOfDisk = (entries : List Entry) → state_of entries ≡ (disk_of entries).state

-- No entry, no word.
abbrev pub DiskBegins : Type 0
DiskBegins = disk_of [] ≡ empty_disk

-- One more entry is one more word.
abbrev pub DiskGrows : Type 0
DiskGrows = (entries : List Entry) (e : Option Entry) → disk_of (with_entry entries e) ≡ grown (disk_of entries) e
