-- A replica's entries, as the definitions have them.
use Rattle.std.specs.Prelude.{List, map}
use Rattle.wire_core.specs.declared.entry.Entry.{Entry}
use Rattle.paxos_replica.specs.declared.entry.OwnedEntry.{OwnedEntry}
use Rattle.paxos_replica.specs.Seen.{entry_of}

abbrev pub entries_of : List OwnedEntry → List Entry
entries_of kept = map entry_of kept
