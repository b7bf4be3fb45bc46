-- How long a journal is, by its entries.
use Rattle.std.specs.Prelude.{ℕ, List, map}
use Rattle.wire_core.specs.Entries.{entry_bytes}
use Rattle.wire_core.specs.declared.entry.Entry.{Entry}
use Rattle.journal.specs.Journal.{journal_length}

-- the length in bytes of the journal with these entries
unfoldable pub entries_length : List Entry → ℕ
entries_length entries = journal_length (map entry_bytes entries)
