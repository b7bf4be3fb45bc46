-- What a journal has of a node: its entries, each in bytes.
use Rattle.std.specs.Prelude.{◌≡◌, ℕ, List, [], ◌∷◌, Result, Ok, Err, Option, IfSome, option_map}
use Rattle.std.specs.List.{flat_map}
use Rattle.wire_core.specs.Entries.{IsEntry, entry_bytes, read_entry}
use Rattle.wire_core.specs.declared.entry.Entry.{Entry}
use Rattle.wire_core.specs.declared.value.ValueFault.{ValueFault}

-- the entry that a body spells
abbrev pub entry_in : Result Entry ValueFault → List Entry
entry_in (Ok e) = e ∷ []
entry_in (Err fault) = []

-- The entry of each body that spells one. A journal has no other bodies.
unfoldable pub entries_of : List (List ℕ) → List Entry
entries_of bodies = flat_map (λ b. entry_in (read_entry b)) bodies

-- the bytes spell an entry
pub record IsSpelled (bytes : List ℕ) : Type 0 where
  pub entry : Entry
  pub allowed : IsEntry entry
  pub spelled : bytes ≡ entry_bytes entry

-- The bytes spell this entry, and its fields are allowed, where there is one.
pub record Spells (bytes : Option (List ℕ)) (entry : Option Entry) : Type 0 where
  pub allowed : IfSome entry IsEntry
  pub spelled : bytes ≡ option_map entry_bytes entry
