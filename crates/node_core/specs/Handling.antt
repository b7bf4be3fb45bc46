-- What a step of a node may answer.
use Rattle.std.specs.Prelude.{◌&&◌, ℕ, Bool, List, Option, ⊤}
use Rattle.wire_core.specs.declared.entry.Entry.{Entry}
use Rattle.node_spec.specs.Bodies.{Spells}
use Rattle.node_disk.specs.Keeping.{KeepFails}
use Rattle.node_disk.specs.declared.fault.NodeFault.{NodeFault}
use Rattle.node_disk.specs.declared.fault.NodeFault.TheVariants as fault
use Rattle.node_core.specs.declared.node.Node.{Node}

-- the node may be used
abbrev pub is_ready : {C D : Type 0} → Node C D → Bool
is_ready node = node.live && node.journal.live

-- Why a step wasn't done: its entry wasn't kept, or there was no memory.
abbrev pub HandleFails : (bound end before now : ℕ) → Option (List ℕ) → NodeFault → Type 0
HandleFails bound end before now entry fault.NoMemory = ⊤
HandleFails bound end before now entry fault.Disk = KeepFails bound end before now entry fault.Disk
HandleFails bound end before now entry (fault.Full n body) = KeepFails bound end before now entry (fault.Full n body)
HandleFails bound end before now entry (fault.Damaged second offset) = ⊥
HandleFails bound end before now entry (fault.WrongDisk found) = ⊥
HandleFails bound end before now entry (fault.Spent boot) = ⊥

-- what found no room in the journal is the spelling of this entry
abbrev pub SpellsFull : NodeFault → Option (List ℕ) → Option Entry → Type 0
SpellsFull (fault.Full n body) bytes entry = Spells bytes entry
SpellsFull fault.NoMemory bytes entry = ⊤
SpellsFull fault.Disk bytes entry = ⊤
SpellsFull (fault.Damaged second offset) bytes entry = ⊤
SpellsFull (fault.WrongDisk found) bytes entry = ⊤
SpellsFull (fault.Spent boot) bytes entry = ⊤
