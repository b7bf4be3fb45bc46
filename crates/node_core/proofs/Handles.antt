-- What a step that wasn't done would have written.
use Rattle.std.proofs.Common.{ℕ, List, Option}
use Rattle.wire_core.specs.declared.entry.Entry.{Entry}
use Rattle.node_spec.specs.Bodies.{Spells}
use Rattle.node_disk.specs.declared.fault.NodeFault.{NodeFault}
use Rattle.node_disk.specs.declared.fault.NodeFault.TheVariants as fault
use Rattle.node_core.specs.Handling.{SpellsFull}

pub spells_full : (f : NodeFault) (bytes : Option (List ℕ)) (entry : Option Entry) → Spells bytes entry → SpellsFull f bytes entry
spells_full (fault.Full n body) bytes entry is = is
spells_full fault.NoMemory bytes entry is = tt
spells_full fault.Disk bytes entry is = tt
spells_full (fault.Damaged second offset) bytes entry is = tt
spells_full (fault.WrongDisk found) bytes entry is = tt
spells_full (fault.Spent boot) bytes entry is = tt
