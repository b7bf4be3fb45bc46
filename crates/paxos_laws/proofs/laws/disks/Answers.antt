use Rattle.std.proofs.Common.{refl}
use Rattle.paxos_laws.specs.Disks.{disk_of}
use Rattle.paxos_laws.proofs.Named.{state_is_of_disk, disk_grows}
use Rattle.paxos_laws.proofs.laws.disks.Goals as goal

pub returns-clause-state : goal.returns-clause-state
returns-clause-state c = state_is_of_disk

pub returns-clause-begins : goal.returns-clause-begins
unfolding disk_of
returns-clause-begins c = refl

pub returns-clause-grows : goal.returns-clause-grows
returns-clause-grows c = disk_grows
