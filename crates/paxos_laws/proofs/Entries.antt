-- A disk's state is what its entries leave, with their histories or without.
use Rattle.std.proofs.Common.{◌≡◌, List, [], ◌∷◌, Option, Some, None, refl}
use Rattle.std.specs.Prelude.{fold}
use Rattle.std.proofs.lemmas.Grind.{fold-append}
use Rattle.wire_core.specs.declared.entry.Entry.{Entry}
use Rattle.paxos_spec.specs.Acceptor.{follow, state_of, with_entry}
use Rattle.paxos_spec.specs.Agreement.{Disk, empty_disk, after, grown}
use Rattle.paxos_laws.specs.Disks.{disk_of}

pub entries_kept : (es : List Entry) (e : Option Entry) → disk_of (with_entry es e) ≡ grown (disk_of es) e
unfolding disk_of
entries_kept es None = refl
entries_kept es (Some e) = fold-append after empty_disk es (e ∷ [])

-- the state that entries leave, with their histories or without
states : (es : List Entry) (d : Disk) → fold follow d.state es ≡ (fold after d es).state
states [] d = refl
states (e ∷ es) d = states es (after d e)

pub state_is : (es : List Entry) → state_of es ≡ (disk_of es).state
unfolding state_of disk_of
state_is es = states es empty_disk
