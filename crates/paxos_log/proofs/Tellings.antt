-- What a replica tells is what the claims speak of.
use Rattle.std.proofs.Common.{◌≡◌, ℕ, List, Some, slice_get, sym, ap, ◌∙◌}
use Rattle.paxos_spec.specs.declared.cast.Cast.{Cast}
use Rattle.paxos_spec.specs.Acceptor.{AcceptorState}
use Rattle.paxos_laws.specs.Facts.{Inv}
use Rattle.paxos_laws.proofs.Named.{claims, learned_stands, state_is_of_disk}
use Rattle.paxos_log.specs.declared.event.PaxosEvent.{PaxosEvent}
use Rattle.paxos_log.specs.World.{World, replica, run, start, view}
use Rattle.paxos_log.specs.Told.{told, ToldIsOnDisk, ToldIsChosen, ToldIsOne, ToldIsInLog, ToldWasOffered}
use Rattle.paxos_log.proofs.Runs.{was_offered}

pub told_on_disk : ToldIsOnDisk
unfolding view
told_on_disk w i = state_is_of_disk (replica w i).entries

-- so it stands in the log of that disk
in_log : (w : World) (i slot : ℕ) (x : Cast) → told w i slot ≡ Some x
    → slice_get ((view w).disk i).state.log slot ≡ Some x
in_log w i slot x tells = ap (λ (a : AcceptorState). slice_get a.log slot) (sym (told_on_disk w i)) ∙ tells

pub told_chosen : (w : World) → Inv (view w) → ToldIsChosen w
told_chosen w inv i slot x i5 tells =
    (claims (view w) inv).learned i slot x.ballot x.value i5 ((inv.disks i i5).logged slot x (in_log w i slot x tells))

pub told_one : (w : World) → Inv (view w) → ToldIsOne w
told_one w inv i j slot x y i5 j5 tells says =
    (claims (view w) inv).logs i j slot x y i5 j5 (in_log w i slot x tells) (in_log w j slot y says)

pub told_in_log : (w : World) → Inv (view w) → ToldIsInLog w
told_in_log w inv i slot x i5 tells = learned_stands (view w) inv i slot x.ballot x.value i5
    ((inv.disks i i5).logged slot x (in_log w i slot x tells))

pub told_offered : (es : List PaxosEvent) → ToldWasOffered es
told_offered es i slot x i5 tells =
    ((was_offered es).disks i i5).logged slot x (in_log (run es start) i slot x tells)
