-- What entries say, entry by entry.
use Rattle.std.proofs.Common.{◌≡◌, ℕ, zero, suc, ◌+◌, ◌<◌, List, [], ◌∷◌, ◌++◌, length, take, get_or, fold, refl, arith}
use Rattle.paxos_spec.specs.Acceptor.{AcceptorState, new_acceptor, follow, state_of}
use Rattle.paxos_replica.specs.declared.entry.OwnedEntry.{OwnedEntry}
use Rattle.paxos_replica.specs.Seen.{entry_of}
use Rattle.paxos_log.specs.Sites.{entries_of}

pub state_none : state_of [] ≡ new_acceptor
unfolding state_of
state_none = refl

fold_more : (xs : List OwnedEntry) (x : OwnedEntry) (a : AcceptorState)
    → fold follow a (entries_of (xs ++ x ∷ [])) ≡ follow (fold follow a (entries_of xs)) (entry_of x)
fold_more [] x a = refl
fold_more (y ∷ ys) x a = fold_more ys x (follow a (entry_of y))

-- one entry more
pub state_more : (xs : List OwnedEntry) (x : OwnedEntry)
    → state_of (entries_of (xs ++ x ∷ [])) ≡ follow (state_of (entries_of xs)) (entry_of x)
unfolding state_of
state_more xs x = fold_more xs x new_acceptor

fold_next : (xs : List OwnedEntry) (k : ℕ) (d : OwnedEntry) (a : AcceptorState) → k < length xs
    → fold follow a (entries_of (take (k + 1) xs))
    ≡ follow (fold follow a (entries_of (take k xs))) (entry_of (get_or xs k d))
fold_next [] k d a lt = absurd (omega arith)
fold_next (x ∷ xs) zero d a lt = refl
fold_next (x ∷ xs) (suc k) d a lt =
    let e : suc k + 1 ≡ suc (k + 1) = omega arith in
    rw e (fold_next xs k d (follow a (entry_of x)) (omega arith))

-- one entry of a list further
pub state_next : (xs : List OwnedEntry) (k : ℕ) (d : OwnedEntry) → k < length xs
    → state_of (entries_of (take (k + 1) xs)) ≡ follow (state_of (entries_of (take k xs))) (entry_of (get_or xs k d))
unfolding state_of
state_next xs k d lt = fold_next xs k d new_acceptor lt
