-- Messages that were said, by place.
use Rattle.std.proofs.Common.{◌≡◌, ℕ, zero, suc, ◌<◌, List, [], ◌∷◌, ◌++◌, length, map, Option, Some, None, slice_get}
use Rattle.std.proofs.Common.{slice_set, slice_index_or, refl, sym, ap, append-nil, arith}
use Rattle.std.proofs.lemmas.Option.{slice_get_within}
use Rattle.paxos_spec.specs.declared.mail.Mail.{Mail}
use Rattle.paxos_log.specs.declared.posts.Post.{Post}
use Rattle.paxos_spec.specs.Replica.{Out}
use Rattle.paxos_spec.specs.Events.{or_quiet}
use Rattle.paxos_log.specs.World.{Replica, World, new_replica, replica, apply}

-- one of the first, whatever follows
pub set_front : (xs ys : List Post) (k : ℕ) (y : Post) → k < length xs
    → slice_set (xs ++ ys) k y ≡ slice_set xs k y ++ ys
set_front [] ys k y lt = absurd (omega arith)
set_front (x ∷ xs) ys zero y lt = refl
set_front (x ∷ xs) ys (suc k) y lt = ap (λ (zs : List Post). x ∷ zs) (set_front xs ys k y (omega arith))

pub get_within : (xs : List Post) (k : ℕ) (p : Post) → slice_get xs k ≡ Some p → k < length xs
get_within xs k p e = slice_get_within xs k p e

pub none_added : (ps : List Post) → ps ++ [] ≡ ps
none_added ps = append-nil ps

set_same : (xs : List Replica) (i : ℕ) → slice_set xs i (slice_index_or xs i new_replica) ≡ xs
set_same [] i = refl
set_same (x ∷ xs) zero = refl
set_same (x ∷ xs) (suc i) = ap (λ (ys : List Replica). x ∷ ys) (set_same xs i)

-- a step that changes nothing and says nothing
pub none_applied : (w : World) (i : ℕ) (step : Option Out) → step ≡ None
    → w ≡ apply w i (or_quiet (replica w i).memory step)
unfolding apply
none_applied w i step e = rw (e, set_same w.replicas i, append-nil w.posts) refl
