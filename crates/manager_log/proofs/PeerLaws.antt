-- What is known of muxes: they stand by their numbers.
use Rattle.std.proofs.Common.{◌≡◌, ◌≤◌, ◌<◌, take, refl, sym, ap, ◌∙◌, ◌++◌, ℕ, zero, suc, ◌+◌, Bool, true, false}
use Rattle.std.proofs.Common.{not, ◌&&◌, nat_lt, List, [], ◌∷◌, length, slice_set, arith}
use Rattle.std.specs.Prelude.{if◌then◌else◌}
use Rattle.paxos_spec.specs.Leader.{is_follower}
use Rattle.paxos_spec.specs.Replica.{Memory}
use Rattle.paxos_spec.specs.Events.{on_epoch}
use Rattle.manager_spec.specs.declared.peer.Peer.{Peer}
use Rattle.manager_spec.specs.Muxes.{see_epoch}
use Rattle.manager_spec.specs.Manager.{new_peers}
use Rattle.wire_core.specs.declared.address.Socket.{Socket}
use Rattle.manager_log.specs.Parts.{NumberedFrom}

pub set_past : {A : Type 0} (xs : List A) (i : ℕ) (x : A) → length xs ≤ i → slice_set xs i x ≡ xs
set_past [] i x past = refl
set_past (y ∷ ys) zero x past = absurd (omega arith)
set_past (y ∷ ys) (suc i) x past = ap (λ (zs : List _). y ∷ zs) (set_past ys i x (omega arith))

numbered_at : (k i : ℕ) (ps : List Peer) (p : Peer) → p.mux ≡ k + i → NumberedFrom k ps → NumberedFrom k (slice_set ps i p)
numbered_at k i [] p is numbered = tt
numbered_at k zero (x ∷ xs) p is numbered = (omega arith, numbered.1)
numbered_at k (suc i) (x ∷ xs) p is numbered = (numbered.0, numbered_at (k + 1) i xs p (omega arith) numbered.1)

pub numbered_set : (ps : List Peer) (i boot at : ℕ) → NumberedFrom 0 ps
    → NumberedFrom 0 (slice_set ps i (record { mux = i; boot = boot; heard_at = at }))
numbered_set ps i boot at numbered =
    numbered_at 0 i ps (record { mux = i; boot = boot; heard_at = at }) (omega arith) numbered

epoch_by : (m : Memory) (epoch : ℕ) (over leads : Bool)
    → nat_lt m.leader.ballot epoch ≡ over → not (is_follower m.leader.stage) ≡ leads
    → on_epoch m epoch ≡ see_epoch m epoch
epoch_by m epoch true true e f = rw (e, f) refl
epoch_by m epoch true false e f = rw (e, f) refl
epoch_by m epoch false true e f = rw (e, f) refl
epoch_by m epoch false false e f = rw (e, f) refl

pub epoch_heard : (m : Memory) (epoch : ℕ) → on_epoch m epoch ≡ see_epoch m epoch
epoch_heard m epoch = epoch_by m epoch _ _ refl refl

-- ---- as a replica opens

peers_at : (k i : ℕ) (ss : List Socket) → i < length ss
    → new_peers k (take (i + 1) ss) ≡ new_peers k (take i ss) ++ record { mux = k + i; boot = 0; heard_at = 0 } ∷ []
peers_at k i [] lt = absurd (omega arith)
peers_at k zero (s ∷ ss) lt =
    let e : k ≡ k + 0 = omega arith in
    ap (λ (n : ℕ). record { mux = n; boot = 0; heard_at = 0 } ∷ []) e
peers_at k (suc i) (s ∷ ss) lt =
    let more : suc i + 1 ≡ suc (i + 1) = omega arith in
    let e : k + 1 + i ≡ k + suc i = omega arith in
    rw more (ap (λ (ps : List Peer). record { mux = k; boot = 0; heard_at = 0 } ∷ ps)
    (peers_at (k + 1) i ss (omega arith)
    ∙ ap (λ (n : ℕ). new_peers (k + 1) (take i ss) ++ record { mux = n; boot = 0; heard_at = 0 } ∷ []) e))

pub peers_next : (ss : List Socket) (i : ℕ) → i < length ss
    → new_peers 0 (take (i + 1) ss) ≡ new_peers 0 (take i ss) ++ record { mux = i; boot = 0; heard_at = 0 } ∷ []
peers_next ss i lt = peers_at 0 i ss lt ∙ ap
    (λ (n : ℕ). new_peers 0 (take i ss) ++ record { mux = n; boot = 0; heard_at = 0 } ∷ [])
    (let e : 0 + i ≡ i = omega arith in e)

pub peers_length : (k : ℕ) (ss : List Socket) → length (new_peers k ss) ≡ length ss
peers_length k [] = refl
peers_length k (x ∷ xs) = ap (λ (n : ℕ). suc n) (peers_length (k + 1) xs)

pub peers_few : (ss : List Socket) → length ss ≤ 16 → length (new_peers 0 ss) ≤ 16
peers_few ss few = let e = peers_length 0 ss in omega arith

pub peers_numbered : (k : ℕ) (ss : List Socket) → NumberedFrom k (new_peers k ss)
peers_numbered k [] = tt
peers_numbered k (x ∷ xs) = (refl, peers_numbered (k + 1) xs)
