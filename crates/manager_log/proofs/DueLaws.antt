-- What is due by the table, and how a value is filled with it.
use Rattle.std.proofs.Common.{◌≡◌, ◌≤◌, ◌<◌, refl, sym, ap, ◌∙◌, ℕ, zero, suc, ◌+◌, ◌-◌, Bool, true, false, not, ◌&&◌, ◌||◌, nat_lt, List, [], ◌∷◌, ◌++◌, map, filter, length, take, drop, append-nil, append_assoc, arith}
use Rattle.std.specs.Prelude.{◌==◌, if◌then◌else◌, min}
use Rattle.std.proofs.lemmas.List.{length-append}
use Rattle.std.proofs.lemmas.Bool.Decides.{nat_tests}
use Rattle.wire_core.specs.Commands.{LogCommand, AscendsFrom, Granted}
use Rattle.wire_core.specs.declared.command.MuxBoot.{MuxBoot}
use Rattle.vip_config.specs.declared.parts.ConfigParts.{ConfigParts}
use Rattle.lease_spec.specs.declared.row.Row.{Row}
use Rattle.lease_spec.specs.Table.{is_being}
use Rattle.manager_spec.specs.Manager.{Manager}
use Rattle.manager_spec.specs.Known.{running, marks_at}
use Rattle.manager_spec.specs.declared.peer.Peer.{Peer}
use Rattle.manager_spec.specs.Proposal.{mux_boot, holders, is_granted, grant_due}
use Rattle.manager_log.specs.Parts.{NumberedFrom}

-- ---- muxes stand by their numbers

ascend_by : (j k : ℕ) (p : Peer → Bool) (x : Peer) (xs : List Peer) (b : Bool) → p x ≡ b → j ≤ k → x.mux ≡ k
    → AscendsFrom (x.mux + 1) (map mux_boot (filter p xs)) → AscendsFrom j (map mux_boot (filter p xs))
    → AscendsFrom j (map mux_boot (filter p (x ∷ xs)))
ascend_by j k p x xs true e le at f g = rw e (omega arith, f)
ascend_by j k p x xs false e le at f g = rw e g

ascend_later : (j k : ℕ) (p : Peer → Bool) (ps : List Peer) → j ≤ k → NumberedFrom k ps
    → AscendsFrom j (map mux_boot (filter p ps))
ascend_later j k p [] le numbered = tt
ascend_later j k p (x ∷ xs) le numbered =
    let at : x.mux ≡ k = numbered.0 in
    ascend_by j k p x xs _ refl le at (ascend_later (x.mux + 1) (k + 1) p xs (omega arith) numbered.1)
    (ascend_later j (k + 1) p xs (omega arith) numbered.1)

twice_by : (p q : Peer → Bool) (x : Peer) (xs : List Peer) (b c : Bool) → q x ≡ b → p x ≡ c
    → filter p (filter q xs) ≡ filter (λ x. q x && p x) xs
    → filter p (filter q (x ∷ xs)) ≡ filter (λ x. q x && p x) (x ∷ xs)
twice_by p q x xs true true e f rest = rw (e, f) (ap (λ (ys : List Peer). x ∷ ys) rest)
twice_by p q x xs true false e f rest = rw (e, f) rest
twice_by p q x xs false c e f rest = rw e rest

filter_twice : (p q : Peer → Bool) (ps : List Peer) → filter p (filter q ps) ≡ filter (λ x. q x && p x) ps
filter_twice p q [] = refl
filter_twice p q (x ∷ xs) = twice_by p q x xs _ _ refl refl (filter_twice p q xs)

pub holders_ascend : (p q : Peer → Bool) (ps : List Peer) → NumberedFrom 0 ps
    → AscendsFrom 0 (map mux_boot (filter p (filter q ps)))
holders_ascend p q ps numbered = rw (filter_twice p q ps) (ascend_later 0 0 _ ps (omega arith) numbered)

few_by : (p : Peer → Bool) (x : Peer) (xs : List Peer) (b : Bool) → p x ≡ b → length (filter p xs) ≤ length xs
    → length (filter p (x ∷ xs)) ≤ length (x ∷ xs)
few_by p x xs true e rest = rw e (omega arith)
few_by p x xs false e rest = rw e (omega arith)

filter_few : (p : Peer → Bool) (ps : List Peer) → length (filter p ps) ≤ length ps
filter_few p [] = omega arith
filter_few p (x ∷ xs) = few_by p x xs _ refl (filter_few p xs)

map_few : (ps : List Peer) → length (map mux_boot ps) ≡ length ps
map_few [] = refl
map_few (x ∷ xs) = ap (λ (n : ℕ). suc n) (map_few xs)

pub holders_few : (p q : Peer → Bool) (ps : List Peer) → length ps ≤ 16
    → length (map mux_boot (filter p (filter q ps))) ≤ 16
holders_few p q ps few =
    let a = map_few (filter p (filter q ps)) in
    let b = filter_few p (filter q ps) in
    let c = filter_few q ps in
    omega arith

-- the same of a list that is said to be theirs
pub pairs_ascend : (p q : Peer → Bool) (ps : List Peer) (pairs : List MuxBoot)
    → pairs ≡ map mux_boot (filter p (filter q ps)) → NumberedFrom 0 ps → AscendsFrom 0 pairs
pairs_ascend p q ps pairs e numbered = rw e (holders_ascend p q ps numbered)

pub pairs_few : (p q : Peer → Bool) (ps : List Peer) (pairs : List MuxBoot)
    → pairs ≡ map mux_boot (filter p (filter q ps)) → length ps ≤ 16 → length pairs ≤ 16
pairs_few p q ps pairs e few = rw e (holders_few p q ps few)

-- what is due of a row that muxes have, and of one that they don't
granted_by : (b g : Bool) (xs : List LogCommand) → g ≡ false → (if b && g then xs else []) ≡ []
granted_by true false xs e = refl
granted_by false g xs e = refl
granted_by true true xs e = absurd (cc)

pub granted_none : (cfg : ConfigParts) (r : Manager) (row : Row)
    → is_granted cfg r (marks_at r.acks row.n) ≡ false → grant_due cfg r row ≡ []
granted_none cfg r row e = granted_by (is_being row.phase) _ _ e

pub granted_one : (cfg : ConfigParts) (r : Manager) (row : Row)
    → is_being row.phase ≡ true → is_granted cfg r (marks_at r.acks row.n) ≡ true
    → grant_due cfg r row ≡ Granted row.n (map mux_boot (holders (running r) (marks_at r.acks row.n))) ∷ []
granted_one cfg r row e f = rw (e, f) refl

pub no_holders : (ps : List Peer) → length (map mux_boot ps) ≡ length ps
no_holders ps = map_few ps

-- ---- a value with room for 16

take_all : (n : ℕ) (xs : List LogCommand) → length xs ≤ n → take n xs ≡ xs
take_all zero [] le = refl
take_all (suc n) [] le = refl
take_all zero (x ∷ xs) le = absurd (omega arith)
take_all (suc n) (x ∷ xs) le = ap (λ (ys : List LogCommand). x ∷ ys) (take_all n xs (omega arith))

-- a full value takes no more
pub full_takes : (n : ℕ) (xs ys : List LogCommand) → length xs ≡ n → take n (xs ++ ys) ≡ xs
full_takes zero [] ys e = refl
full_takes (suc n) [] ys e = absurd (omega arith)
full_takes zero (x ∷ xs) ys e = absurd (omega arith)
full_takes (suc n) (x ∷ xs) ys e = ap (λ (zs : List LogCommand). x ∷ zs) (full_takes n xs ys (omega arith))

-- and one with room takes all
pub rest_takes : (n : ℕ) (xs : List LogCommand) → length xs ≤ n → take n (xs ++ []) ≡ xs
rest_takes n xs le = ap (take n) (append-nil xs) ∙ take_all n xs le

take_front : (n : ℕ) (xs ys : List LogCommand) → take n (take n xs ++ ys) ≡ take n (xs ++ ys)
take_front zero xs ys = refl
take_front (suc n) [] ys = refl
take_front (suc n) (x ∷ xs) ys = ap (λ (zs : List LogCommand). x ∷ zs) (take_front n xs ys)

pub take_twice : (xs ys : List LogCommand) → take 16 (take 16 xs ++ ys) ≡ take 16 (xs ++ ys)
take_twice xs ys = take_front 16 xs ys

-- one of the queue more
pub filled_next : (v : List LogCommand) (c : LogCommand) (q : List LogCommand) → length v < 16
    → (v ++ c ∷ []) ++ take (16 - length (v ++ c ∷ [])) q ≡ v ++ take (16 - length v) (c ∷ q)
filled_next v c q lt =
    let long : length (v ++ c ∷ []) ≡ length v + 1 = length-append v (c ∷ []) in
    let room : 16 - length v ≡ suc (16 - length (v ++ c ∷ [])) = omega arith in
    rw (room, append_assoc v (c ∷ []) (take (16 - length (v ++ c ∷ [])) q)) refl

pub dropped_next : (v : List LogCommand) (c : LogCommand) (q : List LogCommand) → length v < 16
    → drop (16 - length (v ++ c ∷ [])) q ≡ drop (16 - length v) (c ∷ q)
dropped_next v c q lt =
    let long : length (v ++ c ∷ []) ≡ length v + 1 = length-append v (c ∷ []) in
    let room : 16 - length v ≡ suc (16 - length (v ++ c ∷ [])) = omega arith in
    rw room refl

-- where there is nothing, nothing leaves the queue
pub nothing_dropped : (first queue : List LogCommand) → length (first ++ take (16 - length first) queue) ≡ 0
    → drop (16 - length first) queue ≡ queue
nothing_dropped [] [] e = refl
nothing_dropped [] (q ∷ qs) e = absurd (omega arith)
nothing_dropped (x ∷ xs) queue e = absurd (omega arith)

-- a full value takes nothing of the queue
pub full_filled : (v q : List LogCommand) → 16 ≤ length v → v ++ take (16 - length v) q ≡ v
full_filled v q full = let e : 16 - length v ≡ 0 = omega arith in rw e (append-nil v)

pub full_dropped : (v q : List LogCommand) → 16 ≤ length v → drop (16 - length v) q ≡ q
full_dropped v q full = let e : 16 - length v ≡ 0 = omega arith in rw e refl
