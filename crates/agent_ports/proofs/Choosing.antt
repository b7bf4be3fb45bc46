-- The look for a free port, past the ranges that are full.
use Rattle.std.proofs.Common.{◌≡◌, ◌⊎◌, ⊎_elim, ◌∙◌, ℕ, zero, suc, ◌+◌, ◌-◌, ◌^◌, ◌<◌, ◌≤◌, ◌==◌, min, Bool, true, false, not}
use Rattle.std.proofs.Common.{List, [], ◌∷◌, ◌++◌, drop, map, find, cond, length, get_or, Option, Some, None, refl, sym, ap}
use Rattle.std.proofs.Common.{subst, arith}
use Rattle.std.specs.Prelude.{is_some, is_none}
use Rattle.std.specs.Option.{option_or}
use Rattle.std.proofs.lemmas.Bool.{cases_lt}
use Rattle.std.proofs.lemmas.List.{drop_all, get_or_default}
use Rattle.std.proofs.lemmas.List.Folds.{find-append}
use native.Mathlib.Numerals.{unary_clauses}
use Rattle.wire_core.specs.declared.address.Ip4.{Ip4}
use Rattle.wire_core.specs.declared.flow.FlowKey.{FlowKey}
use Rattle.agent_spec.specs.declared.connection.Connection.{Connection}
use Rattle.agent_spec.specs.declared.held.Held.{Held}
use Rattle.agent_spec.specs.Connections.{by_public}
use Rattle.agent_spec.specs.Packets.{is_used}
use Rattle.agent_spec.specs.Ranges.{first_unused, places, ports_of}
use Rattle.agent_ports.specs.declared.full.FullRanges.{FullRanges}
use Rattle.agent_ports.specs.declared.lease.Lease.{Lease}
use Rattle.agent_ports.specs.declared.remote_end.RemoteEnd.{RemoteEnd}
use Rattle.agent_ports.specs.Full.{AreFull, FrontFull, IsFull, IsKnown, IsTop, below_of, carries, is_own, is_taken, public_at}
use Rattle.agent_ports.specs.Full.{Keeps, end_of}
use Rattle.agent_ports.specs.Leases.{is_of, lease_number, lease_of, lease_ports, leases_of, port_at}
use Rattle.agent_ports.specs.Order.{Ascend, SplitsAt}
use Rattle.agent_ports.proofs.Keys.{end_is}
use Rattle.agent_ports.proofs.Machines.{leases_cons, ports_are}
use Rattle.agent_ports.proofs.Ordered.{ascend_pair}

-- ---- in one range

next_place : (i : ℕ) → i < 8 → drop i places ≡ i ∷ drop (i + 1) places
next_place zero lt = refl
next_place (suc zero) lt = refl
next_place (suc (suc zero)) lt = refl
next_place (suc (suc (suc zero))) lt = refl
next_place (suc (suc (suc (suc zero)))) lt = refl
next_place (suc (suc (suc (suc (suc zero))))) lt = refl
next_place (suc (suc (suc (suc (suc (suc zero)))))) lt = refl
next_place (suc (suc (suc (suc (suc (suc (suc zero))))))) lt = refl
next_place (suc (suc (suc (suc (suc (suc (suc (suc i)))))))) lt = absurd (omega arith)

-- the first that isn't used
pub unused_here : (used : ℕ → Bool) (f : ℕ → ℕ × ℕ) (i : ℕ) → i < 8 → used (f i).1 ≡ false
    → first_unused used (map f (drop i places)) ≡ Some (f i)
unused_here used f i lt free =
    ap (λ (l : List ℕ). first_unused used (map f l)) (next_place i lt)
    ∙ ap (λ (b : Bool). cond (not b) (Some (f i)) (first_unused used (map f (drop (i + 1) places)))) free

-- one that is used
pub unused_later : (used : ℕ → Bool) (f : ℕ → ℕ × ℕ) (i : ℕ) → i < 8 → used (f i).1 ≡ true
    → first_unused used (map f (drop i places)) ≡ first_unused used (map f (drop (i + 1) places))
unused_later used f i lt taken =
    ap (λ (l : List ℕ). first_unused used (map f l)) (next_place i lt)
    ∙ ap (λ (b : Bool). cond (not b) (Some (f i)) (first_unused used (map f (drop (i + 1) places)))) taken

pub taken_is : (o : Option Connection) (b : Bool) → b ≡ is_none o → is_some o ≡ not b
taken_is None b e = rw e refl
taken_is (Some x) b e = rw e refl

-- ---- over ranges

pub leases_step : (used : ℕ → Bool) (l : Lease) (ls : List Lease)
    → first_unused used (lease_ports (l ∷ ls))
    ≡ option_or (first_unused used (map (port_at l) places)) (first_unused used (lease_ports ls))
unfolding lease_ports
leases_step used l ls = find-append (λ p. not (used p.1)) (map (port_at l) places) (lease_ports ls)

pub found_here : (used : ℕ → Bool) (l : Lease) (ls : List Lease) (o : Option (ℕ × ℕ)) → is_some o ≡ true
    → o ≡ first_unused used (map (port_at l) places) → first_unused used (lease_ports (l ∷ ls)) ≡ o
found_here used l ls None some is = absurd (cc)
found_here used l ls (Some p) some is =
    leases_step used l ls ∙ ap (λ (o : Option (ℕ × ℕ)). option_or o (first_unused used (lease_ports ls))) (sym is)

pub found_later : (used : ℕ → Bool) (l : Lease) (ls : List Lease) (o : Option (ℕ × ℕ)) → is_some o ≡ false
    → o ≡ first_unused used (map (port_at l) places)
    → first_unused used (lease_ports (l ∷ ls)) ≡ first_unused used (lease_ports ls)
found_later used l ls (Some p) some is = absurd (cc)
found_later used l ls None some is =
    leases_step used l ls ∙ ap (λ (o : Option (ℕ × ℕ)). option_or o (first_unused used (lease_ports ls))) (sym is)

pub none_left : (used : ℕ → Bool) (ls : List Lease) (k : ℕ) → length ls ≤ k
    → first_unused used (lease_ports (drop k ls)) ≡ first_unused used (lease_ports ls)
    → None ≡ first_unused used (lease_ports ls)
unfolding lease_ports
none_left used ls k le h = sym (ap (λ (l : List Lease). first_unused used (lease_ports l)) (drop_all k ls le)) ∙ h

-- ---- past the full ones

own_taken : (conns : List Connection) (e : RemoteEnd) (l : Lease) (i : ℕ) → carries conns e l i ≡ true
    → is_taken conns e (port_at l i).1 ≡ true
own_taken conns e l i own = by (by_public (public_at e (port_at l i).1) conns) own
  where
    by : (o : Option Connection) → is_own e l.n o ≡ true → is_some o ≡ true
    by None own = absurd (cc)
    by (Some x) own = refl

none_unused : (conns : List Connection) (e : RemoteEnd) (l : Lease) → IsFull conns e l
    → first_unused (is_taken conns e) (map (port_at l) places) ≡ None
none_unused conns e l full =
    from 0 (omega arith) ∙ from 1 (omega arith) ∙ from 2 (omega arith) ∙ from 3 (omega arith) ∙ from 4 (omega arith)
    ∙ from 5 (omega arith) ∙ from 6 (omega arith) ∙ from 7 (omega arith)
  where
    from : (i : ℕ) → i < 8
        → first_unused (is_taken conns e) (map (port_at l) (drop i places))
        ≡ first_unused (is_taken conns e) (map (port_at l) (drop (i + 1) places))
    from i lt = unused_later (is_taken conns e) (port_at l) i lt (own_taken conns e l i (full i lt))

pub passed : (conns : List Connection) (e : RemoteEnd) (ls : List Lease) (k : ℕ) → k ≤ length ls
    → FrontFull conns e ls k
    → first_unused (is_taken conns e) (lease_ports ls) ≡ first_unused (is_taken conns e) (lease_ports (drop k ls))
passed conns e [] zero le full = refl
passed conns e [] (suc k) le full = absurd (omega arith)
passed conns e (l ∷ ls) zero le full = refl
passed conns e (l ∷ ls) (suc k) le full =
    found_later (is_taken conns e) l ls None refl (sym (none_unused conns e l (full 0 l (omega arith))))
    ∙ passed conns e ls k (omega arith) (λ j d lt. full (suc j) d (omega arith))

-- one more is full
pub front_more : (conns : List Connection) (e : RemoteEnd) (ls : List Lease) (k : ℕ) (d : Lease) → k < length ls
    → FrontFull conns e ls k → IsFull conns e (get_or ls k d) → FrontFull conns e ls (k + 1)
front_more conns e ls k d within full here j d2 lt =
    ⊎_elim
    (λ less. full j d2 less)
    (λ last.
    let same : j ≡ k = omega arith in
    subst (IsFull conns e) (get_or_default ls k d d2 within ∙ ap (λ (i : ℕ). get_or ls i d2) (sym same)) here)
    (cases_lt j k)

-- ---- what is known

-- of the machine's ranges those below the number are full
pub known_front : (conns : List Connection) (e : RemoteEnd) (below : ℕ) (hs : List Held) (j : ℕ) (d : Lease)
    → AreFull conns e below hs → j < length (leases_of hs e.machine)
    → (get_or (leases_of hs e.machine) j d).n < below → IsFull conns e (get_or (leases_of hs e.machine) j d)
known_front conns e below [] j d full within lt = absurd (omega arith)
known_front conns e below (h ∷ hs) j d full within lt =
    subst
    (λ (l : List Lease). j < length l → (get_or l j d).n < below → IsFull conns e (get_or l j d))
    (sym (leases_cons h hs e.machine))
    (by (is_of e.machine h) refl j (λ i. known_front conns e below hs i d full.1))
    within
    lt
  where
    by : (b : Bool) → is_of e.machine h ≡ b → (j : ℕ)
        → ((i : ℕ) → i < length (leases_of hs e.machine) → (get_or (leases_of hs e.machine) i d).n < below
        → IsFull conns e (get_or (leases_of hs e.machine) i d))
        → j < length (cond b (lease_of h ∷ leases_of hs e.machine) (leases_of hs e.machine))
        → (get_or (cond b (lease_of h ∷ leases_of hs e.machine) (leases_of hs e.machine)) j d).n < below
        → IsFull conns e (get_or (cond b (lease_of h ∷ leases_of hs e.machine) (leases_of hs e.machine)) j d)
    by true own zero later within lt = full.0 own lt
    by true own (suc j) later within lt = later j (omega arith) lt
    by false own j later within lt = later j within lt

pub front_known : (conns : List Connection) (e : RemoteEnd) (below : ℕ) (hs : List Held) (ls : List Lease) (k : ℕ)
    → ls ≡ leases_of hs e.machine → AreFull conns e below hs → SplitsAt lease_number below ls k
    → FrontFull conns e ls k
front_known conns e below hs ls k is full split j d lt =
    let within : j < length ls = (let w = split.within in omega arith) in
    subst
    (λ (l : List Lease). j < length l → (get_or l j d).n < below → IsFull conns e (get_or l j d))
    (sym is)
    (known_front conns e below hs j d full)
    within
    (split.front j d lt)

-- where those before a place are full, and the others have no lesser number
below_full : (conns : List Connection) (e : RemoteEnd) (below : ℕ) (hs : List Held) (k : ℕ)
    → FrontFull conns e (leases_of hs e.machine) k
    → ((j : ℕ) (d : Lease) → k ≤ j → j < length (leases_of hs e.machine)
    → below ≤ (get_or (leases_of hs e.machine) j d).n)
    → AreFull conns e below hs
below_full conns e below [] k front back = tt
below_full conns e below (h ∷ hs) k front back =
    by (is_of e.machine h) refl k
    (subst (λ (l : List Lease). FrontFull conns e l k) (leases_cons h hs e.machine) front)
    (subst
    (λ (l : List Lease). (j : ℕ) (d : Lease) → k ≤ j → j < length l → below ≤ (get_or l j d).n)
    (leases_cons h hs e.machine)
    back)
    (below_full conns e below hs)
  where
    by : (b : Bool) → is_of e.machine h ≡ b → (k : ℕ)
        → FrontFull conns e (cond b (lease_of h ∷ leases_of hs e.machine) (leases_of hs e.machine)) k
        → ((j : ℕ) (d : Lease) → k ≤ j
        → j < length (cond b (lease_of h ∷ leases_of hs e.machine) (leases_of hs e.machine))
        → below ≤ (get_or (cond b (lease_of h ∷ leases_of hs e.machine) (leases_of hs e.machine)) j d).n)
        → ((i : ℕ) → FrontFull conns e (leases_of hs e.machine) i
        → ((j : ℕ) (d : Lease) → i ≤ j → j < length (leases_of hs e.machine)
        → below ≤ (get_or (leases_of hs e.machine) j d).n) → AreFull conns e below hs)
        → AreFull conns e below (h ∷ hs)
    by true own zero front back rest = (
      λ is lt. absurd (let le = back 0 (lease_of h) (omega arith) (omega arith) in omega arith),
      rest 0
          (λ j d lt. absurd (omega arith))
          (λ j d le within. back (suc j) d (omega arith) (omega arith)),
    )
    by true own (suc k) front back rest = (
      λ is lt. front 0 (lease_of h) (omega arith),
      rest k
          (λ j d lt. front (suc j) d (omega arith))
          (λ j d le within. back (suc j) d (omega arith) (omega arith)),
    )
    by false own k front back rest = (λ is lt. absurd (cc), rest k front back)

-- up to the last that is full
pub set_full : (conns : List Connection) (e : RemoteEnd) (hs : List Held) (ls : List Lease) (k below : ℕ) (d : Lease)
    → ls ≡ leases_of hs e.machine → Ascend lease_number ls → 0 < k → k ≤ length ls
    → below ≤ (get_or ls (k - 1) d).n + 1 → FrontFull conns e ls k → AreFull conns e below hs
set_full conns e hs ls k below d is ascend some within le front =
    below_full conns e below hs k (subst (λ (l : List Lease). FrontFull conns e l k) is front)
    (subst
    (λ (l : List Lease). (j : ℕ) (d : Lease) → k ≤ j → j < length l → below ≤ (get_or l j d).n)
    is
    (λ j d2 from to.
    let lt : (get_or ls (k - 1) d2).n < (get_or ls j d2).n =
    ascend_pair Lease lease_number ls (k - 1) j d2 ascend (omega arith) to in
    let same : (get_or ls (k - 1) d).n ≡ (get_or ls (k - 1) d2).n =
    ap lease_number (get_or_default ls (k - 1) d d2 (omega arith)) in
    omega arith))

pub known_kept : (full new : FullRanges) (conns : List Connection) (hs : List Held) (end : RemoteEnd) (ls : List Lease)
    (k : ℕ) → IsKnown full conns hs → IsTop new → ((e : RemoteEnd) → Keeps full new end ls k e)
    → ls ≡ leases_of hs end.machine → Ascend lease_number ls → k ≤ length ls → FrontFull conns end ls k
    → IsKnown new conns hs
known_kept full new conns hs end ls k h top either is ascend within front = record {
  top = top;
  known = λ e.
      ⊎_elim
      (λ same. subst (λ (n : ℕ). AreFull conns e n hs) (sym same) (h.known e))
      (λ set.
      let same : end ≡ e = end_is end e set.0 in
      let d : Lease = record { n = 0; start = 0 } in
      set_full conns e hs ls k (below_of new e) d
      (subst (λ (x : RemoteEnd). ls ≡ leases_of hs x.machine) same is)
      ascend
      set.1.0
      within
      (set.1.1 d)
      (subst (λ (x : RemoteEnd). FrontFull conns x ls k) same front))
      (either e);
}

-- the port that was found
pub chosen : (conns : List Connection) (key : FlowKey) (vip : Ip4) (hs : List Held) (ls rest : List Lease) (k : ℕ)
    (e : RemoteEnd) (r : Option (ℕ × ℕ)) → e ≡ end_of key vip → ls ≡ leases_of hs key.src → rest ≡ drop k ls
    → k ≤ length ls → FrontFull conns e ls k → r ≡ first_unused (is_taken conns e) (lease_ports rest)
    → r ≡ first_unused (is_used conns key vip) (ports_of hs key.src)
chosen conns key vip hs ls rest k e r end is drops within front found =
    found
    ∙ ap (λ (l : List Lease). first_unused (is_taken conns e) (lease_ports l)) drops
    ∙ sym (passed conns e ls k within front)
    ∙ ap (λ (l : List Lease). first_unused (is_taken conns e) (lease_ports l)) is
    ∙ ap (λ (l : List (ℕ × ℕ)). first_unused (is_taken conns e) l) (sym (ports_are hs key.src))
    ∙ ap (λ (x : RemoteEnd). first_unused (is_taken conns x) (ports_of hs key.src)) end
