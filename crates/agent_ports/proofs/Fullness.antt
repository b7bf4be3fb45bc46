-- Ranges that are full stay so, but for the one whose connection closes.
use Rattle.std.proofs.Common.{◌≡◌, ◌⊎◌, inl, inr, ℕ, zero, suc, ◌+◌, ◌<◌, ◌≤◌, ◌==◌, Bool, true, false, not, cond, find}
use Rattle.std.proofs.Common.{filter, List, [], ◌∷◌, ◌++◌, map, length, get_or, Option, Some, None, refl, ap, sym, ◌∙◌}
use Rattle.std.proofs.Common.{subst, arith, ⊎_elim}
use Rattle.std.specs.Prelude.{◌&&◌, IfSome, insert, nat_le, option_map, is_some}
use Rattle.wire_core.specs.declared.address.Ip4.{Ip4}
use Rattle.wire_core.specs.declared.flow.FlowKey.{FlowKey}
use Rattle.wire_core.specs.Members.{In}
use Rattle.wire_core.specs.Same.{same_ip, same_key}
use Rattle.wire_core.proofs.SameLaws.{ip_is, key_is}
use Rattle.agent_spec.specs.declared.connection.Connection.{Connection}
use Rattle.agent_spec.specs.declared.held.Held.{Held}
use Rattle.agent_spec.specs.Connections.{at_private, at_time, by_public, closed, has_private, has_public, most, private_key, public_key}
use Rattle.agent_spec.specs.Connections.{with_peer}
use Rattle.agent_flows.specs.declared.opened.Opened.{Opened}
use Rattle.agent_flows.specs.declared.opened.Opened.TheVariants.{Yes, Full}
use Rattle.agent_flows.specs.Flows.{opened}
use Rattle.agent_spec.specs.Ranges.{at_number}
use Rattle.agent_ports.specs.declared.count.Count.{Count}
use Rattle.agent_ports.specs.declared.full.FullRanges.{FullRanges}
use Rattle.agent_ports.specs.declared.lease.Lease.{Lease}
use Rattle.agent_ports.specs.declared.remote_end.RemoteEnd.{RemoteEnd}
use Rattle.agent_ports.specs.Flags.{unflagged}
use Rattle.agent_ports.specs.Full.{AreFull, IsFull, IsKnown, IsTop, Renumbers, below_of, carries, end_of_connection, is_own}
use Rattle.agent_ports.specs.Full.{public_at, same_end}
use Rattle.agent_ports.specs.Leases.{counted_by, is_of, lease_of, port_at}
use Rattle.agent_ports.proofs.Machines.{counted_lease, counted_machine, counted_number}

both : (a b : Bool) → (a && b) ≡ true → (a ≡ true) × (b ≡ true)
both true b e = (refl, e)
both false b e = absurd (cc)

-- ---- over the ranges

-- the same ranges, of which no more need be full
pub full_moves : (conns new : List Connection) (e : RemoteEnd) (below less : ℕ) (hs : List Held) → less ≤ below
    → ((h : Held) → is_of e.machine h ≡ true → h.n < less → IsFull conns e (lease_of h) → IsFull new e (lease_of h))
    → AreFull conns e below hs → AreFull new e less hs
full_moves conns new e below less [] le moves full = tt
full_moves conns new e below less (h ∷ hs) le moves full =
    (λ own lt. moves h own lt (full.0 own (omega arith)), full_moves conns new e below less hs le moves full.1)

pub full_insert : (conns : List Connection) (e : RemoteEnd) (below : ℕ) (hs : List Held) (i : ℕ) (x : Held)
    → below ≤ x.n → AreFull conns e below hs → AreFull conns e below (insert hs i x)
full_insert conns e below [] zero x le full = (λ own lt. absurd (omega arith), tt)
full_insert conns e below [] (suc i) x le full = (λ own lt. absurd (omega arith), tt)
full_insert conns e below (h ∷ hs) zero x le full = (λ own lt. absurd (omega arith), full)
full_insert conns e below (h ∷ hs) (suc i) x le full = (full.0, full_insert conns e below hs i x le full.1)

full_unflagged : (conns : List Connection) (e : RemoteEnd) (below : ℕ) (flags : List Bool) (hs : List Held)
    → AreFull conns e below hs → AreFull conns e below (unflagged flags hs)
full_unflagged conns e below [] hs full = tt
full_unflagged conns e below (b ∷ flags) [] full = tt
full_unflagged conns e below (b ∷ flags) (h ∷ hs) full =
    by b (full_unflagged conns e below flags hs full.1)
  where
    by : (b : Bool) → AreFull conns e below (unflagged flags hs)
        → AreFull conns e below (cond b (unflagged flags hs) (h ∷ unflagged flags hs))
    by true rest = rest
    by false rest = (full.0, rest)

full_counted : (conns : List Connection) (e : RemoteEnd) (below n : ℕ) (change : Count) (hs : List Held)
    → AreFull conns e below hs → AreFull conns e below (map (at_number n (counted_by change)) hs)
full_counted conns e below n change [] full = tt
full_counted conns e below n change (h ∷ hs) full = (
  λ own lt.
      subst (IsFull conns e) (sym (counted_lease n change h))
      (full.0
      (ap (λ (a : Ip4). same_ip a e.machine) (sym (counted_machine n change h)) ∙ own)
      (subst (λ (k : ℕ). k < below) (counted_number n change h) lt)),
  full_counted conns e below n change hs full.1,
)

-- ---- what is known stays known

pub known_none : (full : FullRanges) (conns : List Connection) → IsTop full → IsKnown full conns []
known_none full conns top = record { top = top; known = λ e. tt }

nothing_full : (conns : List Connection) (e : RemoteEnd) (hs : List Held) → AreFull conns e 0 hs
nothing_full conns e [] = tt
nothing_full conns e (h ∷ hs) = (λ own lt. absurd (omega arith), nothing_full conns e hs)

pub known_granted : (full new : FullRanges) (conns : List Connection) (hs : List Held) (i : ℕ) (x : Held)
    → IsKnown full conns hs → IsTop new → ((e : RemoteEnd) → below_of new e ≤ below_of full e)
    → ((e : RemoteEnd) → below_of new e ≤ x.n) → IsKnown new conns (insert hs i x)
known_granted full new conns hs i x h top le under = record {
  top = top;
  known = λ e.
      full_insert conns e (below_of new e) hs i x (under e)
      (full_moves conns conns e (below_of full e) (below_of new e) hs (le e) (λ y own lt is. is) (h.known e));
}

pub known_unflagged : (full : FullRanges) (conns : List Connection) (hs : List Held) (flags : List Bool)
    → IsKnown full conns hs → IsKnown full conns (unflagged flags hs)
known_unflagged full conns hs flags h = record {
  top = h.top;
  known = λ e. full_unflagged conns e (below_of full e) flags hs (h.known e);
}

pub known_counted : (full : FullRanges) (conns : List Connection) (hs new : List Held) (n : ℕ) (change : Count)
    → IsKnown full conns hs → new ≡ map (at_number n (counted_by change)) hs → IsKnown full conns new
known_counted full conns hs new n change h is = record {
  top = h.top;
  known = λ e.
      subst (AreFull conns e (below_of full e)) (sym is)
      (full_counted conns e (below_of full e) n change hs (h.known e));
}

-- ---- a connection opens

found_still : (p : Connection → Bool) (cs ds : List Connection) (x : Connection) → find p cs ≡ Some x
    → find p (cs ++ ds) ≡ Some x
found_still p [] ds x e = absurd (cc)
found_still p (c ∷ cs) ds x e = by (p c) e (found_still p cs ds x)
  where
    by : (b : Bool) → cond b (Some c) (find p cs) ≡ Some x → (find p cs ≡ Some x → find p (cs ++ ds) ≡ Some x)
        → cond b (Some c) (find p (cs ++ ds)) ≡ Some x
    by true e later = e
    by false e later = later e

own_some : (e : RemoteEnd) (n : ℕ) (old new : Option Connection) → ((x : Connection) → old ≡ Some x → new ≡ Some x)
    → is_own e n old ≡ true → is_own e n new ≡ true
own_some e n None new same own = absurd (cc)
own_some e n (Some x) new same own = ap (is_own e n) (same x refl) ∙ own

pub known_opened : (full : FullRanges) (conns new : List Connection) (hs : List Held) (c : Connection)
    → IsKnown full conns hs → new ≡ conns ++ c ∷ [] → IsKnown full new hs
known_opened full conns new hs c h is = record {
  top = h.top;
  known = λ e.
      full_moves conns new e (below_of full e) (below_of full e) hs (omega arith)
      (λ y own lt was i within.
      own_some e y.n (by_public (public_at e (port_at (lease_of y) i).1) conns)
      (by_public (public_at e (port_at (lease_of y) i).1) new)
      (λ x found.
      ap (find (has_public (public_at e (port_at (lease_of y) i).1))) is
      ∙ found_still (has_public (public_at e (port_at (lease_of y) i).1)) conns (c ∷ []) x found)
      (was i within))
      (h.known e);
}

-- ---- a connection closes

found_in : (p : Connection → Bool) (cs : List Connection) (x : Connection) → find p cs ≡ Some x
    → In x cs × (p x ≡ true)
found_in p [] x e = absurd (cc)
found_in p (c ∷ cs) x e = by (p c) refl e (found_in p cs x)
  where
    by : (b : Bool) → p c ≡ b → cond b (Some c) (find p cs) ≡ Some x → (find p cs ≡ Some x → In x cs × (p x ≡ true))
        → In x (c ∷ cs) × (p x ≡ true)
    by true t e later =
        let same : c ≡ x = cc in (inl same, subst (λ (y : Connection). p y ≡ true) same t)
    by false t e later = let l = later e in (inr l.0, l.1)

found_stays : (p q : Connection → Bool) (cs : List Connection) (x : Connection) → find p cs ≡ Some x → q x ≡ false
    → find p (filter (λ c. not (q c)) cs) ≡ Some x
found_stays p q [] x e stays = absurd (cc)
found_stays p q (c ∷ cs) x e stays = by (p c) refl (q c) refl e (found_stays p q cs x)
  where
    by : (b : Bool) → p c ≡ b → (d : Bool) → q c ≡ d → cond b (Some c) (find p cs) ≡ Some x
        → (find p cs ≡ Some x → q x ≡ false → find p (filter (λ c. not (q c)) cs) ≡ Some x)
        → find p (cond (not d) (c ∷ filter (λ c. not (q c)) cs) (filter (λ c. not (q c)) cs)) ≡ Some x
    by true t true u e later =
        let same : c ≡ x = cc in absurd (let v = ap q same in cc)
    by true t false u e later = rw t e
    by false t true u e later = later e stays
    by false t false u e later = rw t (later e stays)

ends_are : (e : RemoteEnd) (port : ℕ) (x : Connection) → has_public (public_at e port) x ≡ true
    → same_ip x.machine e.machine ≡ true → end_of_connection x ≡ e
unfolding public_key
ends_are e port x public machine =
    let key : public_key x ≡ public_at e port = key_is (public_key x) (public_at e port) public in
    let at : x.machine ≡ e.machine = ip_is x.machine e.machine machine in
    let vip : x.vip ≡ e.vip = ap (λ (k : FlowKey). k.src) key in
    let remote : x.remote ≡ e.remote = ap (λ (k : FlowKey). k.dst) key in
    let rport : x.rport ≡ e.rport = ap (λ (k : FlowKey). k.dport) key in
    let proto : x.proto ≡ e.proto = ap (λ (k : FlowKey). k.proto) key in
    rw (at, vip, remote, rport, proto) refl

-- it is the closed one, or another
stays_own : (k : FlowKey) (conns : List Connection) (e : RemoteEnd) (less : ℕ) (l : Lease) (i : ℕ)
    (taken : Option Connection)
    → ((x : Connection) → In x conns → has_private k x ≡ true → taken ≡ Some x)
    → IfSome taken (λ d. l.n < less → end_of_connection d ≡ e → d.n ≡ l.n → ⊥)
    → l.n < less → (old : Option Connection) → by_public (public_at e (port_at l i).1) conns ≡ old
    → is_own e l.n old ≡ true
    → is_own e l.n (by_public (public_at e (port_at l i).1) (closed k conns)) ≡ true
stays_own k conns e less l i taken only never lt None found own = absurd (cc)
stays_own k conns e less l i taken only never lt (Some x) found own = by (has_private k x) refl
  where
    key : FlowKey
    key = public_at e (port_at l i).1

    seen : In x conns × (has_public key x ≡ true)
    seen = found_in (has_public key) conns x found

    halves : ((x.n == l.n) ≡ true) × (same_ip x.machine e.machine ≡ true)
    halves = both (x.n == l.n) (same_ip x.machine e.machine) own

    by : (b : Bool) → has_private k x ≡ b → is_own e l.n (by_public key (closed k conns)) ≡ true
    by false t = ap (is_own e l.n) (found_stays (has_public key) (has_private k) conns x found t) ∙ own
    by true t =
        absurd
        (subst
        (λ (o : Option Connection). IfSome o (λ d. l.n < less → end_of_connection d ≡ e → d.n ≡ l.n → ⊥))
        (only x seen.0 t)
        never
        lt
        (ends_are e (port_at l i).1 x seen.1 halves.1)
        (number_is x.n l.n halves.0))
      where
        number_is : (a b : ℕ) → (a == b) ≡ true → a ≡ b
        number_is a b e = grind (arith)

pub known_closed : (full new : FullRanges) (k : FlowKey) (conns left : List Connection) (hs : List Held)
    (taken : Option Connection) → IsKnown full conns hs → IsTop new
    → ((e : RemoteEnd) → below_of new e ≤ below_of full e)
    → IfSome taken (λ d. below_of new (end_of_connection d) ≤ d.n)
    → ((x : Connection) → In x conns → has_private k x ≡ true → taken ≡ Some x) → left ≡ closed k conns
    → IsKnown new left hs
known_closed full new k conns left hs taken h top le lowered only is = record {
  top = top;
  known = λ e.
      subst (λ (cs : List Connection). AreFull cs e (below_of new e) hs) (sym is)
      (full_moves conns (closed k conns) e (below_of full e) (below_of new e) hs (le e)
      (λ y own lt was i within.
      stays_own k conns e (below_of new e) (lease_of y) i taken only (never e (lease_of y) taken lowered) lt
      (by_public (public_at e (port_at (lease_of y) i).1) conns)
      refl
      (was i within))
      (h.known e));
}
  where
    never : (e : RemoteEnd) (l : Lease) (taken : Option Connection)
        → IfSome taken (λ d. below_of new (end_of_connection d) ≤ d.n)
        → IfSome taken (λ d. l.n < below_of new e → end_of_connection d ≡ e → d.n ≡ l.n → ⊥)
    never e l None lowered = tt
    never e l (Some d) lowered = λ lt same number.
        let under : below_of new e ≤ d.n = subst (λ (x : RemoteEnd). below_of new x ≤ d.n) same lowered in
        omega arith

-- ---- a connection changes

mapped_find : (p : Connection → Bool) (g : Connection → Connection) (cs : List Connection)
    → ((x : Connection) → p (g x) ≡ p x) → find p (map g cs) ≡ option_map g (find p cs)
mapped_find p g [] same = refl
mapped_find p g (c ∷ cs) same = rw (same c) (by (p c) (mapped_find p g cs same))
  where
    by : (b : Bool) → find p (map g cs) ≡ option_map g (find p cs)
        → cond b (Some (g c)) (find p (map g cs)) ≡ option_map g (cond b (Some c) (find p cs))
    by true rest = refl
    by false rest = rest

at_own : (k : FlowKey) (f : Connection → Connection) (e : RemoteEnd) (n : ℕ) (x : Connection)
    → (f x).machine ≡ x.machine → (has_private k x ≡ true → (f x).n ≡ x.n)
    → is_own e n (Some x) ≡ true → is_own e n (Some (at_private k f x)) ≡ true
at_own k f e n x machine number own = by (has_private k x) refl
  where
    by : (b : Bool) → has_private k x ≡ b → is_own e n (Some (cond b (f x) x)) ≡ true
    by true t =
        ap (λ (i : ℕ). (i == n) && same_ip (f x).machine e.machine) (number t)
        ∙ ap (λ (a : Ip4). (x.n == n) && same_ip a e.machine) machine
        ∙ own
    by false t = own

at_public : (k key : FlowKey) (f : Connection → Connection) (x : Connection) → public_key (f x) ≡ public_key x
    → has_public key (at_private k f x) ≡ has_public key x
at_public k key f x same = by (has_private k x)
  where
    by : (b : Bool) → has_public key (cond b (f x) x) ≡ has_public key x
    by true = ap (λ (y : FlowKey). same_key y key) same
    by false = refl

changed_own : (k : FlowKey) (f : Connection → Connection) (conns : List Connection) (e : RemoteEnd) (n : ℕ) (key : FlowKey)
    → ((x : Connection) → public_key (f x) ≡ public_key x) → ((x : Connection) → (f x).machine ≡ x.machine)
    → ((x : Connection) → In x conns → has_private k x ≡ true → (f x).n ≡ x.n)
    → is_own e n (by_public key conns) ≡ true
    → is_own e n (by_public key (map (at_private k f) conns)) ≡ true
changed_own k f conns e n key public machine number own =
    ap (is_own e n) (mapped_find (has_public key) (at_private k f) conns (λ x. at_public k key f x (public x)))
    ∙ by (by_public key conns) refl own
  where
    by : (o : Option Connection) → by_public key conns ≡ o → is_own e n o ≡ true
        → is_own e n (option_map (at_private k f) o) ≡ true
    by None found own = absurd (cc)
    by (Some x) found own =
        let seen : In x conns × (has_public key x ≡ true) = found_in (has_public key) conns x found in
        at_own k f e n x (machine x) (number x seen.0) own

pub known_changed : (full : FullRanges) (k : FlowKey) (f : Connection → Connection) (conns new : List Connection)
    (hs : List Held) → IsKnown full conns hs → ((x : Connection) → public_key (f x) ≡ public_key x)
    → ((x : Connection) → (f x).machine ≡ x.machine)
    → ((x : Connection) → In x conns → has_private k x ≡ true → (f x).n ≡ x.n)
    → new ≡ map (at_private k f) conns → IsKnown full new hs
known_changed full k f conns new hs h public machine number is = record {
  top = h.top;
  known = λ e.
      subst (λ (cs : List Connection). AreFull cs e (below_of full e) hs) (sym is)
      (full_moves conns (map (at_private k f) conns) e (below_of full e) (below_of full e) hs (omega arith)
      (λ y own lt was i within.
      changed_own k f conns e y.n (public_at e (port_at (lease_of y) i).1) public machine number (was i within))
      (h.known e));
}

-- nothing is known any more
pub known_cleared : (full : FullRanges) (conns : List Connection) (hs : List Held) → IsTop full
    → ((e : RemoteEnd) → below_of full e ≡ 0) → IsKnown full conns hs
known_cleared full conns hs top none = record {
  top = top;
  known = λ e. subst (λ (n : ℕ). AreFull conns e n hs) (sym (none e)) (nothing_full conns e hs);
}

same_public : (now : ℕ) (x : Connection) → public_key (at_time now x) ≡ public_key x
unfolding public_key
same_public now x = refl

pub known_touched : (full : FullRanges) (k : FlowKey) (now : ℕ) (conns new : List Connection) (hs : List Held)
    → IsKnown full conns hs → new ≡ map (at_private k (at_time now)) conns → IsKnown full new hs
known_touched full k now conns new hs h is =
    known_changed full k (at_time now) conns new hs h (same_public now) (λ x. refl) (λ x there hit. refl) is

peer_public : (peer : Option Ip4) (n : ℕ) (x : Connection) → public_key (with_peer peer n x) ≡ public_key x
unfolding public_key
peer_public peer n x = refl

pub known_peer : (full new : FullRanges) (k : FlowKey) (peer : Option Ip4) (n : ℕ) (conns left : List Connection)
    (hs : List Held) (found : Option Connection) → IsKnown full conns hs → Renumbers full new found n
    → ((x : Connection) → In x conns → has_private k x ≡ true → found ≡ Some x)
    → left ≡ map (at_private k (with_peer peer n)) conns → IsKnown new left hs
known_peer full new k peer n conns left hs found h r own is =
    ⊎_elim
    (λ same.
    subst (λ (f : FullRanges). IsKnown f left hs) (sym same.0)
    (known_changed full k (with_peer peer n) conns left hs h (peer_public peer n) (λ x. refl)
    (λ x there hit. sym (subst (λ (o : Option Connection). IfSome o (λ c. c.n ≡ n)) (own x there hit) same.1))
    is))
    (λ none. known_cleared new left hs r.top none)
    r.either

pub open_more : (cs new : List Connection) (c : Connection) (came : Opened) → (new, came) ≡ opened cs c → came ≡ Yes
    → new ≡ cs ++ c ∷ []
open_more cs new c came e opens = by (nat_le most (length cs)) e
  where
    by : (b : Bool) → (new, came) ≡ cond {A = List Connection × Opened} b (cs, Full) (cs ++ c ∷ [], Yes)
        → new ≡ cs ++ c ∷ []
    by true e = let second : came ≡ Full = ap (λ (p : List Connection × Opened). p.1) e in absurd (cc)
    by false e = ap (λ (p : List Connection × Opened). p.0) e
