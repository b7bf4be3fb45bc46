-- The ranges of each machine.
use Rattle.std.proofs.Common.{◌≡◌, ℕ, ◌+◌, ◌<◌, ◌==◌, min, Bool, true, false, cond, List, [], ◌∷◌, ◌++◌, map, filter}
use Rattle.std.proofs.Common.{length, drop, get_or, take, refl, ap, sym, ◌∙◌, subst, arith, Option, Some, None}
use Rattle.std.specs.Prelude.{if◌then◌else◌, is_some, IsSome, option_map, OnErr, Result, Ok, Err}
use Rattle.std.proofs.lemmas.List.{take_more}
use Rattle.wire_core.specs.declared.address.Ip4.{Ip4}
use Rattle.wire_core.specs.Same.{same_ip}
use Rattle.wire_core.proofs.SameLaws.{ip_is}
use Rattle.agent_spec.specs.declared.held.Held.{Held}
use Rattle.agent_spec.specs.Ranges.{at_number, numbered, places, ports_in, ports_of}
use Rattle.agent_ports.specs.declared.count.Count.{Count}
use Rattle.agent_ports.specs.declared.count.Count.TheVariants.{Opened, Closed}
use Rattle.agent_ports.specs.declared.lease.Lease.{Lease}
use Rattle.agent_ports.specs.Leases.{counted_by, entry_leases, held_number, is_of, lease_number, lease_of, lease_ports}
use Rattle.agent_ports.specs.Leases.{leases_of, IsIndexed}
use Rattle.agent_ports.specs.Order.{AllAbove, Ascend}

-- the first of some ranges, and the others
pub leases_cons : (h : Held) (hs : List Held) (m : Ip4)
    → leases_of (h ∷ hs) m ≡ cond (is_of m h) (lease_of h ∷ leases_of hs m) (leases_of hs m)
leases_cons h hs m = by (is_of m h)
  where
    by : (b : Bool) → map lease_of (cond b (h ∷ filter (is_of m) hs) (filter (is_of m) hs))
        ≡ cond b (lease_of h ∷ leases_of hs m) (leases_of hs m)
    by true = refl
    by false = refl

pub leases_push : (hs : List Held) (h : Held) (m : Ip4)
    → leases_of (hs ++ h ∷ []) m ≡ (if same_ip h.machine m then leases_of hs m ++ lease_of h ∷ [] else leases_of hs m)
leases_push [] h m = leases_cons h [] m
leases_push (x ∷ hs) h m =
    leases_cons x (hs ++ h ∷ []) m
    ∙ ap (λ (l : List Lease). cond (is_of m x) (lease_of x ∷ l) l) (leases_push hs h m)
    ∙ by (is_of m x) (same_ip h.machine m)
    ∙ ap (λ (l : List Lease). if same_ip h.machine m then l ++ lease_of h ∷ [] else l) (sym (leases_cons x hs m))
  where
    by : (b d : Bool)
        → cond b
        (lease_of x ∷ (if d then leases_of hs m ++ lease_of h ∷ [] else leases_of hs m))
        (if d then leases_of hs m ++ lease_of h ∷ [] else leases_of hs m)
        ≡ (if d then cond b (lease_of x ∷ leases_of hs m) (leases_of hs m) ++ lease_of h ∷ []
        else cond b (lease_of x ∷ leases_of hs m) (leases_of hs m))
    by true true = refl
    by true false = refl
    by false true = refl
    by false false = refl

-- ---- a machine's ranges ascend

above_filter : (n : ℕ) (hs : List Held) (m : Ip4) → AllAbove held_number n hs → AllAbove lease_number n (leases_of hs m)
above_filter n [] m h = tt
above_filter n (x ∷ hs) m h =
    subst (AllAbove lease_number n) (sym (leases_cons x hs m)) (by (is_of m x) (above_filter n hs m h.1))
  where
    by : (b : Bool) → AllAbove lease_number n (leases_of hs m)
        → AllAbove lease_number n (cond b (lease_of x ∷ leases_of hs m) (leases_of hs m))
    by true rest = (h.0, rest)
    by false rest = rest

pub leases_ascend : (hs : List Held) (m : Ip4) → Ascend held_number hs → Ascend lease_number (leases_of hs m)
leases_ascend [] m h = tt
leases_ascend (x ∷ hs) m h =
    subst (Ascend lease_number) (sym (leases_cons x hs m)) (by (is_of m x) (leases_ascend hs m h.1))
  where
    by : (b : Bool) → Ascend lease_number (leases_of hs m)
        → Ascend lease_number (cond b (lease_of x ∷ leases_of hs m) (leases_of hs m))
    by true rest = (above_filter x.n hs m h.0, rest)
    by false rest = rest

-- ---- counts change nothing of it

number_stays : (b : Bool) (change : Count) (h : Held) → (cond b (counted_by change h) h).n ≡ h.n
number_stays true Opened h = refl
number_stays true (Closed now) h = refl
number_stays false change h = refl

machine_stays : (b : Bool) (change : Count) (h : Held) → (cond b (counted_by change h) h).machine ≡ h.machine
machine_stays true Opened h = refl
machine_stays true (Closed now) h = refl
machine_stays false change h = refl

lease_stays : (b : Bool) (change : Count) (h : Held) → lease_of (cond b (counted_by change h) h) ≡ lease_of h
lease_stays true Opened h = refl
lease_stays true (Closed now) h = refl
lease_stays false change h = refl

pub counted_machine : (n : ℕ) (change : Count) (h : Held) → (at_number n (counted_by change) h).machine ≡ h.machine
counted_machine n change h = machine_stays (h.n == n) change h

pub counted_number : (n : ℕ) (change : Count) (h : Held) → (at_number n (counted_by change) h).n ≡ h.n
counted_number n change h = number_stays (h.n == n) change h

pub counted_lease : (n : ℕ) (change : Count) (h : Held) → lease_of (at_number n (counted_by change) h) ≡ lease_of h
counted_lease n change h = lease_stays (h.n == n) change h

above_counted : (k n : ℕ) (change : Count) (hs : List Held) → AllAbove held_number k hs
    → AllAbove held_number k (map (at_number n (counted_by change)) hs)
above_counted k n change [] h = tt
above_counted k n change (x ∷ hs) h =
    (subst (λ (i : ℕ). k < i) (sym (counted_number n change x)) h.0, above_counted k n change hs h.1)

ascend_counted : (n : ℕ) (change : Count) (hs : List Held) → Ascend held_number hs
    → Ascend held_number (map (at_number n (counted_by change)) hs)
ascend_counted n change [] h = tt
ascend_counted n change (x ∷ hs) h = (
  subst
      (λ (i : ℕ). AllAbove held_number i (map (at_number n (counted_by change)) hs))
      (sym (counted_number n change x))
      (above_counted x.n n change hs h.0),
  ascend_counted n change hs h.1,
)

leases_counted : (n : ℕ) (change : Count) (hs : List Held) (m : Ip4)
    → leases_of hs m ≡ leases_of (map (at_number n (counted_by change)) hs) m
leases_counted n change [] m = refl
leases_counted n change (x ∷ hs) m =
    leases_cons x hs m
    ∙ ap (λ (l : List Lease). cond (is_of m x) (lease_of x ∷ l) l) (leases_counted n change hs m)
    ∙ ap
    (λ (l : Lease). cond (is_of m x) (l ∷ leases_of (map (at_number n (counted_by change)) hs) m)
    (leases_of (map (at_number n (counted_by change)) hs) m))
    (sym (counted_lease n change x))
    ∙ ap
    (λ (a : Ip4). cond (same_ip a m) (lease_of (at_number n (counted_by change) x)
    ∷ leases_of (map (at_number n (counted_by change)) hs) m)
    (leases_of (map (at_number n (counted_by change)) hs) m))
    (sym (counted_machine n change x))
    ∙ sym (leases_cons (at_number n (counted_by change) x) (map (at_number n (counted_by change)) hs) m)

pub indexed_counted : (n : ℕ) (change : Count) (hs new : List Held) (entry : Ip4 → Option (List Lease))
    → IsIndexed hs entry → new ≡ map (at_number n (counted_by change)) hs → IsIndexed new entry
indexed_counted n change hs new entry h is = record {
  ascend = subst (Ascend held_number) (sym is) (ascend_counted n change hs h.ascend);
  leases = λ m. h.leases m ∙ leases_counted n change hs m ∙ ap (λ (l : List Held). leases_of l m) (sym is);
}

-- ---- entries

pub on_err : {T E : Type 0} (r : Result T E) (P : Type 0) → P → OnErr r P
on_err (Ok x) P p = tt
on_err (Err e) P p = p

pub absent : (o : Option (List Lease)) → is_some o ≡ false → o ≡ None
absent None e = refl
absent (Some ls) e = absurd (cc)

pub made_entry : (old new : Ip4 → Option (List Lease)) (a m : Ip4) → new m ≡ (if same_ip a m then Some [] else old m)
    → old a ≡ None → entry_leases (new m) ≡ entry_leases (old m)
made_entry old new a m is none = ap entry_leases is ∙ by (same_ip a m) refl
  where
    by : (b : Bool) → same_ip a m ≡ b → entry_leases (if b then Some [] else old m) ≡ entry_leases (old m)
    by true e = ap entry_leases (sym none ∙ ap old (ip_is a m e))
    by false e = refl

pub added_entry : (old made new : Ip4 → Option (List Lease)) (h : Held)
    → ((m : Ip4) → entry_leases (made m) ≡ entry_leases (old m)) → IsSome (made h.machine)
    → ((m : Ip4) → new m
    ≡ (if same_ip h.machine m then option_map (λ ls. ls ++ lease_of h ∷ []) (made h.machine) else made m))
    → (m : Ip4) → entry_leases (new m)
    ≡ (if same_ip h.machine m then entry_leases (old m) ++ lease_of h ∷ [] else entry_leases (old m))
added_entry old made new h same some is m = ap entry_leases (is m) ∙ by (same_ip h.machine m) refl
  where
    more : (o : Option (List Lease)) → IsSome o
        → entry_leases (option_map (λ ls. ls ++ lease_of h ∷ []) o) ≡ entry_leases o ++ lease_of h ∷ []
    more None s = absurd (cc)
    more (Some ls) s = refl

    by : (b : Bool) → same_ip h.machine m ≡ b
        → entry_leases (if b then option_map (λ ls. ls ++ lease_of h ∷ []) (made h.machine) else made m)
        ≡ (if b then entry_leases (old m) ++ lease_of h ∷ [] else entry_leases (old m))
    by true e =
        more (made h.machine) some
        ∙ ap (λ (a : Ip4). entry_leases (made a) ++ lease_of h ∷ []) (ip_is h.machine m e)
        ∙ ap (λ (l : List Lease). l ++ lease_of h ∷ []) (same m)
    by false e = same m

pub unchanged_entry : (old made new : Ip4 → Option (List Lease)) (a : Ip4)
    → ((m : Ip4) → entry_leases (made m) ≡ entry_leases (old m))
    → ((m : Ip4) → new m ≡ (if same_ip a m then made a else made m))
    → (m : Ip4) → entry_leases (new m) ≡ entry_leases (old m)
unchanged_entry old made new a same is m = ap entry_leases (is m) ∙ by (same_ip a m) refl ∙ same m
  where
    by : (b : Bool) → same_ip a m ≡ b → entry_leases (if b then made a else made m) ≡ entry_leases (made m)
    by true e = ap (λ (x : Ip4). entry_leases (made x)) (ip_is a m e)
    by false e = refl

-- the leases of one range more
pub leases_more : (hs : List Held) (i : ℕ) (d : Held) (m : Ip4) → i < length hs
    → leases_of (take (i + 1) hs) m
    ≡ (if same_ip (get_or hs i d).machine m then leases_of (take i hs) m ++ lease_of (get_or hs i d) ∷ []
    else leases_of (take i hs) m)
leases_more hs i d m lt =
    ap (λ (l : List Held). leases_of l m) (take_more hs i d lt)
    ∙ leases_push (take i hs) (get_or hs i d) m

-- one range more has its entry
pub entries_more : (hs : List Held) (i : ℕ) (d : Held) (m : Ip4) (old new : List Lease) → i < length hs
    → new ≡ (if same_ip (get_or hs i d).machine m then old ++ lease_of (get_or hs i d) ∷ [] else old)
    → old ≡ leases_of (take i hs) m → new ≡ leases_of (take (i + 1) hs) m
entries_more hs i d m old new lt is was =
    is
    ∙ ap
    (λ (l : List Lease). if same_ip (get_or hs i d).machine m then l ++ lease_of (get_or hs i d) ∷ [] else l)
    was
    ∙ sym (leases_more hs i d m lt)

-- ---- one more

pub indexed_push : (hs new : List Held) (x : Held) (entry more : Ip4 → Option (List Lease)) → IsIndexed hs entry
    → Ascend held_number (hs ++ x ∷ []) → new ≡ hs ++ x ∷ []
    → ((m : Ip4) → entry_leases (more m)
    ≡ (if same_ip x.machine m then entry_leases (entry m) ++ lease_of x ∷ [] else entry_leases (entry m)))
    → IsIndexed new more
indexed_push hs new x entry more h ascend is added = record {
  ascend = subst (Ascend held_number) (sym is) ascend;
  leases = λ m.
      added m
      ∙ ap (λ (l : List Lease). if same_ip x.machine m then l ++ lease_of x ∷ [] else l) (h.leases m)
      ∙ sym (leases_push hs x m)
      ∙ ap (λ (l : List Held). leases_of l m) (sym is);
}

-- ---- ports

-- a machine's ports are those of its leases
pub ports_are : (hs : List Held) (m : Ip4) → ports_of hs m ≡ lease_ports (leases_of hs m)
unfolding ports_of lease_ports
ports_are [] m = refl
ports_are (x ∷ hs) m =
    ap (λ l. ports_in m x ++ l) (ports_are hs m)
    ∙ by (is_of m x)
    ∙ ap lease_ports (sym (leases_cons x hs m))
  where
    by : (b : Bool)
        → cond b (map (numbered x) places) [] ++ lease_ports (leases_of hs m)
        ≡ lease_ports (cond b (lease_of x ∷ leases_of hs m) (leases_of hs m))
    by true = refl
    by false = refl
