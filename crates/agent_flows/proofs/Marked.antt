-- Slots of which one is marked.
use Rattle.std.proofs.Common.{◌≡◌, ◌≢◌, ℕ, zero, suc, ◌+◌, ◌<◌, ◌≤◌, ◌==◌, Bool, true, false, not, cond, find}
use Rattle.std.proofs.Common.{List, [], ◌∷◌, ◌++◌, map, filter, length, take, get_or, set, Option, Some, None}
use Rattle.std.proofs.Common.{refl, ap, sym, ◌∙◌, subst, arith, inl, inr}
use Rattle.std.specs.Prelude.{if◌then◌else◌}
use Rattle.std.proofs.lemmas.Bool.Decides.{nat_tests}
use Rattle.std.proofs.lemmas.Bool.{eqb-true}
use Rattle.wire_core.specs.Members.{In}
use Rattle.agent_spec.specs.declared.connection.Connection.{Connection}
use Rattle.agent_flows.specs.Slots.{Slots, listed, slot_at, is_at, slot_has, Marks}

suc_zero : (i : ℕ) → (suc i == 0) ≡ false
suc_zero i = grind (arith, nat_tests)

zero_suc : (i : ℕ) → (0 == suc i) ≡ false
zero_suc i = grind (arith, nat_tests)

pub listed_append : (ss ts : Slots) → listed (ss ++ ts) ≡ listed ss ++ listed ts
unfolding listed
listed_append [] ts = refl
listed_append (None ∷ ss) ts = listed_append ss ts
listed_append (Some c ∷ ss) ts = ap (λ (cs : List Connection). c ∷ cs) (listed_append ss ts)

-- ---- the mark in the slots after the first

abbrev before : Option ℕ → Option ℕ
before None = None
before (Some zero) = None
before (Some (suc j)) = Some j

at_tail : (o : Option ℕ) (i : ℕ) → is_at (before o) i ≡ is_at o (suc i)
at_tail None i = refl
at_tail (Some zero) i = grind (arith, nat_tests)
at_tail (Some (suc j)) i = grind (arith, nat_tests)

marks_tail : (p : Connection → Bool) (s : Option Connection) (ss : Slots) (o : Option ℕ)
    → Marks p (s ∷ ss) o → Marks p ss (before o)
marks_tail p s ss o m i = at_tail o i ∙ m (suc i)

slot_tail : (s : Option Connection) (ss : Slots) (o : Option ℕ) → is_at o 0 ≡ false
    → slot_at ss (before o) ≡ slot_at (s ∷ ss) o
slot_tail s ss None e = refl
slot_tail s ss (Some zero) e = absurd (cc)
slot_tail s ss (Some (suc j)) e = refl

-- ---- what the list has

-- a look-up
pub find_marked : (p : Connection → Bool) (ss : Slots) (o : Option ℕ) → Marks p ss o → find p (listed ss) ≡ slot_at ss o
unfolding listed
find_marked p [] None m = refl
find_marked p [] (Some i) m = refl
find_marked p (None ∷ ss) o m = find_marked p ss (before o) (marks_tail p None ss o m) ∙ slot_tail None ss o (m 0)
find_marked p (Some c ∷ ss) o m = by (p c) refl o m (find_marked p ss (before o) (marks_tail p (Some c) ss o m))
  where
    here : (o : Option ℕ) → is_at o 0 ≡ true → slot_at (Some c ∷ ss) o ≡ Some c
    here None e = absurd (cc)
    here (Some zero) e = refl
    here (Some (suc j)) e = let z = suc_zero j in absurd (cc)

    by : (b : Bool) → p c ≡ b → (o : Option ℕ) → Marks p (Some c ∷ ss) o → find p (listed ss) ≡ slot_at ss (before o)
        → cond b (Some c) (find p (listed ss)) ≡ slot_at (Some c ∷ ss) o
    by true e o m later = sym (here o (m 0 ∙ e))
    by false e o m later = later ∙ slot_tail (Some c) ss o (m 0 ∙ e)

-- none before the mark
pub none_before : (p : Connection → Bool) (ss : Slots) (i : ℕ) → Marks p ss (Some i) → find p (listed (take i ss)) ≡ None
unfolding listed
none_before p [] zero m = refl
none_before p [] (suc i) m = refl
none_before p (s ∷ ss) zero m = refl
none_before p (None ∷ ss) (suc i) m = none_before p ss i (marks_tail p None ss (Some (suc i)) m)
none_before p (Some c ∷ ss) (suc i) m =
    rw (sym (m 0) ∙ suc_zero i) (none_before p ss i (marks_tail p (Some c) ss (Some (suc i)) m))

map_none : (p : Connection → Bool) (f : Connection → Connection) (ss : Slots) → Marks p ss None
    → map (λ x. if p x then f x else x) (listed ss) ≡ listed ss
unfolding listed
map_none p f [] m = refl
map_none p f (None ∷ ss) m = map_none p f ss (marks_tail p None ss None m)
map_none p f (Some c ∷ ss) m =
    rw (sym (m 0)) (ap (λ (cs : List Connection). c ∷ cs) (map_none p f ss (marks_tail p (Some c) ss None m)))

filter_none : (p : Connection → Bool) (ss : Slots) → Marks p ss None → filter (λ x. not (p x)) (listed ss) ≡ listed ss
unfolding listed
filter_none p [] m = refl
filter_none p (None ∷ ss) m = filter_none p ss (marks_tail p None ss None m)
filter_none p (Some c ∷ ss) m =
    rw (sym (m 0)) (ap (λ (cs : List Connection). c ∷ cs) (filter_none p ss (marks_tail p (Some c) ss None m)))

-- an edit in its slot
pub map_marked : (p : Connection → Bool) (f : Connection → Connection) (ss : Slots) (i : ℕ) (c : Connection)
    → Marks p ss (Some i) → get_or ss i None ≡ Some c
    → listed (set ss i (Some (f c))) ≡ map (λ x. if p x then f x else x) (listed ss)
unfolding listed
map_marked p f [] i c m e = absurd (cc)
map_marked p f (None ∷ ss) zero c m e = absurd (cc)
map_marked p f (Some d ∷ ss) zero c m e =
    rw (sym (m 0))
    (subst
    (λ (x : Option Connection). listed (option_f x ∷ ss) ≡ f d ∷ map (λ x. if p x then f x else x) (listed ss))
    e
    (ap (λ (cs : List Connection). f d ∷ cs) (sym (map_none p f ss (marks_tail p (Some d) ss (Some zero) m)))))
  where
    option_f : Option Connection → Option Connection
    option_f None = None
    option_f (Some x) = Some (f x)
map_marked p f (None ∷ ss) (suc i) c m e = map_marked p f ss i c (marks_tail p None ss (Some (suc i)) m) e
map_marked p f (Some d ∷ ss) (suc i) c m e =
    rw (sym (m 0) ∙ suc_zero i)
    (ap (λ (cs : List Connection). d ∷ cs) (map_marked p f ss i c (marks_tail p (Some d) ss (Some (suc i)) m) e))

-- an emptied slot
pub filter_marked : (p : Connection → Bool) (ss : Slots) (i : ℕ) (c : Connection) → Marks p ss (Some i)
    → get_or ss i None ≡ Some c → listed (set ss i None) ≡ filter (λ x. not (p x)) (listed ss)
unfolding listed
filter_marked p [] i c m e = absurd (cc)
filter_marked p (None ∷ ss) zero c m e = absurd (cc)
filter_marked p (Some d ∷ ss) zero c m e =
    rw (sym (m 0)) (sym (filter_none p ss (marks_tail p (Some d) ss (Some zero) m)))
filter_marked p (None ∷ ss) (suc i) c m e = filter_marked p ss i c (marks_tail p None ss (Some (suc i)) m) e
filter_marked p (Some d ∷ ss) (suc i) c m e =
    rw (sym (m 0) ∙ suc_zero i)
    (ap (λ (cs : List Connection). d ∷ cs) (filter_marked p ss i c (marks_tail p (Some d) ss (Some (suc i)) m) e))

-- ---- marks after an edit

pub push_marked : (p : Connection → Bool) (ss : Slots) (c : Connection) → p c ≡ true → Marks p ss None
    → Marks p (ss ++ Some c ∷ []) (Some (length ss))
push_marked p [] c e m zero = sym e
push_marked p [] c e m (suc i) = zero_suc i
push_marked p (s ∷ ss) c e m zero = suc_zero (length ss) ∙ m zero
push_marked p (s ∷ ss) c e m (suc i) =
    sym (at_tail (Some (suc (length ss))) i) ∙ push_marked p ss c e (marks_tail p s ss None m) i

pub push_other : (p : Connection → Bool) (ss : Slots) (c : Connection) (o : Option ℕ) → p c ≡ false → Marks p ss o
    → Marks p (ss ++ Some c ∷ []) o
push_other p [] c o e m zero = m zero ∙ sym e
push_other p [] c o e m (suc i) = m (suc i)
push_other p (s ∷ ss) c o e m zero = m zero
push_other p (s ∷ ss) c o e m (suc i) = sym (at_tail o i) ∙ push_other p ss c (before o) e (marks_tail p s ss o m) i

-- the slot at i is another one, and all others stay
pub marks_set : (p : Connection → Bool) (ss : Slots) (i : ℕ) (s : Option Connection) (o o2 : Option ℕ) → Marks p ss o
    → (j : ℕ) → (j ≢ i → is_at o2 j ≡ is_at o j) → i < length ss → is_at o2 i ≡ slot_has p s
    → is_at o2 j ≡ slot_has p (get_or (set ss i s) j None)
marks_set p [] i s o o2 m j same lt here = absurd (omega arith)
marks_set p (t ∷ ss) zero s o o2 m zero same lt here = here
marks_set p (t ∷ ss) zero s o o2 m (suc j) same lt here = same (λ e. absurd (omega arith)) ∙ m (suc j)
marks_set p (t ∷ ss) (suc i) s o o2 m zero same lt here = same (λ e. absurd (omega arith)) ∙ m zero
marks_set p (t ∷ ss) (suc i) s o o2 m (suc j) same lt here =
    sym (at_tail o2 j)
    ∙ marks_set p ss i s (before o) (before o2) (marks_tail p t ss o m) j
    (λ ne. at_tail o2 j ∙ same (λ e. ne (omega arith)) ∙ sym (at_tail o j))
    (omega arith)
    (at_tail o2 i ∙ here)

pub within : (ss : Slots) (i : ℕ) (c : Connection) → get_or ss i None ≡ Some c → i < length ss
within [] i c e = absurd (cc)
within (s ∷ ss) zero c e = omega arith
within (s ∷ ss) (suc i) c e = let lt = within ss i c e in omega arith

pub is_place : (o : Option ℕ) (i : ℕ) → is_at o i ≡ true → o ≡ Some i
is_place None i e = absurd (cc)
is_place (Some j) i e = ap (λ (n : ℕ). Some n) (eqb-true j i e)

-- the one of which p holds is where the mark is
pub only_marked : (p : Connection → Bool) (ss : Slots) (o : Option ℕ) (c : Connection) → Marks p ss o → In c (listed ss)
    → p c ≡ true → slot_at ss o ≡ Some c
unfolding listed
only_marked p [] o c m is hit = absurd is
only_marked p (None ∷ ss) o c m is hit =
    sym (slot_tail None ss o (m 0)) ∙ only_marked p ss (before o) c (marks_tail p None ss o m) is hit
only_marked p (Some d ∷ ss) o c m (inl same) hit = here o (m 0 ∙ ap p same ∙ hit)
  where
    here : (o : Option ℕ) → is_at o 0 ≡ true → slot_at (Some d ∷ ss) o ≡ Some c
    here None e = absurd (cc)
    here (Some zero) e = ap (λ (x : Connection). Some x) same
    here (Some (suc j)) e = let z = suc_zero j in absurd (cc)
only_marked p (Some d ∷ ss) o c m (inr later) hit =
    further o (m 0) (only_marked p ss (before o) c (marks_tail p (Some d) ss o m) later hit)
  where
    further : (o : Option ℕ) → is_at o 0 ≡ p d → slot_at ss (before o) ≡ Some c → slot_at (Some d ∷ ss) o ≡ Some c
    further None e found = absurd (cc)
    further (Some zero) e found = absurd (cc)
    further (Some (suc j)) e found = found
