-- Connections that were looked at, in slots.
use Rattle.std.proofs.Common.{◌≡◌, ℕ, zero, suc, ◌+◌, ◌-◌, ◌<◌, ◌≤◌, min, Bool, true, false, not, cond, find, filter}
use Rattle.std.proofs.Common.{List, [], ◌∷◌, ◌++◌, length, take, drop, get_or, set, Option, Some, None}
use Rattle.std.proofs.Common.{refl, ap, sym, ◌∙◌, subst, arith}
use Rattle.std.specs.Prelude.{is_some, nat_le, nat_lt, slice_get}
use Rattle.std.proofs.lemmas.Bool.Decides.{nat_tests}
use native.Mathlib.Numerals.{unary_clauses}
use Rattle.agent_spec.specs.declared.connection.Connection.{Connection}
use Rattle.agent_spec.specs.Connections.{is_idle}
use Rattle.agent_flows.specs.Flows.{first_then, without}
use Rattle.agent_flows.specs.declared.looked.Looked.{Looked}
use Rattle.agent_flows.specs.Slots.{Slots, listed, slot_has, is_older, IsLooked}

pub none_split : (b : Bool) (c : Connection) (o : Option Connection) → cond b (Some c) o ≡ None
    → (b ≡ false) × (o ≡ None)
none_split true c o e = absurd (cc)
none_split false c o e = (refl, e)

pub found_holds : (p : Connection → Bool) (cs : List Connection) (c : Connection) → find p cs ≡ Some c → p c ≡ true
found_holds p [] c e = absurd (cc)
found_holds p (d ∷ cs) c e = by (p d) refl e (found_holds p cs c)
  where
    by : (b : Bool) → p d ≡ b → cond b (Some d) (find p cs) ≡ Some c → (find p cs ≡ Some c → p c ≡ true) → p c ≡ true
    by true t e later = let same : d ≡ c = cc in subst (λ (x : Connection). p x ≡ true) same t
    by false t e later = later e

-- ---- up to a place

pub none_in_none : (p : Connection → Bool) (ss : Slots) → find p (listed (take 0 ss)) ≡ None
unfolding listed
none_in_none p [] = refl
none_in_none p (s ∷ ss) = refl

none_next : (p : Connection → Bool) (ss : Slots) (i : ℕ) → slot_has p (get_or ss i None) ≡ false
    → find p (listed (take i ss)) ≡ None → find p (listed (take (suc i) ss)) ≡ None
unfolding listed
none_next p [] i miss e = refl
none_next p (None ∷ ss) zero miss e = none_in_none p ss
none_next p (Some c ∷ ss) zero miss e = rw miss (none_in_none p ss)
none_next p (None ∷ ss) (suc i) miss e = none_next p ss i miss e
none_next p (Some c ∷ ss) (suc i) miss e =
    let s : (p c ≡ false) × (find p (listed (take i ss)) ≡ None) = none_split (p c) c _ e in
    rw s.0 (none_next p ss i miss s.1)

-- one more that doesn't pass
pub none_more : (p : Connection → Bool) (ss : Slots) (i : ℕ) → slot_has p (get_or ss i None) ≡ false
    → find p (listed (take i ss)) ≡ None → find p (listed (take (i + 1) ss)) ≡ None
none_more p ss i miss e = simp unary_clauses (none_next p ss i miss e)

-- the first that passes
pub first_found : (p : Connection → Bool) (ss : Slots) (i : ℕ) → slot_has p (get_or ss i None) ≡ true
    → find p (listed (take i ss)) ≡ None → find p (listed ss) ≡ get_or ss i None
unfolding listed
first_found p [] i hit e = absurd (cc)
first_found p (None ∷ ss) zero hit e = absurd (cc)
first_found p (Some c ∷ ss) zero hit e = rw hit refl
first_found p (None ∷ ss) (suc i) hit e = first_found p ss i hit e
first_found p (Some c ∷ ss) (suc i) hit e =
    let s : (p c ≡ false) × (find p (listed (take i ss)) ≡ None) = none_split (p c) c _ e in
    rw s.0 (first_found p ss i hit s.1)

-- none up to the end
pub none_found : (p : Connection → Bool) (ss : Slots) (i : ℕ) → length ss ≤ i → find p (listed (take i ss)) ≡ None
    → find p (listed ss) ≡ get_or ss i None
unfolding listed
none_found p [] i le e = refl
none_found p (s ∷ ss) zero le e = absurd (omega arith)
none_found p (None ∷ ss) (suc i) le e = none_found p ss i (omega arith) e
none_found p (Some c ∷ ss) (suc i) le e =
    let s : (p c ≡ false) × (find p (listed (take i ss)) ≡ None) = none_split (p c) c _ e in
    rw s.0 (none_found p ss i (omega arith) s.1)

-- an edit leaves one that doesn't pass
pub none_set : (p : Connection → Bool) (ss : Slots) (n i : ℕ) (s : Option Connection) → slot_has p s ≡ false
    → find p (listed (take n ss)) ≡ None → find p (listed (take n (set ss i s))) ≡ None
unfolding listed
none_set p [] n i s miss e = e
none_set p (t ∷ ss) zero zero s miss e = refl
none_set p (t ∷ ss) zero (suc i) s miss e = refl
none_set p (None ∷ ss) (suc n) zero None miss e = e
none_set p (None ∷ ss) (suc n) zero (Some d) miss e = rw miss e
none_set p (Some c ∷ ss) (suc n) zero None miss e =
    let s : (p c ≡ false) × (find p (listed (take n ss)) ≡ None) = none_split (p c) c _ e in s.1
none_set p (Some c ∷ ss) (suc n) zero (Some d) miss e =
    let s : (p c ≡ false) × (find p (listed (take n ss)) ≡ None) = none_split (p c) c _ e in rw miss s.1
none_set p (None ∷ ss) (suc n) (suc i) s miss e = none_set p ss n i s miss e
none_set p (Some c ∷ ss) (suc n) (suc i) s miss e =
    let t : (p c ≡ false) × (find p (listed (take n ss)) ≡ None) = none_split (p c) c _ e in
    rw t.0 (none_set p ss n i s miss t.1)

-- ---- older and idle

older_lower : (c : Connection) (t u : ℕ) → u ≤ t → is_older t c ≡ false → is_older u c ≡ false
older_lower c t u le e = grind (arith, nat_tests)

pub none_older_lower : (cs : List Connection) (t u : ℕ) → u ≤ t → find (is_older t) cs ≡ None
    → find (is_older u) cs ≡ None
none_older_lower [] t u le e = refl
none_older_lower (c ∷ cs) t u le e =
    let s : (is_older t c ≡ false) × (find (is_older t) cs ≡ None) = none_split (is_older t c) c _ e in
    rw (older_lower c t u le s.0) (none_older_lower cs t u le s.1)

young_awake : (c : Connection) (t now idle : ℕ) → now - t < idle → is_older t c ≡ false → is_idle now idle c ≡ false
young_awake c t now idle lt e = grind (arith, nat_tests)

-- where the oldest can't be idle, none is
pub none_idle : (cs : List Connection) (t now idle : ℕ) → now - t < idle → find (is_older t) cs ≡ None
    → find (is_idle now idle) cs ≡ None
none_idle [] t now idle lt e = refl
none_idle (c ∷ cs) t now idle lt e =
    let s : (is_older t c ≡ false) × (find (is_older t) cs ≡ None) = none_split (is_older t c) c _ e in
    rw (young_awake c t now idle lt s.0) (none_idle cs t now idle lt s.1)

-- ---- one is taken out

-- the first that passes, and then the others that do
pub first_out : (p : Connection → Bool) (ss : Slots) (i : ℕ) (c : Connection) → get_or ss i None ≡ Some c → p c ≡ true
    → find p (listed (take i ss)) ≡ None → filter p (listed ss) ≡ c ∷ filter p (listed (set ss i None))
unfolding listed
first_out p [] i c e hit none = absurd (cc)
first_out p (None ∷ ss) zero c e hit none = absurd (cc)
first_out p (Some d ∷ ss) zero c e hit none = let same : d ≡ c = cc in rw (same, hit) refl
first_out p (None ∷ ss) (suc i) c e hit none = first_out p ss i c e hit none
first_out p (Some d ∷ ss) (suc i) c e hit none =
    let s : (p d ≡ false) × (find p (listed (take i ss)) ≡ None) = none_split (p d) d _ none in
    rw s.0 (first_out p ss i c e hit s.1)

-- those that don't pass stay
pub others_stay : (p : Connection → Bool) (ss : Slots) (i : ℕ) (c : Connection) → get_or ss i None ≡ Some c
    → p c ≡ true → filter (λ x. not (p x)) (listed (set ss i None)) ≡ filter (λ x. not (p x)) (listed ss)
unfolding listed
others_stay p [] i c e hit = absurd (cc)
others_stay p (None ∷ ss) zero c e hit = absurd (cc)
others_stay p (Some d ∷ ss) zero c e hit = let same : d ≡ c = cc in rw (same, hit) refl
others_stay p (None ∷ ss) (suc i) c e hit = others_stay p ss i c e hit
others_stay p (Some d ∷ ss) (suc i) c e hit =
    ap (λ (cs : List Connection). cond (not (p d)) (d ∷ cs) cs) (others_stay p ss i c e hit)

-- where none passes, all stay
pub all_stay : (p : Connection → Bool) (cs : List Connection) → find p cs ≡ None → filter (λ x. not (p x)) cs ≡ cs
all_stay p [] e = refl
all_stay p (c ∷ cs) e =
    let s : (p c ≡ false) × (find p cs ≡ None) = none_split (p c) c _ e in
    rw s.0 (ap (λ (l : List Connection). c ∷ l) (all_stay p cs s.1))

-- ---- how many there are

pub length_set : (ss : Slots) (i : ℕ) (c d : Connection) → get_or ss i None ≡ Some c
    → length (listed (set ss i (Some d))) ≡ length (listed ss)
unfolding listed
length_set [] i c d e = absurd (cc)
length_set (None ∷ ss) zero c d e = absurd (cc)
length_set (Some x ∷ ss) zero c d e = refl
length_set (None ∷ ss) (suc i) c d e = length_set ss i c d e
length_set (Some x ∷ ss) (suc i) c d e = ap (λ (n : ℕ). suc n) (length_set ss i c d e)

pub length_clear : (ss : Slots) (i : ℕ) (c : Connection) → get_or ss i None ≡ Some c
    → length (listed (set ss i None)) + 1 ≡ length (listed ss)
unfolding listed
length_clear [] i c e = absurd (cc)
length_clear (None ∷ ss) zero c e = absurd (cc)
length_clear (Some x ∷ ss) zero c e = omega arith
length_clear (None ∷ ss) (suc i) c e = length_clear ss i c e
length_clear (Some x ∷ ss) (suc i) c e = let h = length_clear ss i c e in omega arith

-- ---- the list, slot by slot

pub none_taken : (ss : Slots) → listed (take 0 ss) ≡ []
unfolding listed
none_taken [] = refl
none_taken (s ∷ ss) = refl

pub listed_none : (ss : Slots) (i : ℕ) → get_or ss i None ≡ None → listed (take (suc i) ss) ≡ listed (take i ss)
unfolding listed
listed_none [] zero e = refl
listed_none [] (suc i) e = refl
listed_none (None ∷ ss) zero e = none_taken ss
listed_none (Some c ∷ ss) zero e = absurd (cc)
listed_none (None ∷ ss) (suc i) e = listed_none ss i e
listed_none (Some c ∷ ss) (suc i) e = ap (λ (l : List Connection). c ∷ l) (listed_none ss i e)

pub listed_some : (ss : Slots) (i : ℕ) (c : Connection) → get_or ss i None ≡ Some c
    → listed (take (suc i) ss) ≡ listed (take i ss) ++ c ∷ []
unfolding listed
listed_some [] i c e = absurd (cc)
listed_some (None ∷ ss) zero c e = absurd (cc)
listed_some (Some d ∷ ss) zero c e =
    let same : d ≡ c = cc in rw same (ap (λ (l : List Connection). c ∷ l) (none_taken ss))
listed_some (None ∷ ss) (suc i) c e = listed_some ss i c e
listed_some (Some d ∷ ss) (suc i) c e = ap (λ (l : List Connection). d ∷ l) (listed_some ss i c e)

pub more_none : (ss : Slots) (i : ℕ) → get_or ss i None ≡ None → listed (take (i + 1) ss) ≡ listed (take i ss)
more_none ss i e = simp unary_clauses (listed_none ss i e)

pub more_some : (ss : Slots) (i : ℕ) (c : Connection) → get_or ss i None ≡ Some c
    → listed (take (i + 1) ss) ≡ listed (take i ss) ++ c ∷ []
more_some ss i c e = simp unary_clauses (listed_some ss i c e)

pub fewer_before : (ss : Slots) (i : ℕ) (c : Connection) → get_or ss i None ≡ Some c
    → length (listed (take i ss)) < length (listed ss)
unfolding listed
fewer_before [] i c e = absurd (cc)
fewer_before (None ∷ ss) zero c e = absurd (cc)
fewer_before (Some d ∷ ss) zero c e = omega arith
fewer_before (None ∷ ss) (suc i) c e = fewer_before ss i c e
fewer_before (Some d ∷ ss) (suc i) c e = let h = fewer_before ss i c e in omega arith

pub all_taken : (ss : Slots) (n : ℕ) → length ss ≤ n → take n ss ≡ ss
all_taken [] zero le = refl
all_taken [] (suc n) le = refl
all_taken (s ∷ ss) zero le = absurd (omega arith)
all_taken (s ∷ ss) (suc n) le = ap (λ (l : Slots). s ∷ l) (all_taken ss n (omega arith))

drop_some : (ss : Slots) (i : ℕ) (c : Connection) → get_or ss i None ≡ Some c
    → listed (drop i ss) ≡ c ∷ listed (drop (suc i) ss)
unfolding listed
drop_some [] i c e = absurd (cc)
drop_some (None ∷ ss) zero c e = absurd (cc)
drop_some (Some d ∷ ss) zero c e = let same : d ≡ c = cc in rw same refl
drop_some (s ∷ ss) (suc i) c e = drop_some ss i c e

drop_none : (ss : Slots) (i : ℕ) → get_or ss i None ≡ None → listed (drop i ss) ≡ listed (drop (suc i) ss)
unfolding listed
drop_none [] zero e = refl
drop_none [] (suc i) e = refl
drop_none (None ∷ ss) zero e = refl
drop_none (Some d ∷ ss) zero e = absurd (cc)
drop_none (s ∷ ss) (suc i) e = drop_none ss i e

-- the i-th is here
pub nth_here : (ss : Slots) (i left k : ℕ) (c : Connection) → get_or ss k None ≡ Some c → left ≡ 0
    → slice_get (listed ss) i ≡ slice_get (listed (drop k ss)) left → Some c ≡ slice_get (listed ss) i
nth_here ss i left k c e zero_left h =
    sym
    (h
    ∙ ap (λ (n : ℕ). slice_get (listed (drop k ss)) n) zero_left
    ∙ ap (λ (l : List Connection). slice_get l 0) (drop_some ss k c e))

one_less : (c : Connection) (cs : List Connection) (n m : ℕ) → (n ≡ 0 → ⊥) → m ≡ n - 1 → slice_get (c ∷ cs) n ≡ slice_get cs m
one_less c cs zero m ne is = absurd (ne refl)
one_less c cs (suc n) m ne is = let e : m ≡ n = omega arith in ap (slice_get cs) (sym e)

-- it is further on
pub nth_later : (ss : Slots) (i left less k : ℕ) (c : Connection) → get_or ss k None ≡ Some c → (left ≡ 0 → ⊥)
    → less ≡ left - 1 → slice_get (listed ss) i ≡ slice_get (listed (drop k ss)) left
    → slice_get (listed ss) i ≡ slice_get (listed (drop (k + 1) ss)) less
nth_later ss i left less k c e ne is h =
    simp unary_clauses
    (h
    ∙ ap (λ (l : List Connection). slice_get l left) (drop_some ss k c e)
    ∙ one_less c (listed (drop (suc k) ss)) left less ne is)

pub nth_past : (ss : Slots) (i left k : ℕ) → get_or ss k None ≡ None
    → slice_get (listed ss) i ≡ slice_get (listed (drop k ss)) left
    → slice_get (listed ss) i ≡ slice_get (listed (drop (k + 1) ss)) left
nth_past ss i left k e h = simp unary_clauses (h ∙ ap (λ (l : List Connection). slice_get l left) (drop_none ss k e))

nothing_left : (ss : Slots) (k : ℕ) → length ss ≤ k → listed (drop k ss) ≡ []
unfolding listed
nothing_left [] zero le = refl
nothing_left [] (suc k) le = refl
nothing_left (s ∷ ss) zero le = absurd (omega arith)
nothing_left (s ∷ ss) (suc k) le = nothing_left ss k (omega arith)

-- there are no more
pub nth_nowhere : (ss : Slots) (i left k : ℕ) → length ss ≤ k
    → slice_get (listed ss) i ≡ slice_get (listed (drop k ss)) left → None ≡ slice_get (listed ss) i
nth_nowhere ss i left k le h = sym (h ∙ ap (λ (l : List Connection). slice_get l left) (nothing_left ss k le))

-- ---- all idle ones are taken out

pub fewer_idle : (x : Option Connection) (old new : List Connection) → is_some x ≡ true → old ≡ first_then x new
    → length new < length old
fewer_idle None old new e is = absurd (cc)
fewer_idle (Some c) old new e is = let n = ap length is in omega arith

pub settled : (p : Connection → Bool) (x : Option Connection) (old new start : List Connection) → is_some x ≡ false
    → x ≡ find p old → new ≡ without x old
    → filter (λ c. not (p c)) old ≡ filter (λ c. not (p c)) start → new ≡ filter (λ c. not (p c)) start
settled p None old new start e first left same = left ∙ sym (all_stay p old (sym first)) ∙ same
settled p (Some c) old new start e first left same = absurd (cc)
