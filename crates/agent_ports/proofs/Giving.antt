-- Ranges that are given back.
use Rattle.std.proofs.Common.{◌≡◌, ◌≢◌, ◌∙◌, ◌||◌, ℕ, zero, suc, ◌+◌, ◌<◌, ◌≤◌, ◌==◌, Bool, true, false, not, List, [], ◌∷◌, ◌++◌}
use Rattle.std.proofs.Common.{map, filter, take, drop, cond, length, get_or, refl, sym, ap, subst, arith, length-append}
use Rattle.std.specs.Prelude.{if◌then◌else◌}
use Rattle.std.specs.List.{list_any}
use Rattle.std.proofs.lemmas.Bool.Decides.{nat_tests}
use native.Mathlib.Numerals.{unary_clauses}
use Rattle.agent_spec.specs.declared.held.Held.{Held}
use Rattle.agent_spec.specs.Ranges.{Ranges, given_back, is_returning, returned}
use Rattle.agent_ports.specs.Flags.{flagged, unflagged}
use Rattle.agent_ports.specs.Leases.{held_number}
use Rattle.agent_ports.specs.Order.{AllAbove, Ascend}
use Rattle.agent_ports.specs.Ports.{given_back_each, numbers}

-- ---- flags of a test

pub flagged_by : (p : Held → Bool) (hs : List Held) → flagged (map p hs) hs ≡ filter p hs
flagged_by p [] = refl
flagged_by p (h ∷ hs) = ap (λ (l : List Held). cond (p h) (h ∷ l) l) (flagged_by p hs)

pub map_more : (p : Held → Bool) (hs : List Held) (i : ℕ) (d : Held) (b : Bool) → i < length hs → b ≡ p (get_or hs i d)
    → map p (take i hs) ++ b ∷ [] ≡ map p (take (i + 1) hs)
map_more p hs i d b lt is = simp unary_clauses (go hs i lt is)
  where
    go : (hs : List Held) (i : ℕ) → i < length hs → b ≡ p (get_or hs i d)
        → map p (take i hs) ++ b ∷ [] ≡ map p (take (suc i) hs)
    go [] i lt is = absurd (omega arith)
    go (x ∷ []) zero lt is = ap (λ (a : Bool). a ∷ []) is
    go (x ∷ y ∷ hs) zero lt is = ap (λ (a : Bool). a ∷ []) is
    go (x ∷ hs) (suc i) lt is = ap (λ (l : List Bool). p x ∷ l) (go hs i (omega arith) is)

pub map_all : (p : Held → Bool) (hs : List Held) (i : ℕ) → length hs ≤ i → map p (take i hs) ≡ map p hs
map_all p [] zero le = refl
map_all p [] (suc i) le = refl
map_all p (x ∷ hs) zero le = absurd (omega arith)
map_all p (x ∷ hs) (suc i) le = ap (λ (l : List Bool). p x ∷ l) (map_all p hs i (omega arith))

pub one_flag_more : (flags new : List Bool) (i : ℕ) (b : Bool) → length flags ≡ i → new ≡ flags ++ b ∷ []
    → length new ≡ i + 1
one_flag_more flags new i b len is = let n = ap length is in let m = length-append flags (b ∷ []) in omega arith

-- ---- one after the other

-- without the ranges with these numbers
abbrev without : List ℕ → List Held → List Held
without ns hs = filter (λ h. not (list_any (λ m. m == h.n) ns)) hs

without_one : (n : ℕ) (ns : List ℕ) (hs : List Held)
    → without ns (filter (λ (h : Held). not (h.n == n)) hs) ≡ without (n ∷ ns) hs
without_one n ns [] = refl
without_one n ns (h ∷ hs) = by (h.n == n) refl (without_one n ns hs)
  where
    turned : (a b : ℕ) (t : Bool) → (a == b) ≡ t → (b == a) ≡ t
    turned a b true e = grind (arith, nat_tests, e)
    turned a b false e = grind (arith, nat_tests, e)

    by : (b : Bool) → (h.n == n) ≡ b → without ns (filter (λ (h : Held). not (h.n == n)) hs) ≡ without (n ∷ ns) hs
        → without ns (filter (λ (h : Held). not (h.n == n)) (h ∷ hs)) ≡ without (n ∷ ns) (h ∷ hs)
    by true e rest = rw (e, turned h.n n true e) rest
    by false e rest =
        rw (e, turned h.n n false e)
        (ap (λ (l : List Held). cond (not (list_any (λ m. m == h.n) ns)) (h ∷ l) l) rest)

without_none : (hs : List Held) → without [] hs ≡ hs
without_none [] = refl
without_none (h ∷ hs) = ap (λ (l : List Held). h ∷ l) (without_none hs)

more_numbers : (n : ℕ) (ms ns : List ℕ) → (ms ++ n ∷ []) ++ ns ≡ ms ++ n ∷ ns
more_numbers n [] ns = refl
more_numbers n (m ∷ ms) ns = ap (λ (l : List ℕ). m ∷ l) (more_numbers n ms ns)

nothing_more : (ms : List ℕ) → ms ++ [] ≡ ms
nothing_more [] = refl
nothing_more (m ∷ ms) = ap (λ (l : List ℕ). m ∷ l) (nothing_more ms)

each_given : (hs : List Held) (p : Ranges)
    → given_back_each hs p
    ≡ record p { held = without (numbers hs) p.held; returning = p.returning ++ numbers hs }
each_given [] p =
    ap (λ (l : List Held). let q : Ranges = record p { held = l } in q) (sym (without_none p.held))
    ∙ ap
    (λ (l : List ℕ). let q : Ranges = record p { held = without [] p.held; returning = l } in q)
    (sym (nothing_more p.returning))
each_given (h ∷ hs) p =
    each_given hs (given_back h.n p)
    ∙ ap
    (λ (l : List Held).
    let q : Ranges = record p { held = l; returning = (p.returning ++ h.n ∷ []) ++ numbers hs } in q)
    (without_one h.n (numbers hs) p.held)
    ∙ ap
    (λ (l : List ℕ). let q : Ranges = record p { held = without (numbers (h ∷ hs)) p.held; returning = l } in q)
    (more_numbers h.n p.returning (numbers hs))

-- ---- those with a flag

-- a number below all isn't among them
not_among : (n : ℕ) (flags : List Bool) (hs : List Held) → AllAbove held_number n hs
    → list_any (λ m. m == n) (numbers (flagged flags hs)) ≡ false
not_among n [] hs h = refl
not_among n (b ∷ flags) [] h = refl
not_among n (true ∷ flags) (x ∷ hs) h = rw (other x.n n h.0) (not_among n flags hs h.1)
  where
    other : (a b : ℕ) → b < a → (a == b) ≡ false
    other a b lt = grind (arith, nat_tests)
not_among n (false ∷ flags) (x ∷ hs) h = not_among n flags hs h.1

-- numbers below all don't matter
others_alone : (n : ℕ) (ns : List ℕ) (hs : List Held) → AllAbove held_number n hs → without (n ∷ ns) hs ≡ without ns hs
others_alone n ns [] h = refl
others_alone n ns (x ∷ hs) h =
    rw (other n x.n h.0)
    (ap (λ (l : List Held). cond (not (list_any (λ m. m == x.n) ns)) (x ∷ l) l) (others_alone n ns hs h.1))
  where
    other : (a b : ℕ) → a < b → (a == b) ≡ false
    other a b lt = grind (arith, nat_tests)

unflagged_are : (flags : List Bool) (hs : List Held) → Ascend held_number hs → length flags ≡ length hs
    → without (numbers (flagged flags hs)) hs ≡ unflagged flags hs
unflagged_are [] [] h e = refl
unflagged_are [] (x ∷ hs) h e = absurd (omega arith)
unflagged_are (b ∷ flags) [] h e = refl
unflagged_are (true ∷ flags) (x ∷ hs) h e =
    rw (itself x.n)
    (others_alone x.n (numbers (flagged flags hs)) hs h.0 ∙ unflagged_are flags hs h.1 (omega arith))
  where
    itself : (a : ℕ) → (a == a) ≡ true
    itself a = grind (arith, nat_tests)
unflagged_are (false ∷ flags) (x ∷ hs) h e =
    rw (not_among x.n flags hs h.0) (ap (λ (l : List Held). x ∷ l) (unflagged_are flags hs h.1 (omega arith)))

-- those with a flag are given back
pub flagged_given : (flags : List Bool) (p : Ranges) → Ascend held_number p.held → length flags ≡ length p.held
    → record p { held = unflagged flags p.held; returning = p.returning ++ numbers (flagged flags p.held) }
    ≡ given_back_each (flagged flags p.held) p
flagged_given flags p ascend e =
    ap
    (λ (l : List Held).
    let q : Ranges = record p { held = l; returning = p.returning ++ numbers (flagged flags p.held) } in q)
    (sym (unflagged_are flags p.held ascend e))
    ∙ sym (each_given (flagged flags p.held) p)

pub none_given : (hs : List Held) (p : Ranges) → length (numbers hs) ≡ 0 → p ≡ given_back_each hs p
none_given [] p e = refl
none_given (h ∷ hs) p e = absurd (omega arith)

-- ---- step by step

abbrev pub drop_flagged : List Bool → List Held → ℕ → List Held
drop_flagged flags hs i = flagged (drop i flags) (drop i hs)

abbrev pub drop_unflagged : List Bool → List Held → ℕ → List Held
drop_unflagged flags hs i = unflagged (drop i flags) (drop i hs)

pub flagged_step : (flags : List Bool) (hs : List Held) (i : ℕ) (b : Bool) (d : Held) → length flags ≡ length hs
    → i < length hs → get_or flags i b ≡ true
    → drop_flagged flags hs i ≡ get_or hs i d ∷ drop_flagged flags hs (i + 1)
flagged_step flags hs i b d e lt t = simp unary_clauses (go flags hs i e lt t)
  where
    go : (flags : List Bool) (hs : List Held) (i : ℕ) → length flags ≡ length hs → i < length hs
        → get_or flags i b ≡ true → drop_flagged flags hs i ≡ get_or hs i d ∷ drop_flagged flags hs (suc i)
    go flags [] i e lt t = absurd (omega arith)
    go [] (x ∷ hs) i e lt t = absurd (omega arith)
    go (f ∷ flags) (x ∷ hs) zero e lt t = rw t refl
    go (f ∷ flags) (x ∷ hs) (suc i) e lt t = go flags hs i (omega arith) (omega arith) t

-- the loops' steps
pub given_more : (flags : List Bool) (hs : List Held) (i : ℕ) (b : Bool) (d : Held) (given new all : List ℕ)
    → length flags ≡ length hs → i < length hs → get_or flags i b ≡ true → new ≡ given ++ (get_or hs i d).n ∷ []
    → given ++ numbers (drop_flagged flags hs i) ≡ all → new ++ numbers (drop_flagged flags hs (i + 1)) ≡ all
given_more flags hs i b d given new all e lt t is h =
    ap (λ (l : List ℕ). l ++ numbers (drop_flagged flags hs (i + 1))) is
    ∙ more_numbers (get_or hs i d).n given (numbers (drop_flagged flags hs (i + 1)))
    ∙ ap (λ (l : List Held). given ++ numbers l) (sym (flagged_step flags hs i b d e lt t))
    ∙ h

pub flagged_skip : (flags : List Bool) (hs : List Held) (i : ℕ) (b : Bool) → length flags ≡ length hs
    → i < length hs → get_or flags i b ≡ false → drop_flagged flags hs i ≡ drop_flagged flags hs (i + 1)
flagged_skip flags hs i b e lt t = simp unary_clauses (go flags hs i e lt t)
  where
    go : (flags : List Bool) (hs : List Held) (i : ℕ) → length flags ≡ length hs → i < length hs
        → get_or flags i b ≡ false → drop_flagged flags hs i ≡ drop_flagged flags hs (suc i)
    go flags [] i e lt t = absurd (omega arith)
    go [] (x ∷ hs) i e lt t = absurd (omega arith)
    go (f ∷ flags) (x ∷ hs) zero e lt t = rw t refl
    go (f ∷ flags) (x ∷ hs) (suc i) e lt t = go flags hs i (omega arith) (omega arith) t

pub unflagged_step : (flags : List Bool) (hs : List Held) (i : ℕ) (b : Bool) (d : Held) → length flags ≡ length hs
    → i < length hs → get_or flags i b ≡ false
    → drop_unflagged flags hs i ≡ get_or hs i d ∷ drop_unflagged flags hs (i + 1)
unflagged_step flags hs i b d e lt t = simp unary_clauses (go flags hs i e lt t)
  where
    go : (flags : List Bool) (hs : List Held) (i : ℕ) → length flags ≡ length hs → i < length hs
        → get_or flags i b ≡ false → drop_unflagged flags hs i ≡ get_or hs i d ∷ drop_unflagged flags hs (suc i)
    go flags [] i e lt t = absurd (omega arith)
    go [] (x ∷ hs) i e lt t = absurd (omega arith)
    go (f ∷ flags) (x ∷ hs) zero e lt t = rw t refl
    go (f ∷ flags) (x ∷ hs) (suc i) e lt t = go flags hs i (omega arith) (omega arith) t

pub unflagged_skip : (flags : List Bool) (hs : List Held) (i : ℕ) (b : Bool) → length flags ≡ length hs
    → i < length hs → get_or flags i b ≡ true → drop_unflagged flags hs i ≡ drop_unflagged flags hs (i + 1)
unflagged_skip flags hs i b e lt t = simp unary_clauses (go flags hs i e lt t)
  where
    go : (flags : List Bool) (hs : List Held) (i : ℕ) → length flags ≡ length hs → i < length hs
        → get_or flags i b ≡ true → drop_unflagged flags hs i ≡ drop_unflagged flags hs (suc i)
    go flags [] i e lt t = absurd (omega arith)
    go [] (x ∷ hs) i e lt t = absurd (omega arith)
    go (f ∷ flags) (x ∷ hs) zero e lt t = rw t refl
    go (f ∷ flags) (x ∷ hs) (suc i) e lt t = go flags hs i (omega arith) (omega arith) t

more_held : (x : Held) (hs js : List Held) → (hs ++ x ∷ []) ++ js ≡ hs ++ x ∷ js
more_held x [] js = refl
more_held x (h ∷ hs) js = ap (λ (l : List Held). h ∷ l) (more_held x hs js)

pub stay_more : (flags : List Bool) (hs : List Held) (i : ℕ) (b : Bool) (d : Held) (stay new all : List Held)
    → length flags ≡ length hs → i < length hs → get_or flags i b ≡ false → new ≡ stay ++ get_or hs i d ∷ []
    → stay ++ drop_unflagged flags hs i ≡ all → new ++ drop_unflagged flags hs (i + 1) ≡ all
stay_more flags hs i b d stay new all e lt t is h =
    ap (λ (l : List Held). l ++ drop_unflagged flags hs (i + 1)) is
    ∙ more_held (get_or hs i d) stay (drop_unflagged flags hs (i + 1))
    ∙ ap (λ (l : List Held). stay ++ l) (sym (unflagged_step flags hs i b d e lt t))
    ∙ h

above_unflagged : (n : ℕ) (flags : List Bool) (hs : List Held) → AllAbove held_number n hs
    → AllAbove held_number n (unflagged flags hs)
above_unflagged n [] hs h = tt
above_unflagged n (b ∷ flags) [] h = tt
above_unflagged n (true ∷ flags) (x ∷ hs) h = above_unflagged n flags hs h.1
above_unflagged n (false ∷ flags) (x ∷ hs) h = (h.0, above_unflagged n flags hs h.1)

pub ascend_unflagged : (flags : List Bool) (hs : List Held) → Ascend held_number hs
    → Ascend held_number (unflagged flags hs)
ascend_unflagged [] hs h = tt
ascend_unflagged (b ∷ flags) [] h = tt
ascend_unflagged (true ∷ flags) (x ∷ hs) h = ascend_unflagged flags hs h.1
ascend_unflagged (false ∷ flags) (x ∷ hs) h = (above_unflagged x.n flags hs h.0, ascend_unflagged flags hs h.1)

-- a number that isn't given back changes nothing
pub none_returned : (n : ℕ) (p : Ranges) → is_returning n p ≡ false → p ≡ returned n p
none_returned n p e = ap (λ (l : List ℕ). let q : Ranges = record p { returning = l } in q) (sym (same p.returning e))
  where
    either : (a b : Bool) → (a || b) ≡ false → (a ≡ false) × (b ≡ false)
    either true b e = absurd (cc)
    either false b e = (refl, e)

    same : (ns : List ℕ) → list_any (λ m. m == n) ns ≡ false → filter (λ m. not (m == n)) ns ≡ ns
    same [] e = refl
    same (m ∷ ns) e =
        let s : ((m == n) ≡ false) × (list_any (λ m. m == n) ns ≡ false) = either (m == n) _ e in
        rw s.0 (ap (λ (l : List ℕ). m ∷ l) (same ns s.1))

-- ---- all together

pub flagged_spare : (p : Held → Bool) (hs read : List Held) (flags copy : List Bool) → copy ≡ flags → flags ≡ map p read
    → read ≡ hs → flagged copy hs ≡ filter p hs
flagged_spare p hs read flags copy same is whole =
    ap (λ (l : List Bool). flagged l hs) (same ∙ is ∙ ap (map p) whole) ∙ flagged_by p hs

pub spare_numbers : (p : Held → Bool) (hs read again : List Held) (flags copy : List Bool) (given result : List ℕ)
    → result ≡ given → given ≡ numbers (flagged copy again) → copy ≡ flags → again ≡ hs → flags ≡ map p read → read ≡ hs
    → result ≡ numbers (filter p hs)
spare_numbers p hs read again flags copy given result first is same whole by all =
    first
    ∙ is
    ∙ ap (λ (l : List Held). numbers (flagged copy l)) whole
    ∙ ap numbers (flagged_spare p hs read flags copy same by all)

pub all_back : (flags : List Bool) (p : Ranges) (stay : List Held) (returning given : List ℕ)
    → Ascend held_number p.held → length flags ≡ length p.held → stay ≡ unflagged flags p.held
    → returning ≡ p.returning ++ given → given ≡ numbers (flagged flags p.held)
    → record p { held = stay; returning = returning } ≡ given_back_each (flagged flags p.held) p
all_back flags p stay returning given ascend len is more numbers_are =
    ap (λ (l : List Held). let q : Ranges = record p { held = l; returning = returning } in q) is
    ∙ ap
    (λ (l : List ℕ). let q : Ranges = record p { held = unflagged flags p.held; returning = l } in q)
    (more ∙ ap (λ (l : List ℕ). p.returning ++ l) numbers_are)
    ∙ flagged_given flags p ascend len
