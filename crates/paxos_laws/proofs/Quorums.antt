-- Three of five: two such sets share a member.
use Rattle.std.specs.Prelude.{if◌then◌else◌}
use Rattle.std.proofs.Common.{◌≡◌, ℕ, ◌<◌, ◌≢◌, ◌⊎◌, inl, inr, subst, sym, arith, Bool, true, false, refl, List, [], ◌∷◌, length, suc, ◌≤◌, ◌∙◌, get_or-set_other}
use Rattle.std.proofs.lemmas.Bool.Decides.{nat_tests}
use Rattle.paxos_spec.specs.Five.{has, joined, how_many}
use Rattle.paxos_spec.specs.Agreement.{Three}

pub three_on : {P Q : ℕ → Type 0} → ((i : ℕ) → i < 5 → P i → Q i) → Three P → Three Q
three_on f t = record {
  i = t.i;
  j = t.j;
  k = t.k;
  i_j = t.i_j;
  j_k = t.j_k;
  k_5 = t.k_5;
  at_i = f t.i (let a = t.i_j in let b = t.j_k in let d = t.k_5 in omega arith) t.at_i;
  at_j = f t.j (let b = t.j_k in let d = t.k_5 in omega arith) t.at_j;
  at_k = f t.k t.k_5 t.at_k;
}

-- no two such triples are apart
apart : (a b c x y z : ℕ) → a < b → b < c → c < 5 → x < y → y < z → z < 5
    → a ≢ x → a ≢ y → a ≢ z → b ≢ x → b ≢ y → b ≢ z → c ≢ x → c ≢ y → c ≢ z → ⊥
apart a b c x y z h1 h2 h3 h4 h5 h6 n1 n2 n3 n4 n5 n6 n7 n8 n9 = omega arith

pub same_or : (a x : ℕ) → (a ≡ x) ⊎ (a ≢ x)
same_or a x = grind (arith, nat_tests)

-- by cases on whether two numbers are the same
pub by_same : {G : Type 0} → (a x : ℕ) → (a ≡ x → G) → (a ≢ x → G) → G
by_same a x f g = elim (same_or a x) [ inl e ↦ f e | inr n ↦ g n ]

-- what holds at each shared member holds
pub meet : {P Q : ℕ → Type 0} {G : Type 0} → Three P → Three Q → ((i : ℕ) → i < 5 → P i → Q i → G) → G
meet {P} {Q} {G} s t f =
    let a5 : s.i < 5 = (let a = s.i_j in let b = s.j_k in let d = s.k_5 in omega arith) in
    let b5 : s.j < 5 = (let b = s.j_k in let d = s.k_5 in omega arith) in
    by_same s.i t.i (λ e. f s.i a5 s.at_i (subst Q (sym e) t.at_i)) (λ n1.
    by_same s.i t.j (λ e. f s.i a5 s.at_i (subst Q (sym e) t.at_j)) (λ n2.
    by_same s.i t.k (λ e. f s.i a5 s.at_i (subst Q (sym e) t.at_k)) (λ n3.
    by_same s.j t.i (λ e. f s.j b5 s.at_j (subst Q (sym e) t.at_i)) (λ n4.
    by_same s.j t.j (λ e. f s.j b5 s.at_j (subst Q (sym e) t.at_j)) (λ n5.
    by_same s.j t.k (λ e. f s.j b5 s.at_j (subst Q (sym e) t.at_k)) (λ n6.
    by_same s.k t.i (λ e. f s.k s.k_5 s.at_k (subst Q (sym e) t.at_i)) (λ n7.
    by_same s.k t.j (λ e. f s.k s.k_5 s.at_k (subst Q (sym e) t.at_j)) (λ n8.
    by_same s.k t.k (λ e. f s.k s.k_5 s.at_k (subst Q (sym e) t.at_k)) (λ n9.
    absurd (apart s.i s.j s.k t.i t.j t.k s.i_j s.j_k s.k_5 t.i_j t.j_k t.k_5 n1 n2 n3 n4 n5 n6 n7 n8 n9))))))))))

-- by cases on the test of an if
pub by_if : {X : Type 0} (P : X → Type 0) (b : Bool) {x y : X} → (b ≡ true → P x) → (b ≡ false → P y)
    → P (if b then x else y)
by_if P true f g = f refl
by_if P false f g = g refl

-- the places of flags that are set
one_flag : (xs : List Bool) → 0 < how_many xs → (i : ℕ) × (i < length xs) × (has xs i ≡ true)
one_flag [] h = absurd (omega arith)
one_flag (true ∷ xs) h = (0, omega arith, refl)
one_flag (false ∷ xs) h =
    (let r : (i : ℕ) × (i < length xs) × (has xs i ≡ true) = one_flag xs (omega arith) in let lt = r.1 in
    (suc r.0, omega arith, r.2))

two_flags : (xs : List Bool) → 1 < how_many xs
    → (i : ℕ) × (j : ℕ) × (i < j) × (j < length xs) × (has xs i ≡ true) × (has xs j ≡ true)
two_flags [] h = absurd (omega arith)
two_flags (true ∷ xs) h =
    (let r : (i : ℕ) × (i < length xs) × (has xs i ≡ true) = one_flag xs (omega arith) in let lt = r.1 in
    (0, suc r.0, omega arith, omega arith, refl, r.2))
two_flags (false ∷ xs) h =
    let r : (i : ℕ) × (j : ℕ) × (i < j) × (j < length xs) × (has xs i ≡ true) × (has xs j ≡ true) =
    two_flags xs (omega arith) in
    let a = r.2 in let b = r.3 in (suc r.0, suc r.1, omega arith, omega arith, r.4, r.5)

three_within : (xs : List Bool) → 2 < how_many xs
    → (i : ℕ) × (j : ℕ) × (k : ℕ) × (i < j) × (j < k) × (k < length xs) × (has xs i ≡ true) × (has xs j ≡ true) ×
    (has xs k ≡ true)
three_within [] h = absurd (omega arith)
three_within (true ∷ xs) h =
    let r : (i : ℕ) × (j : ℕ) × (i < j) × (j < length xs) × (has xs i ≡ true) × (has xs j ≡ true) =
    two_flags xs (omega arith) in
    let a = r.2 in let b = r.3 in (0, suc r.0, suc r.1, omega arith, omega arith, omega arith, refl, r.4, r.5)
three_within (false ∷ xs) h =
    let r : (i : ℕ) × (j : ℕ) × (k : ℕ) × (i < j) × (j < k) × (k < length xs) × (has xs i ≡ true) ×
    (has xs j ≡ true) × (has xs k ≡ true) = three_within xs (omega arith) in
    let a = r.3 in let b = r.4 in let c = r.5 in
    (suc r.0, suc r.1, suc r.2, omega arith, omega arith, omega arith, r.6, r.7, r.8)

pub three_flags : (xs : List Bool) → length xs ≡ 5 → 3 ≤ how_many xs → Three (λ i. has xs i ≡ true)
three_flags xs five h =
    let r : (i : ℕ) × (j : ℕ) × (k : ℕ) × (i < j) × (j < k) × (k < length xs) × (has xs i ≡ true) ×
    (has xs j ≡ true) × (has xs k ≡ true) = three_within xs h in
    let lt = r.5 in
    record { i = r.0; j = r.1; k = r.2; i_j = r.3; j_k = r.4; k_5 = omega arith; at_i = r.6; at_j = r.7; at_k = r.8 }

-- who is set after one more
pub joined_or : (xs : List Bool) (from i : ℕ) → has (joined xs from) i ≡ true → (i ≡ from) ⊎ (has xs i ≡ true)
joined_or xs from i h = by_same i from (λ e. inl e) (λ ne. inr (sym (get_or-set_other xs from i true false ne) ∙ h))
