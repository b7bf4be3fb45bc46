-- Walks over claims.
use Rattle.std.proofs.Common.{◌≡◌, ℕ, zero, suc, ◌+◌, ◌<◌, Bool, true, false, not, ◌||◌, List, [], ◌∷◌, ◌++◌, length}
use Rattle.std.proofs.Common.{take, get_or, Option, Some, None, is_some, refl, ap, sym, ◌∙◌, subst, arith, true≢false}
use Rattle.std.specs.List.{list_any}
use Rattle.std.specs.Map.{lookup, keys_of}
use Rattle.std.proofs.lemmas.List.{append_assoc, append-nil}
use Rattle.std.proofs.lemmas.List.Sums.{fold-append}
use Rattle.indexmap.specs.IndexMap.{IndexMap, insert_entry}
use Rattle.std.specs.Prelude.{Result, Ok, Err}
use Rattle.vip_config.specs.declared.broken.Broken.{Broken}
use Rattle.vip_config.specs.declared.broken.Broken.TheVariants.{At, NoMemory}
use Rattle.vip_config.specs.declared.place.Place.{Place}
use Rattle.vip_config.specs.Claims.{Claim, Claimed, all_claimed, claim, claimed, claims_of, first_broken}
use Rattle.vip_config.specs.Claims.{nothing_claimed, owners_of, EndsAs, Indexes, Tells}

module _ {K V : Type 0} (same : K → K → Bool) where
  -- a walk that goes on
  pub claimed_append : (w : Claimed K V) (cs ds : List (Claim K V))
      → all_claimed same w (cs ++ ds) ≡ all_claimed same (all_claimed same w cs) ds
  claimed_append w cs ds = fold-append (claimed same) w cs ds

  pub goes_on : (w0 w1 w2 : Claimed K V) (cs ds : List (Claim K V)) → w2 ≡ all_claimed same w1 ds
      → w1 ≡ all_claimed same w0 cs → w2 ≡ all_claimed same w0 (cs ++ ds)
  goes_on w0 w1 w2 cs ds later earlier = later ∙ ap (λ w. all_claimed same w ds) earlier ∙ sym (claimed_append w0 cs ds)

  -- a key that no entry has goes last
  pub insert_last : (es : List (K × V)) (k : K) (v : V) → is_some (lookup (same k) es) ≡ false
      → insert_entry same es k v ≡ es ++ (k, v) ∷ []
  insert_last [] k v none = refl
  insert_last (e ∷ es) k v none = by (same k e.0) refl (insert_last es k v)
    where
      by : (b : Bool) → same k e.0 ≡ b
          → (is_some (lookup (same k) es) ≡ false → insert_entry same es k v ≡ es ++ (k, v) ∷ [])
          → insert_entry same (e ∷ es) k v ≡ (e ∷ es) ++ (k, v) ∷ []
      by true is rest = absurd (true≢false (rw is at none))
      by false is rest = rw is (ap (λ l. e ∷ l) (rest (rw is at none)))

  pub claimed_last : (es new : List (K × V)) (broken : Option Place) (place : Place) (k : K) (v : V) (fits : Bool)
      → is_some broken ≡ false → fits ≡ true → is_some (lookup (same k) es) ≡ false → new ≡ insert_entry same es k v
      → record { owners = new; broken = broken }
      ≡ claimed same (record { owners = es; broken = broken }) (claim place k v fits)
  claimed_last es new broken place k v fits going fit none is =
      rw (going, fit, none) (ap (λ l. record { owners = l; broken = broken }) (is ∙ insert_last es k v none))

  -- a walk that is broken stays as it is
  pub stays_broken : (es : List (K × V)) (place : Place) (cs : List (Claim K V))
      → all_claimed same (record { owners = es; broken = Some place }) cs ≡ record { owners = es; broken = Some place }
  stays_broken es place [] = refl
  stays_broken es place (c ∷ cs) = stays_broken es place cs

-- what the first numbers claim, and the next
pub claims_next : {A B : Type 0} (claims : ℕ → A → List B) (from i : ℕ) (d : A) (xs : List A) → i < length xs
    → claims_of claims from (take (suc i) xs) ≡ claims_of claims from (take i xs) ++ claims (from + i) (get_or xs i d)
claims_next claims from i d [] within = absurd (omega arith)
claims_next claims from zero d (x ∷ xs) within =
    append-nil (claims from x) ∙ ap (λ n. claims n x) (let at : from ≡ from + 0 = omega arith in at)
claims_next claims from (suc i) d (x ∷ xs) within =
    let at : suc from + i ≡ from + suc i = omega arith in
    ap (λ l. claims from x ++ l) (claims_next claims (suc from) i d xs (omega arith)
    ∙ ap (λ n. claims_of claims (suc from) (take i xs) ++ claims n (get_or xs i d)) at)
    ∙ sym (append_assoc (claims from x) (claims_of claims (suc from) (take i xs))
    (claims (from + suc i) (get_or xs i d)))

-- one number more
pub one_more : {K V A : Type 0} (same : K → K → Bool) (claims : ℕ → A → List (Claim K V)) (start was now : Claimed K V)
    (i : ℕ) (d : A) (xs : List A) → i < length xs
    → now ≡ all_claimed same was (claims i (get_or xs i d))
    → was ≡ all_claimed same start (claims_of claims 0 (take i xs))
    → now ≡ all_claimed same start (claims_of claims 0 (take (i + 1) xs))
one_more same claims start was now i d xs within step so_far =
    let more : claims_of claims 0 (take (i + 1) xs) ≡ claims_of claims 0 (take i xs) ++ claims i (get_or xs i d) =
    ap (λ n. claims_of claims 0 (take n xs)) (let at : i + 1 ≡ suc i = omega arith in at)
    ∙ claims_next claims 0 i d xs within
    ∙ ap (λ n. claims_of claims 0 (take i xs) ++ claims n (get_or xs i d)) (let at : 0 + i ≡ i = omega arith in at) in
    step ∙ ap (λ w. all_claimed same w (claims i (get_or xs i d))) so_far
    ∙ sym (claimed_append same start (claims_of claims 0 (take i xs)) (claims i (get_or xs i d)))
    ∙ ap (all_claimed same start) (sym more)

-- ---- where a walk ends

pub none_some : {X : Type 0} {x : X} → Some x ≡ None → ⊥
none_some {X} {x} is = true≢false (ap is_some is)

module _ {K V : Type 0} (same : K → K → Bool) where
  pub claimed_keys : (t : K → Bool) (es : List (K × V)) → list_any t (keys_of es) ≡ is_some (lookup t es)
  claimed_keys t [] = refl
  claimed_keys t (e ∷ es) = by (t e.0) refl (claimed_keys t es)
    where
      by : (b : Bool) → t e.0 ≡ b → list_any t (keys_of es) ≡ is_some (lookup t es)
          → list_any t (keys_of (e ∷ es)) ≡ is_some (lookup t (e ∷ es))
      by true is rest = rw is refl
      by false is rest = rw is rest

  more_keys : (es : List (K × V)) (k : K) (v : V) → keys_of (es ++ (k, v) ∷ []) ≡ keys_of es ++ k ∷ []
  more_keys [] k v = refl
  more_keys (e ∷ es) k v = ap (λ l. e.0 ∷ l) (more_keys es k v)

  -- the walk over these claims ends as their rule says
  pub record Walked (es : List (K × V)) (cs : List (Claim K V)) (end : Claimed K V) : Type 0 where
    pub broken : end.broken ≡ first_broken same (keys_of es) cs
    pub owners : end.broken ≡ None → end.owners ≡ es ++ owners_of cs

  stopped : (es : List (K × V)) (c : Claim K V) (cs : List (Claim K V))
      → (not c.fits || is_some (lookup (same c.key) es)) ≡ true
      → Walked es (c ∷ cs) (all_claimed same (record { owners = es; broken = None }) (c ∷ cs))
  stopped es c cs is =
      let end : all_claimed same (record { owners = es; broken = None }) (c ∷ cs)
      ≡ record { owners = es; broken = Some c.place } = rw is (stays_broken same es c.place cs) in
      let first : first_broken same (keys_of es) (c ∷ cs) ≡ Some c.place = rw (claimed_keys (same c.key) es, is) refl in
      record {
        broken = ap (λ w. w.broken) end ∙ sym first;
        owners = λ going. absurd (none_some (sym (ap (λ w. w.broken) end) ∙ going));
      }

  went_on : (es : List (K × V)) (c : Claim K V) (cs : List (Claim K V))
      → (not c.fits || is_some (lookup (same c.key) es)) ≡ false
      → Walked (es ++ (c.key, c.owner) ∷ []) cs (all_claimed same
      (record { owners = es ++ (c.key, c.owner) ∷ []; broken = None }) cs)
      → Walked es (c ∷ cs) (all_claimed same (record { owners = es; broken = None }) (c ∷ cs))
  went_on es c cs is rest =
      let end : all_claimed same (record { owners = es; broken = None }) (c ∷ cs)
      ≡ all_claimed same (record { owners = es ++ (c.key, c.owner) ∷ []; broken = None }) cs = rw is refl in
      let first : first_broken same (keys_of es) (c ∷ cs)
      ≡ first_broken same (keys_of (es ++ (c.key, c.owner) ∷ [])) cs =
      rw (claimed_keys (same c.key) es, is) (ap (λ l. first_broken same l cs) (sym (more_keys es c.key c.owner))) in
      record {
        broken = ap (λ w. w.broken) end ∙ rest.broken ∙ sym first;
        owners =
            λ going. ap (λ w. w.owners) end ∙ rest.owners (sym (ap (λ w. w.broken) end) ∙ going)
            ∙ append_assoc es ((c.key, c.owner) ∷ []) (owners_of cs);
      }

  pub walked : (es : List (K × V)) (cs : List (Claim K V))
      → Walked es cs (all_claimed same (record { owners = es; broken = None }) cs)
  walked es [] = record { broken = refl; owners = λ going. sym (append-nil es) }
  walked es (c ∷ cs) =
      by (not c.fits || is_some (lookup (same c.key) es)) refl (walked (es ++ (c.key, c.owner) ∷ []) cs)
    where
      by : (b : Bool) → (not c.fits || is_some (lookup (same c.key) es)) ≡ b
          → Walked (es ++ (c.key, c.owner) ∷ []) cs (all_claimed same
          (record { owners = es ++ (c.key, c.owner) ∷ []; broken = None }) cs)
          → Walked es (c ∷ cs) (all_claimed same (record { owners = es; broken = None }) (c ∷ cs))
      by true is rest = stopped es c cs is
      by false is rest = went_on es c cs is rest

  pub ends : {S : Type 0} (cs : List (Claim K V)) (w : Claimed K V) (r : Result (IndexMap K V S) Broken)
      → w ≡ all_claimed same nothing_claimed cs → EndsAs w r → Indexes same cs r
  ends cs w (Ok m) is end =
      let all = walked [] cs in
      let going = ap (λ w. w.broken) (sym is) ∙ end.0 in
      (sym all.broken ∙ going, end.1 ∙ ap (λ w. w.owners) is ∙ all.owners going)
  ends cs w (Err (At place)) is end = sym (walked [] cs).broken ∙ ap (λ w. w.broken) (sym is) ∙ end
  ends cs w (Err NoMemory) is end = tt

  pub tells : {X : Type 0} (cs : List (Claim K V)) (w : Claimed K V) (r : Result X Broken)
      → w ≡ all_claimed same nothing_claimed cs → Tells w.broken r → Tells (first_broken same [] cs) r
  tells cs w r is told = subst (λ p. Tells p r) (ap (λ w. w.broken) is ∙ (walked [] cs).broken) told
