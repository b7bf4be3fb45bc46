-- Blocks of entries, after an edit of the entries, and what is found by them.
use Rattle.std.proofs.Common.{◌≡◌, ◌≢◌, ℕ, zero, suc, ◌+◌, ◌-◌, ◌*◌, ◌<◌, ◌≤◌, Bool, true, false, cond, List, [], ◌∷◌, ◌++◌, count_by, min, find, length, get_or, nat_lt, set, take, drop, Option, Some, None, is_some, refl, ap, sym, ◌∙◌, subst, arith, true≢false, ◌⊎◌, inl, inr, ⊎_elim, length-append, take_all}
use Rattle.std.specs.List.{list_any}
use Rattle.std.specs.Option.{option_or}
use Rattle.std.proofs.lemmas.Bool.{cases_eq, cases_lt}
use Rattle.std.proofs.lemmas.Bool.Decides.{nat_tests}
use Rattle.std.proofs.lemmas.List.{drop-append-le, drop-set-add, drop-set-lt, drop_all, get_or-append_right, get_or-drop, get_or-set_other, get_or-set_same, get_or-take, length-set, length-drop, length-take, take-append-drop, take-append-le, take-set-le}
use Rattle.std.proofs.lemmas.List.Folds.{find-append}
use Rattle.std.proofs.lemmas.List.Sums.{count_by-le-length, sum_by-cons, get_or-le-sum_by, sum_by-set, sum_by_push}
use Rattle.std.proofs.Math.Seq.{take-set-lt}
use Rattle.lease_spec.specs.declared.row.Phase.{Phase}
use Rattle.lease_spec.specs.declared.row.Phase.TheVariants.{BeingLeased, Leased, Freeing}
use Rattle.lease_rows.specs.declared.blocks.Block.{Block}
use Rattle.lease_rows.specs.declared.entries.Entry.{Entry}
use Rattle.lease_rows.specs.Blocks.{Counts, IsBlocked, IsCountOf, IsFew, IsRecount, block_of, in_block, is_in, one, with_entry}
use Rattle.lease_rows.proofs.StartBlocks.{drop_again}

-- ---- what is found

pub has-block : (phase : Phase) (es : List Entry) → in_block phase (block_of es) ≡ count_by (is_in phase) es
has-block BeingLeased es = refl
has-block Leased es = refl
has-block Freeing es = refl

none_counted : {X : Type 0} (p : X → Bool) (xs : List X) → nat_lt 0 (count_by p xs) ≡ false → list_any p xs ≡ false
none_counted p [] h = refl
none_counted p (x ∷ xs) h =
    let step = sum_by-cons (λ y. cond (p y) 1 0) x xs in
    grind (arith, nat_tests, step, none_counted p xs, h)

none_found : {X : Type 0} (p : X → Bool) (xs : List X) → list_any p xs ≡ false → find p xs ≡ None
none_found p [] h = refl
none_found p (x ∷ xs) h = grind (arith, none_found p xs, h)

-- elements without any that passes are passed over
pub pass : {X : Type 0} (p : X → Bool) (n : ℕ) (xs : List X) → list_any p (take n xs) ≡ false → find p xs ≡ find p (drop n xs)
pass p n xs h =
    ap (find p) (sym (take-append-drop n xs)) ∙ find-append p (take n xs) (drop n xs) ∙ ap (λ o. option_or o (find p (drop n xs))) (none_found p (take n xs) h)

-- what is found among the first ones is found
pub near : {X : Type 0} (p : X → Bool) (n : ℕ) (xs : List X) (o : Option X) → find p (take n xs) ≡ o
    → option_or o (find p (drop n xs)) ≡ find p xs
near p n xs o is =
    sym (ap (find p) (sym (take-append-drop n xs)) ∙ find-append p (take n xs) (drop n xs) ∙ ap (λ x. option_or x (find p (drop n xs))) is)

pub or_some : {X : Type 0} (o p : Option X) → is_some o ≡ true → option_or o p ≡ o
or_some None p h = absurd (true≢false (sym h))
or_some (Some x) p h = refl

pub or_none : {X : Type 0} (o p : Option X) → is_some o ≡ false → option_or o p ≡ p
or_none None p h = refl
or_none (Some x) p h = absurd (true≢false h)

pub block_none : (phase : Phase) (blocks : List Block) (es : List Entry) (k : ℕ) (d : Block) → IsBlocked blocks es → k < length blocks
    → nat_lt 0 (in_block phase (get_or blocks k d)) ≡ false → find (is_in phase) (drop (64 * k) es) ≡ find (is_in phase) (drop (64 * (k + 1)) es)
block_none phase blocks es k d h within none =
    let part = take 64 (drop (64 * k) es) in
    let count = ap (in_block phase) (h.each k d within) ∙ has-block phase part in
    let empty = sym (ap (nat_lt 0) count) ∙ none in
    pass (is_in phase) 64 (drop (64 * k) es) (none_counted (is_in phase) part empty) ∙ ap (find (is_in phase)) (drop_again (64 * k) 64 (64 * (k + 1)) es (omega arith))

pub blocks_end : (phase : Phase) (blocks : List Block) (es : List Entry) (k : ℕ) → IsBlocked blocks es → length blocks ≤ k
    → None ≡ find (is_in phase) (drop (64 * k) es)
blocks_end phase blocks es k h past =
    let covers = h.covers in
    sym (ap (find (is_in phase)) (drop_all (64 * k) es (omega (arith, covers, past))))

-- ---- counts

-- an entry of a part changes
count-set : (p : Entry → Bool) (n at k : ℕ) (es : List Entry) (e d : Entry) → at ≤ k → k < at + n → k < length es
    → count_by p (take n (drop at (set es k e))) + one (p (get_or es k d)) ≡ count_by p (take n (drop at es)) + one (p e)
count-set p n at k es e d low high within =
    let i = k - at in
    let index : k ≡ at + i = omega (arith, low) in
    let part = take n (drop at es) in
    let edit : take n (drop at (set es k e)) ≡ set part i e =
    ap (λ x. take n (drop at (set es x e))) index ∙ ap (take n) (drop-set-add at es i e) ∙ take-set-lt n (drop at es) i e (omega (arith, low, high)) in
    let there : get_or part i d ≡ get_or es k d =
    get_or-take n (drop at es) i d (omega (arith, low, high)) ∙ get_or-drop at es i d ∙ ap (λ x. get_or es x d) (sym index) in
    let long : length part ≡ min n (length es - at) = length-take n (drop at es) ∙ ap (min n) (length-drop at es) in
    ap (λ xs. count_by p xs + one (p (get_or es k d))) edit ∙ ap (λ x. count_by p (set part i e) + one (p x)) (sym there)
    ∙ sum_by-set (λ x. cond (p x) 1 0) part i e d (omega (arith, low, high, within, long))

-- a part gets one entry more
count-push : (p : Entry → Bool) (n at : ℕ) (es : List Entry) (e : Entry) → at ≤ length es → length es < at + n
    → count_by p (take n (drop at (es ++ e ∷ []))) ≡ count_by p (take n (drop at es)) + one (p e)
count-push p n at es e low high =
    let long : length (drop at es) ≡ length es - at = length-drop at es in
    let more = length-append (drop at es) (e ∷ []) in
    let now : take n (drop at (es ++ e ∷ [])) ≡ drop at es ++ e ∷ [] =
    ap (take n) (drop-append-le at es (e ∷ []) low) ∙ take_all n (drop at es ++ e ∷ []) (omega (arith, long, more, low, high)) in
    let was : take n (drop at es) ≡ drop at es = take_all n (drop at es) (omega (arith, long, low, high)) in
    ap (count_by p) now ∙ sum_by_push (λ x. cond (p x) 1 0) (drop at es) e ∙ ap (λ xs. count_by p xs + one (p e)) (sym was)

with-one : (phase : Phase) (e : Entry) (block : Block) → in_block phase (with_entry e block) ≡ in_block phase block + one (is_in phase e)
with-one BeingLeased e block = refl
with-one Leased e block = refl
with-one Freeing e block = refl

same_block : (b : Block) (x y z : ℕ) → b.being_leased ≡ x → b.leased ≡ y → b.freeing ≡ z
    → b ≡ record { being_leased = x; leased = y; freeing = z }
same_block b x y z p q r = rw (sym p, sym q, sym r) refl

few-part : (n : ℕ) (es : List Entry) → n ≤ 64 → (p : Entry → Bool) → count_by p (take n es) ≤ 64
few-part n es few p =
    let most = count_by-le-length p (take n es) in
    let long = length-take n es in
    omega (arith, most, long, few)

pub few_block : (n : ℕ) (es : List Entry) (block : Block) → n ≤ 64 → block ≡ block_of (take n es) → IsFew block
few_block n es block few is = subst IsFew (sym is) (record {
  being_leased = few-part n es few (is_in BeingLeased);
  leased = few-part n es few (is_in Leased);
  freeing = few-part n es few (is_in Freeing);
})

-- an entry is counted in its block
pub counts_in : (n at k : ℕ) (es : List Entry) (d : Entry) (block : Block) → n ≤ 64 → at ≤ k → k < at + n → k < length es
    → block ≡ block_of (take n (drop at es)) → Counts (get_or es k d) block
counts_in n at k es d block few low high within is = subst (Counts (get_or es k d)) (sym is) (record {
  being_leased = count (is_in BeingLeased);
  leased = count (is_in Leased);
  freeing = count (is_in Freeing);
})
  where
    count : (p : Entry → Bool) → IsCountOf (p (get_or es k d)) (count_by p (take n (drop at es)))
    count p =
        let i = k - at in
        let part = take n (drop at es) in
        let index : k ≡ at + i = omega (arith, low) in
        let there : get_or part i d ≡ get_or es k d =
        get_or-take n (drop at es) i d (omega (arith, low, high)) ∙ get_or-drop at es i d ∙ ap (λ x. get_or es x d) (sym index) in
        let long : length part ≡ min n (length es - at) = length-take n (drop at es) ∙ ap (min n) (length-drop at es) in
        let least = get_or-le-sum_by (λ x. cond (p x) 1 0) part i d (omega (arith, low, high, within, long)) in
        record {
          least = subst (λ x. one (p x) ≤ count_by p part) there least;
          most = few-part n (drop at es) few p;
        }

-- the block after an entry of it changed
pub recounted : (n at k : ℕ) (es : List Entry) (e d : Entry) (before after : Block) → at ≤ k → k < at + n → k < length es
    → before ≡ block_of (take n (drop at es)) → IsRecount (get_or es k d) e before after
    → after ≡ block_of (take n (drop at (set es k e)))
recounted n at k es e d before after low high within is h =
    same_block after _ _ _
    (count (is_in BeingLeased) before.being_leased after.being_leased (ap (λ b. b.being_leased) is) h.being_leased)
    (count (is_in Leased) before.leased after.leased (ap (λ b. b.leased) is) h.leased)
    (count (is_in Freeing) before.freeing after.freeing (ap (λ b. b.freeing) is) h.freeing)
  where
    count : (p : Entry → Bool) (x y : ℕ) → x ≡ count_by p (take n (drop at es)) → y + one (p (get_or es k d)) ≡ x + one (p e)
        → y ≡ count_by p (take n (drop at (set es k e)))
    count p x y was is =
        let now = count-set p n at k es e d low high within in
        omega (arith, now, was, is)

-- no entry is behind the last
pub empty_block : (n at : ℕ) (es : List Entry) → length es ≤ at
    → record { being_leased = 0; leased = 0; freeing = 0 } ≡ block_of (take n (drop at es))
empty_block n at es past =
    let long : length (drop at es) ≡ length es - at = length-drop at es in
    let none : take n (drop at es) ≡ [] = take_all n (drop at es) (omega (arith, long, past)) ∙ drop_all at es past in
    sym (ap block_of none)

-- the block with one entry more
pub entered : (n at : ℕ) (es : List Entry) (e : Entry) (before : Block) → at ≤ length es → length es < at + n
    → before ≡ block_of (take n (drop at es)) → with_entry e before ≡ block_of (take n (drop at (es ++ e ∷ [])))
entered n at es e before low high is =
    same_block (with_entry e before) _ _ _ (count BeingLeased) (count Leased) (count Freeing)
  where
    count : (phase : Phase) → in_block phase (with_entry e before) ≡ count_by (is_in phase) (take n (drop at (es ++ e ∷ [])))
    count phase = with-one phase e before ∙ ap (λ x. x + one (is_in phase e)) (ap (in_block phase) is ∙ has-block phase (take n (drop at es)))
        ∙ sym (count-push (is_in phase) n at es e low high)

-- ---- an edit

-- an edit outside of a part
set_outside : (n at k : ℕ) (es : List Entry) (e : Entry) → (k < at) ⊎ (at + n ≤ k) → take n (drop at (set es k e)) ≡ take n (drop at es)
set_outside n at k es e (inl below) = ap (take n) (drop-set-lt at es k e below)
set_outside n at k es e (inr above) =
    let index : k ≡ at + (k - at) = omega arith in
    ap (λ x. take n (drop at (set es x e))) index ∙ ap (take n) (drop-set-add at es (k - at) e) ∙ take-set-le n (drop at es) (k - at) e (omega arith)

-- a part before the last entry
push_outside : (n at : ℕ) (es : List Entry) (e : Entry) → at + n ≤ length es → take n (drop at (es ++ e ∷ [])) ≡ take n (drop at es)
push_outside n at es e within =
    let long : length (drop at es) ≡ length es - at = length-drop at es in
    ap (take n) (drop-append-le at es (e ∷ []) (omega arith)) ∙ take-append-le n (drop at es) (e ∷ []) (omega (arith, long, within))

outside : (b j k : ℕ) → 64 * j ≤ k → k < 64 * j + 64 → b ≢ j → (k < 64 * b) ⊎ (64 * b + 64 ≤ k)
outside b j k low high other =
    ⊎_elim
    (λ (less : b < j). inr (omega (arith, less, low)))
    (λ (rest : j ≤ b). ⊎_elim (λ (more : j < b). inl (omega (arith, more, high))) (λ (same : b ≤ j). absurd (other (omega (arith, rest, same)))) (cases_lt j b))
    (cases_lt b j)

pub blocked-put : (blocks : List Block) (es : List Entry) (k : ℕ) (e : Entry) (j : ℕ) (block : Block) → IsBlocked blocks es → 64 * j ≤ k → k < 64 * j + 64
    → block ≡ block_of (take 64 (drop (64 * j) (set es k e))) → IsBlocked (set blocks j block) (set es k e)
blocked-put blocks es k e j block h low high is = record {
  covers = rw (length-set es k e, length-set blocks j block) h.covers;
  few = rw (length-set es k e, length-set blocks j block) h.few;
  each = λ b d within.
      let inside : b < length blocks = rw (length-set blocks j block) at within in
      ⊎_elim
      (λ (same : b ≡ j).
      let here : j < length blocks = subst (λ (x : ℕ). x < length blocks) same inside in
      ap (λ x. get_or (set blocks j block) x d) same ∙ get_or-set_same blocks j block d here ∙ is
      ∙ sym (ap (λ x. block_of (take 64 (drop (64 * x) (set es k e)))) same))
      (λ (other : b ≢ j).
      get_or-set_other blocks j b block d other ∙ h.each b d inside ∙ sym (ap block_of (set_outside 64 (64 * b) k es e (outside b j k low high other))))
      (cases_eq b j);
}

-- a new entry in the last block
pub blocked-more : (blocks : List Block) (es : List Entry) (e : Entry) (j : ℕ) (block : Block) → IsBlocked blocks es → 64 * j ≤ length es → length es < 64 * j + 64
    → j < length blocks → block ≡ block_of (take 64 (drop (64 * j) (es ++ e ∷ []))) → IsBlocked (set blocks j block) (es ++ e ∷ [])
blocked-more blocks es e j block h low high within is = record {
  covers = rw (length-set blocks j block) (let long = length-append es (e ∷ []) in omega (arith, long, high, within));
  few = rw (length-set blocks j block) (let long = length-append es (e ∷ []) in let few = h.few in omega (arith, long, few));
  each = λ b d at.
      let inside : b < length blocks = rw (length-set blocks j block) at at in
      let few = h.few in
      ⊎_elim
      (λ (same : b ≡ j).
      ap (λ x. get_or (set blocks j block) x d) same ∙ get_or-set_same blocks j block d within ∙ is
      ∙ sym (ap (λ x. block_of (take 64 (drop (64 * x) (es ++ e ∷ [])))) same))
      (λ (other : b ≢ j).
      let before : b < j = ⊎_elim (λ (x : b < j). x) (λ (rest : j ≤ b). absurd (⊎_elim (λ (more : j < b). omega (arith, more, inside, few, high)) (λ (last : b ≤ j). other (omega (arith, rest, last))) (cases_lt j b))) (cases_lt b j) in
      get_or-set_other blocks j b block d other ∙ h.each b d inside ∙ sym (ap block_of (push_outside 64 (64 * b) es e (omega (arith, before, low)))))
      (cases_eq b j);
}

-- a new entry in a new block
pub blocked-next : (blocks : List Block) (es : List Entry) (e : Entry) (j : ℕ) (block : Block) → IsBlocked blocks es → 64 * j ≤ length es → length es < 64 * j + 64
    → length blocks ≤ j → block ≡ block_of (take 64 (drop (64 * j) (es ++ e ∷ []))) → IsBlocked (blocks ++ block ∷ []) (es ++ e ∷ [])
blocked-next blocks es e j block h low high past is =
    let covers = h.covers in
    let count : length blocks ≡ j = omega (arith, covers, low, past) in
    let more = length-append blocks (block ∷ []) in
    let long = length-append es (e ∷ []) in
    record {
      covers = omega (arith, more, long, high, count);
      few = omega (arith, more, long, low, count);
      each = λ b d at.
          ⊎_elim
          (λ (before : b < length blocks).
          get_or-append_left blocks (block ∷ []) b d before ∙ h.each b d before
          ∙ sym (ap block_of (push_outside 64 (64 * b) es e (omega (arith, before, count, low)))))
          (λ (rest : length blocks ≤ b).
          let last : b ≡ j = omega (arith, rest, at, more, count) in
          get_or-append_right blocks (block ∷ []) (length blocks) b d refl rest
          ∙ ap (λ x. get_or (block ∷ []) x d) (let zero_is : b - length blocks ≡ 0 = omega (arith, last, count) in zero_is)
          ∙ is ∙ sym (ap (λ x. block_of (take 64 (drop (64 * x) (es ++ e ∷ [])))) last))
          (cases_lt b (length blocks));
    }
  where
    get_or-append_left : (xs ys : List Block) (b : ℕ) (d : Block) → b < length xs → get_or (xs ++ ys) b d ≡ get_or xs b d
    get_or-append_left [] ys b d within = absurd (omega arith)
    get_or-append_left (x ∷ xs) ys zero d within = refl
    get_or-append_left (x ∷ xs) ys (suc b) d within = get_or-append_left xs ys b d (omega arith)
