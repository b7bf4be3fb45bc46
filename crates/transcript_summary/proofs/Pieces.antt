-- Texts one behind the other, each of whole lines.
use Rattle.std.proofs.Common.{◌≡◌, inl, inr, ℕ, ◌+◌, ◌==◌, Bool, true, false, cond, List, [], ◌∷◌, ◌++◌, refl, sym, ap, ◌∙◌, append_assoc, arith}
use Rattle.std.specs.Prelude.{codes}
use Rattle.std.specs.List.{count_by, onto_first}
use Rattle.std.proofs.lemmas.List.Sums.{sum_by-append}
use Rattle.address_text.specs.Fields.{parts}
use Rattle.address_text.proofs.Parts.{parts_some}
use Rattle.transcript_summary.specs.Summary.{CountsByPieces, IsWhole, begins, lines_with}

-- the parts of a text before a separator, and those behind it
parts_both : (s : ℕ) (a u : List ℕ) → parts s (a ++ s ∷ u) ≡ parts s a ++ parts s u
parts_both s [] u = by (s == s) (same s)
  where
    same : (n : ℕ) → (n == n) ≡ true
    same n = grind (arith)

    by : (t : Bool) → t ≡ true → cond t ([] ∷ parts s u) (onto_first s (parts s u)) ≡ [] ∷ parts s u
    by true e = refl
    by false e = absurd (cc)
parts_both s (b ∷ bs) u =
    let m = parts_some s bs in
    let more = parts_both s bs u in
    elim (b == s) as (λ t. cond t ([] ∷ parts s (bs ++ s ∷ u)) (onto_first b (parts s (bs ++ s ∷ u)))
    ≡ cond t ([] ∷ parts s bs) (onto_first b (parts s bs)) ++ parts s u) [
      | true ↦ ap (λ (l : List (List ℕ)). [] ∷ l) more
      | false ↦ ap (onto_first b) (more ∙ ap (λ (l : List (List ℕ)). l ++ parts s u) m.2)
          ∙ ap (λ (l : List (List ℕ)). onto_first b l ++ parts s u) (sym m.2)
    ]

count_both : (front a u : List ℕ)
    → lines_with front (a ++ 10 ∷ u) ≡ count_by (begins front) (parts 10 a) + lines_with front u
unfolding lines_with
count_both front a u =
    ap (count_by (begins front)) (parts_both 10 a u)
    ∙ sum_by-append (λ l. cond (begins front l) 1 0) (parts 10 a) (parts 10 u)

-- nothing is no such line
count_none : (front : List ℕ) → begins front [] ≡ false → lines_with front [] ≡ 0
unfolding lines_with
count_none front none = ap (λ (b : Bool). 0 + cond b 1 0) none

lines_more : (front text more : List ℕ) → begins front [] ≡ false → IsWhole text
    → lines_with front (text ++ more) ≡ lines_with front text + lines_with front more
lines_more front text more none (inl empty) =
    let zero = count_none front none in
    ap (λ (t : List ℕ). lines_with front (t ++ more)) empty
    ∙ omega (arith, zero)
    ∙ ap (λ (t : List ℕ). lines_with front t + lines_with front more) (sym empty)
lines_more front text more none (inr ends) =
    let zero = count_none front none in
    let here = count_both front ends.0 [] in
    let all = count_both front ends.0 more in
    ap (λ (t : List ℕ). lines_with front (t ++ more)) ends.1
    ∙ ap (lines_with front) (append_assoc ends.0 (10 ∷ []) more)
    ∙ omega (arith, zero, here, all)
    ∙ ap (λ (t : List ℕ). lines_with front t + lines_with front more) (sym ends.1)

pub by_pieces : CountsByPieces
by_pieces text more whole =
    rw (
      lines_more (codes "event ") text more refl whole,
      lines_more (codes "sent ") text more refl whole,
      lines_more (codes "act reserve ") text more refl whole,
      lines_more (codes "act grant ") text more refl whole,
      lines_more (codes "act hold ") text more refl whole,
      lines_more (codes "act drop ") text more refl whole,
      lines_more (codes "act free ") text more refl whole,
      lines_more (codes "act freed ") text more refl whole,
      lines_more (codes "act open ") text more refl whole,
      lines_more (codes "act close ") text more refl whole,
      lines_more (codes "act lose ") text more refl whole,
      lines_more (codes "act hand ") text more refl whole,
      lines_more (codes "drop ") text more refl whole,
    ) refl
