-- Lines and their ends make up a text, and the first line `---` is found line by line.
use Rattle.std.proofs.Common.{◌≡◌, ℕ, ◌+◌, ◌≤◌, Bool, true, false, cond, ◌==◌, List, [], ◌∷◌, length, Option, Some, None, refl, sym, ap, subst, arith, ◌∙◌}
use Rattle.std.specs.List.{onto_first}
use Rattle.address_text.specs.Fields.{parts}
use Rattle.address_text.proofs.Parts.{parts_some}
use Rattle.node_schedule.specs.Halves.{dashes_from, is_dashes}

-- how long lines are with their ends
abbrev pub total : List (List ℕ) → ℕ
total [] = 0
total (line ∷ lines) = length line + 1 + total lines

total_first : (b : ℕ) (x : List ℕ) (xs lines : List (List ℕ)) → lines ≡ x ∷ xs → total (onto_first b lines) ≡ total lines + 1
total_first b x xs lines e = rw e (omega arith)

pub total_parts : (s : ℕ) (text : List ℕ) → total (parts s text) ≡ length text + 1
total_parts s [] = refl
total_parts s (b ∷ bs) =
    let more = total_parts s bs in
    let m = parts_some s bs in
    let first = total_first b m.0 m.1 (parts s bs) m.2 in
    elim (b == s) as (λ t. total (cond t ([] ∷ parts s bs) (onto_first b (parts s bs))) ≡ length (b ∷ bs) + 1) [
      | true ↦ omega (arith, more)
      | false ↦ omega (arith, more, first)
    ]

pub dashes_found : (n : ℕ) (line : List ℕ) (lines : List (List ℕ)) (o : Option ℕ) → is_dashes line ≡ true
    → dashes_from n (line ∷ lines) ≡ o → o ≡ Some n
unfolding dashes_from
dashes_found n line lines o is so_far = sym so_far ∙ rw is refl

pub dashes_past : (n : ℕ) (line : List ℕ) (lines : List (List ℕ)) (o : Option ℕ) → is_dashes line ≡ false
    → dashes_from n (line ∷ lines) ≡ o → dashes_from (n + (length line + 1)) lines ≡ o
unfolding dashes_from
dashes_past n line lines o is so_far = rw is at so_far

pub dashes_none : (n : ℕ) (o : Option ℕ) → dashes_from n [] ≡ o → o ≡ None
unfolding dashes_from
dashes_none n o so_far = sym so_far
