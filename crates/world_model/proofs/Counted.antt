-- A text that is counted piece by piece.
use Rattle.std.proofs.Common.{◌≡◌, ◌⊎◌, inl, inr, ℕ, List, [], ◌∷◌, ◌++◌, refl, sym, ap, subst, ◌∙◌, append_assoc, append-nil}
use Rattle.transcript_summary.specs.Summary.{CountsByPieces, IsWhole, added, counts_of}
use Rattle.transcript_summary.specs.declared.kinds.Counts.{Counts}

-- A front of a text of whole lines was counted, and this is what is left of it.
pub record Counted (counts : Counts) (left text : List ℕ) : Type 0 where
  pub taken : List ℕ
  pub is : counts ≡ counts_of taken
  pub lines : IsWhole taken
  pub whole : taken ++ left ≡ text

pub counted_none : (counts : Counts) (text : List ℕ) → counts ≡ counts_of [] → Counted counts text text
counted_none counts text is = record { taken = []; is = is; lines = inl refl; whole = refl }

whole_then : (a b : List ℕ) → IsWhole a → IsWhole b → IsWhole (a ++ b)
whole_then a b is (inl none) = subst IsWhole (sym (append-nil a) ∙ ap (λ (l : List ℕ). a ++ l) (sym none)) is
whole_then a b is (inr ends) =
    inr (a ++ ends.0, ap (λ (l : List ℕ). a ++ l) ends.1 ∙ sym (append_assoc a ends.0 (10 ∷ [])))

-- a piece more, of what was left behind an empty text
pub counted_then : CountsByPieces → (counts more next : Counts) (before piece rest left text : List ℕ) → Counted counts left text
    → before ≡ [] → piece ++ rest ≡ before ++ left → (IsWhole before → IsWhole piece) → more ≡ counts_of piece
    → next ≡ added counts more → Counted next rest text
counted_then law counts more next before piece rest left text is none split lines of sum =
    let whole : IsWhole piece = lines (inl none) in
    let cut : piece ++ rest ≡ left = split ∙ ap (λ (l : List ℕ). l ++ left) none in
    record {
      taken = is.taken ++ piece;
      is = sum
          ∙ ap (λ (c : Counts). added c more) is.is
          ∙ ap (added (counts_of is.taken)) of
          ∙ sym (law is.taken piece is.lines);
      lines = whole_then is.taken piece is.lines whole;
      whole = append_assoc is.taken piece rest ∙ ap (λ (l : List ℕ). is.taken ++ l) cut ∙ is.whole;
    }

-- nothing was left
pub counted_all : (counts : Counts) (before piece rest left text : List ℕ) → Counted counts left text → before ≡ []
    → piece ≡ before → rest ≡ [] → piece ++ rest ≡ before ++ left → counts ≡ counts_of text
counted_all counts before piece rest left text is none same end split =
    let cut : [] ≡ left =
    sym (ap (λ (l : List ℕ). l ++ rest) (same ∙ none) ∙ end) ∙ split ∙ ap (λ (l : List ℕ). l ++ left) none in
    is.is ∙ ap counts_of (sym (append-nil is.taken) ∙ ap (λ (l : List ℕ). is.taken ++ l) cut ∙ is.whole)
