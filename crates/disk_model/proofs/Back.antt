-- What a call replaced gives the file before it.
use Rattle.std.proofs.Common.{◌≡◌, ◌≤◌, ℕ, ◌+◌, ◌-◌, min, max, List, [], ◌∷◌, ◌++◌, length, take, drop, reverse, sym, ◌∙◌, ap, arith, inl, inr, append_assoc, length-append, length-drop, take-append-drop}
use Rattle.std.proofs.lemmas.List.{take_at, drop_at, drop-drop, take_min, take-take, drop_all, drop-take, append-nil, length-take-le, reverse-append, take-append-le}
use Rattle.std.proofs.Math.Seq.{take-append-add}
use Rattle.std.proofs.lemmas.Bool.{cases_lt}
use Rattle.outside_io.specs.Disk.{FileState, then}
use Rattle.outside_io.specs.declared.disk.Span.{Span}
use Rattle.disk_model.specs.declared.state.Undo.{Undo}
use Rattle.disk_model.specs.States.{before, pasts}

-- one undo more, one moment more
pub history_next : (us later : List Undo) (u : Undo) (f next : FileState) → later ≡ us ++ u ∷ [] → before u next ≡ f
    → record { now = next; past = pasts (reverse later) next }
    ≡ then next (record { now = f; past = pasts (reverse us) f })
history_next us later u f next more back =
    let turned : reverse later ≡ u ∷ reverse us = ap (λ (l : List Undo). reverse l) more ∙ reverse-append us (u ∷ []) in
    ap (λ (l : List Undo). record { now = next; past = pasts l next }) turned
    ∙ ap (λ (x : FileState). record { now = next; past = x ∷ pasts (reverse us) x }) back

-- the ranges without the last
pub ranges_back : (ranges : List Span) (s : Span) → take (length (ranges ++ s ∷ []) - 1) (ranges ++ s ∷ []) ≡ ranges
ranges_back ranges s = take_at ranges (s ∷ []) _ (omega (arith, length-append ranges (s ∷ [])))

-- what was replaced put back
pub bytes_back : (old piece replaced : List ℕ) (at : ℕ) → at ≤ length old
    → replaced ≡ take (min (length piece) (length old - at)) (drop at old)
    → take at (take at old ++ piece ++ drop (at + length piece) old) ++ replaced ++ drop (at + length piece)
    (take at old ++ piece ++ drop (at + length piece) old) ≡ old
bytes_back old piece replaced at le is =
    let n = length piece in
    let new = take at old ++ piece ++ drop (at + n) old in
    let front_long : length (take at old) ≡ at = length-take-le at old le in
    let both_long : length (take at old ++ piece) ≡ at + n =
    omega (arith, front_long, length-append (take at old) piece) in
    let front : take at new ≡ take at old =
    take-append-le at (take at old ++ piece) (drop (at + n) old) (omega (arith, both_long))
    ∙ take_at (take at old) piece at front_long in
    let back : drop (at + n) new ≡ drop n (drop at old) =
    drop_at (take at old ++ piece) (drop (at + n) old) (at + n) both_long ∙ sym (drop-drop n at old) in
    let mid : replaced ≡ take n (drop at old) =
    is ∙ ap (λ k. take (min n k) (drop at old)) (sym (length-drop at old)) ∙ take_min n (drop at old) in
    ap (λ (l : List ℕ). l ++ replaced ++ drop (at + n) new) front
    ∙ ap (λ (l : List ℕ). take at old ++ l ++ drop (at + n) new) mid
    ∙ ap (λ (l : List ℕ). take at old ++ take n (drop at old) ++ l) back
    ∙ append_assoc (take at old) (take n (drop at old)) (drop n (drop at old))
    ∙ ap (λ (l : List ℕ). take at old ++ l) (take-append-drop n (drop at old))
    ∙ take-append-drop at old

-- what is behind a place of the file is behind it in the buffer, up to the file's end
pub behind : (buffer : List ℕ) (at len : ℕ) → at ≤ len → drop at (take len buffer) ≡ take (len - at) (drop at buffer)
behind buffer at len le = ap (λ n. drop at (take n buffer)) {x = len} {y = at + (len - at)} (omega (arith, le))
    ∙ drop-take at (len - at) buffer

-- the bytes that a piece replaces in the file
pub replaced_in_file : (buffer : List ℕ) (at len n : ℕ) → at ≤ len → len ≤ length buffer
    → take (min n (len - at)) (drop at buffer)
    ≡ take (min n (length (take len buffer) - at)) (drop at (take len buffer))
replaced_in_file buffer at len n le inside =
    sym (take-take (min n (len - at)) (len - at) (drop at buffer) (omega arith))
    ∙ ap (λ (l : List ℕ). take (min n (len - at)) l) (sym (behind buffer at len le))
    ∙ ap (λ k. take (min n (k - at)) (drop at (take len buffer))) (sym (length-take-le len buffer inside))

-- a piece in the buffer is the piece in the file
pub written_in_file : (buffer piece : List ℕ) (at len : ℕ) → at ≤ len → len ≤ length buffer
    → take (max len (at + length piece)) (take at buffer ++ piece ++ drop (at + length piece) buffer)
    ≡ take at (take len buffer) ++ piece ++ drop (at + length piece) (take len buffer)
written_in_file buffer piece at len le inside =
    ap (λ k. take k (front ++ drop end buffer)) {x = max len end} {y = length front + (max len end - end)}
    (omega (arith, front_long))
    ∙ take-append-add front (drop end buffer) (max len end - end)
    ∙ ap (λ (l : List ℕ). front ++ l) rest
    ∙ ap (λ (l : List ℕ). (l ++ piece) ++ drop end (take len buffer)) (sym (take-take at len buffer le))
  where
    end : ℕ
    end = at + length piece

    front : List ℕ
    front = take at buffer ++ piece

    front_long : length (take at buffer ++ piece) ≡ at + length piece
    front_long =
        omega (arith, length-append (take at buffer) piece, length-take-le at buffer (omega (arith, le, inside)))

    rest : take (max len (at + length piece) - (at + length piece)) (drop (at + length piece) buffer)
        ≡ drop (at + length piece) (take len buffer)
    rest = elim (cases_lt (at + length piece) len) [
      | inl before ↦ ap (λ k. take k (drop (at + length piece) buffer))
          {x = max len (at + length piece) - (at + length piece)} {y = len - (at + length piece)}
          (omega (arith, before))
          ∙ sym (behind buffer (at + length piece) len (omega (arith, before)))
      | inr past ↦ ap (λ k. take k (drop (at + length piece) buffer))
          {x = max len (at + length piece) - (at + length piece)} {y = 0} (omega (arith, past))
          ∙ sym (drop_all (at + length piece) (take len buffer) (omega (arith, past, length-take-le len buffer inside)))
    ]

-- the length of the buffer with the piece
pub written_long : (buffer piece : List ℕ) (at : ℕ) → at ≤ length buffer
    → length (take at buffer ++ piece ++ drop (at + length piece) buffer) ≡ max (length buffer) (at + length piece)
written_long buffer piece at le =
    omega (
      arith,
      length-append (take at buffer ++ piece) (drop (at + length piece) buffer),
      length-append (take at buffer) piece,
      length-take-le at buffer le,
      length-drop (at + length piece) buffer,
    )

-- what a cut took put back
pub cut_back : (old cut : List ℕ) (n : ℕ) → n ≤ length old → cut ≡ drop n old
    → take n (take n old) ++ cut ++ drop (n + 0) (take n old) ≡ old
cut_back old cut n le is =
    ap (λ (l : List ℕ). take n (take n old) ++ cut ++ l)
    (drop_all (n + 0) (take n old) (omega (arith, length-take-le n old le)))
    ∙ append-nil (take n (take n old) ++ cut)
    ∙ ap (λ (l : List ℕ). l ++ cut) (take-take n n old (omega arith))
    ∙ ap (λ (l : List ℕ). take n old ++ l) is
    ∙ take-append-drop n old
