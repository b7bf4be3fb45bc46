-- What a crash may leave before a call it may leave after it.
use Rattle.std.proofs.Common.{◌≡◌, ◌<◌, ◌≤◌, ℕ, ◌+◌, ◌-◌, false, List, [], ◌∷◌, ◌++◌, length, get_or, take, drop, sym}
use Rattle.std.proofs.Common.{◌∙◌, ap, arith, inl, inr, length-append, length-drop}
use Rattle.std.specs.Prelude.{nat_le, nat_lt}
use Rattle.std.specs.List.{list_any}
use Rattle.std.proofs.lemmas.Bool.{or_parts, and_cases, leb-false, ltb-false}
use Rattle.std.proofs.lemmas.List.{length-take-le, get_or-take, get_or-drop, get_or_append_left, get_or-append_right}
use Rattle.std.proofs.lemmas.List.Folds.{list_any-append}
use Rattle.outside_io.specs.Disk.{FileState, IsImage, IsWithin, is_in, is_unsynced, wrote, shortened}
use Rattle.outside_io.specs.declared.disk.Span.{Span}

-- a place that isn't written after the call wasn't written before it, and isn't in the call's range
not_written : (ranges : List Span) (s : Span) (i : ℕ) → list_any (is_in i) (ranges ++ s ∷ []) ≡ false
    → (list_any (is_in i) ranges ≡ false) × (is_in i s ≡ false)
not_written ranges s i none =
    let parts = or_parts (list_any (is_in i) ranges) (list_any (is_in i) (s ∷ []))
    (sym (list_any-append (is_in i) ranges (s ∷ [])) ∙ none) in
    (parts.0, (or_parts (is_in i s) false parts.1).0)

pub before_a_write : (at : ℕ) (bytes : List ℕ) (f : FileState) → at ≤ length f.bytes → IsWithin (wrote at bytes f) f
before_a_write at bytes f le = λ c im. record {
  no_shorter = im.no_shorter;
  no_longer = omega (arith, im.no_longer);
  stays = λ i lt lt' none. stays c im i lt lt'
      (not_written f.unsynced (record { from = at; to = at + length bytes }) i none);
}
  where
    front_long : length (take at f.bytes ++ bytes) ≡ at + length bytes
    front_long = omega (arith, length-append (take at f.bytes) bytes, length-take-le at f.bytes le)

    early : (i : ℕ) → i < at → get_or (take at f.bytes ++ bytes ++ drop (at + length bytes) f.bytes) i 0
        ≡ get_or f.bytes i 0
    early i lt =
        get_or_append_left (take at f.bytes ++ bytes) (drop (at + length bytes) f.bytes) 0 i
        (omega (arith, lt, front_long))
        ∙ get_or_append_left (take at f.bytes) bytes 0 i (omega (arith, lt, length-take-le at f.bytes le))
        ∙ get_or-take at f.bytes i 0 lt

    late : (i : ℕ) → at + length bytes ≤ i
        → get_or (take at f.bytes ++ bytes ++ drop (at + length bytes) f.bytes) i 0 ≡ get_or f.bytes i 0
    late i ge =
        get_or-append_right (take at f.bytes ++ bytes) (drop (at + length bytes) f.bytes) (at + length bytes) i 0
        front_long ge
        ∙ get_or-drop (at + length bytes) f.bytes (i - (at + length bytes)) 0
        ∙ ap (λ k. get_or f.bytes k 0) {x = at + length bytes + (i - (at + length bytes))} {y = i} (omega (arith, ge))

    stays : (c : List ℕ) → IsImage f c → (i : ℕ)
        → i < length (take at f.bytes ++ bytes ++ drop (at + length bytes) f.bytes) → i < length c
        → (is_unsynced f i ≡ false) × (is_in i (record { from = at; to = at + length bytes }) ≡ false)
        → get_or c i 0 ≡ get_or (take at f.bytes ++ bytes ++ drop (at + length bytes) f.bytes) i 0
    stays c im i lt lt' none = elim (and_cases (nat_le at i) (nat_lt i (at + length bytes)) none.1) [
      | inl before ↦ let small = leb-false at i before in
          im.stays i (omega (arith, small, le)) lt' none.0 ∙ sym (early i small)
      | inr after ↦ let large = ltb-false i (at + length bytes) after in
          im.stays i
          (omega (
            arith,
            large,
            lt,
            front_long,
            length-append (take at f.bytes ++ bytes) (drop (at + length bytes) f.bytes),
            length-drop (at + length bytes) f.bytes,
          )) lt' none.0 ∙ sym (late i large)
    ]

pub before_a_cut : (n : ℕ) (f : FileState) → n ≤ length f.bytes → IsWithin (shortened n f) f
before_a_cut n f le = λ c im. record {
  no_shorter = omega (arith, im.no_shorter);
  no_longer = im.no_longer;
  stays = λ i lt lt' none. let small : i < n = omega (arith, lt, length-take-le n f.bytes le) in
      im.stays i (omega (arith, small, le)) lt'
      (not_written f.unsynced (record { from = n; to = length f.bytes }) i none).0
      ∙ sym (get_or-take n f.bytes i 0 small);
}
