-- What a read of a part of the file says of the record there.
use Rattle.std.proofs.Common.{◌≡◌, ◌<◌, ◌≤◌, ℕ, ◌+◌, Bool, true, false, List, ◌++◌, length, get_or, take, drop, refl, sym, ◌∙◌, ap, subst, arith, length-drop}
use Rattle.std.specs.Prelude.{nat_lt, ◌&&◌, Ok, Err, Option, Some, None}
use Rattle.std.proofs.lemmas.List.{take_all, take-take, take-append-le, drop-take, drop-drop, get_or-take}
use Rattle.std.proofs.lemmas.Bool.{false≢true}
use Rattle.std.proofs.lemmas.Bool.Decides.{nat_tests}
use Rattle.outside_io.specs.Disk.{History, Reads}
use Rattle.outside_io.specs.declared.failed.Failed.{Failed}
use Rattle.journal.specs.File.{size, is_entry, is_record, record_at}
use Rattle.journal.specs.Reading.{Heads, Bodies, Finds, is_body}
use Rattle.journal.specs.declared.fault.JournalFault.TheVariants.{Damaged}
use Rattle.journal.specs.declared.reading.Head.TheVariants.{Size}
use Rattle.journal.proofs.Records.{size-alike, IsRecord, tests, tests_back, at_open}

pub head_size : (told : Option History) (at got n : ℕ) (before after : List ℕ)
    → Reads {E = Failed} told at before after (Ok got) → length before ≡ 5 → length after ≡ 5 → 5 ≤ got → got ≤ 5
    → get_or after 0 0 ≡ 1 → n ≡ size after
    → Heads {E = Failed} told at (Ok (Size n))
head_size None at got n before after reads long long' ge le gate is = tt
head_size (Some t) at got n before after reads long long' ge le gate is =
    let five : got ≡ 5 = omega arith in
    let same : after ≡ take 5 (drop at t.now.bytes) = sym (take_all 5 after (omega (arith, long')))
    ∙ subst (λ (k : ℕ). take k after ≡ take k (drop at t.now.bytes)) five reads.1 in
    let first : get_or (drop at t.now.bytes) 0 0 ≡ 1 = sym (get_or-take 5 (drop at t.now.bytes) 0 0 (omega arith))
    ∙ ap (λ (l : List ℕ). get_or l 0 0) (sym same) ∙ gate in
    let sized : size after ≡ size (drop at t.now.bytes) =
    size-alike after (drop at t.now.bytes)
    (ap (λ (l : List ℕ). take 4 (drop 1 l)) same
    ∙ ap (λ (l : List ℕ). take 4 l) (drop-take 1 4 (drop at t.now.bytes))
    ∙ take-take 4 4 (drop 1 (drop at t.now.bytes)) (omega arith)) in
    (first, is ∙ sized)

module _ (at n got : ℕ) (before after more : List ℕ) (long : length before ≡ n + 1) (long' : length after ≡ n + 1) where
  pub body_there : (told : Option History) (holds : Bool) → Reads {E = Failed} told at before after (Ok got)
      → n < got → holds ≡ is_entry (take n (after ++ more)) → Bodies {E = Failed} told at n (after ++ more) (Ok holds)
  body_there None holds reads lt is = tt
  body_there (Some t) holds reads lt is =
      let room : take n (after ++ more) ≡ take n (drop at t.now.bytes) =
      take-append-le n after more (omega (arith, long'))
      ∙ sym (take-take n got after (omega (arith, lt)))
      ∙ ap (λ (l : List ℕ). take n l) reads.1
      ∙ take-take n got (drop at t.now.bytes) (omega (arith, lt)) in
      let there : nat_lt n (length (drop at t.now.bytes)) ≡ true =
      (let h : n < length (drop at t.now.bytes) = omega (arith, lt, reads.0, long, length-drop at t.now.bytes) in
      grind (arith, nat_tests)) in
      (is ∙ ap is_entry room ∙ ap (λ b. b && is_entry (take n (drop at t.now.bytes))) (sym there), λ _. room)

  pub body_short : (told : Option History) → Reads {E = Failed} told at before after (Ok got) → got ≤ n
      → Bodies {E = Failed} told at n (after ++ more) (Ok (nat_lt n got))
  body_short None reads le = tt
  body_short (Some t) reads le =
      let no : nat_lt n got ≡ false = grind (arith, nat_tests) in
      let short : nat_lt n (length (drop at t.now.bytes)) ≡ false =
      (let h : length (drop at t.now.bytes) ≤ n = omega (arith, le, reads.0, long, length-drop at t.now.bytes) in
      grind (arith, nat_tests)) in
      (no ∙ ap (λ b. b && is_entry (take n (drop at t.now.bytes))) (sym short), λ is. absurd (false≢true (sym no ∙ is)))

-- the parts of a record, together
record IsThere (bound at n : ℕ) (rest : List ℕ) : Type 0 where
  gate : get_or rest 0 0 ≡ 1
  sized : n ≡ size rest
  first : 1 ≤ n
  last : n ≤ 65536
  bounded : at + n + 5 < bound

body_tests : (n : ℕ) (rest : List ℕ) → is_body n rest ≡ true → (n < length rest) × (is_entry (take n rest) ≡ true)
body_tests n rest holds = (grind (arith, nat_tests), grind (arith, nat_tests))

body_tests_back : (n : ℕ) (rest : List ℕ) → n < length rest → is_entry (take n rest) ≡ true → is_body n rest ≡ true
body_tests_back n rest lt entry = grind (arith, nat_tests)

at_damaged : (bound at : ℕ) (rest : List ℕ) → get_or rest 0 0 ≡ 1 → (is_record bound at rest ≡ true → ⊥)
    → record_at bound at rest ≡ Err at
at_damaged bound at rest gate never = by_test (is_record bound at rest) refl
  where
    by_test : (b : Bool) → is_record bound at rest ≡ b → record_at bound at rest ≡ Err at
    by_test true is = absurd (never is)
    by_test false is = grind (arith, nat_tests)

there : (bound at n : ℕ) (rest room : List ℕ) → IsThere bound at n rest → is_body n (drop 5 rest) ≡ true
    → take n room ≡ take n (drop 5 rest) → record_at bound at rest ≡ Ok (Some (take n room))
there bound at n rest room is holds same =
    let b = body_tests n (drop 5 rest) holds in
    let record_is = tests_back bound at rest
    (subst (λ k. IsRecord bound at k rest) is.sized
    record {
      first = is.first;
      last = is.last;
      within = omega (arith, b.0, length-drop 5 rest);
      bounded = is.bounded;
      entry = b.1;
    }) in
    at_open bound at rest is.gate record_is
    ∙ ap (λ (l : List ℕ). Ok (Some l)) (ap (λ k. take k (drop 5 rest)) (sym is.sized) ∙ sym same)

not_there : (bound at n : ℕ) (rest : List ℕ) → IsThere bound at n rest → is_body n (drop 5 rest) ≡ false
    → record_at bound at rest ≡ Err at
not_there bound at n rest is short = at_damaged bound at rest is.gate (λ holds.
    let t = subst (λ k. IsRecord bound at k rest) (sym is.sized) (tests bound at rest holds) in
    false≢true (sym short ∙ body_tests_back n (drop 5 rest) (omega (arith, t.within, length-drop 5 rest)) t.entry))

module _ (bound at n : ℕ) (room : List ℕ) (first : 1 ≤ n) (last : n ≤ 65536) (bounded : at + n + 5 < bound) where
  pub found_body : (told mid : Option History) (holds : Bool) → mid ≡ told → Heads {E = Failed} told at (Ok (Size n))
      → Bodies {E = Failed} mid (at + 5) n room (Ok holds) → holds ≡ true → Finds told bound at room (Ok (Some n))
  found_body None mid holds same heads bodies is = tt
  found_body (Some t) mid holds same heads bodies is =
      let b = subst (λ (o : Option History). Bodies {E = Failed} o (at + 5) n room (Ok holds)) same bodies in
      let l : drop (at + 5) t.now.bytes ≡ drop 5 (drop at t.now.bytes) = sym (drop-drop 5 at t.now.bytes) in
      there bound at n (drop at t.now.bytes) room
      record { gate = heads.0; sized = heads.1; first = first; last = last; bounded = bounded }
      (ap (is_body n) (sym l) ∙ sym b.0 ∙ is)
      (b.1 is ∙ ap (λ (x : List ℕ). take n x) l)

  pub found_short : (told mid : Option History) (holds : Bool) (offset : ℕ) → mid ≡ told
      → Heads {E = Failed} told at (Ok (Size n)) → Bodies {E = Failed} mid (at + 5) n room (Ok holds) → holds ≡ false
      → offset ≡ at → Finds told bound at room (Err (Damaged false offset))
  found_short None mid holds offset same heads bodies fails place = tt
  found_short (Some t) mid holds offset same heads bodies fails place =
      let b = subst (λ (o : Option History). Bodies {E = Failed} o (at + 5) n room (Ok holds)) same bodies in
      let l : drop (at + 5) t.now.bytes ≡ drop 5 (drop at t.now.bytes) = sym (drop-drop 5 at t.now.bytes) in (
        refl,
        place,
        not_there bound at n (drop at t.now.bytes)
            record { gate = heads.0; sized = heads.1; first = first; last = last; bounded = bounded }
            (ap (is_body n) (sym l) ∙ sym b.0 ∙ fails),
      )
