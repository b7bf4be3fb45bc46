-- A file is read as the bodies of its records, and as nothing else.
use Rattle.std.proofs.Common.{◌≡◌, ◌≢◌, ◌⊎◌, inl, inr, ◌<◌, ◌≤◌, ℕ, zero, suc, ◌+◌, Bool, true, false, List, [], ◌∷◌, ◌++◌, length, get_or, take, drop, refl, sym, ◌∙◌, ap, subst, arith, length-append, length-drop, append_assoc, take-append-drop, Ok}
use Rattle.std.specs.Prelude.{Result, Err, Option, Some, None}
use Rattle.std.proofs.lemmas.List.{append-nil, drop_more, take-take, drop-take, drop-drop, length-take-le}
use Rattle.std.proofs.lemmas.Bool.Decides.{nat_tests}
use Rattle.std.proofs.lemmas.Bool.{cases_eq, true≢false}
use Rattle.wire_core.specs.Numbers.{AreBytes}
use Rattle.wire_core.specs.Numbers.{number_bytes}
use Rattle.wire_core.proofs.NumberLaws.{take_bytes, drop_bytes, number_bytes-big_number}
use Rattle.outside_io.specs.Disk.{Each}
use Rattle.journal.specs.File.{size, size_bytes, body_of, is_record, record_at, go_on, after, bodies_from, bodies, StandsFor}
use Rattle.journal.specs.Records.{IsBody, records, IsRecords}
use Rattle.journal.proofs.Records.{tests, at_open, at_shut, length-size_bytes, length-body}
use Rattle.journal.proofs.Files.{stands_none, stands_shut, long_bodies, short_bodies, one_or_more}
use Rattle.journal.proofs.Append.{stands_written}

-- the front of records stands for their bodies
stands_records : (bound : ℕ) (front : List ℕ) (done bs : List (List ℕ)) → StandsFor bound front done → Each IsBody bs
    → (0 < length bs → length front + length (records bs) + 1 ≤ bound)
    → StandsFor bound (front ++ records bs) (done ++ bs)
stands_records bound front done [] stands each within =
    subst (λ (l : List ℕ). StandsFor bound l (done ++ [])) (sym (append-nil front))
    (subst (λ (l : List (List ℕ)). StandsFor bound front l) (sym (append-nil done)) stands)
stands_records bound front done (b ∷ bs) stands each within =
    let g = each.0 in
    let first : List ℕ = 1 ∷ (size_bytes (length b) ++ b) in
    let long : length (1 ∷ (size_bytes (length b) ++ b)) ≡ length b + 5 =
    omega (arith, length-append (size_bytes (length b)) b, length-size_bytes (length b)) in
    let whole = length-append (1 ∷ (size_bytes (length b) ++ b)) (records bs) in
    let in_bound = within (omega arith) in
    let next = stands_written bound (length front + 1) b g.some g.most g.entry (omega (arith, in_bound, whole, long))
    front done [] refl stands in
    let rest = stands_records bound (front ++ first) (done ++ b ∷ []) bs next each.1
    (λ some. omega (arith, in_bound, whole, length-append front (1 ∷ (size_bytes (length b) ++ b)))) in
    subst (λ (l : List ℕ). StandsFor bound l (done ++ b ∷ bs)) (append_assoc front first (records bs))
    (subst (λ (l : List (List ℕ)). StandsFor bound ((front ++ first) ++ records bs) l)
    (append_assoc done (b ∷ []) bs) rest)

pub records_read : (bound : ℕ) (file : List ℕ) (bs : List (List ℕ)) → IsRecords bound file bs
    → bodies bound file ≡ Ok bs
records_read bound file bs is =
    ap (bodies bound) is.split ∙ stands_shut bound (records bs) bs is.gate is.tail
    (stands_records bound [] [] bs (stands_none bound) is.each (λ some. omega (arith, is.within some))) is.shut

-- from a gate on
record AreRecords (bound at : ℕ) (rest : List ℕ) (bs : List (List ℕ)) : Type 0 where
  gate : ℕ
  tail : List ℕ
  split : rest ≡ records bs ++ gate ∷ tail
  shut : gate ≢ 1
  each : Each IsBody bs
  within : 0 < length bs → at + length (records bs) + 1 ≤ bound

-- four bytes are the bytes of their number
size_back : (rest : List ℕ) → AreBytes rest → 5 ≤ length rest → size_bytes (size rest) ≡ take 4 (drop 1 rest)
size_back rest bytes long =
    unfold size in unfold size_bytes in unfold number_bytes in
    number_bytes-big_number 4 (take 4 (drop 1 rest))
    (omega (
      arith,
      long,
      length-drop 1 rest,
      length-take-le 4 (drop 1 rest) (omega (arith, long, length-drop 1 rest)),
    ))
    (take_bytes 4 (drop 1 rest) (drop_bytes 1 rest bytes))
    ∙ take-take 4 4 (drop 1 rest) (omega arith)

ok_same : (xs ys : List (List ℕ)) → ◌≡◌ {A = Result (List (List ℕ)) ℕ} (Ok xs) (Ok ys) → xs ≡ ys
ok_same xs ys same = ap list_of same
  where
    list_of : Result (List (List ℕ)) ℕ → List (List ℕ)
    list_of (Ok l) = l
    list_of (Err e) = []

at_damaged : (bound at : ℕ) (rest : List ℕ) → get_or rest 0 0 ≡ 1 → is_record bound at rest ≡ false
    → record_at bound at rest ≡ Err at
at_damaged bound at rest gate fails = grind (arith, nat_tests)

-- what follows a body, where all is read
more_of : (b : List ℕ) (r : Result (List (List ℕ)) ℕ) (bs : List (List ℕ)) → after (b ∷ []) r ≡ Ok bs
    → (more : List (List ℕ)) × (r ≡ Ok more) × (bs ≡ b ∷ more)
more_of b (Ok more) bs is = (more, refl, sym (ok_same (b ∷ more) bs is))
more_of b (Err e) bs is = absurd (err_ok is)
  where
    is_err : Result (List (List ℕ)) ℕ → Bool
    is_err (Ok l) = false
    is_err (Err e) = true

    err_ok : ◌≡◌ {A = Result (List (List ℕ)) ℕ} (Err e) (Ok bs) → ⊥
    err_ok same = true≢false (ap is_err same)

take_sum : (k m : ℕ) (l : List ℕ) → take (k + m) l ≡ take k l ++ take m (drop k l)
take_sum k m l =
    sym (take-append-drop k (take (k + m) l))
    ∙ ap (λ (x : List ℕ). x ++ drop k (take (k + m) l)) (take-take k (k + m) l (omega arith))
    ∙ ap (λ (x : List ℕ). take k l ++ x) (drop-take k m l)

-- a record's bytes, where it is one
record_is : (bound at : ℕ) (rest : List ℕ) → AreBytes rest → get_or rest 0 0 ≡ 1 → is_record bound at rest ≡ true
    → take (length (body_of rest) + 5) rest ≡ 1 ∷ (size_bytes (length (body_of rest)) ++ body_of rest)
record_is bound at rest bytes gate holds =
    let t = tests bound at rest holds in
    let long : length (body_of rest) ≡ size rest = length-body bound at rest (1 ∷ []) gate holds (omega arith) in
    let head : take 1 rest ≡ 1 ∷ [] = ap (λ (l : List ℕ). take 1 l) (drop_more rest 0 0 (omega (arith, t.within)))
    ∙ ap (λ (g : ℕ). g ∷ []) gate in
    let number : take 4 (drop 1 rest) ≡ size_bytes (length (body_of rest)) =
    sym (size_back rest bytes (omega (arith, t.within))) ∙ ap (λ k. size_bytes k) (sym long) in
    ap (λ k. take k rest) {x = length (body_of rest) + 5} {y = 1 + (4 + size rest)} (omega (arith, long))
    ∙ take_sum 1 (4 + size rest) rest
    ∙ ap (λ (l : List ℕ). l ++ take (4 + size rest) (drop 1 rest)) head
    ∙ ap (λ (l : List ℕ). 1 ∷ l)
    (take_sum 4 (size rest) (drop 1 rest)
    ∙ ap (λ (l : List ℕ). l ++ take (size rest) (drop 4 (drop 1 rest))) number
    ∙ ap (λ (l : List ℕ). size_bytes (length (body_of rest)) ++ take (size rest) l) (drop-drop 4 1 rest))

within_all : (bound at n : ℕ) (more : List (List ℕ)) → at + n + 6 ≤ bound
    → (0 < length more → at + n + 5 + length (records more) + 1 ≤ bound)
    → at + n + 5 + length (records more) + 1 ≤ bound
within_all bound at n [] last within = omega (arith, last)
within_all bound at n (b ∷ more) last within = within (omega arith)

from_records : (fuel bound at : ℕ) (rest : List ℕ) (bs : List (List ℕ)) → AreBytes rest → 0 < length rest
    → length rest ≤ fuel → bodies_from fuel bound at rest ≡ Ok bs → AreRecords bound at rest bs
from_records zero bound at rest bs bytes some le is = absurd (omega (arith, some, le))
from_records (suc fuel) bound at rest bs bytes some le is =
    by_gate (λ at' rest' bs' b s l i. from_records fuel bound at' rest' bs' b s l i) (cases_eq (get_or rest 0 0) 1)
  where
    step : (r : Result (Option (List ℕ)) ℕ) → record_at bound at rest ≡ r
        → go_on r
        (λ body. after (body ∷ []) (bodies_from fuel bound (at + length body + 5) (drop (length body + 5) rest)))
        ≡ Ok bs
    step r found =
        ap (λ r. go_on r
        (λ body. after (body ∷ [])
        (bodies_from fuel bound (at + length body + 5) (drop (length body + 5) rest)))) (sym found) ∙ is

    by_test : ((at' : ℕ) (rest' : List ℕ) (bs' : List (List ℕ)) → AreBytes rest' → 0 < length rest'
        → length rest' ≤ fuel → bodies_from fuel bound at' rest' ≡ Ok bs' → AreRecords bound at' rest' bs')
        → get_or rest 0 0 ≡ 1 → (b : Bool) → is_record bound at rest ≡ b → AreRecords bound at rest bs
    by_test ih gate true holds =
        let body = body_of rest in
        let t = tests bound at rest holds in
        let long : length (body_of rest) ≡ size rest = length-body bound at rest (1 ∷ []) gate holds (omega arith) in
        let m = more_of body _ bs (step (Ok (Some body)) (at_open bound at rest gate holds)) in
        let rest_long = length-drop (length body + 5) rest in
        let later = ih (at + length body + 5) (drop (length body + 5) rest) m.0
        (drop_bytes (length body + 5) rest bytes) (omega (arith, rest_long, t.within, long))
        (omega (arith, rest_long, le, some)) m.1 in
        let first_long : length (1 ∷ (size_bytes (length body) ++ body)) ≡ length body + 5 =
        omega (arith, length-append (size_bytes (length body)) body, length-size_bytes (length body)) in
        subst (λ (l : List (List ℕ)). AreRecords bound at rest l) (sym m.2) record {
          gate = later.gate;
          tail = later.tail;
          split = sym (take-append-drop (length body + 5) rest)
              ∙ ap (λ (l : List ℕ). l ++ drop (length body + 5) rest) (record_is bound at rest bytes gate holds)
              ∙ ap (λ (l : List ℕ). (1 ∷ (size_bytes (length body) ++ body)) ++ l) later.split
              ∙ sym (append_assoc (1 ∷ (size_bytes (length body) ++ body)) (records m.0) (later.gate ∷ later.tail));
          shut = later.shut;
          each = (
            record {
              some = omega (arith, long, t.first);
              most = omega (arith, long, t.last);
              entry = t.entry;
            },
            later.each,
          );
          within = λ _. omega (
            arith,
            first_long,
            length-append (1 ∷ (size_bytes (length body) ++ body)) (records m.0),
            within_all bound at (length body) m.0 (omega (arith, t.bounded, long)) later.within,
          );
        }
    by_test ih gate false fails = absurd (err_ok (step (Err at) (at_damaged bound at rest gate fails)))
      where
        is_err : Result (List (List ℕ)) ℕ → Bool
        is_err (Ok l) = false
        is_err (Err e) = true

        err_ok : ◌≡◌ {A = Result (List (List ℕ)) ℕ} (Err at) (Ok bs) → ⊥
        err_ok same = true≢false (ap is_err same)

    by_gate : ((at' : ℕ) (rest' : List ℕ) (bs' : List (List ℕ)) → AreBytes rest' → 0 < length rest'
        → length rest' ≤ fuel → bodies_from fuel bound at' rest' ≡ Ok bs' → AreRecords bound at' rest' bs')
        → (get_or rest 0 0 ≡ 1) ⊎ (get_or rest 0 0 ≢ 1) → AreRecords bound at rest bs
    by_gate ih (inl gate) = by_test ih gate (is_record bound at rest) refl
    by_gate ih (inr shut) = subst (λ (l : List (List ℕ)). AreRecords bound at rest l)
        (ok_same [] bs (step (Ok None) (at_shut bound at rest shut))) record {
          gate = get_or rest 0 0;
          tail = drop 1 rest;
          split = drop_more rest 0 0 some;
          shut = shut;
          each = tt;
          within = λ none. absurd (omega (arith, none));
        }

pub file_records : (bound : ℕ) (file : List ℕ) (bs : List (List ℕ)) → AreBytes file → bodies bound file ≡ Ok bs
    → ((length file ≤ 1) × (bs ≡ [])) ⊎ IsRecords bound file bs
file_records bound file bs bytes is = by_length (one_or_more (length file))
  where
    by_length : (length file ≤ 1) ⊎ (1 < length file) → ((length file ≤ 1) × (bs ≡ [])) ⊎ IsRecords bound file bs
    by_length (inl short) = inl (short, sym (ok_same [] bs (sym (short_bodies bound file short) ∙ is)))
    by_length (inr long) =
        let r = from_records (length file) bound 0 file bs bytes (omega (arith, long)) (omega arith)
        (sym (long_bodies bound file long) ∙ is) in
        inr record {
          gate = r.gate;
          tail = r.tail;
          split = r.split;
          shut = r.shut;
          each = r.each;
          within = λ some. omega (arith, r.within some);
        }
