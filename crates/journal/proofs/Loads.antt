-- Reading a file from its first gate to its last.
use Rattle.std.proofs.Common.{◌≡◌, ◌≢◌, ◌<◌, ◌≤◌, ℕ, zero, suc, ◌+◌, ◌-◌, Bool, true, List, [], ◌∷◌, ◌++◌, length, get_or, take, drop, refl, sym, ◌∙◌, ap, subst, arith, length-drop, take-append-drop}
use Rattle.std.specs.Prelude.{⊤, Ok, Err, Option, Some, None}
use Rattle.std.proofs.lemmas.List.{take-take, drop-take, drop_more, length-take-le, get_or-drop}
use Rattle.std.proofs.lemmas.Bool.Decides.{nat_tests}
use Rattle.outside_io.specs.Disk.{History, HasLength}
use Rattle.outside_io.specs.Faults.{Rose}
use Rattle.outside_io.specs.declared.failed.Failed.{Failed}
use Rattle.journal.specs.File.{size, body_of, is_record, record_at, go_on, after, bodies_from, bodies, StandsFor}
use Rattle.journal.specs.Journal.{IsFile, journal_length}
use Rattle.journal.specs.Reading.{Finds, LoadsAs, LoadFails, DamagedAs}
use Rattle.journal.specs.declared.fault.JournalFault.{JournalFault}
use Rattle.journal.specs.declared.fault.JournalFault.TheVariants.{Disk, Damaged, Full, NoMemory}
use Rattle.journal.proofs.Records.{length-body, tests}
use Rattle.journal.proofs.Append.{reads}
use Rattle.journal.proofs.Files.{stands_none, stands_record, stands_bodies, short_bodies}

pub record IsLoading (bound at : ℕ) (bs : List (List ℕ)) (content : List ℕ) : Type 0 where
  pub long : 1 < length content
  pub inside : at < length content
  pub stands : StandsFor bound (take at content) bs

abbrev pub Loading : Option History → ℕ → ℕ → List (List ℕ) → Type 0
Loading None bound at bs = ⊤
Loading (Some t) bound at bs = IsLoading bound at bs t.now.bytes

take_add : (at m : ℕ) (l : List ℕ) → take at l ++ take m (drop at l) ≡ take (at + m) l
take_add at m l =
    ap (λ (x : List ℕ). x ++ take m (drop at l)) (sym (take-take at (at + m) l (omega arith)))
    ∙ ap (λ (x : List ℕ). take at (take (at + m) l) ++ x) (sym (drop-take at m l))
    ∙ take-append-drop at (take (at + m) l)

-- what a result of `record_at` says of the bytes
record Opened (bound at : ℕ) (rest b : List ℕ) : Type 0 where
  gate : get_or rest 0 0 ≡ 1
  holds : is_record bound at rest ≡ true
  body : body_of rest ≡ b

opened : (bound at : ℕ) (rest b : List ℕ) → record_at bound at rest ≡ Ok (Some b) → Opened bound at rest b
opened bound at rest b is =
    record { gate = grind (arith, nat_tests); holds = grind (arith, nat_tests); body = grind (arith, nat_tests) }

ended : (bound at : ℕ) (rest : List ℕ) → record_at bound at rest ≡ Ok None → get_or rest 0 0 ≢ 1
ended bound at rest is = λ gate. grind (arith, nat_tests)

from_damaged : (fuel bound at e : ℕ) (rest : List ℕ) → 0 < fuel → record_at bound at rest ≡ Err e
    → bodies_from fuel bound at rest ≡ Err e
from_damaged zero bound at e rest some is = absurd (omega arith)
from_damaged (suc fuel) bound at e rest some is =
    ap (λ r. go_on r
    (λ body. after (body ∷ []) (bodies_from fuel bound (at + length body + 5) (drop (length body + 5) rest)))) is

module _ (bound at : ℕ) (bs : List (List ℕ)) (content : List ℕ) (so_far : IsLoading bound at bs content) where
  front_long : length (take at content) ≡ at
  front_long = length-take-le at content (omega (arith, so_far.inside))

  rest_long : length (drop at content) ≡ length content - at
  rest_long = length-drop at content

  next_record : (n : ℕ) (room : List ℕ) → n ≤ length room
      → record_at bound at (drop at content) ≡ Ok (Some (take n room))
      → IsLoading bound (at + (n + 5)) (bs ++ take n room ∷ []) content
  next_record n room fits is =
      let o = opened bound at (drop at content) (take n room) is in
      let sized : size (drop at content) ≡ n =
      sym (length-body bound at (drop at content) (1 ∷ []) o.gate o.holds (omega arith)) ∙ ap length o.body
      ∙ length-take-le n room fits in
      let holds : is_record bound (length (take at content)) (drop at content) ≡ true =
      ap (λ k. is_record bound k (drop at content)) front_long ∙ o.holds in
      let next = stands_record bound (take at content) bs (drop at content) so_far.stands o.gate holds in
      let front : take at content ++ take (size (drop at content) + 5) (drop at content)
      ≡ take (at + (n + 5)) content = take_add at (size (drop at content) + 5) content
      ∙ ap (λ k. take (at + (k + 5)) content) sized in
      let t = tests bound at (drop at content) o.holds in
      record {
        long = so_far.long;
        inside = omega (arith, t.within, sized, rest_long);
        stands = subst (λ (b : List ℕ). StandsFor bound (take (at + (n + 5)) content) (bs ++ b ∷ [])) o.body
            (subst (λ (l : List ℕ). StandsFor bound l (bs ++ body_of (drop at content) ∷ [])) front next);
      }

  parted : content ≡ take at content ++ get_or content at 0 ∷ drop (at + 1) content
  parted = sym (take-append-drop at content)
      ∙ ap (λ (l : List ℕ). take at content ++ l) (drop_more content at 0 so_far.inside)

  end_file : record_at bound at (drop at content) ≡ Ok None → IsFile bound (at + 1) content
  end_file is = record {
    front = take at content;
    gate = get_or content at 0;
    tail = drop (at + 1) content;
    read = bs;
    split = parted;
    shut = λ gate. ended bound at (drop at content) is
        (get_or-drop at content 0 0 ∙ ap (λ k. get_or content k 0) (omega arith) ∙ gate);
    place = omega (arith, front_long);
    stands = so_far.stands;
  }

  end_bodies : record_at bound at (drop at content) ≡ Ok None → bodies bound content ≡ Ok bs
  unfolding end_file
  end_bodies is = reads bound (at + 1) content (end_file is)

  damaged : record_at bound at (drop at content) ≡ Err at → bodies bound content ≡ Err at
  damaged is =
      let whole = take-append-drop at content in
      ap (bodies bound) (sym whole)
      ∙ stands_bodies bound (take at content) bs (drop at content) so_far.stands
      (omega (arith, rest_long, so_far.inside)) (omega (arith, so_far.long, ap length whole))
      ∙ ap (after bs)
      (from_damaged _ bound (length (take at content)) at (drop at content)
      (omega (arith, so_far.stands.few, rest_long, front_long, so_far.inside))
      (ap (λ k. record_at bound k (drop at content)) front_long ∙ is))

pub load_start : (told : Option History) (bound n : ℕ) → HasLength {E = Failed} told (Ok n) → 1 < n
    → Loading told bound 0 []
load_start None bound n is long = tt
load_start (Some t) bound n is long =
    record { long = omega (arith, is, long); inside = omega (arith, is, long); stands = stands_none bound }

pub load_short : (told : Option History) (bound n : ℕ) (v : List (List ℕ)) → HasLength {E = Failed} told (Ok n)
    → n ≤ 1 → v ≡ [] → LoadsAs told bound v 1
load_short None bound n v is short none = tt
load_short (Some t) bound n v is short none = (
  short_bodies bound t.now.bytes (omega (arith, is, short))
      ∙ ap Ok (sym none),
  λ long. absurd (omega (arith, is, short, long)),
)

pub load_next : (told : Option History) (bound at n : ℕ) (bs : List (List ℕ)) (room : List ℕ) → n ≤ length room
    → Loading told bound at bs → Finds told bound at room (Ok (Some n))
    → Loading told bound (at + (n + 5)) (bs ++ take n room ∷ [])
load_next None bound at n bs room fits so_far found = tt
load_next (Some t) bound at n bs room fits so_far found = next_record bound at bs t.now.bytes so_far n room fits found

pub load_end : (told : Option History) (bound at : ℕ) (v : List (List ℕ)) (room : List ℕ) → Loading told bound at v
    → Finds told bound at room (Ok None) → LoadsAs told bound v (at + 1)
load_end None bound at v room so_far found = tt
load_end (Some t) bound at v room so_far found =
    (end_bodies bound at v t.now.bytes so_far found, λ long. end_file bound at v t.now.bytes so_far found)

pub load_damaged : (told : Option History) (bound at offset : ℕ) (second : Bool) (bs : List (List ℕ)) (room : List ℕ)
    → Loading told bound at bs → Finds told bound at room (Err (Damaged second offset))
    → DamagedAs told bound second offset
load_damaged None bound at offset second bs room so_far found = tt
load_damaged (Some t) bound at offset second bs room so_far found =
    (found.0, damaged bound at bs t.now.bytes so_far found.2 ∙ ap Err (sym found.1))

pub load_fails : (told mid : Option History) (bound at f0 f1 f2 : ℕ) (bs : List (List ℕ)) (room : List ℕ)
    (e : JournalFault) → mid ≡ told → Loading told bound at bs → Finds mid bound at room (Err e) → f0 ≤ f1 → f1 ≤ f2
    → (e ≡ Disk → Rose f1 f2)
    → LoadFails told bound f0 f2 e
load_fails told mid bound at f0 f1 f2 bs room Disk same so_far found le le' rose = let r = rose refl in
    omega (arith, r, le)
load_fails told mid bound at f0 f1 f2 bs room (Damaged second offset) same so_far found le le' rose =
    load_damaged told bound at offset second bs room so_far
    (subst (λ (o : Option History). Finds o bound at room (Err (Damaged second offset))) same found)
load_fails told mid bound at f0 f1 f2 bs room (Full length body) same so_far found le le' rose = absurd found
load_fails told mid bound at f0 f1 f2 bs room NoMemory same so_far found le le' rose = absurd found

-- the length of a journal with one body more
pub journal_length_push : (bs : List (List ℕ)) (b : List ℕ)
    → journal_length (bs ++ b ∷ []) ≡ journal_length bs + (length b + 5)
journal_length_push [] b = omega arith
journal_length_push (x ∷ bs) b = omega (arith, journal_length_push bs b)
