-- Closing the first gate of a file without bodies.
use Rattle.std.proofs.Common.{◌≡◌, ◌≢◌, ◌⊎◌, inl, inr, ◌<◌, ◌≤◌, ℕ, zero, suc, ◌+◌, Bool, true, false, List, [], ◌∷◌, length, get_or, take, drop, refl, sym, ◌∙◌, ap, subst, arith}
use Rattle.std.specs.Prelude.{Result, Ok, Err, Option, Some, None}
use Rattle.std.proofs.lemmas.List.{drop_all, length-take, get_or-take}
use Rattle.std.proofs.lemmas.Bool.{cases_eq, false≢true}
use Rattle.std.proofs.lemmas.Bool.Decides.{nat_tests}
use Rattle.outside_io.specs.Disk.{History, FileState, LeavesOnly, Within, Syncs, HasLength, kept}
use Rattle.outside_io.specs.declared.failed.Failed.{Failed}
use Rattle.journal.specs.Durable.{Has, IsStill, file_in, synced, over, Torn, Cut}
use Rattle.journal.specs.File.{body_of, is_record, record_at, go_on, after, bodies_from, bodies}
use Rattle.journal.specs.Journal.{IsFile, Stands, IsEmptyFile, IsAsBefore, OpensOnly, OpenedAs, journal_length}
use Rattle.journal.specs.Reading.{Empty, IsShort, LoadsAs}
use Rattle.journal.proofs.Records.{at_shut}
use Rattle.journal.proofs.Files.{short_bodies, long_bodies, one_or_more, stands_none}
use Rattle.journal.proofs.Moments.{here, both, weaker}

closed_from : (fuel bound : ℕ) (content : List ℕ) → get_or content 0 0 ≢ 1 → bodies_from fuel bound 0 content ≡ Ok []
closed_from zero bound content shut = refl
closed_from (suc fuel) bound content shut =
    ap (λ r. go_on r
    (λ body. after (body ∷ []) (bodies_from fuel bound (0 + length body + 5) (drop (length body + 5) content))))
    (at_shut bound 0 content shut)

pub empty_bodies : (bound : ℕ) (content : List ℕ) → IsEmptyFile content → bodies bound content ≡ Ok []
empty_bodies bound content (inl short) = short_bodies bound content short
empty_bodies bound content (inr shut) = by_length (one_or_more (length content))
  where
    by_length : (length content ≤ 1) ⊎ (1 < length content) → bodies bound content ≡ Ok []
    by_length (inl short) = short_bodies bound content short
    by_length (inr long) = long_bodies bound content long ∙ closed_from (length content) bound content shut

abbrev is_nil : Result (List (List ℕ)) ℕ → Bool
is_nil (Ok []) = true
is_nil (Ok (b ∷ bs)) = false
is_nil (Err at) = false

one_at_least : (b : List ℕ) (r : Result (List (List ℕ)) ℕ) → is_nil (after (b ∷ []) r) ≡ false
one_at_least b (Ok more) = refl
one_at_least b (Err at) = refl

open_from : (fuel bound : ℕ) (content : List ℕ) → 0 < fuel → get_or content 0 0 ≡ 1
    → is_nil (bodies_from fuel bound 0 content) ≡ false
open_from zero bound content some gate = absurd (omega arith)
open_from (suc fuel) bound content some gate = by_test (is_record bound 0 content) refl
  where
    step : (r : Result (Option (List ℕ)) ℕ) → record_at bound 0 content ≡ r
        → bodies_from (suc fuel) bound 0 content
        ≡ go_on r
        (λ body. after (body ∷ []) (bodies_from fuel bound (0 + length body + 5) (drop (length body + 5) content)))
    step r is =
        ap (λ r. go_on r
        (λ body. after (body ∷ [])
        (bodies_from fuel bound (0 + length body + 5) (drop (length body + 5) content)))) is

    by_test : (t : Bool) → is_record bound 0 content ≡ t → is_nil (bodies_from (suc fuel) bound 0 content) ≡ false
    by_test true is = ap is_nil (step (Ok (Some (body_of content))) (grind (arith, nat_tests)))
        ∙ one_at_least (body_of content) _
    by_test false is = ap is_nil (step (Err 0) (grind (arith, nat_tests)))

pub bodies_empty : (bound : ℕ) (content : List ℕ) → bodies bound content ≡ Ok [] → IsEmptyFile content
bodies_empty bound content none = by_length (one_or_more (length content))
  where
    by_gate : 1 < length content → (get_or content 0 0 ≡ 1) ⊎ (get_or content 0 0 ≢ 1) → IsEmptyFile content
    by_gate long (inl gate) = absurd
        (false≢true
        (sym (open_from (length content) bound content (omega (arith, long)) gate)
        ∙ ap is_nil (sym (long_bodies bound content long) ∙ none)))
    by_gate long (inr shut) = inr shut

    by_length : (length content ≤ 1) ⊎ (1 < length content) → IsEmptyFile content
    by_length (inl short) = inl short
    by_length (inr long) = by_gate long (cases_eq (get_or content 0 0) 1)

-- the steps of closing it
pub cut_empty : (content c : List ℕ) → IsEmptyFile content → Cut 1 content c → IsEmptyFile c
cut_empty content c (inl short) cut = inl (omega (arith, short, cut.no_longer))
cut_empty content c (inr shut) cut =
    inr (λ gate. shut
    (sym (get_or-take 1 content 0 0 (omega arith)) ∙ ap (λ (l : List ℕ). get_or l 0 0) (sym cut.front)
    ∙ get_or-take 1 c 0 0 (omega arith) ∙ gate))

torn_empty : (content c : List ℕ) → length content ≤ 1 → Torn 0 1 content c → IsEmptyFile c
torn_empty content c short torn = inl (omega (arith, short, torn.no_longer))

pub stays : (told : Option History) (P : List ℕ → Type 0) → IsStill told
    → ((t : History) → told ≡ Some t → P t.now.bytes) → LeavesOnly told told P
stays None P still p = tt
stays (Some t) P still p = (here P t.now t.now.bytes still (p t refl), record { since = []; grown = refl; each = tt })

pub empty_stays : (old new : Option History) → new ≡ old → IsStill old → Empty old → LeavesOnly old new IsEmptyFile
empty_stays old new same still empty =
    subst (λ (o : Option History). LeavesOnly old o IsEmptyFile) (sym same)
    (stays old IsEmptyFile still (λ t is. subst Empty is empty))

pub short_now : (old new : Option History) (n : ℕ) → new ≡ old → HasLength {E = Failed} old (Ok n) → n ≤ 1 → IsShort new
short_now old new n same is short = subst IsShort (sym same) (by_told old is)
  where
    by_told : (o : Option History) → HasLength {E = Failed} o (Ok n) → IsShort o
    by_told None is = tt
    by_told (Some t) is = omega (arith, is, short)

pub within_one : (old new : Option History) (n : ℕ) → new ≡ old → HasLength {E = Failed} old (Ok n) → 1 < n
    → Within new 1
within_one old new n same is long = subst (λ (o : Option History). Within o 1) (sym same) (by_told old is)
  where
    by_told : (o : Option History) → HasLength {E = Failed} o (Ok n) → Within o 1
    by_told None is = tt
    by_told (Some t) is = omega (arith, is, long)

pub cut_moments : (old mid new : Option History) → mid ≡ old → Empty old → LeavesOnly mid new (Cut 1 (file_in mid))
    → LeavesOnly old new IsEmptyFile
cut_moments old mid new same empty m =
    by_told old (subst (λ (o : Option History). LeavesOnly o new (Cut 1 (file_in o))) same m) empty
  where
    by_told : (o : Option History) → LeavesOnly o new (Cut 1 (file_in o)) → Empty o → LeavesOnly o new IsEmptyFile
    by_told None m empty = by_new new m
      where
        by_new : (o : Option History) → LeavesOnly None o (Cut 1 []) → LeavesOnly None o IsEmptyFile
        by_new None m = tt
        by_new (Some u) m = absurd m
    by_told (Some t) m empty = weaker (Some t) new _ _ (λ c cut. cut_empty t.now.bytes c empty cut) m

pub has_still : (new : Option History) (content : List ℕ) → Has new content → IsStill new
has_still None content has = tt
has_still (Some t) content has = has ∙ ap kept (sym (ap (λ (h : FileState). h.bytes) has))

pub short_cut : (old mid new : Option History) → mid ≡ old → Has new (take 1 (file_in mid)) → IsShort new
short_cut old mid None same has = tt
short_cut old mid (Some t) same has =
    omega (arith, ap length (ap (λ (h : FileState). h.bytes) has), length-take 1 (file_in mid))

pub within_none : (told : Option History) → Within told 0
within_none None = tt
within_none (Some t) = omega arith

pub gate_moments : (old mid new : Option History) → LeavesOnly old mid IsEmptyFile → IsShort mid
    → LeavesOnly mid new (Torn 0 1 (file_in mid)) → LeavesOnly old new IsEmptyFile
gate_moments old None new first short m =
    both old None new IsEmptyFile IsEmptyFile IsEmptyFile (λ c p. p) (λ c p. p) first (by_new new m)
  where
    by_new : (o : Option History) → LeavesOnly None o (Torn 0 1 []) → LeavesOnly None o IsEmptyFile
    by_new None m = tt
    by_new (Some u) m = absurd m
gate_moments old (Some u) new first short m =
    both old (Some u) new IsEmptyFile (Torn 0 1 u.now.bytes) IsEmptyFile (λ c p. p)
    (λ c torn. torn_empty u.now.bytes c short torn) first m

pub gate_made : (mid new : Option History) → LeavesOnly mid new (Torn 0 1 (file_in mid)) → IsShort mid
    → Has new (over 0 (0 ∷ []) (file_in mid)) → Has new (0 ∷ [])
gate_made None None m short has = tt
gate_made None (Some v) m short has = absurd m
gate_made (Some u) new m short has = subst (λ (l : List ℕ). Has new (0 ∷ l)) (drop_all 1 u.now.bytes short) has

-- opening
pub synced_is : (old new : Option History) (x : Unit {0}) → Syncs {E = Failed} old new (Ok x) → new ≡ synced old
synced_is None None x syncs = refl
synced_is None (Some u) x syncs = absurd syncs
synced_is (Some t) new x syncs = syncs

none_read : (old : Option History) (bound end : ℕ) (vs : List (List ℕ)) → LoadsAs (synced old) bound vs end → vs ≡ []
    → bodies bound (file_in old) ≡ Ok []
none_read None bound end vs read none = short_bodies bound [] (omega arith)
none_read (Some t) bound end vs read none = read.0 ∙ ap (λ (v : List (List ℕ)). Ok v) none

pub open_moments : (old mid loaded new : Option History) (bound end : ℕ) (vs : List (List ℕ)) → mid ≡ synced old
    → loaded ≡ mid → LoadsAs mid bound vs end → vs ≡ [] → LeavesOnly loaded new IsEmptyFile
    → LeavesOnly (synced old) new (IsAsBefore bound (file_in old))
open_moments old mid loaded new bound end vs is same read none m =
    let r = none_read old bound end vs (subst (λ (o : Option History). LoadsAs o bound vs end) is read) none in
    weaker (synced old) new _ _ (λ c e. empty_bodies bound c e ∙ sym r)
    (subst (λ (o : Option History). LeavesOnly o new IsEmptyFile) (same ∙ is) m)

-- what was told is told still
same_told : (old mid loaded new : Option History) → mid ≡ synced old → loaded ≡ mid → LeavesOnly loaded new IsEmptyFile
    → LeavesOnly (synced old) new IsEmptyFile
same_told old mid loaded new is same m = subst (λ (o : Option History). LeavesOnly o new IsEmptyFile) (same ∙ is) m

pub open_made : (old mid loaded new : Option History) (bound end : ℕ) (vs : List (List ℕ)) → mid ≡ synced old
    → loaded ≡ mid → LoadsAs mid bound vs end → vs ≡ [] → LeavesOnly loaded new IsEmptyFile → Has new (0 ∷ [])
    → OpenedAs bound old new vs
open_made None mid loaded None bound end vs is same read none m has = tt
open_made None mid loaded (Some v) bound end vs is same read none m has =
    absurd (same_told None mid loaded (Some v) is same m)
open_made (Some t) mid loaded None bound end vs is same read none m has =
    absurd (same_told (Some t) mid loaded None is same m)
open_made (Some t) mid loaded (Some v) bound end vs is same read none m has =
    let r = none_read (Some t) bound end vs (subst (λ (o : Option History). LoadsAs o bound vs end) is read) none in
    let bytes : v.now.bytes ≡ 0 ∷ [] = ap (λ (h : FileState). h.bytes) has in
    let no_bodies : Ok [] ≡ Ok vs = ap (λ (w : List (List ℕ)). Ok w) (sym none) in
    (r ∙ no_bodies, short_bodies bound v.now.bytes (omega (arith, ap length bytes)) ∙ no_bodies)

-- a file that is one closed gate stands
pub gate_stands : (bound : ℕ) (new : Option History) → Has new (0 ∷ []) → Stands bound 1 new
gate_stands bound None has = tt
gate_stands bound (Some v) has =
    let bytes : v.now.bytes ≡ 0 ∷ [] = ap (λ (h : FileState). h.bytes) has in (
      has ∙ ap kept (sym bytes),
      subst (IsFile bound 1) (sym bytes) record {
        front = [];
        gate = 0;
        tail = [];
        read = [];
        split = refl;
        shut = omega arith;
        place = refl;
        stands = stands_none bound;
      },
    )

-- from a file with nothing pending the moments before the first sync count too
pub still_moments : (bound : ℕ) (old new : Option History) → IsStill old → OpensOnly bound old new
    → LeavesOnly old new (IsAsBefore bound (file_in old))
still_moments bound None new still (inl same) =
    subst (λ (o : Option History). LeavesOnly None o (IsAsBefore bound [])) (sym same) tt
still_moments bound None new still (inr m) = m
still_moments bound (Some t) new still (inl same) =
    subst (λ (o : Option History). LeavesOnly (Some t) o (IsAsBefore bound t.now.bytes)) (sym same)
    (stays (Some t) (IsAsBefore bound t.now.bytes) still (λ u is. ap (bodies bound) (ap file_in (sym is))))
still_moments bound (Some t) new still (inr m) =
    let P = IsAsBefore bound t.now.bytes in
    both (Some t) (synced (Some t)) new P P P (λ c p. p) (λ c p. p) (
      here P t.now t.now.bytes still refl,
      record {
        since = kept t.now.bytes ∷ [];
        grown = refl;
        each = (here P (kept t.now.bytes) t.now.bytes refl refl, tt);
      },
    )
    m

pub journal_length_some : (bs : List (List ℕ)) → 1 ≤ journal_length bs
journal_length_some [] = omega arith
journal_length_some (b ∷ bs) = omega (arith, journal_length_some bs)

pub stands_still : (bound end : ℕ) (told : Option History) → Stands bound end told
    → LeavesOnly told told (IsAsBefore bound (file_in told))
stands_still bound end None stands = tt
stands_still bound end (Some t) stands =
    stays (Some t) (IsAsBefore bound t.now.bytes) stands.0 (λ u is. ap (bodies bound) (ap file_in (sym is)))
