-- What a crash leaves while a node is opened, and why it isn't.
use Rattle.std.proofs.Common.{◌≡◌, ◌⊎◌, inl, inr, ◌≤◌, ◌<◌, ◌^◌, ◌-◌, ◌==◌, ℕ, ◌+◌, Bool, true, false, List, [], ◌∷◌, ◌++◌, Option, Some, None, Result, Ok, Err, refl, sym, ap, ◌∙◌, subst, arith}
use Rattle.std.specs.Prelude.{if◌then◌else◌, length}
use Rattle.wire_core.specs.Entries.{IsEntry}
use Rattle.wire_core.specs.declared.entry.Entry.{Entry}
use Rattle.wire_core.specs.declared.entry.Entry.TheVariants.{Boot}
use Rattle.wire_core.specs.declared.node.NodeId.{NodeId}
use Rattle.vip_config.specs.declared.parts.ConfigParts.{ConfigParts}
use Rattle.outside_io.specs.Disk.{History, LeavesOnly}
use Rattle.journal.specs.Durable.{file_in}
use Rattle.journal.specs.File.{bodies}
use Rattle.journal.specs.Journal.{OpenedAs, IsAsBefore, IsBeforeOrAfter, with_body, journal_length}
use Rattle.journal.proofs.Moments.{both}
use Rattle.node_spec.specs.Bodies.{entries_of}
use Rattle.node_spec.specs.Boots.{boot_of}
use Rattle.node_disk.specs.Judging.{boot_entry, foreign_from, index_of, strange_from, judge, judge_by, role_of}
use Rattle.node_disk.specs.Keeping.{Fits, IsKept, KeepFails, LeavesKept, ReadsKept, length_with}
use Rattle.node_disk.specs.declared.fault.NodeFault.{NodeFault}
use Rattle.node_disk.specs.declared.fault.NodeFault.TheVariants as fault
use Rattle.node_core.specs.Opening.{HasBodies, OpenFails, OpeningLeaves, OpensTo, OpensWith, next_boot, next_entry, with_boot}

-- ---- the boot

abbrev boot_in : Result ℕ NodeFault → ℕ
boot_in (Ok boot) = boot
boot_in (Err fault) = 0

-- the boot that is judged is one more than the greatest
pub judged_boot : (who : NodeId) (bs : List (List ℕ)) (n : ℕ) → judge who bs ≡ Ok n → n ≡ next_boot bs
unfolding judge
judged_boot who bs n e = by_foreign (foreign_from who 0 bs) (strange_from who true bs) e
  where
    by_last : (last : Bool) → (if last then Err (fault.Spent (boot_of (entries_of bs))) else Ok (boot_of (entries_of bs) + 1)) ≡ Ok n
        → n ≡ next_boot bs
    by_last true is = absurd (cc)
    by_last false is = sym (ap boot_in is)

    by_strange : (strange : Option (List ℕ)) → judge_by None strange (boot_of (entries_of bs)) ≡ Ok n → n ≡ next_boot bs
    by_strange (Some entry) is = absurd (cc)
    by_strange None is = by_last (boot_of (entries_of bs) == 2 ^ 64 - 1) is

    by_foreign : (foreign : Option ℕ) (strange : Option (List ℕ)) → judge_by foreign strange (boot_of (entries_of bs)) ≡ Ok n
        → n ≡ next_boot bs
    by_foreign (Some at) strange is = absurd (cc)
    by_foreign None strange is = by_strange strange is

-- ---- crashes

module _ (bound : ℕ) (who : NodeId) (before mid body : List ℕ) (same : bodies bound before ≡ bodies bound mid)
    (entry : next_entry who (bodies bound before) ≡ body) where
  moved : (c : List ℕ) → IsBeforeOrAfter bound mid body c
      → IsBeforeOrAfter bound before (next_entry who (bodies bound before)) c
  moved c (inl q) = inl (q ∙ sym same)
  moved c (inr q) = inr (q ∙ ap (with_body body) (sym same) ∙ ap (λ b. with_body b (bodies bound before)) (sym entry))

-- the journal is opened, and then the Boot entry is appended
pub then_started : (bound : ℕ) (who : NodeId) (old mid new : Option History) (bs : List (List ℕ)) → OpenedAs bound old mid bs
    → LeavesOnly old mid (IsAsBefore bound (file_in old))
    → LeavesOnly mid new (IsBeforeOrAfter bound (file_in mid) (boot_entry who (next_boot bs)))
    → OpeningLeaves bound who old old new
then_started bound who None None None bs opened first second = tt
then_started bound who None None (Some v) bs opened first second = absurd second
then_started bound who None (Some u) new bs opened first second = absurd opened
then_started bound who (Some t) None new bs opened first second = absurd opened
then_started bound who (Some t) (Some u) new bs opened first second =
    both (Some t) (Some u) new (IsAsBefore bound t.now.bytes)
    (IsBeforeOrAfter bound u.now.bytes (boot_entry who (next_boot bs)))
    (IsBeforeOrAfter bound t.now.bytes (next_entry who (bodies bound t.now.bytes)))
    (λ c p. inl p)
    (moved bound who t.now.bytes u.now.bytes (boot_entry who (next_boot bs)) (opened.0 ∙ sym opened.1)
    (ap (next_entry who) opened.0))
    first second

-- ---- what is read

length_more : (bs : List (List ℕ)) (b : List ℕ) → journal_length (bs ++ b ∷ []) ≡ journal_length bs + length b + 5
length_more [] b = omega arith
length_more (c ∷ bs) b = let more = length_more bs b in omega (arith, more)

fits_with : (bound start end : ℕ) (entry : Option (List ℕ)) (body : List ℕ) → entry ≡ Some body → Fits bound start entry
    → end ≡ length_with start entry → end ≤ bound
fits_with bound start end entry body is room ends =
    let fits : start + length body + 5 ≤ bound = subst (λ (e : Option (List ℕ)). Fits bound start e) is room in
    let all : end ≡ start + length body + 5 = ends ∙ ap (length_with start) is in
    omega (arith, fits, all)

module _ (bound : ℕ) (who : NodeId) (bs : List (List ℕ)) where
  had : (told mid : Option History) → OpenedAs bound told mid bs → HasBodies bound told bs
  had None mid opened = tt
  had (Some t) None opened = absurd opened
  had (Some t) (Some u) opened = opened.0

  opens : (told mid new : Option History) (body : List ℕ) → OpenedAs bound told mid bs
      → ReadsKept bound (Some body) mid new → LeavesKept bound (Some body) mid new
      → LeavesOnly mid new (IsKept bound (file_in mid) (Some body)) → OpensTo bound new (bs ++ body ∷ [])
  opens None None None body opened reads kept only = record { reads = tt; leaves = tt }
  opens None None (Some v) body opened reads kept only = absurd only
  opens None (Some u) new body opened reads kept only = absurd opened
  opens (Some t) None new body opened reads kept only = absurd opened
  opens (Some t) (Some u) None body opened reads kept only = absurd only
  opens (Some t) (Some u) (Some v) body opened reads kept only = record {
    reads = reads ∙ ap (with_body body) opened.1;
    leaves = λ c image. kept c image ∙ ap (with_body body) opened.1;
  }

  -- the node is what was read and the Boot entry make of it
  pub opened_with : {C : Type 0} (cfg : ConfigParts) (told mid new : Option History)
      (made : ConfigParts → NodeId → List Entry → C) (core : C) (start end : ℕ) (entry : Option (List ℕ))
      → OpenedAs bound told mid bs → judge who bs ≡ Ok (next_boot bs)
      → IsEntry (Boot 1 (role_of who) (index_of who) (next_boot bs))
      → core ≡ made cfg who (entries_of (with_boot who bs)) → entry ≡ Some (boot_entry who (next_boot bs))
      → ReadsKept bound entry mid new → LeavesKept bound entry mid new
      → LeavesOnly mid new (IsKept bound (file_in mid) entry) → start ≡ journal_length bs
      → end ≡ length_with start entry → Fits bound start entry → OpensWith bound cfg who told new made core end
  opened_with cfg told mid new made core start end entry opened judged allowed is boot reads kept only begun ends room =
      record {
        read = bs;
        had = had told mid opened;
        judged = judged;
        allowed = allowed;
        made = is;
        opens = opens told mid new (boot_entry who (next_boot bs)) opened
            (subst (λ (e : Option (List ℕ)). ReadsKept bound e mid new) boot reads)
            (subst (λ (e : Option (List ℕ)). LeavesKept bound e mid new) boot kept)
            (subst (λ (e : Option (List ℕ)). LeavesOnly mid new (IsKept bound (file_in mid) e)) boot only);
        length = ends ∙ ap (length_with start) boot
            ∙ ap (λ (n : ℕ). n + length (boot_entry who (next_boot bs)) + 5) begun
            ∙ sym (length_more bs (boot_entry who (next_boot bs)));
        fits = fits_with bound start end entry (boot_entry who (next_boot bs)) boot room ends;
      }

-- ---- faults

same_bodies : (r : Result (List (List ℕ)) ℕ) (bs cs : List (List ℕ)) → r ≡ Ok bs → r ≡ Ok cs → bs ≡ cs
same_bodies r bs cs is also = cc

-- the Boot entry isn't kept
pub not_kept : (bound end before between now : ℕ) (who : NodeId) (told mid : Option History) (bs : List (List ℕ)) (f : NodeFault)
    → before ≤ between → OpenedAs bound told mid bs → end ≡ journal_length bs
    → KeepFails bound end between now (Some (boot_entry who (next_boot bs))) f → OpenFails bound who told before now f
not_kept bound end before between now who told mid bs fault.Disk le opened ends fails = omega (arith, le, fails)
not_kept bound end before between now who told mid bs fault.NoMemory le opened ends fails = tt
not_kept bound end before between now who None mid bs (fault.Full n body) le opened ends fails = tt
not_kept bound end before between now who (Some t) None bs (fault.Full n body) le opened ends fails = absurd opened
not_kept bound end before between now who (Some t) (Some u) bs (fault.Full n body) le opened ends fails =
    λ cs is. subst (λ (ds : List (List ℕ)). (bound < n + body + 5) × (n ≡ journal_length ds)
    × (body ≡ length (boot_entry who (next_boot ds))))
    (same_bodies (bodies bound t.now.bytes) bs cs opened.0 is)
    (omega (arith, fails.0, fails.1, fails.2), fails.1 ∙ ends, fails.2)
not_kept bound end before between now who told mid bs (fault.Damaged second offset) le opened ends fails = absurd fails
not_kept bound end before between now who told mid bs (fault.WrongDisk entry) le opened ends fails = absurd fails
not_kept bound end before between now who told mid bs (fault.Spent boot) le opened ends fails = absurd fails
