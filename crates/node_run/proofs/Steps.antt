-- What a step adds to what was done.
use Rattle.std.proofs.Common.{◌≡◌, ◌⊎◌, inl, inr, ◌≤◌, ℕ, ◌+◌, ◌-◌, ◌^◌, min, List, [], ◌∷◌, ◌++◌, length, filter, Option, Some, None, Ok, refl, sym, ap, ◌∙◌, subst, arith, append_assoc, append-nil, length-append}
use Rattle.std.proofs.lemmas.List.{map-append}
use Rattle.std.proofs.lemmas.List.Elements.{filter-append}
use Rattle.std.proofs.lemmas.List.Sums.{length-filter, sum_by-append}
use Rattle.std.proofs.lemmas.Option.{none-some}
use Rattle.wire_core.specs.declared.note.Note.{Note}
use Rattle.wire_core.specs.declared.outgoing.Outgoing.{Outgoing}
use Rattle.wire_core.specs.declared.step.Step.{Step}
use Rattle.outside_io.specs.Disk.{Each, FileState, History, Leaves, LeavesOnly, moments}
use Rattle.outside_io.specs.Link.{Sent}
use Rattle.journal.specs.Durable.{file_in}
use Rattle.journal.specs.File.{bodies}
use Rattle.journal.specs.Journal.{with_body}
use Rattle.node_disk.specs.Keeping.{IsKept, LeavesKept, ReadsKept, length_with}
use Rattle.node_disk.specs.declared.fault.NodeFault.TheVariants as fault
use Rattle.node_core.specs.Opening.{OpensTo}
use Rattle.node_core.specs.Sending.{Handed, lost_of, outgoing_of}
use Rattle.node_run.specs.Timing.{Timing}
use Rattle.node_run.specs.Turns.{Course, after_step, at, drops_in, entry_list, is_drop}
use Rattle.node_run.specs.Serving.{HasDone, LeavesEither, PassesBound, State, length_with_all}
use Rattle.node_run.specs.Going.{FailsBy, Handled}
use Rattle.node_run.specs.declared.serving.ServeFault.{ServeFault}
use Rattle.node_run.specs.declared.serving.ServeFault.TheVariants.{Node as of_node, Link as of_link}
use Rattle.node_run.specs.declared.serving.Served.{Served}

-- ---- what is handed over

pub handed_both : (old mid new : Option (List Sent)) (xs ys : List Outgoing) (l m : ℕ) → Handed old mid xs l
    → Handed mid new ys m → Handed old new (xs ++ ys) (l + m)
handed_both None None new xs ys l m first second = second
handed_both None (Some ms) new xs ys l m first second = absurd (none-some ms (sym first))
handed_both (Some os) mid None xs ys l m first second = tt
handed_both (Some os) None (Some ns) xs ys l m first second = absurd (none-some ns (sym second))
handed_both (Some os) (Some ms) (Some ns) xs ys l m first second = record {
  since = first.since ++ second.since;
  grown = second.grown ∙ ap (λ k. k ++ second.since) first.grown ∙ append_assoc os first.since second.since;
  each = map-append outgoing_of first.since second.since ∙ rw (first.each, second.each) refl;
  lost_is = sum_by-append lost_of first.since second.since ∙ rw (first.lost_is, second.lost_is) refl;
}

-- ---- what the disk has

-- what each crash leaves at the end
leaves_now : (P : List ℕ → Type 0) (t u : History) → LeavesOnly (Some t) (Some u) P → Leaves P u.now
leaves_now P t u leaves = by_since leaves.1.since leaves.1.grown leaves.1.each
  where
    first_is : {A : Type 0} (x y : A) (xs ys : List A) → x ∷ xs ≡ y ∷ ys → x ≡ y
    first_is x y xs ys same = cc

    by_since : (since : List FileState) → moments u ≡ since ++ moments t → Each (Leaves P) since → Leaves P u.now
    by_since [] grown each = subst (Leaves P) (sym (first_is u.now t.now u.past t.past grown)) leaves.0
    by_since (f ∷ since) grown each = subst (Leaves P) (sym (first_is u.now f u.past (since ++ moments t) grown)) each.0

module _ (bound : ℕ) where
  pub opens_kept : (entry : Option (List ℕ)) (mid new : Option History) (bs : List (List ℕ)) → OpensTo bound mid bs
      → ReadsKept bound entry mid new → LeavesKept bound entry mid new
      → LeavesOnly mid new (IsKept bound (file_in mid) entry) → OpensTo bound new (bs ++ entry_list entry)
  opens_kept None mid new bs opens reads kept only =
      subst (λ (l : List (List ℕ)). OpensTo bound new l) (sym (append-nil bs))
      (subst (λ (h : Option History). OpensTo bound h bs) (sym reads) opens)
  opens_kept (Some body) None None bs opens reads kept only = record { reads = tt; leaves = tt }
  opens_kept (Some body) None (Some u) bs opens reads kept only = absurd only
  opens_kept (Some body) (Some t) None bs opens reads kept only = absurd only
  opens_kept (Some body) (Some t) (Some u) bs opens reads kept only = record {
    reads = reads ∙ ap (with_body body) opens.reads;
    leaves = λ c image. kept c image ∙ ap (with_body body) opens.reads;
  }

  pub leaves_either : (entry : Option (List ℕ)) (mid new : Option History) (bs : List (List ℕ)) → OpensTo bound mid bs
      → LeavesOnly mid new (IsKept bound (file_in mid) entry) → LeavesEither bound new bs (bs ++ entry_list entry)
  leaves_either entry None None bs opens only = tt
  leaves_either entry None (Some u) bs opens only = absurd only
  leaves_either entry (Some t) None bs opens only = absurd only
  leaves_either None (Some t) (Some u) bs opens only =
      λ c image. inl (leaves_now (IsKept bound t.now.bytes None) t u only c image ∙ opens.reads)
  leaves_either (Some body) (Some t) (Some u) bs opens only =
      λ c image. either c (leaves_now (IsKept bound t.now.bytes (Some body)) t u only c image)
    where
      either : (c : List ℕ) → IsKept bound t.now.bytes (Some body) c
          → (bodies bound c ≡ Ok bs) ⊎ (bodies bound c ≡ Ok (bs ++ body ∷ []))
      either c (inl q) = inl (q ∙ opens.reads)
      either c (inr q) = inr (q ∙ ap (with_body body) opens.reads)

  pub opens_either : (told : Option History) (bs : List (List ℕ)) → OpensTo bound told bs → LeavesEither bound told bs bs
  opens_either None bs opens = tt
  opens_either (Some t) bs opens = λ c image. inl (opens.leaves c image)

-- ---- numbers

pub length_last : (n : ℕ) (entries : List (List ℕ)) (entry : Option (List ℕ))
    → length_with_all n (entries ++ entry_list entry) ≡ length_with (length_with_all n entries) entry
length_last n [] None = refl
length_last n [] (Some body) = refl
length_last n (e ∷ entries) entry = length_last (n + length e + 5) entries entry

drops_more : (xs ys : List Note) → drops_in (xs ++ ys) ≡ drops_in xs + drops_in ys
drops_more xs ys =
    sym (length-filter is_drop (xs ++ ys)) ∙ ap length (filter-append is_drop xs ys)
    ∙ length-append (filter is_drop xs) (filter is_drop ys)
    ∙ rw (length-filter is_drop xs, length-filter is_drop ys) refl

sent_more : (all more l m most : ℕ) → l ≤ all → m ≤ more
    → min (min (all - l) most + (more - m)) most ≡ min (all + more - (l + m)) most
sent_more all more l m most few also = omega (arith, few, also)

count_more : (a b most : ℕ) → min (min a most + b) most ≡ min (a + b) most
count_more a b most = omega arith

-- ---- a step more

module _ {C : Type 0} (bound : ℕ) (first mid last : Option (List Sent)) (old now new : State C) (c : Course C)
    (served more : Served) (timing : Timing) where
  pub done_more : (done : C × Step) → HasDone bound first mid old now c served → Handled bound done mid last now new served more
      → HasDone bound first last old new (after_step (at timing c) done) more
  done_more done has is = record {
    core = is.core;
    lost = has.lost + is.lost;
    few = rw (length-append c.sends done.1.sends) (omega (arith, has.few, is.few));
    handed = handed_both first mid last c.sends done.1.sends has.lost is.lost has.handed is.handed;
    opens = λ bs opens. subst (λ (l : List (List ℕ)). OpensTo bound new.file l)
        (append_assoc bs c.entries (entry_list done.1.entry))
        (opens_kept bound done.1.entry now.file new.file (bs ++ c.entries) (has.opens bs opens) is.reads is.kept is.moments);
    end = is.end ∙ ap (λ (n : ℕ). length_with n done.1.entry) has.end
        ∙ sym (length_last old.length c.entries done.1.entry);
    sent = is.sent ∙ ap (λ (n : ℕ). min (n + (length done.1.sends - is.lost)) (2 ^ 64 - 1)) has.sent
        ∙ sent_more (length c.sends) (length done.1.sends) has.lost is.lost (2 ^ 64 - 1) has.few is.few
        ∙ ap (λ (n : ℕ). min (n - (has.lost + is.lost)) (2 ^ 64 - 1)) (sym (length-append c.sends done.1.sends));
    failed = is.failed ∙ ap (λ (n : ℕ). min (n + is.lost) (2 ^ 64 - 1)) has.failed
        ∙ count_more has.lost is.lost (2 ^ 64 - 1);
    dropped = is.dropped ∙ ap (λ (n : ℕ). min (n + drops_in done.1.notes) (2 ^ 64 - 1)) has.dropped
        ∙ count_more c.drops (drops_in done.1.notes) (2 ^ 64 - 1);
  }

-- ---- a step that wasn't done

module _ (bound start end before now : ℕ) (entries : List (List ℕ)) where
  pub passes : (entry : Option (List ℕ)) (e : ServeFault) → end ≡ length_with_all start entries
      → FailsBy bound end before now entry e → PassesBound bound start entries (entries ++ entry_list entry) e
  passes entry of_link is fails = absurd fails
  passes entry (of_node fault.Disk) is fails = tt
  passes entry (of_node fault.NoMemory) is fails = tt
  passes entry (of_node (fault.Damaged second offset)) is fails = absurd fails
  passes entry (of_node (fault.WrongDisk found)) is fails = absurd fails
  passes entry (of_node (fault.Spent boot)) is fails = absurd fails
  passes None (of_node (fault.Full n body)) is fails = absurd fails
  passes (Some bytes) (of_node (fault.Full n body)) is fails = (
    fails.1 ∙ is,
    ap (λ (k : ℕ). k + body + 5) (fails.1 ∙ is)
        ∙ ap (λ (k : ℕ). length_with_all start entries + k + 5) fails.2
        ∙ sym (length_last start entries (Some bytes)),
    omega (arith, fails.0, fails.1, fails.2),
  )
