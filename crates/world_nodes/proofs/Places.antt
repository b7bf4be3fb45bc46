-- From what a node promises to what a world keeps of it.
use Rattle.std.proofs.Common.{◌≡◌, ℕ, ◌+◌, List, [], ◌∷◌, ◌++◌, map, length, Result, Ok, Option, Some, None, refl, sym, ap, subst, ◌∙◌, append-nil, arith}
use Rattle.std.proofs.lemmas.Grind.{flat_map-append}
use Rattle.wire_core.specs.Entries.{IsEntry, entry_at, entry_bytes, read_entry, whole_entry}
use Rattle.wire_core.specs.declared.act.Act.{Act}
use Rattle.wire_core.specs.declared.note.Note.{Note}
use Rattle.wire_core.specs.declared.step.Step.{Step}
use Rattle.wire_core.specs.declared.entry.Entry.{Entry}
use Rattle.wire_core.specs.declared.entry.Entry.TheVariants.{Boot}
use Rattle.wire_core.specs.declared.node.NodeId.{NodeId}
use Rattle.wire_core.specs.declared.node.NodeId.TheVariants.{Replica, Mux, Agent}
use Rattle.wire_core.specs.declared.outgoing.Outgoing.{Outgoing}
use Rattle.wire_core.proofs.EntryLaws.{entry_again}
use Rattle.vip_config.specs.declared.parts.ConfigParts.{ConfigParts}
use Rattle.outside_io.specs.Disk.{FileState, History, IsImage, Leaves, kept}
use Rattle.outside_io.specs.Link.{Sent}
use Rattle.disk_model.specs.Disks.{DiskState}
use Rattle.journal.specs.File.{bodies}
use Rattle.journal.specs.Journal.{journal_length, with_body}
use Rattle.journal.proofs.Images.{image_kept}
use Rattle.node_spec.specs.Bodies.{Spells, entries_of, entry_in}
use Rattle.node_disk.specs.Judging.{boot_entry, index_of, role_of}
use Rattle.node_disk.specs.Keeping.{LeavesKept, ReadsKept, length_with}
use Rattle.node_core.specs.Opening.{OpensWith, next_boot, with_boot}
use Rattle.node_core.specs.Sending.{Handed, outgoing_of}
use Rattle.node_core.specs.declared.node.Node.{Node}
use Rattle.world_spec.specs.Acts.{log_length}
use Rattle.world_spec.specs.Nodes.{booted, listed, role_of as world_role, index_of as world_index}
use Rattle.world_nodes.specs.declared.site.Place.TheVariants.{Up}
use Rattle.world_nodes.specs.declared.site.Site.{Site}
use Rattle.world_nodes.specs.Lengths.{entries_length}
use Rattle.world_nodes.specs.Sites.{told_by}
use Rattle.world_nodes.specs.Disks.{Holds, IsLent, IsPlace, IsUp, as_taken, bodies_in, entries_on, entry_of, or_none, place_entries, place_up, site_of}

-- ---- files

opened : (r : Result (List (List ℕ)) ℕ) (bs : List (List ℕ)) → r ≡ Ok bs → r ≡ Ok (or_none r)
opened r bs is = is ∙ ap Ok (sym (ap or_none is))

-- a file that reads as these bodies, and of which each crash leaves them
holds : (d : DiskState) (bs : List (List ℕ)) → bodies 1073741824 d.history.now.bytes ≡ Ok bs
    → Leaves (λ c. bodies 1073741824 c ≡ Ok bs) d.history.now → journal_length bs ≡ entries_length (entries_of bs) → Holds d
holds d bs reads leaves long = record {
  reads = opened (bodies 1073741824 d.history.now.bytes) bs reads;
  leaves = λ c image. leaves c image ∙ ap Ok (sym (ap or_none reads));
  long = subst (λ (b : List (List ℕ)). journal_length b ≡ entries_length (entries_of b)) (sym (ap or_none reads)) long;
}

-- ---- a step

-- the bodies with the entry of a step
abbrev bodies_with : List (List ℕ) → Option (List ℕ) → List (List ℕ)
bodies_with bs None = bs
bodies_with bs (Some body) = bs ++ body ∷ []

module _ (d u : DiskState) (is : Holds d) where
  reads_next : (entry : Option (List ℕ)) → ReadsKept 1073741824 entry (Some d.history) (Some u.history)
      → bodies 1073741824 u.history.now.bytes ≡ Ok (bodies_with (bodies_in d.history.now.bytes) entry)
  reads_next None reads = ap (λ (o : Option History). bodies 1073741824 (now_of o)) reads ∙ is.reads
    where
      now_of : Option History → List ℕ
      now_of None = []
      now_of (Some h) = h.now.bytes
  reads_next (Some body) reads = reads ∙ ap (with_body body) is.reads

  leaves_next : (entry : Option (List ℕ)) → LeavesKept 1073741824 entry (Some d.history) (Some u.history)
      → Leaves (λ c. bodies 1073741824 c ≡ Ok (bodies_with (bodies_in d.history.now.bytes) entry)) u.history.now
  leaves_next None leaves = λ c image. is.leaves c (subst (λ f. IsImage f c) (ap now_of leaves) image)
    where
      now_of : Option History → FileState
      now_of None = kept []
      now_of (Some h) = h.now
  leaves_next (Some body) leaves = λ c image. leaves c image ∙ ap (with_body body) is.reads

entries_with : (bs : List (List ℕ)) (entry : Option (List ℕ)) → entries_of (bodies_with bs entry) ≡ entries_of bs ++ entry_of entry
unfolding entries_of
entries_with bs None = sym (append-nil _)
entries_with bs (Some body) =
    flat_map-append (λ b. entry_in (read_entry b)) bs (body ∷ [])
    ∙ ap (λ (es : List Entry). entries_of bs ++ es) (append-nil (entry_in (read_entry body)))

-- ---- the entry of a step, read again

entry_again_whole : (e : Entry) → IsEntry e → read_entry (entry_bytes e) ≡ Ok e
entry_again_whole e is =
    let whole : entry_at (entry_bytes e) ≡ Ok (e, []) = ap entry_at (sym (append-nil (entry_bytes e))) ∙ entry_again e [] is in
    ap (whole_entry (length (entry_bytes e))) whole

read_again : (bytes : Option (List ℕ)) (entry : Option Entry) → Spells bytes entry → entry_of bytes ≡ listed entry
read_again bytes None is = ap entry_of is.spelled
read_again bytes (Some e) is = ap entry_of is.spelled ∙ ap entry_in (entry_again_whole e is.allowed)

-- it learns as many values
learned_next : (bytes : Option (List ℕ)) (entry : Option Entry) → Spells bytes entry
    → log_length (entry_of bytes) ≡ log_length (listed entry)
learned_next bytes entry is = ap log_length (read_again bytes entry is)

-- so what is told of it is what the step tells
pub told_is : (t : Step) (bytes : Option (List ℕ)) (entry : Option Entry) (learned now : ℕ) (acts : List Act)
    (notes : List Note) (sends : List Outgoing) → Spells bytes entry → now ≡ learned + log_length (entry_of bytes)
    → acts ≡ t.acts → notes ≡ t.notes → sends ≡ t.sends
    → record { learned = now; acts = acts; notes = notes; sends = sends } ≡ told_by (learned + log_length (listed entry)) t
told_is t bytes entry learned now acts notes sends spells counts a n s =
    ap (λ (k : ℕ). record { learned = k; acts = acts; notes = notes; sends = sends })
    (counts ∙ ap (λ (k : ℕ). learned + k) (learned_next bytes entry spells))
    ∙ ap (λ (xs : List Act). record { learned = learned + log_length (listed entry); acts = xs; notes = notes; sends = sends }) a
    ∙ ap (λ (xs : List Note). record { learned = learned + log_length (listed entry); acts = t.acts; notes = xs; sends = sends }) n
    ∙ ap (λ (xs : List Outgoing). record { learned = learned + log_length (listed entry); acts = t.acts; notes = t.notes; sends = xs }) s

-- ---- lengths

long_none : journal_length [] ≡ entries_length (entries_of [])
unfolding entries_length entries_of
long_none = refl

pub length_more : (es : List Entry) (e : Entry) → entries_length (es ++ e ∷ []) ≡ entries_length es + length (entry_bytes e) + 5
unfolding entries_length
length_more [] e = omega arith
length_more (f ∷ es) e = let more = length_more es e in omega (arith, more)

bodies_more : (bs : List (List ℕ)) (b : List ℕ) → journal_length (bs ++ b ∷ []) ≡ journal_length bs + length b + 5
bodies_more [] b = omega arith
bodies_more (c ∷ bs) b = let more = bodies_more bs b in omega (arith, more)

-- the journal with what spells an entry, and the entries with that one
length_with_next : (n : ℕ) (es : List Entry) (bytes : Option (List ℕ)) (entry : Option Entry) → Spells bytes entry
    → n ≡ entries_length es → length_with n bytes ≡ entries_length (es ++ listed entry)
length_with_next n es bytes None is so_far =
    ap (length_with n) is.spelled ∙ so_far ∙ ap entries_length (sym (append-nil es))
length_with_next n es bytes (Some e) is so_far =
    ap (length_with n) is.spelled
    ∙ ap (λ (k : ℕ). k + length (entry_bytes e) + 5) so_far
    ∙ sym (length_more es e)

bodies_with_length : (bs : List (List ℕ)) (bytes : Option (List ℕ))
    → journal_length (bodies_with bs bytes) ≡ length_with (journal_length bs) bytes
bodies_with_length bs None = refl
bodies_with_length bs (Some b) = bodies_more bs b

long_with : (bs : List (List ℕ)) (bytes : Option (List ℕ)) (entry : Option Entry) → Spells bytes entry
    → journal_length bs ≡ entries_length (entries_of bs)
    → journal_length (bodies_with bs bytes) ≡ entries_length (entries_of (bodies_with bs bytes))
long_with bs bytes entry is so_far =
    bodies_with_length bs bytes
    ∙ length_with_next (journal_length bs) (entries_of bs) bytes entry is so_far
    ∙ ap (λ (es : List Entry). entries_length (entries_of bs ++ es)) (sym (read_again bytes entry is))
    ∙ ap entries_length (sym (entries_with bs bytes))

-- ---- what a step leaves

-- the entries with the new one
pub entries_next : (d u : DiskState) (bound : ℕ) (bytes : Option (List ℕ)) (entry : Option Entry) → bound ≡ 1073741824
    → Holds d → Spells bytes entry → ReadsKept bound bytes (Some d.history) (Some u.history)
    → entries_on u ≡ entries_on d ++ listed entry
entries_next d u bound bytes entry same is spells reads =
    ap (λ (r : Result (List (List ℕ)) ℕ). entries_of (or_none r))
    (reads_next d u is bytes (subst (λ (n : ℕ). ReadsKept n bytes (Some d.history) (Some u.history)) same reads))
    ∙ entries_with (bodies_in d.history.now.bytes) bytes
    ∙ ap (λ (es : List Entry). entries_on d ++ es) (read_again bytes entry spells)

-- and the file is on the disk as before
pub holds_next : (d u : DiskState) (bound : ℕ) (entry : Option (List ℕ)) (what : Option Entry) → bound ≡ 1073741824
    → Holds d → Spells entry what → ReadsKept bound entry (Some d.history) (Some u.history)
    → LeavesKept bound entry (Some d.history) (Some u.history) → Holds u
holds_next d u bound entry what same is spells reads leaves =
    holds u (bodies_with (bodies_in d.history.now.bytes) entry)
    (reads_next d u is entry (subst (λ (n : ℕ). ReadsKept n entry (Some d.history) (Some u.history)) same reads))
    (leaves_next d u is entry (subst (λ (n : ℕ). LeavesKept n entry (Some d.history) (Some u.history)) same leaves))
    (long_with (bodies_in d.history.now.bytes) entry what spells is.long)

-- what a journal's length is after a step
pub length_next : (d u : DiskState) (bound n m : ℕ) (bytes : Option (List ℕ)) (entry : Option Entry) → bound ≡ 1073741824
    → Holds d → Spells bytes entry → ReadsKept bound bytes (Some d.history) (Some u.history)
    → n ≡ entries_length (entries_on d) → m ≡ length_with n bytes → m ≡ entries_length (entries_on u)
length_next d u bound n m bytes entry same is spells reads so_far next =
    next ∙ length_with_next n (entries_on d) bytes entry spells so_far
    ∙ ap entries_length (sym (entries_next d u bound bytes entry same is spells reads))

-- ---- what a step sends

same_again : (xs : List Outgoing) → map outgoing_of (map as_taken xs) ≡ xs
same_again [] = refl
same_again (x ∷ xs) = ap (λ (l : List Outgoing). x ∷ l) (same_again xs)

kept_all : (xs sends : List Outgoing) (lost : ℕ) → Handed (Some []) (Some (map as_taken xs)) sends lost → xs ≡ sends
kept_all xs sends lost handed = sym (same_again xs) ∙ ap (map outgoing_of) handed.grown ∙ handed.each

-- what was handed over is what the outbox kept
pub all_kept : (old new : Option (List Sent)) (xs sends : List Outgoing) (lost : ℕ) → old ≡ Some []
    → new ≡ Some (map as_taken xs) → Handed old new sends lost → xs ≡ sends
all_kept old new xs sends lost none some handed =
    kept_all xs sends lost (subst (λ (n : Option (List Sent)). Handed (Some []) n sends lost) some
    (subst (λ (o : Option (List Sent)). Handed o new sends lost) none handed))

-- ---- a crash

module _ (d e : DiskState) (c : List ℕ) (is : Holds d) (left : e.history ≡ record { now = kept c; past = [] })
    (image : IsImage d.history.now c) where
  bytes_left : e.history.now.bytes ≡ c
  bytes_left = ap (λ (h : History). h.now.bytes) left

  reads_left : bodies 1073741824 e.history.now.bytes ≡ Ok (bodies_in d.history.now.bytes)
  reads_left = ap (bodies 1073741824) bytes_left ∙ is.leaves c image

  leaves_left : Leaves (λ f. bodies 1073741824 f ≡ Ok (bodies_in d.history.now.bytes)) e.history.now
  leaves_left f more =
      let same : f ≡ c = image_kept c f (subst (λ g. IsImage g f) (ap (λ (h : History). h.now) left) more) in
      ap (bodies 1073741824) same ∙ is.leaves c image

  pub holds_crashed : Holds e
  holds_crashed = holds e (bodies_in d.history.now.bytes) reads_left leaves_left is.long

  pub entries_crashed : entries_on e ≡ entries_on d
  entries_crashed = ap (λ (r : Result (List (List ℕ)) ℕ). entries_of (or_none r)) reads_left

pub holds_new : (d : DiskState) → d.history ≡ record { now = kept []; past = [] } → Holds d
holds_new d is =
    let bytes : d.history.now.bytes ≡ [] = ap (λ (h : History). h.now.bytes) is in
    holds d [] (ap (bodies 1073741824) bytes)
    (λ c image. ap (bodies 1073741824) (image_kept [] c (subst (λ g. IsImage g c) (ap (λ (h : History). h.now) is) image)))
    long_none

pub entries_new : (d : DiskState) → d.history ≡ record { now = kept []; past = [] } → entries_on d ≡ []
unfolding entries_of
entries_new d is = ap (λ (h : History). entries_of (bodies_in h.now.bytes)) is

-- ---- an opening

-- a node's names in its entries
same_names : (x : NodeId) (n : ℕ) → Boot 1 (role_of x) (index_of x) n ≡ Boot 1 (world_role x) (world_index x) n
same_names (Replica i) n = refl
same_names (Mux i) n = refl
same_names (Agent i) n = refl

-- by both names it is one entry
pub boots_are_boots : (x : NodeId) (n : ℕ) → Boot 1 (role_of x) (index_of x) n ≡ Boot 1 (world_role x) (world_index x) n
boots_are_boots x n = same_names x n

boot_again : (x : NodeId) (n : ℕ) → IsEntry (Boot 1 (role_of x) (index_of x) n)
    → read_entry (boot_entry x n) ≡ Ok (Boot 1 (role_of x) (index_of x) n)
boot_again x n is = entry_again_whole (Boot 1 (role_of x) (index_of x) n) is

entries_booted : (x : NodeId) (bs : List (List ℕ)) → IsEntry (Boot 1 (role_of x) (index_of x) (next_boot bs))
    → entries_of (with_boot x bs) ≡ booted x (entries_of bs)
unfolding entries_of
entries_booted x bs is =
    flat_map-append (λ b. entry_in (read_entry b)) bs (boot_entry x (next_boot bs) ∷ [])
    ∙ ap (λ (es : List Entry). entries_of bs ++ es)
    (append-nil (entry_in (read_entry (boot_entry x (next_boot bs))))
    ∙ ap entry_in (boot_again x (next_boot bs) is)
    ∙ ap (λ (e : Entry). e ∷ []) (same_names x (next_boot bs)))

module _ {C : Type 0} (cfg : ConfigParts) (who : NodeId) (d u : DiskState) (recover : ConfigParts → NodeId → List Entry → C)
    (core : C) (end : ℕ) (is : Holds d)
    (opens : OpensWith 1073741824 cfg who (Some d.history) (Some u.history) recover core end) where
  same_read : opens.read ≡ bodies_in d.history.now.bytes
  same_read = sym (ap or_none opens.had)

  entries_read : entries_of (with_boot who opens.read) ≡ booted who (entries_on d)
  entries_read =
      entries_booted who opens.read opens.allowed
      ∙ ap (λ (bs : List (List ℕ)). booted who (entries_of bs)) same_read

  long_opened : journal_length (with_boot who opens.read) ≡ entries_length (entries_of (with_boot who opens.read))
  long_opened =
      long_with opens.read (Some (boot_entry who (next_boot opens.read)))
      (Some (Boot 1 (role_of who) (index_of who) (next_boot opens.read)))
      (record { allowed = opens.allowed; spelled = refl })
      (subst (λ (b : List (List ℕ)). journal_length b ≡ entries_length (entries_of b)) (sym same_read) is.long)

  pub holds_opened : Holds u
  holds_opened = holds u (with_boot who opens.read) opens.opens.reads opens.opens.leaves long_opened

  pub length_opened : end ≡ entries_length (entries_on u)
  length_opened =
      opens.length ∙ long_opened
      ∙ ap (λ (r : Result (List (List ℕ)) ℕ). entries_length (entries_of (or_none r))) (sym opens.opens.reads)

  pub entries_opened : entries_on u ≡ booted who (entries_on d)
  entries_opened = ap (λ (r : Result (List (List ℕ)) ℕ). entries_of (or_none r)) opens.opens.reads ∙ entries_read

  pub core_opened : core ≡ recover cfg who (booted who (entries_on d))
  core_opened = opens.made ∙ ap (recover cfg who) entries_read

-- ---- a node that is lent

pub lent : {C : Type 0} (s : Site C) (node : Node C DiskState) → s.place ≡ Up node → IsPlace s.place → IsLent (site_of s) node
lent s node is place =
    let up : IsUp node = subst IsPlace is place in
    record {
      ready = up.ready;
      core = ap place_up is;
      images = λ c image. ap (λ (r : Result (List (List ℕ)) ℕ). entries_of (or_none r)) (up.disk.leaves c image)
          ∙ sym (ap place_entries is);
    }
