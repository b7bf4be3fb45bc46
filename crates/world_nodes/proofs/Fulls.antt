-- A journal is full exactly by its numbers.
use Rattle.std.proofs.Common.{◌≡◌, ◌<◌, ◌≤◌, ℕ, ◌+◌, ◌^◌, Bool, true, false, nat_lt, if◌then◌else◌, List, [], ◌∷◌, ◌++◌, length, Result, Ok, Err, Option, Some, None, refl, sym, ap, subst, ◌∙◌, arith, length-append}
use Rattle.std.proofs.lemmas.Bool.{ltb-true, ltb-false}
use Rattle.wire_core.specs.Entries.{IsEntry, entry_bytes}
use Rattle.wire_core.specs.Numbers.{number_bytes}
use Rattle.wire_core.specs.declared.entry.Entry.{Entry}
use Rattle.wire_core.specs.declared.entry.Entry.TheVariants.{Boot}
use Rattle.wire_core.specs.declared.node.NodeId.{NodeId}
use Rattle.wire_core.specs.declared.node.NodeId.TheVariants.{Replica, Mux, Agent}
use Rattle.wire_core.proofs.NumberLaws.{length-number_bytes}
use Rattle.vip_config.specs.declared.parts.ConfigParts.{ConfigParts}
use Rattle.disk_model.specs.Disks.{DiskState}
use Rattle.journal.specs.File.{bodies}
use Rattle.journal.specs.Journal.{journal_length}
use Rattle.node_spec.specs.Bodies.{Spells, entries_of}
use Rattle.node_disk.specs.Judging.{boot_entry, index_of, role_of}
use Rattle.node_disk.specs.Keeping.{Fits, KeepFails}
use Rattle.node_disk.specs.declared.fault.NodeFault.{NodeFault}
use Rattle.node_disk.specs.declared.fault.NodeFault.TheVariants as fault
use Rattle.node_core.specs.Handling.{HandleFails, SpellsFull}
use Rattle.node_core.specs.Opening.{OpenFails, OpensWith, next_boot, with_boot}
use Rattle.node_spec.specs.Boots.{boot_of}
use Rattle.world_spec.specs.Nodes.{boot_entry as boot_of_tables, index_of as world_index, role_of as world_role}
use Rattle.world_nodes.specs.Disks.{Holds, bodies_in, entries_on, or_none}
use Rattle.world_nodes.specs.Lengths.{entries_length}
use Rattle.world_nodes.specs.Overflows.{IsFaultOf, Overflow, overflow, overflow_at, world_fault}
use Rattle.world_nodes.specs.declared.fault.WorldFault.{WorldFault}
use Rattle.world_nodes.specs.declared.fault.WorldFault.TheVariants.{Full, NoMemory}
use Rattle.world_nodes.proofs.Places.{boots_are_boots}

abbrev over : ℕ → ℕ → Bool → Option Overflow
over n b passes = if passes then Some (record { length = n; body = b }) else None

overflows : (n b : ℕ) → 1073741824 < n + b + 5 → overflow_at n b ≡ Some (record { length = n; body = b })
overflows n b lt = by (nat_lt 1073741824 (n + b + 5)) refl
  where
    by : (t : Bool) → nat_lt 1073741824 (n + b + 5) ≡ t → over n b t ≡ Some (record { length = n; body = b })
    by true is = refl
    by false is = let le = ltb-false 1073741824 (n + b + 5) is in absurd (omega (arith, le, lt))

has_room : (n b : ℕ) → n + b + 5 ≤ 1073741824 → overflow_at n b ≡ None
has_room n b le = by (nat_lt 1073741824 (n + b + 5)) refl
  where
    by : (t : Bool) → nat_lt 1073741824 (n + b + 5) ≡ t → over n b t ≡ None
    by true is = let lt = ltb-true 1073741824 (n + b + 5) is in absurd (omega (arith, le, lt))
    by false is = refl

-- ---- a step

abbrev spelled_some : Option (List ℕ) → List ℕ
spelled_some None = []
spelled_some (Some b) = b

-- nothing was written, though something is spelled so
none_spelled : (b : List ℕ) → ◌≡◌ {A = Option (List ℕ)} (Some b) None → ⊥
none_spelled b is = absurd (cc)

-- a step's entry found no room
full_by : (entries : List Entry) (entry : Option Entry) (bytes : List ℕ) (bound end n body : ℕ) → bound ≡ 1073741824
    → end ≡ entries_length entries → Spells (Some bytes) entry
    → (bound < end + length bytes + 5) × (n ≡ end) × (body ≡ length bytes)
    → overflow entries entry ≡ Some (record { length = n; body = body })
full_by entries None bytes bound end n body same long spells is = absurd (none_spelled bytes spells.spelled)
full_by entries (Some e) bytes bound end n body same long spells is =
    let spelled : bytes ≡ entry_bytes e = ap spelled_some spells.spelled in
    let size : body ≡ length (entry_bytes e) = is.2 ∙ ap (λ (b : List ℕ). length b) spelled in
    let at : n ≡ entries_length entries = is.1 ∙ long in
    overflows (entries_length entries) (length (entry_bytes e)) (omega (arith, same, is.0, is.1, is.2, size, at))
    ∙ ap (λ (k : ℕ). some k (length (entry_bytes e))) (sym at)
    ∙ ap (some n) (sym size)
  where
    some : ℕ → ℕ → Option Overflow
    some k l = Some (record { length = k; body = l })

pub step_fails : (f : NodeFault) (entries : List Entry) (entry : Option Entry) (bytes : Option (List ℕ))
    (bound end before now : ℕ) → bound ≡ 1073741824 → end ≡ entries_length entries → SpellsFull f bytes entry
    → HandleFails bound end before now bytes f → IsFaultOf (overflow entries entry) (world_fault f)
step_fails (fault.Full n body) entries entry None bound end before now same long spells fails = absurd fails
step_fails (fault.Full n body) entries entry (Some bytes) bound end before now same long spells fails =
    full_by entries entry bytes bound end n body same long spells fails
step_fails fault.NoMemory entries entry bytes bound end before now same long spells fails = tt
step_fails fault.Disk entries entry bytes bound end before now same long spells fails = tt
step_fails (fault.Damaged second offset) entries entry bytes bound end before now same long spells fails = absurd fails
step_fails (fault.WrongDisk found) entries entry bytes bound end before now same long spells fails = absurd fails
step_fails (fault.Spent boot) entries entry bytes bound end before now same long spells fails = absurd fails

pub step_fits : (entries : List Entry) (entry : Option Entry) (bytes : Option (List ℕ)) (bound end : ℕ)
    → bound ≡ 1073741824 → end ≡ entries_length entries → Spells bytes entry → Fits bound end bytes
    → overflow entries entry ≡ None
step_fits entries None bytes bound end same long spells fits = refl
step_fits entries (Some e) bytes bound end same long spells fits =
    let room : end + length (entry_bytes e) + 5 ≤ bound = subst (λ (b : Option (List ℕ)). Fits bound end b) spells.spelled fits in
    has_room (entries_length entries) (length (entry_bytes e)) (omega (arith, same, long, room))

-- ---- an opening

module _ (who : NodeId) (d : DiskState) (is : Holds d) where
  -- its boot is as long by both names
  boot_length : (bs : List (List ℕ)) → bs ≡ bodies_in d.history.now.bytes
      → length (boot_entry who (next_boot bs)) ≡ length (entry_bytes (boot_of_tables who (entries_on d)))
  boot_length bs same =
      ap (λ (e : Entry). length (entry_bytes e)) (boots_are_boots who (next_boot bs))
      ∙ ap (λ (b : List (List ℕ)). length (entry_bytes (boot_of_tables who (entries_of b)))) same

  pub open_fails : (f : NodeFault) (before now : ℕ) → OpenFails 1073741824 who (Some d.history) before now f
      → IsFaultOf (overflow (entries_on d) (Some (boot_of_tables who (entries_on d)))) (world_fault f)
  open_fails (fault.Full n body) before now fails =
      let told = fails (bodies_in d.history.now.bytes) is.reads in
      let at : n ≡ entries_length (entries_on d) = told.1 ∙ is.long in
      let size : body ≡ length (entry_bytes (boot_of_tables who (entries_on d))) =
      told.2 ∙ boot_length (bodies_in d.history.now.bytes) refl in
      overflows (entries_length (entries_on d)) (length (entry_bytes (boot_of_tables who (entries_on d))))
      (omega (arith, told.0, at, size))
      ∙ ap (λ (k : ℕ). some k (length (entry_bytes (boot_of_tables who (entries_on d))))) (sym at)
      ∙ ap (some n) (sym size)
    where
      some : ℕ → ℕ → Option Overflow
      some k l = Some (record { length = k; body = l })
  open_fails fault.NoMemory before now fails = tt
  open_fails fault.Disk before now fails = tt
  open_fails (fault.Damaged second offset) before now fails = tt
  open_fails (fault.WrongDisk found) before now fails = tt
  open_fails (fault.Spent boot) before now fails = tt

  bodies_more : (bs : List (List ℕ)) (b : List ℕ) → journal_length (bs ++ b ∷ []) ≡ journal_length bs + length b + 5
  bodies_more [] b = omega arith
  bodies_more (c ∷ bs) b = let more = bodies_more bs b in omega (arith, more)

  pub open_fits : {C : Type 0} (cfg : ConfigParts) (u : DiskState) (recover : ConfigParts → NodeId → List Entry → C)
      (core : C) (end : ℕ) → OpensWith 1073741824 cfg who (Some d.history) (Some u.history) recover core end
      → overflow (entries_on d) (Some (boot_of_tables who (entries_on d))) ≡ None
  open_fits cfg u recover core end opens =
      let same : opens.read ≡ bodies_in d.history.now.bytes = sym (ap or_none opens.had) in
      let size = boot_length opens.read same in
      let long : journal_length opens.read ≡ entries_length (entries_on d) = ap journal_length same ∙ is.long in
      let more = bodies_more opens.read (boot_entry who (next_boot opens.read)) in
      has_room (entries_length (entries_on d)) (length (entry_bytes (boot_of_tables who (entries_on d))))
      (omega (arith, size, long, more, opens.length, opens.fits))

-- ---- an empty disk

boot_is_short : (who : NodeId) (entries : List Entry) → length (entry_bytes (boot_of_tables who entries)) ≤ 13
boot_is_short who entries = short (world_role who) (world_index who) (boot_of entries + 1)
  where
    short : (role index boot : ℕ) → length (entry_bytes (Boot 1 role index boot)) ≤ 13
    short role index boot =
        omega (
          arith,
          length-append (number_bytes 2 index) (number_bytes 8 boot),
          length-number_bytes 2 index,
          length-number_bytes 8 boot,
        )

first_length : entries_length [] ≡ 1
unfolding entries_length
first_length = refl

-- a boot on an empty disk always has room
pub first_memory : (who : NodeId) (entries : List Entry) (e : WorldFault) → entries ≡ []
    → IsFaultOf (overflow entries (Some (boot_of_tables who entries))) e → e ≡ NoMemory
first_memory who entries NoMemory empty is = refl
first_memory who entries (Full n body) empty is =
    let short = boot_is_short who entries in
    let long : entries_length entries ≡ 1 = ap entries_length empty ∙ first_length in
    absurd (none_is_some (record { length = n; body = body })
    (sym (has_room (entries_length entries) (length (entry_bytes (boot_of_tables who entries))) (omega (arith, short, long)))
    ∙ is))
  where
    none_is_some : (o : Overflow) → ◌≡◌ {A = Option Overflow} None (Some o) → ⊥
    none_is_some o e = absurd (cc)
