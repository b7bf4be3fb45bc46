-- What a crash leaves in the two steps of an append.
use Rattle.std.proofs.Common.{◌≡◌, ◌≢◌, ◌⊎◌, inl, inr, ⊎_elim, ◌<◌, ◌≤◌, ℕ, ◌+◌, ◌-◌, true, List, [], ◌∷◌, ◌++◌, length, get_or, take, drop, refl, sym, ◌∙◌, ap, subst, arith, length-append, append_assoc, take-append-drop}
use Rattle.std.specs.Prelude.{Ok, Option, Some, None}
use Rattle.std.proofs.lemmas.List.{take_at, drop_at, drop_more}
use Rattle.std.proofs.lemmas.Bool.{cases_eq}
use Rattle.outside_io.specs.Disk.{History, FileState, LeavesOnly, Within, kept}
use Rattle.journal.specs.Durable.{Has, file_in, over, Torn}
use Rattle.journal.specs.File.{size, size_bytes, record_bytes, is_entry, bodies, StandsFor}
use Rattle.journal.specs.Journal.{IsFile, Stands, IsBeforeOrAfter, Adds, with_body}
use Rattle.journal.proofs.Records.{written_is, body_is, block_is, length-size_bytes}
use Rattle.journal.proofs.Files.{stands_record, stands_shut}
use Rattle.journal.proofs.Moments.{weaker, both}

-- a file cut in two at a gate
module _ (front : List ℕ) (gate : ℕ) (tail : List ℕ) where
  file : List ℕ
  file = front ++ gate ∷ tail

  pub length-front : length (front ++ gate ∷ []) ≡ length front + 1
  length-front = length-append front (gate ∷ [])

  pub upto : take (length front + 1) (front ++ gate ∷ tail) ≡ front ++ gate ∷ []
  upto = ap (λ (l : List ℕ). take (length front + 1) l) (sym (append_assoc front (gate ∷ []) tail))
      ∙ take_at (front ++ gate ∷ []) tail (length front + 1) length-front

  pub beyond : drop (length front + 1) (front ++ gate ∷ tail) ≡ tail
  beyond = ap (λ (l : List ℕ). drop (length front + 1) l) (sym (append_assoc front (gate ∷ []) tail))
      ∙ drop_at (front ++ gate ∷ []) tail (length front + 1) length-front

  -- a write behind the gate leaves the front and the gate
  pub torn_behind : (n : ℕ) (c : List ℕ) → Torn (length front + 1) n (front ++ gate ∷ tail) c
      → c ≡ front ++ gate ∷ drop (length front + 1) c
  torn_behind n c torn =
      sym (take-append-drop (length front + 1) c)
      ∙ ap (λ (l : List ℕ). l ++ drop (length front + 1) c) (torn.front ∙ upto)
      ∙ append_assoc front (gate ∷ []) (drop (length front + 1) c)

  pub over_behind : (bytes : List ℕ)
      → over (length front + 1) bytes (front ++ gate ∷ tail)
      ≡ front ++ gate ∷ (bytes ++ drop (length front + 1 + length bytes) (front ++ gate ∷ tail))
  over_behind bytes =
      ap (λ (l : List ℕ). l ++ bytes ++ drop (length front + 1 + length bytes) (front ++ gate ∷ tail)) upto
      ∙ append_assoc (front ++ gate ∷ []) bytes (drop (length front + 1 + length bytes) (front ++ gate ∷ tail))
      ∙ append_assoc front (gate ∷ []) (bytes ++ drop (length front + 1 + length bytes) (front ++ gate ∷ tail))

  -- a write of the gate leaves all but the gate
  pub torn_gate : (c : List ℕ) → Torn (length front) 1 (front ++ gate ∷ tail) c
      → c ≡ front ++ get_or c (length front) 0 ∷ tail
  torn_gate c torn =
      let g = get_or c (length front) 0 in
      let long : length front < length c = omega (arith, torn.no_shorter, length-append front (gate ∷ tail)) in
      let rest : drop (length front) c ≡ g ∷ tail = drop_more c (length front) 0 long
      ∙ ap (λ (l : List ℕ). g ∷ l) (torn.back ∙ beyond) in
      sym (take-append-drop (length front) c)
      ∙ ap (λ (l : List ℕ). l ++ drop (length front) c) (torn.front ∙ take_at front (gate ∷ tail) (length front) refl)
      ∙ ap (λ (l : List ℕ). front ++ l) rest

  pub over_gate : (g : ℕ) → over (length front) (g ∷ []) (front ++ gate ∷ tail) ≡ front ++ g ∷ tail
  over_gate g =
      ap (λ (l : List ℕ). l ++ g ∷ [] ++ drop (length front + 1) (front ++ gate ∷ tail))
      (take_at front (gate ∷ tail) (length front) refl)
      ∙ ap (λ (l : List ℕ). front ++ g ∷ [] ++ l) beyond
      ∙ append_assoc front (g ∷ []) tail

pub reads : (bound end : ℕ) (content : List ℕ) (f : IsFile bound end content) → bodies bound content ≡ Ok f.read
reads bound end content f = ap (bodies bound) f.split ∙ stands_shut bound f.front f.read f.gate f.tail f.stands f.shut

module _ (bound end : ℕ) (body : List ℕ) (first : 1 ≤ length body) (last : length body ≤ 65536)
    (entry : is_entry body ≡ true) (bounded : end + length body + 5 ≤ bound) where
  -- the bodies with the new one stand before the closed gate behind it
  pub stands_written : (front : List ℕ) (bs : List (List ℕ)) (tail : List ℕ) → end ≡ length front + 1
      → StandsFor bound front bs → StandsFor bound (front ++ 1 ∷ (size_bytes (length body) ++ body)) (bs ++ body ∷ [])
  stands_written front bs tail place stands =
      let inside : length front + length body + 5 < bound = omega (arith, place, bounded) in
      let next = stands_record bound front bs (1 ∷ (record_bytes body ++ tail)) stands refl
      (written_is bound (length front) body tail first last inside entry) in
      let block = block_is bound (length front) body tail first last inside entry in
      let is = body_is bound (length front) body tail first last inside entry in
      subst (λ (l : List ℕ). StandsFor bound (front ++ l) (bs ++ body ∷ [])) block
      (subst (λ (b : List ℕ). StandsFor bound
      (front ++ take (size (1 ∷ (record_bytes body ++ tail)) + 5) (1 ∷ (record_bytes body ++ tail)))
      (bs ++ b ∷ [])) is next)

  regroup : (front tail : List ℕ)
      → front ++ 1 ∷ (record_bytes body ++ tail) ≡ (front ++ 1 ∷ (size_bytes (length body) ++ body)) ++ 0 ∷ tail
  regroup front tail =
      ap (λ (l : List ℕ). front ++ 1 ∷ l) (append_assoc (size_bytes (length body) ++ body) (0 ∷ []) tail)
      ∙ sym (append_assoc front (1 ∷ (size_bytes (length body) ++ body)) (0 ∷ tail))

  -- the file with the record behind its gate
  pub record IsStaged (file : List ℕ) : Type 0 where
    pub front : List ℕ
    pub gate : ℕ
    pub tail : List ℕ
    pub read : List (List ℕ)
    pub split : file ≡ front ++ gate ∷ (record_bytes body ++ tail)
    pub shut : gate ≢ 1
    pub place : end ≡ length front + 1
    pub stands : StandsFor bound front read

  pub reads_staged : (file : List ℕ) (f : IsStaged file) → bodies bound file ≡ Ok f.read
  reads_staged file f = ap (bodies bound) f.split
      ∙ stands_shut bound f.front f.read f.gate (record_bytes body ++ f.tail) f.stands f.shut

  pub behind : (file : List ℕ) → IsFile bound end file → (n : ℕ) (c : List ℕ) → Torn end n file c
      → bodies bound c ≡ bodies bound file
  behind file f n c torn =
      let torn_at : Torn (length f.front + 1) n (f.front ++ f.gate ∷ f.tail) c =
      subst (λ (l : List ℕ). Torn (length f.front + 1) n l c) f.split (subst (λ k. Torn k n file c) f.place torn) in
      ap (bodies bound) (torn_behind f.front f.gate f.tail n c torn_at)
      ∙ stands_shut bound f.front f.read f.gate (drop (length f.front + 1) c) f.stands f.shut
      ∙ sym (reads bound end file f)

  pub staged : (file : List ℕ) → IsFile bound end file → IsStaged (over end (record_bytes body) file)
  staged file f = record {
    front = f.front;
    gate = f.gate;
    tail = drop (length f.front + 1 + length (record_bytes body)) (f.front ++ f.gate ∷ f.tail);
    read = f.read;
    split = ap (λ (l : List ℕ). over end (record_bytes body) l) f.split
        ∙ ap (λ k. over k (record_bytes body) (f.front ++ f.gate ∷ f.tail)) f.place
        ∙ over_behind f.front f.gate f.tail (record_bytes body);
    shut = f.shut;
    place = f.place;
    stands = f.stands;
  }

  pub written : (file : List ℕ) → IsStaged file → IsFile bound (end + (length body + 5)) (over (end - 1) (1 ∷ []) file)
  written file f = record {
    front = f.front ++ 1 ∷ (size_bytes (length body) ++ body);
    gate = 0;
    tail = f.tail;
    read = f.read ++ body ∷ [];
    split =
        ap (λ (l : List ℕ). over (end - 1) (1 ∷ []) l) f.split
        ∙ ap (λ k. over k (1 ∷ []) (f.front ++ f.gate ∷ (record_bytes body ++ f.tail))) before
        ∙ over_gate f.front f.gate (record_bytes body ++ f.tail) 1
        ∙ regroup f.front f.tail;
    shut = omega arith;
    place = omega (
      arith,
      f.place,
      length-append f.front (1 ∷ (size_bytes (length body) ++ body)),
      length-append (size_bytes (length body)) body,
      length-size_bytes (length body),
    );
    stands = stands_written f.front f.read f.tail f.place f.stands;
  }
    where
      before : end - 1 ≡ length f.front
      before = omega (arith, f.place)

  pub gate_open : (file : List ℕ) (f : IsStaged file) (c : List ℕ) → Torn (end - 1) 1 file c
      → (bodies bound c ≡ Ok f.read) ⊎ (bodies bound c ≡ Ok (f.read ++ body ∷ []))
  gate_open file f c torn = by_gate (cases_eq (get_or c (length f.front) 0) 1)
    where
      before : end - 1 ≡ length f.front
      before = omega (arith, f.place)

      is : c ≡ f.front ++ get_or c (length f.front) 0 ∷ (record_bytes body ++ f.tail)
      is = torn_gate f.front f.gate (record_bytes body ++ f.tail) c
          (subst (λ (l : List ℕ). Torn (length f.front) 1 l c) f.split (subst (λ k. Torn k 1 file c) before torn))

      by_gate : (get_or c (length f.front) 0 ≡ 1) ⊎ (get_or c (length f.front) 0 ≢ 1)
          → (bodies bound c ≡ Ok f.read) ⊎ (bodies bound c ≡ Ok (f.read ++ body ∷ []))
      by_gate (inl open_gate) =
          inr (ap (bodies bound)
          (is ∙ ap (λ g. f.front ++ g ∷ (record_bytes body ++ f.tail)) open_gate ∙ regroup f.front f.tail)
          ∙ stands_shut bound (f.front ++ 1 ∷ (size_bytes (length body) ++ body)) (f.read ++ body ∷ []) 0 f.tail
          (stands_written f.front f.read f.tail f.place f.stands) (omega arith))
      by_gate (inr shut) =
          inl (ap (bodies bound) is ∙ stands_shut bound f.front f.read (get_or c (length f.front) 0)
          (record_bytes body ++ f.tail) f.stands shut)

  done : (content : List ℕ) → IsFile bound end content
      → IsFile bound (end + (length body + 5)) (over (end - 1) (1 ∷ []) (over end (record_bytes body) content))
  done content f = written (over end (record_bytes body) content) (staged content f)

  adds : (content : List ℕ) → IsFile bound end content
      → bodies bound (over (end - 1) (1 ∷ []) (over end (record_bytes body) content))
      ≡ with_body body (bodies bound content)
  unfolding done written staged
  adds content f =
      reads bound (end + (length body + 5)) (over (end - 1) (1 ∷ []) (over end (record_bytes body) content))
      (done content f)
      ∙ ap (with_body body) (sym (reads bound end content f))

  either : (content : List ℕ) → IsFile bound end content → (c : List ℕ)
      → Torn (end - 1) 1 (over end (record_bytes body) content) c → IsBeforeOrAfter bound content body c
  unfolding staged
  either content f c torn = ⊎_elim (λ e. inl (e ∙ sym (reads bound end content f)))
      (λ e. inr (e ∙ ap (with_body body) (sym (reads bound end content f))))
      (gate_open (over end (record_bytes body) content) (staged content f) c torn)

  -- the same, over what the disk tells at the start, after the first write and after the second
  pub first_moments : (old mid : Option History) (n : ℕ) → Stands bound end old
      → LeavesOnly old mid (Torn end n (file_in old)) → LeavesOnly old mid (IsBeforeOrAfter bound (file_in old) body)
  first_moments None None n stands moments = tt
  first_moments None (Some u) n stands moments = absurd moments
  first_moments (Some t) mid n stands moments =
      weaker (Some t) mid _ _ (λ c torn. inl (behind t.now.bytes stands.1 n c torn)) moments

  abbrev pub Staged : Option History → Option History → Type 0
  Staged old mid = LeavesOnly old mid (Torn end (length (record_bytes body)) (file_in old))
      × Has mid (over end (record_bytes body) (file_in old))

  abbrev pub Opened : Option History → Option History → Type 0
  Opened mid new = LeavesOnly mid new (Torn (end - 1) 1 (file_in mid)) × Has new (over (end - 1) (1 ∷ []) (file_in mid))

  pub place_gate : (old mid : Option History) → Stands bound end old → Staged old mid → Within mid (end - 1)
  place_gate None None stands s = tt
  place_gate None (Some u) stands s = absurd s.0
  place_gate (Some t) None stands s = absurd s.0
  place_gate (Some t) (Some u) stands s =
      let f = staged t.now.bytes stands.1 in
      omega (
        arith,
        f.place,
        ap length (ap (λ (h : FileState). h.bytes) s.1 ∙ f.split),
        length-append f.front (f.gate ∷ (record_bytes body ++ f.tail)),
      )

  pub second_moments : (old mid new : Option History) → Stands bound end old → Staged old mid
      → LeavesOnly mid new (Torn (end - 1) 1 (file_in mid))
      → LeavesOnly old new (IsBeforeOrAfter bound (file_in old) body)
  second_moments None None None stands s moments = tt
  second_moments None None (Some v) stands s moments = absurd moments
  second_moments None (Some u) new stands s moments = absurd s.0
  second_moments (Some t) None new stands s moments = absurd s.0
  second_moments (Some t) (Some u) new stands s moments =
      both (Some t) (Some u) new _ _ _
      (λ c torn. inl (behind t.now.bytes stands.1 _ c torn))
      (λ c torn. either t.now.bytes stands.1 c
      (subst (λ (l : List ℕ). Torn (end - 1) 1 l c) (ap (λ (h : FileState). h.bytes) s.1) torn))
      s.0 moments

  pub stands_new : (old mid new : Option History) → Stands bound end old → Staged old mid → Opened mid new
      → Stands bound (end + (length body + 5)) new
  stands_new None None None stands s o = tt
  stands_new None None (Some v) stands s o = absurd o.0
  stands_new None (Some u) new stands s o = absurd s.0
  stands_new (Some t) None new stands s o = absurd s.0
  stands_new (Some t) (Some u) None stands s o = absurd o.0
  stands_new (Some t) (Some u) (Some v) stands s o =
      let is : v.now.bytes ≡ over (end - 1) (1 ∷ []) (over end (record_bytes body) t.now.bytes) =
      ap (λ (h : FileState). h.bytes) o.1 ∙ ap (λ (h : FileState). over (end - 1) (1 ∷ []) h.bytes) s.1 in (
        o.1 ∙ ap kept (sym (ap (λ (h : FileState). h.bytes) o.1)),
        subst (IsFile bound (end + (length body + 5))) (sym is) (done t.now.bytes stands.1),
      )

  pub adds_new : (old mid new : Option History) → Stands bound end old → Staged old mid → Opened mid new
      → Adds bound body old new
  adds_new None mid new stands s o = tt
  adds_new (Some t) None new stands s o = absurd s.0
  adds_new (Some t) (Some u) None stands s o = absurd o.0
  adds_new (Some t) (Some u) (Some v) stands s o =
      let is : v.now.bytes ≡ over (end - 1) (1 ∷ []) (over end (record_bytes body) t.now.bytes) =
      ap (λ (h : FileState). h.bytes) o.1 ∙ ap (λ (h : FileState). over (end - 1) (1 ∷ []) h.bytes) s.1 in
      ap (bodies bound) is ∙ adds t.now.bytes stands.1
