-- One delivery of a settle after another.
use Rattle.std.proofs.Common.{◌≡◌, ◌<◌, ℕ, zero, suc, ◌-◌, Bool, true, false, List, [], ◌∷◌, ◌++◌, Option, Some, None, refl, sym, ap, subst, ◌∙◌, append_assoc, append-nil, arith}
use Rattle.std.specs.Prelude.{is_some}
use Rattle.schedule_text.specs.declared.line.Line.{Line}
use Rattle.schedule_text.specs.declared.line.Line.TheVariants as line
use Rattle.world_mail.specs.Mails.{MailState, least_waiting}
use Rattle.world_nodes.specs.Overflows.{IsFaultOf, Overflow}
use Rattle.world_nodes.specs.Sites.{Deciding}
use Rattle.world_nodes.specs.declared.fault.WorldFault.{WorldFault}
use Rattle.world_nodes.specs.declared.fault.WorldFault.TheVariants.{Full, NoMemory}
use Rattle.world_model.specs.Overflows.{deliver_overflow, first_of, settle_overflow, settle_overflow_by}
use Rattle.world_model.specs.World.{Outcome, WorldState, deliver, onto, settle, settle_by}

some_is_none : (b : Bool) → b ≡ true → false ≡ b → ⊥
some_is_none true is not = absurd (cc)
some_is_none false is not = absurd (cc)

none_is : (o : Option ℕ) → false ≡ is_some o → o ≡ None
none_is None is = refl
none_is (Some k) is = absurd (some_is_none true refl is)

first_alone : (o : Option Overflow) → o ≡ first_of o None
first_alone None = refl
first_alone (Some o) = refl

-- a fault of the first is one of both
pub first_fault : (o more : Option Overflow) (e : WorldFault) → IsFaultOf o e → IsFaultOf (first_of o more) e
first_fault o more NoMemory is = tt
first_fault o more (Full n body) is = ap (λ (p : Option Overflow). first_of p more) is

module _ {C : Type 0} (step : Deciding C) where
  -- nothing waits
  settle_none : (n : ℕ) (w : WorldState C) → least_waiting w.mail ≡ None → settle step n w ≡ (w, [])
  unfolding settle
  settle_none zero w none = refl
  settle_none (suc n) w none = ap (settle_by step w (settle step n)) none

  -- one delivery, and the others
  settle_first : (n : ℕ) (w : WorldState C)
      → settle step (suc n) w ≡ onto (settle step 1 w).1 (settle step n (settle step 1 w).0)
  unfolding settle
  settle_first n w = by (least_waiting w.mail) refl
    where
      by : (o : Option ℕ) → least_waiting w.mail ≡ o
          → settle_by step w (settle step n) o
          ≡ onto (settle_by step w (settle step 0) o).1 (settle step n (settle_by step w (settle step 0) o).0)
      by None none = sym (ap (onto []) (settle_none n w none))
      by (Some k) some =
          ap (λ (l : List Line). onto l (settle step n (deliver step w k).0))
          (sym (append-nil (line.Delivery k ∷ (deliver step w k).1)))

  -- a settle of one delivery
  pub one_none : (w : WorldState C) (m : MailState) (before : List Line) → m ≡ w.mail → None ≡ least_waiting w.mail
      → (record w { mail = m }, before) ≡ onto before (settle step 1 w)
  one_none w m before same none =
      ap left same
      ∙ ap (λ (l : List Line). (w, l)) (sym (append-nil before))
      ∙ sym (ap (onto before) (settle_none 1 w (sym none)))
    where
      left : MailState → Outcome C
      left m = (record w { mail = m }, before)

  pub one_some : (w u : WorldState C) (k : ℕ) (before after : List Line) → Some k ≡ least_waiting w.mail
      → (u, after) ≡ onto (before ++ line.Delivery k ∷ []) (deliver step w k) → (u, after) ≡ onto before (settle step 1 w)
  unfolding settle
  one_some w u k before after some is =
      is
      ∙ ap (λ (l : List Line). ((deliver step w k).0, l)) (regroup before (line.Delivery k) (deliver step w k).1)
      ∙ ap (λ (o : Option ℕ). onto before (settle_by step w (settle step 0) o)) some
    where
      regroup : (before : List Line) (l : Line) (mid : List Line) → (before ++ l ∷ []) ++ mid ≡ before ++ ((l ∷ mid) ++ [])
      regroup before l mid =
          append_assoc before (l ∷ []) mid ∙ ap (λ (m : List Line). before ++ m) (sym (append-nil (l ∷ mid)))

  -- what the others do
  pub settle_rest : (w u : WorldState C) (lines : List Line) (n : ℕ) → 0 < n → (u, lines) ≡ onto [] (settle step 1 w)
      → settle step n w ≡ onto lines (settle step (n - 1) u)
  settle_rest w u lines zero some is = absurd (omega (arith, some))
  settle_rest w u lines (suc n) some is =
      let here : (settle step 1 w).0 ≡ u = sym (ap (λ (r : Outcome C). r.0) is) in
      let told : (settle step 1 w).1 ≡ lines = sym (ap (λ (r : Outcome C). r.1) is) in
      let e : n ≡ suc n - 1 = omega arith in
      settle_first n w
      ∙ ap (λ (l : List Line). onto l (settle step n (settle step 1 w).0)) told
      ∙ ap (λ (v : WorldState C). onto lines (settle step n v)) here
      ∙ ap (λ (m : ℕ). onto lines (settle step m u)) e

  -- nothing waits any more
  pub settle_quiet : (w u : WorldState C) (lines : List Line) (n : ℕ) → false ≡ is_some (least_waiting w.mail)
      → (u, lines) ≡ onto [] (settle step 1 w) → settle step n w ≡ onto lines (settle step 0 u)
  unfolding settle
  settle_quiet w u lines n quiet is =
      settle_none n w (none_is (least_waiting w.mail) quiet)
      ∙ sym (is ∙ ap (onto []) (settle_none 1 w (none_is (least_waiting w.mail) quiet)))
      ∙ ap (λ (l : List Line). (u, l)) (sym (append-nil lines))

  -- ---- the same behind some lines

  pub settle_more : (w u : WorldState C) (before after : List Line) (n : ℕ) (end : Outcome C) → 0 < n
      → (u, after) ≡ onto before (settle step 1 w) → onto before (settle step n w) ≡ end
      → onto after (settle step (n - 1) u) ≡ end
  settle_more w u before after n end some is so_far =
      let here : (u, (settle step 1 w).1) ≡ onto [] (settle step 1 w) =
      ap (λ (r : Outcome C). (r.0, (settle step 1 w).1)) is in
      let lines : after ≡ before ++ (settle step 1 w).1 = ap (λ (r : Outcome C). r.1) is in
      ap (λ (l : List Line). onto l (settle step (n - 1) u)) lines
      ∙ ap (λ (l : List Line). ((settle step (n - 1) u).0, l))
      (append_assoc before (settle step 1 w).1 (settle step (n - 1) u).1)
      ∙ ap (onto before) (sym (settle_rest w u (settle step 1 w).1 n some here))
      ∙ so_far

  pub settle_stops : (w u : WorldState C) (before after : List Line) (n : ℕ) (end : Outcome C)
      → false ≡ is_some (least_waiting w.mail) → (u, after) ≡ onto before (settle step 1 w)
      → onto before (settle step n w) ≡ end → (u, after) ≡ end
  settle_stops w u before after n end quiet is so_far =
      is
      ∙ ap (onto before) (settle_none 1 w (none_is (least_waiting w.mail) quiet))
      ∙ ap (onto before) (sym (settle_none n w (none_is (least_waiting w.mail) quiet)))
      ∙ so_far

  pub settle_done : (w : WorldState C) (before : List Line) (n : ℕ) (end : Outcome C) → n ≡ 0
      → onto before (settle step n w) ≡ end → (w, before) ≡ end
  unfolding settle
  settle_done w before n end none so_far =
      ap (λ (l : List Line). (w, l)) (sym (append-nil before))
      ∙ ap (λ (m : ℕ). onto before (settle step m w)) (sym none)
      ∙ so_far

  -- ---- journals

  no_overflow : (n : ℕ) (w : WorldState C) → least_waiting w.mail ≡ None → settle_overflow step n w ≡ None
  unfolding settle_overflow
  no_overflow zero w none = refl
  no_overflow (suc n) w none = ap (settle_overflow_by step w (settle_overflow step n)) none

  pub one_room_none : (w : WorldState C) → None ≡ least_waiting w.mail → settle_overflow step 1 w ≡ None
  one_room_none w none = no_overflow 1 w (sym none)

  pub one_room : (w : WorldState C) (k : ℕ) → Some k ≡ least_waiting w.mail
      → deliver_overflow step w k ≡ settle_overflow step 1 w
  unfolding settle_overflow
  one_room w k some =
      first_alone (deliver_overflow step w k)
      ∙ ap (λ (o : Option ℕ). settle_overflow_by step w (settle_overflow step 0) o) some

  overflow_first : (n : ℕ) (w : WorldState C)
      → settle_overflow step (suc n) w
      ≡ first_of (settle_overflow step 1 w) (settle_overflow step n (settle step 1 w).0)
  unfolding settle_overflow settle
  overflow_first n w = by (least_waiting w.mail) refl
    where
      by : (o : Option ℕ) → least_waiting w.mail ≡ o
          → settle_overflow_by step w (settle_overflow step n) o
          ≡ first_of (settle_overflow_by step w (settle_overflow step 0) o)
          (settle_overflow step n (settle_by step w (settle step 0) o).0)
      by None none = sym (no_overflow n w none)
      by (Some k) some =
          ap (λ (o : Option Overflow). first_of o (settle_overflow step n (deliver step w k).0))
          (first_alone (deliver_overflow step w k))

  -- the first delivery found room
  pub room_rest : (w u : WorldState C) (n : ℕ) → 0 < n → u ≡ (settle step 1 w).0 → settle_overflow step 1 w ≡ None
      → settle_overflow step (n - 1) u ≡ settle_overflow step n w
  room_rest w u zero some is room = absurd (omega (arith, some))
  room_rest w u (suc n) some is room =
      let e : suc n - 1 ≡ n = omega arith in
      ap (λ (m : ℕ). settle_overflow step m u) e
      ∙ ap (settle_overflow step n) is
      ∙ ap (λ (o : Option Overflow). first_of o (settle_overflow step n (settle step 1 w).0)) (sym room)
      ∙ sym (overflow_first n w)

  pub room_quiet : (w : WorldState C) (n : ℕ) → false ≡ is_some (least_waiting w.mail) → settle_overflow step n w ≡ None
  room_quiet w n quiet = no_overflow n w (none_is (least_waiting w.mail) quiet)

  pub room_done : (w : WorldState C) (n : ℕ) → n ≡ 0 → settle_overflow step n w ≡ None
  unfolding settle_overflow
  room_done w n none = ap (λ (m : ℕ). settle_overflow step m w) none

  -- or it found none
  pub full_first : (w : WorldState C) (n : ℕ) (e : WorldFault) → 0 < n → IsFaultOf (settle_overflow step 1 w) e
      → IsFaultOf (settle_overflow step n w) e
  full_first w zero e some is = absurd (omega (arith, some))
  full_first w (suc n) e some is =
      subst (λ (o : Option Overflow). IsFaultOf o e) (sym (overflow_first n w))
      (first_fault (settle_overflow step 1 w) (settle_overflow step n (settle step 1 w).0) e is)
