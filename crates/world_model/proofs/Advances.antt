-- A run step by step: what each step writes and leaves.
use Rattle.std.proofs.Common.{◌≡◌, ◌⊎◌, inl, inr, ◌<◌, ◌≤◌, ℕ, zero, suc, ◌+◌, ◌-◌, List, [], ◌∷◌, ◌++◌, length, drop, Option, Some, None, refl, sym, ap, subst, ◌∙◌, append_assoc, append-nil, arith}
use Rattle.std.specs.List.{flat_map}
use Rattle.std.proofs.lemmas.Grind.{flat_map-append}
use Rattle.vip_config.specs.declared.parts.ConfigParts.{ConfigParts}
use Rattle.schedule_text.specs.Transcript.{line_text, printed_line}
use Rattle.schedule_text.specs.declared.event.Event.{Event}
use Rattle.schedule_text.specs.declared.event.Event.TheVariants as event
use Rattle.schedule_text.specs.declared.line.Line.{Line}
use Rattle.schedule_text.specs.declared.line.Line.TheVariants as line
use Rattle.transcript_summary.specs.Summary.{IsWhole}
use Rattle.world_nodes.specs.Overflows.{IsFaultOf, Overflow}
use Rattle.world_nodes.specs.Sites.{Deciding, Opening}
use Rattle.world_nodes.specs.declared.fault.WorldFault.{WorldFault}
use Rattle.world_nodes.specs.declared.fault.WorldFault.TheVariants.{Full, NoMemory}
use Rattle.world_model.specs.Overflows.{event_overflow, first_of, run_overflow, settle_overflow}
use Rattle.world_model.specs.Runs.{all_steps, deliveries, overflow_left, steps_in, text_left, text_of}
use Rattle.world_model.specs.World.{Outcome, WorldState, applied, lines_from, onto, settle}
use Rattle.world_model.proofs.Settles.{first_fault}

-- ---- whole lines

whole_then : (a b : List ℕ) → IsWhole a → IsWhole b → IsWhole (a ++ b)
whole_then a b is (inl none) = subst IsWhole (sym (append-nil a) ∙ ap (λ (l : List ℕ). a ++ l) (sym none)) is
whole_then a b is (inr ends) =
    inr (a ++ ends.0, ap (λ (l : List ℕ). a ++ l) ends.1 ∙ sym (append_assoc a ends.0 (10 ∷ [])))

whole_lines : (cfg : ConfigParts) (lines : List Line) → IsWhole (text_of cfg lines)
whole_lines cfg [] = inl refl
whole_lines cfg (l ∷ ls) = whole_then (printed_line cfg l) (text_of cfg ls) (inr (line_text cfg l, refl)) (whole_lines cfg ls)

pub whole_more : (cfg : ConfigParts) (lines : List Line) (before after : List ℕ) → after ≡ before ++ text_of cfg lines
    → IsWhole before → IsWhole after
whole_more cfg lines before after is whole =
    subst IsWhole (sym is) (whole_then before (text_of cfg lines) whole (whole_lines cfg lines))

pub whole_line : (cfg : ConfigParts) (l : Line) (before after : List ℕ) → after ≡ before ++ printed_line cfg l → IsWhole after
whole_line cfg l before after is = inr (before ++ line_text cfg l, is ∙ sym (append_assoc before (line_text cfg l) (10 ∷ [])))

-- ---- outcomes

module _ {C : Type 0} (cfg : ConfigParts) where
  -- the text of some lines, and of what is left behind them
  pub text_behind : (r s : Outcome C) (lines : List Line) (before after : List ℕ) → r ≡ onto lines s
      → after ≡ before ++ text_of cfg lines → after ++ text_of cfg s.1 ≡ before ++ text_of cfg r.1
  text_behind r s lines before after is adds =
      ap (λ (l : List ℕ). l ++ text_of cfg s.1) adds
      ∙ append_assoc before (text_of cfg lines) (text_of cfg s.1)
      ∙ ap (λ (l : List ℕ). before ++ l) (sym (flat_map-append (printed_line cfg) lines s.1))
      ∙ ap (λ (o : Outcome C). before ++ text_of cfg o.1) (sym is)

pub world_behind : {C : Type 0} (r s : Outcome C) (lines : List Line) → r ≡ onto lines s → s.0 ≡ r.0
world_behind {C} r s lines is = sym (ap (λ (o : Outcome C). o.0) is)

regroup : (a b c d r s : List ℕ) → a ++ b ≡ c ++ d → r ≡ s → a ++ (b ++ r) ≡ c ++ (d ++ s)
regroup a b c d r s is same =
    sym (append_assoc a b r)
    ∙ ap (λ (l : List ℕ). l ++ r) is
    ∙ append_assoc c d r
    ∙ ap (λ (l : List ℕ). c ++ (d ++ l)) same

module _ {C : Type 0} (step : Deciding C) (recover : Opening C) (cfg : ConfigParts) where
  -- ---- a delivery of a settle

  pub delivery_text : (w u : WorldState C) (n m : ℕ) (es : List Event) (before after : List ℕ)
      → after ++ text_of cfg (settle step m u).1 ≡ before ++ text_of cfg (settle step n w).1
      → (settle step m u).0 ≡ (settle step n w).0
      → after ++ text_left step recover cfg u m es ≡ before ++ text_left step recover cfg w n es
  delivery_text w u n m es before after text world =
      regroup after (text_of cfg (settle step m u).1) before (text_of cfg (settle step n w).1)
      (text_of cfg (lines_from step recover (settle step m u).0 es))
      (text_of cfg (lines_from step recover (settle step n w).0 es)) text
      (ap (λ (v : WorldState C). text_of cfg (lines_from step recover v es)) world)

  pub delivery_room : (w u : WorldState C) (n m : ℕ) (es : List Event)
      → settle_overflow step m u ≡ settle_overflow step n w → (settle step m u).0 ≡ (settle step n w).0
      → overflow_left step recover u m es ≡ overflow_left step recover w n es
  delivery_room w u n m es room world =
      ap (λ (o : Option Overflow). first_of o (run_overflow step recover (settle step m u).0 es)) room
      ∙ ap (λ (v : WorldState C). first_of (settle_overflow step n w) (run_overflow step recover v es)) world

  pub delivery_full : (w : WorldState C) (n : ℕ) (es : List Event) (e : WorldFault)
      → IsFaultOf (settle_overflow step n w) e → IsFaultOf (overflow_left step recover w n es) e
  delivery_full w n es e is = first_fault (settle_overflow step n w) (run_overflow step recover (settle step n w).0 es) e is

  -- ---- an event

  begun_text : (w : WorldState C) (n : ℕ) (e : Event) (es rest : List Event) → n ≡ 0 → es ≡ e ∷ rest
      → text_left step recover cfg w n es
      ≡ (printed_line cfg (line.Event e) ++ text_of cfg (applied step recover w e).1)
      ++ text_of cfg (lines_from step recover (applied step recover w e).0 rest)
  unfolding settle lines_from
  begun_text w n e es rest none split =
      ap (λ (m : ℕ). text_left step recover cfg w m es) none
      ∙ ap (λ (xs : List Event). text_left step recover cfg w 0 xs) split
      ∙ ap (λ (l : List ℕ). printed_line cfg (line.Event e) ++ l)
      (flat_map-append (printed_line cfg) (applied step recover w e).1 (lines_from step recover (applied step recover w e).0 rest))
      ∙ sym (append_assoc (printed_line cfg (line.Event e)) (text_of cfg (applied step recover w e).1) _)

  pub event_text : (w u : WorldState C) (n m : ℕ) (e : Event) (es rest : List Event) (before after : List ℕ) → n ≡ 0
      → es ≡ e ∷ rest
      → after ++ text_of cfg (settle step m u).1
      ≡ before ++ printed_line cfg (line.Event e) ++ text_of cfg (applied step recover w e).1
      → (settle step m u).0 ≡ (applied step recover w e).0
      → after ++ text_left step recover cfg u m rest ≡ before ++ text_left step recover cfg w n es
  event_text w u n m e es rest before after none split text world =
      regroup after (text_of cfg (settle step m u).1) before
      (printed_line cfg (line.Event e) ++ text_of cfg (applied step recover w e).1)
      (text_of cfg (lines_from step recover (settle step m u).0 rest))
      (text_of cfg (lines_from step recover (applied step recover w e).0 rest))
      (text ∙ append_assoc before (printed_line cfg (line.Event e)) (text_of cfg (applied step recover w e).1))
      (ap (λ (v : WorldState C). text_of cfg (lines_from step recover v rest)) world)
      ∙ ap (λ (l : List ℕ). before ++ l) (sym (begun_text w n e es rest none split))

  begun_room : (w : WorldState C) (n : ℕ) (e : Event) (es rest : List Event) → n ≡ 0 → es ≡ e ∷ rest
      → overflow_left step recover w n es
      ≡ first_of (event_overflow step w e) (run_overflow step recover (applied step recover w e).0 rest)
  unfolding settle settle_overflow run_overflow
  begun_room w n e es rest none split =
      ap (λ (m : ℕ). overflow_left step recover w m es) none
      ∙ ap (λ (xs : List Event). overflow_left step recover w 0 xs) split

  pub event_room : (w u : WorldState C) (n m : ℕ) (e : Event) (es rest : List Event) → n ≡ 0 → es ≡ e ∷ rest
      → settle_overflow step m u ≡ event_overflow step w e → (settle step m u).0 ≡ (applied step recover w e).0
      → overflow_left step recover u m rest ≡ overflow_left step recover w n es
  event_room w u n m e es rest none split room world =
      ap (λ (o : Option Overflow). first_of o (run_overflow step recover (settle step m u).0 rest)) room
      ∙ ap (λ (v : WorldState C). first_of (event_overflow step w e) (run_overflow step recover v rest)) world
      ∙ sym (begun_room w n e es rest none split)

  pub event_full : (w : WorldState C) (n : ℕ) (e : Event) (es rest : List Event) (f : WorldFault) → n ≡ 0 → es ≡ e ∷ rest
      → IsFaultOf (event_overflow step w e) f → IsFaultOf (overflow_left step recover w n es) f
  event_full w n e es rest f none split is =
      subst (λ (o : Option Overflow). IsFaultOf o f) (sym (begun_room w n e es rest none split))
      (first_fault (event_overflow step w e) (run_overflow step recover (applied step recover w e).0 rest) f is)

  -- ---- the end

  pub no_text : (w : WorldState C) (n : ℕ) (es : List Event) → n ≡ 0 → es ≡ [] → text_left step recover cfg w n es ≡ []
  unfolding settle lines_from
  no_text w n es none no_more =
      ap (λ (m : ℕ). text_left step recover cfg w m es) none
      ∙ ap (λ (xs : List Event). text_left step recover cfg w 0 xs) no_more

  pub no_room_wanted : (w : WorldState C) (n : ℕ) (es : List Event) → n ≡ 0 → es ≡ []
      → overflow_left step recover w n es ≡ None
  unfolding settle settle_overflow run_overflow
  no_room_wanted w n es none no_more =
      ap (λ (m : ℕ). overflow_left step recover w m es) none
      ∙ ap (λ (xs : List Event). overflow_left step recover w 0 xs) no_more

  -- the whole is what is left at first
  pub text_at_first : (w : WorldState C) (es : List Event) → text_left step recover cfg w 0 es ≡ text_of cfg (lines_from step recover w es)
  unfolding settle
  text_at_first w es = refl

  pub room_at_first : (w : WorldState C) (es : List Event) → overflow_left step recover w 0 es ≡ run_overflow step recover w es
  unfolding settle settle_overflow
  room_at_first w es = refl

  -- ---- a settle that has begun, and another event

  pub settle_begins : (w : WorldState C) (n : ℕ) (e : Event) → Some n ≡ deliveries e
      → settle step n w ≡ applied step recover w e
  unfolding applied
  settle_begins w n (event.Single e) is = absurd (cc)
  settle_begins w n (event.Settle m) is = ap (λ (o : Option ℕ). settle step (or_zero o) w) is
    where
      or_zero : Option ℕ → ℕ
      or_zero None = 0
      or_zero (Some k) = k
  settle_begins w n (event.Crash x) is = absurd (cc)
  settle_begins w n (event.During x e keep) is = absurd (cc)

  -- of a settle the event's own line is written
  pub settle_text : (w : WorldState C) (n : ℕ) (e : Event) (before after : List ℕ) → Some n ≡ deliveries e
      → after ≡ before ++ printed_line cfg (line.Event e)
      → after ++ text_of cfg (settle step n w).1
      ≡ before ++ printed_line cfg (line.Event e) ++ text_of cfg (applied step recover w e).1
  settle_text w n e before after is adds =
      ap (λ (l : List ℕ). l ++ text_of cfg (settle step n w).1) adds
      ∙ ap (λ (r : Outcome C). before ++ printed_line cfg (line.Event e) ++ text_of cfg r.1) (settle_begins w n e is)

  -- of another one also its lines
  pub other_text : (u : WorldState C) (r : Outcome C) (e : Event) (lines : List Line) (before mid after : List ℕ)
      → (u, lines) ≡ onto [] r → mid ≡ before ++ printed_line cfg (line.Event e) → after ≡ mid ++ text_of cfg lines
      → after ++ text_of cfg (settle step 0 u).1 ≡ before ++ printed_line cfg (line.Event e) ++ text_of cfg r.1
  unfolding settle
  other_text u r e lines before mid after is own adds =
      append-nil after
      ∙ adds
      ∙ ap (λ (l : List ℕ). l ++ text_of cfg lines) own
      ∙ ap (λ (o : Outcome C). before ++ printed_line cfg (line.Event e) ++ text_of cfg o.1) is

  pub other_world : (u : WorldState C) (r : Outcome C) (lines : List Line) → (u, lines) ≡ onto [] r
      → (settle step 0 u).0 ≡ r.0
  unfolding settle
  other_world u r lines is = ap (λ (o : Outcome C). o.0) is

  pub room_begins : (w : WorldState C) (n : ℕ) (e : Event) → Some n ≡ deliveries e
      → settle_overflow step n w ≡ event_overflow step w e
  unfolding event_overflow
  room_begins w n (event.Single e) is = absurd (cc)
  room_begins w n (event.Settle m) is = ap (λ (o : Option ℕ). settle_overflow step (or_zero o) w) is
    where
      or_zero : Option ℕ → ℕ
      or_zero None = 0
      or_zero (Some k) = k
  room_begins w n (event.Crash x) is = absurd (cc)
  room_begins w n (event.During x e keep) is = absurd (cc)

pub steps_begin : (n : ℕ) (e : Event) → Some n ≡ deliveries e → n < steps_in e
steps_begin n (event.Single e) is = absurd (cc)
steps_begin n (event.Settle m) is = let same : n ≡ m = ap or_zero is in omega (arith, same)
  where
    or_zero : Option ℕ → ℕ
    or_zero None = 0
    or_zero (Some k) = k
steps_begin n (event.Crash x) is = absurd (cc)
steps_begin n (event.During x e keep) is = absurd (cc)

pub some_steps : (e : Event) → 0 < steps_in e
some_steps (event.Single e) = omega arith
some_steps (event.Settle n) = omega arith
some_steps (event.Crash x) = omega arith
some_steps (event.During x e keep) = omega arith

pub fewer_steps : (n m : ℕ) (e : Event) (es rest : List Event) → es ≡ e ∷ rest → m < steps_in e
    → m + all_steps rest < n + all_steps es
fewer_steps n m e es rest split less = let all = ap all_steps split in omega (arith, all, less)

pub drop_past : {X : Type 0} (xs : List X) (n : ℕ) → length xs ≤ n → drop n xs ≡ []
drop_past {X} [] zero le = refl
drop_past {X} [] (suc n) le = refl
drop_past {X} (x ∷ xs) zero le = absurd (omega (arith, le))
drop_past {X} (x ∷ xs) (suc n) le = drop_past xs n (omega (arith, le))
