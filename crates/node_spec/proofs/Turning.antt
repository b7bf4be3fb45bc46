-- A turn after the step so far, piece by piece: what the proofs of handlers cite.
use Rattle.std.proofs.Common.{ℕ, true, List, [], ◌∷◌, ◌++◌, Option, Some, None, option_map, ◌≡◌, ◌∙◌, refl, sym, ap}
use Rattle.std.proofs.Common.{append_assoc, append-nil}
use Rattle.std.specs.List.{flat_map}
use Rattle.wire_core.specs.declared.cause.DropCause.{DropCause}
use Rattle.wire_core.specs.declared.entry.Entry.{Entry}
use Rattle.vip_config.specs.declared.parts.ConfigParts.{ConfigParts}
use Rattle.wire_core.specs.declared.act.Act.{Act}
use Rattle.wire_core.specs.declared.note.Note.{Note}
use Rattle.wire_core.specs.declared.note.Note.TheVariants.{Dropped}
use Rattle.wire_core.specs.declared.outgoing.Outgoing.{Outgoing}
use Rattle.wire_core.specs.declared.step.Step.{Step}
use Rattle.node_spec.specs.Sends.{Send}
use Rattle.node_spec.specs.Turns.{Turn, quiet, drop_turn, act_turn, note_turn, says, also, lifted}
use Rattle.wire_core.specs.Steps.{first_of, with_act, with_note}
use Rattle.node_spec.specs.Steps.{outgoing, body_of, with_sends, onto, turned, tried}

-- ---- on lists

pub flat_append : {A B : Type 0} (f : A → List B) (xs ys : List A)
    → flat_map f (xs ++ ys) ≡ flat_map f xs ++ flat_map f ys
flat_append f [] ys = refl
flat_append f (x ∷ xs) ys = rw (flat_append f xs ys, append_assoc (f x) (flat_map f xs) (flat_map f ys)) refl

first_first : (e : Option (List ℕ)) (f g : Option Entry)
    → first_of (first_of e (option_map body_of f)) (option_map body_of g)
    ≡ first_of e (option_map body_of (first_of f g))
first_first (Some x) f g = refl
first_first None (Some x) g = refl
first_first None None g = refl

first_none : {X : Type 0} (e : Option X) → first_of e None ≡ e
first_none None = refl
first_none (Some x) = refl

-- ---- the step alone

pub onto_quiet : {S : Type 0} (c : ConfigParts) (o : Step) (s : S) → onto c o (quiet s) ≡ o
unfolding onto
onto_quiet c o s = rw (first_none o.entry, append-nil o.acts, append-nil o.notes, append-nil o.sends) refl

pub onto_act : {S : Type 0} (c : ConfigParts) (o : Step) (s : S) (a : Act) → onto c o (act_turn s a) ≡ with_act a o
unfolding onto
onto_act c o s a = rw (first_none o.entry, append-nil o.notes, append-nil o.sends) refl

pub onto_note : {S : Type 0} (c : ConfigParts) (o : Step) (s : S) (n : Note) → onto c o (note_turn s n) ≡ with_note n o
unfolding onto
onto_note c o s n = rw (first_none o.entry, append-nil o.acts, append-nil o.sends) refl

pub onto_drop : {S : Type 0} (c : ConfigParts) (o : Step) (s : S) (cause : DropCause)
    → onto c o (drop_turn s cause) ≡ with_note (Dropped cause) o
onto_drop c o s cause = onto_note c o s (Dropped cause)

pub onto_says : {S : Type 0} (c : ConfigParts) (o : Step) (s : S) (xs : List Send)
    → onto c o (says s xs) ≡ with_sends (flat_map (outgoing c) xs) o
unfolding onto
onto_says c o s xs = rw (first_none o.entry, append-nil o.acts, append-nil o.notes) refl

-- a turn, and then what comes after it
pub onto_also : {S : Type 0} (c : ConfigParts) (o : Step) (t : Turn S) (f : S → Turn S)
    → onto c (onto c o t) (f t.state) ≡ onto c o (also t f)
unfolding onto
onto_also c o t f = rw (
  first_first o.entry t.entry (f t.state).entry,
  append_assoc o.acts t.acts (f t.state).acts,
  append_assoc o.notes t.notes (f t.state).notes,
  flat_append (outgoing c) t.sends (f t.state).sends,
  append_assoc o.sends (flat_map (outgoing c) t.sends) (flat_map (outgoing c) (f t.state).sends),
) refl

pub onto_lifted : {P S : Type 0} (c : ConfigParts) (o : Step) (whole : P → S) (t : Turn P)
    → onto c o (lifted whole t) ≡ onto c o t
unfolding onto
onto_lifted c o whole t = refl

-- ---- the lists and the step

pub quiet_turned : {S K : Type 0} (keep : S → K) (c : ConfigParts) (o : Step) (s : S)
    → (keep s, o) ≡ turned keep c o (quiet s)
unfolding turned
quiet_turned keep c o s = ap (λ (x : Step). (keep s, x)) (sym (onto_quiet c o s))

pub act_turned : {S K : Type 0} (keep : S → K) (c : ConfigParts) (o : Step) (s : S) (a : Act)
    → (keep s, with_act a o) ≡ turned keep c o (act_turn s a)
unfolding turned
act_turned keep c o s a = ap (λ (x : Step). (keep s, x)) (sym (onto_act c o s a))

pub noted_turned : {S K : Type 0} (keep : S → K) (c : ConfigParts) (o : Step) (s : S) (n : Note)
    → (keep s, with_note n o) ≡ turned keep c o (note_turn s n)
unfolding turned
noted_turned keep c o s n = ap (λ (x : Step). (keep s, x)) (sym (onto_note c o s n))

pub drop_turned : {S K : Type 0} (keep : S → K) (c : ConfigParts) (o : Step) (s : S) (cause : DropCause)
    → (keep s, with_note (Dropped cause) o) ≡ turned keep c o (drop_turn s cause)
drop_turned keep c o s cause = noted_turned keep c o s (Dropped cause)

pub says_turned : {S K : Type 0} (keep : S → K) (c : ConfigParts) (o : Step) (s : S) (xs : List Send)
    → (keep s, with_sends (flat_map (outgoing c) xs) o) ≡ turned keep c o (says s xs)
unfolding turned
says_turned keep c o s xs = ap (λ (x : Step). (keep s, x)) (sym (onto_says c o s xs))

-- one datagram
pub send_turned : {S K : Type 0} (keep : S → K) (c : ConfigParts) (o : Step) (s : S) (x : Send)
    → (keep s, with_sends (outgoing c x) o) ≡ turned keep c o (says s (x ∷ []))
unfolding turned
send_turned keep c o s x =
    ap (λ (ys : List Outgoing). (keep s, with_sends ys o)) (sym (append-nil (outgoing c x)))
    ∙ says_turned keep c o s (x ∷ [])

pub also_turned : {S K : Type 0} (keep : S → K) (c : ConfigParts) (o : Step) (t : Turn S) (f : S → Turn S)
    → turned keep c (onto c o t) (f t.state) ≡ turned keep c o (also t f)
unfolding turned
also_turned keep c o t f = ap (λ (x : Step). (keep (f t.state).state, x)) (onto_also c o t f)

-- a turn that came to this, and then what comes after it
pub then_turned : {S K : Type 0} (keep : S → K) (c : ConfigParts) (o p : Step) (u : S) (t : Turn S) (f : S → Turn S)
    (after : K × Step) → u ≡ t.state → p ≡ onto c o t → after ≡ turned keep c p (f u)
    → after ≡ turned keep c o (also t f)
then_turned keep c o p u t f after here so_far e =
    e ∙ ap (λ (x : Step). turned keep c x (f u)) so_far
    ∙ ap (λ x. turned keep c (onto c o t) (f x)) here
    ∙ also_turned keep c o t f

-- the same, of a turn that came
pub some_tried : {S K : Type 0} (keep : S → K) (c : ConfigParts) (o p : Step) (old u : K) (t : Turn S)
    → (u, p) ≡ turned keep c o t → (u, (p, true)) ≡ tried keep c o old (Some t)
unfolding turned tried
some_tried {S = S} {K = K} keep c o p old u t e = ap (λ (x : K × Step). (x.0, (x.1, true))) e
