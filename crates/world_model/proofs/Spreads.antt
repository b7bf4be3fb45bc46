-- One datagram after another.
use Rattle.std.proofs.Common.{◌≡◌, ℕ, ◌+◌, List, [], ◌∷◌, ◌++◌, length, map, Option, Some, None, refl, sym, ap, ◌∙◌, append_assoc, append-nil, arith}
use Rattle.std.proofs.lemmas.List.{map-append}
use Rattle.wire_core.specs.declared.act.Act.{Act}
use Rattle.wire_core.specs.declared.note.Note.{Note}
use Rattle.wire_core.specs.declared.node.NodeId.{NodeId}
use Rattle.wire_core.specs.declared.outgoing.Outgoing.{Outgoing}
use Rattle.vip_config.specs.declared.parts.ConfigParts.{ConfigParts}
use Rattle.schedule_text.specs.declared.line.Line.{Line}
use Rattle.schedule_text.specs.declared.line.Line.TheVariants as line
use Rattle.world_spec.specs.Steps.{act_lines, note_lines, sent_lines}
use Rattle.world_mail.specs.Mails.{MailState, untaken, with_posted}
use Rattle.world_model.specs.World.{cut_mail, posted_by}
use Rattle.world_nodes.specs.declared.stepped.Stepped.{Stepped}

sent_lines_more : (x : NodeId) (n : ℕ) (xs : List Outgoing) (s : Outgoing)
    → sent_lines x n (xs ++ s ∷ []) ≡ sent_lines x n xs ++ line.Sent (n + length xs + 1) x s.to s.bytes ∷ []
sent_lines_more x n [] s = ap (λ (k : ℕ). line.Sent (k + 1) x s.to s.bytes ∷ []) (plus_zero n)
  where
    plus_zero : (n : ℕ) → n ≡ n + 0
    plus_zero n = omega arith
sent_lines_more x n (y ∷ ys) s =
    let e : n + 1 + length ys + 1 ≡ n + length (y ∷ ys) + 1 = omega arith in
    ap (λ (l : List Line). line.Sent (n + 1) x y.to y.bytes ∷ l)
    (sent_lines_more x (n + 1) ys s
    ∙ ap (λ (k : ℕ). sent_lines x (n + 1) ys ++ line.Sent k x s.to s.bytes ∷ []) e)

pub sent_lines_next : (before : List Line) (x : NodeId) (n : ℕ) (xs : List Outgoing) (s : Outgoing) (k : ℕ)
    → k ≡ n + length xs + 1
    → (before ++ sent_lines x n xs) ++ line.Sent k x s.to s.bytes ∷ [] ≡ before ++ sent_lines x n (xs ++ s ∷ [])
sent_lines_next before x n xs s k is =
    append_assoc before (sent_lines x n xs) _
    ∙ ap (λ (l : List Line). before ++ l)
    (ap (λ (j : ℕ). sent_lines x n xs ++ line.Sent j x s.to s.bytes ∷ []) is ∙ sym (sent_lines_more x n xs s))

pub posted_none : (m : MailState) → m ≡ with_posted m []
posted_none m = rw (append-nil m.posted, append-nil m.taken) refl

pub posted_next : (m : MailState) (cfg : ConfigParts) (x : NodeId) (xs : List Outgoing) (s : Outgoing)
    → with_posted (with_posted m (map (posted_by cfg x) xs)) (posted_by cfg x s ∷ [])
    ≡ with_posted m (map (posted_by cfg x) (xs ++ s ∷ []))
posted_next m cfg x xs s =
    rw (
      map-append (posted_by cfg x) xs (s ∷ []),
      map-append untaken (map (posted_by cfg x) xs) (posted_by cfg x s ∷ []),
      append_assoc m.posted (map (posted_by cfg x) xs) (posted_by cfg x s ∷ []),
      append_assoc m.taken (map untaken (map (posted_by cfg x) xs)) (untaken (posted_by cfg x s) ∷ []),
    ) refl

-- the lines of some acts and of others
pub lines_of_both : (before : List Line) (xs ys : List Act)
    → (before ++ act_lines xs) ++ act_lines ys ≡ before ++ act_lines (xs ++ ys)
lines_of_both before xs ys =
    append_assoc before (act_lines xs) (act_lines ys)
    ∙ ap (λ (l : List Line). before ++ l) (sym (map-append line.Act xs ys))

-- the datagrams where nothing is taken
pub kept_mail : (m : MailState) (o : Option Stepped) → m ≡ cut_mail m m o
kept_mail m None = refl
kept_mail m (Some t) = refl

-- one act or note more
pub acts_next : (before : List Line) (xs : List Act) (a : Act)
    → (before ++ act_lines xs) ++ line.Act a ∷ [] ≡ before ++ act_lines (xs ++ a ∷ [])
acts_next before xs a = lines_of_both before xs (a ∷ [])

pub notes_next : (before : List Line) (xs : List Note) (n : Note)
    → (before ++ note_lines xs) ++ line.Note n ∷ [] ≡ before ++ note_lines (xs ++ n ∷ [])
notes_next before xs n =
    append_assoc before (note_lines xs) (line.Note n ∷ [])
    ∙ ap (λ (l : List Line). before ++ l) (sym (map-append line.Note xs (n ∷ [])))
