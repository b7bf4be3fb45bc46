-- The acts that lines say.
use Rattle.std.proofs.Common.{◌≡◌, ◌∙◌, ℕ, ◌+◌, List, [], ◌∷◌, ◌++◌, refl, ap, append_assoc, append-nil}
use Rattle.std.specs.List.{flat_map}
use Rattle.std.proofs.lemmas.Grind.{flat_map-append}
use Rattle.wire_core.specs.declared.act.Act.{Act}
use Rattle.wire_core.specs.declared.note.Note.{Note}
use Rattle.wire_core.specs.declared.node.NodeId.{NodeId}
use Rattle.wire_core.specs.declared.outgoing.Outgoing.{Outgoing}
use Rattle.schedule_text.specs.declared.line.Line.{Line}
use Rattle.world_spec.specs.Steps.{act_lines, note_lines, sent_lines}
use Rattle.world_spec.specs.Transcript.{act_in, acts_in}

pub acts_append : (ls ms : List Line) → acts_in (ls ++ ms) ≡ acts_in ls ++ acts_in ms
unfolding acts_in
acts_append ls ms = flat_map-append act_in ls ms

pub acts_said : (acts : List Act) → acts_in (act_lines acts) ≡ acts
unfolding acts_in
acts_said [] = refl
acts_said (a ∷ acts) = ap (λ (xs : List Act). a ∷ xs) (acts_said acts)

notes_say_none : (notes : List Note) → acts_in (note_lines notes) ≡ []
unfolding acts_in
notes_say_none [] = refl
notes_say_none (n ∷ notes) = notes_say_none notes

sends_say_none : (x : NodeId) (n : ℕ) (sends : List Outgoing) → acts_in (sent_lines x n sends) ≡ []
unfolding acts_in
sends_say_none x n [] = refl
sends_say_none x n (s ∷ sends) = sends_say_none x (n + 1) sends

-- a turn's lines say its acts
pub turn_says : (x : NodeId) (n : ℕ) (acts : List Act) (notes : List Note) (sends : List Outgoing)
    → acts_in (act_lines acts ++ note_lines notes ++ sent_lines x n sends) ≡ acts
turn_says x n acts notes sends =
    acts_append (act_lines acts ++ note_lines notes) (sent_lines x n sends)
    ∙ ap (λ (xs : List Act). acts_in (act_lines acts ++ note_lines notes) ++ xs) (sends_say_none x n sends)
    ∙ append-nil _
    ∙ acts_append (act_lines acts) (note_lines notes)
    ∙ ap (λ (xs : List Act). acts_in (act_lines acts) ++ xs) (notes_say_none notes)
    ∙ append-nil _
    ∙ acts_said acts
