-- A packet is held, and a range asked for.
use Rattle.std.proofs.Common.{ℕ, List, Option, Some, ◌≡◌, ◌∙◌, refl, sym, ap}
use Rattle.vip_config.specs.declared.parts.ConfigParts.{ConfigParts}
use Rattle.wire_core.specs.declared.note.Note.TheVariants.{Queued}
use Rattle.wire_core.specs.declared.step.Step.{Step}
use Rattle.wire_core.specs.Steps.{with_note}
use Rattle.node_spec.specs.Turns.{note_turn}
use Rattle.node_spec.specs.Steps.{turned}
use Rattle.node_spec.proofs.Turning.{onto_note, then_turned}
use Rattle.agent_spec.specs.Agent.{Host}
use Rattle.agent_spec.specs.Packets.{ask_for, stays, enqueued, held_by}
use Rattle.host_agent.specs.Seen.{as_is}

pub held_turned : (c : ConfigParts) (boot hint now : ℕ) (o : Step) (h : Host) (p : List ℕ) (q : List (List ℕ)) (count : ℕ)
    (after : Host × Step)
    → (q, Some count) ≡ enqueued h.queue p
    → after ≡ turned as_is c (with_note (Queued h.machine count) o) (ask_for boot hint now (record h { queue = q }))
    → after ≡ turned as_is c o (stays boot hint now h p)
unfolding stays
held_turned c boot hint now o h p q count after enq asks =
    then_turned as_is c o (with_note (Queued h.machine count) o) (record h { queue = q })
    (note_turn (record h { queue = q }) (Queued h.machine count)) (ask_for boot hint now) after refl
    (sym (onto_note c o (record h { queue = q }) (Queued h.machine count))) asks
    ∙ ap (λ (x : List (List ℕ) × Option ℕ). turned as_is c o (held_by boot hint now h x)) enq
