-- Turns of a command, as the code adds them to its step, and the entry of a step.
use Rattle.std.proofs.Common.{◌≡◌, ◌++◌, List, [], ◌∷◌, Option, Some, None, option_map, refl, ap, append-nil}
use Rattle.std.specs.List.{flat_map}
use Rattle.std.specs.Prelude.{IfSome}
use Rattle.wire_core.specs.declared.cause.DropCause.{DropCause}
use Rattle.wire_core.specs.declared.entry.Entry.{Entry}
use Rattle.wire_core.specs.declared.note.Note.TheVariants.{Dropped}
use Rattle.wire_core.specs.declared.step.Step.{Step}
use Rattle.wire_core.specs.Steps.{first_of, no_step, with_entry, with_note}
use Rattle.vip_config.specs.declared.parts.ConfigParts.{ConfigParts}
use Rattle.node_spec.specs.Arriving.{IsInBytes}
use Rattle.node_spec.specs.Bodies.{Spells}
use Rattle.node_spec.specs.Sends.{Send}
use Rattle.node_spec.specs.Steps.{body_of, onto, outgoing, turned, with_sends}
use Rattle.node_spec.specs.Turns.{Input, Turn, drop_turn, writes}
use Rattle.node_spec.proofs.Spelled.{turned_spells}
use Rattle.mux_spec.specs.MuxTable.{mux_step}
use Rattle.mux_spec.proofs.Written.{step_writes}
use Rattle.mux_core.specs.Seen.{Core, with_lists}

first_none : {X : Type 0} (e : Option X) → first_of e None ≡ e
first_none None = refl
first_none (Some x) = refl

first_stays : {X : Type 0} (e : Option X) (x : X) (other : Option X) → first_of (first_of e (Some x)) other ≡ first_of e (Some x)
first_stays None x other = refl
first_stays (Some y) x other = refl

-- a refusal is said, and the command is dropped
pub refused_turned : {S K : Type 0} (keep : S → K) (c : ConfigParts) (o : Step) (s : S) (cause : DropCause) (x : Send)
    → (keep s, with_note (Dropped cause) (with_sends (outgoing c x) o))
    ≡ turned keep c o (record (drop_turn s cause) { sends = x ∷ [] })
unfolding turned onto
refused_turned keep c o s cause x = rw (first_none o.entry, append-nil o.acts, append-nil (outgoing c x)) refl

-- an entry is written, and then comes the turn
pub raised_turned : {S K : Type 0} (keep : S → K) (c : ConfigParts) (o : Step) (e : Entry) (t : Turn S)
    → turned keep c (with_entry (Some (body_of e)) o) t ≡ turned keep c o (writes e t)
unfolding turned onto
raised_turned keep c o e t = rw (first_stays o.entry (body_of e) (option_map body_of t.entry)) refl

-- a step spells the entry of its turn
pub step_spells : (m new : Core) (x : Input) (s : Step) → IsInBytes x
    → (new, s) ≡ turned (with_lists m) m.config no_step (mux_step m.config m.lists x)
    → Spells s.entry (mux_step m.config m.lists x).entry
step_spells m new x s is e =
    turned_spells (with_lists m) m.config (mux_step m.config m.lists x) (new, s) e (step_writes m.config m.lists x is)
