-- Turns that may not come.
use Rattle.std.proofs.Common.{◌≡◌, true, Some, ap}
use Rattle.vip_config.specs.declared.parts.ConfigParts.{ConfigParts}
use Rattle.wire_core.specs.declared.cause.DropCause.{DropCause}
use Rattle.wire_core.specs.declared.note.Note.TheVariants.{Dropped}
use Rattle.wire_core.specs.declared.step.Step.{Step}
use Rattle.wire_core.specs.Steps.{with_note}
use Rattle.node_spec.specs.Turns.{Turn, quiet, also, drop_turn}
use Rattle.node_spec.specs.Steps.{turned, tried}
use Rattle.node_spec.proofs.Turning.{some_tried, then_turned, quiet_turned, drop_turned}
use Rattle.host_agent.specs.Seen.{as_is}

-- a drop
pub drop_tried : {S : Type 0} (c : ConfigParts) (o : Step) (s : S) (cause : DropCause)
    → (s, (with_note (Dropped cause) o, true)) ≡ tried as_is c o s (Some (drop_turn s cause))
drop_tried c o s cause =
    some_tried as_is c o (with_note (Dropped cause) o) s s (drop_turn s cause) (drop_turned as_is c o s cause)

-- nothing
pub quiet_tried : {S : Type 0} (c : ConfigParts) (o : Step) (s : S) → (s, (o, true)) ≡ tried as_is c o s (Some (quiet s))
quiet_tried c o s = some_tried as_is c o o s s (quiet s) (quiet_turned as_is c o s)

-- two turns, one after the other
pub both_turned : {S : Type 0} (c : ConfigParts) (o p q : Step) (u v : S) (t : Turn S) (f : S → Turn S)
    → (u, p) ≡ turned as_is c o t → (v, q) ≡ turned as_is c p (f u) → (v, q) ≡ turned as_is c o (also t f)
unfolding turned
both_turned {S = S} c o p q u v t f first second =
    then_turned as_is c o p u t f (v, q) (ap (λ (x : S × Step). x.0) first) (ap (λ (x : S × Step). x.1) first) second

-- the same, of turns that came
pub both_tried : {S : Type 0} (c : ConfigParts) (o p q : Step) (old u v : S) (t : Turn S) (f : S → Turn S)
    → (u, p) ≡ turned as_is c o t → (v, q) ≡ turned as_is c p (f u)
    → (v, (q, true)) ≡ tried as_is c o old (Some (also t f))
both_tried c o p q old u v t f first second =
    some_tried as_is c o q old v (also t f) (both_turned c o p q u v t f first second)
