-- A packet that left, and one that was dropped on its way.
use Rattle.std.proofs.Common.{◌≡◌, ◌∙◌, ℕ, Bool, true, false, List, [], ◌∷◌, Option, Some, None, Ok, Err, Result, refl, sym, ap}
use Rattle.std.specs.List.{flat_map}
use Rattle.wire_core.specs.declared.address.Ip4.{Ip4}
use Rattle.wire_core.specs.declared.cause.DropCause.{DropCause}
use Rattle.wire_core.specs.declared.note.Note.TheVariants.{Dropped}
use Rattle.wire_core.specs.declared.step.Step.{Step}
use Rattle.wire_core.specs.Steps.{with_note}
use Rattle.ipip.specs.Causes.{wrap_cause}
use Rattle.ipip.specs.Wrapping.{wrapped, wrap_fault}
use Rattle.ipip.specs.declared.wrapping.WrapFault.{WrapFault}
use Rattle.vip_config.specs.Serving.{agent_with}
use Rattle.vip_config.specs.declared.parts.ConfigParts.{ConfigParts}
use Rattle.node_spec.specs.Sends.{Send, ToRouter, Carries, carry, to_agent}
use Rattle.node_spec.specs.Steps.{outgoing, with_sends, turned}
use Rattle.node_spec.specs.Turns.{Turn, quiet, says, drop_turn, also}
use Rattle.node_spec.proofs.Turning.{onto_says, quiet_turned, then_turned, drop_turned}
use Rattle.agent_spec.specs.declared.connection.Connection.{Connection}
use Rattle.agent_spec.specs.Agent.{Traffic}
use Rattle.agent_spec.specs.Traffic.{goes, to_peer as turn_to_peer}
use Rattle.host_agent.specs.Seen.{as_is}
use Rattle.host_agent.specs.Leaving.{to_peer, leaves_by, sent_or_dropped}

no_true : false ≡ true → ⊥
no_true e = cc

no_false : true ≡ false → ⊥
no_false e = cc

-- what was sent, and then what comes after it
sent_then : (c : ConfigParts) (o p : Step) (t : Traffic) (xs : List Send) (then_on : Traffic → Turn Traffic) (after : Traffic × Step)
    → p ≡ with_sends (flat_map (outgoing c) xs) o → after ≡ turned as_is c p (then_on t)
    → after ≡ turned as_is c o (also (says t xs) then_on)
sent_then c o p t xs then_on after e a =
    then_turned as_is c o p t (says t xs) then_on after refl (e ∙ sym (onto_says c o t xs)) a

peer_left : (c : ConfigParts) (o p : Step) (t : Traffic) (x : Connection) (peer : Ip4) (q : List ℕ) (then_on : Traffic → Turn Traffic)
    (f : Option WrapFault) (left : Bool) (after : Traffic × Step)
    → (p, left) ≡ sent_or_dropped c o (to_peer c x peer q f) → left ≡ true → after ≡ turned as_is c p (then_on t)
    → after ≡ turned as_is c o (turn_to_peer c t x peer q then_on f)
peer_left c o p t x peer q then_on (Some fault) left after e is a = absurd (no_true (sym (ap (λ (y : Step × Bool). y.1) e) ∙ is))
peer_left c o p t x peer q then_on None left after e is a =
    sent_then c o p t (to_agent (agent_with c peer) (Carries (wrapped 0 x.machine peer q))) then_on after (ap (λ (y : Step × Bool). y.0) e) a

pub left_turned : (c : ConfigParts) (o p : Step) (t : Traffic) (x : Connection) (q : List ℕ) (then_on : Traffic → Turn Traffic)
    (to : Option Ip4) (left : Bool) (after : Traffic × Step)
    → (p, left) ≡ sent_or_dropped c o (leaves_by c x q to) → left ≡ true → after ≡ turned as_is c p (then_on t)
    → after ≡ turned as_is c o (goes c t x q then_on to)
left_turned c o p t x q then_on None left after e is a =
    sent_then c o p t (carry ToRouter q ∷ []) then_on after (ap (λ (y : Step × Bool). y.0) e) a
left_turned c o p t x q then_on (Some peer) left after e is a =
    peer_left c o p t x peer q then_on (wrap_fault 0 q) left after e is a

peer_dropped : (c : ConfigParts) (o p : Step) (t : Traffic) (x : Connection) (peer : Ip4) (q : List ℕ) (then_on : Traffic → Turn Traffic)
    (f : Option WrapFault) (left : Bool)
    → (p, left) ≡ sent_or_dropped c o (to_peer c x peer q f) → left ≡ false
    → (t, p) ≡ turned as_is c o (turn_to_peer c t x peer q then_on f)
peer_dropped c o p t x peer q then_on (Some fault) left e is =
    ap (λ (y : Step × Bool). (t, y.0)) e ∙ drop_turned as_is c o t (wrap_cause fault)
peer_dropped c o p t x peer q then_on None left e is = absurd (no_false (sym (ap (λ (y : Step × Bool). y.1) e) ∙ is))

pub dropped_turned : (c : ConfigParts) (o p : Step) (t : Traffic) (x : Connection) (q : List ℕ) (then_on : Traffic → Turn Traffic)
    (to : Option Ip4) (left : Bool)
    → (p, left) ≡ sent_or_dropped c o (leaves_by c x q to) → left ≡ false
    → (t, p) ≡ turned as_is c o (goes c t x q then_on to)
dropped_turned c o p t x q then_on None left e is = absurd (no_false (sym (ap (λ (y : Step × Bool). y.1) e) ∙ is))
dropped_turned c o p t x q then_on (Some peer) left e is = peer_dropped c o p t x peer q then_on (wrap_fault 0 q) left e is

-- a packet after which nothing comes
pub gone_turned : (c : ConfigParts) (o p : Step) (t : Traffic) (x : Connection) (q : List ℕ) (to : Option Ip4) (left : Bool)
    → (p, left) ≡ sent_or_dropped c o (leaves_by c x q to) → (t, p) ≡ turned as_is c o (goes c t x q quiet to)
gone_turned c o p t x q to true e = left_turned c o p t x q quiet to true (t, p) e refl (quiet_turned as_is c p t)
gone_turned c o p t x q to false e = dropped_turned c o p t x q quiet to false e refl
