-- Held packets that run through the rows again.
use Rattle.std.proofs.Common.{◌≡◌, ◌∙◌, ℕ, ◌+◌, ◌≤◌, Bool, true, false, List, [], ◌∷◌, ◌++◌, drop, slice_get, length}
use Rattle.std.proofs.Common.{Option, Some, None, Result, Ok, Err, refl, sym, ap}
use Rattle.packet_spec.specs.declared.fault.PacketFault.{PacketFault}
use Rattle.packet_spec.specs.Packets.{read_packet}
use Rattle.vip_config.specs.declared.parts.ConfigParts.{ConfigParts}
use Rattle.wire_core.specs.declared.act.Act.TheVariants.{Hold}
use Rattle.wire_core.specs.declared.step.Step.{Step}
use Rattle.wire_core.specs.Steps.{with_act}
use Rattle.node_spec.specs.Turns.{Turn, quiet, act_turn, also, each}
use Rattle.node_spec.specs.Steps.{onto, turned, tried}
use Rattle.node_spec.proofs.Turning.{quiet_turned, act_turned, also_turned}
use Rattle.agent_spec.specs.Agent.{Host, Site, Traffic}
use Rattle.agent_spec.specs.Answers.{again, ask_left, begun, or_waits, retry, take_grant}
use Rattle.agent_spec.specs.Packets.{try_packet, with_packet}
use Rattle.host_agent.specs.Retries.{may_leave}
use Rattle.host_agent.specs.Seen.{as_is, site}
use Rattle.host_agent.proofs.Tries.{both_turned}

no_true : false ≡ true → ⊥
no_true e = cc

no_false : true ≡ false → ⊥
no_false e = cc

left_waits : (c : ConfigParts) (o p : Step) (t u : Traffic) (h : Host) (q : List ℕ) (r : Option (Turn Traffic)) (left : Bool)
    → (u, (p, left)) ≡ tried as_is c o t r → left ≡ true → (site u h, p) ≡ turned as_is c o (or_waits (site t h) q r)
unfolding tried turned onto
left_waits c o p t u h q None left e is = absurd (no_true (sym (ap (λ (x : Traffic × (Step × Bool)). x.1.1) e) ∙ is))
left_waits c o p t u h q (Some r) left e is = ap (λ (x : Traffic × (Step × Bool)). (site x.0 h, x.1.0)) e

-- a held packet that left, or was dropped
pub left_again : (c : ConfigParts) (o p : Step) (t u : Traffic) (h : Host) (r : Result (List ℕ) PacketFault) (left : Bool)
    → (u, (p, left)) ≡ tried as_is c o t (may_leave c t r) → left ≡ true
    → (site u h, p) ≡ turned as_is c o (again c (site t h) r)
unfolding tried turned onto
left_again c o p t u h (Err fault) left e is = ap (λ (x : Traffic × (Step × Bool)). (site x.0 h, x.1.0)) e
left_again c o p t u h (Ok q) left e is = left_waits c o p t u h q (try_packet c t q) left e is

waits_still : (c : ConfigParts) (o p : Step) (t u : Traffic) (h : Host) (q : List ℕ) (r : Option (Turn Traffic)) (left : Bool)
    → (u, (p, left)) ≡ tried as_is c o t r → left ≡ false
    → (site u (with_packet h q), p) ≡ turned as_is c o (or_waits (site t h) q r)
unfolding tried
waits_still c o p t u h q (Some r) left e is =
    absurd (no_false (sym (ap (λ (x : Traffic × (Step × Bool)). x.1.1) e) ∙ is))
waits_still c o p t u h q None left e is =
    ap (λ (x : Traffic × (Step × Bool)). (site x.0 (with_packet h q), x.1.0)) e
    ∙ quiet_turned as_is c o (site t (with_packet h q))

-- one for which there is no port still
pub waits_again : (c : ConfigParts) (o p : Step) (t u : Traffic) (h : Host) (q : List ℕ) (left : Bool)
    → (u, (p, left)) ≡ tried as_is c o t (may_leave c t (Ok q)) → left ≡ false
    → (site u (with_packet h q), p) ≡ turned as_is c o (again c (site t h) (Ok q))
waits_again c o p t u h q left e is = waits_still c o p t u h q (try_packet c t q) left e is

-- the first of those that wait
pub first_is : (ws : List (List ℕ)) (b : List ℕ) → Some b ≡ slice_get ws 0 → ws ≡ b ∷ drop 1 ws
first_is [] b e = absurd (cc)
first_is (w ∷ ws) b e = ap (λ (x : List ℕ). x ∷ ws) (same w b (sym e))
  where
    same : (x y : List ℕ) → Some x ≡ Some y → x ≡ y
    same x y e = cc

pub none_wait : (ws : List (List ℕ)) → None ≡ slice_get ws 0 → ws ≡ []
none_wait [] e = refl
none_wait (w ∷ ws) e = absurd (cc)

-- one more is tried
pub each_next : {S X : Type 0} (c : ConfigParts) (f : X → S → Turn S) (o p : Step) (x : X) (ws xs : List X) (s u : S)
    → ws ≡ x ∷ xs → (u, p) ≡ turned as_is c o (f x s)
    → turned as_is c p (each f xs u) ≡ turned as_is c o (each f ws s)
unfolding each turned
each_next {S = S} c f o p x ws xs s u are e =
    ap (λ (y : S × Step). turned as_is c y.1 (each f xs y.0)) e
    ∙ also_turned as_is c o (f x s) (each f xs)
    ∙ ap (λ ys. turned as_is c o (each f ys s)) (sym are)

-- no more is left
pub each_done : {S X : Type 0} (c : ConfigParts) (f : X → S → Turn S) (o : Step) (ws : List X) (s : S)
    → ws ≡ [] → (s, o) ≡ turned as_is c o (each f ws s)
unfolding each
each_done c f o ws s are = quiet_turned as_is c o s ∙ ap (λ ys. turned as_is c o (each f ys s)) (sym are)

-- the act, the held packets, and the ask
pub grant_turned : (c : ConfigParts) (boot hint seq n : ℕ) (o p q : Step) (s u v : Site)
    → (u, p) ≡ turned as_is c (with_act (Hold n) o) (each (retry c) s.host.queue (begun s seq))
    → (v, q) ≡ turned as_is c p (ask_left boot hint u)
    → (v, q) ≡ turned as_is c o (take_grant c boot hint s seq n)
unfolding take_grant
grant_turned c boot hint seq n o p q s u v tried_each asks =
    both_turned c o p q u v (also (act_turn (begun s seq) (Hold n)) (each (retry c) s.host.queue)) (ask_left boot hint)
    (both_turned c o (with_act (Hold n) o) p (begun s seq) u (act_turn (begun s seq) (Hold n)) (each (retry c) s.host.queue)
    (act_turned as_is c o (begun s seq) (Hold n)) tried_each)
    asks
