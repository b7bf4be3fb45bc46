-- A machine's packet: it left, or it is held.
use Rattle.std.proofs.Common.{◌≡◌, ◌∙◌, ℕ, Bool, true, false, List, Option, Some, None, refl, sym, ap}
use Rattle.vip_config.specs.declared.parts.ConfigParts.{ConfigParts}
use Rattle.wire_core.specs.declared.step.Step.{Step}
use Rattle.node_spec.specs.Turns.{Turn, lifted}
use Rattle.node_spec.specs.Steps.{onto, turned, tried}
use Rattle.agent_spec.specs.Agent.{Host, Site, Traffic, of_traffic, of_host}
use Rattle.agent_spec.specs.Packets.{or_stays, stays}
use Rattle.host_agent.specs.Seen.{as_is, site}

no_true : false ≡ true → ⊥
no_true e = cc

no_false : true ≡ false → ⊥
no_false e = cc

-- a turn of the traffic is one of machine and traffic
pub traffic_turned : (c : ConfigParts) (o p : Step) (u : Traffic) (s : Site) (t : Turn Traffic)
    → (u, p) ≡ turned as_is c o t → (site u s.host, p) ≡ turned as_is c o (of_traffic s t)
unfolding turned onto
traffic_turned c o p u s t e = ap (λ (x : Traffic × Step). (site x.0 s.host, x.1)) e

-- a turn of the machine, likewise
pub host_turned : (c : ConfigParts) (o p : Step) (h : Host) (s : Site) (t : Turn Host)
    → (h, p) ≡ turned as_is c o t → (site s.traffic h, p) ≡ turned as_is c o (of_host s t)
unfolding turned onto
host_turned c o p h s t e = ap (λ (x : Host × Step). (site s.traffic x.0, x.1)) e

pub left_packet : (c : ConfigParts) (boot hint : ℕ) (o p : Step) (t u : Traffic) (h : Host) (bytes : List ℕ)
    (r : Option (Turn Traffic)) (left : Bool)
    → (u, (p, left)) ≡ tried as_is c o t r → left ≡ true
    → (site u h, p) ≡ turned as_is c o (or_stays boot hint (site t h) bytes r)
unfolding tried turned onto
left_packet c boot hint o p t u h bytes None left e is =
    absurd (no_true (sym (ap (λ (x : Traffic × (Step × Bool)). x.1.1) e) ∙ is))
left_packet c boot hint o p t u h bytes (Some r) left e is =
    ap (λ (x : Traffic × (Step × Bool)). (site x.0 h, x.1.0)) e

pub stayed_packet : (c : ConfigParts) (boot hint : ℕ) (o p q : Step) (t u : Traffic) (h g : Host) (bytes : List ℕ)
    (r : Option (Turn Traffic)) (left : Bool)
    → (u, (p, left)) ≡ tried as_is c o t r → left ≡ false
    → (g, q) ≡ turned as_is c p (stays boot hint u.time h bytes)
    → (site u g, q) ≡ turned as_is c o (or_stays boot hint (site t h) bytes r)
unfolding tried turned onto
stayed_packet c boot hint o p q t u h g bytes (Some r) left e is s =
    absurd (no_false (sym (ap (λ (x : Traffic × (Step × Bool)). x.1.1) e) ∙ is))
stayed_packet c boot hint o p q t u h g bytes None left e is s =
    let made : Traffic × Step → Site × Step = λ y.
    (site y.0 (stays boot hint y.0.time h bytes).state, onto c y.1 (stays boot hint y.0.time h bytes)) in
    ap (λ (x : Host × Step). (site u x.0, x.1)) s
    ∙ ap made (ap (λ (x : Traffic × (Step × Bool)). (x.0, x.1.0)) e)
