-- Messages to the muxes that aren't silent, and the room that is left.
use Rattle.std.proofs.Common.{◌≡◌, refl, ◌∙◌, sym, ap, ℕ, ◌+◌, ◌-◌, Bool, true, false, List, [], ◌∷◌, ◌++◌, filter, length, take, append-nil, append_assoc, arith}
use Rattle.std.specs.List.{flat_map}
use Rattle.std.proofs.lemmas.List.{length-append}
use Rattle.node_spec.specs.Sends.{Send}
use Rattle.wire_core.specs.declared.step.Step.{Step}
use Rattle.vip_config.specs.declared.parts.ConfigParts.{ConfigParts}
use Rattle.node_spec.specs.Steps.{outgoing, with_sends}
use Rattle.manager_log.proofs.TurnLaws.{pushed_next}
use Rattle.manager_spec.specs.declared.peer.Peer.{Peer}

near_by : (f : Peer → List Send) (p : Peer → Bool) (x : Peer) (xs : List Peer) (b : Bool) → p x ≡ b
    → flat_map f (filter p (x ∷ xs)) ≡ flat_map f (filter p (x ∷ [])) ++ flat_map f (filter p xs)
near_by f p x xs true e = rw (e, append-nil (f x)) refl
near_by f p x xs false e = rw e refl

pub near_next : (f : Peer → List Send) (p : Peer → Bool) (x : Peer) (xs : List Peer)
    → flat_map f (filter p (x ∷ xs)) ≡ flat_map f (filter p (x ∷ [])) ++ flat_map f (filter p xs)
near_next f p x xs = near_by f p x xs _ refl

pub room_more : (n : ℕ) (xs ys : List Send) → n - length (xs ++ ys) ≡ n - length xs - length ys
room_more n xs ys = let long : length (xs ++ ys) ≡ length xs + length ys = length-append xs ys in omega arith

-- what is said to one mux, and then to the rest
pub push_on : (c : ConfigParts) (f : Peer → List Send) (p : Peer → Bool) (x : Peer) (rest : List Peer) (n left : ℕ) (o out : Step)
    → out ≡ with_sends (flat_map (outgoing c) (take n (flat_map f (filter p (x ∷ []))))) o
    → left ≡ n - length (flat_map f (filter p (x ∷ [])))
    → with_sends (flat_map (outgoing c) (take left (flat_map f (filter p rest)))) out
    ≡ with_sends (flat_map (outgoing c) (take n (flat_map f (filter p (x ∷ rest))))) o
push_on c f p x rest n left o out e l = rw (e, l) (pushed_next c o n (flat_map f (filter p (x ∷ []))) (flat_map f (filter p rest))
    ∙ ap (λ (zs : List Send). with_sends (flat_map (outgoing c) (take n zs)) o) (sym (near_next f p x rest)))

pub room_on : (f : Peer → List Send) (p : Peer → Bool) (x : Peer) (rest : List Peer) (n left : ℕ)
    → left ≡ n - length (flat_map f (filter p (x ∷ [])))
    → left - length (flat_map f (filter p rest)) ≡ n - length (flat_map f (filter p (x ∷ rest)))
room_on f p x rest n left l = rw l (sym (room_more n (flat_map f (filter p (x ∷ []))) (flat_map f (filter p rest)))
    ∙ ap (λ (zs : List Send). n - length zs) (sym (near_next f p x rest)))
