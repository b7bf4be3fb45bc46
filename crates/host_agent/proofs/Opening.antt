-- A new connection has keys that no other has.
use Rattle.std.proofs.Common.{◌≡◌, ◌∙◌, ℕ, Bool, true, false, not, List, [], ◌∷◌, find, cond, Option, Some, None}
use Rattle.std.proofs.Common.{refl, sym, ap}
use Rattle.std.specs.Prelude.{is_some}
use Rattle.wire_core.specs.declared.address.Ip4.{Ip4}
use Rattle.wire_core.specs.declared.flow.FlowKey.{FlowKey}
use Rattle.agent_spec.specs.declared.connection.Connection.{Connection}
use Rattle.agent_spec.specs.Connections.{private_key, public_key, by_private, by_public}
use Rattle.agent_spec.specs.Packets.{is_used, new_connection}
use Rattle.agent_spec.specs.Ranges.{first_unused}

new_private : (now : ℕ) (key : FlowKey) (vip : Ip4) (chosen : ℕ × ℕ)
    → private_key (new_connection now key vip chosen) ≡ key
unfolding private_key
new_private now key vip chosen = refl

pub private_free : (now : ℕ) (key : FlowKey) (vip : Ip4) (chosen : ℕ × ℕ) (cs : List Connection)
    → by_private key cs ≡ None → by_private (private_key (new_connection now key vip chosen)) cs ≡ None
private_free now key vip chosen cs e =
    ap (λ (k : FlowKey). by_private k cs) (new_private now key vip chosen) ∙ e

unused_passes : (used : ℕ → Bool) (ps : List (ℕ × ℕ)) (chosen : ℕ × ℕ)
    → first_unused used ps ≡ Some chosen → used chosen.1 ≡ false
unused_passes used [] chosen e = absurd (cc)
unused_passes used (p ∷ ps) chosen e = by (used p.1) refl (unused_passes used ps chosen) e
  where
    same : (a b : ℕ × ℕ) → Some a ≡ Some b → a ≡ b
    same a b e = cc

    by : (b : Bool) → used p.1 ≡ b → (first_unused used ps ≡ Some chosen → used chosen.1 ≡ false)
        → cond (not b) (Some p) (first_unused used ps) ≡ Some chosen → used chosen.1 ≡ false
    by true is more e = more e
    by false is more e = ap (λ (x : ℕ × ℕ). used x.1) (sym (same p chosen e)) ∙ is

none_is : (o : Option Connection) → is_some o ≡ false → o ≡ None
none_is None e = refl
none_is (Some c) e = absurd (cc)

pub public_free : (now : ℕ) (key : FlowKey) (vip : Ip4) (chosen : ℕ × ℕ) (ports : List (ℕ × ℕ)) (cs : List Connection)
    → Some chosen ≡ first_unused (is_used cs key vip) ports
    → by_public (public_key (new_connection now key vip chosen)) cs ≡ None
unfolding public_key
public_free now key vip chosen ports cs e = none_is _ (unused_passes (is_used cs key vip) ports chosen (sym e))
