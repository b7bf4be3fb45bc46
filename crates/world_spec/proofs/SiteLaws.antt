-- Reading a node after it was written.
use Rattle.std.proofs.Common.{◌≡◌, ◌≢◌, ◌==◌, ◌⊎◌, inl, inr, ℕ, ◌<◌, ◌≤◌, true, nat_lt, List, length, Some, None, refl, ap, arith, get_or-set_same, get_or-set_other}
use Rattle.std.specs.Prelude.{slice_index_or}
use Rattle.std.proofs.lemmas.List.{get_or_past, length-set}
use Rattle.std.proofs.lemmas.Bool.Decides.{nat_tests}
use Rattle.wire_core.specs.declared.node.NodeId.{NodeId}
use Rattle.wire_core.specs.declared.node.NodeId.TheVariants.{Replica, Mux, Agent}
use Rattle.world_spec.specs.Nodes.{Lists, index_of}
use Rattle.world_spec.specs.World.{Site, World, nobody, site, put, is_there, at, same_node}

pub site_put_same : (w : World) (x : NodeId) (s : Site) → is_there w x ≡ true → site (put w x s) x ≡ s
unfolding site put is_there
site_put_same w (Replica i) s e = get_or-set_same w.replicas i s nobody (grind (arith, nat_tests))
site_put_same w (Mux i) s e = get_or-set_same w.muxes i s nobody (grind (arith, nat_tests))
site_put_same w (Agent i) s e = get_or-set_same w.agents i s nobody (grind (arith, nat_tests))

pub site_put_other : (w : World) (x y : NodeId) (s : Site) → y ≢ x → site (put w x s) y ≡ site w y
unfolding site put
site_put_other w (Replica i) (Replica j) s ne = get_or-set_other w.replicas i j s nobody (λ e. ne (ap Replica e))
site_put_other w (Mux i) (Mux j) s ne = get_or-set_other w.muxes i j s nobody (λ e. ne (ap Mux e))
site_put_other w (Agent i) (Agent j) s ne = get_or-set_other w.agents i j s nobody (λ e. ne (ap Agent e))
site_put_other w (Replica i) (Mux j) s ne = refl
site_put_other w (Replica i) (Agent j) s ne = refl
site_put_other w (Mux i) (Replica j) s ne = refl
site_put_other w (Mux i) (Agent j) s ne = refl
site_put_other w (Agent i) (Replica j) s ne = refl
site_put_other w (Agent i) (Mux j) s ne = refl

pub there_put : (w : World) (x y : NodeId) (s : Site) → is_there (put w x s) y ≡ is_there w y
unfolding put is_there
there_put w (Replica i) (Replica j) s = ap (nat_lt j) (length-set w.replicas i s)
there_put w (Mux i) (Mux j) s = ap (nat_lt j) (length-set w.muxes i s)
there_put w (Agent i) (Agent j) s = ap (nat_lt j) (length-set w.agents i s)
there_put w (Replica i) (Mux j) s = refl
there_put w (Replica i) (Agent j) s = refl
there_put w (Mux i) (Replica j) s = refl
there_put w (Mux i) (Agent j) s = refl
there_put w (Agent i) (Replica j) s = refl
there_put w (Agent i) (Mux j) s = refl

in_range : (xs : List Site) (i : ℕ) (l : Lists) → (slice_index_or xs i nobody).up ≡ Some l → nat_lt i (length xs) ≡ true
in_range xs i l e = elim (range_or i (length xs)) [
  | inl lt ↦ grind (arith, nat_tests)
  | inr past ↦ absurd (
      let gone : slice_index_or xs i nobody ≡ nobody = get_or_past xs i nobody past in
      let up : (slice_index_or xs i nobody).up ≡ None = ap (λ (s : Site). s.up) gone in
      cc)
]
  where
    range_or : (a b : ℕ) → (a < b) ⊎ (b ≤ a)
    range_or a b = grind arith

-- a node that is up is one of the world's
pub up_is_there : (w : World) (x : NodeId) (l : Lists) → at w x ≡ Some l → is_there w x ≡ true
unfolding site is_there
up_is_there w (Replica i) l e = in_range w.replicas i l e
up_is_there w (Mux i) l e = in_range w.muxes i l e
up_is_there w (Agent i) l e = in_range w.agents i l e

number_or : (i j : ℕ) → (i ≡ j) ⊎ (i ≢ j)
number_or i j = grind (arith, nat_tests)

pub node_or : (x y : NodeId) → (x ≡ y) ⊎ (x ≢ y)
node_or (Replica i) (Replica j) = elim (number_or i j) [ inl e ↦ inl (ap Replica e) | inr ne ↦ inr (λ e. ne (ap index_of e)) ]
node_or (Mux i) (Mux j) = elim (number_or i j) [ inl e ↦ inl (ap Mux e) | inr ne ↦ inr (λ e. ne (ap index_of e)) ]
node_or (Agent i) (Agent j) = elim (number_or i j) [ inl e ↦ inl (ap Agent e) | inr ne ↦ inr (λ e. ne (ap index_of e)) ]
node_or (Replica i) (Mux j) = inr (λ e. cc)
node_or (Replica i) (Agent j) = inr (λ e. cc)
node_or (Mux i) (Replica j) = inr (λ e. cc)
node_or (Mux i) (Agent j) = inr (λ e. cc)
node_or (Agent i) (Replica j) = inr (λ e. cc)
node_or (Agent i) (Mux j) = inr (λ e. cc)

equal : (i j : ℕ) → (i == j) ≡ true → i ≡ j
equal i j e = grind (arith, nat_tests)

pub same_is : (x y : NodeId) → same_node x y ≡ true → x ≡ y
same_is (Replica i) (Replica j) e = ap Replica (equal i j e)
same_is (Mux i) (Mux j) e = ap Mux (equal i j e)
same_is (Agent i) (Agent j) e = ap Agent (equal i j e)
same_is (Replica i) (Mux j) e = absurd (cc)
same_is (Replica i) (Agent j) e = absurd (cc)
same_is (Mux i) (Replica j) e = absurd (cc)
same_is (Mux i) (Agent j) e = absurd (cc)
same_is (Agent i) (Replica j) e = absurd (cc)
same_is (Agent i) (Mux j) e = absurd (cc)
