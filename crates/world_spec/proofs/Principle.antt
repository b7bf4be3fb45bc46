-- What holds of each datagram, each entry and the lists of each node, in the world of every list of events.
use Rattle.std.proofs.Common.{◌≡◌, ◌≢◌, ◌⊎◌, inl, inr, List, [], ◌∷◌, ◌++◌, Option, Some, None, refl, sym, ap, ◌∙◌, subst, append-nil}
use Rattle.std.specs.Prelude.{fold}
use Rattle.std.proofs.lemmas.List.Sums.{fold-append}
use Rattle.wire_core.specs.Members.{Each}
use Rattle.wire_core.specs.declared.entry.Entry.{Entry}
use Rattle.wire_core.specs.declared.node.NodeId.{NodeId}
use Rattle.vip_config.specs.declared.parts.ConfigParts.{ConfigParts}
use Rattle.lease_spec.proofs.MemberLaws.{each_append}
use Rattle.world_spec.specs.Nodes.{Lists, boot_entry, booted, opened}
use Rattle.world_spec.specs.World.{World, Sent, disk, at, first_world}
use Rattle.world_spec.specs.Steps.{Outcome}
use Rattle.world_spec.specs.Events.{Basic, IsNamed, AreNamed, happens, after, world}
use Rattle.world_spec.specs.Shapes.{Moves, Grows, Shape, IsQuiet, IsCrash, IsTurn, IsCut, IsOpening, IsCutOpening}
use Rattle.world_spec.specs.Facts.{Holds, Reached, Steps, Keeps}
use Rattle.world_spec.proofs.ShapeLaws.{shape_of}
use Rattle.world_spec.proofs.SiteLaws.{node_or}

-- from each to each
pub each_on : {X : Type 0} (P Q : X → Type 0) → ((x : X) → P x → Q x) → (xs : List X) → Each P xs → Each Q xs
each_on P Q f [] h = tt
each_on P Q f (x ∷ xs) h = (f x h.0, each_on P Q f xs h.1)

pub grows_of : (w u : World) (x : NodeId) (es : List Entry) (ss : List Sent) (up : Option Lists)
    → Moves w u x es ss up → Grows x w u
grows_of w u x es ss up m = record {
  disk_more = λ y. elim (node_or y x) [
    | inl e ↦ (es, subst (λ (z : NodeId). disk u z ≡ disk w z ++ es) (sym e) m.disk_here)
    | inr ne ↦ ([], m.disk_other y ne ∙ sym (append-nil _))
  ];
  disk_other = m.disk_other;
  at_other = m.at_other;
  there = m.there;
  sent_more = (ss, m.sent, m.own);
}

-- what was, still holds; the new items and the lists of x are to be shown
step : (cfg : ConfigParts) (P : World → Sent → Type 0) (E : World → NodeId → Entry → Type 0)
    (Q : World → NodeId → Lists → Type 0) → Keeps cfg P E Q
    → (w u : World) (x : NodeId) (es : List Entry) (ss : List Sent) (up : Option Lists) → Steps cfg w u → Holds P E Q w
    → Moves w u x es ss up → Each (P u) ss → Each (E u x) es → ((l : Lists) → up ≡ Some l → Q u x l) → Holds P E Q u
step cfg P E Q k w u x es ss up s h m p e q =
    let g : Grows x w u = grows_of w u x es ss up m in
    record {
      said = subst (Each (P u)) (sym m.sent)
          (each_append (P u) w.sent ss (each_on (P w) (P u) (k.said_lasts x w u s g) w.sent h.said) p);
      kept = λ y. elim (node_or y x) [
        | inl is ↦ subst (λ (z : NodeId). Each (E u z) (disk u z)) (sym is)
            (subst (Each (E u x)) (sym m.disk_here)
            (each_append (E u x) (disk w x) es
            (each_on (E w x) (E u x) (k.kept_lasts x w u s g x) (disk w x) (h.kept x)) e))
        | inr ne ↦ subst (Each (E u y)) (sym (m.disk_other y ne))
            (each_on (E w y) (E u y) (k.kept_lasts x w u s g y) (disk w y) (h.kept y))
      ];
      lists = λ y l is. elim (node_or y x) [
        | inl same ↦ subst (λ (z : NodeId). Q u z l) (sym same) (q l (sym m.at_here ∙ ap (at u) (sym same) ∙ is))
        | inr ne ↦ k.lists_last x w u s g y ne l (h.lists y l (sym (m.at_other y ne) ∙ is))
      ];
    }

some_is : {X : Type 0} (a b : X) → Some a ≡ Some b → a ≡ b
some_is a b e = cc

-- one event keeps it
keeps_it : (cfg : ConfigParts) (P : World → Sent → Type 0) (E : World → NodeId → Entry → Type 0)
    (Q : World → NodeId → Lists → Type 0) → Keeps cfg P E Q
    → (w : World) (r : Outcome) → Steps cfg w r.0 → Holds P E Q w → Shape cfg w r → Holds P E Q r.0
keeps_it cfg P E Q k w r s h (IsQuiet x m acts) =
    let u : World = r.0 in
    step cfg P E Q k w u x [] [] _ s h m tt tt
    (λ l is. k.lists_rest x w u s (grows_of w u x [] [] _ m) (m.disk_here ∙ append-nil _) (m.sent ∙ append-nil _) l (h.lists x l is))
keeps_it cfg P E Q k w r s h (IsCrash x m acts) = step cfg P E Q k w r.0 x [] [] None s h m tt tt (λ l is. absurd (cc))
keeps_it cfg P E Q k w r s h (IsTurn x l i was given m acts) =
    let u : World = r.0 in
    let new = k.turn w u x l i s h (grows_of w u x _ _ _ m) was given m in
    step cfg P E Q k w u x _ _ _ s h m new.0 new.1 (λ z is. subst (Q u x) (some_is _ z is) new.2)
keeps_it cfg P E Q k w r s h (IsCut x l i was given m acts) =
    let u : World = r.0 in
    step cfg P E Q k w u x _ [] None s h m tt (k.cut w u x l i s h (grows_of w u x _ _ _ m) was given m) (λ z is. absurd (cc))
keeps_it cfg P E Q k w r s h (IsOpening x there m acts) =
    let u : World = r.0 in
    let new = k.opening w u x s h (grows_of w u x _ _ _ m) m.disk_here (m.sent ∙ append-nil _) in
    step cfg P E Q k w u x _ [] _ s h m tt (new.0, tt) (λ z is. subst (Q u x) (some_is _ z is) new.1)
keeps_it cfg P E Q k w r s h (IsCutOpening x there m acts) =
    let u : World = r.0 in
    let new = k.opening w u x s h (grows_of w u x _ _ _ m) m.disk_here (m.sent ∙ append-nil _) in
    step cfg P E Q k w u x _ [] None s h m tt (new.0, tt) (λ z is. absurd (cc))

-- ---- every list of events

pub next_world : (cfg : ConfigParts) (bs : List Basic) (b : Basic) → world cfg (bs ++ b ∷ []) ≡ after cfg (world cfg bs) b
unfolding world
next_world cfg bs b = fold-append (after cfg) (first_world cfg) bs (b ∷ [])

pub reached_next : (cfg : ConfigParts) (w : World) (b : Basic) → IsNamed cfg b → Reached cfg w
    → Reached cfg (after cfg w b)
reached_next cfg w b named r = record {
  events = r.events ++ b ∷ [];
  named = each_append (IsNamed cfg) r.events (b ∷ []) r.named (named, tt);
  is = ap (λ (v : World). after cfg v b) r.is ∙ sym (next_world cfg r.events b);
}

run_holds : (cfg : ConfigParts) (P : World → Sent → Type 0) (E : World → NodeId → Entry → Type 0)
    (Q : World → NodeId → Lists → Type 0) → Keeps cfg P E Q
    → (bs : List Basic) (w : World) → AreNamed cfg bs → Reached cfg w → Holds P E Q w → Holds P E Q (fold (after cfg) w bs)
run_holds cfg P E Q k [] w named r h = h
run_holds cfg P E Q k (b ∷ bs) w named r h =
    let next : Reached cfg (after cfg w b) = reached_next cfg w b named.0 r in
    run_holds cfg P E Q k bs (after cfg w b) named.1 next
    (keeps_it cfg P E Q k w (happens cfg w b) (record { before = r; now = next; event = b; named = named.0; is = refl }) h (shape_of cfg w b named.0))

-- The principle: a fact that keeps what it owes holds in every world.
pub always : (cfg : ConfigParts) (P : World → Sent → Type 0) (E : World → NodeId → Entry → Type 0)
    (Q : World → NodeId → Lists → Type 0) → Keeps cfg P E Q → (bs : List Basic) → AreNamed cfg bs
    → Holds P E Q (world cfg bs)
unfolding world
always cfg P E Q k bs named =
    run_holds cfg P E Q k bs (first_world cfg) named (record { events = []; named = tt; is = refl }) k.first
