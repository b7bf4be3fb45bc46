-- The first facts of all worlds: senders are nodes of the world, and each datagram has one mark.
use Rattle.std.proofs.Common.{◌≡◌, ◌∙◌, ℕ, suc, ◌+◌, arith, Bool, true, false, List, [], ◌∷◌, ◌++◌, map, filter, Some, None, Option, refl, sym, ap, subst, length}
use Rattle.std.specs.Prelude.{fold, is_some}
use Rattle.std.specs.List.{flat_map}
use Rattle.std.proofs.lemmas.List.{length-append}
use Rattle.wire_core.specs.Members.{Each}
use Rattle.wire_core.specs.declared.address.Socket.{Socket}
use Rattle.wire_core.specs.declared.entry.Entry.{Entry}
use Rattle.wire_core.specs.declared.node.NodeId.{NodeId}
use Rattle.wire_core.specs.declared.outgoing.Outgoing.{Outgoing}
use Rattle.vip_config.specs.declared.parts.ConfigParts.{ConfigParts}
use Rattle.node_spec.specs.Sends.{Send}
use Rattle.node_spec.specs.Steps.{outgoing, sent_to, socket_at, datagram}
use Rattle.world_spec.specs.Nodes.{Lists}
use Rattle.world_spec.specs.World.{World, Sent, first_world, is_there, is_placed, sent_by, all_sent}
use Rattle.world_spec.specs.Steps.{Outcome}
use Rattle.world_spec.specs.Events.{Basic, happens, after, world, IsNamed, AreNamed}
use Rattle.world_spec.specs.History.{Run, run, run_after, first_run}
use Rattle.world_spec.specs.Shapes.{Moves, Grows, Shape, IsQuiet, IsCrash, IsTurn, IsCut, IsOpening, IsCutOpening}
use Rattle.world_spec.specs.Facts.{Holds, Keeps, SendersAreThere, IsMarked}
use Rattle.world_spec.specs.Transcript.{in_bytes, PostsItsLines}
use Rattle.world_spec.proofs.Principle.{always, each_on, grows_of}
use Rattle.world_spec.proofs.ShapeLaws.{shape_of, own_sends}
use Rattle.world_spec.proofs.SiteLaws.{up_is_there}

-- ---- senders

abbrev P : World → Sent → Type 0
P w s = is_there w s.from ≡ true

abbrev NoEntry : World → NodeId → Entry → Type 0
NoEntry w x e = Unit {0}

abbrev NoLists : World → NodeId → Lists → Type 0
NoLists w x l = Unit {0}

each_unit : {X : Type 0} (xs : List X) → Each (λ x. Unit {0}) xs
each_unit [] = tt
each_unit (x ∷ xs) = (tt, each_unit xs)

none : (cfg : ConfigParts) → Each (P (first_world cfg)) (first_world cfg).sent
unfolding first_world
none cfg = tt

keeps : (cfg : ConfigParts) → Keeps cfg P NoEntry NoLists
keeps cfg = record {
  said_lasts = λ x w u z g s h. g.there s.from ∙ h;
  kept_lasts = λ x w u z g y e h. tt;
  lists_last = λ x w u z g y ne l h. tt;
  lists_rest = λ x w u z g same sent l h. tt;
  opening = λ w u x s h g d n. (tt, tt);
  turn = λ w u x l i s h g was given m. (
    each_on (λ d. d.from ≡ x) (P u) (λ d e. ap (is_there u) e ∙ g.there x ∙ up_is_there w x l was) _ m.own,
    each_unit _,
    tt,
  );
  cut = λ w u x l i s h g was given m. each_unit _;
  first = record { said = none cfg; kept = λ x. each_unit _; lists = λ x l e. tt };
}

pub senders : (cfg : ConfigParts) (bs : List Basic) → AreNamed cfg bs → SendersAreThere (world cfg bs)
senders cfg bs named = (always cfg P NoEntry NoLists (keeps cfg) bs named).said

-- ---- steps

pub grows : (cfg : ConfigParts) (w : World) (b : Basic) → IsNamed cfg b → (x : NodeId) × Grows x w (after cfg w b)
grows cfg w b named = by_shape (happens cfg w b) (shape_of cfg w b named)
  where
    by_shape : (r : Outcome) → Shape cfg w r → (x : NodeId) × Grows x w r.0
    by_shape r (IsQuiet x m acts) = (x, grows_of w r.0 x _ _ _ m)
    by_shape r (IsCrash x m acts) = (x, grows_of w r.0 x _ _ _ m)
    by_shape r (IsTurn x l i was given m acts) = (x, grows_of w r.0 x _ _ _ m)
    by_shape r (IsCut x l i was given m acts) = (x, grows_of w r.0 x _ _ _ m)
    by_shape r (IsOpening x there m acts) = (x, grows_of w r.0 x _ _ _ m)
    by_shape r (IsCutOpening x there m acts) = (x, grows_of w r.0 x _ _ _ m)

-- ---- marks

marked_step : (cfg : ConfigParts) (w : World) (r : Outcome) → Shape cfg w r → IsMarked w → IsMarked r.0
marked_step cfg w r (IsQuiet x m acts) h = m.marked h
marked_step cfg w r (IsCrash x m acts) h = m.marked h
marked_step cfg w r (IsTurn x l i was given m acts) h = m.marked h
marked_step cfg w r (IsCut x l i was given m acts) h = m.marked h
marked_step cfg w r (IsOpening x there m acts) h = m.marked h
marked_step cfg w r (IsCutOpening x there m acts) h = m.marked h

marked_on : (cfg : ConfigParts) (bs : List Basic) (w : World) → AreNamed cfg bs → IsMarked w
    → IsMarked (fold (after cfg) w bs)
marked_on cfg [] w named h = h
marked_on cfg (b ∷ bs) w named h =
    marked_on cfg bs (after cfg w b) named.1 (marked_step cfg w (happens cfg w b) (shape_of cfg w b named.0) h)

pub marked : (cfg : ConfigParts) (bs : List Basic) → AreNamed cfg bs → IsMarked (world cfg bs)
unfolding world first_world
marked cfg bs named = marked_on cfg bs (first_world cfg) named refl

-- ---- runs

run_on : (cfg : ConfigParts) (bs : List Basic) (r : Run) → (fold (run_after cfg) r bs).world ≡ fold (after cfg) r.world bs
run_on cfg [] r = refl
run_on cfg (b ∷ bs) r = run_on cfg bs (run_after cfg r b)

pub run_world : (cfg : ConfigParts) (bs : List Basic) → (run cfg bs).world ≡ world cfg bs
unfolding run world
run_world cfg bs = run_on cfg bs (first_run cfg)

-- ---- datagrams in bytes

none_to : (bytes : List ℕ) (o : Option Socket) → is_some o ≡ false → sent_to bytes o ≡ []
none_to bytes None e = refl
none_to bytes (Some socket) e = absurd (cc)

one_to : (bytes : List ℕ) (o : Option Socket) → is_some o ≡ true → length (sent_to bytes o) ≡ 1
one_to bytes None e = absurd (cc)
one_to bytes (Some socket) e = refl

away : (cfg : ConfigParts) (s : Send) → is_placed cfg s ≡ false → outgoing cfg s ≡ []
unfolding outgoing
away cfg s e = none_to (datagram s.said) (socket_at cfg s.to) e

placed : (cfg : ConfigParts) (s : Send) → is_placed cfg s ≡ true → length (outgoing cfg s) ≡ 1
unfolding outgoing
placed cfg s e = one_to (datagram s.said) (socket_at cfg s.to) e

same_bytes : (cfg : ConfigParts) (x : NodeId) (sends : List Send)
    → flat_map (in_bytes cfg) (all_sent cfg x sends) ≡ flat_map (outgoing cfg) sends
same_bytes cfg x [] = refl
same_bytes cfg x (s ∷ sends) = by (is_placed cfg s) refl (same_bytes cfg x sends)
  where
    by : (b : Bool) → is_placed cfg s ≡ b
        → flat_map (in_bytes cfg) (all_sent cfg x sends) ≡ flat_map (outgoing cfg) sends
        → flat_map (in_bytes cfg) (all_sent cfg x (s ∷ sends)) ≡ outgoing cfg s ++ flat_map (outgoing cfg) sends
    by true e ih = rw e (ap (λ (l : List Outgoing). outgoing cfg s ++ l) ih)
    by false e ih = rw (e, away cfg s e) ih

one_more : (a b : ℕ) → a ≡ b → suc a ≡ 1 + b
one_more a b e = omega (arith, e)

same_count : (cfg : ConfigParts) (x : NodeId) (sends : List Send)
    → length (all_sent cfg x sends) ≡ length (flat_map (outgoing cfg) sends)
same_count cfg x [] = refl
same_count cfg x (s ∷ sends) = by (is_placed cfg s) refl (same_count cfg x sends)
  where
    by : (b : Bool) → is_placed cfg s ≡ b
        → length (all_sent cfg x sends) ≡ length (flat_map (outgoing cfg) sends)
        → length (all_sent cfg x (s ∷ sends)) ≡ length (outgoing cfg s ++ flat_map (outgoing cfg) sends)
    by true e ih = rw (e, length-append (outgoing cfg s) (flat_map (outgoing cfg) sends), placed cfg s e) (one_more _ _ ih)
    by false e ih = rw (e, away cfg s e) ih

pub posts_its_lines : PostsItsLines
posts_its_lines cfg x sends = (same_bytes cfg x sends, same_count cfg x sends)
