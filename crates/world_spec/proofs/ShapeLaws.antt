-- Each event is a step of one node, of one of the shapes.
use Rattle.std.proofs.Common.{◌≡◌, inl, inr, ℕ, ◌+◌, ◌-◌, zero, suc, Bool, true, false, List, [], ◌∷◌, ◌++◌, map, filter, Option, Some, None, refl, sym, ap, ◌∙◌, append-nil, length}
use Rattle.std.proofs.lemmas.List.{length-set, length-append, length-map}
use Rattle.std.specs.Prelude.{if◌then◌else◌, slice_get}
use Rattle.wire_core.specs.Members.{In, Each}
use Rattle.wire_core.specs.declared.act.Act.{Act}
use Rattle.wire_core.specs.declared.address.Socket.{Socket}
use Rattle.wire_core.specs.declared.entry.Entry.{Entry}
use Rattle.wire_core.specs.declared.node.NodeId.{NodeId}
use Rattle.wire_core.specs.declared.node.NodeId.TheVariants.{Replica, Mux, Agent}
use Rattle.vip_config.specs.declared.parts.ConfigParts.{ConfigParts}
use Rattle.schedule_text.specs.declared.line.Word.{Word}
use Rattle.schedule_text.specs.declared.line.Word.TheVariants.{NotYet, Outside, Down, Up, Other}
use Rattle.schedule_text.specs.declared.event.Single.TheVariants.{Deliver, Inject, Tick, Restart}
use Rattle.node_spec.specs.Sends.{Place, ToNode, ToMachine, ToRouter, Said, Send}
use Rattle.node_spec.specs.Turns.{Input, Arrived, Ticked, Turn}
use Rattle.world_spec.specs.Nodes.{Lists, node_turn, listed, boot_entry, booted, opened}
use Rattle.world_spec.specs.World.{Site, World, Sent, site, put, is_there, disk, at, same_node, is_placed, sent_by, all_sent, untaken, posted, sent_at, takes}
use Rattle.world_spec.specs.Acts.{log_acts, turn_acts, loss}
use Rattle.world_spec.specs.Steps.{Outcome, only_word, act_lines, stepped, after_turn, input_by, input, arriving, delivered_to, delivered, deliver, downed, crash_by, crash, risen, restart_by, restart, cut_site, cut_acts, after_cut, cut_by, cut_input, cut_delivered_to, cut_delivered, cut_deliver, cut_opening, cut_restart_by, cut_restart}
use Rattle.world_spec.specs.Events.{Basic, Does, Crashes, Cuts, IsNamed, happens}
use Rattle.world_spec.specs.Transcript.{acts_in}
use Rattle.world_spec.specs.Shapes.{Moves, Given, IsSent, IsInjected, IsTick, Shape, IsQuiet, IsCrash, IsTurn, IsCut, IsOpening, IsCutOpening}
use Rattle.world_spec.proofs.LineLaws.{acts_said, turn_says}
use Rattle.world_spec.proofs.SiteLaws.{site_put_same, site_put_other, there_put, up_is_there, same_is}

by_if : {X : Type 0} (P : X → Type 0) (b : Bool) {x y : X} → (b ≡ true → P x) → (b ≡ false → P y) → P (if b then x else y)
by_if P true f g = f refl
by_if P false f g = g refl

-- the same nodes
record Same (w v : World) : Type 0 where
  sites : (y : NodeId) → site v y ≡ site w y
  there : (y : NodeId) → is_there v y ≡ is_there w y
  sent : v.sent ≡ w.sent
  acts : (y : NodeId) (t : Turn Lists) → log_acts v y t ≡ log_acts w y t
  marks : length v.taken ≡ length w.taken

itself : (w : World) → Same w w
itself w = record { sites = λ y. refl; there = λ y. refl; sent = refl; acts = λ y t. refl; marks = refl }

taken_site : (w : World) (k : ℕ) (y : NodeId) → site (takes w k) y ≡ site w y
unfolding site
taken_site w k (Replica i) = refl
taken_site w k (Mux i) = refl
taken_site w k (Agent i) = refl

taken_there : (w : World) (k : ℕ) (y : NodeId) → is_there (takes w k) y ≡ is_there w y
unfolding is_there
taken_there w k (Replica i) = refl
taken_there w k (Mux i) = refl
taken_there w k (Agent i) = refl

taken_acts : (w : World) (k : ℕ) (y : NodeId) (t : Turn Lists) → log_acts (takes w k) y t ≡ log_acts w y t
unfolding site
taken_acts w k (Replica i) t = refl
taken_acts w k (Mux i) t = refl
taken_acts w k (Agent i) t = refl

taken_same : (w : World) (k : ℕ) → Same w (takes w k)
taken_same w k = record { sites = taken_site w k; there = taken_there w k; sent = refl; acts = taken_acts w k; marks = length-set w.taken (k - 1) true }

posted_site : (w : World) (ss : List Sent) (y : NodeId) → site (posted w ss) y ≡ site w y
unfolding site
posted_site w ss (Replica i) = refl
posted_site w ss (Mux i) = refl
posted_site w ss (Agent i) = refl

posted_there : (w : World) (ss : List Sent) (y : NodeId) → is_there (posted w ss) y ≡ is_there w y
unfolding is_there
posted_there w ss (Replica i) = refl
posted_there w ss (Mux i) = refl
posted_there w ss (Agent i) = refl

put_sent : (w : World) (x : NodeId) (s : Site) → (put w x s).sent ≡ w.sent
unfolding put
put_sent w (Replica i) s = refl
put_sent w (Mux i) s = refl
put_sent w (Agent i) s = refl

put_taken : (w : World) (x : NodeId) (s : Site) → (put w x s).taken ≡ w.taken
unfolding put
put_taken w (Replica i) s = refl
put_taken w (Mux i) s = refl
put_taken w (Agent i) s = refl

-- as many marks as datagrams, also with more of both
more_marks : (w : World) (ss : List Sent) → length w.taken ≡ length w.sent
    → length (posted w ss).taken ≡ length (posted w ss).sent
more_marks w ss e =
    length-append w.taken (map untaken ss) ∙ rw (e, length-map ss untaken) (sym (length-append w.sent ss))

-- ---- one node is written

-- v has the nodes of w, and then node x is written
put_moves : (w v : World) (x : NodeId) (s : Site) (es : List Entry) → Same w v → is_there w x ≡ true
    → s.entries ≡ disk v x ++ es → Moves w (put v x s) x es [] s.up
put_moves w v x s es same there is = record {
  disk_here = ap (λ (z : Site). z.entries) (site_put_same v x s (same.there x ∙ there)) ∙ is
      ∙ ap (λ (z : Site). z.entries ++ es) (same.sites x);
  disk_other = λ y ne. ap (λ (z : Site). z.entries) (site_put_other v x y s ne ∙ same.sites y);
  at_here = ap (λ (z : Site). z.up) (site_put_same v x s (same.there x ∙ there));
  at_other = λ y ne. ap (λ (z : Site). z.up) (site_put_other v x y s ne ∙ same.sites y);
  there = λ y. there_put v x y s ∙ same.there y;
  sent = put_sent v x s ∙ same.sent ∙ sym (append-nil w.sent);
  own = tt;
  marked = λ e. ap length (put_taken v x s) ∙ same.marks ∙ e ∙ sym (ap length (put_sent v x s ∙ same.sent));
}

-- and then its datagrams are sent
post_moves : (w u : World) (x : NodeId) (es : List Entry) (ss : List Sent) (up : Option Lists) → Moves w u x es [] up
    → Each (λ (d : Sent). d.from ≡ x) ss → Moves w (posted u ss) x es ss up
post_moves w u x es ss up m own = record {
  disk_here = ap (λ (z : Site). z.entries) (posted_site u ss x) ∙ m.disk_here;
  disk_other = λ y ne. ap (λ (z : Site). z.entries) (posted_site u ss y) ∙ m.disk_other y ne;
  at_here = ap (λ (z : Site). z.up) (posted_site u ss x) ∙ m.at_here;
  at_other = λ y ne. ap (λ (z : Site). z.up) (posted_site u ss y) ∙ m.at_other y ne;
  there = λ y. posted_there u ss y ∙ m.there y;
  sent = ap (λ (z : List Sent). z ++ ss) (m.sent ∙ append-nil w.sent);
  own = own;
  marked = λ e. more_marks u ss (m.marked e);
}

pub own_sends : (x : NodeId) (sends : List Send) → Each (λ (d : Sent). d.from ≡ x) (map (sent_by x) sends)
own_sends x [] = tt
own_sends x (s ∷ sends) = (refl, own_sends x sends)

-- ---- nothing happens

quiet_moves : (w v : World) → Same w v → Moves w v (Replica 0) [] [] (at w (Replica 0))
quiet_moves w v same = record {
  disk_here = ap (λ (z : Site). z.entries) (same.sites (Replica 0)) ∙ sym (append-nil _);
  disk_other = λ y ne. ap (λ (z : Site). z.entries) (same.sites y);
  at_here = ap (λ (z : Site). z.up) (same.sites (Replica 0));
  at_other = λ y ne. ap (λ (z : Site). z.up) (same.sites y);
  there = same.there;
  sent = same.sent ∙ sym (append-nil w.sent);
  own = tt;
  marked = λ e. same.marks ∙ e ∙ sym (ap length same.sent);
}

-- a word, and at most a datagram taken
word_shape : (cfg : ConfigParts) (w v : World) (word : Word) → Same w v → Shape cfg w (only_word v word)
unfolding acts_in
word_shape cfg w v word same = IsQuiet (Replica 0) (quiet_moves w v same) refl

nothing_shape : (cfg : ConfigParts) (w : World) → Shape cfg w (w, [])
unfolding acts_in
nothing_shape cfg w = IsQuiet (Replica 0) (quiet_moves w w (itself w)) refl

-- ---- a turn

all_acts : (w v : World) (x : NodeId) (t : Turn Lists) → Same w v → turn_acts v x t ≡ turn_acts w x t
all_acts w v (Replica i) t same = same.acts (Replica i) t
all_acts w v (Mux i) t same = refl
all_acts w v (Agent i) t same = refl

turn_moves : (cfg : ConfigParts) (w v : World) (x : NodeId) (t : Turn Lists) → Same w v → is_there w x ≡ true
    → Moves w (after_turn cfg v x t) x (listed t.entry) (all_sent cfg x t.sends) (Some t.state)
unfolding after_turn
turn_moves cfg w v x t same there =
    post_moves w (put v x (stepped v x t)) x (listed t.entry) (all_sent cfg x t.sends) (Some t.state)
    (put_moves w v x (stepped v x t) (listed t.entry) same there refl)
    (own_sends x (filter (is_placed cfg) t.sends))

-- an input to a node, in a world with the same nodes
input_shape : (cfg : ConfigParts) (w v : World) (x : NodeId) (i : Input) → Same w v → Given cfg w x i
    → (o : Option Lists) → at w x ≡ o → Shape cfg w (input_by cfg v x i o)
input_shape cfg w v x i same given None e = word_shape cfg w v Down same
input_shape cfg w v x i same given (Some l) e =
    IsTurn x l i e given (turn_moves cfg w v x (node_turn cfg l i) same (up_is_there w x l e))
    (turn_says x _ _ _ _ ∙ all_acts w v x (node_turn cfg l i) same)

-- ---- a turn that is cut short

cut_shape : (cfg : ConfigParts) (w v : World) (x : NodeId) (i : Input) (keep : Bool) → Same w v → Given cfg w x i
    → (o : Option Lists) → at w x ≡ o → Shape cfg w (cut_by cfg w v x i keep o)
unfolding after_cut
cut_shape cfg w v x i keep same given None e = word_shape cfg w w Down (itself w)
cut_shape cfg w v x i true same given (Some l) e =
    IsCut x l i e given
    (put_moves w v x (cut_site v x (node_turn cfg l i) true) _ same (up_is_there w x l e) refl)
    (acts_said _ ∙ ap (λ (acts : List Act). acts ++ loss x) (same.acts x (node_turn cfg l i)))
cut_shape cfg w v x i false same given (Some l) e =
    IsCrash x
    (put_moves w v x (cut_site v x (node_turn cfg l i) false) [] same (up_is_there w x l e) refl)
    (acts_said _)

cut_input_shape : (cfg : ConfigParts) (w v : World) (x y : NodeId) (i : Input) (keep : Bool) → Same w v
    → (same_node x y ≡ true → Given cfg w x i) → Shape cfg w (cut_input cfg w v x y i keep)
cut_input_shape cfg w v x y i keep same given =
    by_if (Shape cfg w) (same_node x y)
    (λ is. cut_shape cfg w v x i keep same (given is) (at w x) refl)
    (λ is. word_shape cfg w w Other (itself w))

-- ---- deliveries

in_get : {X : Type 0} (xs : List X) (k : ℕ) (x : X) → slice_get xs k ≡ Some x → In x xs
in_get [] k x e = absurd (cc)
in_get (y ∷ ys) zero x e = inl (cc)
in_get (y ∷ ys) (suc k) x e = inr (in_get ys k x e)

sent_in : (w : World) (k : ℕ) (s : Sent) → sent_at w k ≡ Some s → In s w.sent
sent_in w zero s e = absurd (cc)
sent_in w (suc k) s e = in_get w.sent k s e

deliver_to_shape : (cfg : ConfigParts) (w : World) (k : ℕ) (s : Sent) → In s w.sent → (p : Place) → s.to ≡ p
    → Shape cfg w (delivered_to cfg w k s p)
deliver_to_shape cfg w k s sent (ToNode x) e =
    input_shape cfg w (takes w k) x (arriving cfg s) (taken_same w k) (IsSent s sent e refl)
    (at (takes w k) x) (sym (ap (λ (z : Site). z.up) (taken_site w k x)))
deliver_to_shape cfg w k s sent (ToMachine machine) e = word_shape cfg w w Outside (itself w)
deliver_to_shape cfg w k s sent ToRouter e = word_shape cfg w w Outside (itself w)

deliver_shape : (cfg : ConfigParts) (w : World) (k : ℕ) (o : Option Sent) → sent_at w k ≡ o
    → Shape cfg w (delivered cfg w k o)
deliver_shape cfg w k None e = word_shape cfg w w NotYet (itself w)
deliver_shape cfg w k (Some s) e = deliver_to_shape cfg w k s (sent_in w k s e) s.to refl

cut_deliver_to_shape : (cfg : ConfigParts) (w : World) (x : NodeId) (k : ℕ) (keep : Bool) (s : Sent) → In s w.sent
    → (p : Place) → s.to ≡ p → Shape cfg w (cut_delivered_to cfg w x k keep s p)
cut_deliver_to_shape cfg w x k keep s sent (ToNode y) e =
    cut_input_shape cfg w (takes w k) x y (arriving cfg s) keep (taken_same w k)
    (λ is. IsSent s sent (e ∙ ap ToNode (sym (same_is x y is))) refl)
cut_deliver_to_shape cfg w x k keep s sent (ToMachine machine) e = word_shape cfg w w Outside (itself w)
cut_deliver_to_shape cfg w x k keep s sent ToRouter e = word_shape cfg w w Outside (itself w)

cut_deliver_shape : (cfg : ConfigParts) (w : World) (x : NodeId) (k : ℕ) (keep : Bool) (o : Option Sent)
    → sent_at w k ≡ o → Shape cfg w (cut_delivered cfg w x k keep o)
cut_deliver_shape cfg w x k keep None e = word_shape cfg w w NotYet (itself w)
cut_deliver_shape cfg w x k keep (Some s) e = cut_deliver_to_shape cfg w x k keep s (sent_in w k s e) s.to refl

-- ---- crashes and openings

crash_shape : (cfg : ConfigParts) (w : World) (x : NodeId) (o : Option Lists) → at w x ≡ o → Shape cfg w (crash_by w x o)
crash_shape cfg w x None e = word_shape cfg w w Down (itself w)
crash_shape cfg w x (Some l) e =
    IsCrash x
    (put_moves w w x (downed w x) [] (itself w) (up_is_there w x l e) (sym (append-nil _)))
    (acts_said (loss x))

restart_shape : (cfg : ConfigParts) (w : World) (x : NodeId) (o : Option Lists) → at w x ≡ o
    → Shape cfg w (restart_by cfg w x o)
unfolding acts_in
restart_shape cfg w x None e =
    by_if (Shape cfg w) (is_there w x)
    (λ there. IsOpening x there (put_moves w w x (risen cfg w x) _ (itself w) there refl) refl)
    (λ away. nothing_shape cfg w)
restart_shape cfg w x (Some l) e = word_shape cfg w w Up (itself w)

cut_opening_shape : (cfg : ConfigParts) (w : World) (x : NodeId) (keep : Bool) → is_there w x ≡ true
    → Shape cfg w (put w x (cut_opening w x keep), act_lines (loss x))
cut_opening_shape cfg w x true there =
    IsCutOpening x there (put_moves w w x (cut_opening w x true) _ (itself w) there refl) (acts_said (loss x))
cut_opening_shape cfg w x false there =
    IsCrash x (put_moves w w x (cut_opening w x false) [] (itself w) there (sym (append-nil _))) (acts_said (loss x))

cut_restart_shape : (cfg : ConfigParts) (w : World) (x : NodeId) (keep : Bool) (o : Option Lists) → at w x ≡ o
    → Shape cfg w (cut_restart_by w x keep o)
cut_restart_shape cfg w x keep None e =
    by_if (Shape cfg w) (is_there w x) (cut_opening_shape cfg w x keep) (λ away. nothing_shape cfg w)
cut_restart_shape cfg w x keep (Some l) e = word_shape cfg w w Up (itself w)

-- ---- each event

pub shape_of : (cfg : ConfigParts) (w : World) (b : Basic) → IsNamed cfg b → Shape cfg w (happens cfg w b)
unfolding happens deliver crash restart cut_deliver cut_restart
shape_of cfg w (Does (Deliver k)) named = deliver_shape cfg w k (sent_at w k) refl
shape_of cfg w (Does (Inject x from bytes)) named =
    input_shape cfg w w x (Arrived from bytes) (itself w) (IsInjected from bytes named refl) (at w x) refl
shape_of cfg w (Does (Tick x now)) named = input_shape cfg w w x (Ticked now) (itself w) (IsTick now refl) (at w x) refl
shape_of cfg w (Does (Restart x)) named = restart_shape cfg w x (at w x) refl
shape_of cfg w (Crashes x) named = crash_shape cfg w x (at w x) refl
shape_of cfg w (Cuts x (Deliver k) keep) named = cut_deliver_shape cfg w x k keep (sent_at w k) refl
shape_of cfg w (Cuts x (Inject y from bytes) keep) named =
    cut_input_shape cfg w w x y (Arrived from bytes) keep (itself w) (λ is. IsInjected from bytes named refl)
shape_of cfg w (Cuts x (Tick y now) keep) named =
    cut_input_shape cfg w w x y (Ticked now) keep (itself w) (λ is. IsTick now refl)
shape_of cfg w (Cuts x (Restart y) keep) named =
    by_if (Shape cfg w) (same_node x y)
    (λ is. cut_restart_shape cfg w x keep (at w x) refl)
    (λ is. word_shape cfg w w Other (itself w))
