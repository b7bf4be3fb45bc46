-- Every world is in order, and each event is one good step of one replica.
use Rattle.std.proofs.Common.{◌≡◌, ◌≢◌, refl, sym, ap, ◌∙◌, subst, inl, inr, ℕ, zero, suc, ◌<◌, Bool, true, false, List, [], ◌∷◌, ◌++◌, map, filter, length, Option, Some, None, fold, is_some, nat_lt, append-nil, arith}
use Rattle.std.specs.Prelude.{cond, slice_get}
use Rattle.std.specs.List.{flat_map}
use Rattle.std.proofs.lemmas.Bool.Decides.{nat_tests}
use Rattle.std.proofs.lemmas.Grind.{flat_map-append}
use Rattle.wire_core.specs.Members.{Each}
use Rattle.wire_core.specs.declared.address.Socket.{Socket}
use Rattle.wire_core.specs.declared.entry.Entry.{Entry}
use Rattle.wire_core.specs.declared.node.NodeId.{NodeId}
use Rattle.wire_core.specs.declared.node.NodeId.TheVariants.{Replica, Mux, Agent}
use Rattle.vip_config.specs.declared.parts.ConfigParts.{ConfigParts}
use Rattle.paxos_spec.specs.Agreement.{empty_disk, grown}
use Rattle.paxos_spec.specs.declared.mail.Body.{Body}
use Rattle.paxos_spec.specs.declared.mail.Mail.{Mail}
use Rattle.paxos_spec.specs.Replica.{Memory, new_memory, Out, quiet as still}
use Rattle.paxos_spec.specs.Votes.{Value}
use Rattle.paxos_laws.specs.Disks.{disk_of}
use Rattle.paxos_laws.specs.Steps.{Good, GoodOut, Here, reopened}
use Rattle.paxos_laws.specs.Steps as paxos
use Rattle.paxos_laws.proofs.Named as laws
use Rattle.node_spec.specs.Sends.{Place, ToNode, ToMachine, ToRouter, Said, Says, Carries, Send}
use Rattle.node_spec.specs.Turns.{Input, Turn}
use Rattle.manager_spec.specs.Agreement.{body_in, mail_to, mail_at, mails_in}
use Rattle.manager_spec.specs.Manager.{Manager, opened_manager}
use Rattle.manager_spec.specs.ManagerTable.{manager_step}
use Rattle.world_spec.specs.Nodes.{Lists, OfManager, OfMux, OfAgent, index_of, listed, boot_entry, booted, opened}
use Rattle.world_spec.specs.World.{World, Site, Sent, nobody, first_site, first_world, site, is_there, disk, at, is_placed, sent_by, all_sent}
use Rattle.world_spec.specs.Steps.{Outcome}
use Rattle.world_spec.specs.Events.{Basic, AreNamed, IsNamed, happens, after, world}
use Rattle.world_spec.specs.Shapes.{Moves, Given, TurnMoves, CutMoves, OpeningMoves, Shape, IsQuiet, IsCrash, IsTurn, IsCut, IsOpening, IsCutOpening}
use Rattle.world_spec.specs.Facts.{Reached}
use Rattle.world_spec.proofs.Principle.{reached_next}
use Rattle.world_spec.proofs.ShapeLaws.{shape_of}
use Rattle.world_spec.proofs.SiteLaws.{node_or, up_is_there}
use Rattle.lease_spec.proofs.MemberLaws.{each_left}
use Rattle.world_laws.specs.Hearing.{IsSound, ListsFit}
use Rattle.world_laws.specs.Log.{InOrder, StepsOnce, Offered, ValuesTravel}
use Rattle.world_laws.specs.Seen.{mail_from, mail_of, mails_of, memory_of, view}
use Rattle.world_laws.specs.Turns.{IsAt, IsGood, out_of}
use Rattle.world_laws.specs.Widths.{MailFits}
use Rattle.world_laws.proofs.Goods.{turns_are_good, still_at}
use Rattle.world_laws.proofs.Heard.{first_count, first_have, given_true, hearing_at, manager_turn_fits, there_always}

-- ---- the view of a step

pub mails_append : (xs ys : List Sent) → mails_of (xs ++ ys) ≡ mails_of xs ++ mails_of ys
unfolding mails_of
mails_append xs ys = flat_map-append mail_of xs ys

pub disk_more : (es : List Entry) (e : Option Entry) → disk_of (es ++ listed e) ≡ grown (disk_of es) e
disk_more es None = ap disk_of (append-nil es)
disk_more es (Some e) = laws.disk_grows es (Some e)

pub other_replica : (i j : ℕ) → j ≢ i → Replica j ≢ Replica i
other_replica i j ne e = ne (ap index_of e)

-- a step of a replica, in the view
seen : (w u : World) (i : ℕ) (e : Option Entry) (ss : List Sent) (up : Option Lists) → Moves w u (Replica i) (listed e) ss up
    → paxos.Moves (view w) (view u) i (record { entry = e; memory = memory_of up; sends = mails_of ss })
unfolding view
seen w u i e ss up m = record {
  disk_same = ap disk_of m.disk_here ∙ disk_more (disk w (Replica i)) e;
  disk_other = λ j ne. ap disk_of (m.disk_other (Replica j) (other_replica i j ne));
  memory_same = ap memory_of m.at_here;
  memory_other = λ j ne. ap memory_of (m.at_other (Replica j) (other_replica i j ne));
  sent = ap mails_of m.sent ∙ mails_append w.sent ss;
}

pub number_of : (cfg : ConfigParts) (w : World) → Reached cfg w → (i : ℕ) → is_there w (Replica i) ≡ true → i < 5
unfolding is_there first_world
number_of cfg w r i e =
    let first : nat_lt i (length (first_world cfg).replicas) ≡ true = sym (there_always cfg w r (Replica i)) ∙ e in
    let count : length (first_world cfg).replicas ≡ 5 = first_count cfg Replica 0 5 in
    is_below i _ 5 first count
  where
    is_below : (i m n : ℕ) → nat_lt i m ≡ true → m ≡ n → i < n
    is_below i m n e same = grind (arith, nat_tests)

some_is : {X : Type 0} (a b : X) → Some a ≡ Some b → a ≡ b
some_is a b e = cc

-- the lists of the others stay those of their disks
lists_on : (w u : World) (i : ℕ) (es : List Entry) (ss : List Sent) (up : Option Lists) → Moves w u (Replica i) es ss up
    → InOrder w → ((m : Manager) → up ≡ Some (OfManager m) → IsAt (view u) i m)
    → (j : ℕ) (m : Manager) → at u (Replica j) ≡ Some (OfManager m) → IsAt (view u) j m
unfolding view
lists_on w u i es ss up mv ok new j m is = elim (node_or (Replica j) (Replica i)) [
  | inl same ↦ (let e : j ≡ i = ap index_of same in
      subst (λ (k : ℕ). IsAt (view u) k m) (sym e)
      (new m (sym mv.at_here ∙ ap (λ (k : ℕ). at u (Replica k)) (sym e) ∙ is)))
  | inr ne ↦ (let k : IsAt (view w) j m = ok.lists j m (sym (mv.at_other (Replica j) ne) ∙ is) in record {
    index = k.index;
    acceptor = k.acceptor ∙ ap (λ (es : List Entry). (disk_of es).state) (sym (mv.disk_other (Replica j) ne));
    memory = k.memory ∙ ap memory_of (sym (mv.at_other (Replica j) ne));
  })
]

-- ---- what a shape shows

pub record Shown (cfg : ConfigParts) (w u : World) : Type 0 where
  pub steps : StepsOnce (view w) (view u)
  pub wrote : disk u (Replica steps.replica) ≡ disk w (Replica steps.replica) ++ listed steps.out.entry
  pub others : (j : ℕ) → j ≢ steps.replica → disk u (Replica j) ≡ disk w (Replica j)
  pub lists : (i : ℕ) (m : Manager) → at u (Replica i) ≡ Some (OfManager m) → IsAt (view u) i m
  pub why : (v : Value) → steps.offered ≡ Some v → Offered cfg w v

here : (w : World) (i : ℕ) → InOrder w → i < 5 → Here (view w) i
here w i ok lt = record { number = lt; inv = ok.inv }

-- it goes down
goes_down : (cfg : ConfigParts) (w u : World) (i : ℕ) (e : Option Entry) → InOrder w → i < 5
    → GoodOut None (view w) i (reopened e) → Moves w u (Replica i) (listed e) [] None → Shown cfg w u
unfolding mails_of
goes_down cfg w u i e ok lt good mv =
    let pm : paxos.Moves (view w) (view u) i (reopened e) = seen w u i e [] None mv in
    record {
      steps = record {
        replica = i;
        offered = None;
        out = reopened e;
        number = lt;
        moves = pm;
        good = good (view u) pm;
      };
      wrote = mv.disk_here;
      others = λ j ne. mv.disk_other (Replica j) (other_replica i j ne);
      lists = lists_on w u i (listed e) [] None mv ok (λ m is. absurd (cc));
      why = λ v is. absurd (cc);
    }

opened_at : (cfg : ConfigParts) (w u : World) (i : ℕ) (m : Manager)
    → OpeningMoves w u (Replica i) (Some (opened cfg (Replica i) (booted (Replica i) (disk w (Replica i)))))
    → Some (opened cfg (Replica i) (booted (Replica i) (disk w (Replica i)))) ≡ Some (OfManager m) → IsAt (view u) i m
unfolding view opened opened_manager
opened_at cfg w u i m mv is =
    let same : opened_manager cfg i (booted (Replica i) (disk w (Replica i))) ≡ m = of_manager _ m (some_is _ _ is) in
    subst (IsAt (view u) i) same (record {
      index = refl;
      acceptor = laws.state_is_of_disk (booted (Replica i) (disk w (Replica i)))
          ∙ ap (λ (es : List Entry). (disk_of es).state) (sym mv.disk_here);
      memory = ap memory_of (sym mv.at_here);
    })
  where
    of_manager : (m n : Manager) → OfManager m ≡ OfManager n → m ≡ n
    of_manager m n e = cc

-- it opens
opened_memory : (cfg : ConfigParts) (i : ℕ) (es : List Entry) → memory_of (Some (opened cfg (Replica i) es)) ≡ new_memory
unfolding opened opened_manager
opened_memory cfg i es = refl

opens : (cfg : ConfigParts) (w u : World) (i : ℕ) → InOrder w → i < 5
    → OpeningMoves w u (Replica i) (Some (opened cfg (Replica i) (booted (Replica i) (disk w (Replica i))))) → Shown cfg w u
unfolding mails_of
opens cfg w u i ok lt mv =
    let e : Option Entry = Some (boot_entry (Replica i) (disk w (Replica i))) in
    let up : Option Lists = Some (opened cfg (Replica i) (booted (Replica i) (disk w (Replica i)))) in
    let same : record { entry = e; memory = memory_of up; sends = [] } ≡ reopened e =
    ap (λ (m : Memory). record { entry = e; memory = m; sends = [] }) (opened_memory cfg i _) in
    let pm : paxos.Moves (view w) (view u) i (reopened e) =
    subst (paxos.Moves (view w) (view u) i) same (seen w u i e [] up mv) in
    record {
      steps = record {
        replica = i;
        offered = None;
        out = reopened e;
        number = lt;
        moves = pm;
        good = laws.reopening (view w) i e (here w i ok lt) tt (view u) pm;
      };
      wrote = mv.disk_here;
      others = λ j ne. mv.disk_other (Replica j) (other_replica i j ne);
      lists = lists_on w u i (listed e) [] up mv ok (λ m is. opened_at cfg w u i m mv is);
      why = λ v is. absurd (cc);
    }

-- ---- a turn

-- what goes to no socket is nothing of the agreement
unplaced : (cfg : ConfigParts) → IsSound cfg → (i : ℕ) (to : Place) (said : Said) → Each MailFits (mail_at i to said)
    → is_placed cfg (record { to = to; said = said }) ≡ false → mail_at i to said ≡ []
unplaced cfg sound i (ToNode (Replica j)) (Says m) fits e = by (body_in m) fits
  where
    five : (j : ℕ) → j < 5 → is_some (slice_get cfg.replicas j) ≡ true
    five j lt = has cfg.replicas j (let count = sound.lengths.replicas in omega arith)
      where
        has : (xs : List Socket) (k : ℕ) → k < length xs → is_some (slice_get xs k) ≡ true
        has [] k lt = absurd (omega arith)
        has (x ∷ xs) zero lt = refl
        has (x ∷ xs) (suc k) lt = has xs k (omega arith)

    by : (o : Option Body) → Each MailFits (mail_to i j o) → mail_to i j o ≡ []
    by None fits = refl
    by (Some b) fits = absurd (let yes = five j fits.0.0 in let no = e in cc)
unplaced cfg sound i (ToNode (Replica j)) (Carries p) fits e = refl
unplaced cfg sound i (ToNode (Mux j)) said fits e = refl
unplaced cfg sound i (ToNode (Agent j)) said fits e = refl
unplaced cfg sound i (ToMachine machine) said fits e = refl
unplaced cfg sound i ToRouter said fits e = refl

right_of : (xs ys : List Mail) → Each MailFits (xs ++ ys) → Each MailFits ys
right_of [] ys h = h
right_of (x ∷ xs) ys h = right_of xs ys h.1

-- so what is sent has all its messages
pub placed_mails : (cfg : ConfigParts) → IsSound cfg → (i : ℕ) (sends : List Send) → Each MailFits (mails_in i sends)
    → mails_of (all_sent cfg (Replica i) sends) ≡ mails_in i sends
unfolding mails_of mails_in
placed_mails cfg sound i [] fits = refl
placed_mails cfg sound i (s ∷ sends) fits =
    by (is_placed cfg s) refl (placed_mails cfg sound i sends (right_of (mail_at i s.to s.said) _ fits))
  where
    by : (b : Bool) → is_placed cfg s ≡ b
        → mails_of (all_sent cfg (Replica i) sends) ≡ mails_in i sends
        → flat_map mail_of (map (sent_by (Replica i)) (cond b (s ∷ filter (is_placed cfg) sends) (filter (is_placed cfg) sends)))
        ≡ mail_at i s.to s.said ++ flat_map (λ (x : Send). mail_at i x.to x.said) sends
    by true e rest = ap (λ (xs : List Mail). mail_at i s.to s.said ++ xs) rest
    by false e rest = rest ∙ ap (λ (xs : List Mail). xs ++ flat_map (λ (x : Send). mail_at i x.to x.said) sends)
        (sym (unplaced cfg sound i s.to s.said (each_left MailFits (mail_at i s.to s.said) _ fits) e))

-- a turn as the agreement sees it, with what it sends
turn_out : (cfg : ConfigParts) → IsSound cfg → (w : World) → Reached cfg w → (i : ℕ) (m : Manager) (x : Input)
    → at w (Replica i) ≡ Some (OfManager m) → Given cfg w (Replica i) x
    → mails_of (all_sent cfg (Replica i) (manager_step cfg m x).sends) ≡ mails_in m.index (manager_step cfg m x).sends
turn_out cfg sound w r i m x was given =
    let h = hearing_at cfg sound w r in
    let fit : (m.index ≡ i) × _ = h.lists (Replica i) (OfManager m) was in
    placed_mails cfg sound i (manager_step cfg m x).sends (manager_turn_fits cfg sound w r h.said i m x fit given).sends
    ∙ ap (λ (k : ℕ). mails_in k (manager_step cfg m x).sends) (sym fit.0)

pub good_turn : (cfg : ConfigParts) → IsSound cfg → (w : World) → Reached cfg w → (i : ℕ) (m : Manager) (x : Input) → InOrder w
    → i < 5 → at w (Replica i) ≡ Some (OfManager m) → Given cfg w (Replica i) x → IsGood cfg (view w) i m x
good_turn cfg sound w r i m x ok lt was given =
    turns_are_good cfg (view w) i m x (record { here = here w i ok lt; at = ok.lists i m was })
    (given_true cfg sound w r (hearing_at cfg sound w r).said i x given).said

-- a turn, and what it owes the agreement
pub record Turned (cfg : ConfigParts) (w u : World) (i : ℕ) (m : Manager) (x : Input) : Type 0 where
  pub offered : Option Value
  pub moves : paxos.Moves (view w) (view u) i (out_of m (manager_step cfg m x))
  pub good : Good offered (view w) (view u) i (out_of m (manager_step cfg m x))

pub turn_owes : (cfg : ConfigParts) → IsSound cfg → (w u : World) → Reached cfg w → (i : ℕ) (m : Manager) (x : Input)
    → InOrder w → i < 5 → at w (Replica i) ≡ Some (OfManager m) → Given cfg w (Replica i) x
    → TurnMoves cfg w u (Replica i) (OfManager m) x → Turned cfg w u i m x
turn_owes cfg sound w u r i m x ok lt was given mv =
    let t : Turn Manager = manager_step cfg m x in
    let g : IsGood cfg (view w) i m x = good_turn cfg sound w r i m x ok lt was given in
    let same : record { entry = t.entry; memory = t.state.memory; sends = mails_of (all_sent cfg (Replica i) t.sends) } ≡ out_of m t =
    ap (λ (xs : List Mail). record { entry = t.entry; memory = t.state.memory; sends = xs })
    (turn_out cfg sound w r i m x was given) in
    let pm : paxos.Moves (view w) (view u) i (out_of m t) =
    subst (paxos.Moves (view w) (view u) i) same (seen w u i t.entry _ (Some (OfManager t.state)) mv) in
    record { offered = g.offered; moves = pm; good = g.turn.good (view u) pm }

turns : (cfg : ConfigParts) → IsSound cfg → (w u : World) → Reached cfg w → (i : ℕ) (m : Manager) (x : Input) → InOrder w
    → at w (Replica i) ≡ Some (OfManager m) → Given cfg w (Replica i) x → TurnMoves cfg w u (Replica i) (OfManager m) x
    → Shown cfg w u
turns cfg sound w u r i m x ok was given mv =
    let t : Turn Manager = manager_step cfg m x in
    let lt : i < 5 = number_of cfg w r i (up_is_there w (Replica i) (OfManager m) was) in
    let g : IsGood cfg (view w) i m x = good_turn cfg sound w r i m x ok lt was given in
    let same : record { entry = t.entry; memory = t.state.memory; sends = mails_of (all_sent cfg (Replica i) t.sends) } ≡ out_of m t =
    ap (λ (xs : List Mail). record { entry = t.entry; memory = t.state.memory; sends = xs })
    (turn_out cfg sound w r i m x was given) in
    let pm : paxos.Moves (view w) (view u) i (out_of m t) =
    subst (paxos.Moves (view w) (view u) i) same (seen w u i t.entry _ (Some (OfManager t.state)) mv) in
    record {
      steps = record {
        replica = i;
        offered = g.offered;
        out = out_of m t;
        number = lt;
        moves = pm;
        good = g.turn.good (view u) pm;
      };
      wrote = mv.disk_here;
      others = λ j ne. mv.disk_other (Replica j) (other_replica i j ne);
      lists = lists_on w u i _ _ _ mv ok (λ n is. subst (IsAt (view u) i) (of_manager t.state n (some_is _ _ is))
          (still_at cfg g.offered (view w) (view u) i m t (ok.lists i m was) g.turn pm));
      why = λ v is. record { replica = i; lists = m; input = x; was = was; given = given; is = g.why v is };
    }
  where
    of_manager : (m n : Manager) → OfManager m ≡ OfManager n → m ≡ n
    of_manager m n e = cc

cuts : (cfg : ConfigParts) → IsSound cfg → (w u : World) → Reached cfg w → (i : ℕ) (m : Manager) (x : Input) → InOrder w
    → at w (Replica i) ≡ Some (OfManager m) → Given cfg w (Replica i) x → CutMoves cfg w u (Replica i) (OfManager m) x
    → Shown cfg w u
cuts cfg sound w u r i m x ok was given mv =
    let t : Turn Manager = manager_step cfg m x in
    let lt : i < 5 = number_of cfg w r i (up_is_there w (Replica i) (OfManager m) was) in
    let g : IsGood cfg (view w) i m x = good_turn cfg sound w r i m x ok lt was given in
    goes_down cfg w u i t.entry ok lt (laws.cut g.offered (view w) i (out_of m t) (here w i ok lt) g.turn.good) mv

-- ---- no replica moves

rests : (cfg : ConfigParts) (w u : World) (ss : List Sent) → InOrder w → mails_of ss ≡ []
    → ((j : ℕ) → disk u (Replica j) ≡ disk w (Replica j)) → ((j : ℕ) → at u (Replica j) ≡ at w (Replica j))
    → u.sent ≡ w.sent ++ ss → Shown cfg w u
unfolding view
rests cfg w u ss ok mute disks ups sent =
    let five : 0 < 5 = omega arith in
    let o : Out = still (memory_of (at w (Replica 0))) in
    let pm : paxos.Moves (view w) (view u) 0 o = record {
      disk_same = ap disk_of (disks 0);
      disk_other = λ j ne. ap disk_of (disks j);
      memory_same = ap memory_of (ups 0);
      memory_other = λ j ne. ap memory_of (ups j);
      sent = ap mails_of sent ∙ mails_append w.sent ss ∙ ap (λ (xs : List Mail). mails_of w.sent ++ xs) mute;
    } in
    record {
      steps = record {
        replica = 0;
        offered = None;
        out = o;
        number = five;
        moves = pm;
        good = laws.hearing (view w) 0 (memory_of (at w (Replica 0))) (here w 0 ok five) refl (view u) pm;
      };
      wrote = disks 0 ∙ sym (append-nil _);
      others = λ j ne. disks j;
      lists = λ j m is. (let k : IsAt (view w) j m = ok.lists j m (sym (ups j) ∙ is) in record {
        index = k.index;
        acceptor = k.acceptor ∙ ap (λ (es : List Entry). (disk_of es).state) (sym (disks j));
        memory = k.memory ∙ ap memory_of (sym (ups j));
      });
      why = λ v is. absurd (cc);
    }

-- what other nodes send is nothing of the agreement
mute_of : (x : NodeId) → ((i : ℕ) → Replica i ≢ x) → (ss : List Sent) → Each (λ (s : Sent). s.from ≡ x) ss → mails_of ss ≡ []
unfolding mails_of
mute_of x ne [] h = refl
mute_of x ne (s ∷ ss) h = rw (one s.from s.to s.said h.0, mute_of x ne ss h.1) refl
  where
    one : (y : NodeId) (to : Place) (said : Said) → y ≡ x → mail_from y to said ≡ []
    one (Replica i) to said e = absurd (ne i e)
    one (Mux i) to said e = refl
    one (Agent i) to said e = refl

-- another node moves
others_move : (cfg : ConfigParts) (w u : World) (x : NodeId) (es : List Entry) (ss : List Sent) (up : Option Lists) → InOrder w
    → ((i : ℕ) → Replica i ≢ x) → Moves w u x es ss up → Shown cfg w u
others_move cfg w u x es ss up ok ne mv =
    rests cfg w u ss ok (mute_of x ne ss mv.own) (λ j. mv.disk_other (Replica j) (ne j)) (λ j. mv.at_other (Replica j) (ne j)) mv.sent

not_mux : (j i : ℕ) → Replica i ≢ Mux j
not_mux j i e = cc

not_agent : (j i : ℕ) → Replica i ≢ Agent j
not_agent j i e = cc

-- nothing moves
nothing_moves : (cfg : ConfigParts) (w u : World) (x : NodeId) (up : Option Lists) → InOrder w → up ≡ at w x
    → Moves w u x [] [] up → Shown cfg w u
unfolding mails_of
nothing_moves cfg w u x up ok same mv = rests cfg w u [] ok refl (λ j. disks (Replica j)) (λ j. ups (Replica j)) mv.sent
  where
    disks : (y : NodeId) → disk u y ≡ disk w y
    disks y = elim (node_or y x) [
      | inl e ↦ subst (λ (z : NodeId). disk u z ≡ disk w z) (sym e) (mv.disk_here ∙ append-nil _)
      | inr ne ↦ mv.disk_other y ne
    ]

    ups : (y : NodeId) → at u y ≡ at w y
    ups y = elim (node_or y x) [
      | inl e ↦ subst (λ (z : NodeId). at u z ≡ at w z) (sym e) (mv.at_here ∙ same)
      | inr ne ↦ mv.at_other y ne
    ]

-- ---- each shape

crashes : (cfg : ConfigParts) (w u : World) → Reached cfg w → (x : NodeId) → InOrder w → Moves w u x [] [] None
    → (o : Option Lists) → at w x ≡ o → Shown cfg w u
crashes cfg w u r (Replica i) ok mv None e = nothing_moves cfg w u (Replica i) None ok (sym e) mv
crashes cfg w u r (Replica i) ok mv (Some l) e =
    let lt : i < 5 = number_of cfg w r i (up_is_there w (Replica i) l e) in
    goes_down cfg w u i None ok lt (laws.reopening (view w) i None (here w i ok lt) tt) mv
crashes cfg w u r (Mux i) ok mv o e = others_move cfg w u (Mux i) [] [] None ok (not_mux i) mv
crashes cfg w u r (Agent i) ok mv o e = others_move cfg w u (Agent i) [] [] None ok (not_agent i) mv

turned : (cfg : ConfigParts) → IsSound cfg → (w u : World) → Reached cfg w → (x : NodeId) (l : Lists) (i : Input) → InOrder w
    → ListsFit cfg w x l → at w x ≡ Some l → Given cfg w x i → TurnMoves cfg w u x l i → Shown cfg w u
turned cfg sound w u r (Replica j) (OfManager m) i ok fit was given mv = turns cfg sound w u r j m i ok was given mv
turned cfg sound w u r (Replica j) (OfMux m) i ok fit was given mv = absurd fit
turned cfg sound w u r (Replica j) (OfAgent a) i ok fit was given mv = absurd fit
turned cfg sound w u r (Mux j) l i ok fit was given mv = others_move cfg w u (Mux j) _ _ _ ok (not_mux j) mv
turned cfg sound w u r (Agent j) l i ok fit was given mv = others_move cfg w u (Agent j) _ _ _ ok (not_agent j) mv

cut : (cfg : ConfigParts) → IsSound cfg → (w u : World) → Reached cfg w → (x : NodeId) (l : Lists) (i : Input) → InOrder w
    → ListsFit cfg w x l → at w x ≡ Some l → Given cfg w x i → CutMoves cfg w u x l i → Shown cfg w u
cut cfg sound w u r (Replica j) (OfManager m) i ok fit was given mv = cuts cfg sound w u r j m i ok was given mv
cut cfg sound w u r (Replica j) (OfMux m) i ok fit was given mv = absurd fit
cut cfg sound w u r (Replica j) (OfAgent a) i ok fit was given mv = absurd fit
cut cfg sound w u r (Mux j) l i ok fit was given mv = others_move cfg w u (Mux j) _ _ _ ok (not_mux j) mv
cut cfg sound w u r (Agent j) l i ok fit was given mv = others_move cfg w u (Agent j) _ _ _ ok (not_agent j) mv

opening : (cfg : ConfigParts) (w u : World) → Reached cfg w → (x : NodeId) → InOrder w → is_there w x ≡ true
    → OpeningMoves w u x (Some (opened cfg x (booted x (disk w x)))) → Shown cfg w u
opening cfg w u r (Replica i) ok there mv = opens cfg w u i ok (number_of cfg w r i there) mv
opening cfg w u r (Mux i) ok there mv = others_move cfg w u (Mux i) _ _ _ ok (not_mux i) mv
opening cfg w u r (Agent i) ok there mv = others_move cfg w u (Agent i) _ _ _ ok (not_agent i) mv

cut_opening : (cfg : ConfigParts) (w u : World) → Reached cfg w → (x : NodeId) → InOrder w → is_there w x ≡ true
    → OpeningMoves w u x None → Shown cfg w u
cut_opening cfg w u r (Replica i) ok there mv =
    let lt : i < 5 = number_of cfg w r i there in
    let e : Option Entry = Some (boot_entry (Replica i) (disk w (Replica i))) in
    goes_down cfg w u i e ok lt (laws.reopening (view w) i e (here w i ok lt) tt) mv
cut_opening cfg w u r (Mux i) ok there mv = others_move cfg w u (Mux i) _ _ _ ok (not_mux i) mv
cut_opening cfg w u r (Agent i) ok there mv = others_move cfg w u (Agent i) _ _ _ ok (not_agent i) mv

pub shown : (cfg : ConfigParts) → IsSound cfg → (w : World) (o : Outcome) → Reached cfg w → InOrder w → Shape cfg w o
    → Shown cfg w o.0
shown cfg sound w o r ok (IsQuiet x mv acts) = nothing_moves cfg w o.0 x (at w x) ok refl mv
shown cfg sound w o r ok (IsCrash x mv acts) = crashes cfg w o.0 r x ok mv (at w x) refl
shown cfg sound w o r ok (IsTurn x l i was given mv acts) =
    turned cfg sound w o.0 r x l i ok ((hearing_at cfg sound w r).lists x l was) was given mv
shown cfg sound w o r ok (IsCut x l i was given mv acts) =
    cut cfg sound w o.0 r x l i ok ((hearing_at cfg sound w r).lists x l was) was given mv
shown cfg sound w o r ok (IsOpening x there mv acts) = opening cfg w o.0 r x ok there mv
shown cfg sound w o r ok (IsCutOpening x there mv acts) = cut_opening cfg w o.0 r x ok there mv

-- ---- every world

pub shows : (cfg : ConfigParts) → IsSound cfg → (w : World) (b : Basic) → Reached cfg w → InOrder w → IsNamed cfg b
    → Shown cfg w (after cfg w b)
shows cfg sound w b r ok named = shown cfg sound w (happens cfg w b) r ok (shape_of cfg w b named)

pub next : (cfg : ConfigParts) → IsSound cfg → (w : World) (b : Basic) → Reached cfg w → InOrder w → IsNamed cfg b
    → InOrder (after cfg w b)
next cfg sound w b r ok named =
    let h : Shown cfg w (after cfg w b) = shows cfg sound w b r ok named in
    let s : StepsOnce (view w) (view (after cfg w b)) = h.steps in
    record {
      inv = laws.keeps s.offered (view w) (view (after cfg w b)) s.replica s.out s.moves s.number ok.inv s.good;
      lists = h.lists;
    }

run_order : (cfg : ConfigParts) → IsSound cfg → (bs : List Basic) (w : World) → AreNamed cfg bs → Reached cfg w → InOrder w
    → InOrder (fold (after cfg) w bs)
run_order cfg sound [] w named r ok = ok
run_order cfg sound (b ∷ bs) w named r ok =
    run_order cfg sound bs (after cfg w b) named.1 (reached_next cfg w b named.0 r) (next cfg sound w b r ok named.0)

-- ---- the first world

abbrev IsFirst : ConfigParts → NodeId → Site → Type 0
IsFirst cfg (Replica i) s = (disk_of s.entries ≡ empty_disk) × (memory_of s.up ≡ new_memory)
    × ((m : Manager) → s.up ≡ Some (OfManager m) → (m.index ≡ i) × (m.acceptor ≡ (disk_of s.entries).state))
IsFirst cfg (Mux i) s = Unit {0}
IsFirst cfg (Agent i) s = Unit {0}

first_site_is : (cfg : ConfigParts) (x : NodeId) → IsFirst cfg x (first_site cfg x)
unfolding opened opened_manager disk_of
first_site_is cfg (Replica i) = (
  refl,
  refl,
  λ m is. (
    ap (λ (n : Manager). n.index) (sym (of_manager _ m (some_is _ _ is))),
    ap (λ (n : Manager). n.acceptor) (sym (of_manager _ m (some_is _ _ is)))
        ∙ laws.state_is_of_disk (booted (Replica i) []),
  ),
)
  where
    of_manager : (m n : Manager) → OfManager m ≡ OfManager n → m ≡ n
    of_manager m n e = cc
first_site_is cfg (Mux i) = tt
first_site_is cfg (Agent i) = tt

nobody_is : (cfg : ConfigParts) (x : NodeId) → IsFirst cfg x nobody
unfolding disk_of
nobody_is cfg (Replica i) = (refl, refl, λ m is. absurd (cc))
nobody_is cfg (Mux i) = tt
nobody_is cfg (Agent i) = tt

firsts : (cfg : ConfigParts) (i : ℕ) → IsFirst cfg (Replica i) (site (first_world cfg) (Replica i))
firsts cfg i = first_have cfg (IsFirst cfg) (nobody_is cfg) (first_site_is cfg) (Replica i)

pub first_sent : (cfg : ConfigParts) → mails_of (first_world cfg).sent ≡ []
unfolding first_world mails_of
first_sent cfg = refl

pub first_order : (cfg : ConfigParts) → InOrder (first_world cfg)
unfolding view
first_order cfg = record {
  inv = laws.begins (view (first_world cfg)) (record {
    disks = λ i lt. (firsts cfg i).0;
    memories = λ i lt. (firsts cfg i).1;
    silent = first_sent cfg;
  });
  lists = λ i m is. (let k = (firsts cfg i).2 m is in record { index = k.0; acceptor = k.1; memory = ap memory_of (sym is) });
}

pub first_reached : (cfg : ConfigParts) → Reached cfg (first_world cfg)
unfolding world
first_reached cfg = record { events = []; named = tt; is = refl }

-- Every world is in order.
pub in_order : (cfg : ConfigParts) → IsSound cfg → (bs : List Basic) → AreNamed cfg bs → InOrder (world cfg bs)
unfolding world
in_order cfg sound bs named = run_order cfg sound bs (first_world cfg) named (first_reached cfg) (first_order cfg)

pub in_order_at : (cfg : ConfigParts) → IsSound cfg → (w : World) → Reached cfg w → InOrder w
in_order_at cfg sound w r = subst InOrder (sym r.is) (in_order cfg sound r.events r.named)

-- what is proposed by then was proposed before, or is offered in the event
pub values_travel : (cfg : ConfigParts) → IsSound cfg → (w : World) (b : Basic) → Reached cfg w → IsNamed cfg b
    → ValuesTravel cfg w (after cfg w b)
values_travel cfg sound w b r named c s v p =
    let h : Shown cfg w (after cfg w b) = shows cfg sound w b r (in_order_at cfg sound w r) named in
    let k : StepsOnce (view w) (view (after cfg w b)) = h.steps in
    elim (laws.values_travel k.offered (view w) (view (after cfg w b)) k.replica k.out k.moves k.good c s v p) [
      | inl is ↦ inr (h.why v is)
      | inr old ↦ inl old
    ]
