-- In every world, what a replica hears of the agreement was said to it, and fits.
use Rattle.std.proofs.Common.{◌≡◌, refl, sym, ap, subst, ◌∙◌, inl, inr, ℕ, zero, suc, ◌+◌, ◌<◌, ◌≤◌, ◌^◌, true, false, not, List, [], ◌∷◌, ◌++◌, filter, length, Option, Some, None, Result, Ok, Err, nat_lt, arith, fold}
use Rattle.std.specs.Prelude.{◌&&◌, slice_index_or, Contains, slice_get, option_map, unwrap_or}
use Rattle.std.specs.List.{flat_map}
use Rattle.std.proofs.lemmas.Bool.Decides.{nat_tests}
use Rattle.std.proofs.lemmas.List.Elements.{Contains-append_left, Contains-append_right}
use Rattle.wire_core.specs.Members.{In, Each}
use Rattle.wire_core.specs.Numbers.{AreBytes}
use Rattle.wire_core.specs.declared.address.Socket.{Socket}
use Rattle.wire_core.specs.declared.cause.DropCause.TheVariants.{NotFromMux}
use Rattle.wire_core.specs.declared.entry.Entry.{Entry}
use Rattle.wire_core.specs.declared.node.NodeId.{NodeId}
use Rattle.wire_core.specs.declared.node.NodeId.TheVariants.{Replica, Mux, Agent}
use Rattle.config_text.specs.declared.agents.AgentConf.{AgentConf}
use Rattle.control_msg.specs.declared.message.Message.{Message}
use Rattle.control_msg.specs.declared.reading.MessageFault.{MessageFault}
use Rattle.control_msg.specs.Frames.{Framed, frame_at}
use Rattle.control_msg.specs.Messages.{IsMessage, message_bytes}
use Rattle.control_msg.specs.Reading.{message_at}
use Rattle.control_msg.proofs.AgainLaws.{message_again}
use Rattle.control_msg.proofs.WholeLaws.{message_is}
use Rattle.vip_config.specs.Queries.{IsOwner, socket_of, who_of, node_owner}
use Rattle.vip_config.specs.declared.parts.ConfigParts.{ConfigParts}
use Rattle.vip_config.specs.declared.who.Who.{Who}
use Rattle.vip_config.specs.declared.who.Who.TheVariants as who
use Rattle.schedule_text.specs.Fields.{is_node}
use Rattle.paxos_spec.specs.declared.mail.Body.{Body}
use Rattle.paxos_spec.specs.declared.mail.Mail.{Mail}
use Rattle.paxos_spec.specs.Replica.{mail}
use Rattle.node_spec.specs.Datagrams.{Heard, Refused, Told, Brought, is_mux, is_redirect, of_node, admitted, decoded, framed_by, heard}
use Rattle.node_spec.specs.Sends.{Place, ToNode, Said, Says, Carries, Send}
use Rattle.node_spec.specs.Steps.{datagram}
use Rattle.node_spec.specs.Turns.{Input, Arrived}
use Rattle.manager_spec.specs.Manager.{Manager, message_of, opened_manager}
use Rattle.manager_spec.specs.ManagerTable.{manager_step}
use Rattle.manager_spec.specs.Agreement.{body_in, mail_to, mail_at, mails_in}
use Rattle.manager_spec.proofs.Choices.{by_if}
use Rattle.mux_spec.specs.MuxTable.{mux_step}
use Rattle.agent_spec.specs.Agent.{Agent as AgentLists}
use Rattle.agent_spec.specs.AgentTable.{agent_step}
use Rattle.lease_spec.proofs.MemberLaws.{each_append, each_left, each_on, each_in, each_map, each_passing}
use Rattle.world_spec.specs.Nodes.{Lists, OfManager, OfMux, OfAgent, node_turn, listed, boot_entry, booted, opened}
use Rattle.world_spec.specs.World.{World, Sent, Site, nobody, first_site, first_sites, first_world, site, is_there, disk, is_placed, sent_by, all_sent}
use Rattle.world_spec.specs.Steps.{home}
use Rattle.world_spec.specs.Events.{Basic, AreNamed, after, world}
use Rattle.world_spec.specs.Shapes.{Given, IsSent, IsInjected, IsTick}
use Rattle.world_spec.specs.Facts.{Holds, Reached, Keeps, SendersAreThere}
use Rattle.world_spec.proofs.Firsts.{grows, senders}
use Rattle.world_spec.proofs.Principle.{always}
use Rattle.world_laws.specs.Seen.{mail_of, mails_of, view}
use Rattle.world_laws.specs.Turns.{WasSaid, IsTrue}
use Rattle.world_laws.specs.Widths.{EntryFits, KeptFits, MailFits, ManagerFits}
use Rattle.world_laws.specs.Hearing.{IsSound, SaidFits, SentFits, WrittenFits, ListsFit, HeardFits}
use Rattle.world_laws.proofs.AgentSayings.{agent_says}
use Rattle.world_laws.proofs.OtherKinds.{agreed_or, message_same, stays_other}
use Rattle.world_laws.proofs.ManagerWidths.{InputFits, TurnFits, turn_fits, opened_fits}
use Rattle.world_laws.proofs.MuxSayings.{mux_says}
use Rattle.world_laws.proofs.Spelled.{mux_spelled, agent_spelled}
use Rattle.world_laws.proofs.StepWidths.{state_fits}

-- ---- who is configured

-- the nodes of a world are those of the first one
there_from : (cfg : ConfigParts) (bs : List Basic) (w : World) → AreNamed cfg bs → (x : NodeId)
    → is_there (fold (after cfg) w bs) x ≡ is_there w x
there_from cfg [] w named x = refl
there_from cfg (b ∷ bs) w named x = there_from cfg bs (after cfg w b) named.1 x ∙ (grows cfg w b named.0).1.there x

pub there_always : (cfg : ConfigParts) (w : World) → Reached cfg w → (x : NodeId) → is_there w x ≡ is_there (first_world cfg) x
unfolding world
there_always cfg w r x = ap (λ (v : World). is_there v x) r.is ∙ there_from cfg r.events (first_world cfg) r.named x

pub first_count : (cfg : ConfigParts) (node : ℕ → NodeId) (i n : ℕ) → length (first_sites cfg node i n) ≡ n
first_count cfg node i zero = refl
first_count cfg node i (suc n) = ap suc (first_count cfg node (i + 1) n)

some_get : {X : Type 0} (xs : List X) (i : ℕ) → nat_lt i (length xs) ≡ true → (x : X) × (slice_get xs i ≡ Some x)
some_get [] i e = absurd (grind (arith, nat_tests))
some_get (x ∷ xs) zero e = (x, refl)
some_get (x ∷ xs) (suc i) e = some_get xs i (grind (arith, nat_tests))

below : (i m n : ℕ) → nat_lt i m ≡ true → m ≡ n → nat_lt i n ≡ true
below i m n e same = subst (λ (k : ℕ). nat_lt i k ≡ true) same e

-- a node of the first world has a socket
configured : (cfg : ConfigParts) → IsSound cfg → (x : NodeId) → is_there (first_world cfg) x ≡ true
    → (socket : Socket) × (socket_of cfg x ≡ Some socket)
unfolding is_there first_world
configured cfg sound (Replica i) e =
    some_get cfg.replicas i (below i _ _ e (first_count cfg Replica 0 5 ∙ sym sound.lengths.replicas))
configured cfg sound (Mux i) e = some_get cfg.muxes i (below i _ _ e (first_count cfg Mux 0 (length cfg.muxes)))
configured cfg sound (Agent i) e =
    let found = some_get cfg.agents i (below i _ _ e (first_count cfg Agent 0 (length cfg.agents))) in
    (found.0.socket, ap (option_map (λ (a : AgentConf). a.socket)) found.1)

-- what a node sends comes from its socket
pub home_is : (cfg : ConfigParts) → IsSound cfg → (x : NodeId) → is_there (first_world cfg) x ≡ true
    → who_of cfg (home cfg x) ≡ node_owner x
home_is cfg sound x e =
    let has = configured cfg sound x e in
    ap (λ (o : Option Socket). who_of cfg (unwrap_or o cfg.router)) has.1 ∙ sound.owners.nodes x has.0 has.1

-- ---- messages of the agreement among datagrams

pub mail_in : (ss : List Sent) (j i : ℕ) (m : Message) (b : Body) → body_in m ≡ Some b
    → In (record { from = Replica j; to = ToNode (Replica i); said = Says m }) ss → Contains (mails_of ss) (mail j b i)
unfolding mails_of
mail_in [] j i m b e h = absurd h
mail_in (s ∷ ss) j i m b e h = elim h [
  | inl is ↦ Contains-append_left (mail_of s) (flat_map mail_of ss) (mail j b i)
      (subst (λ (d : Sent). Contains (mail_of d) (mail j b i)) (sym is)
      (subst (λ (o : Option Body). Contains (mail_to j i o) (mail j b i)) (sym e) (0, omega arith, refl)))
  | inr old ↦ Contains-append_right (mail_of s) (flat_map mail_of ss) (mail j b i) (mail_in ss j i m b e old)
]

-- ---- what is heard

-- what replica i hears was said, and fits
record Truth (w : World) (i : ℕ) (h : Heard) : Type 0 where
  said : WasSaid (view w) i h
  fits : HeardFits h

pub heard_is : (cfg : ConfigParts) (from : Socket) (m : Message)
    → heard cfg from (datagram (Says m)) ≡ decoded (who_of cfg from) (message_at (message_bytes m))
unfolding heard datagram
heard_is cfg from m = refl

pub brought_is : (cfg : ConfigParts) (from : Socket) (packet : List ℕ)
    → heard cfg from (datagram (Carries packet)) ≡ Brought (who_of cfg from) packet
unfolding heard datagram
brought_is cfg from packet = refl

admitted_by : (P : Heard → Type 0) (sender : Who) (m : Message) → P (Refused NotFromMux) → P (of_node sender m)
    → P (admitted sender m)
unfolding admitted
admitted_by P sender m refused told = by_if P (is_redirect m && not (is_mux sender)) (λ _. refused) (λ _. told)

some_same : {X : Type 0} (a b : X) → Some a ≡ Some b → a ≡ b
some_same a b e = cc

-- a message of the agreement that was sent, and fits, is heard as it was sent
agreed_truth : (w : World) (i j : ℕ) (m : Message) (b : Body) → j < 5 → body_in m ≡ Some b → message_of b ≡ m
    → Each MailFits (mail_to j i (body_in m))
    → In (record { from = Replica j; to = ToNode (Replica i); said = Says m }) w.sent
    → (x : Message) → message_at (message_bytes m) ≡ Ok x → Truth w i (Told (Replica j) x)
unfolding view
agreed_truth w i j m b five is back fits sent x e =
    let fit = subst (λ (o : Option Body). Each MailFits (mail_to j i o)) is fits in
    let allowed : IsMessage m = subst IsMessage back fit.0.1 in
    let same : x ≡ m = message_same x m (sym e ∙ message_again m allowed) in
    record {
      said = λ c heard. (let one : b ≡ c = some_same b c (sym is ∙ ap body_in (sym same) ∙ heard) in
          subst (λ (d : Body). Contains (mails_of w.sent) (mail j d i)) one (mail_in w.sent j i m b is sent));
      fits = (five, λ c heard. subst IsMessage (sym same) allowed);
    }

-- any other is heard as another
other_truth : (w : World) (i j : ℕ) (m : Message) → j < 5 → body_in m ≡ None → (x : Message)
    → message_at (message_bytes m) ≡ Ok x → Truth w i (Told (Replica j) x)
other_truth w i j m five none x e =
    let other : body_in x ≡ None = stays_other m x none e in
    record {
      said = λ c heard. absurd (nothing c (sym other ∙ heard));
      fits = (five, λ c heard. absurd (nothing c (sym other ∙ heard)));
    }
  where
    nothing : (c : Body) → None ≡ Some c → ⊥
    nothing c e = cc

replica_truth : (w : World) (i j : ℕ) (m : Message) → j < 5 → Each MailFits (mail_to j i (body_in m))
    → In (record { from = Replica j; to = ToNode (Replica i); said = Says m }) w.sent
    → (r : Result Message MessageFault) → message_at (message_bytes m) ≡ r → Truth w i (decoded (who.Replica j) r)
replica_truth w i j m five fits sent (Err fault) e = record { said = tt; fits = tt }
replica_truth w i j m five fits sent (Ok x) e =
    admitted_by (Truth w i) (who.Replica j) x (record { said = tt; fits = tt })
    (elim (agreed_or m) [
      | inl none ↦ other_truth w i j m five none x e
      | inr some ↦ agreed_truth w i j m some.0 five some.1 some.2 fits sent x e
    ])

-- what a mux or an agent says, in bytes, is read as a message
spelled_truth : (w : World) (i : ℕ) (n : NodeId) (m : Message) → ((x : Message) → IsMessage x → Truth w i (of_node (node_owner n) x))
    → AreBytes (message_bytes m) → (r : Result Message MessageFault) → message_at (message_bytes m) ≡ r
    → Truth w i (decoded (node_owner n) r)
spelled_truth w i n m told bytes (Err fault) e = record { said = tt; fits = tt }
spelled_truth w i n m told bytes (Ok x) e =
    admitted_by (Truth w i) (node_owner n) x (record { said = tt; fits = tt })
    (told x (message_is (message_bytes m) x bytes e).1)

owner_below : (cfg : ConfigParts) → IsSound cfg → (socket : Socket) (x : NodeId) → who_of cfg socket ≡ node_owner x
    → IsOwner cfg (node_owner x)
owner_below cfg sound socket x e = subst (IsOwner cfg) e (sound.owners.configured socket)

message_truth : (cfg : ConfigParts) → IsSound cfg → (w : World) (i : ℕ) (n : NodeId) (m : Message) (socket : Socket)
    → who_of cfg socket ≡ node_owner n → SaidFits n (ToNode (Replica i)) (Says m)
    → In (record { from = n; to = ToNode (Replica i); said = Says m }) w.sent
    → Truth w i (decoded (node_owner n) (message_at (message_bytes m)))
message_truth cfg sound w i (Replica j) m socket own fits sent =
    let five : j < 5 = (let lt = owner_below cfg sound socket (Replica j) own in
    let count = sound.lengths.replicas in omega arith) in
    replica_truth w i j m five fits sent (message_at (message_bytes m)) refl
message_truth cfg sound w i (Mux j) m socket own fits sent =
    spelled_truth w i (Mux j) m (λ x is. record { said = tt; fits = is }) fits (message_at (message_bytes m)) refl
message_truth cfg sound w i (Agent j) m socket own fits sent =
    let few : j < 2 ^ 16 = (let lt = owner_below cfg sound socket (Agent j) own in
    let count = sound.lengths.agents.1 in omega arith) in
    spelled_truth w i (Agent j) m (λ x is. record { said = tt; fits = (few, is) }) fits (message_at (message_bytes m)) refl

-- a datagram that was sent
sent_truth : (cfg : ConfigParts) → IsSound cfg → (w : World) (i : ℕ) (n : NodeId) (said : Said)
    → who_of cfg (home cfg n) ≡ node_owner n → SaidFits n (ToNode (Replica i)) said
    → In (record { from = n; to = ToNode (Replica i); said = said }) w.sent
    → Truth w i (heard cfg (home cfg n) (datagram said))
sent_truth cfg sound w i n (Says m) own fits sent =
    subst (Truth w i) (sym (heard_is cfg (home cfg n) m ∙ ap (λ (o : Who). decoded o (message_at (message_bytes m))) own))
    (message_truth cfg sound w i n m (home cfg n) own fits sent)
sent_truth cfg sound w i n (Carries packet) own fits sent =
    subst (Truth w i) (sym (brought_is cfg (home cfg n) packet)) (record { said = tt; fits = tt })

-- what comes from outside is told by no node
outside_truth : (w : World) (i : ℕ) (o : Who) (f : Option Framed) → is_node o ≡ false → Truth w i (framed_by o f)
outside_truth w i o None e = record { said = tt; fits = tt }
outside_truth w i o (Some (Rattle.control_msg.specs.Frames.Packet packet)) e = record { said = tt; fits = tt }
outside_truth w i o (Some (Rattle.control_msg.specs.Frames.Control bytes)) e = by (message_at bytes)
  where
    owner : (o : Who) (x : Message) → is_node o ≡ false → Truth w i (of_node o x)
    owner (who.Replica j) x e = absurd (cc)
    owner (who.Mux j) x e = absurd (cc)
    owner (who.Agent j) x e = absurd (cc)
    owner (who.Machine machine) x e = record { said = tt; fits = tt }
    owner who.Outside x e = record { said = tt; fits = tt }

    by : (r : Result Message MessageFault) → Truth w i (decoded o r)
    by (Err fault) = record { said = tt; fits = tt }
    by (Ok x) = admitted_by (Truth w i) o x (record { said = tt; fits = tt }) (owner o x e)

outside_heard : (cfg : ConfigParts) (w : World) (i : ℕ) (from : Socket) (bytes : List ℕ) → is_node (who_of cfg from) ≡ false
    → Truth w i (heard cfg from bytes)
unfolding heard
outside_heard cfg w i from bytes e = outside_truth w i (who_of cfg from) (frame_at bytes) e

-- ---- inputs

-- an input is true, and fits
pub record TrueInput (cfg : ConfigParts) (w : World) (i : ℕ) (x : Input) : Type 0 where
  pub said : IsTrue cfg (view w) i x
  pub fits : InputFits cfg x

arrived : (cfg : ConfigParts) (w : World) (i : ℕ) (from : Socket) (bytes : List ℕ) → Truth w i (heard cfg from bytes)
    → TrueInput cfg w i (Arrived from bytes)
arrived cfg w i from bytes t = record { said = t.said; fits = t.fits }

pub given_true : (cfg : ConfigParts) → IsSound cfg → (w : World) → Reached cfg w → Each (SentFits w) w.sent → (i : ℕ)
    → (x : Input) → Given cfg w (Replica i) x → TrueInput cfg w i x
given_true cfg sound w r fits i x (IsTick now is) = subst (TrueInput cfg w i) (sym is) (record { said = tt; fits = tt })
given_true cfg sound w r fits i x (IsInjected from bytes outside is) =
    subst (TrueInput cfg w i) (sym is) (arrived cfg w i from bytes (outside_heard cfg w i from bytes outside))
given_true cfg sound w r fits i x (IsSent s sent to is) =
    let all : SendersAreThere w = subst SendersAreThere (sym r.is) (senders cfg r.events r.named) in
    let there : is_there (first_world cfg) s.from ≡ true =
    sym (there_always cfg w r s.from) ∙ each_in _ w.sent s all sent in
    let own : who_of cfg (home cfg s.from) ≡ node_owner s.from = home_is cfg sound s.from there in
    let fit : SaidFits s.from (ToNode (Replica i)) s.said =
    subst (λ (p : Place). SaidFits s.from p s.said) to (each_in (SentFits w) w.sent s fits sent) in
    let at_me : In (record { from = s.from; to = ToNode (Replica i); said = s.said }) w.sent =
    subst (λ (p : Place). In (record { from = s.from; to = p; said = s.said }) w.sent) to sent in
    subst (TrueInput cfg w i) (sym is) (arrived cfg w i (home cfg s.from) (datagram s.said)
    (sent_truth cfg sound w i s.from s.said own fit at_me))

-- ---- every world

each_sent : (cfg : ConfigParts) (w : World) (x : NodeId) (sends : List Send)
    → Each (λ (s : Send). SaidFits x s.to s.said) sends → Each (SentFits w) (all_sent cfg x sends)
each_sent cfg w x sends h = each_map (SentFits w) (sent_by x) (filter (is_placed cfg) sends)
    (each_passing (λ (s : Send). SaidFits x s.to s.said) (is_placed cfg) sends
    (λ s i _. each_in (λ (s : Send). SaidFits x s.to s.said) sends s h i))

each_mail : (me : ℕ) (sends : List Send) → Each MailFits (mails_in me sends)
    → Each (λ (s : Send). Each MailFits (mail_at me s.to s.said)) sends
unfolding mails_in
each_mail me [] h = tt
each_mail me (s ∷ sends) h = (
  each_left MailFits (mail_at me s.to s.said) _ h,
  each_mail me sends (each_right MailFits (mail_at me s.to s.said) _ h),
)
  where
    each_right : (P : Mail → Type 0) (xs ys : List Mail) → Each P (xs ++ ys) → Each P ys
    each_right P [] ys h = h
    each_right P (x ∷ xs) ys h = each_right P xs ys h.1

few_muxes : (cfg : ConfigParts) → IsSound cfg → length cfg.muxes ≤ 16
few_muxes cfg sound = sound.lengths.muxes.1

kept_listed : (u : World) (i : ℕ) (o : Option Entry) → KeptFits o → Each (WrittenFits u (Replica i)) (listed o)
kept_listed u i None h = tt
kept_listed u i (Some e) h = (h, tt)

none_listed : (u : World) (x : NodeId) → ((e : Entry) → WrittenFits u x e) → (es : List Entry) → Each (WrittenFits u x) es
none_listed u x h [] = tt
none_listed u x h (e ∷ es) = (h e, none_listed u x h es)

-- what a turn of a replica adds
pub manager_turn_fits : (cfg : ConfigParts) → IsSound cfg → (w : World) → Reached cfg w → Each (SentFits w) w.sent → (i : ℕ)
    → (m : Manager) (x : Input) → (m.index ≡ i) × ManagerFits cfg m → Given cfg w (Replica i) x
    → TurnFits cfg i (manager_step cfg m x)
manager_turn_fits cfg sound w r fits i m x h given =
    subst (λ (k : ℕ). TurnFits cfg k (manager_step cfg m x)) h.0
    (turn_fits cfg m x (few_muxes cfg sound) h.1 (given_true cfg sound w r fits i x given).fits)

turn_keeps : (cfg : ConfigParts) → IsSound cfg → (w u : World) (x : NodeId) (l : Lists) (i : Input) → Reached cfg w
    → Each (SentFits w) w.sent → ListsFit cfg w x l → Given cfg w x i
    → Each (SentFits u) (all_sent cfg x (node_turn cfg l i).sends)
    × Each (WrittenFits u x) (listed (node_turn cfg l i).entry)
    × ListsFit cfg u x (node_turn cfg l i).state
turn_keeps cfg sound w u (Replica j) (OfManager m) i r fits h given =
    let t : TurnFits cfg j (manager_step cfg m i) = manager_turn_fits cfg sound w r fits j m i h given in (
      each_sent cfg u (Replica j) (manager_step cfg m i).sends (each_mail j (manager_step cfg m i).sends t.sends),
      kept_listed u j (manager_step cfg m i).entry t.entry,
      (t.index, t.state),
    )
turn_keeps cfg sound w u (Mux j) (OfMux m) i r fits h given = (
  each_sent cfg u (Mux j) (mux_step cfg m i).sends
      (each_on _ _ (λ (s : Send) k. mux_spelled m.gate.boot s.said k) (mux_step cfg m i).sends (mux_says cfg m i)),
  none_listed u (Mux j) (λ e. tt) _,
  tt,
)
turn_keeps cfg sound w u (Agent j) (OfAgent a) i r fits h given =
    let b : AgentLists = (agent_step cfg a i).state in (
      each_sent cfg u (Agent j) (agent_step cfg a i).sends
          (each_on _ _ (λ (s : Send) k. agent_spelled b.boot b.traffic.ranges.returning s.said k)
          (agent_step cfg a i).sends (agent_says cfg a i)),
      none_listed u (Agent j) (λ e. tt) _,
      tt,
    )
turn_keeps cfg sound w u (Replica j) (OfMux m) i r fits h given = absurd h
turn_keeps cfg sound w u (Replica j) (OfAgent a) i r fits h given = absurd h
turn_keeps cfg sound w u (Mux j) (OfManager m) i r fits h given = absurd h
turn_keeps cfg sound w u (Mux j) (OfAgent a) i r fits h given = absurd h
turn_keeps cfg sound w u (Agent j) (OfManager m) i r fits h given = absurd h
turn_keeps cfg sound w u (Agent j) (OfMux m) i r fits h given = absurd h

-- an opening
opening_keeps : (cfg : ConfigParts) (w u : World) (x : NodeId) (es : List Entry) → Each (WrittenFits w x) es
    → WrittenFits u x (boot_entry x es) × ListsFit cfg u x (opened cfg x (booted x es))
unfolding opened opened_manager
opening_keeps cfg w u (Replica i) es h =
    (tt, (refl, opened_fits cfg i _ (state_fits (booted (Replica i) es) (each_append EntryFits es _ h (tt, tt)))))
opening_keeps cfg w u (Mux i) es h = (tt, tt)
opening_keeps cfg w u (Agent i) es h = (tt, tt)

written_on : (w u : World) (x : NodeId) (e : Entry) → WrittenFits w x e → WrittenFits u x e
written_on w u (Replica i) e h = h
written_on w u (Mux i) e h = h
written_on w u (Agent i) e h = h

lists_on : (cfg : ConfigParts) (w u : World) (x : NodeId) (l : Lists) → ListsFit cfg w x l → ListsFit cfg u x l
lists_on cfg w u (Replica i) (OfManager m) h = h
lists_on cfg w u (Mux i) (OfMux m) h = h
lists_on cfg w u (Agent i) (OfAgent a) h = h
lists_on cfg w u (Replica i) (OfMux m) h = absurd h
lists_on cfg w u (Replica i) (OfAgent a) h = absurd h
lists_on cfg w u (Mux i) (OfManager m) h = absurd h
lists_on cfg w u (Mux i) (OfAgent a) h = absurd h
lists_on cfg w u (Agent i) (OfManager m) h = absurd h
lists_on cfg w u (Agent i) (OfMux m) h = absurd h

-- ---- the first world

first_get : (cfg : ConfigParts) (node : ℕ → NodeId) (P : ℕ → Site → Type 0) → ((j : ℕ) → P j nobody)
    → ((j : ℕ) → P j (first_site cfg (node j))) → (i n k j : ℕ) → j ≡ i + k
    → P j (slice_index_or (first_sites cfg node i n) k nobody)
first_get cfg node P none one i zero k j e = none j
first_get cfg node P none one i (suc n) zero j e =
    let same : i ≡ j = omega arith in subst (λ (k : ℕ). P k (first_site cfg (node i))) same (one i)
first_get cfg node P none one i (suc n) (suc k) j e = first_get cfg node P none one (i + 1) n k j (omega arith)

-- each node of the first world was opened on an empty disk
pub first_have : (cfg : ConfigParts) (P : NodeId → Site → Type 0) → ((x : NodeId) → P x nobody)
    → ((x : NodeId) → P x (first_site cfg x)) → (x : NodeId) → P x (site (first_world cfg) x)
unfolding first_world site
first_have cfg P none one (Replica i) =
    first_get cfg Replica (λ j s. P (Replica j) s) (λ j. none (Replica j)) (λ j. one (Replica j)) 0 5 i i (omega arith)
first_have cfg P none one (Mux i) =
    first_get cfg Mux (λ j s. P (Mux j) s) (λ j. none (Mux j)) (λ j. one (Mux j)) 0 (length cfg.muxes) i i (omega arith)
first_have cfg P none one (Agent i) =
    first_get cfg Agent (λ j s. P (Agent j) s) (λ j. none (Agent j)) (λ j. one (Agent j)) 0 (length cfg.agents) i i
    (omega arith)

-- a fact of each entry and of the lists
abbrev pub SiteHas : (NodeId → Entry → Type 0) → (NodeId → Lists → Type 0) → NodeId → Site → Type 0
SiteHas E Q x s = Each (E x) s.entries × ((l : Lists) → s.up ≡ Some l → Q x l)

pub none_said : (cfg : ConfigParts) (P : World → Sent → Type 0) → Each (P (first_world cfg)) (first_world cfg).sent
unfolding first_world
none_said cfg P = tt

-- so what holds of an opening on an empty disk holds of the first world
pub first_holds : (cfg : ConfigParts) (P : World → Sent → Type 0) (E : World → NodeId → Entry → Type 0)
    (Q : World → NodeId → Lists → Type 0)
    → ((x : NodeId) → E (first_world cfg) x (boot_entry x []) × Q (first_world cfg) x (opened cfg x (booted x [])))
    → Holds P E Q (first_world cfg)
first_holds cfg P E Q h = record { said = none_said cfg P; kept = λ x. (has x).0; lists = λ x l e. (has x).1 l e }
  where
    has : (x : NodeId) → SiteHas (E (first_world cfg)) (Q (first_world cfg)) x (site (first_world cfg) x)
    has x = first_have cfg (SiteHas (E (first_world cfg)) (Q (first_world cfg))) (λ y. (tt, λ l e. absurd (cc)))
        (λ y. (((h y).0, tt), λ l e. subst (Q (first_world cfg) y) (some_same _ l e) (h y).1)) x

-- ---- the law

hearing_keeps : (cfg : ConfigParts) → IsSound cfg → Keeps cfg SentFits WrittenFits (ListsFit cfg)
hearing_keeps cfg sound = record {
  said_lasts = λ x w u z g s h. h;
  kept_lasts = λ x w u z g y e h. written_on w u y e h;
  lists_last = λ x w u z g y ne l h. lists_on cfg w u y l h;
  lists_rest = λ x w u z g same sent l h. lists_on cfg w u x l h;
  opening = λ w u x s h g d n. opening_keeps cfg w u x (disk w x) (h.kept x);
  turn = λ w u x l i s h g was given m. turn_keeps cfg sound w u x l i s.before h.said (h.lists x l was) given;
  cut = λ w u x l i s h g was given m. (turn_keeps cfg sound w u x l i s.before h.said (h.lists x l was) given).1;
  first = first_holds cfg SentFits WrittenFits (ListsFit cfg) (λ x. opening_keeps cfg (first_world cfg) (first_world cfg) x [] tt);
}

pub hearing : (cfg : ConfigParts) → IsSound cfg → (bs : List Basic) → AreNamed cfg bs
    → Holds SentFits WrittenFits (ListsFit cfg) (world cfg bs)
hearing cfg sound bs named = always cfg SentFits WrittenFits (ListsFit cfg) (hearing_keeps cfg sound) bs named

-- of a reached world
pub hearing_at : (cfg : ConfigParts) → IsSound cfg → (w : World) → Reached cfg w
    → Holds SentFits WrittenFits (ListsFit cfg) w
hearing_at cfg sound w r =
    subst (Holds SentFits WrittenFits (ListsFit cfg)) (sym r.is) (hearing cfg sound r.events r.named)
