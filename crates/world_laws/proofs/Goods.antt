-- Each turn of a manager is one good step of the agreement.
use Rattle.std.proofs.Common.{◌≡◌, refl, ℕ, true, false, Bool, [], ◌∷◌, ◌++◌, Option, Some, None, sym, ap, ◌∙◌, subst, append-nil}
use Rattle.std.specs.Prelude.{length, if◌then◌else◌, ◌==◌, ◌&&◌, not, nat_lt, nat_le, ◌-◌, max, Contains}
use Rattle.wire_core.specs.Steps.{first_of}
use Rattle.wire_core.specs.declared.entry.Entry.{Entry}
use Rattle.wire_core.specs.declared.node.NodeId.{NodeId}
use Rattle.wire_core.specs.declared.node.NodeId.TheVariants.{Replica, Mux, Agent}
use Rattle.control_msg.specs.declared.message.Message.{Message}
use Rattle.control_msg.specs.declared.message.Message.TheVariants as message
use Rattle.vip_config.specs.declared.parts.ConfigParts.{ConfigParts}
use Rattle.paxos_spec.specs.declared.mail.Body.{Body}
use Rattle.paxos_spec.specs.declared.mail.Body.TheVariants as body
use Rattle.paxos_spec.specs.declared.stage.Stage.{Stage}
use Rattle.paxos_spec.specs.declared.stage.Stage.TheVariants.{Primary, Follower, Candidate, Catching, Inheriting}
use Rattle.paxos_spec.specs.Votes.{Value}
use Rattle.paxos_spec.specs.Acceptor.{AcceptorState, reach, kept}
use Rattle.paxos_spec.specs.Leader.{is_primary, is_follower, value_out}
use Rattle.paxos_spec.specs.Replica.{Memory, Out, quiet, mail, down, accept_of, on_message, on_offer}
use Rattle.paxos_spec.specs.Agreement.{Disk, View, grown}
use Rattle.paxos_laws.specs.Steps.{GoodOut, Moves}
use Rattle.paxos_laws.proofs.Named as paxos
use Rattle.node_spec.specs.Datagrams.{heard, Heard, Refused, Told, Brought, by_heard}
use Rattle.node_spec.specs.Turns.{Input, Turn, Arrived, Ticked, also, drop_turn}
use Rattle.wire_core.specs.declared.cause.DropCause.{DropCause}
use Rattle.wire_core.specs.declared.cause.DropCause.TheVariants.{WrongRole}
use Rattle.manager_spec.specs.Footprints.{LeavesAllButOffer}
use Rattle.manager_spec.specs.ManagerTable.{refuses, manager_hears, manager_takes, manager_half, manager_step}
use Rattle.manager_spec.specs.Proposal.{Half, propose, whole}
use Rattle.manager_spec.proofs.AgreedRows.{tick_is}
use Rattle.manager_spec.proofs.LeasedRows.{message_is, proposal_is}
use Rattle.manager_spec.proofs.Leaves.{proposal_leaves}
use Rattle.manager_spec.proofs.Mails.{mails_append}
use Rattle.manager_spec.specs.Agreement.{IsStep, body_in, replica_step, message_step, mux_memory, tick_step, proposal_step, proposed, mails_in}
use Rattle.manager_spec.specs.Known.{peer}
use Rattle.manager_spec.specs.Leading.{led, with_seen}
use Rattle.manager_spec.specs.Manager.{Manager, effects_of}
use Rattle.manager_spec.specs.Muxes.{see_epoch}
use Rattle.world_laws.specs.Turns.{IsAt, Stands, GoodTurn, IsTrue, WasSaid, TurnsAreGood, out_of}

pub by_if : {X : Type 0} (P : X → Type 0) (b : Bool) {x y : X} → (b ≡ true → P x) → (b ≡ false → P y) → P (if b then x else y)
by_if P true f g = f refl
by_if P false f g = g refl

leader_same : (w : View) (i : ℕ) (m : Manager) → Stands w i m → m.memory.leader ≡ (w.memory i).leader
leader_same w i m s = ap (λ (x : Memory). x.leader) s.at.memory

-- ---- what comes

-- nothing changes but what was heard
hearing_good : (w : View) (i : ℕ) (m : Manager) (n : Memory) → Stands w i m → n.leader ≡ m.memory.leader → GoodOut None w i (quiet n)
hearing_good w i m n s same = paxos.hearing w i n s.here (same ∙ leader_same w i m s)

still_good : (w : View) (i : ℕ) (m : Manager) → Stands w i m → GoodOut None w i (quiet m.memory)
still_good w i m s = hearing_good w i m m.memory s refl

-- a message of the agreement that was sent
body_good : (w : View) (i : ℕ) (m : Manager) (j : ℕ) (b : Body) → Stands w i m → Contains w.sent (mail j b i)
    → GoodOut None w i (on_message m.index m.acceptor m.memory j b)
body_good w i m j b s at = rw (s.at.index, s.at.acceptor, s.at.memory) (paxos.message w i (mail j b i) s.here at)

-- a Lead
lead_good : (w : View) (i : ℕ) (m : Manager) (j ballot length : ℕ) → Stands w i m → GoodOut None w i (led m j ballot length)
lead_good w i m j ballot length s = rw s.at.index (
    by_if (GoodOut None w i) (nat_lt ballot m.acceptor.promise)
    (λ lower. paxos.saying w i m.memory (body.Refuse ballot m.acceptor.promise) (j ∷ []) s.here (leader_same w i m s) tt tt)
    (λ high. by_if (GoodOut None w i) (nat_lt (reach m.acceptor) length)
    (λ longer. paxos.saying w i _ (body.Fetch (reach m.acceptor)) (j ∷ []) s.here (leader_same w i m s) tt tt)
    (λ short. hearing_good w i m (with_seen m.memory ballot) s refl)))

-- what a replica sent
replica_good : (w : View) (i : ℕ) (m : Manager) (j : ℕ) (x : Message) → Stands w i m
    → ((b : Body) → body_in x ≡ Some b → Contains w.sent (mail j b i)) → GoodOut None w i (replica_step m j x)
replica_good w i m j (message.Prepare c) s g = body_good w i m j (body.Prepare c) s (g _ refl)
replica_good w i m j (message.Promise c l vote value) s g = body_good w i m j (body.Promise c l vote value) s (g _ refl)
replica_good w i m j (message.Accept c t v) s g = body_good w i m j (body.Accept c t v) s (g _ refl)
replica_good w i m j (message.Accepted c t) s g = body_good w i m j (body.Accepted c t) s (g _ refl)
replica_good w i m j (message.Refuse c p) s g = body_good w i m j (body.Refuse c p) s (g _ refl)
replica_good w i m j (message.Chosen t c v) s g = body_good w i m j (body.Chosen t c v) s (g _ refl)
replica_good w i m j (message.Fetch t) s g = body_good w i m j (body.Fetch t) s (g _ refl)
replica_good w i m j (message.Lead ballot length) s g = lead_good w i m j ballot length s
replica_good w i m j (message.Ask boot machine seq) s g = still_good w i m s
replica_good w i m j (message.Grant boot machine seq n vip start) s g = still_good w i m s
replica_good w i m j (message.Denied boot machine seq reason number) s g = still_good w i m s
replica_good w i m j (message.Return boot n) s g = still_good w i m s
replica_good w i m j (message.Returned boot n) s g = still_good w i m s
replica_good w i m j (message.AgentUp boot) s g = still_good w i m s
replica_good w i m j (message.AgentKnown boot) s g = still_good w i m s
replica_good w i m j (message.MuxHello boot epoch) s g = still_good w i m s
replica_good w i m j (message.Program epoch boot n vip start machine) s g = still_good w i m s
replica_good w i m j (message.Programmed epoch boot n) s g = still_good w i m s
replica_good w i m j (message.Unprogram epoch boot n vip start) s g = still_good w i m s
replica_good w i m j (message.Unprogrammed epoch boot n) s g = still_good w i m s
replica_good w i m j (message.MuxRefuse epoch boot kept) s g = still_good w i m s
replica_good w i m j (message.RedirectAsk src sport dst dport machine) s g = still_good w i m s
replica_good w i m j (message.Redirect side n src sport dst dport opener server) s g = still_good w i m s

-- an epoch is heard of
epoch_good : (w : View) (i : ℕ) (m : Manager) (epoch : ℕ) → Stands w i m → GoodOut None w i (quiet (see_epoch m.memory epoch))
epoch_good w i m epoch s = by_if (λ (n : Memory). GoodOut None w i (quiet n))
    (nat_lt m.memory.leader.ballot epoch && not (is_follower m.memory.leader.stage))
    (λ above. paxos.down w i (with_seen (down m.memory) epoch) s.here refl)
    (λ below. hearing_good w i m (with_seen m.memory epoch) s refl)

-- what a mux sent
mux_good : (w : View) (i : ℕ) (m : Manager) (j : ℕ) (x : Message) → Stands w i m → GoodOut None w i (quiet (mux_memory m j x))
mux_good w i m j (message.MuxHello boot epoch) s = by_if (λ (n : Memory). GoodOut None w i (quiet n)) (nat_lt boot (peer m j).boot)
    (λ late. still_good w i m s) (λ known. epoch_good w i m epoch s)
mux_good w i m j (message.MuxRefuse epoch boot kept) s = epoch_good w i m kept s
mux_good w i m j (message.Prepare c) s = still_good w i m s
mux_good w i m j (message.Promise c l vote value) s = still_good w i m s
mux_good w i m j (message.Accept c t v) s = still_good w i m s
mux_good w i m j (message.Accepted c t) s = still_good w i m s
mux_good w i m j (message.Refuse c p) s = still_good w i m s
mux_good w i m j (message.Chosen t c v) s = still_good w i m s
mux_good w i m j (message.Fetch t) s = still_good w i m s
mux_good w i m j (message.Lead ballot length) s = still_good w i m s
mux_good w i m j (message.Ask boot machine seq) s = still_good w i m s
mux_good w i m j (message.Grant boot machine seq n vip start) s = still_good w i m s
mux_good w i m j (message.Denied boot machine seq reason number) s = still_good w i m s
mux_good w i m j (message.Return boot n) s = still_good w i m s
mux_good w i m j (message.Returned boot n) s = still_good w i m s
mux_good w i m j (message.AgentUp boot) s = still_good w i m s
mux_good w i m j (message.AgentKnown boot) s = still_good w i m s
mux_good w i m j (message.Program epoch boot n vip start machine) s = still_good w i m s
mux_good w i m j (message.Programmed epoch boot n) s = still_good w i m s
mux_good w i m j (message.Unprogram epoch boot n vip start) s = still_good w i m s
mux_good w i m j (message.Unprogrammed epoch boot n) s = still_good w i m s
mux_good w i m j (message.RedirectAsk src sport dst dport machine) s = still_good w i m s
mux_good w i m j (message.Redirect side n src sport dst dport opener server) s = still_good w i m s

-- ---- the clock

is_primary_stage : (g : Stage) → is_primary g ≡ true → g ≡ Primary
is_primary_stage Primary is = refl
is_primary_stage Follower is = absurd (cc)
is_primary_stage Candidate is = absurd (cc)
is_primary_stage Catching is = absurd (cc)
is_primary_stage Inheriting is = absurd (cc)

-- what is outstanding, once more
again_good : (w : View) (i : ℕ) (m : Manager) (o : Option Value) → Stands w i m → is_primary m.memory.leader.stage ≡ true
    → value_out m.memory.leader.out ≡ o
    → GoodOut None w i (record { entry = None; memory = m.memory; sends = accept_of m.index (reach m.acceptor) m.memory.leader.ballot o })
again_good w i m None s primary is = still_good w i m s
again_good w i m (Some v) s primary is = rw (s.at.index, s.at.acceptor, s.at.memory) (
    paxos.resend w i v s.here
    (is_primary_stage _ (subst (λ (x : Memory). is_primary x.leader.stage ≡ true) s.at.memory primary))
    (subst (λ (x : Memory). value_out x.leader.out ≡ Some v) s.at.memory is))

tick_good : (cfg : ConfigParts) (w : View) (i : ℕ) (m : Manager) (now : ℕ) → Stands w i m → GoodOut None w i (tick_step cfg m now)
tick_good cfg w i m now s = by_if (GoodOut None w i) (is_primary m.memory.leader.stage)
    (λ primary. again_good w i m (value_out m.memory.leader.out) s primary refl)
    (λ other. by_if (GoodOut None w i) (nat_le cfg.timers.lead_silent (max m.time now - m.heard))
    (λ silent. rw (s.at.index, s.at.acceptor, s.at.memory) (paxos.campaign w i s.here))
    (λ heard. still_good w i m s))

-- ---- the proposal

-- what is offered: a value that isn't empty
pub offer : ConfigParts → Manager → Option Value
offer cfg n = if length (proposed cfg n) == 0 then None else Some (proposed cfg n)

-- a value that is offered
value_good : (v : View) (i : ℕ) (n : Manager) (x : Value) → Stands v i n
    → GoodOut (Some x) v i (on_offer n.index n.acceptor n.memory x)
value_good v i n x s = rw (s.at.index, s.at.acceptor, s.at.memory) (paxos.offer v i x s.here)

offer_good : (cfg : ConfigParts) (v : View) (i : ℕ) (n : Manager) → Stands v i n → GoodOut (offer cfg n) v i (proposal_step cfg n)
unfolding offer
offer_good cfg v i n s = by_test (length (proposed cfg n) == 0) refl
  where
    by_test : (b : Bool) → (length (proposed cfg n) == 0) ≡ b
        → GoodOut (if b then None else Some (proposed cfg n)) v i
        (if b then quiet n.memory else on_offer n.index n.acceptor n.memory (proposed cfg n))
    by_test true is = still_good v i n s
    by_test false is = value_good v i n (proposed cfg n) s

-- ---- a row

row_good : (w : View) (i : ℕ) (m : Manager) (from : NodeId) (x : Message) → Stands w i m
    → ((j : ℕ) → from ≡ Replica j → (b : Body) → body_in x ≡ Some b → Contains w.sent (mail j b i))
    → GoodOut None w i (message_step m from x)
row_good w i m (Replica j) x s g = replica_good w i m j x s (g j refl)
row_good w i m (Mux j) x s g = mux_good w i m j x s
row_good w i m (Agent j) x s g = still_good w i m s

-- a row that is a step is one for the whole turn
turn_of : (cfg : ConfigParts) (f : Option Value) (w : View) (i : ℕ) (m : Manager) (t : Turn Manager) (o : Out) → Stands w i m
    → IsStep cfg m t o → GoodOut f w i o → GoodTurn cfg f w i m t
turn_of cfg f w i m t o s is good = record {
  index = is.index ∙ s.at.index;
  acceptor = rw is.entry is.acceptor;
  acts = rw is.entry is.acts;
  good = subst (GoodOut f w i) (sym same) good;
}
  where
    same : out_of m t ≡ o
    same = rw (is.entry, is.memory, is.mails) refl

-- a dropped input
drop_good : (cfg : ConfigParts) (w : View) (i : ℕ) (m : Manager) (cause : DropCause) → Stands w i m
    → GoodTurn cfg None w i m (drop_turn m cause)
unfolding mails_in effects_of
drop_good cfg w i m cause s = record { index = s.at.index; acceptor = refl; acts = refl; good = still_good w i m s }

heard_good : (cfg : ConfigParts) (w : View) (i : ℕ) (m : Manager) (h : Heard) → Stands w i m → WasSaid w i h
    → GoodTurn cfg None w i m (by_heard (refuses m) (manager_hears cfg m) (manager_takes m) h).turn
heard_good cfg w i m (Refused cause) s g = drop_good cfg w i m cause s
heard_good cfg w i m (Told (Replica j) x) s g =
    turn_of cfg None w i m _ _ s (message_is cfg m (Replica j) x) (replica_good w i m j x s g)
heard_good cfg w i m (Told (Mux j) x) s g =
    turn_of cfg None w i m _ _ s (message_is cfg m (Mux j) x) (mux_good w i m j x s)
heard_good cfg w i m (Told (Agent j) x) s g =
    turn_of cfg None w i m _ _ s (message_is cfg m (Agent j) x) (still_good w i m s)
heard_good cfg w i m (Brought sender packet) s g = drop_good cfg w i m WrongRole s

half_good : (cfg : ConfigParts) (w : View) (i : ℕ) (m : Manager) (x : Input) → Stands w i m → IsTrue cfg w i x
    → GoodTurn cfg None w i m (manager_half cfg m x).turn
unfolding manager_half
half_good cfg w i m (Arrived from bytes) s g = heard_good cfg w i m (heard cfg from bytes) s g
half_good cfg w i m (Ticked now) s g = turn_of cfg None w i m _ _ s (tick_is cfg m now) (tick_good cfg w i m now s)

-- ---- the whole turn

first_none : (e : Option Entry) → first_of e None ≡ e
first_none None = refl
first_none (Some e) = refl

state_grown : (d : Disk) (e : Option Entry) → (grown d e).state ≡ kept d.state e
state_grown d None = refl
state_grown d (Some e) = refl

-- the lists after a row are what the view has then
pub still_at : (cfg : ConfigParts) (f : Option Value) (w v : View) (i : ℕ) (m : Manager) (t : Turn Manager) → IsAt w i m
    → GoodTurn cfg f w i m t → Moves w v i (out_of m t) → IsAt v i t.state
still_at cfg f w v i m t at good moves = record {
  index = good.index;
  acceptor = good.acceptor ∙ ap (λ (a : AcceptorState). kept a t.entry) at.acceptor ∙ sym (state_grown (w.disk i) t.entry)
      ∙ ap (λ (d : Disk). d.state) (sym moves.disk_same);
  memory = sym moves.memory_same;
}

-- with the proposal
proposed_good : (cfg : ConfigParts) (w : View) (i : ℕ) (m : Manager) (t : Turn Manager) → Stands w i m → GoodTurn cfg None w i m t
    → t.state.index ≡ m.index → GoodTurn cfg (offer cfg t.state) w i m (also t (propose cfg))
proposed_good cfg w i m t s good same =
    let n : Manager = t.state in
    let p : Turn Manager = propose cfg n in
    let left : LeavesAllButOffer n p = proposal_leaves cfg n in
    let is : IsStep cfg n p (proposal_step cfg n) = proposal_is cfg n in
    let out : out_of n p ≡ proposal_step cfg n = rw (is.entry, is.memory, is.mails) refl in
    let mails : mails_in m.index (t.sends ++ p.sends) ≡ mails_in m.index t.sends ++ mails_in n.index p.sends =
    mails_append m.index t.sends p.sends ∙ ap (λ (j : ℕ). mails_in m.index t.sends ++ mails_in j p.sends) (sym same) in
    record {
      index = left.index ∙ good.index;
      acceptor = rw (left.entry, first_none t.entry) (left.acceptor ∙ good.acceptor);
      acts = rw (left.entry, first_none t.entry, left.acts) (append-nil t.acts ∙ good.acts);
      good = rw (left.entry, first_none t.entry, mails)
          (paxos.both (offer cfg n) w i (out_of m t) (out_of n p) s.here left.entry
          (paxos.not_offered (offer cfg n) w i (out_of m t) good.good)
          (λ v here moves. subst (GoodOut (offer cfg n) v i) (sym out)
          (offer_good cfg v i n (record { here = here; at = still_at cfg None w v i m t s.at good moves }))));
    }

offer_is : (cfg : ConfigParts) (n : Manager) (x : Value) → offer cfg n ≡ Some x → x ≡ proposed cfg n
unfolding offer
offer_is cfg n x is = by_test (length (proposed cfg n) == 0) is
  where
    by_test : (b : Bool) → (if b then None else Some (proposed cfg n)) ≡ Some x → x ≡ proposed cfg n
    by_test true is = absurd (cc)
    by_test false is = cc

whole_good : (cfg : ConfigParts) (w : View) (i : ℕ) (m : Manager) (x : Input) (h : Half) → Stands w i m
    → GoodTurn cfg None w i m h.turn → (b : Bool) → h.proposes ≡ b
    → (f : Option Value) × GoodTurn cfg f w i m (if b then also h.turn (propose cfg) else h.turn)
    × ((v : Value) → f ≡ Some v → v ≡ proposed cfg h.turn.state)
whole_good cfg w i m x h s good true is = (
  offer cfg h.turn.state,
  proposed_good cfg w i m h.turn s good (good.index ∙ sym s.at.index),
  offer_is cfg h.turn.state,
)
whole_good cfg w i m x h s good false is = (None, good, λ v none. absurd (cc))

-- Whatever true input comes, the turn is one good step.
pub turns_are_good : TurnsAreGood
unfolding manager_step whole
turns_are_good cfg w i m x s g =
    let h : Half = manager_half cfg m x in
    let all = whole_good cfg w i m x h s (half_good cfg w i m x s g) h.proposes refl in
    record { offered = all.0; turn = all.1; why = all.2 }
