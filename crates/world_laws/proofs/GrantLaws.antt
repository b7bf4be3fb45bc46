-- In every world a replica tells an agent of granted leases alone.
use Rattle.std.proofs.Common.{◌≡◌, refl, sym, ap, subst, ◌∙◌, ◌⊎◌, inl, inr, ℕ, ◌<◌, true, false, Bool, List, [], ◌∷◌}
use Rattle.std.proofs.Common.{◌++◌, map, filter, take, drop, length, Option, Some, None, if◌then◌else◌, nat_lt, arith}
use Rattle.std.proofs.lemmas.Bool.Decides.{nat_tests}
use Rattle.std.proofs.lemmas.List.{append_assoc, length-map, map-append, take-append-drop}
use Rattle.wire_core.specs.Members.{In, Each}
use Rattle.wire_core.specs.Ranges.{range_at}
use Rattle.wire_core.specs.declared.address.Ip4.{Ip4}
use Rattle.wire_core.specs.declared.entry.Entry.{Entry}
use Rattle.wire_core.specs.declared.entry.Entry.TheVariants as entry
use Rattle.wire_core.specs.declared.node.NodeId.{NodeId}
use Rattle.wire_core.specs.declared.node.NodeId.TheVariants.{Replica, Mux, Agent}
use Rattle.wire_core.specs.declared.range.Range.{Range}
use Rattle.wire_core.specs.declared.rules.LeaseRules.{LeaseRules}
use Rattle.vip_config.specs.Leases.{lease_rules_of}
use Rattle.vip_config.specs.declared.parts.ConfigParts.{ConfigParts}
use Rattle.control_msg.specs.declared.message.Message.{Message}
use Rattle.control_msg.specs.declared.message.Message.TheVariants as message
use Rattle.lease_spec.proofs.MemberLaws.{each_in, each_map, each_on, each_passing, in_right}
use Rattle.lease_spec.proofs.PlaceLaws.{history_more}
use Rattle.lease_spec.proofs.TruthLaws.{lives_in_order, prepared_more, rows_told}
use Rattle.lease_spec.specs.Lives.{Birth, IsGranted}
use Rattle.lease_spec.specs.Places.{commands, slot_commands}
use Rattle.lease_spec.specs.Table.{Leases, apply, at_phase, history, table}
use Rattle.lease_spec.specs.Truths.{InOrder as Ordered, PhaseTold, Prepared, RowTold, WasBorn}
use Rattle.lease_spec.specs.declared.effect.Effect.{Effect}
use Rattle.lease_spec.specs.declared.effect.Effect.TheVariants as effect
use Rattle.lease_spec.specs.declared.row.Phase.{Phase}
use Rattle.lease_spec.specs.declared.row.Phase.TheVariants.{Leased}
use Rattle.lease_spec.specs.declared.row.Row.{Row}
use Rattle.paxos_laws.proofs.Named as laws
use Rattle.paxos_laws.specs.Steps.{Learns, EntryOk}
use Rattle.paxos_spec.specs.Acceptor.{AcceptorState, follow, most_slots, reach, with_learned}
use Rattle.paxos_spec.specs.Agreement.{Disk, View, grown, values_of}
use Rattle.paxos_spec.specs.Votes.{Value}
use Rattle.paxos_spec.specs.declared.cast.Cast.{Cast}
use Rattle.node_spec.specs.Sends.{Place, ToNode, ToMachine, ToRouter, Said, Says, Carries, Send}
use Rattle.node_spec.specs.Turns.{Input, Turn}
use Rattle.manager_spec.specs.Manager.{Manager, effects_of, leases, leases_of}
use Rattle.manager_spec.specs.ManagerTable.{manager_step}
use Rattle.world_spec.proofs.Principle.{always}
use Rattle.world_spec.proofs.SiteLaws.{up_is_there}
use Rattle.world_spec.specs.Events.{AreNamed, Basic, world}
use Rattle.world_spec.specs.Facts.{Holds, Keeps, Reached, Steps}
use Rattle.world_spec.specs.Nodes.{Lists, OfManager, OfMux, OfAgent, node_turn}
use Rattle.world_spec.specs.Shapes.{Given, TurnMoves}
use Rattle.world_spec.specs.World.{World, Sent, all_sent, at, first_world, is_placed, sent_by}
use Rattle.world_laws.specs.Grants.{AnswersAreTrue, IsAnswer, IsAnswerOf, IsForAgent, IsLease}
use Rattle.world_laws.specs.Hearing.{IsSound, ListsFit}
use Rattle.world_laws.specs.Living.{IsBorn, LivesGoOn, WasGranted, done}
use Rattle.world_laws.specs.Log.{InOrder, log}
use Rattle.world_laws.specs.Reasons.{AnyEntry}
use Rattle.world_laws.specs.Seen.{view}
use Rattle.world_laws.specs.Turns.{IsAt}
use Rattle.world_laws.proofs.Answers.{AllAnswer, Answers, ForAgent, IsGrantOf, MayGrant, step_right, answers_on}
use Rattle.world_laws.proofs.Books.{books_agree}
use Rattle.world_laws.proofs.Heard.{first_holds, hearing_at}
use Rattle.world_laws.proofs.InWorld.{Turned, in_order_at, number_of, turn_owes}
use Rattle.world_laws.proofs.Living.{born_on, granted_on, history_front, lives_go_on}
use Rattle.world_laws.proofs.ReasonLaws.{any_entry}

-- ---- from one world to the next

pub goes_on : (cfg : ConfigParts) → IsSound cfg → (w u : World) → Steps cfg w u → LivesGoOn cfg w u
goes_on cfg sound w u s = subst (LivesGoOn cfg w) (sym s.is) (lives_go_on cfg sound w s.event s.before s.named)

pub lease_on : (cfg : ConfigParts) (w u : World) → LivesGoOn cfg w u → (agent boot n : ℕ) (range : Range)
    (machine : Ip4)
    → IsLease cfg w agent boot n range machine → IsLease cfg u agent boot n range machine
lease_on cfg w u on agent boot n range machine h = record {
  born = h.born;
  birth = on.born n h.born h.birth;
  agent_is = h.agent_is;
  boot_is = h.boot_is;
  range_is = h.range_is;
  machine_is = h.machine_is;
  granted = on.granted n h.granted;
}

-- ---- of the table alone

order_in : (done es : List Effect) (e : Effect) → Ordered done es → In e es → Prepared (done ++ es) e
order_in done [] e h i = absurd i
order_in done (x ∷ xs) e h i = elim i [
  | inl same ↦ subst (Prepared (done ++ x ∷ xs)) same (prepared_more done (x ∷ xs) x h.0)
  | inr later ↦ subst (λ (l : List Effect). Prepared l e) (append_assoc done (x ∷ []) xs)
      (order_in (done ++ x ∷ []) xs e h.1 later)
]

-- a row that was born, and granted
pub record IsGrantedRow (es : List Effect) (row : Row) : Type 0 where
  pub was : WasBorn es row
  pub granted : IsGranted es row.n

pub prepared_by : (rules : LeaseRules) (values : List Value) (e : Effect) → In e (history rules (commands values))
    → Prepared (history rules (commands values)) e
prepared_by rules values e i =
    order_in [] (history rules (commands values)) e (lives_in_order rules (commands values)) i

by_effect : (rules : LeaseRules) (values : List Value) (row : Row)
    → In (effect.Granted row) (history rules (commands values)) → IsGrantedRow (history rules (commands values)) row
by_effect rules values row i = record {
  was = prepared_by rules values (effect.Granted row) i;
  granted = record { row = row; number = refl; done = i };
}

by_row : (rules : LeaseRules) (values : List Value) (row : Row) → In row (table rules values).rows → row.phase ≡ Leased
    → IsGrantedRow (history rules (commands values)) row
by_row rules values row i phase =
    let told : RowTold (history rules (commands values)) row =
    each_in (RowTold (history rules (commands values))) (table rules values).rows row
    (rows_told rules (commands values)) i in
    record {
      was = told.was;
      granted = subst (PhaseTold (history rules (commands values)) row.n) phase told.phase;
    }

row_on : (es more : List Effect) (row : Row) → IsGrantedRow es row → IsGrantedRow (es ++ more) row
row_on es more row h = record {
  was = record {
    born = h.was.born;
    birth = born_on es more row.n h.was.born h.was.birth;
    fields = h.was.fields;
  };
  granted = granted_on es more row.n h.granted;
}

-- what holds of a front of the log, holds of it
front_row : (cfg : ConfigParts) (w : World) (k : ℕ) (row : Row)
    → IsGrantedRow (history (lease_rules_of cfg) (commands (take k (log w)))) row → IsGrantedRow (done cfg w) row
front_row cfg w k row h =
    let rules : LeaseRules = lease_rules_of cfg in
    let f = history_front rules (take k (log w)) (drop k (log w)) in
    let whole : history rules (commands (take k (log w))) ++ f.0 ≡ done cfg w =
    sym f.1 ∙ ap (λ (vs : List Value). history rules (commands vs)) (take-append-drop k (log w)) in
    subst (λ (es : List Effect). IsGrantedRow es row) whole
    (row_on (history rules (commands (take k (log w)))) f.0 row h)

-- ---- of a replica

from_table : (cfg : ConfigParts) (w : World) → InOrder w → (i : ℕ) (r : Manager) → i < 5
    → at w (Replica i) ≡ Some (OfManager r) → (row : Row) → In row (leases cfg r).rows → row.phase ≡ Leased
    → IsGrantedRow (done cfg w) row
from_table cfg w ok i r lt was row there phase =
    let same : leases_of (lease_rules_of cfg) r.acceptor ≡ table (lease_rules_of cfg)
    (take (reach r.acceptor) (log w)) =
    (books_agree cfg w ok).lists i r lt was in
    front_row cfg w (reach r.acceptor) row
    (by_row (lease_rules_of cfg) (take (reach r.acceptor) (log w)) row
    (subst (λ (t : Leases). In row t.rows) same there) phase)

cast_value : Cast → Value
cast_value x = x.value

with_one : (a : AcceptorState) (ballot : ℕ) (value : Value) → reach a < most_slots
    → map (λ (x : Cast). x.value) (follow a (entry.Learn ballot value)).log
    ≡ map (λ (x : Cast). x.value) a.log ++ value ∷ []
with_one a ballot value room =
    let has : nat_lt (reach a) most_slots ≡ true = grind (arith, nat_tests, room) in
    ap (λ (b : Bool). map (λ (x : Cast). x.value) (if b then with_learned a ballot value else a).log) has
    ∙ map-append (λ (x : Cast). x.value) a.log (record { ballot = ballot; value = value } ∷ [])

-- what a replica learns is done by the log that it then has
learned_row : (cfg : ConfigParts) (w u : World) (i : ℕ) (r : Manager) (e : Option Entry) → i < 5 → InOrder u
    → IsAt (view w) i r → (view u).disk i ≡ grown ((view w).disk i) e
    → ((ballot : ℕ) (value : Value) → e ≡ Some (entry.Learn ballot value) → reach ((view w).disk i).state < most_slots)
    → (row : Row) → In (effect.Granted row) (effects_of (lease_rules_of cfg) r.acceptor e)
    → IsGrantedRow (done cfg u) row
unfolding effects_of leases_of
learned_row cfg w u i r None lt ok at same room row there = absurd there
learned_row cfg w u i r (Some (entry.Boot version role index boot)) lt ok at same room row there = absurd there
learned_row cfg w u i r (Some (entry.Promise ballot)) lt ok at same room row there = absurd there
learned_row cfg w u i r (Some (entry.Vote ballot value)) lt ok at same room row there = absurd there
learned_row cfg w u i r (Some (entry.Epoch epoch)) lt ok at same room row there = absurd there
learned_row cfg w u i r (Some (entry.Learn ballot value)) lt ok at same room row there =
    let rules : LeaseRules = lease_rules_of cfg in
    let a : AcceptorState = r.acceptor in
    let values : List Value = map (λ (x : Cast). x.value) a.log in
    let long : length values ≡ reach a = length-map a.log (λ (x : Cast). x.value) in
    let more : values_of ((view u).disk i) ≡ values ++ value ∷ [] =
    ap values_of same ∙ with_one ((view w).disk i).state ballot value (room ballot value refl)
    ∙ ap (λ (b : AcceptorState). map (λ (x : Cast). x.value) b.log ++ value ∷ []) (sym at.acceptor) in
    let front : values ++ value ∷ [] ≡ take (reach ((view u).disk i).state) (log u) =
    sym more ∙ (laws.claims (view u) ok.inv).beginning i lt in
    let here : In (effect.Granted row)
    (apply rules (slot_commands (length values) value) (table rules values)).effects =
    subst (λ (k : ℕ). In (effect.Granted row) (apply rules (slot_commands k value) (table rules values)).effects)
    (sym long) there in
    let whole : In (effect.Granted row) (history rules (commands (values ++ value ∷ []))) =
    subst (In (effect.Granted row)) (sym (history_more rules values value))
    (in_right (history rules (commands values)) _ (effect.Granted row) here) in
    front_row cfg u (reach ((view u).disk i).state) row
    (by_effect rules (take (reach ((view u).disk i).state) (log u)) row
    (subst (λ (vs : List Value). In (effect.Granted row) (history rules (commands vs))) front whole))

-- ---- a turn

range_same : (r : Range) (vip : Ip4) (start : ℕ) → r.vip ≡ vip → r.start ≡ start → r ≡ range_at vip start
range_same r vip start v s = rw (sym v, sym s) refl

lease_of_row : (cfg : ConfigParts) (w : World) (agent boot : ℕ) (machine : Ip4) (n : ℕ) (vip : Ip4) (start : ℕ)
    → IsGrantOf (IsGrantedRow (done cfg w)) agent boot machine n vip start
    → IsLease cfg w agent boot n (range_at vip start) machine
lease_of_row cfg w agent boot machine n vip start g =
    let born : Row = g.good.was.born in
    let f : g.row ≡ at_phase g.row.phase born = g.good.was.fields in
    record {
      born = born;
      birth = subst (λ (k : ℕ). IsBorn cfg w k born) g.n_is g.good.was.birth;
      agent_is = sym (ap (λ (x : Row). x.agent) f) ∙ g.agent_is;
      boot_is = sym (ap (λ (x : Row). x.boot) f) ∙ g.boot_is;
      range_is = sym (ap (λ (x : Row). x.range) f) ∙ range_same g.row.range vip start g.vip_is g.start_is;
      machine_is = sym (ap (λ (x : Row). x.machine) f) ∙ g.machine_is;
      granted = subst (WasGranted cfg w) g.n_is g.good.granted;
    }

for_agent : (cfg : ConfigParts) (w : World) (agent : ℕ) (m : Message) → ForAgent (IsGrantedRow (done cfg w)) agent m
    → IsForAgent cfg w agent m
for_agent cfg w agent (message.Grant boot machine seq n vip start) h =
    lease_of_row cfg w agent boot machine n vip start h
for_agent cfg w agent (message.Denied boot machine seq reason number) h = h
for_agent cfg w agent (message.Returned boot n) h = tt
for_agent cfg w agent (message.AgentKnown boot) h = tt
for_agent cfg w agent (message.Prepare c) h = absurd h
for_agent cfg w agent (message.Promise c l vote value) h = absurd h
for_agent cfg w agent (message.Accept c t v) h = absurd h
for_agent cfg w agent (message.Accepted c t) h = absurd h
for_agent cfg w agent (message.Refuse c p) h = absurd h
for_agent cfg w agent (message.Chosen t c v) h = absurd h
for_agent cfg w agent (message.Fetch t) h = absurd h
for_agent cfg w agent (message.Ask boot machine seq) h = absurd h
for_agent cfg w agent (message.Return boot n) h = absurd h
for_agent cfg w agent (message.AgentUp boot) h = absurd h
for_agent cfg w agent (message.MuxHello boot epoch) h = absurd h
for_agent cfg w agent (message.Program epoch boot n vip start machine) h = absurd h
for_agent cfg w agent (message.Programmed epoch boot n) h = absurd h
for_agent cfg w agent (message.Unprogram epoch boot n vip start) h = absurd h
for_agent cfg w agent (message.Unprogrammed epoch boot n) h = absurd h
for_agent cfg w agent (message.MuxRefuse epoch boot keeps) h = absurd h
for_agent cfg w agent (message.Lead c l) h = absurd h
for_agent cfg w agent (message.RedirectAsk src sport dst dport machine) h = absurd h
for_agent cfg w agent (message.Redirect side n src sport dst dport opener server) h = absurd h

answer_true : (cfg : ConfigParts) (w : World) (to : Place) (said : Said) → Answers (IsGrantedRow (done cfg w)) to said
    → IsAnswer cfg w to said
answer_true cfg w (ToNode (Replica i)) said h = tt
answer_true cfg w (ToNode (Mux i)) said h = tt
answer_true cfg w (ToNode (Agent agent)) (Says m) h = for_agent cfg w agent m h
answer_true cfg w (ToNode (Agent agent)) (Carries packet) h = absurd h
answer_true cfg w (ToMachine machine) said h = tt
answer_true cfg w ToRouter said h = tt

may_grant : (cfg : ConfigParts) → IsSound cfg → (w u : World) → Steps cfg w u → (i : ℕ) (r : Manager) (x : Input)
    → at w (Replica i) ≡ Some (OfManager r) → Given cfg w (Replica i) x
    → TurnMoves cfg w u (Replica i) (OfManager r) x
    → (row : Row) → MayGrant cfg r (manager_step cfg r x).entry row → IsGrantedRow (done cfg u) row
may_grant cfg sound w u s i r x was given mv row h =
    let ok : InOrder w = in_order_at cfg sound w s.before in
    let now : InOrder u = in_order_at cfg sound u s.now in
    let lt : i < 5 = number_of cfg w s.before i (up_is_there w (Replica i) (OfManager r) was) in
    let t : Turned cfg w u i r x = turn_owes cfg sound w u s.before i r x ok lt was given mv in
    elim h [
      | inl learned ↦ learned_row cfg w u i r (manager_step cfg r x).entry lt now (ok.lists i r was) t.moves.disk_same
          (room (manager_step cfg r x).entry t.good.entry) row learned
      | inr has ↦ (let on : LivesGoOn cfg w u = goes_on cfg sound w u s in
          subst (λ (es : List Effect). IsGrantedRow es row) (sym on.is)
          (row_on (done cfg w) on.more row (from_table cfg w ok i r lt was row has.0 has.1)))
    ]
  where
    room : (e : Option Entry) → EntryOk (view w) i ((view w).disk i) e
        → (ballot : ℕ) (value : Value) → e ≡ Some (entry.Learn ballot value) → reach
        ((view w).disk i).state < most_slots
    room e owed ballot value is =
        let learns : Learns (view w) i ((view w).disk i) ballot value =
        subst (EntryOk (view w) i ((view w).disk i)) is owed in
        learns.room

each_true : (cfg : ConfigParts) (u : World) (i : ℕ) (sends : List Send)
    → Each (λ (x : Send). IsAnswer cfg u x.to x.said) sends → Each (AnswersAreTrue cfg u)
    (all_sent cfg (Replica i) sends)
each_true cfg u i sends h = each_map (AnswersAreTrue cfg u) (sent_by (Replica i)) (filter (is_placed cfg) sends)
    (each_passing (λ (x : Send). IsAnswer cfg u x.to x.said) (is_placed cfg) sends
    (λ x j _. each_in (λ (x : Send). IsAnswer cfg u x.to x.said) sends x h j))

module _ (cfg : ConfigParts) (u : World) where
  of_mux : (i : ℕ) (sends : List Send) → Each (AnswersAreTrue cfg u) (all_sent cfg (Mux i) sends)
  of_mux i sends = each_map (AnswersAreTrue cfg u) (sent_by (Mux i)) (filter (is_placed cfg) sends)
      (each_passing (λ (x : Send). Unit {0}) (is_placed cfg) sends (λ x j e. tt))

  of_agent : (i : ℕ) (sends : List Send) → Each (AnswersAreTrue cfg u) (all_sent cfg (Agent i) sends)
  of_agent i sends = each_map (AnswersAreTrue cfg u) (sent_by (Agent i)) (filter (is_placed cfg) sends)
      (each_passing (λ (x : Send). Unit {0}) (is_placed cfg) sends (λ x j e. tt))

turn_true : (cfg : ConfigParts) → IsSound cfg → (w u : World) → Steps cfg w u → (x : NodeId) (l : Lists) (i : Input)
    → ListsFit cfg w x l → at w x ≡ Some l → Given cfg w x i → TurnMoves cfg w u x l i
    → Each (AnswersAreTrue cfg u) (all_sent cfg x (node_turn cfg l i).sends)
turn_true cfg sound w u s (Replica j) (OfManager r) i fits was given mv =
    each_true cfg u j (manager_step cfg r i).sends
    (each_on (λ (x : Send). Answers (MayGrant cfg r (manager_step cfg r i).entry) x.to x.said) _
    (λ x h. answer_true cfg u x.to x.said
    (answers_on (MayGrant cfg r (manager_step cfg r i).entry) (IsGrantedRow (done cfg u))
    (may_grant cfg sound w u s j r i was given mv) x.to x.said h))
    (manager_step cfg r i).sends (step_right cfg r i))
turn_true cfg sound w u s (Replica j) (OfMux m) i fits was given mv = absurd fits
turn_true cfg sound w u s (Replica j) (OfAgent a) i fits was given mv = absurd fits
turn_true cfg sound w u s (Mux j) l i fits was given mv = of_mux cfg u j (node_turn cfg l i).sends
turn_true cfg sound w u s (Agent j) l i fits was given mv = of_agent cfg u j (node_turn cfg l i).sends

-- ---- what was true stays true

for_later : (cfg : ConfigParts) (w u : World) → LivesGoOn cfg w u → (agent : ℕ) (m : Message) → IsForAgent cfg w agent m
    → IsForAgent cfg u agent m
for_later cfg w u on agent (message.Grant boot machine seq n vip start) h =
    lease_on cfg w u on agent boot n (range_at vip start) machine h
for_later cfg w u on agent (message.Denied boot machine seq reason number) h = h
for_later cfg w u on agent (message.Returned boot n) h = tt
for_later cfg w u on agent (message.AgentKnown boot) h = tt
for_later cfg w u on agent (message.Prepare c) h = absurd h
for_later cfg w u on agent (message.Promise c l vote value) h = absurd h
for_later cfg w u on agent (message.Accept c t v) h = absurd h
for_later cfg w u on agent (message.Accepted c t) h = absurd h
for_later cfg w u on agent (message.Refuse c p) h = absurd h
for_later cfg w u on agent (message.Chosen t c v) h = absurd h
for_later cfg w u on agent (message.Fetch t) h = absurd h
for_later cfg w u on agent (message.Ask boot machine seq) h = absurd h
for_later cfg w u on agent (message.Return boot n) h = absurd h
for_later cfg w u on agent (message.AgentUp boot) h = absurd h
for_later cfg w u on agent (message.MuxHello boot epoch) h = absurd h
for_later cfg w u on agent (message.Program epoch boot n vip start machine) h = absurd h
for_later cfg w u on agent (message.Programmed epoch boot n) h = absurd h
for_later cfg w u on agent (message.Unprogram epoch boot n vip start) h = absurd h
for_later cfg w u on agent (message.Unprogrammed epoch boot n) h = absurd h
for_later cfg w u on agent (message.MuxRefuse epoch boot keeps) h = absurd h
for_later cfg w u on agent (message.Lead c l) h = absurd h
for_later cfg w u on agent (message.RedirectAsk src sport dst dport machine) h = absurd h
for_later cfg w u on agent (message.Redirect side n src sport dst dport opener server) h = absurd h

answer_on : (cfg : ConfigParts) (w u : World) → LivesGoOn cfg w u → (to : Place) (said : Said) → IsAnswer cfg w to said
    → IsAnswer cfg u to said
answer_on cfg w u on (ToNode (Replica i)) said h = tt
answer_on cfg w u on (ToNode (Mux i)) said h = tt
answer_on cfg w u on (ToNode (Agent agent)) (Says m) h = for_later cfg w u on agent m h
answer_on cfg w u on (ToNode (Agent agent)) (Carries packet) h = absurd h
answer_on cfg w u on (ToMachine machine) said h = tt
answer_on cfg w u on ToRouter said h = tt

answer_of_on : (cfg : ConfigParts) (w u : World) → LivesGoOn cfg w u → (x : NodeId) (to : Place) (said : Said)
    → IsAnswerOf cfg w x to said → IsAnswerOf cfg u x to said
answer_of_on cfg w u on (Replica i) to said h = answer_on cfg w u on to said h
answer_of_on cfg w u on (Mux i) to said h = tt
answer_of_on cfg w u on (Agent i) to said h = tt

-- ---- every world

abbrev pub AnyLists : World → NodeId → Lists → Type 0
AnyLists w x l = Unit {0}

grants_keep : (cfg : ConfigParts) → IsSound cfg → Keeps cfg (AnswersAreTrue cfg) AnyEntry AnyLists
grants_keep cfg sound = record {
  said_lasts = λ x w u z g s h. answer_of_on cfg w u (goes_on cfg sound w u z) s.from s.to s.said h;
  kept_lasts = λ x w u z g y e h. tt;
  lists_last = λ x w u z g y ne l h. tt;
  lists_rest = λ x w u z g same sent l h. tt;
  opening = λ w u x z h g d n. (tt, tt);
  turn = λ w u x l i z h g was given m. (
    turn_true cfg sound w u z x l i ((hearing_at cfg sound w z.before).lists x l was) was given m,
    any_entry u x _,
    tt,
  );
  cut = λ w u x l i z h g was given m. any_entry u x _;
  first = first_holds cfg (AnswersAreTrue cfg) AnyEntry AnyLists (λ x. (tt, tt));
}

pub grants : (cfg : ConfigParts) → IsSound cfg → (bs : List Basic) → AreNamed cfg bs
    → Each (AnswersAreTrue cfg (world cfg bs)) (world cfg bs).sent
grants cfg sound bs named = (always cfg (AnswersAreTrue cfg) AnyEntry AnyLists (grants_keep cfg sound) bs named).said

pub grants_at : (cfg : ConfigParts) → IsSound cfg → (w : World) → Reached cfg w → Each (AnswersAreTrue cfg w) w.sent
grants_at cfg sound w r =
    subst (λ (v : World). Each (AnswersAreTrue cfg v) v.sent) (sym r.is) (grants cfg sound r.events r.named)
