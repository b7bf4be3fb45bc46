-- What an event shows of the managers is what the value by which the log grew does; so a run shows what the log did.
use Rattle.std.proofs.Common.{◌≡◌, ◌≢◌, refl, sym, ap, ◌∙◌, subst, inl, inr, ℕ, ◌+◌, ◌<◌, ◌≤◌, nat_lt, Bool, true, false, List, [], ◌∷◌, ◌++◌, length, length-append, map, drop, Option, Some, None, fold, append-nil, arith, if◌then◌else◌}
use Rattle.std.specs.List.{flat_map}
use Rattle.std.proofs.lemmas.Bool.Decides.{nat_tests}
use Rattle.std.proofs.lemmas.Grind.{flat_map-append}
use Rattle.std.proofs.lemmas.List.{drop_all, length-map, map-append, take_all}
use Rattle.paxos_laws.proofs.Logs.{low_or}
use Rattle.std.proofs.lemmas.List.Elements.{filter-append}
use Rattle.wire_core.specs.declared.act.Act.{Act}
use Rattle.wire_core.specs.declared.entry.Entry.{Entry}
use Rattle.wire_core.specs.declared.entry.Entry.TheVariants as entry
use Rattle.wire_core.specs.declared.node.NodeId.{NodeId}
use Rattle.wire_core.specs.declared.node.NodeId.TheVariants.{Replica, Mux, Agent}
use Rattle.wire_core.specs.declared.rules.LeaseRules.{LeaseRules}
use Rattle.vip_config.specs.Leases.{lease_rules_of}
use Rattle.vip_config.specs.declared.parts.ConfigParts.{ConfigParts}
use Rattle.lease_spec.specs.declared.effect.Effect.{Effect}
use Rattle.lease_spec.specs.declared.effect.Effect.TheVariants as effect
use Rattle.lease_spec.specs.Places.{Placed, commands, commands_from, slot_commands}
use Rattle.lease_spec.specs.Table.{apply, history, story, table}
use Rattle.lease_spec.proofs.PlaceLaws.{effects_more}
use Rattle.paxos_spec.specs.declared.cast.Cast.{Cast}
use Rattle.paxos_spec.specs.Acceptor.{AcceptorState, most_slots, reach}
use Rattle.paxos_spec.specs.Acceptor.{with_learned}
use Rattle.paxos_spec.specs.Agreement.{Disk, after as with_entry, grown, values_of}
use Rattle.paxos_spec.specs.Votes.{Value}
use Rattle.paxos_laws.specs.Disks.{disk_of}
use Rattle.paxos_laws.proofs.Named as laws
use Rattle.paxos_laws.proofs.Quorums.{by_same}
use Rattle.manager_spec.specs.Manager.{Manager, act_of, effects_of, leases_of}
use Rattle.manager_spec.specs.Manager.{values_of as values_in}
use Rattle.manager_spec.specs.ManagerTable.{manager_step}
use Rattle.node_spec.specs.Turns.{Input, Turn}
use Rattle.world_spec.specs.Acts.{log_acts, log_length, longest, loss, turn_acts}
use Rattle.world_spec.specs.Events.{AreNamed, Basic, IsNamed, after, happens, world}
use Rattle.world_spec.specs.Facts.{Reached}
use Rattle.world_spec.specs.History.{Run, first_run, run, run_after}
use Rattle.world_spec.specs.Nodes.{Lists, OfManager, OfMux, OfAgent, boot_entry, listed, node_turn}
use Rattle.world_spec.specs.Shapes.{Given, Shape, IsQuiet, IsCrash, IsTurn, IsCut, IsOpening, IsCutOpening}
use Rattle.world_spec.specs.Steps.{Outcome}
use Rattle.world_spec.specs.Transcript.{acts_in}
use Rattle.world_spec.specs.World.{World, at, disk, first_world, is_there, site}
use Rattle.world_spec.proofs.Principle.{reached_next}
use Rattle.world_spec.proofs.ShapeLaws.{shape_of}
use Rattle.world_spec.proofs.SiteLaws.{node_or, up_is_there}
use Rattle.world_laws.specs.Acts.{ActsAreOfLog, ShowsWhatGrew, is_managers, managers_acts, new_values}
use Rattle.world_laws.specs.Hearing.{IsSound, ListsFit}
use Rattle.world_laws.specs.Log.{InOrder, LogGrows, log}
use Rattle.world_laws.specs.Seen.{view}
use Rattle.world_laws.specs.Turns.{IsGood}
use Rattle.world_laws.proofs.Books.{log_grows}
use Rattle.world_laws.proofs.Heard.{hearing_at}
use Rattle.world_laws.proofs.InWorld.{disk_more, first_reached, good_turn, in_order_at, number_of, other_replica}
use Rattle.world_laws.proofs.Living.{commands_append}
use Rattle.world_laws.proofs.LogLengths.{below_longest, length_more, lengths_at, longest_below, longest_is}
use Rattle.world_laws.proofs.OwnActs.{agent_acts, mux_acts}

-- ---- acts of managers

managers_append : (xs ys : List Act) → managers_acts (xs ++ ys) ≡ managers_acts xs ++ managers_acts ys
unfolding managers_acts
managers_append xs ys = filter-append is_managers xs ys

-- all acts of effects are acts of managers
of_effects : (es : List Effect) → managers_acts (flat_map act_of es) ≡ flat_map act_of es
unfolding managers_acts
of_effects [] = refl
of_effects (effect.Reserved row ∷ es) = ap (λ (xs : List Act). act_of (effect.Reserved row) ++ xs) (of_effects es)
of_effects (effect.Granted row ∷ es) = ap (λ (xs : List Act). act_of (effect.Granted row) ++ xs) (of_effects es)
of_effects (effect.Released row ∷ es) = ap (λ (xs : List Act). act_of (effect.Released row) ++ xs) (of_effects es)
of_effects (effect.Freed row ∷ es) = ap (λ (xs : List Act). act_of (effect.Freed row) ++ xs) (of_effects es)
of_effects (effect.Cleared row ∷ es) = ap (λ (xs : List Act). act_of (effect.Cleared row) ++ xs) (of_effects es)
of_effects (effect.Exhausted machine boot seq place ∷ es) = of_effects es
of_effects (effect.AtLimit machine boot seq count ∷ es) = of_effects es
of_effects (effect.Known agent boot ∷ es) = of_effects es

of_loss : (x : NodeId) → managers_acts (loss x) ≡ []
unfolding managers_acts
of_loss (Replica i) = refl
of_loss (Mux i) = refl
of_loss (Agent i) = refl

none_of : managers_acts [] ≡ []
unfolding managers_acts
none_of = refl

-- with what an agent loses
lost : (x : NodeId) (acts : List Act) → managers_acts (acts ++ loss x) ≡ managers_acts acts
lost x acts =
    managers_append acts (loss x) ∙ ap (λ (xs : List Act). managers_acts acts ++ xs) (of_loss x) ∙ append-nil _

-- ---- what an event shows, by what it writes

-- the acts of an entry of a replica, where no log of the world was as long
abbrev told : ConfigParts → World → ℕ → Option Entry → List Act
told cfg w i e =
    if nat_lt (longest w.replicas) (log_length (disk w (Replica i) ++ listed e))
    then flat_map act_of (effects_of (lease_rules_of cfg) ((view w).disk i).state e) else []

-- one replica wrote an entry or none, and this is what is shown of the managers
record Wrote (cfg : ConfigParts) (w u : World) (acts : List Act) : Type 0 where
  replica : ℕ
  written : Option Entry
  number : replica < 5
  here : disk u (Replica replica) ≡ disk w (Replica replica) ++ listed written
  others : (j : ℕ) → j ≢ replica → disk u (Replica j) ≡ disk w (Replica j)
  shown : managers_acts acts ≡ told cfg w replica written

-- an entry that is no lesson has no acts
told_none : (cfg : ConfigParts) (w : World) (i : ℕ) (e : Option Entry)
    → effects_of (lease_rules_of cfg) ((view w).disk i).state e ≡ [] → told cfg w i e ≡ []
told_none cfg w i e none =
    by (nat_lt (longest w.replicas) (log_length (disk w (Replica i) ++ listed e)))
  where
    by : (b : Bool)
        → (if b then flat_map act_of (effects_of (lease_rules_of cfg) ((view w).disk i).state e) else []) ≡ []
    by true = ap (flat_map act_of) none
    by false = refl

-- no replica writes
none_write : (cfg : ConfigParts) (w u : World) (acts : List Act) → managers_acts acts ≡ []
    → ((j : ℕ) → disk u (Replica j) ≡ disk w (Replica j)) → Wrote cfg w u acts
unfolding effects_of
none_write cfg w u acts none same = record {
  replica = 0;
  written = None;
  number = omega arith;
  here = same 0 ∙ sym (append-nil _);
  others = λ j ne. same j;
  shown = none ∙ sym (told_none cfg w 0 None refl);
}

-- a node writes nothing
writes_none : (cfg : ConfigParts) (w u : World) (x : NodeId) (acts : List Act) → managers_acts acts ≡ []
    → disk u x ≡ disk w x ++ [] → ((y : NodeId) → y ≢ x → disk u y ≡ disk w y) → Wrote cfg w u acts
writes_none cfg w u x acts none here others = none_write cfg w u acts none (λ j. elim (node_or (Replica j) x) [
  | inl same ↦ subst (λ (z : NodeId). disk u z ≡ disk w z) (sym same) (here ∙ append-nil _)
  | inr ne ↦ others (Replica j) ne
])

mux_writes : (cfg : ConfigParts) (w u : World) (i : ℕ) (acts : List Act) → managers_acts acts ≡ []
    → ((y : NodeId) → y ≢ Mux i → disk u y ≡ disk w y) → Wrote cfg w u acts
mux_writes cfg w u i acts none others = none_write cfg w u acts none (λ j. others (Replica j) (not_mux i j))
  where
    not_mux : (i j : ℕ) → Replica j ≢ Mux i
    not_mux i j e = cc

agent_writes : (cfg : ConfigParts) (w u : World) (i : ℕ) (acts : List Act) → managers_acts acts ≡ []
    → ((y : NodeId) → y ≢ Agent i → disk u y ≡ disk w y) → Wrote cfg w u acts
agent_writes cfg w u i acts none others = none_write cfg w u acts none (λ j. others (Replica j) (not_agent i j))
  where
    not_agent : (i j : ℕ) → Replica j ≢ Agent i
    not_agent i j e = cc

-- a replica writes
replica_writes : (cfg : ConfigParts) (w u : World) (i : ℕ) (e : Option Entry) (acts : List Act) → i < 5
    → managers_acts acts ≡ told cfg w i e → disk u (Replica i) ≡ disk w (Replica i) ++ listed e
    → ((y : NodeId) → y ≢ Replica i → disk u y ≡ disk w y) → Wrote cfg w u acts
replica_writes cfg w u i e acts lt shown here others = record {
  replica = i;
  written = e;
  number = lt;
  here = here;
  others = λ j ne. others (Replica j) (other_replica i j ne);
  shown = shown;
}

-- a turn of a replica shows what it learned
turn_tells : (cfg : ConfigParts) → IsSound cfg → (w : World) → Reached cfg w → (i : ℕ) (m : Manager) (x : Input)
    → InOrder w → i < 5 → at w (Replica i) ≡ Some (OfManager m) → Given cfg w (Replica i) x
    → managers_acts (log_acts w (Replica i) (node_turn cfg (OfManager m) x)) ≡ told cfg w i (manager_step cfg m x).entry
unfolding managers_acts
turn_tells cfg sound w r i m x ok lt was given =
    by (nat_lt (longest w.replicas) (log_length (disk w (Replica i) ++ listed t.entry)))
  where
    t : Turn Manager
    t = manager_step cfg m x

    g : IsGood cfg (view w) i m x
    g = good_turn cfg sound w r i m x ok lt was given

    done : List Effect
    done = effects_of (lease_rules_of cfg) ((view w).disk i).state t.entry

    acts : t.acts ≡ flat_map act_of done
    acts = g.turn.acts ∙ ap (λ (a : AcceptorState). flat_map act_of (effects_of (lease_rules_of cfg) a t.entry))
        (ok.lists i m was).acceptor

    by : (b : Bool) → managers_acts (if b then t.acts else []) ≡ (if b then flat_map act_of done else [])
    by true = ap managers_acts acts ∙ of_effects done
    by false = refl

-- ---- each shape

turned : (cfg : ConfigParts) → IsSound cfg → (w u : World) (acts : List Act) → Reached cfg w → InOrder w
    → (x : NodeId) (l : Lists) (i : Input) → ListsFit cfg w x l → at w x ≡ Some l → Given cfg w x i
    → disk u x ≡ disk w x ++ listed (node_turn cfg l i).entry → ((y : NodeId) → y ≢ x → disk u y ≡ disk w y)
    → acts ≡ turn_acts w x (node_turn cfg l i) → Wrote cfg w u acts
turned cfg sound w u acts r ok (Replica j) (OfManager m) i fit was given here others is =
    let lt : j < 5 = number_of cfg w r j (up_is_there w (Replica j) (OfManager m) was) in
    replica_writes cfg w u j (manager_step cfg m i).entry acts lt
    (ap managers_acts is ∙ turn_tells cfg sound w r j m i ok lt was given) here others
turned cfg sound w u acts r ok (Mux j) (OfMux m) i fit was given here others is =
    mux_writes cfg w u j acts (ap managers_acts is ∙ mux_acts cfg m i) others
turned cfg sound w u acts r ok (Agent j) (OfAgent a) i fit was given here others is =
    agent_writes cfg w u j acts (ap managers_acts is ∙ agent_acts cfg a i) others
turned cfg sound w u acts r ok (Replica j) (OfMux m) i fit was given here others is = absurd fit
turned cfg sound w u acts r ok (Replica j) (OfAgent a) i fit was given here others is = absurd fit
turned cfg sound w u acts r ok (Mux j) (OfManager m) i fit was given here others is = absurd fit
turned cfg sound w u acts r ok (Mux j) (OfAgent a) i fit was given here others is = absurd fit
turned cfg sound w u acts r ok (Agent j) (OfManager m) i fit was given here others is = absurd fit
turned cfg sound w u acts r ok (Agent j) (OfMux m) i fit was given here others is = absurd fit

cut : (cfg : ConfigParts) → IsSound cfg → (w u : World) (acts : List Act) → Reached cfg w → InOrder w
    → (x : NodeId) (l : Lists) (i : Input) → ListsFit cfg w x l → at w x ≡ Some l → Given cfg w x i
    → disk u x ≡ disk w x ++ listed (node_turn cfg l i).entry → ((y : NodeId) → y ≢ x → disk u y ≡ disk w y)
    → acts ≡ log_acts w x (node_turn cfg l i) ++ loss x → Wrote cfg w u acts
cut cfg sound w u acts r ok (Replica j) (OfManager m) i fit was given here others is =
    let lt : j < 5 = number_of cfg w r j (up_is_there w (Replica j) (OfManager m) was) in
    replica_writes cfg w u j (manager_step cfg m i).entry acts lt
    (ap managers_acts is ∙ lost (Replica j) (log_acts w (Replica j) (node_turn cfg (OfManager m) i))
    ∙ turn_tells cfg sound w r j m i ok lt was given) here others
cut cfg sound w u acts r ok (Replica j) (OfMux m) i fit was given here others is = absurd fit
cut cfg sound w u acts r ok (Replica j) (OfAgent a) i fit was given here others is = absurd fit
cut cfg sound w u acts r ok (Mux j) l i fit was given here others is =
    mux_writes cfg w u j acts (ap managers_acts is ∙ of_loss (Mux j)) others
cut cfg sound w u acts r ok (Agent j) l i fit was given here others is =
    agent_writes cfg w u j acts (ap managers_acts is ∙ of_loss (Agent j)) others

opens : (cfg : ConfigParts) (w u : World) (acts : List Act) → Reached cfg w → (x : NodeId) → is_there w x ≡ true
    → disk u x ≡ disk w x ++ boot_entry x (disk w x) ∷ [] → ((y : NodeId) → y ≢ x → disk u y ≡ disk w y)
    → managers_acts acts ≡ [] → Wrote cfg w u acts
unfolding effects_of
opens cfg w u acts r (Replica i) there here others none =
    let e : Option Entry = Some (boot_entry (Replica i) (disk w (Replica i))) in
    replica_writes cfg w u i e acts (number_of cfg w r i there) (none ∙ sym (told_none cfg w i e refl)) here others
opens cfg w u acts r (Mux i) there here others none = mux_writes cfg w u i acts none others
opens cfg w u acts r (Agent i) there here others none = agent_writes cfg w u i acts none others

wrote : (cfg : ConfigParts) → IsSound cfg → (w : World) (o : Outcome) → Reached cfg w → InOrder w → Shape cfg w o
    → Wrote cfg w o.0 (acts_in o.1)
wrote cfg sound w o r ok (IsQuiet x mv is) =
    writes_none cfg w o.0 x (acts_in o.1) (ap managers_acts is ∙ none_of) mv.disk_here mv.disk_other
wrote cfg sound w o r ok (IsCrash x mv is) =
    writes_none cfg w o.0 x (acts_in o.1) (ap managers_acts is ∙ of_loss x) mv.disk_here mv.disk_other
wrote cfg sound w o r ok (IsTurn x l i was given mv is) =
    turned cfg sound w o.0 (acts_in o.1) r ok x l i ((hearing_at cfg sound w r).lists x l was) was given
    mv.disk_here mv.disk_other is
wrote cfg sound w o r ok (IsCut x l i was given mv is) =
    cut cfg sound w o.0 (acts_in o.1) r ok x l i ((hearing_at cfg sound w r).lists x l was) was given
    mv.disk_here mv.disk_other is
wrote cfg sound w o r ok (IsOpening x there mv is) =
    opens cfg w o.0 (acts_in o.1) r x there mv.disk_here mv.disk_other (ap managers_acts is ∙ none_of)
wrote cfg sound w o r ok (IsCutOpening x there mv is) =
    opens cfg w o.0 (acts_in o.1) r x there mv.disk_here mv.disk_other (ap managers_acts is ∙ of_loss x)

-- ---- what is shown is what the log does more

past : (xs ys : List Value) → drop (length xs) (xs ++ ys) ≡ ys
past [] ys = refl
past (x ∷ xs) ys = past xs ys

-- what values do behind a log
abbrev done_behind : LeaseRules → List Value → List Value → List Effect
done_behind rules values more = (apply rules (commands_from (length values) more) (table rules values)).effects

-- nothing more does nothing
none_done : (rules : LeaseRules) (values : List Value) → done_behind rules values [] ≡ []
unfolding apply
none_done rules values = refl

-- a lesson at the end of the log does what its value does there
one_done : (rules : LeaseRules) (values : List Value) (a : AcceptorState) (ballot : ℕ) (v : Value)
    → values_in a ≡ values
    → effects_of rules a (Some (entry.Learn ballot v)) ≡ done_behind rules values (v ∷ [])
unfolding effects_of leases_of
one_done rules values a ballot v is =
    ap (λ (n : ℕ). (apply rules (slot_commands n v) (table rules (values_in a))).effects)
    (sym (length-map _ _))
    ∙ ap (λ (xs : List Value). (apply rules (slot_commands (length xs) v) (table rules xs)).effects) is
    ∙ ap (λ (cs : List Placed). (apply rules cs (table rules values)).effects)
    (sym (append-nil (slot_commands (length values) v)))

-- what a log with more values did
history_behind : (rules : LeaseRules) (values more : List Value)
    → history rules (commands (values ++ more)) ≡ history rules (commands values) ++ done_behind rules values more
history_behind rules values more =
    ap (history rules) (commands_append 0 values more)
    ∙ effects_more rules (commands values) (commands_from (0 + length values) more)
    ∙ ap (λ (n : ℕ). history rules (commands values)
    ++ (apply rules (commands_from n more) (table rules values)).effects) (omega arith)

-- ---- one event

-- a value that a disk learned is the last of its log, where its log grew
values_more : (d : Disk) (c : ℕ) (v : Value) → reach (with_entry d (entry.Learn c v)).state ≡ reach d.state + 1
    → values_of (with_entry d (entry.Learn c v)) ≡ values_of d ++ v ∷ []
values_more d c v more = by (nat_lt (reach d.state) most_slots) more
  where
    by : (b : Bool) → reach (if b then with_learned d.state c v else d.state) ≡ reach d.state + 1
        → map (λ (x : Cast). x.value) (if b then with_learned d.state c v else d.state).log ≡ values_of d ++ v ∷ []
    by true more = map-append (λ (x : Cast). x.value) d.state.log (record { ballot = c; value = v } ∷ [])
    by false more = absurd (omega arith)

-- an entry by which a log grows is a lesson
record Lesson (e : Option Entry) : Type 0 where
  ballot : ℕ
  value : Value
  is : e ≡ Some (entry.Learn ballot value)

a_lesson : (e : Option Entry) → 0 < log_length (listed e) → Lesson e
a_lesson None lt = absurd (omega arith)
a_lesson (Some (entry.Boot version role index boot)) lt = absurd (omega arith)
a_lesson (Some (entry.Promise ballot)) lt = absurd (omega arith)
a_lesson (Some (entry.Vote ballot value)) lt = absurd (omega arith)
a_lesson (Some (entry.Epoch epoch)) lt = absurd (omega arith)
a_lesson (Some (entry.Learn ballot value)) lt = record { ballot = ballot; value = value; is = refl }

-- one event, from a world in order
record Event (cfg : ConfigParts) (w u : World) (acts : List Act) : Type 0 where
  sound : IsSound cfg
  before : Reached cfg w
  now : Reached cfg u
  grows : LogGrows w u
  wrote : Wrote cfg w u acts

-- where no log is longer than the longest was, the log is what it was
still : (cfg : ConfigParts) (w u : World) (acts : List Act) (v : Event cfg w u acts)
    → log_length (disk w (Replica v.wrote.replica) ++ listed v.wrote.written) ≤ longest w.replicas → log u ≡ log w
still cfg w u acts v le = elim v.grows.one [
  | inl same ↦ same
  | inr more ↦ absurd (
      let top_w : longest w.replicas ≡ length (log w) = longest_is cfg v.sound w v.before in
      let top_u : longest u.replicas ≡ length (log u) = longest_is cfg v.sound u v.now in
      let len : length (log u) ≡ length (log w) + 1 = ap length more.1 ∙ length-append (log w) (more.0 ∷ []) in
      let top : longest u.replicas ≤ longest w.replicas = longest_below cfg u v.now (longest w.replicas) within in
      omega arith)
]
  where
    within : (j : ℕ) → j < 5 → log_length (disk u (Replica j)) ≤ longest w.replicas
    within j lt = by_same j v.wrote.replica
        (λ same. subst (λ (k : ℕ). log_length (disk u (Replica k)) ≤ longest w.replicas) (sym same)
        (let here : log_length (disk u (Replica v.wrote.replica))
        ≡ log_length (disk w (Replica v.wrote.replica) ++ listed v.wrote.written) = ap log_length v.wrote.here in
        omega arith))
        (λ ne. (let same : log_length (disk u (Replica j)) ≡ log_length (disk w (Replica j)) =
        ap log_length (v.wrote.others j ne) in
        let below : log_length (disk w (Replica j)) ≤ longest w.replicas = below_longest w j in
        omega arith))

-- where one is, its replica had the log, and learned the next value
record Learned (cfg : ConfigParts) (w u : World) (i : ℕ) (e : Option Entry) : Type 0 where
  ballot : ℕ
  value : Value
  is : e ≡ Some (entry.Learn ballot value)
  had : values_of ((view w).disk i) ≡ log w
  has : log u ≡ log w ++ value ∷ []

-- a disk whose log is as long as that of all five has it
all_of : (cfg : ConfigParts) → IsSound cfg → (w : World) → Reached cfg w → (i : ℕ) → i < 5
    → log_length (disk w (Replica i)) ≡ length (log w) → values_of ((view w).disk i) ≡ log w
all_of cfg sound w r i lt len =
    let slots : log_length (disk w (Replica i)) ≡ reach ((view w).disk i).state = lengths_at cfg sound w r i lt in
    (laws.claims (view w) (in_order_at cfg sound w r).inv).beginning i lt
    ∙ take_all (reach ((view w).disk i).state) (log w) (omega arith)

disk_after : (w u : World) (i : ℕ) (e : Option Entry) → disk u (Replica i) ≡ disk w (Replica i) ++ listed e
    → (view u).disk i ≡ grown ((view w).disk i) e
unfolding view
disk_after w u i e here = ap disk_of here ∙ disk_more (disk w (Replica i)) e

one_longer : (w u : World) → LogGrows w u → length (log w) < length (log u) → length (log u) ≡ length (log w) + 1
one_longer w u g lt = elim g.one [
  | inl same ↦ absurd (let len : length (log u) ≡ length (log w) = ap length same in omega arith)
  | inr more ↦ ap length more.1 ∙ length-append (log w) (more.0 ∷ [])
]

learned_by : (cfg : ConfigParts) (w u : World) (acts : List Act) (v : Event cfg w u acts)
    → longest w.replicas < log_length (disk w (Replica v.wrote.replica) ++ listed v.wrote.written)
    → Lesson v.wrote.written → Learned cfg w u v.wrote.replica v.wrote.written
learned_by cfg w u acts v lt k =
    let i : ℕ = v.wrote.replica in
    let e : Option Entry = v.wrote.written in
    let d : Disk = (view w).disk i in
    let more : log_length (disk w (Replica i) ++ listed e) ≡ log_length (disk w (Replica i)) + log_length (listed e) =
    length_more (disk w (Replica i)) (listed e) in
    let top_w : longest w.replicas ≡ length (log w) = longest_is cfg v.sound w v.before in
    let top_u : longest u.replicas ≡ length (log u) = longest_is cfg v.sound u v.now in
    let low_w : log_length (disk w (Replica i)) ≤ longest w.replicas = below_longest w i in
    let low_u : log_length (disk u (Replica i)) ≤ longest u.replicas = below_longest u i in
    let now : log_length (disk u (Replica i)) ≡ log_length (disk w (Replica i) ++ listed e) =
    ap log_length v.wrote.here in
    let one : log_length (listed e) ≡ 1 = ap (λ (o : Option Entry). log_length (listed o)) k.is in
    let len : length (log u) ≡ length (log w) + 1 = one_longer w u v.grows (omega arith) in
    let had : values_of d ≡ log w = all_of cfg v.sound w v.before i v.wrote.number (omega arith) in
    let has : values_of ((view u).disk i) ≡ log u = all_of cfg v.sound u v.now i v.wrote.number (omega arith) in
    let was : log_length (disk w (Replica i)) ≡ reach d.state = lengths_at cfg v.sound w v.before i v.wrote.number in
    let is : log_length (disk u (Replica i)) ≡ reach ((view u).disk i).state =
    lengths_at cfg v.sound u v.now i v.wrote.number in
    let disk_is : (view u).disk i ≡ with_entry d (entry.Learn k.ballot k.value) =
    disk_after w u i e v.wrote.here ∙ ap (grown d) k.is in
    let slot : reach ((view u).disk i).state ≡ reach (with_entry d (entry.Learn k.ballot k.value)).state =
    ap (λ (x : Disk). reach x.state) disk_is in
    record {
      ballot = k.ballot;
      value = k.value;
      is = k.is;
      had = had;
      has = sym has ∙ ap values_of disk_is ∙ values_more d k.ballot k.value (omega arith)
          ∙ ap (λ (xs : List Value). xs ++ k.value ∷ []) had;
    }

learned : (cfg : ConfigParts) (w u : World) (acts : List Act) (v : Event cfg w u acts)
    → longest w.replicas < log_length (disk w (Replica v.wrote.replica) ++ listed v.wrote.written)
    → Learned cfg w u v.wrote.replica v.wrote.written
learned cfg w u acts v lt =
    let i : ℕ = v.wrote.replica in
    let e : Option Entry = v.wrote.written in
    let more : log_length (disk w (Replica i) ++ listed e) ≡ log_length (disk w (Replica i)) + log_length (listed e) =
    length_more (disk w (Replica i)) (listed e) in
    let low : log_length (disk w (Replica i)) ≤ longest w.replicas = below_longest w i in
    learned_by cfg w u acts v lt (a_lesson e (omega arith))

told_if : (cfg : ConfigParts) (w : World) (i : ℕ) (e : Option Entry) (b : Bool)
    → nat_lt (longest w.replicas) (log_length (disk w (Replica i) ++ listed e)) ≡ b
    → told cfg w i e ≡ (if b then flat_map act_of (effects_of (lease_rules_of cfg) ((view w).disk i).state e) else [])
told_if cfg w i e b is = rw is refl

is_lt : (a b : ℕ) → a < b → nat_lt a b ≡ true
is_lt a b lt = grind (arith, nat_tests)

not_lt : (a b : ℕ) → b ≤ a → nat_lt a b ≡ false
not_lt a b le = grind (arith, nat_tests)

-- what is shown, in each case
shows_none : (cfg : ConfigParts) (w u : World) (acts : List Act) (v : Event cfg w u acts)
    → log_length (disk w (Replica v.wrote.replica) ++ listed v.wrote.written) ≤ longest w.replicas
    → ShowsWhatGrew cfg w u acts
shows_none cfg w u acts v le =
    let same : log u ≡ log w = still cfg w u acts v le in
    let none : new_values w u ≡ [] = ap (λ (xs : List Value). drop (length (log w)) xs) same
    ∙ drop_all (length (log w)) (log w) (omega arith) in
    v.wrote.shown
    ∙ told_if cfg w v.wrote.replica v.wrote.written false (not_lt (longest w.replicas) _ le)
    ∙ sym (ap (λ (xs : List Value). flat_map act_of (done_behind (lease_rules_of cfg) (log w) xs)) none
    ∙ ap (flat_map act_of) (none_done (lease_rules_of cfg) (log w)))

shows_one : (cfg : ConfigParts) (w u : World) (acts : List Act) (v : Event cfg w u acts)
    → longest w.replicas < log_length (disk w (Replica v.wrote.replica) ++ listed v.wrote.written)
    → ShowsWhatGrew cfg w u acts
shows_one cfg w u acts v lt =
    let rules : LeaseRules = lease_rules_of cfg in
    let i : ℕ = v.wrote.replica in
    let k : Learned cfg w u i v.wrote.written = learned cfg w u acts v lt in
    let one : new_values w u ≡ k.value ∷ [] = ap (λ (xs : List Value). drop (length (log w)) xs) k.has
    ∙ past (log w) (k.value ∷ []) in
    v.wrote.shown
    ∙ told_if cfg w i v.wrote.written true (is_lt (longest w.replicas) _ lt)
    ∙ ap (λ (e : Option Entry). flat_map act_of (effects_of rules ((view w).disk i).state e)) k.is
    ∙ ap (flat_map act_of) (one_done rules (log w) ((view w).disk i).state k.ballot k.value k.had)
    ∙ sym (ap (λ (xs : List Value). flat_map act_of (done_behind rules (log w) xs)) one)

pub event_shows : (cfg : ConfigParts) → IsSound cfg → (w : World) (b : Basic) → Reached cfg w → IsNamed cfg b
    → ShowsWhatGrew cfg w (after cfg w b) (acts_in (happens cfg w b).1)
event_shows cfg sound w b r named =
    let u : World = after cfg w b in
    let v : Event cfg w u (acts_in (happens cfg w b).1) = record {
      sound = sound;
      before = r;
      now = reached_next cfg w b named r;
      grows = log_grows cfg sound w b r named;
      wrote = wrote cfg sound w (happens cfg w b) r (in_order_at cfg sound w r) (shape_of cfg w b named);
    } in
    elim (low_or (longest w.replicas) (log_length (disk w (Replica v.wrote.replica) ++ listed v.wrote.written))) [
      | inl lt ↦ shows_one cfg w u _ v lt
      | inr le ↦ shows_none cfg w u _ v le
    ]

-- ---- a run

-- what was shown so far is of the log, so it is with an event more
acts_more : (cfg : ConfigParts) (w u : World) (acts more : List Act) → LogGrows w u → ActsAreOfLog cfg w acts
    → ShowsWhatGrew cfg w u more → ActsAreOfLog cfg u (acts ++ more)
acts_more cfg w u acts more g was shown =
    let rules : LeaseRules = lease_rules_of cfg in
    let es : List Effect = done_behind rules (log w) (new_values w u) in
    let all : history rules (commands (log u)) ≡ history rules (commands (log w)) ++ es =
    ap (λ (xs : List Value). history rules (commands xs)) g.front ∙ history_behind rules (log w) (new_values w u) in
    managers_append acts more
    ∙ ap (λ (xs : List Act). xs ++ managers_acts more) was
    ∙ ap (λ (xs : List Act). flat_map act_of (history rules (commands (log w))) ++ xs) shown
    ∙ sym (flat_map-append act_of (history rules (commands (log w))) es)
    ∙ ap (flat_map act_of) (sym all)

run_shows : (cfg : ConfigParts) → IsSound cfg → (bs : List Basic) (r : Run) → AreNamed cfg bs → Reached cfg r.world
    → ActsAreOfLog cfg r.world r.acts
    → ActsAreOfLog cfg (fold (after cfg) r.world bs) (fold (run_after cfg) r bs).acts
run_shows cfg sound [] r named reached h = h
run_shows cfg sound (b ∷ bs) r named reached h =
    run_shows cfg sound bs (run_after cfg r b) named.1 (reached_next cfg r.world b named.0 reached)
    (acts_more cfg r.world (after cfg r.world b) r.acts _ (log_grows cfg sound r.world b reached named.0) h
    (event_shows cfg sound r.world b reached named.0))

first_log : (cfg : ConfigParts) → log (first_world cfg) ≡ []
unfolding first_world view site disk_of
first_log cfg = refl

first_acts : (cfg : ConfigParts) → ActsAreOfLog cfg (first_world cfg) []
unfolding managers_acts story
first_acts cfg =
    ap (λ (xs : List Value). flat_map act_of (history (lease_rules_of cfg) (commands xs))) (sym (first_log cfg))

pub acts_of_log : (cfg : ConfigParts) → IsSound cfg → (bs : List Basic) → AreNamed cfg bs
    → ActsAreOfLog cfg (world cfg bs) (run cfg bs).acts
unfolding world run
acts_of_log cfg sound bs named =
    run_shows cfg sound bs (first_run cfg) named (first_reached cfg) (first_acts cfg)
