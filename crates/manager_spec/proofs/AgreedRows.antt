-- Each row is one step of the agreement: rows of replicas and of the clock.
use Rattle.std.proofs.Common.{◌≡◌, ◌≤◌, refl, ℕ, true, false, Bool, List, [], ◌++◌, Option, Some, None, sym, ap, ◌∙◌}
use Rattle.std.proofs.Common.{max, subst, arith}
use Rattle.std.specs.Prelude.{length, if◌then◌else◌, not, ◌&&◌, ◌==◌, nat_lt, nat_le, ◌-◌}
use Rattle.std.specs.List.{flat_map}
use Rattle.std.proofs.lemmas.List.{append-nil}
use Rattle.std.proofs.lemmas.Bool.Decides.{nat_tests}
use Rattle.std.proofs.lemmas.Option.{slice_get_past}
use Rattle.wire_core.specs.Members.{Each}
use Rattle.wire_core.specs.Steps.{first_of}
use Rattle.wire_core.specs.declared.cause.DropCause.{DropCause}
use Rattle.wire_core.specs.declared.cause.DropCause.TheVariants.{Late}
use Rattle.vip_config.specs.declared.parts.ConfigParts.{ConfigParts}
use Rattle.vip_config.specs.Leases.{lease_rules_of}
use Rattle.control_msg.specs.declared.message.Message.TheVariants.{Lead}
use Rattle.paxos_spec.specs.declared.cast.Cast.{Cast}
use Rattle.paxos_spec.specs.declared.mail.Body.TheVariants as body
use Rattle.paxos_spec.specs.declared.mail.Mail.{Mail}
use Rattle.paxos_spec.specs.declared.steps.AcceptStep.{AcceptStep}
use Rattle.paxos_spec.specs.declared.steps.AcceptStep.TheVariants as accept
use Rattle.paxos_spec.specs.declared.steps.ChosenStep.{ChosenStep}
use Rattle.paxos_spec.specs.declared.steps.ChosenStep.TheVariants as chosen
use Rattle.paxos_spec.specs.declared.steps.LeadStep.{LeadStep}
use Rattle.paxos_spec.specs.declared.steps.LeadStep.TheVariants as lead
use Rattle.paxos_spec.specs.declared.steps.Counted.{Counted}
use Rattle.paxos_spec.specs.declared.steps.Counted.TheVariants as counted
use Rattle.paxos_spec.specs.Votes.{Value, cast, value_of}
use Rattle.paxos_spec.specs.Five.{has, joined, how_many}
use Rattle.paxos_spec.specs.Acceptor.{AcceptorState, reach, kept, accept_step, chosen_step}
use Rattle.paxos_spec.specs.Leader.{LeaderState, is_candidate, is_follower, is_primary, value_out, Tally, tallied}
use Rattle.paxos_spec.specs.Leader.{with_tally, third_promise, arrive, lead_promise, lead_accepted, campaign}
use Rattle.paxos_spec.specs.Replica.{Memory, Out, quiet as still, with_leader, is_next, led as promise_led}
use Rattle.paxos_spec.specs.Replica.{accept_out, tallied_out, campaigned, on_message, on_campaign, on_fetch}
use Rattle.paxos_spec.specs.Replica as paxos
use Rattle.node_spec.specs.Sends.{Send, tell, others}
use Rattle.wire_core.specs.declared.node.NodeId.TheVariants.{Replica}
use Rattle.node_spec.specs.Turns.{Turn, quiet, drop_turn, says}
use Rattle.manager_spec.specs.Manager.{Manager, effects_of, act_of, agrees, hears, leases}
use Rattle.manager_spec.specs.Known.{running}
use Rattle.manager_spec.specs.Orders.{orders, push}
use Rattle.manager_spec.specs.Proposal.{Half, stops, goes_on}
use Rattle.manager_spec.specs.Leading.{on_prepare, is_late_promise, on_promise, on_refuse, led, on_lead}
use Rattle.manager_spec.specs.Voting.{is_late_accept, on_accept, completes, counts, on_accepted, is_late_chosen}
use Rattle.manager_spec.specs.Voting.{on_chosen, on_fetched}
use Rattle.manager_spec.specs.Clock.{lead_again, accept_again, leads, emptied, runs_for, ticks, on_tick}
use Rattle.manager_spec.specs.Agreement.{mails_in, tick_step, IsStep}
use Rattle.manager_spec.proofs.Choices.{by_if, by_both}
use Rattle.manager_spec.proofs.Mails.{IsMute, mails_append, own_mails, mute_mails, each_map, orders_mute, push_mute}
use Rattle.manager_spec.proofs.Own.{IsOwn, again_own, message_own, campaign_own}

-- ---- the parts of which rows are made

-- where nothing is written there are no acts
pub no_acts : (cfg : ConfigParts) (r : Manager)
    → [] ≡ flat_map act_of (effects_of (lease_rules_of cfg) r.acceptor None)
unfolding effects_of
no_acts cfg r = refl

-- a step of the agreement, from lists that differ in what isn't of it
pub agrees_is : (cfg : ConfigParts) (r n : Manager) (o : Out) → n.index ≡ r.index → n.acceptor ≡ r.acceptor
    → IsOwn r.index o → IsStep cfg r (agrees cfg n o) o
unfolding agrees
agrees_is cfg r n o index acceptor own = record {
  index = index;
  acceptor = ap (λ (a : AcceptorState). kept a o.entry) acceptor;
  memory = refl;
  entry = refl;
  acts = ap (λ (a : AcceptorState). flat_map act_of (effects_of (lease_rules_of cfg) a o.entry)) acceptor;
  mails = own_mails r.index o.sends own;
}

pub hears_is : (cfg : ConfigParts) (r : Manager) (t : Turn Manager) (o : Out) → IsStep cfg r t o
    → IsStep cfg r (hears t) o
hears_is cfg r t o h = record {
  index = h.index;
  acceptor = h.acceptor;
  memory = h.memory;
  entry = h.entry;
  acts = h.acts;
  mails = h.mails;
}

-- other lists, with this memory
pub quiet_is : (cfg : ConfigParts) (r n : Manager) (m : Memory) → n.index ≡ r.index → n.acceptor ≡ r.acceptor
    → n.memory ≡ m → IsStep cfg r (quiet n) (still m)
unfolding mails_in
quiet_is cfg r n m index acceptor memory = record {
  index = index;
  acceptor = acceptor;
  memory = memory;
  entry = refl;
  acts = no_acts cfg r;
  mails = refl;
}

pub drops_is : (cfg : ConfigParts) (r : Manager) (c : DropCause) → IsStep cfg r (drop_turn r c) (still r.memory)
unfolding mails_in
drops_is cfg r c = record {
  index = refl;
  acceptor = refl;
  memory = refl;
  entry = refl;
  acts = no_acts cfg r;
  mails = refl;
}

-- an answer that is nothing of the agreement
pub says_is : (cfg : ConfigParts) (r : Manager) (xs : List Send) → Each (IsMute r.index) xs
    → IsStep cfg r (says r xs) (still r.memory)
says_is cfg r xs mute = record {
  index = refl;
  acceptor = refl;
  memory = refl;
  entry = refl;
  acts = no_acts cfg r;
  mails = mute_mails r.index xs mute;
}

-- the step that it is, by another name
pub same_step : (cfg : ConfigParts) (r : Manager) (t : Turn Manager) (o p : Out) → o ≡ p → IsStep cfg r t o
    → IsStep cfg r t p
same_step cfg r t o p e h = subst (IsStep cfg r t) e h

-- ---- who leads

pub prepare_is : (cfg : ConfigParts) (r : Manager) (from c : ℕ)
    → IsStep cfg r (on_prepare cfg r from c) (paxos.on_prepare r.index r.acceptor r.memory from c)
unfolding on_prepare
prepare_is cfg r from c = hears_is cfg r _ _
    (agrees_is cfg r r _ refl refl (message_own r.index r.acceptor r.memory from (body.Prepare c)))

-- a Promise that counts for nothing leaves the leader as it was
late_leaves : (l : LeaderState) (from c length : ℕ) (vote : Cast) (own : ℕ)
    → is_late_promise (lead_promise l from c length vote own).1 ≡ true → (lead_promise l from c length vote own).0 ≡ l
late_leaves l from c length vote own = by_if Keeps
    (is_candidate l.stage && (l.ballot == c) && not (has l.tally.tellers from)) {y = (l, lead.Late)}
    (λ _. by_if Keeps (nat_lt (how_many (joined l.tally.tellers from)) 3)
    {x = (with_tally l (tallied l.tally from length vote), lead.More)}
    (λ _ e. absurd (cc)) (λ _. third (tallied l.tally from length vote)))
    (λ _ e. refl)
  where
    Keeps : LeaderState × LeadStep → Type 0
    Keeps x = is_late_promise x.1 ≡ true → x.0 ≡ l

    arrived : (o : Option Value) → Keeps (arrive l own o)
    arrived None e = absurd (cc)
    arrived (Some v) e = absurd (cc)

    third : (t : Tally) → Keeps (third_promise l t own)
    third t = by_if Keeps (nat_lt own t.longest) (λ _ e. absurd (cc))
        (λ _. arrived (if own == t.longest then value_of t.best else None))

promise_by : (cfg : ConfigParts) (r : Manager) (l : LeaderState) (s : LeadStep)
    → (is_late_promise s ≡ true → l ≡ r.memory.leader)
    → IsOwn r.index (promise_led r.index (reach r.acceptor) r.memory l s)
    → IsStep cfg r
    (if is_late_promise s then drop_turn r Late else agrees cfg r (promise_led r.index (reach r.acceptor) r.memory l s))
    (promise_led r.index (reach r.acceptor) r.memory l s)
promise_by cfg r l lead.Late same own =
    same_step cfg r _ _ _ (ap (λ (x : LeaderState). still (with_leader r.memory x)) (sym (same refl)))
    (drops_is cfg r Late)
promise_by cfg r l lead.More same own = agrees_is cfg r r _ refl refl own
promise_by cfg r l (lead.Catch from slot) same own = agrees_is cfg r r _ refl refl own
promise_by cfg r l lead.Inherit same own = agrees_is cfg r r _ refl refl own
promise_by cfg r l lead.Ready same own = agrees_is cfg r r _ refl refl own

pub promise_is : (cfg : ConfigParts) (r : Manager) (from c length vote : ℕ) (value : Option Value)
    → IsStep cfg r (on_promise cfg r from c length (cast vote value))
    (on_message r.index r.acceptor r.memory from (body.Promise c length vote value))
unfolding on_promise paxos.on_promise
promise_is cfg r from c length vote value =
    promise_by cfg r (lead_promise r.memory.leader from c length (cast vote value) (reach r.acceptor)).0
    (lead_promise r.memory.leader from c length (cast vote value) (reach r.acceptor)).1
    (late_leaves r.memory.leader from c length (cast vote value) (reach r.acceptor))
    (message_own r.index r.acceptor r.memory from (body.Promise c length vote value))

-- a Refuse that counts for nothing
refused_late : (m : Memory) (c p : ℕ)
    → (not (is_follower m.leader.stage) && (m.leader.ballot == c) && nat_lt c p) ≡ false
    → paxos.on_refuse m c p ≡ still m
unfolding paxos.on_refuse
refused_late m c p e = rw e refl

pub refuse_is : (cfg : ConfigParts) (r : Manager) (from c p : ℕ)
    → IsStep cfg r (on_refuse cfg r c p) (on_message r.index r.acceptor r.memory from (body.Refuse c p))
unfolding on_refuse
refuse_is cfg r from c p =
    by (not (is_follower r.memory.leader.stage) && (r.memory.leader.ballot == c) && nat_lt c p) refl
  where
    by : (b : Bool) → (not (is_follower r.memory.leader.stage) && (r.memory.leader.ballot == c) && nat_lt c p) ≡ b
        → IsStep cfg r (if b then agrees cfg (record r { heard = r.time }) (paxos.on_refuse r.memory c p)
        else drop_turn r Late)
        (paxos.on_refuse r.memory c p)
    by true e = agrees_is cfg r (record r { heard = r.time }) _ refl refl
        (message_own r.index r.acceptor r.memory from (body.Refuse c p))
    by false e = same_step cfg r _ _ _ (sym (refused_late r.memory c p e)) (drops_is cfg r Late)

led_own : (r : Manager) (from c length : ℕ) → IsOwn r.index (led r from c length)
led_own r from c length = by_if (IsOwn r.index) (nat_lt c r.acceptor.promise) (λ _. (refl, tt))
    (λ _. by_if (IsOwn r.index) (nat_lt (reach r.acceptor) length) (λ _. (refl, tt)) (λ _. tt))

pub lead_is : (cfg : ConfigParts) (r : Manager) (from c length : ℕ)
    → IsStep cfg r (on_lead cfg r from c length) (led r from c length)
unfolding on_lead
lead_is cfg r from c length = agrees_is cfg r _ _ refl refl (led_own r from c length)

-- ---- what the log gets

accept_by : (cfg : ConfigParts) (r : Manager) (from c slot : ℕ) (v : Value) (s : AcceptStep)
    → IsOwn r.index (paxos.accepted r.index r.memory from c slot v s)
    → IsStep cfg r
    (if is_late_accept s then drop_turn r Late
    else hears (agrees cfg r (paxos.accepted r.index r.memory from c slot v s)))
    (paxos.accepted r.index r.memory from c slot v s)
accept_by cfg r from c slot v (accept.Refuse promised) own = hears_is cfg r _ _ (agrees_is cfg r r _ refl refl own)
accept_by cfg r from c slot v accept.Late own = drops_is cfg r Late
accept_by cfg r from c slot v (accept.Behind length) own = hears_is cfg r _ _ (agrees_is cfg r r _ refl refl own)
accept_by cfg r from c slot v accept.Again own = hears_is cfg r _ _ (agrees_is cfg r r _ refl refl own)
accept_by cfg r from c slot v accept.Voted own = hears_is cfg r _ _ (agrees_is cfg r r _ refl refl own)

pub accept_is : (cfg : ConfigParts) (r : Manager) (from c slot : ℕ) (v : Value)
    → IsStep cfg r (on_accept cfg r from c slot v) (on_message r.index r.acceptor r.memory from (body.Accept c slot v))
unfolding on_accept paxos.on_accept
accept_is cfg r from c slot v = accept_by cfg r from c slot v (accept_step r.acceptor c slot v)
    (message_own r.index r.acceptor r.memory from (body.Accept c slot v))

chosen_by : (cfg : ConfigParts) (r : Manager) (from slot c : ℕ) (v : Value) (s : ChosenStep)
    → IsOwn r.index (paxos.learned r.index r.acceptor r.memory from slot c v s)
    → IsStep cfg r
    (if is_late_chosen s then drop_turn r Late
    else hears (agrees cfg r (paxos.learned r.index r.acceptor r.memory from slot c v s)))
    (paxos.learned r.index r.acceptor r.memory from slot c v s)
chosen_by cfg r from slot c v chosen.Late own = drops_is cfg r Late
chosen_by cfg r from slot c v (chosen.Behind length) own = hears_is cfg r _ _ (agrees_is cfg r r _ refl refl own)
chosen_by cfg r from slot c v chosen.Learned own = hears_is cfg r _ _ (agrees_is cfg r r _ refl refl own)

pub chosen_is : (cfg : ConfigParts) (r : Manager) (from slot c : ℕ) (v : Value)
    → IsStep cfg r (on_chosen cfg r from slot c v) (on_message r.index r.acceptor r.memory from (body.Chosen slot c v))
unfolding on_chosen paxos.on_chosen
chosen_is cfg r from slot c v = chosen_by cfg r from slot c v (chosen_step r.acceptor slot)
    (message_own r.index r.acceptor r.memory from (body.Chosen slot c v))

pub fetch_is : (cfg : ConfigParts) (r : Manager) (from slot : ℕ)
    → IsStep cfg r (on_fetched cfg r from slot) (on_message r.index r.acceptor r.memory from (body.Fetch slot))
unfolding on_fetched
fetch_is cfg r from slot = by (nat_lt slot (reach r.acceptor)) refl
  where
    past : nat_lt slot (reach r.acceptor) ≡ false → reach r.acceptor ≤ slot
    past e = grind (arith, nat_tests)

    by : (b : Bool) → nat_lt slot (reach r.acceptor) ≡ b
        → IsStep cfg r (if b then agrees cfg r (on_fetch r.index r.acceptor r.memory from slot) else drop_turn r Late)
        (on_fetch r.index r.acceptor r.memory from slot)
    by true e = agrees_is cfg r r _ refl refl (message_own r.index r.acceptor r.memory from (body.Fetch slot))
    by false e = same_step cfg r _ _ _
        (sym (ap (paxos.fetched r.index r.memory from slot) (slice_get_past r.acceptor.log slot (past e))))
        (drops_is cfg r Late)

first_none : {X : Type 0} (e : Option X) → first_of e None ≡ e
first_none None = refl
first_none (Some x) = refl

completes_is : (cfg : ConfigParts) (r : Manager) (o : Out) → IsOwn r.index o → IsStep cfg r (completes cfg r o) o
unfolding completes
completes_is cfg r o own =
    let t : Turn Manager = agrees cfg r o in
    let more : Turn Manager = orders cfg (effects_of (lease_rules_of cfg) r.acceptor o.entry) t.state in
    let h : IsStep cfg r t o = agrees_is cfg r r o refl refl own in
    let mute : mails_in r.index more.sends ≡ [] =
    mute_mails r.index more.sends
    (orders_mute cfg r.index t.state.memory.leader.ballot (running t.state) (leases cfg t.state).rows
    (effects_of (lease_rules_of cfg) r.acceptor o.entry)) in
    record {
      index = h.index;
      acceptor = h.acceptor;
      memory = h.memory;
      entry = first_none t.entry ∙ h.entry;
      acts = append-nil t.acts ∙ h.acts;
      mails = mails_append r.index t.sends more.sends
          ∙ ap (λ (xs : List Mail). mails_in r.index t.sends ++ xs) mute
          ∙ append-nil (mails_in r.index t.sends) ∙ h.mails;
    }

counts_is : (cfg : ConfigParts) (r : Manager) (o : Out) (k : Counted) → IsOwn r.index o
    → (k ≡ counted.Late → still r.memory ≡ o) → IsStep cfg r (counts cfg r o k).turn o
counts_is cfg r o counted.Late own late = same_step cfg r _ _ _ (late refl) (drops_is cfg r Late)
counts_is cfg r o counted.More own late = agrees_is cfg r r o refl refl own
counts_is cfg r o counted.Chosen own late = completes_is cfg r o own

-- an Accepted that counts for nothing
uncounted : (me : ℕ) (m : Memory) (c slot : ℕ) (o : Option Value) (l : LeaderState) (k : Counted) → k ≡ counted.Late
    → still m ≡ tallied_out me m c slot o l k
uncounted me m c slot o l counted.Late e = refl
uncounted me m c slot o l counted.More e = absurd (cc)
uncounted me m c slot o l counted.Chosen e = absurd (cc)

late_accepted : (r : Manager) (from c slot : ℕ) → is_next r.acceptor slot ≡ true
    → (lead_accepted r.memory.leader from c slot).1 ≡ counted.Late
    → still r.memory ≡ paxos.on_accepted r.index r.acceptor r.memory from c slot
unfolding paxos.on_accepted
late_accepted r from c slot e late = rw e (uncounted r.index r.memory c slot (value_out r.memory.leader.out) _ _ late)

not_next : (r : Manager) (from c slot : ℕ) → is_next r.acceptor slot ≡ false
    → still r.memory ≡ paxos.on_accepted r.index r.acceptor r.memory from c slot
unfolding paxos.on_accepted
not_next r from c slot e = rw e refl

pub accepted_is : (cfg : ConfigParts) (r : Manager) (from c slot : ℕ)
    → IsStep cfg r (on_accepted cfg r from c slot).turn
    (on_message r.index r.acceptor r.memory from (body.Accepted c slot))
unfolding on_accepted
accepted_is cfg r from c slot = by (is_next r.acceptor slot) refl
  where
    own : IsOwn r.index (paxos.on_accepted r.index r.acceptor r.memory from c slot)
    own = message_own r.index r.acceptor r.memory from (body.Accepted c slot)

    by : (b : Bool) → is_next r.acceptor slot ≡ b
        → IsStep cfg r
        (if b then counts cfg r (paxos.on_accepted r.index r.acceptor r.memory from c slot)
        (lead_accepted r.memory.leader from c slot).1
        else stops (drop_turn r Late)).turn
        (paxos.on_accepted r.index r.acceptor r.memory from c slot)
    by true e = counts_is cfg r _ _ own (late_accepted r from c slot e)
    by false e = same_step cfg r _ _ _ (not_next r from c slot e) (drops_is cfg r Late)

-- ---- the clock

leads_is : (cfg : ConfigParts) (r : Manager)
    → IsStep cfg r (leads cfg r)
    (record { entry = None; memory = r.memory; sends = accept_out r.index (reach r.acceptor) r.memory.leader })
leads_is cfg r =
    let own : List Mail = accept_out r.index (reach r.acceptor) r.memory.leader in
    let one : mails_in r.index (lead_again r) ≡ [] = mute_mails r.index (lead_again r)
    (each_map (IsMute r.index) (λ i. tell (Replica i) (Lead r.memory.leader.ballot (reach r.acceptor))) (λ i. refl)
    (others r.index)) in
    let three : mails_in r.index (push cfg r) ≡ [] = mute_mails r.index (push cfg r) (push_mute cfg r.index r) in
    let two : mails_in r.index (accept_again r) ≡ own =
    own_mails r.index own (again_own r.index (reach r.acceptor) r.memory.leader) in
    record {
      index = refl;
      acceptor = refl;
      memory = refl;
      entry = refl;
      acts = no_acts cfg r;
      mails = mails_append r.index (lead_again r ++ accept_again r) (push cfg r)
          ∙ ap (λ (xs : List Mail). mails_in r.index (lead_again r ++ accept_again r) ++ xs) three
          ∙ append-nil (mails_in r.index (lead_again r ++ accept_again r))
          ∙ mails_append r.index (lead_again r) (accept_again r)
          ∙ ap (λ (xs : List Mail). xs ++ mails_in r.index (accept_again r)) one ∙ two;
    }

-- without an entry a candidacy is nothing
runs_by : (cfg : ConfigParts) (r : Manager) (l : LeaderState) (o : Option ℕ)
    → IsOwn r.index (campaigned r.index r.memory l o)
    → IsStep cfg r (runs_for cfg r (campaigned r.index r.memory l o)) (campaigned r.index r.memory l o)
runs_by cfg r l None own = quiet_is cfg r r r.memory refl refl refl
runs_by cfg r l (Some c) own = hears_is cfg r _ _ (agrees_is cfg r (emptied r) _ refl refl own)

pub runs_is : (cfg : ConfigParts) (r : Manager)
    → IsStep cfg r (runs_for cfg r (on_campaign r.index r.acceptor r.memory)) (on_campaign r.index r.acceptor r.memory)
unfolding on_campaign
runs_is cfg r = by (is_primary r.memory.leader.stage)
  where
    Runs : Out → Type 0
    Runs o = IsOwn r.index o → IsStep cfg r (runs_for cfg r o) o

    by : (b : Bool) → IsStep cfg r (runs_for cfg r (on_campaign r.index r.acceptor r.memory))
        (on_campaign r.index r.acceptor r.memory)
    by b = by_if Runs (is_primary r.memory.leader.stage) (λ _ own. quiet_is cfg r r r.memory refl refl refl)
        (λ _. runs_by cfg r (campaign r.memory.leader (max r.acceptor.promise r.memory.seen) r.index).0
        (campaign r.memory.leader (max r.acceptor.promise r.memory.seen) r.index).1)
        (campaign_own r.index r.acceptor r.memory)

pub tick_is : (cfg : ConfigParts) (r : Manager) (now : ℕ) → IsStep cfg r (on_tick cfg r now).turn (tick_step cfg r now)
unfolding on_tick
tick_is cfg r now =
    let n : Manager = record r { time = max r.time now } in
    let h : IsStep cfg n (ticks cfg n).turn (tick_step cfg r now) =
    by_both (λ (x : Half) (o : Out). IsStep cfg n x.turn o) (is_primary r.memory.leader.stage)
    {x = goes_on (leads cfg n)} (λ _. leads_is cfg n)
    (λ _. by_both (λ (x : Half) (o : Out). IsStep cfg n x.turn o)
    (nat_le cfg.timers.lead_silent (max r.time now - r.heard))
    {x = stops (runs_for cfg n (on_campaign n.index n.acceptor n.memory))} {y = stops (quiet n)}
    (λ _. runs_is cfg n) (λ _. quiet_is cfg n n n.memory refl refl refl)) in
    record {
      index = h.index;
      acceptor = h.acceptor;
      memory = h.memory;
      entry = h.entry;
      acts = h.acts;
      mails = h.mails;
    }
