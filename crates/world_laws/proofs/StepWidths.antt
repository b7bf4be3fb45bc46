-- What a step of the agreement writes, keeps and says fits its width, where what came to it does.
use Rattle.std.proofs.Common.{◌≡◌, refl, subst, ℕ, zero, suc, ◌+◌, ◌<◌, ◌≤◌, max, Bool, true, false, List, [], ◌∷◌, map, filter, length, Option, Some, None, arith, if◌then◌else◌, not, nat_lt}
use Rattle.std.specs.Prelude.{◌==◌, ◌&&◌, ◌||◌, ◌^◌, slice_get, fold, cond}
use Rattle.std.proofs.lemmas.Bool.Decides.{nat_tests}
use Rattle.std.proofs.lemmas.List.{length-append}
use Rattle.wire_core.specs.Commands.{IsValue}
use Rattle.wire_core.specs.Members.{Each}
use Rattle.wire_core.specs.declared.entry.Entry.{Entry}
use Rattle.wire_core.specs.declared.entry.Entry.TheVariants as entry
use Rattle.control_msg.specs.Messages.{IsMessage, IsNumber, IsVote}
use Rattle.paxos_spec.specs.declared.cast.Cast.{Cast}
use Rattle.paxos_spec.specs.declared.cast.Proposal.{Proposal}
use Rattle.paxos_spec.specs.declared.mail.Body.{Body}
use Rattle.paxos_spec.specs.declared.mail.Body.TheVariants as body
use Rattle.paxos_spec.specs.declared.mail.Mail.{Mail}
use Rattle.paxos_spec.specs.declared.stage.Stage.{Stage}
use Rattle.paxos_spec.specs.declared.stage.Stage.TheVariants.{Follower, Candidate, Inheriting, Primary}
use Rattle.paxos_spec.specs.declared.steps.PrepareStep.{PrepareStep}
use Rattle.paxos_spec.specs.declared.steps.PrepareStep.TheVariants as prepare
use Rattle.paxos_spec.specs.declared.steps.AcceptStep.{AcceptStep}
use Rattle.paxos_spec.specs.declared.steps.AcceptStep.TheVariants as accept
use Rattle.paxos_spec.specs.declared.steps.ChosenStep.{ChosenStep}
use Rattle.paxos_spec.specs.declared.steps.ChosenStep.TheVariants as chosen
use Rattle.paxos_spec.specs.declared.steps.LeadStep.{LeadStep}
use Rattle.paxos_spec.specs.declared.steps.LeadStep.TheVariants as lead
use Rattle.paxos_spec.specs.declared.steps.Counted.{Counted}
use Rattle.paxos_spec.specs.declared.steps.Counted.TheVariants as counted
use Rattle.paxos_spec.specs.Votes.{Value, no_vote, value_of, cast}
use Rattle.paxos_spec.specs.Five.{five, has, joined, how_many, next_ballot}
use Rattle.paxos_spec.specs.Acceptor.{AcceptorState, new_acceptor, reach, most_slots, with_learned, follow, state_of, kept, is_late, stands}
use Rattle.paxos_spec.specs.Leader.{Tally, no_tally, tallied, LeaderState, bare, is_candidate, is_follower, is_catching, is_primary, is_leading, value_out, stepped_down, candidate, proposing, primary, arrive, catching, third_promise, with_tally, lead_reached, with_counted, lead_accepted_of, lead_accepted}
use Rattle.paxos_spec.specs.Replica.{Memory, new_memory, with_leader, with_goal, down, mail, to_all, to_others, quiet, reply, promise_of, prepared, on_prepare, accept_of, accept_out, led_by, on_promise, accepted, on_accept, is_next, tallied_by, on_accepted, on_refuse, fetch_more, onwards, once_learned, learned, on_chosen, fetched, on_fetch, on_message, campaigned_by, on_campaign, may_propose, on_offer}
use Rattle.manager_spec.specs.Manager.{message_of}
use Rattle.manager_spec.proofs.Choices.{by_if}
use Rattle.lease_spec.proofs.MemberLaws.{each_append}
use Rattle.world_laws.specs.Widths.{MayFit, VoteFits, CastFits, AcceptorFits, TallyFits, LeaderFits, MemoryFits, EntryFits, KeptFits, MailFits, OutFits}

-- ---- numbers

-- a log has fewer slots than a number may count
pub slot_number : (n : ℕ) → n ≤ most_slots → IsNumber n
slot_number n le = omega arith

above_zero : (n : ℕ) → (n == 0) ≡ false → 0 < n
above_zero n e = grind (arith, nat_tests)

is_zero : (n : ℕ) → (n == 0) ≡ true → n ≡ 0
is_zero n e = grind (arith, nat_tests)

is_below : (a b : ℕ) → nat_lt a b ≡ true → a < b
is_below a b e = grind (arith, nat_tests)

greater_fits : (a b : ℕ) → IsNumber a → IsNumber b → IsNumber (max a b)
greater_fits a b x y = omega arith

-- ---- parts

pub none_fits : VoteFits no_vote
none_fits = record { ballot = omega arith; value = λ lt. absurd (omega arith) }

pub no_tally_fits : TallyFits no_tally
no_tally_fits = record { source = λ lt. absurd (omega arith); best = none_fits }

pub bare_fits : (s : Stage) (ballot : ℕ) → IsNumber ballot → LeaderFits (bare s ballot)
bare_fits s ballot fits = record { ballot = fits; tally = no_tally_fits; pending = tt; out = tt }

pub new_memory_fits : MemoryFits new_memory
new_memory_fits = record { leader = bare_fits Follower 0 (omega arith); guide = omega arith }

leads_fit : (m : Memory) (l : LeaderState) → MemoryFits m → LeaderFits l → MemoryFits (with_leader m l)
leads_fit m l fits new = record { leader = new; guide = fits.guide }

pub down_fits : (m : Memory) → MemoryFits m → MemoryFits (down m)
down_fits m fits = leads_fit m (stepped_down m.leader) fits (bare_fits Follower m.leader.ballot fits.leader.ballot)

pub goal_fits : (m : Memory) (length replica : ℕ) → MemoryFits m → replica < 5 → MemoryFits (with_goal m length replica)
goal_fits m length replica fits lt = record { leader = fits.leader; guide = lt }

proposing_fits : (s : Stage) (l : LeaderState) (slot : ℕ) (v : Value) → LeaderFits l → IsValue v
    → LeaderFits (proposing s l slot v)
proposing_fits s l slot v fits value =
    record { ballot = fits.ballot; tally = no_tally_fits; pending = tt; out = value }

-- a vote as it is told
vote_told : (x : Cast) → VoteFits x → IsVote x.ballot (value_of x)
vote_told x fits = by_test (x.ballot == 0) refl
  where
    by_test : (b : Bool) → (x.ballot == 0) ≡ b → IsVote x.ballot (if b then None else Some x.value)
    by_test true is = is_zero x.ballot is
    by_test false is = (above_zero x.ballot is, fits.value (above_zero x.ballot is))

vote_value : (x : Cast) → VoteFits x → MayFit (value_of x)
vote_value x fits = by_test (x.ballot == 0) refl
  where
    by_test : (b : Bool) → (x.ballot == 0) ≡ b → MayFit (if b then None else Some x.value)
    by_test true is = tt
    by_test false is = fits.value (above_zero x.ballot is)

-- and as it is heard
vote_heard : (ballot : ℕ) (o : Option Value) → IsNumber ballot → IsVote ballot o → VoteFits (cast ballot o)
vote_heard ballot None fits is = none_fits
vote_heard ballot (Some v) fits is = by_if VoteFits (ballot == 0) (λ _. none_fits)
    (λ _. record { ballot = fits; value = λ _. is.1 })

-- ---- entries

learned_fits : (a : AcceptorState) (ballot : ℕ) (v : Value) → AcceptorFits a → IsNumber ballot → IsValue v
    → reach a < most_slots → AcceptorFits (with_learned a ballot v)
learned_fits a ballot v fits number value lt = record {
  promise = greater_fits a.promise ballot fits.promise number;
  vote = none_fits;
  log = each_append CastFits a.log _ fits.log ((number, value), tt);
  room = let e = length-append a.log (record { ballot = ballot; value = v } ∷ []) in omega arith;
}

pub follow_fits : (a : AcceptorState) (e : Entry) → AcceptorFits a → EntryFits e → AcceptorFits (follow a e)
follow_fits a (entry.Boot version role index boot) fits new = fits
follow_fits a (entry.Promise ballot) fits new =
    record { promise = greater_fits a.promise ballot fits.promise new; vote = fits.vote; log = fits.log; room = fits.room }
follow_fits a (entry.Vote ballot value) fits new = record {
  promise = greater_fits a.promise ballot fits.promise new.0;
  vote = record { ballot = new.0; value = λ _. new.1 };
  log = fits.log;
  room = fits.room;
}
follow_fits a (entry.Learn ballot value) fits new = by_if AcceptorFits (nat_lt (reach a) most_slots)
    (λ is. learned_fits a ballot value fits new.0 new.1 (is_below _ _ is)) (λ _. fits)
follow_fits a (entry.Epoch epoch) fits new = fits

pub kept_fits : (a : AcceptorState) (e : Option Entry) → AcceptorFits a → KeptFits e → AcceptorFits (kept a e)
kept_fits a None fits new = fits
kept_fits a (Some e) fits new = follow_fits a e fits new

fold_fits : (a : AcceptorState) (es : List Entry) → AcceptorFits a → Each EntryFits es → AcceptorFits (fold follow a es)
fold_fits a [] fits new = fits
fold_fits a (e ∷ es) fits new = fold_fits (follow a e) es (follow_fits a e fits new.0) new.1

-- the state that entries leave
pub state_fits : (es : List Entry) → Each EntryFits es → AcceptorFits (state_of es)
unfolding state_of
state_fits es new = fold_fits new_acceptor es (record {
  promise = omega arith;
  vote = none_fits;
  log = tt;
  room = omega arith;
}) new

-- ---- what is said

pub quiet_fits : (m : Memory) → MemoryFits m → OutFits (quiet m)
quiet_fits m fits = record { entry = tt; memory = fits; sends = tt }

pub reply_fits : (m : Memory) (me : ℕ) (b : Body) (to : ℕ) → MemoryFits m → to < 5 → IsMessage (message_of b)
    → OutFits (reply m me b to)
reply_fits m me b to fits lt is = record { entry = tt; memory = fits; sends = ((lt, is), tt) }

each_mail : (me : ℕ) (b : Body) (ts : List ℕ) → Each (λ t. t < 5) ts → IsMessage (message_of b)
    → Each MailFits (map (mail me b) ts)
each_mail me b [] lt is = tt
each_mail me b (t ∷ ts) lt is = ((lt.0, is), each_mail me b ts lt.1 is)

below_five : Each (λ t. t < 5) five
below_five = (omega arith, (omega arith, (omega arith, (omega arith, (omega arith, tt)))))

each_filter : (P : ℕ → Type 0) (p : ℕ → Bool) (xs : List ℕ) → Each P xs → Each P (filter p xs)
each_filter P p [] h = tt
each_filter P p (x ∷ xs) h = by (p x) (each_filter P p xs h.1)
  where
    by : (b : Bool) → Each P (filter p xs) → Each P (cond b (x ∷ filter p xs) (filter p xs))
    by true rest = (h.0, rest)
    by false rest = rest

to_all_fits : (me : ℕ) (b : Body) → IsMessage (message_of b) → Each MailFits (to_all me b)
to_all_fits me b is = each_mail me b five below_five is

to_others_fits : (me : ℕ) (b : Body) → IsMessage (message_of b) → Each MailFits (to_others me b)
to_others_fits me b is = each_mail me b (filter (λ i. not (i == me)) five) (each_filter (λ t. t < 5) (λ i. not (i == me)) five below_five) is

accept_fits : (me at ballot : ℕ) (o : Option Value) → IsNumber ballot → IsNumber at → MayFit o
    → Each MailFits (accept_of me at ballot o)
accept_fits me at ballot None number slot value = tt
accept_fits me at ballot (Some v) number slot value = to_all_fits me (body.Accept ballot at v) (number, slot, value)

pub again_fits : (me at : ℕ) (l : LeaderState) → LeaderFits l → IsNumber at → Each MailFits (accept_out me at l)
again_fits me at l fits slot = accept_fits me at l.ballot (value_out l.out) fits.ballot slot fits.out

-- ---- Prepare

promise_message : (a : AcceptorState) (ballot : ℕ) → AcceptorFits a → IsNumber ballot
    → IsMessage (message_of (promise_of a ballot))
promise_message a ballot fits number =
    (number, slot_number (reach a) fits.room, fits.vote.ballot, vote_told a.vote fits.vote)

prepare_fits : (me : ℕ) (a : AcceptorState) (m : Memory) (from ballot : ℕ) → AcceptorFits a → MemoryFits m → from < 5
    → IsNumber ballot → OutFits (on_prepare me a m from ballot)
unfolding on_prepare
prepare_fits me a m from ballot fits mem lt number =
    by_if (λ (s : PrepareStep). OutFits (prepared me a m from ballot s)) (nat_lt ballot a.promise)
    {x = prepare.Refuse a.promise}
    (λ _. reply_fits m me (body.Refuse ballot a.promise) from mem lt (number, fits.promise))
    (λ _. by_if (λ (s : PrepareStep). OutFits (prepared me a m from ballot s)) (ballot == a.promise)
    {x = prepare.Again} {y = prepare.Promise}
    (λ _. reply_fits m me (promise_of a ballot) from mem lt (promise_message a ballot fits number))
    (λ _. record {
      entry = number;
      memory = down_fits m mem;
      sends = ((lt, promise_message a ballot fits number), tt);
    }))

-- ---- Promise

tallied_fits : (t : Tally) (from length : ℕ) (vote : Cast) → TallyFits t → from < 5 → VoteFits vote
    → TallyFits (tallied t from length vote)
tallied_fits t from length vote fits lt new = record {
  source = λ some. grind (arith, nat_tests, fits.source);
  best = by_if VoteFits (nat_lt t.longest length) (λ _. new)
      (λ _. by_if VoteFits ((length == t.longest) && nat_lt t.best.ballot vote.ballot) (λ _. new) (λ _. fits.best));
}

arrive_fits : (me at : ℕ) (m : Memory) (l : LeaderState) (o : Option Value) → MemoryFits m → LeaderFits l → IsNumber at
    → MayFit o → OutFits (led_by me at m (arrive l at o))
arrive_fits me at m l None mem fits slot value =
    quiet_fits (with_leader m (primary l)) (leads_fit m (primary l) mem (bare_fits Primary l.ballot fits.ballot))
arrive_fits me at m l (Some v) mem fits slot value =
    let next = proposing_fits Inheriting l at v fits value in
    record {
      entry = tt;
      memory = leads_fit m (proposing Inheriting l at v) mem next;
      sends = again_fits me at (proposing Inheriting l at v) next slot;
    }

if_may_fit : (b : Bool) (o : Option Value) → MayFit o → MayFit (if b then o else None)
if_may_fit true o fits = fits
if_may_fit false o fits = tt

third_fits : (me at : ℕ) (m : Memory) (l : LeaderState) (t : Tally) → MemoryFits m → LeaderFits l → TallyFits t
    → IsNumber at → OutFits (led_by me at m (third_promise l t at))
third_fits me at m l t mem fits told slot =
    by_if (λ (x : LeaderState × LeadStep). OutFits (led_by me at m x)) (nat_lt at t.longest)
    {x = (catching l t.longest (value_of t.best), lead.Catch t.source t.longest)}
    (λ is. (let lt : t.source < 5 = told.source (let below = is_below at t.longest is in omega arith) in
    let next : LeaderFits (catching l t.longest (value_of t.best)) = record {
      ballot = fits.ballot;
      tally = no_tally_fits;
      pending = vote_value t.best told.best;
      out = tt;
    } in
    reply_fits _ me (body.Fetch at) t.source
    (goal_fits _ t.longest t.source (leads_fit m (catching l t.longest (value_of t.best)) mem next) lt) lt slot))
    (λ _. arrive_fits me at m l _ mem fits slot (if_may_fit (at == t.longest) (value_of t.best) (vote_value t.best told.best)))

promise_fits : (me : ℕ) (a : AcceptorState) (m : Memory) (from ballot length : ℕ) (vote : Cast) → AcceptorFits a
    → MemoryFits m → from < 5 → VoteFits vote → OutFits (on_promise me a m from ballot length vote)
unfolding on_promise
promise_fits me a m from ballot length vote fits mem lt new =
    let l : LeaderState = m.leader in
    let t : Tally = tallied l.tally from length vote in
    let told : TallyFits t = tallied_fits l.tally from length vote mem.leader.tally lt new in
    by_if (λ (x : LeaderState × LeadStep). OutFits (led_by me (reach a) m x))
    (is_candidate l.stage && (l.ballot == ballot) && not (has l.tally.tellers from))
    {x = if nat_lt (how_many (joined l.tally.tellers from)) 3 then (with_tally l t, lead.More) else third_promise l t (reach a)}
    {y = (l, lead.Late)}
    (λ _. by_if (λ (x : LeaderState × LeadStep). OutFits (led_by me (reach a) m x))
    (nat_lt (how_many (joined l.tally.tellers from)) 3) {x = (with_tally l t, lead.More)}
    (λ _. quiet_fits _ (leads_fit m (with_tally l t) mem (record {
      ballot = mem.leader.ballot;
      tally = told;
      pending = mem.leader.pending;
      out = mem.leader.out;
    })))
    (λ _. third_fits me (reach a) m l t mem mem.leader told (slot_number (reach a) fits.room)))
    (λ _. quiet_fits _ (leads_fit m l mem mem.leader))

-- ---- Accept and Accepted

if_down_fits : (b : Bool) (m : Memory) → MemoryFits m → MemoryFits (if b then down m else m)
if_down_fits true m fits = down_fits m fits
if_down_fits false m fits = fits

accept_step_fits : (me : ℕ) (a : AcceptorState) (m : Memory) (from ballot slot : ℕ) (v : Value) → AcceptorFits a
    → MemoryFits m → from < 5 → IsNumber ballot → IsNumber slot → IsValue v
    → OutFits (on_accept me a m from ballot slot v)
unfolding on_accept
accept_step_fits me a m from ballot slot v fits mem lt number place value =
    by_if (λ (s : AcceptStep). OutFits (accepted me m from ballot slot v s)) (nat_lt ballot a.promise)
    {x = accept.Refuse a.promise}
    (λ _. reply_fits m me (body.Refuse ballot a.promise) from mem lt (number, fits.promise))
    (λ _. by_if (λ (s : AcceptStep). OutFits (accepted me m from ballot slot v s)) (is_late a slot) {x = accept.Late}
    (λ _. quiet_fits m mem)
    (λ _. by_if (λ (s : AcceptStep). OutFits (accepted me m from ballot slot v s)) (nat_lt (reach a) slot)
    {x = accept.Behind (reach a)}
    (λ _. reply_fits (with_goal m slot from) me (body.Fetch (reach a)) from (goal_fits m slot from mem lt) lt
    (slot_number (reach a) fits.room))
    (λ _. by_if (λ (s : AcceptStep). OutFits (accepted me m from ballot slot v s)) (stands a.vote ballot v)
    {x = accept.Again} {y = accept.Voted}
    (λ _. reply_fits m me (body.Accepted ballot slot) from mem lt (number, place))
    (λ _. record {
      entry = (number, value);
      memory = if_down_fits (nat_lt m.leader.ballot ballot) m mem;
      sends = ((lt, (number, place)), tt);
    }))))

counted_fits : (me : ℕ) (m : Memory) (from ballot slot : ℕ) (l : LeaderState) (o : Option Proposal) → MemoryFits m
    → LeaderFits l → MayFit (value_out o) → IsNumber ballot → IsNumber slot
    → OutFits (tallied_by me m ballot slot (value_out o) (lead_accepted_of o l from ballot slot))
counted_fits me m from ballot slot l None mem fits value number place = quiet_fits m mem
counted_fits me m from ballot slot l (Some p) mem fits value number place =
    by_if (λ (x : LeaderState × Counted). OutFits (tallied_by me m ballot slot (Some p.value) x))
    (is_leading l.stage && (l.ballot == ballot) && (p.slot == slot) && not (has l.counted from))
    {x = if nat_lt (how_many (joined l.counted from)) 3 then (with_counted l (joined l.counted from), counted.More)
    else (primary l, counted.Chosen)}
    {y = (l, counted.Late)}
    (λ _. by_if (λ (x : LeaderState × Counted). OutFits (tallied_by me m ballot slot (Some p.value) x))
    (nat_lt (how_many (joined l.counted from)) 3) {x = (with_counted l (joined l.counted from), counted.More)}
    {y = (primary l, counted.Chosen)}
    (λ _. quiet_fits _ (leads_fit m (with_counted l (joined l.counted from)) mem (record {
      ballot = fits.ballot;
      tally = fits.tally;
      pending = fits.pending;
      out = fits.out;
    })))
    (λ _. record {
      entry = (number, value);
      memory = leads_fit m (primary l) mem (bare_fits Primary l.ballot fits.ballot);
      sends = to_others_fits me (body.Chosen slot ballot p.value) (place, number, value);
    }))
    (λ _. quiet_fits m mem)

accepted_fits : (me : ℕ) (a : AcceptorState) (m : Memory) (from ballot slot : ℕ) → MemoryFits m → IsNumber ballot
    → IsNumber slot → OutFits (on_accepted me a m from ballot slot)
unfolding on_accepted
accepted_fits me a m from ballot slot mem number place = by_if OutFits (is_next a slot)
    {x = tallied_by me m ballot slot (value_out m.leader.out) (lead_accepted m.leader from ballot slot)} {y = quiet m}
    (λ _. counted_fits me m from ballot slot m.leader m.leader.out mem mem.leader mem.leader.out number place)
    (λ _. quiet_fits m mem)

-- ---- Refuse

refuse_fits : (m : Memory) (ballot promised : ℕ) → MemoryFits m → OutFits (on_refuse m ballot promised)
unfolding on_refuse
refuse_fits m ballot promised mem =
    by_if OutFits (not (is_follower m.leader.stage) && (m.leader.ballot == ballot) && nat_lt ballot promised)
    {y = quiet m}
    (λ _. quiet_fits _ (record {
      leader = bare_fits Follower m.leader.ballot mem.leader.ballot;
      guide = mem.guide;
    }))
    (λ _. quiet_fits m mem)

-- ---- Chosen and Fetch

more_fits : (me at : ℕ) (m : Memory) → MemoryFits m → IsNumber at → Each MailFits (fetch_more me at m)
more_fits me at m mem slot = by_if (Each MailFits) (nat_lt at m.goal) (λ _. ((mem.guide, slot), tt)) (λ _. tt)

-- what a message that was learned brought
once_fits : (ballot : ℕ) (v : Value) (m : Memory) (x : LeaderState × List Mail) → MemoryFits m → IsNumber ballot
    → IsValue v → LeaderFits x.0 → Each MailFits x.1 → OutFits (once_learned (entry.Learn ballot v) m x)
once_fits ballot v m x mem number value leader sends =
    record { entry = (number, value); memory = leads_fit m x.0 mem leader; sends = sends }

reached_fits : (me at : ℕ) (l : LeaderState) (sought : ℕ) (o : Option Value) → LeaderFits l → MayFit o → IsNumber at
    → LeaderFits (arrive l sought o).0 × Each MailFits (accept_out me at (arrive l sought o).0)
reached_fits me at l sought None fits value slot =
    (bare_fits Primary l.ballot fits.ballot, tt)
reached_fits me at l sought (Some v) fits value slot =
    let next = proposing_fits Inheriting l sought v fits value in
    (next, again_fits me at (proposing Inheriting l sought v) next slot)

onwards_fits : (me promise at : ℕ) (m : Memory) → MemoryFits m → IsNumber at
    → LeaderFits (onwards me promise at m).0 × Each MailFits (onwards me promise at m).1
onwards_fits me promise at m mem slot =
    by_if (λ (x : LeaderState × List Mail). LeaderFits x.0 × Each MailFits x.1)
    (is_leading m.leader.stage || nat_lt m.leader.ballot promise)
    {x = (stepped_down m.leader, fetch_more me at m)}
    (λ _. (bare_fits Follower m.leader.ballot mem.leader.ballot, more_fits me at m mem slot))
    (λ _. by_if (λ (x : LeaderState × List Mail). LeaderFits x.0 × Each MailFits x.1)
    (is_catching m.leader.stage && (at == m.leader.sought))
    {x = ((lead_reached m.leader).0, accept_out me at (lead_reached m.leader).0)}
    {y = (m.leader, fetch_more me at m)}
    (λ _. reached_fits me at m.leader m.leader.sought m.leader.pending mem.leader mem.leader.pending slot)
    (λ _. (mem.leader, more_fits me at m mem slot)))

-- a slot that is neither late nor past the log's end has room behind it
next_number : (a : AcceptorState) (slot : ℕ) → is_late a slot ≡ false → nat_lt (reach a) slot ≡ false
    → IsNumber (slot + 1)
next_number a slot late past = slot_number (slot + 1) (grind (arith, nat_tests))

chosen_fits : (me : ℕ) (a : AcceptorState) (m : Memory) (from slot ballot : ℕ) (v : Value) → AcceptorFits a
    → MemoryFits m → from < 5 → IsNumber ballot → IsValue v → OutFits (on_chosen me a m from slot ballot v)
unfolding on_chosen
chosen_fits me a m from slot ballot v fits mem lt number value =
    by_if (λ (s : ChosenStep). OutFits (learned me a m from slot ballot v s)) (is_late a slot) {x = chosen.Late}
    (λ _. quiet_fits m mem)
    (λ late. by_if (λ (s : ChosenStep). OutFits (learned me a m from slot ballot v s)) (nat_lt (reach a) slot)
    {x = chosen.Behind (reach a)} {y = chosen.Learned}
    (λ _. reply_fits (with_goal m slot from) me (body.Fetch (reach a)) from (goal_fits m slot from mem lt) lt
    (slot_number (reach a) fits.room))
    (λ past. (let on = onwards_fits me (max a.promise ballot) (slot + 1) m mem (next_number a slot late past) in
    once_fits ballot v m (onwards me (max a.promise ballot) (slot + 1) m) mem number value on.0 on.1)))

each_get : (P : Cast → Type 0) (xs : List Cast) (k : ℕ) (x : Cast) → Each P xs → slice_get xs k ≡ Some x → P x
each_get P [] k x h e = absurd (cc)
each_get P (y ∷ ys) zero x h e = let same : y ≡ x = cc in subst P same h.0
each_get P (y ∷ ys) (suc k) x h e = each_get P ys k x h.1 e

fetch_fits : (me : ℕ) (a : AcceptorState) (m : Memory) (from slot : ℕ) → AcceptorFits a → MemoryFits m → from < 5
    → IsNumber slot → OutFits (on_fetch me a m from slot)
fetch_fits me a m from slot fits mem lt place = by (slice_get a.log slot) refl
  where
    by : (o : Option Cast) → slice_get a.log slot ≡ o → OutFits (fetched me m from slot o)
    by None e = quiet_fits m mem
    by (Some x) e =
        let h : CastFits x = each_get CastFits a.log slot x fits.log e in
        reply_fits m me (body.Chosen slot x.ballot x.value) from mem lt (place, h.0, h.1)

-- ---- a message, a candidacy, an offer

pub message_fits : (me : ℕ) (a : AcceptorState) (m : Memory) (from : ℕ) (b : Body) → AcceptorFits a → MemoryFits m
    → from < 5 → IsMessage (message_of b) → OutFits (on_message me a m from b)
message_fits me a m from (body.Prepare c) fits mem lt is = prepare_fits me a m from c fits mem lt is
message_fits me a m from (body.Promise c l vote value) fits mem lt is =
    promise_fits me a m from c l (cast vote value) fits mem lt (vote_heard vote value is.2 is.3)
message_fits me a m from (body.Accept c s v) fits mem lt is =
    accept_step_fits me a m from c s v fits mem lt is.0 is.1 is.2
message_fits me a m from (body.Accepted c s) fits mem lt is = accepted_fits me a m from c s mem is.0 is.1
message_fits me a m from (body.Refuse c p) fits mem lt is = refuse_fits m c p mem
message_fits me a m from (body.Chosen s c v) fits mem lt is = chosen_fits me a m from s c v fits mem lt is.1 is.2
message_fits me a m from (body.Fetch s) fits mem lt is = fetch_fits me a m from s fits mem lt is

pub campaign_fits : (me : ℕ) (a : AcceptorState) (m : Memory) → MemoryFits m → OutFits (on_campaign me a m)
unfolding on_campaign
campaign_fits me a m mem = by_if OutFits (is_primary m.leader.stage) {x = quiet m} (λ _. quiet_fits m mem)
    (λ _. by_if (λ (x : LeaderState × Option ℕ). OutFits (campaigned_by me m x))
    (nat_lt (next_ballot (max a.promise m.seen) me) (2 ^ 64))
    {x = (candidate (next_ballot (max a.promise m.seen) me), Some (next_ballot (max a.promise m.seen) me))}
    {y = (m.leader, None)}
    (λ is. (let number = is_below (next_ballot (max a.promise m.seen) me) (2 ^ 64) is in record {
      entry = number;
      memory = leads_fit m _ mem (bare_fits Candidate _ number);
      sends = to_all_fits me (body.Prepare (next_ballot (max a.promise m.seen) me)) number;
    }))
    (λ _. quiet_fits m mem))

pub offer_fits : (me : ℕ) (a : AcceptorState) (m : Memory) (v : Value) → AcceptorFits a → MemoryFits m → IsValue v
    → OutFits (on_offer me a m v)
unfolding on_offer
offer_fits me a m v fits mem value = by_if OutFits (may_propose a m.leader) {y = quiet m}
    (λ _. record {
      entry = tt;
      memory = leads_fit m _ mem (proposing_fits Primary m.leader (reach a) v mem.leader value);
      sends = to_all_fits me (body.Accept m.leader.ballot (reach a) v)
          (mem.leader.ballot, slot_number (reach a) fits.room, value);
    })
    (λ _. quiet_fits m mem)
