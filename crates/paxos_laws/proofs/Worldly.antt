-- What is true of every run, from the laws by their names alone.
use Rattle.std.proofs.Common.{◌≡◌, ℕ, ◌%◌, ◌<◌, ◌⊎◌, inl, inr, List, ◌∷◌, Option, Some, None, sym, ap, ◌∙◌, subst, arith}
use Rattle.std.specs.Prelude.{Contains}
use Rattle.wire_core.specs.declared.entry.Entry.{Entry}
use Rattle.wire_core.specs.declared.entry.Entry.TheVariants as entry
use Rattle.paxos_spec.specs.Votes.{Value}
use Rattle.paxos_spec.specs.Acceptor.{reach}
use Rattle.paxos_spec.specs.Replica.{Out}
use Rattle.paxos_spec.specs.Agreement.{View, Seal}
use Rattle.paxos_laws.specs.Facts.{Proposed, Inv}
use Rattle.paxos_laws.specs.Steps.{Moves, EntryOk, Good}
use Rattle.paxos_laws.specs.Order.{IsNew}
use Rattle.paxos_laws.specs.Worlds.{Turn, gets, runs, campaigns, is_offered, resends, says, hears, steps_down, opens, falls}
use Rattle.paxos_laws.specs.Worlds.{goes_on, IsOpening, TurnIsGood, offered, Run, rests, turns, Follows, RunKeeps, OneForEver}
use Rattle.paxos_laws.specs.Worlds.{LogGrowsOn, PrimaryKnowsForEver, EachWasOffered, OneLeads}
use Rattle.paxos_laws.proofs.Steps.{in_head, in_tail}
use Rattle.paxos_laws.proofs.Begins.{none_proposed}
use Rattle.paxos_laws.proofs.Proposals.{everywhere_on}
use Rattle.paxos_laws.proofs.Named as law

opening_ok : (w : View) (r : ℕ) (e : Option Entry) → IsOpening e → EntryOk w r (w.disk r) e
opening_ok w r None is = tt
opening_ok w r (Some (entry.Boot version role index boot)) is = tt
opening_ok w r (Some (entry.Epoch epoch)) is = tt
opening_ok w r (Some (entry.Promise ballot)) is = absurd is
opening_ok w r (Some (entry.Vote ballot value)) is = absurd is
opening_ok w r (Some (entry.Learn ballot value)) is = absurd is

-- Each turn shows what it owes.
pub turn_good : TurnIsGood
turn_good _ _ _ _ (gets w r x at) h = law.message w r x h at
turn_good _ _ _ _ (runs w r b m up own) h = law.candidacy w r b m h up own
turn_good _ _ _ _ (campaigns w r) h = law.campaign w r h
turn_good _ _ _ _ (is_offered w r v) h = law.offer w r v h
turn_good _ _ _ _ (resends w r v is out) h = law.resend w r v h is out
turn_good _ _ _ _ (says w r m body ts same plain ok) h = law.saying w r m body ts h same plain ok
turn_good _ _ _ _ (hears w r m same) h = law.hearing w r m h same
turn_good _ _ _ _ (steps_down w r m is) h = law.down w r m h is
turn_good _ _ _ _ (opens w r e is) h = law.reopening w r e h (opening_ok w r e is)
turn_good _ _ _ _ (falls w r f o turn) h = law.cut f w r o h (turn_good w r f o turn h)
turn_good _ _ _ _ (goes_on w r f o p turn none later) h = law.both f w r o p h none
    (law.not_offered f w r o (turn_good w r None o turn h))
    (λ v hv moves. turn_good v r f p (later v moves) hv)

-- a view and the good turn that led to the next
step_good : (v u : View) (r : ℕ) (f : Option Value) (o : Out)
    → Inv v → r < 5 → Turn v r f o → Moves v u r o → Good f v u r o
step_good v u r f o inv r5 turn moves = turn_good v r f o turn (record { number = r5; inv = inv }) u moves

pub run_keeps : RunKeeps
run_keeps w _ _ rests inv = record { inv = inv; grows = law.stays_as_it_is w }
run_keeps w _ _ (turns v u values r f o run r5 turn moves) inv =
    let was : Follows w v = run_keeps w v values run inv in
    let good : Good f v u r o = step_good v u r f o was.inv r5 turn moves in
    record {
      inv = law.keeps f v u r o moves r5 was.inv good;
      grows = law.grows_on w v u was.grows (law.step_grows f v u r o moves good);
    }

pub one_for_ever : OneForEver
one_for_ever w u values run inv s b c v x p q =
    let to : Follows w u = run_keeps w u values run inv in
    (law.claims u to.inv).agrees s b c v x (law.chosen_lasts w u to.grows s b v p) q

pub log_grows_on : LogGrowsOn
log_grows_on w u values run inv =
    let to : Follows w u = run_keeps w u values run inv in
    law.log_only_grows w u inv to.inv to.grows

pub primary_knows_for_ever : PrimaryKnowsForEver
primary_knows_for_ever w u values run inv r s c v r5 is lt chosen =
    let to : Follows w u = run_keeps w u values run inv in
    let l : ℕ = reach (w.disk r).state in
    let b : ℕ = (w.memory r).leader.ballot in
    let seal : Seal u b l = law.seal_lasts w u to.grows b l l (omega arith) ((law.claims w inv).seal r r5 is) in
    law.seal_bounds u b l s c v seal chosen lt

-- each value that was proposed was offered
proposed_offered : (w u : View) (values : List Value) → Run w values u → IsNew w
    → (b s : ℕ) (v : Value) → Proposed u b s v → Contains values v
proposed_offered w _ _ rests new b s v p = absurd (none_proposed w new.silent b s v p)
proposed_offered w _ _ (turns v u values r f o run r5 turn moves) new b s x p =
    let good : Good f v u r o = step_good v u r f o (run_keeps w v values run (law.begins w new)).inv r5 turn moves in
    in_offered f values x (law.values_travel f v u r o moves good b s x p)
    (λ c q. proposed_offered w v values run new c s x q)
  where
    in_offered : (g : Option Value) (xs : List Value) (y : Value) → (g ≡ Some y) ⊎ ((c : ℕ) × Proposed v c s y)
        → ((c : ℕ) → Proposed v c s y → Contains xs y) → Contains (offered g xs) y
    in_offered None xs y (inl e) was = absurd (cc)
    in_offered None xs y (inr q) was = was q.0 q.1
    in_offered (Some z) xs y (inl e) was =
        (let is : z ≡ y = cc in subst (λ (q : Value). Contains (z ∷ xs) q) is (in_head z xs))
    in_offered (Some z) xs y (inr q) was = in_tail z xs y (was q.0 q.1)

pub each_was_offered : EachWasOffered
each_was_offered w u values run new =
    let to : Follows w u = run_keeps w u values run (law.begins w new) in
    everywhere_on (Proposed u) (λ b s v. Contains values v) u
    (λ b s v p. proposed_offered w u values run new b s v p) (law.each_was_proposed u to.inv)

pub one_leads : OneLeads
one_leads w inv r q r5 q5 leads tries same =
    sym (law.leader_owns w inv r r5 leads).owner ∙ ap (λ (b : ℕ). b % 5) same ∙ (law.leader_owns w inv q q5 tries).owner
