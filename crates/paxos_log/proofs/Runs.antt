-- The world of every run came by turns of five replicas that have done nothing.
use Rattle.std.proofs.Common.{length, ◌∙◌, ap, inl, inr, get_or-set_same, get_or-set_other, length-set, ◌≡◌, ◌-◌, ℕ, zero, suc, ◌<◌, true, false, nat_lt, List, [], ◌∷◌, ◌++◌, map, Option, Some, None, slice_get, slice_set, refl, sym, arith, subst}
use Rattle.std.specs.Prelude.{Contains}
use Rattle.std.proofs.lemmas.Bool.Decides.{nat_tests}
use Rattle.wire_core.specs.Reading.{read_value}
use Rattle.paxos_spec.specs.declared.mail.Mail.{Mail}
use Rattle.paxos_spec.specs.Votes.{Value}
use Rattle.paxos_spec.specs.Acceptor.{AcceptorState, state_of}
use Rattle.paxos_spec.specs.Replica.{new_memory, Out, quiet, on_message, on_campaign, on_offer}
use Rattle.paxos_spec.specs.Agreement.{View, empty_disk}
use Rattle.paxos_laws.specs.Facts.{Inv}
use Rattle.paxos_laws.specs.Steps.{Moves, cut_short}
use Rattle.paxos_laws.specs.Disks.{disk_of}
use Rattle.paxos_laws.specs.Order.{IsNew}
use Rattle.paxos_laws.specs.Values.{Everywhere}
use Rattle.paxos_laws.specs.Worlds as laws
use Rattle.paxos_laws.proofs.Named.{begins, state_is_of_disk, disk_grows}
use Rattle.paxos_laws.proofs.Proposals.{everywhere_on}
use Rattle.paxos_laws.proofs.Worldly.{run_keeps, each_was_offered}
use Rattle.paxos_laws.proofs.Quorums.{by_if}
use Rattle.paxos_laws.proofs.Steps.{in_cons, in_head, in_tail}
use Rattle.paxos_log.specs.declared.event.PaxosEvent.{PaxosEvent}
use Rattle.paxos_log.specs.declared.event.PaxosEvent.TheVariants.{Campaign, Offer, Deliver, Crash}
use Rattle.paxos_log.specs.declared.posts.Post.{Post}
use Rattle.paxos_log.specs.World.{Replica, World, new_replica, start, replica, posted, apply, on_mail, takes, delivered}
use Rattle.paxos_log.specs.Told.{offer_of, WasOffered}
use Rattle.paxos_log.specs.World.{waiting, reopens, cut_at, cut_while, whole_value, offered, happens, run, view}

abbrev mails : List Post → List Mail
mails posts = map (λ (p : Post). p.mail) posts

mails_of : (xs : List Mail) → mails (map posted xs) ≡ xs
mails_of [] = refl
mails_of (x ∷ xs) = ap (λ (ys : List Mail). x ∷ ys) (mails_of xs)

mails_added : (ps : List Post) (xs : List Mail) → mails (ps ++ map posted xs) ≡ mails ps ++ xs
mails_added [] xs = mails_of xs
mails_added (p ∷ ps) xs = ap (λ (ys : List Mail). p.mail ∷ ys) (mails_added ps xs)

mails_set : (ps : List Post) (k : ℕ) (p q : Post)
    → slice_get ps k ≡ Some p → q.mail ≡ p.mail → mails (slice_set ps k q) ≡ mails ps
mails_set [] k p q at same = refl
mails_set (x ∷ ps) zero p q at same =
    let is : x ≡ p = cc in ap (λ (y : Mail). y ∷ mails ps) (same ∙ ap (λ (y : Post). y.mail) (sym is))
mails_set (x ∷ ps) (suc k) p q at same = ap (λ (ys : List Mail). x.mail ∷ ys) (mails_set ps k p q at same)

mail_in : (ps : List Post) (k : ℕ) (p : Post) → slice_get ps k ≡ Some p → Contains (mails ps) p.mail
mail_in [] k p at = absurd (cc)
mail_in (x ∷ ps) zero p at =
    let is : x ≡ p = cc in
    subst (λ (y : Post). Contains (mails (x ∷ ps)) y.mail) is (in_head x.mail (mails ps))
mail_in (x ∷ ps) (suc k) p at = in_tail x.mail (mails ps) p.mail (mail_in ps k p at)

moves : (w : World) (r : ℕ) (o : Out) → r < length w.replicas → Moves (view w) (view (apply w r o)) r o
unfolding view apply
moves w r o lt = record {
  disk_same = ap (λ (x : Replica). disk_of x.entries) (get_or-set_same w.replicas r _ new_replica lt)
      ∙ disk_grows _ o.entry;
  disk_other = λ i ne. ap (λ (x : Replica). disk_of x.entries) (get_or-set_other w.replicas r i _ new_replica ne);
  memory_same = ap (λ (x : Replica). x.memory) (get_or-set_same w.replicas r _ new_replica lt);
  memory_other = λ i ne. ap (λ (x : Replica). x.memory) (get_or-set_other w.replicas r i _ new_replica ne);
  sent = mails_added w.posts o.sends;
}

-- five replicas, which came by turns of five that have done nothing, and of each value that was offered P holds
pub record Came (P : Value → Type 0) (w : World) : Type 0 where
  pub size : length w.replicas ≡ 5
  pub values : List Value
  pub by_turns : laws.Run (view start) values (view w)
  pub known : (v : Value) → Contains values v → P v

known_too : (P : Value → Type 0) (f : Option Value) (xs : List Value) → ((v : Value) → Contains xs v → P v)
    → ((v : Value) → f ≡ Some v → P v) → (v : Value) → Contains (laws.offered f xs) v → P v
known_too P None xs old new v at = old v at
known_too P (Some x) xs old new v at = elim (in_cons x xs v at) [ inl e ↦ new v (ap Some e) | inr there ↦ old v there ]

takes_turn : (P : Value → Type 0) (f : Option Value) (w : World) (r : ℕ) (o : Out) → r < 5 → Came P w
    → laws.Turn (view w) r f o → ((v : Value) → f ≡ Some v → P v) → Came P (apply w r o)
unfolding apply
takes_turn P f w r o r5 ok turn new =
    let m : Moves (view w) (view (apply w r o)) r o = moves w r o (let e = ok.size in omega arith) in
    record {
      size = length-set w.replicas r _ ∙ ok.size;
      values = laws.offered f ok.values;
      by_turns = laws.turns (view w) (view (apply w r o)) ok.values r f o ok.by_turns r5 turn m;
      known = known_too P f ok.values ok.known new;
    }

-- where nothing was offered
takes_plain : (P : Value → Type 0) (w : World) (r : ℕ) (o : Out)
    → r < 5 → Came P w → laws.Turn (view w) r None o → Came P (apply w r o)
takes_plain P w r o r5 ok turn = takes_turn P None w r o r5 ok turn (λ v e. absurd (cc))

-- the same disks and memories, with these messages
abbrev with_sent : World → List Mail → View
with_sent w xs = record {
  disk = λ i. disk_of (replica w i).entries;
  memory = λ i. (replica w i).memory;
  sent = xs;
}

-- to count a message as delivered changes nothing that is seen
taken_same : (w : World) (k : ℕ) (p : Post)
    → slice_get w.posts k ≡ Some p → mails w.posts ≡ mails (takes w k p.mail).posts
taken_same w k p at = sym (mails_set w.posts k p (record { mail = p.mail; taken = true }) at refl)

counts : (P : Value → Type 0) (w : World) (k : ℕ) (p : Post)
    → slice_get w.posts k ≡ Some p → Came P w → Came P (takes w k p.mail)
unfolding view
counts P w k p at ok = record {
  size = ok.size;
  values = ok.values;
  by_turns = subst (λ (xs : List Mail). laws.Run (view start) ok.values (with_sent w xs))
      (taken_same w k p at) ok.by_turns;
  known = ok.known;
}

taken_in : (w : World) (k : ℕ) (p : Post)
    → slice_get w.posts k ≡ Some p → Contains (view (takes w k p.mail)).sent p.mail
unfolding view
taken_in w k p at = subst (λ (xs : List Mail). Contains xs p.mail) (taken_same w k p at) (mail_in w.posts k p at)

-- what a replica's entries say is what its disk says
at_entries : (w : World) (r : ℕ) (P : AcceptorState → Type 0)
    → P ((view w).disk r).state → P (state_of (replica w r).entries)
unfolding view
at_entries w r P h = subst P (sym (state_is_of_disk (replica w r).entries)) h

-- to handle a message that was sent is a turn
comes : (w : World) (r : ℕ) (x : Mail)
    → Contains (view w).sent x → laws.Turn (view w) r None (on_mail r (replica w r) x)
unfolding view
comes w r x at = by_if (λ (o : Out). laws.Turn (view w) r None o) (nat_lt x.sender 5)
    (λ _. at_entries w r
    (λ (a : AcceptorState). laws.Turn (view w) r None (on_message r a (replica w r).memory x.sender x.body))
    (laws.gets (view w) r x at))
    (λ _. laws.hears (view w) r (replica w r).memory refl)

delivers : (P : Value → Type 0) (w : World) (k : ℕ) (o : Option Post)
    → Came P w → slice_get w.posts k ≡ o → Came P (delivered w k o)
delivers P w k None ok at = ok
delivers P w k (Some p) ok at = by_if (Came P) (nat_lt p.mail.target 5)
    (λ yes. let v : World = takes w k p.mail in
    takes_plain P v p.mail.target _ (grind (arith, nat_tests)) (counts P w k p at ok)
    (comes v p.mail.target p.mail (taken_in w k p at)))
    (λ _. ok)

reopens_ok : (P : Value → Type 0) (w : World) (r : ℕ) → r < 5 → Came P w → Came P (reopens w r)
reopens_ok P w r r5 ok = takes_plain P w r (quiet new_memory) r5 ok (laws.opens (view w) r None tt)

cuts : (P : Value → Type 0) (w : World) (r k : ℕ) (o : Option Post)
    → r < 5 → Came P w → slice_get w.posts k ≡ o → Came P (cut_at w r k o)
cuts P w r k None r5 ok at = reopens_ok P w r r5 ok
cuts P w r k (Some p) r5 ok at =
    let v : World = takes w k p.mail in
    let o : Out = on_mail r (replica w r) p.mail in
    takes_plain P v r (cut_short o) r5 (counts P w k p at ok)
    (laws.falls (view v) r None o (comes v r p.mail (taken_in w k p at)))

crashes : (P : Value → Type 0) (w : World) (r : ℕ) (o : Option ℕ) → r < 5 → Came P w → Came P (cut_while w r o)
crashes P w r None r5 ok = reopens_ok P w r r5 ok
crashes P w r (Some k) r5 ok = cuts P w r k (slice_get w.posts k) r5 ok refl

offers : (P : Value → Type 0) (w : World) (r : ℕ) (o : Option Value)
    → r < 5 → Came P w → ((v : Value) → o ≡ Some v → P v) → Came P (offered w r o)
unfolding view
offers P w r None r5 ok new = ok
offers P w r (Some v) r5 ok new = takes_turn P (Some v) w r _ r5 ok (at_entries w r
    (λ (a : AcceptorState). laws.Turn (view w) r (Some v) (on_offer r a (replica w r).memory v))
    (laws.is_offered (view w) r v)) new

campaigns : (P : Value → Type 0) (w : World) (r : ℕ)
    → r < 5 → Came P w → Came P (apply w r (on_campaign r (state_of (replica w r).entries) (replica w r).memory))
unfolding view
campaigns P w r r5 ok = takes_plain P w r _ r5 ok (at_entries w r
    (λ (a : AcceptorState). laws.Turn (view w) r None (on_campaign r a (replica w r).memory))
    (laws.campaigns (view w) r))

-- Each event is a turn, or nothing.
happens_ok : (P : Value → Type 0) (w : World) (e : PaxosEvent)
    → Came P w → ((v : Value) → offer_of e ≡ Some v → P v) → Came P (happens w e)
happens_ok P w (Campaign r) ok new = by_if (Came P) (nat_lt r 5)
    (λ yes. campaigns P w r (grind (arith, nat_tests)) ok)
    (λ _. ok)
happens_ok P w (Offer r bytes) ok new = by_if (Came P) (nat_lt r 5)
    (λ yes. offers P w r (whole_value (length bytes) (read_value bytes)) (grind (arith, nat_tests)) ok new)
    (λ _. ok)
happens_ok P w (Deliver k) ok new = by_if (Came P) (nat_lt 0 k)
    (λ _. delivers P w (k - 1) (slice_get w.posts (k - 1)) ok refl)
    (λ _. ok)
happens_ok P w (Crash r true) ok new = by_if (Came P) (nat_lt r 5)
    (λ yes. crashes P w r (waiting r w.posts) (grind (arith, nat_tests)) ok)
    (λ _. ok)
happens_ok P w (Crash r false) ok new = by_if (Came P) (nat_lt r 5)
    (λ yes. reopens_ok P w r (grind (arith, nat_tests)) ok)
    (λ _. ok)

run_ok : (P : Value → Type 0) (es : List PaxosEvent) (w : World) → Came P w
    → ((e : PaxosEvent) → Contains es e → (v : Value) → offer_of e ≡ Some v → P v) → Came P (run es w)
run_ok P [] w ok new = ok
run_ok P (e ∷ es) w ok new = run_ok P es (happens w e) (happens_ok P w e ok (new e (in_head e es)))
    (λ x at. new x (in_tail e es x at))

-- at first nothing was sent, and no replica has an entry
start_replica : (i : ℕ) → i < 5 → replica start i ≡ new_replica
start_replica zero lt = refl
start_replica (suc zero) lt = refl
start_replica (suc (suc zero)) lt = refl
start_replica (suc (suc (suc zero))) lt = refl
start_replica (suc (suc (suc (suc zero)))) lt = refl
start_replica (suc (suc (suc (suc (suc i))))) lt = absurd (omega arith)

start_disk : (i : ℕ) → i < 5 → (view start).disk i ≡ empty_disk
unfolding view disk_of
start_disk i i5 = ap (λ (x : Replica). disk_of x.entries) (start_replica i i5)

start_memory : (i : ℕ) → i < 5 → (view start).memory i ≡ new_memory
unfolding view
start_memory i i5 = ap (λ (x : Replica). x.memory) (start_replica i i5)

nothing_sent : (view start).sent ≡ []
unfolding view
nothing_sent = refl

start_new : IsNew (view start)
start_new = record { disks = start_disk; memories = start_memory; silent = nothing_sent }

start_came : (P : Value → Type 0) → Came P start
start_came P = record {
  size = refl;
  values = [];
  by_turns = laws.rests;
  known = λ v at. absurd (let lt = at.1 in omega arith);
}

-- The world of these events came by turns, in which nothing was offered but by one of them.
pub came : (es : List PaxosEvent) → Came (WasOffered es) (run es start)
came es = run_ok (WasOffered es) es start (start_came (WasOffered es))
    (λ e at v offers. record { event = e; happened = at; offers = offers })

pub inv_of : (es : List PaxosEvent) → Inv (view (run es start))
inv_of es = let c : Came (WasOffered es) (run es start) = came es in
    (run_keeps (view start) (view (run es start)) c.values c.by_turns (begins (view start) start_new)).inv

-- so each value that stands anywhere was offered by an event
pub was_offered : (es : List PaxosEvent) → Everywhere (λ b s v. WasOffered es v) (view (run es start))
was_offered es = let c : Came (WasOffered es) (run es start) = came es in
    everywhere_on (λ b s v. Contains c.values v) (λ b s v. WasOffered es v) (view (run es start))
    (λ b s v at. c.known v at)
    (each_was_offered (view start) (view (run es start)) c.values c.by_turns start_new)
