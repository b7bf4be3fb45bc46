-- What is passed over stays so, whatever a manager does.
use Rattle.std.proofs.Common.{◌≡◌, ◌≤◌, ◌<◌, ◌⊎◌, inl, inr, refl, sym, ap, subst, ◌∙◌, ℕ, zero, suc, ◌+◌, ◌*◌, Bool, true, false, ◌&&◌, cond}
use Rattle.std.proofs.Common.{nat_lt, max, List, [], ◌∷◌, ◌++◌, map, filter, length, slice_set, slice_index_or, Option, Some, None, arith}
use Rattle.std.specs.Prelude.{◌==◌, is_some, fold, if◌then◌else◌}
use Rattle.std.specs.List.{list_all}
use Rattle.std.specs.Ordering.{nat_cmp}
use Rattle.std.specs.BTreeMap.{is_at}
use Rattle.std.proofs.lemmas.Bool.Decides.{nat_tests}
use Rattle.std.proofs.lemmas.List.{length-append, length-map, map-append}
use Rattle.wire_core.specs.Members.{In}
use Rattle.wire_core.specs.Commands.{LogCommand}
use Rattle.wire_core.specs.declared.entry.Entry.{Entry}
use Rattle.wire_core.specs.declared.entry.Entry.TheVariants as entry
use Rattle.wire_core.specs.declared.rules.LeaseRules.{LeaseRules}
use Rattle.lease_spec.specs.declared.row.Row.{Row}
use Rattle.lease_spec.specs.Holders.{Stood}
use Rattle.lease_spec.specs.Places.{placed, slot_commands}
use Rattle.lease_spec.specs.Table.{Done, Leases, apply, nothing, row_at, table, tell}
use Rattle.lease_spec.proofs.CauseLaws.{row_number}
use Rattle.lease_spec.proofs.HolderLaws.{command_goes}
use Rattle.lease_spec.proofs.MemberLaws.{each_in, each_passing, found_in, in_filter}
use Rattle.lease_spec.proofs.PlaceLaws.{one_more}
use Rattle.port_leases.specs.TableState.{rows_above}
use Rattle.paxos_spec.specs.declared.cast.Cast.{Cast}
use Rattle.paxos_spec.specs.Acceptor.{AcceptorState, follow, kept, most_slots, reach}
use Rattle.manager_spec.specs.declared.peer.Peer.{Peer}
use Rattle.manager_spec.specs.declared.marks.Marks.{Marks}
use Rattle.manager_spec.specs.Known.{has_boot, is_acked, marks_at, no_peer}
use Rattle.manager_spec.specs.Manager.{leases_of, values_of}
use Rattle.manager_log.specs.Log.{HasRoom, HasRoomFor}
use Rattle.manager_log.specs.Pending.{IsCurrent, Pending, SeenTo, has, is_settled, unseen}
use Rattle.manager_log.specs.Parts.{NumberedFrom}

-- ---- one number or another

pub same_number : (n q : ℕ) → is_at (nat_cmp n) q ≡ true → n ≡ q
same_number n q e = grind (arith, nat_tests)

by_number : (G : Type 0) (n q : ℕ) → (n ≡ q → G) → (is_at (nat_cmp n) q ≡ false → G) → G
by_number G n q same other = by (is_at (nat_cmp n) q) refl
  where
    by : (b : Bool) → is_at (nat_cmp n) q ≡ b → G
    by true e = same (same_number n q e)
    by false e = other e

-- ---- nothing was looked at

pub current_new : (rules : LeaseRules) (a : AcceptorState) (acks : List (ℕ × Marks)) (peers : List Peer)
    → IsCurrent unseen rules a acks peers
current_new rules a acks peers =
    record { within = omega arith; seen = λ n is above upto absent. absurd (omega arith) }

pub current_as : (p : Pending) (r s : LeaseRules) (a b : AcceptorState) (xs ys : List (ℕ × Marks)) (ps qs : List Peer)
    → s ≡ r → b ≡ a → ys ≡ xs → qs ≡ ps → IsCurrent p r a xs ps → IsCurrent p s b ys qs
current_as p r s a b xs ys ps qs e f g h c = rw (e, f, g, h) c

-- ---- more is pending, or less

pub current_more : (p q : Pending) (rules : LeaseRules) (a : AcceptorState) (acks : List (ℕ × Marks)) (peers : List Peer)
    → q.upto ≡ p.upto → ((n : ℕ) → has q.rows n ≡ false → has p.rows n ≡ false) → IsCurrent p rules a acks peers
    → IsCurrent q rules a acks peers
current_more p q rules a acks peers up more c = record {
  within = (let w = c.within in omega arith);
  seen = λ n is above upto absent. c.seen n is above (omega arith) (more n absent);
}

-- a row that each mux has, or that isn't there, needn't be pending
pub current_less : (p q : Pending) (n : ℕ) (rules : LeaseRules) (a : AcceptorState) (acks : List (ℕ × Marks)) (peers : List Peer)
    → q.upto ≡ p.upto → ((m : ℕ) → is_at (nat_cmp n) m ≡ false → has q.rows m ≡ has p.rows m)
    → (is_some (row_at (leases_of rules a).rows n) ≡ true → is_settled peers (marks_at acks n) ≡ true)
    → IsCurrent p rules a acks peers → IsCurrent q rules a acks peers
current_less p q n rules a acks peers up less settled c = record {
  within = (let w = c.within in omega arith);
  seen = λ m is above upto absent. by_number (is_settled peers (marks_at acks m) ≡ true) n m
      (λ same. rw (← same) (settled (rw same is)))
      (λ other. c.seen m is above (omega arith) (sym (less m other) ∙ absent));
}

-- the acknowledgements of a row that is pending may change
pub current_marked : (p : Pending) (n : ℕ) (rules : LeaseRules) (a : AcceptorState) (acks new : List (ℕ × Marks)) (peers : List Peer)
    → has p.rows n ≡ true → ((m : ℕ) → is_at (nat_cmp n) m ≡ false → marks_at new m ≡ marks_at acks m)
    → IsCurrent p rules a acks peers → IsCurrent p rules a new peers
current_marked p n rules a acks new peers here others c = record {
  within = c.within;
  seen = λ m is above upto absent. by_number (is_settled peers (marks_at new m) ≡ true) n m
      (λ same. absurd (let there : has p.rows m ≡ true = rw (← same) here in cc))
      (λ other. rw (others m other) (c.seen m is above upto absent));
}

-- and those of a row that isn't there
pub current_gone : (p q : Pending) (n : ℕ) (rules : LeaseRules) (a : AcceptorState) (acks new : List (ℕ × Marks)) (peers : List Peer)
    → q.upto ≡ p.upto → ((m : ℕ) → is_at (nat_cmp n) m ≡ false → has q.rows m ≡ has p.rows m)
    → is_some (row_at (leases_of rules a).rows n) ≡ false
    → ((m : ℕ) → is_at (nat_cmp n) m ≡ false → marks_at new m ≡ marks_at acks m)
    → IsCurrent p rules a acks peers → IsCurrent q rules a new peers
current_gone p q n rules a acks new peers up less gone others c = record {
  within = (let w = c.within in omega arith);
  seen = λ m is above upto absent. by_number (is_settled peers (marks_at new m) ≡ true) n m
      (λ same. absurd (let there : is_some (row_at (leases_of rules a).rows n) ≡ true = rw same is in cc))
      (λ other. rw (others m other) (c.seen m is above (omega arith) (sym (less m other) ∙ absent)));
}

-- ---- a mux is heard again

abbrev pub has_it : Marks → ℕ → ℕ → Bool
has_it marks mux boot = if nat_lt 0 boot then slice_index_or marks.programmed mux 0 == boot else true

pub settled_more : (p : Peer) (ps : List Peer) (marks : Marks)
    → is_settled (p ∷ ps) marks ≡ (has_it marks p.mux p.boot && is_settled ps marks)
settled_more p ps marks = by (nat_lt 0 p.boot)
  where
    by : (b : Bool) → list_all (is_acked marks.programmed) (cond b (p ∷ filter has_boot ps) (filter has_boot ps))
        ≡ (cond b (is_acked marks.programmed p) true && list_all (is_acked marks.programmed) (filter has_boot ps))
    by true = refl
    by false = refl

settled_at : (marks : Marks) (k i : ℕ) (ps : List Peer) (p : Peer) → NumberedFrom k ps → p.mux ≡ k + i
    → p.boot ≡ (slice_index_or ps i no_peer).boot → is_settled (slice_set ps i p) marks ≡ is_settled ps marks
settled_at marks k i [] p numbered at same = refl
settled_at marks k zero (x ∷ xs) p numbered at same =
    let mux : p.mux ≡ x.mux = (let e = numbered.0 in omega arith) in
    settled_more p xs marks
    ∙ ap (λ (m : ℕ). has_it marks m p.boot && is_settled xs marks) mux
    ∙ ap (λ (b : ℕ). has_it marks x.mux b && is_settled xs marks) same
    ∙ sym (settled_more x xs marks)
settled_at marks k (suc i) (x ∷ xs) p numbered at same =
    settled_more x (slice_set xs i p) marks
    ∙ ap (λ (b : Bool). has_it marks x.mux x.boot && b) (settled_at marks (k + 1) i xs p numbered.1 (omega arith) same)
    ∙ sym (settled_more x xs marks)

pub current_heard : (p : Pending) (rules : LeaseRules) (a : AcceptorState) (acks : List (ℕ × Marks)) (peers : List Peer)
    (mux boot time : ℕ) → NumberedFrom 0 peers → boot ≤ (slice_index_or peers mux no_peer).boot
    → IsCurrent p rules a acks peers
    → IsCurrent p rules a acks (slice_set peers mux
    (record { mux = mux; boot = max (slice_index_or peers mux no_peer).boot boot; heard_at = time }))
current_heard p rules a acks peers mux boot time numbered le c = record {
  within = c.within;
  seen = λ n is above upto absent.
      settled_at (marks_at acks n) 0 mux peers _ numbered (omega arith) (omega arith) ∙ c.seen n is above upto absent;
}

-- ---- a value is learned

some_row : (o : Option Row) → is_some o ≡ true → (row : Row) × (o ≡ Some row)
some_row None e = absurd (cc)
some_row (Some row) e = (row, refl)

stood_one : (rules : LeaseRules) (p : ℕ) (c : LogCommand) (d : Done) (n : ℕ) → n < p
    → is_some (row_at (tell rules d (record { place = p; command = c })).leases.rows n) ≡ true
    → is_some (row_at d.leases.rows n) ≡ true
stood_one rules p c d n lt is =
    let there = some_row _ is in
    let stood : Stood d.leases.rows there.0 = (command_goes rules p c d.leases).stood n there.0 lt there.1 in
    let number : there.0.n ≡ n = row_number _ n there.0 there.1 in
    rw (← number) (rw stood.there refl)

stood_placed : (rules : LeaseRules) (p : ℕ) (cs : List LogCommand) (d : Done) (n : ℕ) → n < p
    → is_some (row_at (fold (tell rules) d (placed p cs)).leases.rows n) ≡ true → is_some (row_at d.leases.rows n) ≡ true
stood_placed rules p [] d n lt is = is
stood_placed rules p (c ∷ cs) d n lt is =
    stood_one rules p c d n lt
    (stood_placed rules (p + 1) cs (tell rules d (record { place = p; command = c })) n (omega arith) is)

-- a row of an earlier slot stood before
stood_before : (rules : LeaseRules) (slot : ℕ) (value : List LogCommand) (t : Leases) (n : ℕ) → n ≤ 16 * slot
    → is_some (row_at (apply rules (slot_commands slot value) t).leases.rows n) ≡ true → is_some (row_at t.rows n) ≡ true
unfolding apply
stood_before rules slot value t n le is = stood_placed rules (16 * slot + 1) value (nothing t) n (omega arith) is

stood_learned : (rules : LeaseRules) (values : List (List LogCommand)) (value : List LogCommand) (n : ℕ)
    → n ≤ 16 * length values → is_some (row_at (table rules (values ++ value ∷ [])).rows n) ≡ true
    → is_some (row_at (table rules values).rows n) ≡ true
stood_learned rules values value n le is =
    stood_before rules (length values) value (table rules values) n le
    (rw (← (one_more rules values value).leaves) is)

current_learned : (p : Pending) (rules : LeaseRules) (a : AcceptorState) (ballot : ℕ) (value : List LogCommand)
    (acks : List (ℕ × Marks)) (peers : List Peer) → nat_lt (reach a) most_slots ≡ true → IsCurrent p rules a acks peers
    → IsCurrent p rules (follow a (entry.Learn ballot value)) acks peers
unfolding leases_of
current_learned p rules a ballot value acks peers room c =
    let values : List (List LogCommand) = values_of a in
    let count : length values ≡ reach a = length-map a.log _ in
    let more : map (λ (x : Cast). x.value) (a.log ++ record { ballot = ballot; value = value } ∷ []) ≡ values ++ value ∷ [] =
    map-append _ a.log _ in
    let long : length (a.log ++ record { ballot = ballot; value = value } ∷ []) ≡ reach a + 1 = length-append a.log _ in
    rw room (record {
      within = (let w = c.within in omega arith);
      seen = λ n is above upto absent. c.seen n
          (stood_learned rules values value n (let w = c.within in omega arith) (rw (← more) is)) above upto absent;
    })

current_with : (p : Pending) (rules : LeaseRules) (a : AcceptorState) (e : Entry) (acks : List (ℕ × Marks)) (peers : List Peer)
    → HasRoomFor (reach a) e → IsCurrent p rules a acks peers → IsCurrent p rules (follow a e) acks peers
unfolding leases_of HasRoomFor
current_with p rules a (entry.Boot version role index boot) acks peers room c = c
current_with p rules a (entry.Promise ballot) acks peers room c = record { within = c.within; seen = c.seen }
current_with p rules a (entry.Vote ballot value) acks peers room c = record { within = c.within; seen = c.seen }
current_with p rules a (entry.Learn ballot value) acks peers room c = current_learned p rules a ballot value acks peers room c
current_with p rules a (entry.Epoch epoch) acks peers room c = c

-- after a step of the agreement
pub current_kept : (p : Pending) (rules : LeaseRules) (a : AcceptorState) (e : Option Entry) (acks : List (ℕ × Marks)) (peers : List Peer)
    → HasRoom (reach a) e → IsCurrent p rules a acks peers → IsCurrent p rules (kept a e) acks peers
unfolding HasRoom
current_kept p rules a None acks peers room c = c
current_kept p rules a (Some e) acks peers room c = current_with p rules a e acks peers room c

-- ---- rows are looked at

in_above : (rows : List Row) (above : ℕ) (row : Row) → In row rows → above < row.n → In row (rows_above rows above)
in_above rows above row i lt = in_filter (λ x. nat_lt above x.n) rows row i (grind (arith, nat_tests))

above_in : (rows : List Row) (above : ℕ) (row : Row) → In row (rows_above rows above) → above < row.n
above_in rows above row i =
    each_in (λ x. above < x.n) (rows_above rows above) row
    (each_passing (λ x. above < x.n) (λ x. nat_lt above x.n) rows (λ x j e. grind (arith, nat_tests))) i

-- a row with a number above this one is the next one, or has a number above that of the next one
next_or_later : (rows : List Row) (above n : ℕ) (next : Row) → rows_above rows above ≡ next ∷ rows_above rows next.n
    → is_some (row_at rows n) ≡ true → above < n → (next.n ≡ n) ⊎ (next.n < n)
next_or_later rows above n next walk is lt =
    let there = some_row _ is in
    let number : there.0.n ≡ n = row_number _ n there.0 there.1 in
    let among : In there.0 (rows_above rows above) =
    in_above rows above there.0 (found_in (λ x. x.n == n) rows there.0 there.1) (omega arith) in
    elim (subst (λ (xs : List Row). In there.0 xs) walk among) [
      | inl same ↦ inl (ap (λ (x : Row). x.n) same ∙ number)
      | inr later ↦ inr (let over : next.n < there.0.n = above_in rows next.n there.0 later in omega arith)
    ]

-- one row more was looked at
pub seen_next : (rows : List Row) (acks : List (ℕ × Marks)) (peers : List Peer) (above : ℕ) (ns more : List ℕ) (next : Row)
    → rows_above rows above ≡ next ∷ rows_above rows next.n
    → ((n : ℕ) → has more n ≡ false → has ns n ≡ false)
    → (has more next.n ≡ false → is_settled peers (marks_at acks next.n) ≡ true)
    → SeenTo above ns rows acks peers → SeenTo next.n more rows acks peers
seen_next rows acks peers above ns more next walk others here seen n is over upto absent = by (nat_lt above n) refl
  where
    by : (b : Bool) → nat_lt above n ≡ b → is_settled peers (marks_at acks n) ≡ true
    by true e =
        let lt : above < n = grind (arith, nat_tests) in
        elim (next_or_later rows above n next walk is lt) [
          | inl same ↦ rw (← same) (here (rw same absent))
          | inr later ↦ absurd (omega arith)
        ]
    by false e = let le : n ≤ above = grind (arith, nat_tests) in seen n is over le (others n absent)

-- all were
pub seen_all : (rows : List Row) (acks : List (ℕ × Marks)) (peers : List Peer) (above upto : ℕ) (ns : List ℕ)
    → rows_above rows above ≡ [] → SeenTo above ns rows acks peers → SeenTo upto ns rows acks peers
seen_all rows acks peers above upto ns none seen n is over le absent = by (nat_lt above n) refl
  where
    by : (b : Bool) → nat_lt above n ≡ b → is_settled peers (marks_at acks n) ≡ true
    by true e =
        let there = some_row _ is in
        let number : there.0.n ≡ n = row_number _ n there.0 there.1 in
        let lt : above < n = grind (arith, nat_tests) in
        let among : In there.0 (rows_above rows above) =
        in_above rows above there.0 (found_in (λ x. x.n == n) rows there.0 there.1) (omega arith) in
        let nowhere : ⊥ = subst (λ (xs : List Row). In there.0 xs) none among in
        absurd nowhere
    by false e = let within : n ≤ above = grind (arith, nat_tests) in seen n is over within absent
