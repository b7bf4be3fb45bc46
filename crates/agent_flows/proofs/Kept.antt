-- What an edit of the slots keeps, and what callers see of it.
use Rattle.std.proofs.Common.{◌≡◌, ◌≢◌, ℕ, zero, suc, ◌+◌, ◌-◌, ◌^◌, ◌<◌, ◌≤◌, ◌==◌, min, Bool, true, false, not, cond}
use Rattle.std.proofs.Common.{find, List, [], ◌∷◌, ◌++◌, map, filter, length, take, get_or, set, Option, Some, None}
use Rattle.std.proofs.Common.{refl, ap, sym, ◌∙◌, subst, arith, length-append}
use Rattle.std.specs.Prelude.{◌&&◌, if◌then◌else◌, nat_le, nat_lt}
use Rattle.std.proofs.Math.Path.{fun_ext}
use Rattle.std.proofs.lemmas.Bool.Decides.{nat_tests}
use Rattle.std.proofs.lemmas.Bool.{eqb-true}
use native.Mathlib.Numerals.{unary_clauses}
use Rattle.wire_core.specs.declared.flow.FlowKey.{FlowKey}
use Rattle.wire_core.specs.declared.flow.Proto.{Proto}
use Rattle.wire_core.specs.declared.flow.Proto.TheVariants.{Tcp, Udp}
use Rattle.wire_core.specs.contracts.flow.ProtoPartialEq.TheImpl as proto
use Rattle.wire_core.specs.contracts.flow.FlowKeyPartialEq.TheImpl as flow
use Rattle.wire_core.specs.Same.{same_key, same_proto}
use Rattle.wire_core.specs.Members.{In}
use Rattle.wire_core.proofs.SameLaws.{key_is, key_itself}
use Rattle.agent_spec.specs.declared.connection.Connection.{Connection}
use Rattle.agent_spec.specs.Connections.{private_key, public_key, has_private, has_public, at_private, closed, most}
use Rattle.agent_spec.specs.Connections.{is_idle}
use Rattle.agent_flows.specs.declared.change.Change.{Change}
use Rattle.agent_flows.specs.declared.change.Change.TheVariants.{Used, Peer, Again}
use Rattle.agent_flows.specs.declared.looked.Looked.{Looked}
use Rattle.agent_flows.specs.declared.opened.Opened.TheVariants.{Yes, Full}
use Rattle.agent_flows.specs.Changes.{made}
use Rattle.agent_flows.specs.Flows.{opened}
use Rattle.agent_flows.specs.Slots.{Slots, listed, last_use, slot_at, is_at, slot_has, is_older, Marks, Finds}
use Rattle.agent_flows.specs.Slots.{IsLooked, IsKept}
use Rattle.agent_flows.proofs.Looks.{none_split, none_in_none, none_more, none_set, none_older_lower, length_set, fewer_before}
use Rattle.agent_flows.proofs.Looks.{length_clear}
use Rattle.agent_flows.proofs.Marked.{listed_append, find_marked, none_before, map_marked, filter_marked}
use Rattle.agent_flows.proofs.Marked.{push_marked, push_other, marks_set, within, is_place, only_marked}

by_test : {P : Type 0} → (b : Bool) → (b ≡ true → P) → (b ≡ false → P) → P
by_test true f g = f refl
by_test false f g = g refl

itself : (i : ℕ) → (i == i) ≡ true
itself i = grind (arith, nat_tests)

-- ---- places of keys

-- the place of a connection's key
pub placed : (key : Connection → FlowKey) (ss : Slots) (found : FlowKey → Option ℕ) (i : ℕ) (c : Connection)
    → Finds key ss found → get_or ss i None ≡ Some c → found (key c) ≡ Some i
placed key ss found i c h e =
    is_place (found (key c)) i (h (key c) i ∙ ap (slot_has (λ x. same_key (key x) (key c))) e ∙ key_itself (key c))

marks_at : (key : Connection → FlowKey) (ss : Slots) (found : FlowKey → Option ℕ) (i : ℕ) (c : Connection)
    → Finds key ss found → get_or ss i None ≡ Some c → Marks (λ x. same_key (key x) (key c)) ss (Some i)
marks_at key ss found i c h e =
    subst (Marks (λ x. same_key (key x) (key c)) ss) (placed key ss found i c h e) (h (key c))

-- no connection before it has its key
pub own_before : (key : Connection → FlowKey) (ss : Slots) (found : FlowKey → Option ℕ) (i : ℕ) (c : Connection)
    → Finds key ss found → get_or ss i None ≡ Some c
    → find (λ x. same_key (key x) (key c)) (listed (take i ss)) ≡ None
own_before key ss found i c h e =
    none_before (λ x. same_key (key x) (key c)) ss i (marks_at key ss found i c h e)

finds_push : (key : Connection → FlowKey) (ss : Slots) (found more : FlowKey → Option ℕ) (c : Connection)
    → Finds key ss found → found (key c) ≡ None
    → ((k : FlowKey) → more k ≡ (if same_key (key c) k then Some (length ss) else found k))
    → Finds key (ss ++ Some c ∷ []) more
finds_push key ss found more c h none is k =
    by_test
    (same_key (key c) k)
    (λ yes.
    let same : key c ≡ k = key_is (key c) k yes in
    let empty : Marks (λ x. same_key (key x) k) ss None =
    subst (Marks (λ x. same_key (key x) k) ss) (ap found (sym same) ∙ none) (h k) in
    let now : more k ≡ Some (length ss) = is k ∙ ap (λ (b : Bool). cond b (Some (length ss)) (found k)) yes in
    subst
    (Marks (λ x. same_key (key x) k) (ss ++ Some c ∷ []))
    (sym now)
    (push_marked (λ x. same_key (key x) k) ss c yes empty))
    (λ no.
    let now : more k ≡ found k = is k ∙ ap (λ (b : Bool). cond b (Some (length ss)) (found k)) no in
    subst
    (Marks (λ x. same_key (key x) k) (ss ++ Some c ∷ []))
    (sym now)
    (push_other (λ x. same_key (key x) k) ss c (found k) no (h k)))

-- another connection with the same key in its slot
finds_set : (key : Connection → FlowKey) (ss : Slots) (found : FlowKey → Option ℕ) (i : ℕ) (c d : Connection)
    → Finds key ss found → get_or ss i None ≡ Some c → key d ≡ key c → Finds key (set ss i (Some d)) found
finds_set key ss found i c d h e same k j =
    marks_set (λ x. same_key (key x) k) ss i (Some d) (found k) (found k) (h k) j (λ ne. refl) (within ss i c e)
    (h k i
    ∙ ap (slot_has (λ x. same_key (key x) k)) e
    ∙ ap (λ (x : FlowKey). same_key x k) (sym same))

finds_clear : (key : Connection → FlowKey) (ss : Slots) (found less : FlowKey → Option ℕ) (i : ℕ) (c : Connection)
    → Finds key ss found → get_or ss i None ≡ Some c
    → ((k : FlowKey) → less k ≡ (if same_key (key c) k then None else found k)) → Finds key (set ss i None) less
finds_clear key ss found less i c h e is k j =
    by_test
    (same_key (key c) k)
    (λ yes.
    let same : key c ≡ k = key_is (key c) k yes in
    let was : found k ≡ Some i = ap found (sym same) ∙ placed key ss found i c h e in
    let now : less k ≡ None = is k ∙ ap (λ (b : Bool). cond b None (found k)) yes in
    marks_set (λ x. same_key (key x) k) ss i None (found k) (less k) (h k) j
    (λ ne. ap (λ o. is_at o j) now ∙ sym (ap (λ o. is_at o j) was ∙ apart i j ne))
    (within ss i c e)
    (ap (λ o. is_at o i) now))
    (λ no.
    let now : less k ≡ found k = is k ∙ ap (λ (b : Bool). cond b None (found k)) no in
    marks_set (λ x. same_key (key x) k) ss i None (found k) (less k) (h k) j
    (λ ne. ap (λ o. is_at o j) now)
    (within ss i c e)
    (ap (λ o. is_at o i) now ∙ h k i ∙ ap (slot_has (λ x. same_key (key x) k)) e ∙ no))
  where
    apart : (i j : ℕ) → j ≢ i → (i == j) ≡ false
    apart i j ne = by_test (i == j) (λ yes. absurd (ne (sym (eqb-true i j yes)))) (λ no. no)

-- nothing there, and no place
no_place : (p : Connection → Bool) (ss : Slots) (o : Option ℕ) → Marks p ss o → find p (listed ss) ≡ None → o ≡ None
no_place p ss None m e = refl
no_place p ss (Some i) m e =
    absurd (some_there (get_or ss i None) (sym (m i) ∙ itself i) (sym (find_marked p ss (Some i) m) ∙ e))
  where
    some_there : (s : Option Connection) → slot_has p s ≡ true → s ≡ None → ⊥
    some_there None e n = absurd (cc)
    some_there (Some c) e n = absurd (cc)

-- a key that is found at a place is that of the connection there
found_key : (key : Connection → FlowKey) (ss : Slots) (found : FlowKey → Option ℕ) (k : FlowKey) (i : ℕ) (c : Connection)
    → Finds key ss found → found k ≡ Some i → get_or ss i None ≡ Some c → key c ≡ k
found_key key ss found k i c h e is =
    key_is (key c) k
    (sym (sym (ap (λ o. is_at o i) e ∙ itself i) ∙ h k i ∙ ap (slot_has (λ x. same_key (key x) k)) is))

-- ---- what was looked at

taken_front : (ss ts : Slots) (n : ℕ) → n ≤ length ss → take n (ss ++ ts) ≡ take n ss
taken_front [] [] zero le = refl
taken_front [] (t ∷ ts) zero le = refl
taken_front [] ts (suc n) le = absurd (omega arith)
taken_front (s ∷ ss) ts zero le = refl
taken_front (s ∷ ss) ts (suc n) le = ap (λ (l : Slots). s ∷ l) (taken_front ss ts n (omega arith))

set_length : (ss : Slots) (i : ℕ) (s : Option Connection) → length (set ss i s) ≡ length ss
set_length [] i s = refl
set_length (t ∷ ss) zero s = refl
set_length (t ∷ ss) (suc i) s = ap (λ (n : ℕ). suc n) (set_length ss i s)

looked_push : (ss : Slots) (looked : Looked) (s : Option Connection) → IsLooked ss looked → IsLooked (ss ++ s ∷ []) looked
looked_push ss looked s h = record {
  within = (let le = h.within in let n = length-append ss (s ∷ []) in omega arith);
  none_older =
      ap
      (λ (l : Slots). find (is_older looked.oldest) (listed l))
      (taken_front ss (s ∷ []) looked.at h.within)
      ∙ h.none_older;
}

used_awake : (d : Connection) (t : ℕ) → is_older (min t d.last) d ≡ false
used_awake d t = grind (arith, nat_tests)

looked_set : (ss : Slots) (looked : Looked) (i : ℕ) (d : Connection) → IsLooked ss looked
    → IsLooked (set ss i (Some d)) (record { at = looked.at; oldest = min looked.oldest d.last })
looked_set ss looked i d h = record {
  within = (let le = h.within in let n = set_length ss i (Some d) in omega arith);
  none_older =
      none_set (is_older (min looked.oldest d.last)) ss looked.at i (Some d) (used_awake d looked.oldest)
      (none_older_lower (listed (take looked.at ss)) looked.oldest (min looked.oldest d.last) (omega arith) h.none_older);
}

looked_clear : (ss : Slots) (looked : Looked) (i : ℕ) → IsLooked ss looked → IsLooked (set ss i None) looked
looked_clear ss looked i h = record {
  within = (let le = h.within in let n = set_length ss i None in omega arith);
  none_older = none_set (is_older looked.oldest) ss looked.at i None refl h.none_older;
}

pub nothing_looked : (ss : Slots) (t : ℕ) → IsLooked ss (record { at = 0; oldest = t })
nothing_looked ss t = record { within = omega arith; none_older = none_in_none (is_older t) ss }

-- one slot further
pub looked_past : (ss : Slots) (looked : Looked) → looked.at < length ss → IsLooked ss looked
    → IsLooked ss (record {
      at = looked.at + 1;
      oldest = min looked.oldest (last_use (get_or ss looked.at None));
    })
looked_past ss looked lt h = record {
  within = omega arith;
  none_older =
      none_more (is_older (min looked.oldest (last_use (get_or ss looked.at None)))) ss looked.at
      (awake (get_or ss looked.at None))
      (none_older_lower (listed (take looked.at ss)) looked.oldest
      (min looked.oldest (last_use (get_or ss looked.at None)))
      (omega arith)
      h.none_older);
}
  where
    awake : (s : Option Connection) → slot_has (is_older (min looked.oldest (last_use s))) s ≡ false
    awake None = refl
    awake (Some c) = used_awake c looked.oldest

-- ---- no change changes a key

pub made_private : (change : Change) (c : Connection) → private_key (made change c) ≡ private_key c
unfolding private_key
made_private (Used now) c = refl
made_private (Peer peer n) c = refl
made_private (Again now clear) c = refl

pub made_public : (change : Change) (c : Connection) → public_key (made change c) ≡ public_key c
unfolding public_key
made_public (Used now) c = refl
made_public (Peer peer n) c = refl
made_public (Again now clear) c = refl

-- ---- all that is kept

-- nothing was opened
pub kept_new : (private public : FlowKey → Option ℕ) (looked : Looked) → ((k : FlowKey) → private k ≡ None)
    → ((k : FlowKey) → public k ≡ None) → looked.at ≡ 0 → IsKept [] 0 private public looked
unfolding listed
kept_new private public looked no_private no_public e = record {
  by_private = λ k i. ap (λ o. is_at o i) (no_private k);
  by_public = λ k i. ap (λ o. is_at o i) (no_public k);
  count = refl;
  few = omega arith;
  rest = record {
    within = omega arith;
    none_older = subst
        (λ (n : ℕ). find (is_older looked.oldest) (listed (take n [])) ≡ None)
        (sym e)
        (none_in_none (is_older looked.oldest) []);
  };
}

pub kept_push : (ss : Slots) (live : ℕ) (private public more more2 : FlowKey → Option ℕ) (looked : Looked) (c : Connection)
    → IsKept ss live private public looked → live < most
    → find (has_private (private_key c)) (listed ss) ≡ None → find (has_public (public_key c)) (listed ss) ≡ None
    → ((k : FlowKey) → more k ≡ (if same_key (private_key c) k then Some (length ss) else private k))
    → ((k : FlowKey) → more2 k ≡ (if same_key (public_key c) k then Some (length ss) else public k))
    → IsKept (ss ++ Some c ∷ []) (live + 1) more more2 looked
unfolding listed
kept_push ss live private public more more2 looked c h room none none2 is is2 = record {
  by_private =
      finds_push private_key ss private more c h.by_private
      (no_place (has_private (private_key c)) ss (private (private_key c)) (h.by_private (private_key c)) none)
      is;
  by_public =
      finds_push public_key ss public more2 c h.by_public
      (no_place (has_public (public_key c)) ss (public (public_key c)) (h.by_public (public_key c)) none2)
      is2;
  count =
      ap (λ n. n + 1) h.count
      ∙ sym (ap length (listed_append ss (Some c ∷ [])) ∙ length-append (listed ss) (c ∷ []));
  few = omega arith;
  rest = looked_push ss looked (Some c) h.rest;
}

pub listed_push : (ss : Slots) (c : Connection) → listed (ss ++ Some c ∷ []) ≡ listed ss ++ c ∷ []
unfolding listed
listed_push ss c = listed_append ss (Some c ∷ [])

pub kept_set : (ss : Slots) (live : ℕ) (private public : FlowKey → Option ℕ) (looked : Looked) (i : ℕ) (c d : Connection)
    → IsKept ss live private public looked → get_or ss i None ≡ Some c
    → private_key d ≡ private_key c → public_key d ≡ public_key c
    → IsKept (set ss i (Some d)) live private public (record { at = looked.at; oldest = min looked.oldest d.last })
kept_set ss live private public looked i c d h e same same2 = record {
  by_private = finds_set private_key ss private i c d h.by_private e same;
  by_public = finds_set public_key ss public i c d h.by_public e same2;
  count = h.count ∙ sym (length_set ss i c d e);
  few = h.few;
  rest = looked_set ss looked i d h.rest;
}

-- a change of the connection in a slot
pub kept_changed : (ss : Slots) (live : ℕ) (private public : FlowKey → Option ℕ) (looked looked2 : Looked) (i : ℕ)
    (c d : Connection) (change : Change) → IsKept ss live private public looked → get_or ss i None ≡ Some c
    → d ≡ made change c → looked2 ≡ record { at = looked.at; oldest = min looked.oldest d.last }
    → IsKept (set ss i (Some d)) live private public looked2
kept_changed ss live private public looked looked2 i c d change h e is is2 =
    subst (IsKept (set ss i (Some d)) live private public) (sym is2)
    (kept_set ss live private public looked i c d h e
    (ap private_key is ∙ made_private change c)
    (ap public_key is ∙ made_public change c))

pub kept_clear : (ss : Slots) (live : ℕ) (private public less less2 : FlowKey → Option ℕ) (looked looked2 : Looked) (i : ℕ)
    (c : Connection) → IsKept ss live private public looked → get_or ss i None ≡ Some c
    → ((k : FlowKey) → less k ≡ (if same_key (private_key c) k then None else private k))
    → ((k : FlowKey) → less2 k ≡ (if same_key (public_key c) k then None else public k))
    → IsLooked ss looked2 → IsKept (set ss i None) (live - 1) less less2 looked2
kept_clear ss live private public less less2 looked looked2 i c h e is is2 r = record {
  by_private = finds_clear private_key ss private less i c h.by_private e is;
  by_public = finds_clear public_key ss public less2 i c h.by_public e is2;
  count = (let n = h.count in let m = length_clear ss i c e in omega arith);
  few = (let n = h.few in omega arith);
  rest = looked_clear ss looked2 i r;
}

-- more was looked at
pub kept_looked : (ss : Slots) (live : ℕ) (private public : FlowKey → Option ℕ) (looked looked2 : Looked)
    → IsKept ss live private public looked → IsLooked ss looked2 → IsKept ss live private public looked2
kept_looked ss live private public looked looked2 h r = record {
  by_private = h.by_private;
  by_public = h.by_public;
  count = h.count;
  few = h.few;
  rest = r;
}

pub one_is_live : (ss : Slots) (live : ℕ) (private public : FlowKey → Option ℕ) (looked : Looked) (i : ℕ) (c : Connection)
    → IsKept ss live private public looked → get_or ss i None ≡ Some c → 1 ≤ live
one_is_live ss live private public looked i c h e = let n = h.count in let m = length_clear ss i c e in omega arith

-- ---- the connections before a slot

pub before_private : (ss items : Slots) (live : ℕ) (private public : FlowKey → Option ℕ) (looked : Looked)
    (flows : List Connection) (i : ℕ) (c : Connection) → items ≡ ss → IsKept ss live private public looked
    → get_or items i None ≡ Some c → flows ≡ listed (take i items)
    → find (has_private (private_key c)) flows ≡ None
before_private ss items live private public looked flows i c is h e before =
    ap (find (has_private (private_key c))) (before ∙ ap (λ (l : Slots). listed (take i l)) is)
    ∙ own_before private_key ss private i c h.by_private (sym (ap (λ (l : Slots). get_or l i None) is) ∙ e)

pub before_public : (ss items : Slots) (live : ℕ) (private public : FlowKey → Option ℕ) (looked : Looked)
    (flows : List Connection) (i : ℕ) (c : Connection) → items ≡ ss → IsKept ss live private public looked
    → get_or items i None ≡ Some c → flows ≡ listed (take i items)
    → find (has_public (public_key c)) flows ≡ None
before_public ss items live private public looked flows i c is h e before =
    ap (find (has_public (public_key c))) (before ∙ ap (λ (l : Slots). listed (take i l)) is)
    ∙ own_before public_key ss public i c h.by_public (sym (ap (λ (l : Slots). get_or l i None) is) ∙ e)

pub before_few : (ss items : Slots) (live : ℕ) (private public : FlowKey → Option ℕ) (looked : Looked)
    (flows : List Connection) (i : ℕ) (c : Connection) → items ≡ ss → IsKept ss live private public looked
    → get_or items i None ≡ Some c → flows ≡ listed (take i items) → length flows < most
before_few ss items live private public looked flows i c is h e before =
    let n = ap length (before ∙ ap (λ (l : Slots). listed (take i l)) is) in
    let m = fewer_before ss i c (sym (ap (λ (l : Slots). get_or l i None) is) ∙ e) in
    let few = h.few in
    let count = h.count in
    omega arith

-- ---- look-ups, as callers see them

pub there : (ss : Slots) (live : ℕ) (private public : FlowKey → Option ℕ) (looked : Looked) (now : List Connection)
    (k : FlowKey) (o : Option ℕ) (x : Option Connection) → IsKept ss live private public looked → listed ss ≡ now
    → o ≡ private k → x ≡ slot_at ss o → x ≡ find (has_private k) now
there ss live private public looked now k o x h is place slot =
    slot
    ∙ ap (slot_at ss) place
    ∙ sym (find_marked (has_private k) ss (private k) (h.by_private k))
    ∙ ap (find (has_private k)) is

pub there_public : (ss : Slots) (live : ℕ) (private public : FlowKey → Option ℕ) (looked : Looked)
    (now : List Connection) (k : FlowKey) (o : Option ℕ) (x : Option Connection) → IsKept ss live private public looked
    → listed ss ≡ now → o ≡ public k → x ≡ slot_at ss o → x ≡ find (has_public k) now
there_public ss live private public looked now k o x h is place slot =
    slot
    ∙ ap (slot_at ss) place
    ∙ sym (find_marked (has_public k) ss (public k) (h.by_public k))
    ∙ ap (find (has_public k)) is

-- no two have one private key
pub own_there : (ss : Slots) (live : ℕ) (private public : FlowKey → Option ℕ) (looked : Looked) (now : List Connection)
    (k : FlowKey) (x : Option Connection) → IsKept ss live private public looked → listed ss ≡ now
    → x ≡ find (has_private k) now → (c : Connection) → In c now → has_private k c ≡ true → x ≡ Some c
own_there ss live private public looked now k x h is found c in_now hit =
    found
    ∙ sym (ap (find (has_private k)) is)
    ∙ find_marked (has_private k) ss (private k) (h.by_private k)
    ∙ only_marked (has_private k) ss (private k) c (h.by_private k)
    (subst (λ (l : List Connection). In c l) (sym is) in_now)
    hit

pub own_out : (ss : Slots) (live : ℕ) (private public : FlowKey → Option ℕ) (looked : Looked) (now : List Connection)
    (i : ℕ) (c : Connection) → IsKept ss live private public looked → listed ss ≡ now → get_or ss i None ≡ Some c
    → (d : Connection) → In d now → has_private (private_key c) d ≡ true → d ≡ c
own_out ss live private public looked now i c h is slot d in_now hit =
    let there : slot_at ss (Some i) ≡ Some d =
    only_marked (has_private (private_key c)) ss (Some i) d (marks_at private_key ss private i c h.by_private slot)
    (subst (λ (l : List Connection). In d l) (sym is) in_now)
    hit in
    let both : Some d ≡ Some c = sym there ∙ slot in
    cc

-- an edit of the connection with a key
pub edited : (ss : Slots) (live : ℕ) (private public : FlowKey → Option ℕ) (looked : Looked) (now : List Connection)
    (k : FlowKey) (i : ℕ) (c : Connection) (f : Connection → Connection) → IsKept ss live private public looked
    → listed ss ≡ now → private k ≡ Some i → get_or ss i None ≡ Some c
    → listed (set ss i (Some (f c))) ≡ map (at_private k f) now
edited ss live private public looked now k i c f h is e slot =
    map_marked (has_private (private_key c)) f ss i c (marks_at private_key ss private i c h.by_private slot) slot
    ∙ ap
    (λ (x : FlowKey). map (at_private x f) (listed ss))
    (found_key private_key ss private k i c h.by_private e slot)
    ∙ ap (map (at_private k f)) is

pub taken_out : (ss : Slots) (live : ℕ) (private public : FlowKey → Option ℕ) (looked : Looked) (now : List Connection)
    (i : ℕ) (c : Connection) → IsKept ss live private public looked → listed ss ≡ now → get_or ss i None ≡ Some c
    → listed (set ss i None) ≡ closed (private_key c) now
taken_out ss live private public looked now i c h is slot =
    filter_marked (has_private (private_key c)) ss i c (marks_at private_key ss private i c h.by_private slot) slot
    ∙ ap (closed (private_key c)) is

pub closed_here : (ss : Slots) (live : ℕ) (private public : FlowKey → Option ℕ) (looked : Looked) (now : List Connection)
    (k : FlowKey) (i : ℕ) (c : Connection) → IsKept ss live private public looked → listed ss ≡ now
    → private k ≡ Some i → get_or ss i None ≡ Some c → listed (set ss i None) ≡ closed k now
closed_here ss live private public looked now k i c h is place slot =
    taken_out ss live private public looked now i c h is slot
    ∙ ap (λ (x : FlowKey). closed x now) (found_key private_key ss private k i c h.by_private place slot)

-- ---- a key that no connection has

pub map_absent : (k : FlowKey) (f : Connection → Connection) (cs : List Connection) → find (has_private k) cs ≡ None
    → map (at_private k f) cs ≡ cs
map_absent k f [] e = refl
map_absent k f (c ∷ cs) e =
    let s : (has_private k c ≡ false) × (find (has_private k) cs ≡ None) = none_split (has_private k c) c _ e in
    rw s.0 (ap (λ (l : List Connection). c ∷ l) (map_absent k f cs s.1))

pub closed_absent : (k : FlowKey) (cs : List Connection) → find (has_private k) cs ≡ None → closed k cs ≡ cs
closed_absent k [] e = refl
closed_absent k (c ∷ cs) e =
    let s : (has_private k c ≡ false) × (find (has_private k) cs ≡ None) = none_split (has_private k c) c _ e in
    rw s.0 (ap (λ (l : List Connection). c ∷ l) (closed_absent k cs s.1))

-- ---- derived equality

key_eq : (a b : FlowKey) → flow.ghosts.eq a b ≡ same_key a b
key_eq a b =
    ap
    (λ (p : Bool).
    (a.src.0 == b.src.0) && ((a.dst.0 == b.dst.0) && ((a.sport == b.sport) && ((a.dport == b.dport) && p))))
    (proto_eq a.proto b.proto)
  where
    proto_eq : (a b : Proto) → proto.ghosts.eq a b ≡ same_proto a b
    proto_eq Tcp Tcp = refl
    proto_eq Tcp Udp = refl
    proto_eq Udp Tcp = refl
    proto_eq Udp Udp = refl

pub key_eq_is : flow.ghosts.eq ≡ same_key
key_eq_is = fun_ext (λ a. fun_ext (λ b. key_eq a b))
