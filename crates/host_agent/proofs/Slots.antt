-- A machine's turn at its place.
use Rattle.std.proofs.Common.{◌≡◌, ◌∙◌, ℕ, zero, suc, ◌<◌, ◌≤◌, Bool, true, false, cond, List, [], ◌∷◌, ◌++◌, map, length, take, drop, set}
use Rattle.std.proofs.Common.{slice_get, get_or, Option, Some, None, Result, Ok, Err, OnOk, refl, sym, ap, subst, append-nil, arith}
use Rattle.std.specs.Prelude.{option_map}
use Rattle.std.proofs.lemmas.List.{take_all, drop_all}
use Rattle.wire_core.specs.declared.address.Ip4.{Ip4}
use Rattle.wire_core.specs.declared.step.Step.{Step}
use Rattle.vip_config.specs.Rules.{Once}
use Rattle.vip_config.specs.declared.parts.ConfigParts.{ConfigParts}
use Rattle.std.specs.Prelude.{if◌then◌else◌}
use Rattle.wire_core.specs.declared.cause.DropCause.TheVariants.{Denied}
use Rattle.wire_core.specs.declared.note.Note.TheVariants.{Dropped}
use Rattle.wire_core.specs.Steps.{first_of}
use Rattle.node_spec.specs.Turns.{Turn, quiet}
use Rattle.node_spec.specs.Steps.{onto, turned, tried}
use Rattle.agent_spec.specs.Agent.{Host, Site, Traffic, host_of, put_host}
use Rattle.agent_spec.specs.Answers.{is_ask}
use Rattle.host_agent.specs.Hosts.{IsKept, addresses, denial, put_at}
use Rattle.host_agent.specs.Retries.{with_denials}
use Rattle.host_agent.specs.Seen.{as_is, kept_in, site}
use Rattle.host_agent.proofs.Places.{put_at as put_is_set}

-- a list that took the whole place of another
pub whole_list : {X : Type 0} (n : ℕ) (xs ys : List X) → n ≡ length xs → length ys ≡ length xs
    → take n (ys ++ drop (length ys) xs) ≡ ys
whole_list n xs ys len as_long =
    let rest : drop (length ys) xs ≡ [] = drop_all (length ys) xs (omega arith) in
    ap (λ zs. take n (ys ++ zs)) rest ∙ ap (take n) (append-nil ys) ∙ take_all n ys (omega arith)

as_many : (hs gs : List Host) → addresses gs ≡ addresses hs → length gs ≡ length hs
as_many [] [] e = refl
as_many [] (g ∷ gs) e = absurd (cc)
as_many (h ∷ hs) [] e = absurd (cc)
as_many (h ∷ hs) (g ∷ gs) e = ap suc (as_many hs gs (tail_of e))
  where
    tail_of : g.machine ∷ addresses gs ≡ h.machine ∷ addresses hs → addresses gs ≡ addresses hs
    tail_of f = cc

-- the same addresses, so as many machines
pub whole_hosts : (n : ℕ) (hs gs : List Host) → n ≡ length hs → addresses gs ≡ addresses hs
    → take n (gs ++ drop (length gs) hs) ≡ gs
whole_hosts n hs gs len e = whole_list n hs gs len (as_many hs gs e)

-- with the same addresses they are kept
pub kept_same : (hs gs : List Host) (places : List Ip4) → IsKept hs places → addresses gs ≡ addresses hs → IsKept gs places
kept_same hs gs places kept same = record {
  places_are = kept.places_are ∙ sym same;
  apart = subst (λ (ms : List Ip4). Once ms) (sym same) kept.apart;
}

there : (hs : List Host) (i : ℕ) → i < length hs → (h : Host) × (slice_get hs i ≡ Some h)
there [] i lt = absurd (omega arith)
there (h ∷ hs) zero lt = (h, refl)
there (h ∷ hs) (suc i) lt = there hs i (omega arith)

same_machine : (hs : List Host) (i : ℕ) (h x : Host) → slice_get hs i ≡ Some h → addresses (set hs i x) ≡ addresses hs
    → h.machine ≡ x.machine
same_machine [] i h x e same = absurd (cc)
same_machine (g ∷ gs) zero h x e same = ap (λ (y : Host). y.machine) (sym (first g h e)) ∙ sym (head_of same)
  where
    first : (a b : Host) → Some a ≡ Some b → a ≡ b
    first a b f = cc

    head_of : x.machine ∷ addresses gs ≡ g.machine ∷ addresses gs → x.machine ≡ g.machine
    head_of f = cc
same_machine (g ∷ gs) (suc i) h x e same = same_machine gs i h x e (tail_of same)
  where
    tail_of : g.machine ∷ addresses (set gs i x) ≡ g.machine ∷ addresses gs → addresses (set gs i x) ≡ addresses gs
    tail_of f = cc

-- a machine's turn at its place is that of the machine with the address
pub placed_turned : (c : ConfigParts) (o p : Step) (t u : Traffic) (hs gs : List Host) (m : Ip4) (i : ℕ)
    (row : Host → Turn Site)
    → Once (addresses hs) → slice_get hs i ≡ host_of hs m → i < length hs
    → ((h : Host) → slice_get hs i ≡ Some h → ((u, gs), p) ≡ turned (put_at hs i) c o (row h))
    → addresses gs ≡ addresses hs
    → ((u, gs), (p, true)) ≡ tried (kept_in hs) c o (t, hs) (option_map row (host_of hs m))
unfolding turned tried onto
placed_turned c o p t u hs gs m i row once found lt turns same = by (there hs i lt)
  where
    by : (h : Host) × (slice_get hs i ≡ Some h)
        → ((u, gs), (p, true)) ≡ tried (kept_in hs) c o (t, hs) (option_map row (host_of hs m))
    by (h, is) =
        let e : ((u, gs), p) ≡ turned (put_at hs i) c o (row h) = turns h is in
        let now : gs ≡ set hs i (row h).state.host = ap (λ (x : (Traffic × List Host) × Step). x.0.1) e in
        let own : h.machine ≡ (row h).state.host.machine =
        same_machine hs i h (row h).state.host is (ap addresses (sym now) ∙ same) in
        let put : set hs i (row h).state.host ≡ put_host (row h).state.host hs =
        put_is_set hs i h (row h).state.host is own once in
        ap (λ (x : (Traffic × List Host) × Step). (x.0, (x.1, true))) e
        ∙ ap (λ (gs2 : List Host). (((row h).state.traffic, gs2), (onto c o (row h), true))) put
        ∙ ap (λ (r : Option Host). tried (kept_in hs) c o (t, hs) (option_map row r)) (sym is ∙ found)

-- the machines after a Denied of the ask that is out
abbrev denial_of : List Host → Host → Turn (List Host)
denial_of hs h = record (quiet (put_host (record h { queue = []; ask = None }) hs)) {
  notes = map (λ (p : List ℕ). Dropped Denied) h.queue;
}

first_none : {X : Type 0} (e : Option X) → first_of e None ≡ e
first_none None = refl
first_none (Some x) = refl

denied_here : (c : ConfigParts) (o : Step) (hs : List Host) (h : Host) (seq : ℕ) → is_ask seq h.ask ≡ true
    → (put_host (record h { queue = []; ask = None }) hs, (with_denials h.queue o, true))
    ≡ tried as_is c o hs (denial hs seq (Some h))
unfolding tried onto
denied_here c o hs h seq e =
    rw e (ap (λ (s : Step). (put_host (record h { queue = []; ask = None }) hs, (s, true)))
    (rw (first_none o.entry, append-nil o.acts, append-nil o.sends) refl))

-- the ask of a machine at its place
pub denied_at : (c : ConfigParts) (o p : Step) (hs gs : List Host) (m : Ip4) (i seq : ℕ)
    → Once (addresses hs) → slice_get hs i ≡ host_of hs m → i < length hs
    → ((h : Host) → slice_get hs i ≡ Some h → true ≡ is_ask seq h.ask)
    → ((h : Host) → slice_get hs i ≡ Some h → gs ≡ set hs i (record h { queue = []; ask = None }))
    → ((h : Host) → slice_get hs i ≡ Some h → p ≡ with_denials h.queue o)
    → (gs, (p, true)) ≡ tried as_is c o hs (denial hs seq (host_of hs m))
denied_at c o p hs gs m i seq once found lt asks left notes = by (there hs i lt)
  where
    by : (h : Host) × (slice_get hs i ≡ Some h) → (gs, (p, true)) ≡ tried as_is c o hs (denial hs seq (host_of hs m))
    by (h, is) =
        ap (λ (x : List Host). (x, (p, true)))
        (left h is ∙ put_is_set hs i h (record h { queue = []; ask = None }) is refl once)
        ∙ ap (λ (x : Step). (put_host (record h { queue = []; ask = None }) hs, (x, true))) (notes h is)
        ∙ denied_here c o hs h seq (sym (asks h is))
        ∙ ap (λ (r : Option Host). tried as_is c o hs (denial hs seq r)) (sym is ∙ found)

-- an ask that isn't out
pub undenied_at : (c : ConfigParts) (o : Step) (hs : List Host) (m : Ip4) (i seq : ℕ)
    → slice_get hs i ≡ host_of hs m → i < length hs
    → ((h : Host) → slice_get hs i ≡ Some h → false ≡ is_ask seq h.ask)
    → (hs, (o, false)) ≡ tried as_is c o hs (denial hs seq (host_of hs m))
unfolding tried
undenied_at c o hs m i seq found lt asks = by (there hs i lt)
  where
    by : (h : Host) × (slice_get hs i ≡ Some h) → (hs, (o, false)) ≡ tried as_is c o hs (denial hs seq (host_of hs m))
    by (h, is) =
        ap (λ (b : Bool). tried as_is c o hs (if b then Some (denial_of hs h) else None)) (asks h is)
        ∙ ap (λ (r : Option Host). tried as_is c o hs (denial hs seq r)) (sym is ∙ found)

-- ---- on a slice

-- the element that was read
pub element_is : (hs : List Host) (i : ℕ) (x h : Host) → x ≡ get_or hs i x → slice_get hs i ≡ Some h → x ≡ h
element_is [] i x h is e = absurd (cc)
element_is (g ∷ gs) zero x h is e = is ∙ first g h e
  where
    first : (a b : Host) → Some a ≡ Some b → a ≡ b
    first a b f = cc
element_is (g ∷ gs) (suc i) x h is e = element_is gs i x h is e

-- where the call is done
pub on_ok : {A E P Q : Type 0} (r : Result A E) → (P → Q) → OnOk r P → OnOk r Q
on_ok (Ok x) f p = f p
on_ok (Err e) f p = tt

-- a machine's turn, at its place
pub at_turned : (c : ConfigParts) (o p : Step) (u : Traffic) (hs : List Host) (i : ℕ) (g : Host) (t : Turn Site)
    → (site u g, p) ≡ turned as_is c o t → ((u, set hs i g), p) ≡ turned (put_at hs i) c o t
unfolding turned
at_turned c o p u hs i g t e = ap (λ (x : Site × Step). (put_at hs i x.0, x.1)) e

-- where it keeps its address, all do
pub addresses_stay : (hs : List Host) (i : ℕ) (g x : Host) → g.machine ≡ (get_or hs i x).machine
    → addresses (set hs i g) ≡ addresses hs
addresses_stay [] i g x same = refl
addresses_stay (h ∷ hs) zero g x same = ap (λ (m : Ip4). m ∷ addresses hs) same
addresses_stay (h ∷ hs) (suc i) g x same = ap (λ ms. h.machine ∷ ms) (addresses_stay hs i g x same)

-- what is read there
pub read_is : (hs : List Host) (i : ℕ) (x h : Host) → slice_get hs i ≡ Some h → get_or hs i x ≡ h
read_is [] i x h e = absurd (cc)
read_is (g ∷ gs) zero x h e = first g h e
  where
    first : (a b : Host) → Some a ≡ Some b → a ≡ b
    first a b f = cc
read_is (g ∷ gs) (suc i) x h e = read_is gs i x h e
