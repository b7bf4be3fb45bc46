-- What is read comes from no node's socket.
use Rattle.std.proofs.Common.{◌≡◌, ◌∙◌, ℕ, ◌+◌, Bool, true, false, cond, List, [], ◌∷◌, ◌++◌, Option, None, Some, Result, Ok, Err, refl, sym, ap, subst, nat_lt}
use Rattle.std.specs.Str.{bytes_eq}
use Rattle.std.specs.Prelude.{codes}
use Rattle.wire_core.specs.Members.{Each}
use Rattle.wire_core.specs.declared.address.Socket.{Socket}
use Rattle.wire_core.specs.declared.node.NodeId.{NodeId}
use Rattle.address_text.specs.Addresses.{◌>>=◌, socket_of}
use Rattle.address_text.specs.Fields.{parts}
use Rattle.vip_config.specs.declared.parts.ConfigParts.{ConfigParts}
use Rattle.vip_config.specs.Queries.{who_of}
use Rattle.schedule_text.specs.declared.event.Single.{Single}
use Rattle.schedule_text.specs.declared.event.Single.TheVariants.{Deliver, Inject, Tick, Restart}
use Rattle.schedule_text.specs.declared.event.Event.{Event}
use Rattle.schedule_text.specs.declared.event.Event.TheVariants as event
use Rattle.schedule_text.specs.Fields.{next_word, number_at, node_at, is_node, outside, outside_at, bytes_of}
use Rattle.schedule_text.specs.Laws.{IsFromOutside, IsHonest}
use Rattle.schedule_text.specs.Lines.{Read, Head, ended, deliver_at, tick_at, restart_at, inject_head, inject_with, injected, small_at, single_by, single_at, kept_at, during_of, during_with, crash_with, crash_at, settle_of, alone, event_by, event_of}
use Rattle.schedule_text.specs.Schedule.{after, and_then, counted, events_from, is_skipped, line_step, schedule_of, settles, without_end}

-- P of what is there
abbrev IfThere : {A : Type 0} → (A → Type 0) → Option A → Type 0
IfThere P None = Unit {0}
IfThere P (Some a) = P a

-- a do without a word of what it made
bind_gives : {A B : Type 0} (P : B → Type 0) (o : Option A) (f : A → Option B) → ((a : A) → IfThere P (f a)) → IfThere P (o >>= f)
bind_gives P None f h = tt
bind_gives P (Some a) f h = h a

if_gives : {A : Type 0} (P : A → Type 0) (b : Bool) (x y : Option A) → IfThere P x → IfThere P y → IfThere P (cond b x y)
if_gives P true x y p q = p
if_gives P false x y p q = q

abbrev OfRead : ConfigParts → Read → Type 0
OfRead cfg r = IsFromOutside cfg r.0

abbrev OfHead : ConfigParts → Head → Type 0
OfHead cfg h = is_node (who_of cfg h.0.1) ≡ false

abbrev OfSocket : ConfigParts → Socket × List (List ℕ) → Type 0
OfSocket cfg s = is_node (who_of cfg s.0) ≡ false

-- ---- an event at one node

outside_by : (cfg : ConfigParts) (s : Socket) (ws : List (List ℕ)) (b : Bool) → is_node (who_of cfg s) ≡ b
    → IfThere (OfSocket cfg) ((cond b None (Some s)) >>= λ f. Some (f, ws))
outside_by cfg s ws true e = tt
outside_by cfg s ws false e = e

outside_gives : (cfg : ConfigParts) (words : List (List ℕ)) → IfThere (OfSocket cfg) (outside_at cfg words)
unfolding outside_at
outside_gives cfg words =
    bind_gives (OfSocket cfg) (next_word words) _
    (λ w. bind_gives (OfSocket cfg) (socket_of w.0) _ (λ s. outside_by cfg s w.1 (is_node (who_of cfg s)) refl))

head_by : (cfg : ConfigParts) (node : NodeId) (o : Option (Socket × List (List ℕ))) → IfThere (OfSocket cfg) o
    → IfThere (OfHead cfg) (o >>= λ from. next_word from.1 >>= λ text. Some ((node, from.0, text.0), text.1))
head_by cfg node None h = tt
head_by cfg node (Some from) h =
    bind_gives (OfHead cfg) (next_word from.1) (λ text. Some ((node, from.0, text.0), text.1)) (λ text. h)

head_gives : (cfg : ConfigParts) (words : List (List ℕ)) → IfThere (OfHead cfg) (inject_head cfg words)
unfolding inject_head
head_gives cfg words =
    bind_gives (OfHead cfg) (node_at cfg words) _ (λ node. head_by cfg node.0 (outside_at cfg node.1) (outside_gives cfg node.1))

injected_gives : (cfg : ConfigParts) (node : NodeId) (from : Socket) (bytes : Option (List ℕ)) (rest : List (List ℕ))
    → is_node (who_of cfg from) ≡ false → IfThere (OfRead cfg) (injected node from bytes rest)
injected_gives cfg node from None rest h = tt
injected_gives cfg node from (Some bytes) rest h = h

inject_gives : (cfg : ConfigParts) (head : Option Head) → IfThere (OfHead cfg) head → IfThere (OfRead cfg) (inject_with head)
inject_gives cfg None h = tt
inject_gives cfg (Some head) h = injected_gives cfg head.0.0 head.0.1 (bytes_of head.0.2) head.1 h

deliver_gives : (cfg : ConfigParts) (words : List (List ℕ)) → IfThere (OfRead cfg) (deliver_at words)
unfolding deliver_at
deliver_gives cfg words = bind_gives (OfRead cfg) (number_at words) _ (λ k. tt)

tick_gives : (cfg : ConfigParts) (words : List (List ℕ)) → IfThere (OfRead cfg) (tick_at cfg words)
unfolding tick_at
tick_gives cfg words = bind_gives (OfRead cfg) (node_at cfg words) _ (λ node. bind_gives (OfRead cfg) (number_at node.1) _ (λ now. tt))

restart_gives : (cfg : ConfigParts) (words : List (List ℕ)) → IfThere (OfRead cfg) (restart_at cfg words)
unfolding restart_at
restart_gives cfg words = bind_gives (OfRead cfg) (node_at cfg words) _ (λ node. tt)

single_gives : (cfg : ConfigParts) (word : List ℕ) (words : List (List ℕ)) → IfThere (OfRead cfg) (single_by cfg word words)
single_gives cfg word words =
    if_gives (OfRead cfg) (bytes_eq word (codes "inject")) _ _ (inject_gives cfg (inject_head cfg words) (head_gives cfg words))
    (if_gives (OfRead cfg) (bytes_eq word (codes "deliver")) _ _ (deliver_gives cfg words)
    (if_gives (OfRead cfg) (bytes_eq word (codes "tick")) _ _ (tick_gives cfg words)
    (if_gives (OfRead cfg) (bytes_eq word (codes "restart")) _ None (restart_gives cfg words) tt)))

single_at_gives : (cfg : ConfigParts) (words : List (List ℕ)) → IfThere (OfRead cfg) (single_at cfg words)
single_at_gives cfg [] = tt
single_at_gives cfg (word ∷ words) = single_gives cfg word words

-- ---- an event

alone_gives : (cfg : ConfigParts) (r : Option Read) → IfThere (OfRead cfg) r → IfThere (IsHonest cfg) (alone r)
alone_gives cfg None h = tt
alone_gives cfg (Some (e, [])) h = h
alone_gives cfg (Some (e, word ∷ words)) h = tt

during_by : (cfg : ConfigParts) (node : NodeId) (e : Single) (keep : Option Bool) → IsFromOutside cfg e
    → IfThere (IsHonest cfg) (during_with node e keep)
during_by cfg node e None h = tt
during_by cfg node e (Some keep) h = h

during_gives : (cfg : ConfigParts) (node : NodeId) (r : Option Read) → IfThere (OfRead cfg) r → IfThere (IsHonest cfg) (during_of node r)
during_gives cfg node None h = tt
during_gives cfg node (Some e) h = during_by cfg node e.0 (kept_at e.1) h

crash_gives : (cfg : ConfigParts) (node : NodeId) (words : List (List ℕ)) → IfThere (IsHonest cfg) (crash_with cfg node words)
crash_gives cfg node [] = tt
crash_gives cfg node (word ∷ words) =
    if_gives (IsHonest cfg) (bytes_eq word (codes "during")) _ None (during_gives cfg node (single_at cfg words) (single_at_gives cfg words)) tt

crash_at_gives : (cfg : ConfigParts) (node : Option (NodeId × List (List ℕ))) → IfThere (IsHonest cfg) (crash_at cfg node)
crash_at_gives cfg None = tt
crash_at_gives cfg (Some node) = crash_gives cfg node.0 node.1

settle_gives : (cfg : ConfigParts) (words : List (List ℕ)) → IfThere (IsHonest cfg) (settle_of words)
unfolding settle_of
settle_gives cfg words = bind_gives (IsHonest cfg) (number_at words) _ (λ n. bind_gives (IsHonest cfg) (ended n) _ (λ k. tt))

event_gives : (cfg : ConfigParts) (words : List (List ℕ)) → IfThere (IsHonest cfg) (event_of cfg words)
event_gives cfg [] = tt
event_gives cfg (word ∷ words) =
    if_gives (IsHonest cfg) (bytes_eq word (codes "settle")) _ _ (settle_gives cfg words)
    (if_gives (IsHonest cfg) (bytes_eq word (codes "crash")) _ _ (crash_at_gives cfg (node_at cfg words))
    (alone_gives cfg (single_by cfg word words) (single_gives cfg word words)))

-- ---- a schedule

abbrev OfStep : ConfigParts → ℕ × List Event → Type 0
OfStep cfg s = Each (IsHonest cfg) s.1

counted_gives : (cfg : ConfigParts) (sum : ℕ) (e : Option Event) → IfThere (IsHonest cfg) e → IfThere (OfStep cfg) (counted sum e)
counted_gives cfg sum None h = tt
counted_gives cfg sum (Some e) h = if_gives (OfStep cfg) (nat_lt 1000000 (sum + settles e)) None _ tt (h, tt)

line_gives : (cfg : ConfigParts) (n sum : ℕ) (line : List ℕ) → IfThere (OfStep cfg) (line_step cfg n sum line)
line_gives cfg n sum line =
    if_gives (OfStep cfg) (nat_lt 100000 n) None _ tt
    (if_gives (OfStep cfg) (is_skipped line) _ _ tt (counted_gives cfg sum (event_of cfg (parts 32 line)) (event_gives cfg (parts 32 line))))

abbrev IfAll : ConfigParts → Result (List Event) ℕ → Type 0
IfAll cfg (Ok es) = Each (IsHonest cfg) es
IfAll cfg (Err n) = Unit {0}

each_join : {X : Type 0} (P : X → Type 0) (xs ys : List X) → Each P xs → Each P ys → Each P (xs ++ ys)
each_join P [] ys p q = q
each_join P (x ∷ xs) ys p q = (p.0, each_join P xs ys p.1 q)

after_gives : (cfg : ConfigParts) (front : List Event) (r : Result (List Event) ℕ) → Each (IsHonest cfg) front → IfAll cfg r
    → IfAll cfg (after front r)
after_gives cfg front (Ok es) p q = each_join (IsHonest cfg) front es p q
after_gives cfg front (Err n) p q = tt

then_gives : (cfg : ConfigParts) (n : ℕ) (r : Option (ℕ × List Event)) (more : ℕ → Result (List Event) ℕ) → IfThere (OfStep cfg) r
    → ((s : ℕ) → IfAll cfg (more s)) → IfAll cfg (and_then n r more)
then_gives cfg n None more p q = tt
then_gives cfg n (Some step) more p q = after_gives cfg step.1 (more step.0) p (q step.0)

lines_give : (cfg : ConfigParts) (lines : List (List ℕ)) (n sum : ℕ) → IfAll cfg (events_from cfg n sum lines)
unfolding events_from
lines_give cfg [] n sum = tt
lines_give cfg (line ∷ lines) n sum =
    then_gives cfg n (line_step cfg n sum line) (λ s. events_from cfg (n + 1) s lines) (line_gives cfg n sum line)
    (λ s. lines_give cfg lines (n + 1) s)

pub none_forged : (cfg : ConfigParts) (text : List ℕ) (es : List Event) → schedule_of cfg text ≡ Ok es → Each (IsHonest cfg) es
none_forged cfg text es e = subst (IfAll cfg) e (lines_give cfg (parts 10 (without_end text)) 1 0)
