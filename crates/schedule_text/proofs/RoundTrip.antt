-- What is written of an event is read as that event.
use Rattle.std.proofs.Common.{◌≡◌, ◌∙◌, ℕ, zero, suc, ◌+◌, ◌-◌, ◌*◌, ◌/◌, ◌%◌, ◌^◌, ◌<◌, ◌≤◌, nat_le, Bool, true, false, cond, ◌&&◌, ◌==◌, List, [], ◌∷◌, ◌++◌, length, slice_index, Option, None, Some, Ok, refl, sym, ap, subst, append_assoc, append-nil, arith, ne_eqb}
use Rattle.std.proofs.Common.{codes}
use Rattle.std.specs.Fmt.{decimal}
use Rattle.std.specs.Int.{IsInRange}
use Rattle.std.specs.List.{All, slice_split, onto_first}
use Rattle.std.proofs.lemmas.List.Splits.{slice_split_at, slice_split_none}
use Rattle.std.proofs.lemmas.List.Elements.{All-append}
use Rattle.std.proofs.lemmas.List.{get_or_default}
use Rattle.std.proofs.lemmas.Bool.{le-leb}
use Rattle.std.proofs.lemmas.Fmt.{digits_decimal}
use Rattle.std.proofs.lemmas.Str.Parse.{not_in_digits}
use Rattle.hex.specs.Hex.{decode_of, encode_lower, encode_with, lower_digits, IsBytes}
use Rattle.hex.proofs.HexLemmas.{decode_of-encode_lower}
use Rattle.wire_core.specs.declared.address.Socket.{Socket}
use Rattle.wire_core.specs.declared.address.Ip4.{Ip4}
use Rattle.wire_core.specs.declared.node.NodeId.{NodeId}
use Rattle.wire_core.specs.declared.node.NodeId.TheVariants.{Replica, Mux, Agent}
use Rattle.address_text.specs.Fields.{parts}
use Rattle.address_text.specs.Addresses.{◌>>=◌, address_text, socket_text, socket_of}
use Rattle.address_text.specs.Laws.{IsSocket}
use Rattle.address_text.proofs.NumberText.{own, number_read}
use Rattle.address_text.proofs.AddressText.{socket_read}
use Rattle.vip_config.specs.declared.parts.ConfigParts.{ConfigParts}
use Rattle.schedule_text.specs.declared.event.Single.{Single}
use Rattle.schedule_text.specs.declared.event.Single.TheVariants.{Deliver, Inject, Tick, Restart}
use Rattle.schedule_text.specs.declared.event.Event.{Event}
use Rattle.schedule_text.specs.declared.event.Event.TheVariants as event
use Rattle.schedule_text.specs.Fields.{next_word, number_at, node_at, replica_of, mux_of, agent_of, configured, outside, outside_at, bytes_of, few_bytes}
use Rattle.schedule_text.specs.Lines.{ended, deliver_at, tick_at, restart_at, inject_head, inject_with, injected, small_at, single_by, single_at, kept_at, during_of, during_with, crash_with, crash_at, settle_of, alone, event_by, event_of}
use Rattle.schedule_text.specs.Texts.{node_text, single_text, kept_text, event_text}
use Rattle.schedule_text.specs.Laws.{IsNumber, HasWidth, IsNode, IsOutside, IsFrame, IsWritable, IsLine}

abbrev NoSpace : List ℕ → Type 0
NoSpace text = All (λ b. (b == 32) ≡ false) text

-- a word, and what stands behind it
word_at : (w rest : List ℕ) → NoSpace w → parts 32 (w ++ 32 ∷ rest) ≡ w ∷ parts 32 rest
word_at w rest h = slice_split_at (λ b. b == 32) w 32 rest h refl

last_word : (w : List ℕ) → NoSpace w → parts 32 w ≡ w ∷ []
last_word w h = slice_split_none (λ b. b == 32) w h

-- ---- no space in a number, an address, bytes

space : ¬ (IsInRange 48 57 32)
space h = omega (arith, h.0)

in_number : (n : ℕ) → n < 2 ^ 64 → NoSpace (decimal n)
in_number n small = λ k d lt.
    let other = not_in_digits own (decimal n) 32 (digits_decimal own n small) space k lt in
    rw (get_or_default (decimal n) k d 0 lt) (ne_eqb _ _ other)

one_mark : (m : ℕ) → (m == 32) ≡ false → NoSpace (m ∷ [])
one_mark m e zero d lt = e
one_mark m e (suc k) d lt = absurd (omega arith)

joined : (a b : List ℕ) → NoSpace a → NoSpace b → NoSpace (a ++ b)
joined a b p q = All-append (λ b. (b == 32) ≡ false) a b p q

in_address : (ip : Ip4) → ip.0 < 2 ^ 32 → NoSpace (address_text ip)
in_address ip small =
    joined _ _ (joined _ _ (joined _ _ (joined _ _ (joined _ _ (joined _ _ (in_number (ip.0 / 16777216 % 256) (omega arith)) (one_mark 46 refl))
    (in_number (ip.0 / 65536 % 256) (omega arith))) (one_mark 46 refl)) (in_number (ip.0 / 256 % 256) (omega arith))) (one_mark 46 refl)) (in_number (ip.0 % 256) (omega arith))

in_socket : (s : Socket) → IsSocket s → NoSpace (socket_text s)
in_socket s h = joined _ _ (joined _ _ (in_address s.ip h.0) (one_mark 58 refl)) (in_number s.port (omega (arith, h.2)))

cell : (m : ℕ) (rest : List ℕ) → (m == 32) ≡ false → NoSpace rest → NoSpace (m ∷ rest)
cell m rest e h zero d lt = e
cell m rest e h (suc k) d lt = h k d (omega arith)

-- a digit of a table without a space is none, whatever its place
digit : (t : List ℕ) (i : ℕ) → NoSpace t → (slice_index t i == 32) ≡ false
digit [] i h = refl
digit (x ∷ xs) zero h = h zero 0 (omega arith)
digit (x ∷ xs) (suc i) h = digit xs i (λ k d lt. h (suc k) d (omega (arith, lt)))

empty : NoSpace []
empty k d lt = absurd (omega arith)

abbrev spaceless : List ℕ → Bool
spaceless [] = true
spaceless (x ∷ xs) = cond (x == 32) false (spaceless xs)

by_first : (t : Bool) (x : ℕ) (xs : List ℕ) → (x == 32) ≡ t → cond t false (spaceless xs) ≡ true → (spaceless xs ≡ true → NoSpace xs) → NoSpace (x ∷ xs)
by_first true x xs e h rest = absurd cc
by_first false x xs e h rest = cell x xs e (rest h)

-- a text that passes the test
decided : (xs : List ℕ) → spaceless xs ≡ true → NoSpace xs
decided [] h = empty
decided (x ∷ xs) h = by_first (x == 32) x xs refl h (decided xs)

table : NoSpace lower_digits
table = decided lower_digits refl

in_bytes : (bytes : List ℕ) → NoSpace (encode_lower bytes)
unfolding encode_with
in_bytes [] = empty
in_bytes (b ∷ bytes) =
    cell (slice_index lower_digits (b / 16)) (slice_index lower_digits (b % 16) ∷ encode_lower bytes) (digit lower_digits (b / 16) table)
    (cell (slice_index lower_digits (b % 16)) (encode_lower bytes) (digit lower_digits (b % 16) table) (in_bytes bytes))

-- ---- the words of an event

abbrev node_words : NodeId → List (List ℕ) → List (List ℕ)
node_words (Replica i) ws = codes "replica" ∷ decimal i ∷ ws
node_words (Mux i) ws = codes "mux" ∷ decimal i ∷ ws
node_words (Agent i) ws = codes "agent" ∷ decimal i ∷ ws

abbrev single_words : Single → List (List ℕ) → List (List ℕ)
single_words (Deliver k) ws = codes "deliver" ∷ decimal k ∷ ws
single_words (Inject node from bytes) ws = codes "inject" ∷ node_words node (socket_text from ∷ encode_lower bytes ∷ ws)
single_words (Tick node now) ws = codes "tick" ∷ node_words node (decimal now ∷ ws)
single_words (Restart node) ws = codes "restart" ∷ node_words node ws

-- what stands behind a word
abbrev Ends : List ℕ → List (List ℕ) → Type 0
Ends tail ws = (w : List ℕ) → NoSpace w → parts 32 (w ++ tail) ≡ w ∷ ws

nothing : Ends [] []
nothing w h = ap (parts 32) (append-nil w) ∙ last_word w h

more : (rest : List ℕ) → Ends (32 ∷ rest) (parts 32 rest)
more rest w h = word_at w rest h

node_parts : (node : NodeId) (tail : List ℕ) (ws : List (List ℕ)) → HasWidth node → Ends tail ws → parts 32 (node_text node ++ tail) ≡ node_words node ws
node_parts (Replica i) tail ws h ends = ap (λ (l : List (List ℕ)). codes "replica" ∷ l) (ends (decimal i) (in_number i (omega (arith, h))))
node_parts (Mux i) tail ws h ends = ap (λ (l : List (List ℕ)). codes "mux" ∷ l) (ends (decimal i) (in_number i (omega (arith, h))))
node_parts (Agent i) tail ws h ends = ap (λ (l : List (List ℕ)). codes "agent" ∷ l) (ends (decimal i) (in_number i (omega (arith, h))))

single_parts : (cfg : ConfigParts) (e : Single) (tail : List ℕ) (ws : List (List ℕ)) → IsWritable cfg e → Ends tail ws → parts 32 (single_text e ++ tail) ≡ single_words e ws
single_parts cfg (Deliver k) tail ws h ends = ap (λ (l : List (List ℕ)). codes "deliver" ∷ l) (ends (decimal k) (in_number k h))
single_parts cfg (Inject node from bytes) tail ws h ends =
    ap (λ (l : List (List ℕ)). codes "inject" ∷ l) (
    ap (parts 32) (append_assoc (node_text node) (32 ∷ (socket_text from ++ (32 ∷ encode_lower bytes))) tail)
    ∙ node_parts node (32 ∷ ((socket_text from ++ (32 ∷ encode_lower bytes)) ++ tail)) (parts 32 ((socket_text from ++ (32 ∷ encode_lower bytes)) ++ tail)) h.0.width (more _)
    ∙ ap (node_words node) (
    ap (parts 32) (append_assoc (socket_text from) (32 ∷ encode_lower bytes) tail)
    ∙ word_at (socket_text from) (encode_lower bytes ++ tail) (in_socket from h.1.socket)
    ∙ ap (λ (l : List (List ℕ)). socket_text from ∷ l) (ends (encode_lower bytes) (in_bytes bytes))))
single_parts cfg (Tick node now) tail ws h ends =
    ap (λ (l : List (List ℕ)). codes "tick" ∷ l) (
    ap (parts 32) (append_assoc (node_text node) (32 ∷ decimal now) tail)
    ∙ node_parts node (32 ∷ (decimal now ++ tail)) (parts 32 (decimal now ++ tail)) h.0.width (more _)
    ∙ ap (node_words node) (ends (decimal now) (in_number now h.1)))
single_parts cfg (Restart node) tail ws h ends = ap (λ (l : List (List ℕ)). codes "restart" ∷ l) (node_parts node tail ws h.width ends)

-- ---- the words are read

number_back : (n : ℕ) (ws : List (List ℕ)) → IsNumber n → number_at (decimal n ∷ ws) ≡ Some (n, ws)
unfolding number_at
number_back n ws h = ap (λ (o : Option ℕ). o >>= λ m. Some (m, ws)) (number_read (2 ^ 64 - 1) n (omega (arith, h)) (omega arith))

node_back : (cfg : ConfigParts) (node : NodeId) (ws : List (List ℕ)) → IsNode cfg node → node_at cfg (node_words node ws) ≡ Some (node, ws)
unfolding node_at
node_back cfg (Replica i) ws h =
    ap (λ (o : Option ℕ). replica_of o >>= λ named. configured cfg named >>= λ node. Some (node, ws)) (number_read 255 i (omega (arith, h.width)) (omega arith))
    ∙ ap (λ (o : Option NodeId). o >>= λ node. Some (node, ws)) h.known
node_back cfg (Mux i) ws h =
    ap (λ (o : Option ℕ). mux_of o >>= λ named. configured cfg named >>= λ node. Some (node, ws)) (number_read 65535 i (omega (arith, h.width)) (omega arith))
    ∙ ap (λ (o : Option NodeId). o >>= λ node. Some (node, ws)) h.known
node_back cfg (Agent i) ws h =
    ap (λ (o : Option ℕ). agent_of o >>= λ named. configured cfg named >>= λ node. Some (node, ws)) (number_read 65535 i (omega (arith, h.width)) (omega arith))
    ∙ ap (λ (o : Option NodeId). o >>= λ node. Some (node, ws)) h.known

outside_back : (cfg : ConfigParts) (from : Socket) (ws : List (List ℕ)) → IsOutside cfg from → outside_at cfg (socket_text from ∷ ws) ≡ Some (from, ws)
unfolding outside_at
outside_back cfg from ws h =
    ap (λ (o : Option Socket). o >>= λ s. outside cfg s >>= λ f. Some (f, ws)) (socket_read from h.socket)
    ∙ ap (λ (o : Option Socket). o >>= λ f. Some (f, ws)) h.other

bytes_back : (bytes : List ℕ) → IsFrame bytes → bytes_of (encode_lower bytes) ≡ Some bytes
bytes_back bytes h =
    ap few_bytes (decode_of-encode_lower bytes h.bytes)
    ∙ ap (λ (t : Bool). cond (t && nat_le (length bytes) 65507) (some bytes) None) (le-leb 1 (length bytes) h.some)
    ∙ ap (λ (t : Bool). cond t (some bytes) None) (le-leb (length bytes) 65507 h.most)
  where
    some : List ℕ → Option (List ℕ)
    some x = Some x

abbrev Head : Type 0
Head = (NodeId × Socket × List ℕ) × List (List ℕ)

head_back : (cfg : ConfigParts) (node : NodeId) (from : Socket) (text : List ℕ) (ws : List (List ℕ)) → IsNode cfg node → IsOutside cfg from
    → inject_head cfg (node_words node (socket_text from ∷ text ∷ ws)) ≡ Some ((node, from, text), ws)
unfolding inject_head
head_back cfg node from text ws hn hf =
    ap (λ (o : Option (NodeId × List (List ℕ))). o >>= λ n. outside_at cfg n.1 >>= λ f. next_word f.1 >>= λ t. Some ((n.0, f.0, t.0), t.1)) (node_back cfg node (socket_text from ∷ text ∷ ws) hn)
    ∙ ap (λ (o : Option (Socket × List (List ℕ))). o >>= λ f. next_word f.1 >>= λ t. Some ((node, f.0, t.0), t.1)) (outside_back cfg from (text ∷ ws) hf)

single_back : (cfg : ConfigParts) (e : Single) (ws : List (List ℕ)) → IsWritable cfg e → single_at cfg (single_words e ws) ≡ Some (e, ws)
unfolding deliver_at tick_at restart_at
single_back cfg (Deliver k) ws h = ap (λ (o : Option (ℕ × List (List ℕ))). o >>= λ k. Some (Deliver k.0, k.1)) (number_back k ws h)
single_back cfg (Inject node from bytes) ws h =
    ap inject_with (head_back cfg node from (encode_lower bytes) ws h.0 h.1)
    ∙ ap (λ (b : Option (List ℕ)). injected node from b ws) (bytes_back bytes h.2)
single_back cfg (Tick node now) ws h =
    ap (λ (o : Option (NodeId × List (List ℕ))). o >>= λ n. number_at n.1 >>= λ t. Some (Tick n.0 t.0, t.1)) (node_back cfg node (decimal now ∷ ws) h.0)
    ∙ ap (λ (o : Option (ℕ × List (List ℕ))). o >>= λ t. Some (Tick node t.0, t.1)) (number_back now ws h.1)
single_back cfg (Restart node) ws h = ap (λ (o : Option (NodeId × List (List ℕ))). o >>= λ n. Some (Restart n.0, n.1)) (node_back cfg node ws h)

alone_back : (cfg : ConfigParts) (e : Single) → IsWritable cfg e → event_of cfg (single_words e []) ≡ Some (event.Single e)
alone_back cfg (Deliver k) h = ap alone (single_back cfg (Deliver k) [] h)
alone_back cfg (Inject node from bytes) h = ap alone (single_back cfg (Inject node from bytes) [] h)
alone_back cfg (Tick node now) h = ap alone (single_back cfg (Tick node now) [] h)
alone_back cfg (Restart node) h = ap alone (single_back cfg (Restart node) [] h)

during_back : (cfg : ConfigParts) (node : NodeId) (e : Single) (keep : Bool) (last : List ℕ) → IsNode cfg node → IsWritable cfg e → kept_at (last ∷ []) ≡ Some keep
    → event_of cfg (codes "crash" ∷ node_words node (codes "during" ∷ single_words e (last ∷ []))) ≡ Some (event.During node e keep)
during_back cfg node e keep last hn he hf =
    ap (crash_at cfg) (node_back cfg node (codes "during" ∷ single_words e (last ∷ [])) hn)
    ∙ ap (during_of node) (single_back cfg e (last ∷ []) he)
    ∙ ap (during_with node e) hf

during_parts : (cfg : ConfigParts) (node : NodeId) (e : Single) (last : List ℕ) → IsNode cfg node → IsWritable cfg e → NoSpace last
    → parts 32 (codes "crash " ++ (node_text node ++ (codes " during " ++ (single_text e ++ (32 ∷ last))))) ≡ codes "crash" ∷ node_words node (codes "during" ∷ single_words e (last ∷ []))
during_parts cfg node e last hn he hf =
    ap (λ (l : List (List ℕ)). codes "crash" ∷ l) (
    node_parts node (codes " during " ++ (single_text e ++ (32 ∷ last))) (parts 32 (codes "during " ++ (single_text e ++ (32 ∷ last)))) hn.width (more _)
    ∙ ap (λ (l : List (List ℕ)). node_words node (codes "during" ∷ l)) (single_parts cfg e (32 ∷ last) (last ∷ []) he (λ w h. word_at w last h ∙ ap (λ (l : List (List ℕ)). w ∷ l) (last_word last hf))))

keep_word : NoSpace (codes "keep")
keep_word = decided (codes "keep") refl

lose_word : NoSpace (codes "lose")
lose_word = decided (codes "lose") refl

kept : kept_at (codes "keep" ∷ []) ≡ Some true
unfolding kept_at
kept = refl

lost : kept_at (codes "lose" ∷ []) ≡ Some false
unfolding kept_at
lost = refl

pub event_back : (cfg : ConfigParts) (e : Event) → IsLine cfg e → event_of cfg (parts 32 (event_text e)) ≡ Some e
unfolding settle_of
event_back cfg (event.Single e) h =
    ap (event_of cfg) (ap (parts 32) (sym (append-nil (single_text e))) ∙ single_parts cfg e [] [] h nothing) ∙ alone_back cfg e h
event_back cfg (event.Settle n) h =
    ap (λ (l : List (List ℕ)). event_of cfg (codes "settle" ∷ l)) (last_word (decimal n) (in_number n h))
    ∙ ap (λ (o : Option (ℕ × List (List ℕ))). o >>= λ m. ended m >>= λ k. Some (event.Settle k)) (number_back n [] h)
event_back cfg (event.Crash node) h =
    ap (λ (l : List (List ℕ)). event_of cfg (codes "crash" ∷ l)) (ap (parts 32) (sym (append-nil (node_text node))) ∙ node_parts node [] [] h.width nothing)
    ∙ ap (crash_at cfg) (node_back cfg node [] h)
event_back cfg (event.During node e true) h =
    ap (event_of cfg) (during_parts cfg node e (codes "keep") h.0 h.1 keep_word) ∙ during_back cfg node e true (codes "keep") h.0 h.1 kept
event_back cfg (event.During node e false) h =
    ap (event_of cfg) (during_parts cfg node e (codes "lose") h.0 h.1 lose_word) ∙ during_back cfg node e false (codes "lose") h.0 h.1 lost
