-- What a line of a schedule says.
use Rattle.std.specs.Prelude.{ℕ, Bool, true, false, List, [], ◌∷◌, Option, Some, None, if◌then◌else◌, codes}
use Rattle.std.specs.Str.{bytes_eq}
use Rattle.wire_core.specs.declared.node.NodeId.{NodeId}
use Rattle.wire_core.specs.declared.address.Socket.{Socket}
use Rattle.address_text.specs.Addresses.{◌>>=◌}
use Rattle.vip_config.specs.declared.parts.ConfigParts.{ConfigParts}
use Rattle.schedule_text.specs.declared.event.Single.{Single}
use Rattle.schedule_text.specs.declared.event.Single.TheVariants.{Deliver, Inject, Tick, Restart}
use Rattle.schedule_text.specs.declared.event.Event.{Event}
use Rattle.schedule_text.specs.declared.event.Event.TheVariants as event
use Rattle.schedule_text.specs.Fields.{next_word, number_at, node_at, outside_at, bytes_of}

-- what was read, where nothing stands behind it
abbrev pub ended : {A : Type 0} → A × List (List ℕ) → Option A
ended (a, []) = Some a
ended (a, word ∷ words) = None

abbrev pub Read : Type 0
Read = Single × List (List ℕ)

-- the K-th datagram
unfoldable pub deliver_at : List (List ℕ) → Option Read
deliver_at words = do
  k ← number_at words
  Some (Deliver k.0, k.1)

-- a node and a time
unfoldable pub tick_at : ConfigParts → List (List ℕ) → Option Read
tick_at cfg words = do
  node ← node_at cfg words
  now ← number_at node.1
  Some (Tick node.0 now.0, now.1)

unfoldable pub restart_at : ConfigParts → List (List ℕ) → Option Read
restart_at cfg words = do
  node ← node_at cfg words
  Some (Restart node.0, node.1)

abbrev pub Head : Type 0
Head = (NodeId × Socket × List ℕ) × List (List ℕ)

-- a node, a socket and the text of the bytes
unfoldable pub inject_head : ConfigParts → List (List ℕ) → Option Head
inject_head cfg words = do
  node ← node_at cfg words
  from ← outside_at cfg node.1
  text ← next_word from.1
  Some ((node.0, from.0, text.0), text.1)

abbrev pub injected : NodeId → Socket → Option (List ℕ) → List (List ℕ) → Option Read
injected node from None rest = None
injected node from (Some bytes) rest = Some (Inject node from bytes, rest)

abbrev pub inject_with : Option Head → Option Read
inject_with None = None
inject_with (Some head) = injected head.0.0 head.0.1 (bytes_of head.0.2) head.1

-- the kinds of events that need no bytes
abbrev pub small_at : ConfigParts → List ℕ → List (List ℕ) → Option Read
small_at cfg word words =
    if bytes_eq word (codes "deliver") then deliver_at words
    else if bytes_eq word (codes "tick") then tick_at cfg words
    else if bytes_eq word (codes "restart") then restart_at cfg words
    else None

abbrev pub single_by : ConfigParts → List ℕ → List (List ℕ) → Option Read
single_by cfg word words =
    if bytes_eq word (codes "inject") then inject_with (inject_head cfg words) else small_at cfg word words

-- an event at one node, and the words behind it
abbrev pub single_at : ConfigParts → List (List ℕ) → Option Read
single_at cfg [] = None
single_at cfg (word ∷ words) = single_by cfg word words

-- whether the entry of a step is kept
abbrev pub kept_of : List ℕ → Option Bool
kept_of word =
    if bytes_eq word (codes "keep") then Some true else if bytes_eq word (codes "lose") then Some false else None

unfoldable pub kept_at : List (List ℕ) → Option Bool
kept_at words = do
  word ← next_word words
  last ← ended word
  kept_of last

abbrev pub during_with : NodeId → Single → Option Bool → Option Event
during_with node e None = None
during_with node e (Some keep) = Some (event.During node e keep)

abbrev pub during_of : NodeId → Option Read → Option Event
during_of node None = None
during_of node (Some e) = during_with node e.0 (kept_at e.1)

-- a crash, and what it falls in
abbrev pub crash_with : ConfigParts → NodeId → List (List ℕ) → Option Event
crash_with cfg node [] = Some (event.Crash node)
crash_with cfg node (word ∷ words) =
    if bytes_eq word (codes "during") then during_of node (single_at cfg words) else None

abbrev pub crash_at : ConfigParts → Option (NodeId × List (List ℕ)) → Option Event
crash_at cfg None = None
crash_at cfg (Some node) = crash_with cfg node.0 node.1

unfoldable pub settle_of : List (List ℕ) → Option Event
settle_of words = do
  n ← number_at words
  k ← ended n
  Some (event.Settle k)

abbrev pub alone : Option Read → Option Event
alone None = None
alone (Some (e, [])) = Some (event.Single e)
alone (Some (e, word ∷ words)) = None

abbrev pub event_by : ConfigParts → List ℕ → List (List ℕ) → Option Event
event_by cfg word words =
    if bytes_eq word (codes "settle") then settle_of words
    else if bytes_eq word (codes "crash") then crash_at cfg (node_at cfg words)
    else alone (single_by cfg word words)

-- what the words of a line say
abbrev pub event_of : ConfigParts → List (List ℕ) → Option Event
event_of cfg [] = None
event_of cfg (word ∷ words) = event_by cfg word words
