-- Five replicas, the messages between them, and what may happen next.
use Rattle.std.specs.Prelude.{ℕ, ◌-◌, Bool, true, false, not, ◌&&◌, if◌then◌else◌, nat_lt, ◌==◌, List, [], ◌∷◌, ◌++◌, map, length, Option, Some, None, Result, Ok, Err, slice_get, slice_set, slice_index_or, position}
use Rattle.wire_core.specs.declared.entry.Entry.{Entry}
use Rattle.wire_core.specs.declared.value.ValueFault.{ValueFault}
use Rattle.wire_core.specs.Reading.{read_value}
use Rattle.paxos_spec.specs.declared.mail.Mail.{Mail}
use Rattle.paxos_spec.specs.Votes.{Value}
use Rattle.paxos_spec.specs.Acceptor.{state_of, with_entry}
use Rattle.paxos_spec.specs.Replica.{Memory, new_memory, Out, quiet, on_message, on_campaign, on_offer}
use Rattle.paxos_spec.specs.Agreement.{View}
use Rattle.paxos_laws.specs.Steps.{cut_short}
use Rattle.paxos_laws.specs.Disks.{disk_of}
use Rattle.paxos_log.specs.declared.event.PaxosEvent.{PaxosEvent}
use Rattle.paxos_log.specs.declared.event.PaxosEvent.TheVariants.{Campaign, Offer, Deliver, Crash}
use Rattle.paxos_log.specs.declared.posts.Post.{Post}

-- a replica: its entries, which it finds again when it opens, and its memory
pub record Replica : Type 0 where
  pub entries : List Entry
  pub memory : Memory

pub record World : Type 0 where
  pub replicas : List Replica
  pub posts : List Post  -- every message that was ever sent

abbrev pub new_replica : Replica
new_replica = record { entries = []; memory = new_memory }

abbrev pub start : World
start = record { replicas = new_replica ∷ new_replica ∷ new_replica ∷ new_replica ∷ new_replica ∷ []; posts = [] }

abbrev pub replica : World → ℕ → Replica
replica w i = slice_index_or w.replicas i new_replica

-- a replica after its step
abbrev pub stepped : Replica → Out → Replica
stepped x o = record { entries = with_entry x.entries o.entry; memory = o.memory }

abbrev pub posted : Mail → Post
posted x = record { mail = x; taken = false }

-- A replica takes a step: its entry is durable, its memory changes, its messages are sent.
unfoldable pub apply : World → ℕ → Out → World
apply w i o = record {
  replicas = slice_set w.replicas i (stepped (replica w i) o);
  posts = w.posts ++ map posted o.sends;
}

-- a message of no replica is passed over
abbrev pub on_mail : ℕ → Replica → Mail → Out
on_mail i x mail =
    if nat_lt mail.sender 5
    then on_message i (state_of x.entries) x.memory mail.sender mail.body
    else quiet x.memory

-- the message of this place counts as delivered
abbrev pub takes : World → ℕ → Mail → World
takes w k mail = record { replicas = w.replicas; posts = slice_set w.posts k (record { mail = mail; taken = true }) }

-- the replica handles the message of this place
abbrev pub handles : World → ℕ → ℕ → Mail → World
handles w k i mail = apply (takes w k mail) i (on_mail i (replica w i) mail)

abbrev pub delivered : World → ℕ → Option Post → World
delivered w k None = w
delivered w k (Some p) = if nat_lt p.mail.target 5 then handles w k p.mail.target p.mail else w

abbrev pub waits_for : ℕ → Post → Bool
waits_for i p = (p.mail.target == i) && not p.taken

-- the place of the least message to the replica that was never delivered
abbrev pub waiting : ℕ → List Post → Option ℕ
waiting i posts = position (waits_for i) posts

-- It goes down and opens again from its entries.
abbrev pub reopens : World → ℕ → World
reopens w i = apply w i (quiet new_memory)

-- It goes down while it handles the message of this place.
abbrev pub falls : World → ℕ → ℕ → Mail → World
falls w k i mail = apply (takes w k mail) i (cut_short (on_mail i (replica w i) mail))

abbrev pub cut_at : World → ℕ → ℕ → Option Post → World
cut_at w i k None = reopens w i
cut_at w i k (Some p) = falls w k i p.mail

abbrev pub cut_while : World → ℕ → Option ℕ → World
cut_while w i None = reopens w i
cut_while w i (Some k) = cut_at w i k (slice_get w.posts k)

-- the value that bytes spell as a whole
abbrev pub whole_value : ℕ → Result (Value × ℕ) ValueFault → Option Value
whole_value total (Ok x) = if x.1 == total then Some x.0 else None
whole_value total (Err e) = None

abbrev pub offered : World → ℕ → Option Value → World
offered w i None = w
offered w i (Some value) = apply w i (on_offer i (state_of (replica w i).entries) (replica w i).memory value)

-- One event. One that names no replica, no message or no value changes nothing.
abbrev pub happens : World → PaxosEvent → World
happens w (Campaign i) =
    if nat_lt i 5 then apply w i (on_campaign i (state_of (replica w i).entries) (replica w i).memory) else w
happens w (Offer i bytes) = if nat_lt i 5 then offered w i (whole_value (length bytes) (read_value bytes)) else w
happens w (Deliver k) = if nat_lt 0 k then delivered w (k - 1) (slice_get w.posts (k - 1)) else w
happens w (Crash i true) = if nat_lt i 5 then cut_while w i (waiting i w.posts) else w
happens w (Crash i false) = if nat_lt i 5 then reopens w i else w

-- a list of events, from the first on
abbrev pub run : List PaxosEvent → World → World
run [] w = w
run (e ∷ es) w = run es (happens w e)

-- what the claims see of a world
unfoldable pub view : World → View
view w = record {
  disk = λ i. disk_of (replica w i).entries;
  memory = λ i. (replica w i).memory;
  sent = map (λ (p : Post). p.mail) w.posts;
}
