-- What the world's replicas tell of what they learned, and what agreement says of it.
use Rattle.std.specs.Prelude.{ℕ, ◌≡◌, ◌<◌, List, length, Contains, Option, Some, None, slice_get}
use Rattle.wire_core.specs.Reading.{read_value}
use Rattle.paxos_spec.specs.declared.cast.Cast.{Cast}
use Rattle.paxos_spec.specs.Votes.{Value}
use Rattle.paxos_spec.specs.Acceptor.{state_of}
use Rattle.paxos_spec.specs.Agreement.{IsChosen, world_log}
use Rattle.paxos_log.specs.declared.event.PaxosEvent.{PaxosEvent}
use Rattle.paxos_log.specs.declared.event.PaxosEvent.TheVariants.{Campaign, Offer, Deliver, Crash}
use Rattle.paxos_log.specs.World.{World, replica, whole_value, run, start, view}

-- the ballot and value that a replica tells for a slot
abbrev pub told : World → ℕ → ℕ → Option Cast
told w i slot = slice_get (state_of (replica w i).entries).log slot

-- It tells what the claims speak of: its entries, as an acceptor finds them again, are its disk.
abbrev pub ToldIsOnDisk : Type 0
ToldIsOnDisk = (w : World) (i : ℕ) → state_of (replica w i).entries ≡ ((view w).disk i).state

-- three of the five voted for it
abbrev pub ToldIsChosen : World → Type 0
ToldIsChosen w = (i slot : ℕ) (x : Cast) → i < 5 → told w i slot ≡ Some x → IsChosen (view w) slot x.ballot x.value

-- any two tell the same value
abbrev pub ToldIsOne : World → Type 0
ToldIsOne w = (i j slot : ℕ) (x y : Cast)
    → i < 5 → j < 5 → told w i slot ≡ Some x → told w j slot ≡ Some y → x.value ≡ y.value

-- which is that of the log of all five
abbrev pub ToldIsInLog : World → Type 0
ToldIsInLog w = (i slot : ℕ) (x : Cast)
    → i < 5 → told w i slot ≡ Some x → slice_get (world_log (view w)) slot ≡ Some x.value

-- the value that an event offers
abbrev pub offer_of : PaxosEvent → Option Value
offer_of (Campaign i) = None
offer_of (Offer i bytes) = whole_value (length bytes) (read_value bytes)
offer_of (Deliver k) = None
offer_of (Crash i kept) = None

-- some event offered the value
pub record WasOffered (events : List PaxosEvent) (v : Value) : Type 0 where
  pub event : PaxosEvent
  pub happened : Contains events event
  pub offers : offer_of event ≡ Some v

-- what is told was offered
abbrev pub ToldWasOffered : List PaxosEvent → Type 0
ToldWasOffered events = (i slot : ℕ) (x : Cast)
    → i < 5 → told (run events start) i slot ≡ Some x → WasOffered events x.value
