-- What a step hands to the link.
use Rattle.std.specs.Prelude.{◌≡◌, ℕ, if◌then◌else◌, List, ◌++◌, map, Option, Some, None, ⊤}
use Rattle.std.specs.List.{sum_by}
use Rattle.wire_core.specs.declared.outgoing.Outgoing.{Outgoing}
use Rattle.outside_io.specs.Link.{Sent}

-- a datagram that was handed over, as one that was to leave
abbrev pub outgoing_of : Sent → Outgoing
outgoing_of s = record { to = s.to; bytes = s.bytes }

-- 1 for one that was lost
abbrev pub lost_of : Sent → ℕ
lost_of s = if s.taken then 0 else 1

-- These datagrams were handed over once each, in order, and so many of them were lost.
pub record HandedOver (old new : List Sent) (sends : List Outgoing) (lost : ℕ) : Type 0 where
  pub since : List Sent
  pub grown : new ≡ old ++ since
  pub each : map outgoing_of since ≡ sends
  pub lost_is : sum_by lost_of since ≡ lost

-- the same, where the link tells what it was handed
abbrev pub Handed : Option (List Sent) → Option (List Sent) → List Outgoing → ℕ → Type 0
Handed None new sends lost = new ≡ None
Handed (Some xs) None sends lost = ⊤
Handed (Some xs) (Some ys) sends lost = HandedOver xs ys sends lost
