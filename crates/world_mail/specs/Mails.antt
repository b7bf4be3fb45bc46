-- All datagrams that were sent, and which of them wait.
use Rattle.std.specs.Prelude.{◌≡◌, ◌<◌, ◌≤◌, ℕ, ◌+◌, ◌-◌, Bool, true, false, not, ◌&&◌, ◌==◌, is_some, if◌then◌else◌, nat_lt, List, [], ◌∷◌, ◌++◌, map, length, get_or, slice_get, slice_set, Option, Some, None}
use Rattle.wire_core.specs.declared.node.NodeId.TheVariants.{Replica}
use Rattle.world_mail.specs.declared.mail.Posted.{Posted}

-- The datagrams in order, and of each whether a delivery took it.
pub record MailState : Type 0 where
  pub posted : List Posted
  pub taken : List Bool

-- ---- by number

-- the datagram with a number, from 1
abbrev pub posted_at : MailState → ℕ → Option Posted
posted_at m k = if k == 0 then None else slice_get m.posted (k - 1)

-- a delivery takes the datagram with this number, where there is one
abbrev pub taken_by : MailState → ℕ → MailState
taken_by m k =
    if nat_lt 0 k && nat_lt (k - 1) (length m.posted) then record m { taken = slice_set m.taken (k - 1) true } else m

-- no delivery took it
abbrev pub untaken : Posted → Bool
untaken p = false

-- these join
abbrev pub with_posted : MailState → List Posted → MailState
with_posted m ps = record m { posted = m.posted ++ ps; taken = m.taken ++ map untaken ps }

-- ---- waiting

-- it goes to a node, and no delivery took it
abbrev pub is_waiting : Posted → Bool → Bool
is_waiting p taken = is_some p.to && not taken

-- the first from number k on that waits
abbrev pub waiting_from : ℕ → List Posted → List Bool → Option ℕ
waiting_from k [] ts = None
waiting_from k (p ∷ ps) [] = None
waiting_from k (p ∷ ps) (t ∷ ts) = if is_waiting p t then Some k else waiting_from (k + 1) ps ts

-- The least number of a datagram that waits.
unfoldable pub least_waiting : MailState → Option ℕ
least_waiting m = waiting_from 1 m.posted m.taken

-- ---- as the code looks for it: by places, from 0

abbrev pub no_datagram : Posted
no_datagram = record { from = Replica 0; to = None; bytes = [] }

-- the datagram at a place waits
unfoldable pub waits_at : List Posted → List Bool → ℕ → Bool
waits_at ps ts i = is_waiting (get_or ps i no_datagram) (get_or ts i false)

-- Each datagram has a mark, and none before the cursor waits.
pub record IsMail (ps : List Posted) (ts : List Bool) (cursor : ℕ) : Type 0 where
  pub marks : length ts ≡ length ps
  pub within : cursor ≤ length ps
  pub before : (i : ℕ) → i < cursor → waits_at ps ts i ≡ false
