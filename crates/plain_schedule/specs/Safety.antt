-- What holds at each moment of a plain schedule: whose a range is, whose a translated end is, and whom a reply reaches.
use Rattle.std.specs.Prelude.{ℕ, ◌≡◌, ◌+◌, ◌<◌, ◌≤◌, true, List, [], ◌∷◌, Option, Some, None, is_some, Ok}
use Rattle.wire_core.specs.Members.{In, Each}
use Rattle.wire_core.specs.declared.flow.FlowKey.{FlowKey}
use Rattle.wire_core.specs.Flows.{reverse}
use Rattle.lease_spec.specs.declared.row.Row.{Row}
use Rattle.lease_spec.specs.Table.{row_at}
use Rattle.lease_spec.specs.Holders.{AllLeasable, OwnRanges}
use Rattle.address_text.specs.Fields.{parts}
use Rattle.plain_schedule.specs.declared.connections.Connection.{Connection}
use Rattle.plain_schedule.specs.Packets.{incoming, outgoing}
use Rattle.plain_schedule.specs.Schedule.{Plain, line_step, start, without_end}

-- ---- the moments of a schedule

abbrev pub moments_after : Option (Plain × List ℕ) → (Plain → List Plain) → List Plain
moments_after None more = []
moments_after (Some after) more = more after.0

-- The states that the lines from this number on lead through, the present one first, up to the first bad line.
unfoldable pub moments_from : Plain → ℕ → List (List ℕ) → List Plain
moments_from s n [] = s ∷ []
moments_from s n (line ∷ lines) = s ∷ moments_after (line_step n s line) (λ after. moments_from after (n + 1) lines)

abbrev pub moments_of_lines : List (List ℕ) → List Plain
moments_of_lines [] = []
moments_of_lines (line ∷ lines) = moments_from start 2 lines

-- all states that the text leads through; its first line does nothing
abbrev pub moments : List ℕ → List Plain
moments text = moments_of_lines (parts 10 (without_end text))

-- ---- what holds at one of them

-- The connection was opened, and its lease stands.
pub record IsLive (s : Plain) (c : Connection) : Type 0 where
  pub opened : In c s.opened
  pub stands : is_some (row_at s.table.leases.rows c.n) ≡ true

-- Its machine holds the range of its public end: the row of its lease is that machine's, and the port is one of its
-- eight.
pub record IsThrough (s : Plain) (c : Connection) : Type 0 where
  pub row : Row
  pub there : row_at s.table.leases.rows c.n ≡ Some row
  pub machine : row.machine ≡ c.private.src
  pub vip : row.range.vip ≡ c.public.src
  pub first : row.range.start ≤ c.public.sport
  pub last : c.public.sport ≤ row.range.start + 7

pub record IsSafe (s : Plain) : Type 0 where
  -- no two leases are on one range, and each is on a leasable one
  pub ranges : OwnRanges s.table.leases.rows
  pub leasable : AllLeasable s.table.rules s.table.leases.rows
  -- no two live connections share the five numbers of the packets that leave, nor those of their machine's packets
  pub ends : (c d : Connection) → IsLive s c → IsLive s d → c.public ≡ d.public → c ≡ d
  pub flows : (c d : Connection) → IsLive s c → IsLive s d → c.private ≡ d.private → c ≡ d
  -- a machine's packet takes the live connection that it has
  pub keeps : (c : Connection) → IsLive s c → outgoing s.table s.opened c.private ≡ (s.opened, Ok c)
  -- a live connection goes through a port that its machine holds
  pub holders : (c : Connection) → IsLive s c → IsThrough s c
  -- a reply goes to the machine of a live connection with its five numbers reversed, so to the one that opened it
  pub replies : (c : Connection) (ttl : ℕ) (key : FlowKey)
      → incoming s.table s.opened ttl key ≡ Ok c → IsLive s c × (c.public ≡ reverse key)
  -- and where there is one, it gets the reply, if that may take one more hop
  pub reaches : (c : Connection) (ttl : ℕ) (key : FlowKey) → IsLive s c → c.public ≡ reverse key → 1 < ttl
      → incoming s.table s.opened ttl key ≡ Ok c

-- Whatever the text says, each moment is safe.
abbrev pub IsAlwaysSafe : List ℕ → Type 0
IsAlwaysSafe text = Each IsSafe (moments text)
