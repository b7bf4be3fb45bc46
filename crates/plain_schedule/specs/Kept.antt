-- What every line of a plain schedule keeps.
use Rattle.std.specs.Prelude.{◌≡◌, ◌<◌, ◌≤◌, true, List, Some, is_some}
use Rattle.wire_core.specs.Members.{In, Each}
use Rattle.lease_spec.specs.declared.row.Row.{Row}
use Rattle.lease_spec.specs.Table.{row_at, rule_of}
use Rattle.lease_spec.specs.Holders.{OwnRanges, OwnNumbers, AllLeasable, AllBelow}
use Rattle.port_leases.specs.TableState.{TableState}
use Rattle.plain_schedule.specs.declared.connections.Connection.{Connection}
use Rattle.plain_schedule.specs.declared.full_leases.RemoteEnd.{RemoteEnd}
use Rattle.plain_schedule.specs.declared.full_leases.FullLeases.{FullLeases}
use Rattle.plain_schedule.specs.Connections.{has_private, has_public, newest}
use Rattle.plain_schedule.specs.Schedule.{Plain}
use Rattle.plain_schedule.specs.Safety.{IsThrough}
use Rattle.plain_schedule.specs.FullLeases.{AreFull, bound, plain, up_to}

-- the connection's lease stands
abbrev pub Stands : List Row → Connection → Type 0
Stands rows c = is_some (row_at rows c.n) ≡ true

pub record Sound (s : Plain) : Type 0 where
  -- leases have ranges and numbers of their own, on ports that may be leased
  pub ranges : OwnRanges s.table.leases.rows
  pub leasable : AllLeasable s.table.rules s.table.leases.rows
  pub bounds : Each (λ rule. rule.high ≤ 65535) s.table.rules.vips
  pub numbers : OwnNumbers s.table.leases.rows
  pub below : AllBelow (bound s.table) s.table.leases.rows
  -- connections were opened through leases that there were, by machines that are known
  pub old : Each (λ c. c.n < bound s.table) s.opened
  pub known : Each (λ c. is_some (rule_of s.table.rules c.private.src) ≡ true) s.opened
  -- of the connections with one key only the newest may stand
  pub public : (c : Connection) → In c s.opened → Stands s.table.leases.rows c
      → newest (has_public c.public) s.opened ≡ Some c
  pub private : (c : Connection) → In c s.opened → Stands s.table.leases.rows c
      → newest (has_private c.private) s.opened ≡ Some c
  pub holders : (c : Connection) → In c s.opened → Stands s.table.leases.rows c → IsThrough s c

unfoldable pub IsSound : Plain → Type 0
IsSound s = Sound s

-- the state is sound, and leases that are taken for full are full
pub record IsKept (s : Plain) (marks : FullLeases) : Type 0 where
  pub sound : IsSound s
  pub full : (e : RemoteEnd) → AreFull s e (up_to marks e)

-- What is kept before is kept after, whatever connections there are.
pub record Keeps (before after : TableState) : Type 0 where
  pub on : (opened : List Connection) (marks : FullLeases)
      → IsKept (plain before opened) marks → IsKept (plain after opened) marks
