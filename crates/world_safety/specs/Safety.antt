-- What is safe: whose ranges and connections are, whom replies reach, what becomes of leases; and that at every moment.
use Rattle.std.specs.Prelude.{◌≡◌, ℕ, List, map, take}
use Rattle.wire_core.specs.Members.{In, Each}
use Rattle.wire_core.specs.declared.connection.Conn.{Conn}
use Rattle.vip_config.specs.Rules.{Once}
use Rattle.vip_config.specs.declared.parts.ConfigParts.{ConfigParts}
use Rattle.schedule_text.specs.declared.event.Event.{Event}
use Rattle.world_spec.specs.Events.{expand, world}
use Rattle.world_spec.specs.Transcript.{acts_in, end_from, transcript}
use Rattle.world_spec.specs.Views.{conns, held}
use Rattle.world_spec.specs.World.{World, first_world}
use Rattle.world_spec.specs.declared.views.Held.{Held}
use Rattle.world_laws.specs.Acts.{ActsAreOfLog}
use Rattle.world_laws.specs.Kept.{GrantsAreKept}
use Rattle.world_laws.specs.Replies.{RepliesReachTheirMachine}
use Rattle.world_laws.specs.Safety.{HeldAreLeased, IsHeld, inner_end, outer_end, range_held}

-- ---- one moment

-- A safe world.
pub record IsSafe (cfg : ConfigParts) (w : World) : Type 0 where
  -- no two held ranges, of any agents, are one range
  pub ranges : Once (map range_held (held w))
  -- no two live connections, of any agents, share the five numbers that their remote ends see
  pub outer : Once (map outer_end (conns w))
  -- nor those that their machines see
  pub inner : Once (map inner_end (conns w))
  -- each goes through a port of a range that its machine holds
  pub through : Each (IsHeld (held w)) (conns w)
  -- each held range is Leased in the managers' log, to its machine, and to its agent in the boot in which it runs
  pub leased : HeldAreLeased cfg w
  -- whichever agent gets a reply to a live connection hands it to the machine that opened it, or to nobody
  pub replies : RepliesReachTheirMachine cfg w
  -- a lease that was ever acknowledged was given back by its agent, or its agent has restarted since, or it is Leased
  pub kept : GrantsAreKept cfg w

-- ---- all moments

-- The world after so many basic events of a schedule: a settle is its deliveries, so these are all moments of its run.
abbrev pub moment : ConfigParts → List Event → ℕ → World
moment cfg events n = world cfg (take n (expand cfg events))

-- The run of a schedule is safe at every moment.
abbrev pub IsAlwaysSafe : ConfigParts → List Event → Type 0
IsAlwaysSafe cfg events = (n : ℕ) → IsSafe cfg (moment cfg events n)

-- What the transcript of a schedule shows of the managers is what the commands of their log did, in the log's order.
abbrev pub ShowsTheLog : ConfigParts → List Event → Type 0
ShowsTheLog cfg events = ActsAreOfLog cfg (end_from cfg (first_world cfg) events) (acts_in (transcript cfg events))

-- ---- what it means

-- Where two held ranges are one range, they are one lease of one machine; and where two live connections look alike
-- from outside, or to their machine, they are one connection.
pub record HasOneHolder (w : World) : Type 0 where
  pub ranges : (x y : Held) → In x (held w) → In y (held w) → x.range ≡ y.range → x ≡ y
  pub outer : (c d : Conn) → In c (conns w) → In d (conns w) → outer_end c ≡ outer_end d → c ≡ d
  pub inner : (c d : Conn) → In c (conns w) → In d (conns w) → inner_end c ≡ inner_end d → c ≡ d
