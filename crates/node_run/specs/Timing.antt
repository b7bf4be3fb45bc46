-- When a node ticks.
use Rattle.std.specs.Prelude.{ℕ, ◌-◌, max, Bool, true, false, if◌then◌else◌, nat_le, Option, Some, None}

-- A tick is due at first, and 100 milliseconds after the last one.
abbrev pub is_due : Option ℕ → ℕ → Bool
is_due None now = true
is_due (Some last) now = nat_le 100 (now - last)

-- the time so far, and that of the last tick
pub record Timing : Type 0 where
  pub time : ℕ
  pub tick : Option ℕ

-- the time is the greatest that the clock has told
abbrev pub later : Timing → ℕ → Timing
later t now = record t { time = max t.time now }

-- a tick is done now
abbrev pub ticked : Timing → Timing
ticked t = record t { tick = Some t.time }

-- At what the clock tells, a tick is due or not.
abbrev pub timed : Timing → ℕ → Timing × Bool
timed t now =
    if is_due t.tick (max t.time now) then (ticked (later t now), true) else (later t now, false)
