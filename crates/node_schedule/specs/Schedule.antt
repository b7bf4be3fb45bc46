-- What the text of a schedule of nodes says, and its transcript.
use Rattle.std.specs.Prelude.{ℕ, List, Option, Some, None, Result, Ok, Err}
use Rattle.config_text.specs.Faults.{Fault}
use Rattle.vip_config.specs.Configs.{config_of}
use Rattle.vip_config.specs.declared.parts.ConfigParts.{ConfigParts}
use Rattle.schedule_text.specs.Schedule.{schedule_of}
use Rattle.schedule_text.specs.declared.event.Event.{Event}
use Rattle.world_spec.specs.Transcript.{transcript_text}
use Rattle.node_schedule.specs.Halves.{halves}

-- Why a text is no schedule of nodes.
pub data NoSchedule : Type 0 where
  -- the first fault of its configuration
  bad_config : Fault → NoSchedule
  -- the number of its first bad line, from 1 behind the configuration; 0 where no line `---` ends the configuration
  bad_line : ℕ → NoSchedule

-- a configuration, and what happens to its nodes
abbrev pub Scheduled : Type 0
Scheduled = ConfigParts × List Event

abbrev pub with_events : ConfigParts → Result (List Event) ℕ → Result Scheduled NoSchedule
with_events cfg (Ok events) = Ok (cfg, events)
with_events cfg (Err n) = Err (bad_line n)

-- the lines behind a configuration, where there are any
abbrev pub under : ConfigParts → Option (List ℕ) → Result Scheduled NoSchedule
under cfg None = Err (bad_line 0)
under cfg (Some lines) = with_events cfg (schedule_of cfg lines)

-- the configuration is tested before all lines
abbrev pub configured : Option (List ℕ) → Result ConfigParts Fault → Result Scheduled NoSchedule
configured lines (Ok cfg) = under cfg lines
configured lines (Err fault) = Err (bad_config fault)

abbrev pub scheduled_by : List ℕ × Option (List ℕ) → Result Scheduled NoSchedule
scheduled_by parts = configured parts.1 (config_of parts.0)

-- The configuration and the events of a text, or why it is no schedule.
abbrev pub scheduled : List ℕ → Result Scheduled NoSchedule
scheduled text = scheduled_by (halves text)

abbrev pub transcribed : Result Scheduled NoSchedule → Result (List ℕ) NoSchedule
transcribed (Ok s) = Ok (transcript_text s.0 s.1)
transcribed (Err why) = Err why

-- The transcript of a text, by the tables of the three roles, or why it is no schedule.
abbrev pub node_lines : List ℕ → Result (List ℕ) NoSchedule
node_lines text = transcribed (scheduled text)
