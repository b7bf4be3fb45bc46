-- A node over its disk, whatever decides in it (C): what an input, a crash and an opening make of it.
use Rattle.std.specs.Prelude.{ℕ, ◌+◌, Bool, true, false, if◌then◌else◌, List, [], ◌++◌, Option, Some, None, is_some}
use Rattle.wire_core.specs.declared.entry.Entry.{Entry}
use Rattle.wire_core.specs.declared.node.NodeId.{NodeId}
use Rattle.wire_core.specs.declared.step.Step.{Step}
use Rattle.vip_config.specs.declared.parts.ConfigParts.{ConfigParts}
use Rattle.node_spec.specs.Turns.{Input}
use Rattle.world_spec.specs.Acts.{log_length}
use Rattle.world_spec.specs.Nodes.{booted, listed}
use Rattle.world_nodes.specs.declared.stepped.Stepped.{Stepped}

-- A node: the entries of its disk, how many values these learn, and its core while it is up.
pub record SiteState (C : Type 0) : Type 0 where
  pub entries : List Entry
  pub learned : ℕ
  pub up : Option C

-- what decides: an input's new core with its step, and the entry that it writes
abbrev pub Deciding : Type 0 → Type 0
Deciding C = C → Input → (C × Step) × Option Entry

abbrev pub deciding : {C : Type 0} → (C → Input → C × Step) → (C → Input → Option Entry) → Deciding C
deciding step written core i = (step core i, written core i)

-- the core of a node with these entries
abbrev pub Opening : Type 0 → Type 0
Opening C = ConfigParts → NodeId → List Entry → C

-- ---- an input

-- what a step tells, where the log then has so many values
abbrev pub told_by : ℕ → Step → Stepped
told_by learned t = record { learned = learned; acts = t.acts; notes = t.notes; sends = t.sends }

-- its entry joins the disk
abbrev pub stepped : {C : Type 0} → SiteState C → (C × Step) × Option Entry → SiteState C
stepped s t = record {
  entries = s.entries ++ listed t.1;
  learned = s.learned + log_length (listed t.1);
  up = Some t.0.0;
}

abbrev pub step_by : {C : Type 0} → Deciding C → SiteState C → Input → Option C → SiteState C × Option Stepped
step_by step s i None = (s, None)
step_by step s i (Some core) =
    (stepped s (step core i), Some (told_by (stepped s (step core i)).learned (step core i).0.1))

-- An input to a node, and what its step tells. None where it is down.
abbrev pub site_step : {C : Type 0} → Deciding C → SiteState C → Input → SiteState C × Option Stepped
site_step step s i = step_by step s i s.up

-- ---- a crash

-- the node as it was, but down
abbrev pub downed : {C : Type 0} → SiteState C → SiteState C
downed s = record s { up = None }

-- It goes down, and its disk stays; and whether it was up.
abbrev pub site_crash : {C : Type 0} → SiteState C → SiteState C × Bool
site_crash s = (downed s, is_some s.up)

-- ---- an opening

-- the node with one boot more, open
abbrev pub opened_as : {C : Type 0} → C → SiteState C → List Entry → SiteState C
opened_as core s entries = record s { entries = entries; up = Some core }

abbrev pub restart_by : {C : Type 0} → Opening C → ConfigParts → NodeId → SiteState C → Option C → SiteState C × Bool
restart_by recover cfg x s (Some core) = (s, false)
restart_by recover cfg x s None = (opened_as (recover cfg x (booted x s.entries)) s (booted x s.entries), true)

-- It opens its disk; and whether it was down.
abbrev pub site_restart : {C : Type 0} → Opening C → ConfigParts → NodeId → SiteState C → SiteState C × Bool
site_restart recover cfg x s = restart_by recover cfg x s s.up

-- a node opened on an empty disk
abbrev pub first_site : {C : Type 0} → Opening C → ConfigParts → NodeId → SiteState C
first_site recover cfg x = record { entries = booted x []; learned = 0; up = Some (recover cfg x (booted x [])) }

-- ---- a crash within

-- nothing was done
abbrev pub told_none : ℕ → Stepped
told_none learned = record { learned = learned; acts = []; notes = []; sends = [] }

abbrev pub lost_by : {C : Type 0} → SiteState C → Option C → Option Stepped
lost_by s None = None
lost_by s (Some core) = Some (told_none s.learned)

-- It goes down before the step.
abbrev pub site_lose : {C : Type 0} → SiteState C → SiteState C × Option Stepped
site_lose s = (downed s, lost_by s s.up)

-- A step that a crash cuts short: its entry is kept, or it is as if there had been no step.
abbrev pub site_cut : {C : Type 0} → Deciding C → SiteState C → Input → Bool → SiteState C × Option Stepped
site_cut step s i keep =
    if keep then (downed (site_step step s i).0, (site_step step s i).1) else site_lose s

abbrev pub cut_restart_by : {C : Type 0} → Opening C → ConfigParts → NodeId → SiteState C → Bool → Option C
    → SiteState C × Bool
cut_restart_by recover cfg x s keep (Some core) = (s, false)
cut_restart_by recover cfg x s keep None = ((if keep then downed (site_restart recover cfg x s).0 else s), true)

-- An opening that a crash cuts short: its boot is kept or lost; and whether the node was down.
abbrev pub site_cut_restart : {C : Type 0} → Opening C → ConfigParts → NodeId → SiteState C → Bool → SiteState C × Bool
site_cut_restart recover cfg x s keep = cut_restart_by recover cfg x s keep s.up
