-- What keeps the two lists.
use Rattle.std.specs.Prelude.{◌≡◌, ℕ, Bool, false, Option, Some, None}
use Rattle.wire_core.specs.declared.flow.FlowKey.{FlowKey}
use Rattle.mux_spec.specs.declared.flow.Seen.{Seen}
use Rattle.mux_spec.specs.Flows.{is_idle, most_untrusted, most_trusted}

-- The capacities are the most of each list.
pub record HasLimits (first second : ℕ) : Type 0 where
  pub untrusted : first ≡ most_untrusted
  pub trusted : second ≡ most_trusted

-- the flow, if there is one, is idle
abbrev pub is_one_idle : ℕ → ℕ → Option (FlowKey × Seen) → Bool
is_one_idle now idle None = false
is_one_idle now idle (Some f) = is_idle now idle f.1
