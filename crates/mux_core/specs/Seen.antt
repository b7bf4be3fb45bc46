-- How contracts see a mux and its parts, and what its answers mean.
use Rattle.std.specs.Prelude.{ℕ, List, None}
use Rattle.mux_core.specs.declared.packets.Goes.{Goes}
use Rattle.mux_core.specs.declared.packets.Goes.TheVariants as goes
use Rattle.mux_spec.specs.declared.verdict.Verdict.{Verdict}
use Rattle.mux_spec.specs.Flows.{Flows}
use Rattle.mux_spec.specs.Mux.{Mux}
use Rattle.mux_spec.specs.Packets.{Outcome, Sends, Drops, Passing, verdict_of, left_in}
use Rattle.vip_config.specs.declared.parts.ConfigParts.{ConfigParts}

-- A mux, and the configuration that it runs under.
pub record Core : Type 0 where
  pub config : ConfigParts
  pub lists : Mux

-- the same mux with these lists
abbrev pub with_lists : Core → Mux → Core
with_lists core lists = record core { lists = lists }

-- ---- flows

-- The flows of a mux, and its time.
pub record Timed : Type 0 where
  pub flows : Flows
  pub time : ℕ

-- the flows after a packet, at the same time
abbrev pub timed : ℕ → Passing → Timed × Outcome
timed time x = (record { flows = x.0; time = time }, x.1)

-- ---- packets

-- where a packet goes, with the bytes that the buffer holds then
abbrev pub outcome_of : Goes → List ℕ → Outcome
outcome_of (goes.To machine) bytes = Sends machine bytes None
outcome_of (goes.Drops cause) bytes = Drops cause

-- What becomes of a packet, as it is answered: the flows alone change, and the buffer holds the wrapped packet, or what
-- stood there.
abbrev pub answered : Core → List ℕ → Passing → Core × (Verdict × List ℕ)
answered core stood x =
    (with_lists core (record core.lists { flows = x.0 }), (verdict_of core.config x.1, left_in stood x.1))
